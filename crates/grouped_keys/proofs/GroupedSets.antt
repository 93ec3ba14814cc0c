-- Which keys the groups have where one set was changed.
use Rattle.std.proofs.Common.{◌≡◌, Bool, true, false, cond, not, ◌&&◌, ◌||◌, List, [], length, Option, Some, None, Ordering, refl, sym, ap, ◌∙◌}
use Rattle.std.proofs.lemmas.List.{nil_from_length}
use Rattle.std.proofs.lemmas.Map.Steps.{set_value_same}
use Rattle.std.specs.Ordering.{eq_by_cmp}
use Rattle.std.specs.Cmp.{IsTotalOrder, eq_by_cmp_equiv}
use Rattle.std.specs.Map.{lookup, set_value}
use Rattle.std.specs.HashMap.Eq.{lookup_congr}
use Rattle.std.specs.BTreeMap.{is_at}
use Rattle.std.specs.BTreeSet.{BTreeSet, contains}
use Rattle.std.proofs.Math.Bool.{or-false}
use Rattle.mlb_base.proofs.Bools.{or-cond, and_not-cond}
use Rattle.grouped_keys.specs.Grouped.{is_in, in_group}

module _ {K : Type 0} (S : K → K → Ordering) (key k : K) where
  put_by : (here : Bool) (found : Option (BTreeSet K)) (before after : BTreeSet K) → (here ≡ true → found ≡ Some before)
      → contains S after k ≡ cond (is_at (S key) k) true (contains S before k)
      → is_in S (cond here (Some after) found) k ≡ (here && is_at (S key) k || is_in S found k)
  put_by true found before after there is = rw (there refl) (is ∙ sym (or-cond (is_at (S key) k) (contains S before k)))
  put_by false found before after there is = refl

  new_by : (here : Bool) (found : Option (BTreeSet K)) (after : BTreeSet K) → (here ≡ true → found ≡ None)
      → contains S after k ≡ is_at (S key) k → is_in S (cond here (Some after) found) k ≡ (here && is_at (S key) k || is_in S found k)
  new_by true found after there is = rw (there refl) (is ∙ sym (or-false (is_at (S key) k)))
  new_by false found after there is = refl

  taken_by : (here : Bool) (found : Option (BTreeSet K)) (before after : BTreeSet K) → (here ≡ true → found ≡ Some before)
      → contains S after k ≡ cond (is_at (S key) k) false (contains S before k)
      → is_in S (cond here (Some after) found) k ≡ (not (here && is_at (S key) k) && is_in S found k)
  taken_by true found before after there is = rw (there refl) (is ∙ sym (and_not-cond (is_at (S key) k) (contains S before k)))
  taken_by false found before after there is = refl

  dropped_by : (here : Bool) (found : Option (BTreeSet K)) (after : BTreeSet K) → after.keys ≡ []
      → is_in S (cond here None (cond here (Some after) found)) k ≡ is_in S (cond here (Some after) found) k
  dropped_by true found after empty = rw empty refl
  dropped_by false found after empty = refl

module _ {G K : Type 0} {R : G → G → Ordering} (o : IsTotalOrder R) (S : K → K → Ordering) (old : List (G × BTreeSet K)) (group : G) (key : K) where
  -- a group that is equal to this one has what this one has
  alike : (g : G) (found : Option (BTreeSet K)) → lookup (is_at (R group)) old ≡ found → is_at (R group) g ≡ true → lookup (is_at (R g)) old ≡ found
  alike g found is same = sym (lookup_congr (eq_by_cmp R) (eq_by_cmp_equiv o).congr old group g same) ∙ is

  module _ (after : BTreeSet K) (new : List (G × BTreeSet K))
      (updates : (q : G) → lookup (is_at (R q)) new ≡ cond (is_at (R group) q) (Some after) (lookup (is_at (R q)) old)) where
    -- the key was put in the set that the group had
    pub key_put : (before : BTreeSet K) → lookup (is_at (R group)) old ≡ Some before
        → ((k : K) → contains S after k ≡ cond (is_at (S key) k) true (contains S before k))
        → in_group R S new ≡ (λ g k. is_at (R group) g && is_at (S key) k || in_group R S old g k)
    key_put before there is =
        λ i g k. (ap (λ found. is_in S found k) (updates g)
        ∙ put_by S key k (is_at (R group) g) (lookup (is_at (R g)) old) before after (alike g (Some before) there) (is k)) i

    -- the group had no set, and has the key's now
    pub group_put : lookup (is_at (R group)) old ≡ None → contains S after ≡ (λ k. is_at (S key) k)
        → in_group R S new ≡ (λ g k. is_at (R group) g && is_at (S key) k || in_group R S old g k)
    group_put none is =
        λ i g k. (ap (λ found. is_in S found k) (updates g)
        ∙ new_by S key k (is_at (R group) g) (lookup (is_at (R g)) old) after (alike g None none) (ap (λ f. f k) is)) i

    -- the key was taken out of the group's set
    pub key_taken : (before : BTreeSet K) → lookup (is_at (R group)) old ≡ Some before
        → ((k : K) → contains S after k ≡ cond (is_at (S key) k) false (contains S before k))
        → in_group R S new ≡ (λ g k. not (is_at (R group) g && is_at (S key) k) && in_group R S old g k)
    key_taken before there is =
        λ i g k. (ap (λ found. is_in S found k) (updates g)
        ∙ taken_by S key k (is_at (R group) g) (lookup (is_at (R g)) old) before after (alike g (Some before) there) (is k)) i

    -- a set that is empty then was dropped
    pub empty_dropped : length after.keys ≡ 0 → (left : List (G × BTreeSet K))
        → ((q : G) → lookup (is_at (R q)) left ≡ cond (is_at (R group) q) None (lookup (is_at (R q)) new))
        → in_group R S left ≡ in_group R S new
    empty_dropped empty left drops =
        λ i g k. (ap (λ found. is_in S found k) (drops g)
        ∙ ap (λ found. is_in S (cond (is_at (R group) g) None found) k) (updates g)
        ∙ dropped_by S key k (is_at (R group) g) (lookup (is_at (R g)) old) after (nil_from_length after.keys empty)
        ∙ ap (λ found. is_in S found k) (sym (updates g))) i

-- a set that couldn't take the key in is written back as it was
pub kept_back : {G K : Type 0} (test : G → Bool) (old new : List (G × BTreeSet K)) (before after : BTreeSet K) → lookup test old ≡ Some before
    → after.keys ≡ before.keys → new ≡ set_value test old after → new ≡ old
kept_back test old new before after there keys is =
    let same : after ≡ before = λ i. record { keys = keys i } in
    is ∙ ap (set_value test old) same ∙ set_value_same test old before there
