-- The numbers of groups where one was given or taken back.
use Rattle.std.proofs.Common.{◌≡◌, ℕ, ◌+◌, ◌<◌, Bool, true, false, cond, List, Option, Some, None, refl, sym, ap, ◌∙◌, arith, inl, inr}
use Rattle.std.proofs.lemmas.Map.Text.{is_eq-slice_cmp}
use Rattle.std.proofs.lemmas.Option.{same_Some}
use Rattle.std.proofs.lemmas.Slice.Eq.{bytes_eq-Decides}
use Rattle.std.specs.BTreeMap.{BTreeMap, is_at, Updates}
use Rattle.std.specs.Cmp.Lexicographic.{slice_cmp}
use Rattle.std.specs.Map.{lookup}
use Rattle.std.specs.Option.{option_and_then}
use Rattle.std.specs.Ordering.{nat_cmp}
use Rattle.std.specs.Str.{bytes_eq}
use Rattle.sharing_terms.specs.declared.terms.Terms.{Terms}
use Rattle.claim_index.specs.GroupNumbers.{GroupsValue, AreNumbered, AreMore, IsNumbered, number_of, number_for}
use Rattle.claim_index.specs.SharingGroups.{group_of}

-- what a map has for a text is found by comparing bytes
pub looked-up : (group : List ℕ) (entries : List (List ℕ × ℕ)) → lookup (is_at (slice_cmp nat_cmp group)) entries ≡ lookup (bytes_eq group) entries
looked-up group entries = ap (λ (test : List ℕ → Bool). lookup test entries) (λ i s. is_eq-slice_cmp group s i)

-- the number for terms is that of their group
pub number-of-group : (groups : GroupsValue) (t : Terms) (group : List ℕ) → Some group ≡ group_of t → number_for groups t ≡ number_of groups group
number-of-group groups t group is = ap (λ (g : Option (List ℕ)). option_and_then (number_of groups) g) (sym is)

abbrev pub groups_in : BTreeMap (List ℕ) ℕ → ℕ → GroupsValue
groups_in m next = record { numbers = m.entries; next = next }

-- the group has this number after, or none, and each other group what it had
abbrev Puts : List ℕ → Option ℕ → GroupsValue → GroupsValue → Type 0
Puts group number before after = (g : List ℕ) → number_of after g ≡ cond (bytes_eq group g) number (number_of before g)

pub puts-updated : (group : List ℕ) (number : Option ℕ) (m n : BTreeMap (List ℕ) ℕ) (next after : ℕ) → Updates (slice_cmp nat_cmp) m n group number
    → Puts group number (groups_in m next) (groups_in n after)
puts-updated group number m n next after updates g =
    sym (looked-up g n.entries)
    ∙ updates.0 g
    ∙ ap (λ (b : Bool). cond b number (lookup (is_at (slice_cmp nat_cmp g)) m.entries)) (is_eq-slice_cmp group g)
    ∙ ap (λ (o : Option ℕ). cond (bytes_eq group g) number o) (looked-up g m.entries)

module _ (group : List ℕ) (before after : GroupsValue) where
  -- the group got the next number
  module _ (none : number_of before group ≡ None) (are : AreNumbered before) (next : after.next ≡ before.next + 1)
      (puts : Puts group (Some before.next) before after) where
    below-by : (b : Bool) (g : List ℕ) (n : ℕ) → cond b (Some before.next) (number_of before g) ≡ Some n → n < after.next
    below-by true g n e = let is : before.next ≡ n = same_Some before.next n e in omega (arith, is, next)
    below-by false g n e = let below : n < before.next = are.below g n e in omega (arith, below, next)

    never-next : (g : List ℕ) → number_of before g ≡ Some before.next → ⊥
    never-next g e = let below : before.next < before.next = are.below g before.next e in omega (arith, below)

    apart-by : (b d : Bool) (x y : List ℕ) (n : ℕ) → bytes_eq group x ≡ b → bytes_eq group y ≡ d
        → cond b (Some before.next) (number_of before x) ≡ Some n → cond d (Some before.next) (number_of before y) ≡ Some n → x ≡ y
    apart-by true true x y n here there e f = sym ((bytes_eq-Decides group x).0 here) ∙ (bytes_eq-Decides group y).0 there
    apart-by true false x y n here there e f = absurd (never-next y (f ∙ sym e))
    apart-by false true x y n here there e f = absurd (never-next x (e ∙ sym f))
    apart-by false false x y n here there e f = are.apart x y n e f

    pub given-numbered : AreNumbered after
    given-numbered = record {
      below = λ g n e. below-by (bytes_eq group g) g n (sym (puts g) ∙ e);
      apart = λ x y n e f. apart-by (bytes_eq group x) (bytes_eq group y) x y n refl refl (sym (puts x) ∙ e) (sym (puts y) ∙ f);
    }

    pub given-now : number_of after group ≡ Some before.next
    given-now =
        puts group ∙ ap (λ (b : Bool). cond b (Some before.next) (number_of before group)) ((bytes_eq-Decides group group).1 refl)

    each-by : (b : Bool) (g : List ℕ) → bytes_eq group g ≡ b → number_of after g ≡ cond b (Some before.next) (number_of before g) → IsNumbered before after g
    each-by true g e is =
        let same : group ≡ g = (bytes_eq-Decides group g).0 e in
        let nothing : number_of before g ≡ None = ap (λ (x : List ℕ). number_of before x) (sym same) ∙ none in
        inr (nothing, (before.next, is, omega arith))
    each-by false g e is = inl is

    pub given-more : AreMore before after
    given-more = record { each = λ g. each-by (bytes_eq group g) g refl (puts g); next = omega (arith, next) }

  -- the group's number was taken back
  module _ (are : AreNumbered before) (next : after.next ≡ before.next) (puts : Puts group None before after) where
    had-by : (b : Bool) (found : Option ℕ) (n : ℕ) → cond b None found ≡ Some n → found ≡ Some n
    had-by true found n e = absurd (cc)
    had-by false found n e = e

    had : (g : List ℕ) (n : ℕ) → number_of after g ≡ Some n → number_of before g ≡ Some n
    had g n e = had-by (bytes_eq group g) (number_of before g) n (sym (puts g) ∙ e)

    pub forgotten-numbered : AreNumbered after
    forgotten-numbered = record {
      below = λ g n e. let below : n < before.next = are.below g n (had g n e) in omega (arith, below, next);
      apart = λ x y n e f. are.apart x y n (had x n e) (had y n f);
    }
