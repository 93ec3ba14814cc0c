-- What a node announces no more and from now on, told of the addresses at which that was looked at.
use Rattle.std.proofs.Common.{◌≡◌, ℕ, Bool, true, false, cond, not, ◌&&◌, ◌||◌, List, [], ◌∷◌, ◌++◌, filter}
use Rattle.std.proofs.Common.{Contains, Option, Some, None, Result, Ok, Err, refl, sym, ap, subst, ◌∙◌}
use Rattle.std.proofs.lemmas.Bool.{false≢true}
use Rattle.std.proofs.lemmas.List.Kept.{IsStrictlySortedBy-filter}
use Rattle.std.proofs.lemmas.Map.Views.{any-filter_same}
use Rattle.std.specs.Prelude.{IfOk}
use Rattle.std.specs.BTreeMap.{is_at}
use Rattle.std.specs.List.{list_any}
use Rattle.std.specs.List.Sorted.{IsStrictlySortedBy}
use Rattle.std.proofs.Math.Bool.{or-false}
use Rattle.ip_ranges.specs.Values.{AddressValue, same_address, has_address}
use Rattle.ip_ranges.proofs.AddressLaws.{same_address-is, has_address-from}
use Rattle.speaker_view.specs.ViewValue.{ViewValue}
use Rattle.speaker_view.proofs.AddressOrder.{ascending-distinct, ascending-same, found-has, has-distinct}
use Rattle.l2_elect.specs.Election.{announcer_of, announces_of, is_named}
use Rattle.l2_elect.specs.Kept.{AreKeptBut, AreKeptFor, kept_announcer}
use Rattle.announced_set.specs.Announced.{address_cmp, announced_by}
use Rattle.announced_set.specs.Changes.{AreComeSince, AreWithdrawn, difference, kept_among, is_kept_announcer}
use Rattle.announced_set.proofs.Listed.{all_are_announced, has-announced}

has-difference : (addresses others : List AddressValue) (a : AddressValue)
    → has_address (difference addresses others) a ≡ (not (has_address others a) && has_address addresses a)
has-difference addresses others a =
    any-filter_same (same_address a) (λ x. not (has_address others x)) (not (has_address others a))
    (λ x e. ap (λ y. not (has_address others y)) (sym (same_address-is a x e))) addresses

-- ---- the addresses at which the announcers were looked at
has-held : (entries : List (AddressValue × List ℕ)) (node : List ℕ) (addresses : List AddressValue) (a : AddressValue)
    → has_address (kept_among entries node addresses) a ≡ (is_kept_announcer entries node a && has_address addresses a)
has-held entries node addresses a =
    has-distinct (filter (is_kept_announcer entries node) addresses) a
    ∙ any-filter_same (same_address a) (is_kept_announcer entries node) (is_kept_announcer entries node a)
    (λ k e. ap (is_kept_announcer entries node) (sym (same_address-is a k e)))
    addresses

-- `t`, it was looked at; `p`, it is one of the first; `q`, of the others
differs_by : (t p q : Bool) → (t ≡ false → p ≡ q) → (not (q && t) && (p && t)) ≡ (not q && p)
differs_by true true true same = refl
differs_by true true false same = refl
differs_by true false true same = refl
differs_by true false false same = refl
differs_by false true true same = refl
differs_by false true false same = sym (same refl)
differs_by false false true same = refl
differs_by false false false same = refl

module _ (node : List ℕ) (addresses : List AddressValue) where
  -- the difference of two sets that were looked at is that of the two whole ones, where these are the same elsewhere
  differs : (one other : List (AddressValue × List ℕ)) (v w : ViewValue) → ((a : AddressValue) → is_kept_announcer one node a ≡ announces_of v node a)
      → ((a : AddressValue) → is_kept_announcer other node a ≡ announces_of w node a)
      → ((a : AddressValue) → has_address addresses a ≡ false → announces_of v node a ≡ announces_of w node a)
      → difference (kept_among one node addresses) (kept_among other node addresses) ≡ difference (announced_by v node) (announced_by w node)
  differs one other v w first second same =
      let ours = kept_among one node addresses in
      let theirs = kept_among other node addresses in
      ascending-same (difference ours theirs) (difference (announced_by v node) (announced_by w node))
      (IsStrictlySortedBy-filter address_cmp (λ a. not (has_address theirs a)) ours (ascending-distinct (filter (is_kept_announcer one node) addresses)))
      (IsStrictlySortedBy-filter address_cmp (λ a. not (has_address (announced_by w node) a)) (announced_by v node) (all_are_announced v node).ascend)
      (λ a.
      has-difference ours theirs a
      ∙ (λ i. not (has-held other node addresses a i) && has-held one node addresses a i)
      ∙ (λ i. not (second a i && has_address addresses a) && (first a i && has_address addresses a))
      ∙ differs_by (has_address addresses a) (announces_of v node a) (announces_of w node a) (same a)
      ∙ (λ i. not (sym (has-announced w node a) i) && sym (has-announced v node a) i)
      ∙ sym (has-difference (announced_by v node) (announced_by w node) a))

  module _ (old new : List (AddressValue × List ℕ)) (v w : ViewValue) (was : AreKeptFor old v) (is : AreKeptFor new w) (but : AreKeptBut addresses old w) where
    held-announced : (entries : List (AddressValue × List ℕ)) (u : ViewValue) → AreKeptFor entries u → (a : AddressValue)
        → is_kept_announcer entries node a ≡ announces_of u node a
    held-announced entries u kept a = ap (is_named node) (kept.each a)

    same-elsewhere : (a : AddressValue) → has_address addresses a ≡ false → announces_of v node a ≡ announces_of w node a
    same-elsewhere a e = ap (is_named node) (sym (was.each a) ∙ but a (λ there. false≢true (sym e ∙ has_address-from addresses a there)))

    pub withdrawn-told : difference (kept_among old node addresses) (kept_among new node addresses) ≡ difference (announced_by v node) (announced_by w node)
    withdrawn-told = differs old new v w (held-announced old v was) (held-announced new w is) same-elsewhere

    pub announced-told : difference (kept_among new node addresses) (kept_among old node addresses) ≡ difference (announced_by w node) (announced_by v node)
    announced-told = differs new old w v (held-announced new w is) (held-announced old v was) (λ a e. sym (same-elsewhere a e))

-- what a call found in the two sets is told of whichever view the first announcers were of
module _ {T E : Type 0} (found : T → List AddressValue) (r : Result T E) (node : List ℕ) (addresses : List AddressValue)
    (old new : List (AddressValue × List ℕ)) (w : ViewValue) (is : AreKeptFor new w)
    (but : AreKeptBut addresses old w) (before after : List AddressValue) (was : before ≡ kept_among old node addresses)
    (now : after ≡ kept_among new node addresses) where
  if_ok : {P Q : T → Type 0} (s : Result T E) → ((x : T) → P x → Q x) → IfOk s P → IfOk s Q
  if_ok (Ok x) h p = h x p
  if_ok (Err e) h p = tt

  pub told-withdrawn : IfOk r (λ x. found x ≡ difference before after) → IfOk r (λ x. AreWithdrawn old w node (found x))
  told-withdrawn = if_ok r (λ x e v kept. e ∙ (λ i. difference (was i) (now i)) ∙ withdrawn-told node addresses old new v w kept is but)

  pub told-announced : IfOk r (λ x. found x ≡ difference after before) → IfOk r (λ x. AreComeSince old w node (found x))
  told-announced = if_ok r (λ x e v kept. e ∙ (λ i. difference (now i) (was i)) ∙ announced-told node addresses old new v w kept is but)

-- ---- a difference, taken address by address
one_of : (f s r : Bool) → (cond s true f || r) ≡ (f || (s || r))
one_of true true r = refl
one_of true false r = refl
one_of false true r = refl
one_of false false r = refl

-- one more of the addresses that are left was found
pub found-more : (found new : List AddressValue) (address : AddressValue) (rest all : List AddressValue)
    → ((a : AddressValue) → has_address new a ≡ cond (same_address a address) true (has_address found a))
    → ((a : AddressValue) → (has_address found a || has_address (address ∷ rest) a) ≡ has_address all a)
    → (a : AddressValue) → (has_address new a || has_address rest a) ≡ has_address all a
found-more found new address rest all put so_far a =
    ap (λ b. b || has_address rest a) (put a) ∙ one_of (has_address found a) (same_address a address) (has_address rest a) ∙ so_far a

-- all of them were found
pub found-all : (addresses others found left : List AddressValue) → left ≡ []
    → ((a : AddressValue) → (has_address found a || has_address left a) ≡ has_address (filter (λ x. not (list_any (is_at (address_cmp x)) others)) addresses) a)
    → IsStrictlySortedBy address_cmp addresses → IsStrictlySortedBy address_cmp found → found ≡ difference addresses others
found-all addresses others found left none each was ascend =
    ascending-same found (difference addresses others) ascend (IsStrictlySortedBy-filter address_cmp (λ a. not (has_address others a)) addresses was) (λ a.
    sym (or-false (has_address found a)) ∙ ap (λ l. has_address found a || has_address l a) (sym none) ∙ each a
    ∙ (λ i. has_address (filter (λ x. not (found-has others x i)) addresses) a))
