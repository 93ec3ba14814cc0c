-- Two tables of the same routes are one.
use Rattle.std.proofs.Common.{◌≡◌, ◌↔◌, ℕ, ◌≤◌, Bool, true, false, cond, ◌==◌, List, [], ◌∷◌, Option, Some}
use Rattle.std.proofs.Common.{None, Ordering, Less, Greater, inl, inr, refl, sym, ◌∙◌, ap, ap₂, subst, arith}
use Rattle.std.proofs.lemmas.Cmp.{nat_cmp_total}
use Rattle.std.specs.Cmp.{IsTotalOrder}
use Rattle.std.specs.List.{AllByRecursion, list_all}
use Rattle.std.specs.List.Sorted.{IsStrictlySortedBy}
use Rattle.std.specs.Map.{keys_of}
use Rattle.std.specs.Ordering.{ordering_reverse}
use Rattle.std.proofs.lemmas.Bool.{and_parts}
use Rattle.ip_ranges.specs.Values.{PrefixValue}
use Rattle.large_numbers.specs.declared.numbers.LargeCommunity.{LargeCommunity}
use Rattle.mlb_base.specs.Items.{IsIn}
use Rattle.pool_config.specs.declared.compiled.CompiledPeer.{CompiledPeer}
use Rattle.pool_config.proofs.CommunitySets.{large_cmp-total}
use Rattle.speaker_view.specs.ViewValue.{ViewValue}
use Rattle.bgp_updates.specs.declared.route.Terms.{Terms}
use Rattle.bgp_updates.specs.Tables.{Ascend, before}
use Rattle.bgp_updates.proofs.Halves.{before-before}
use Rattle.bgp_updates.proofs.ReceivedLaws.{before-other, same_prefix-itself}
use Rattle.bgp_routes.specs.Determined.{Ascends, IsTableOf, TablesAreDetermined}
use Rattle.bgp_routes.specs.Laws.{Contributes, HasCommunity, IsGreatest, IsRoute}

-- ---- lists that ascend, with the same items
module _ {A : Type 0} (Before : A → A → Type 0) (apart : (x y : A) → Before x y → Before y x → ⊥) where
  abbrev Ascending : List A → Type 0
  Ascending [] = Unit {0}
  Ascending (x ∷ xs) = AllByRecursion (Before x) xs × Ascending xs

  later : (x y : A) (xs : List A) → AllByRecursion (Before x) xs → IsIn xs y → Before x y
  later x y [] all none = absurd none
  later x y (z ∷ xs) all (inl here) = subst (Before x) here all.0
  later x y (z ∷ xs) all (inr there) = later x y xs all.1 there

  -- an item after the head isn't the head
  behind : (x y : A) (xs ys : List A) → AllByRecursion (Before x) xs → IsIn xs y → IsIn (x ∷ ys) y → IsIn ys y
  behind x y xs ys all there (inl here) =
      let first : Before x y = later x y xs all there in
      absurd (apart x y first (subst (λ z. Before z x) here (subst (λ z. Before x z) (sym here) first)))
  behind x y xs ys all there (inr among) = among

  heads : (x y : A) (xs ys : List A) → AllByRecursion (Before x) xs → AllByRecursion (Before y) ys → IsIn (y ∷ ys) x → IsIn (x ∷ xs) y → x ≡ y
  heads x y xs ys first second (inl here) other = sym here
  heads x y xs ys first second (inr there) (inl here) = here
  heads x y xs ys first second (inr there) (inr among) = absurd (apart x y (later x y xs first among) (later y x ys second there))

  pub same-items : (xs ys : List A) → Ascending xs → Ascending ys → ((x : A) → IsIn xs x → IsIn ys x) → ((y : A) → IsIn ys y → IsIn xs y) → xs ≡ ys
  same-items [] [] first second into back = refl
  same-items [] (y ∷ ys) first second into back = absurd (back y (inl refl))
  same-items (x ∷ xs) [] first second into back = absurd (into x (inl refl))
  same-items (x ∷ xs) (y ∷ ys) first second into back =
      let one : x ≡ y = heads x y xs ys first.0 second.0 (into x (inl refl)) (back y (inl refl)) in
      ap₂ (λ z zs. z ∷ zs) one (
      same-items xs ys first.1 second.1
      (λ z there. behind x z xs ys first.0 there (subst (λ w. IsIn (w ∷ ys) z) (sym one) (into z (inr there))))
      (λ z there. behind y z ys xs second.0 there (subst (λ w. IsIn (w ∷ xs) z) one (back z (inr there)))))

-- ---- keys
module _ {K : Type 0} {R : K → K → Ordering} (o : IsTotalOrder R) where
  abbrev Lower : K → K → Type 0
  Lower x y = R x y ≡ Less

  lower-apart : (x y : K) → Lower x y → Lower y x → ⊥
  lower-apart x y first second = let turned : Less ≡ Greater = sym first ∙ o.antisymm x y ∙ ap ordering_reverse second in absurd (cc)

  keys-ascend : (keys : List K) → IsStrictlySortedBy R keys → Ascending Lower lower-apart keys
  unfolding IsStrictlySortedBy
  keys-ascend [] sorted = tt
  keys-ascend (k ∷ keys) sorted = (sorted.0, keys-ascend keys sorted.1)

  pub same-keys-ascending : (a b : List K) → IsStrictlySortedBy R a → IsStrictlySortedBy R b → ((k : K) → IsIn a k → IsIn b k) → ((k : K) → IsIn b k → IsIn a k)
      → a ≡ b
  same-keys-ascending a b first second into back = same-items Lower lower-apart a b (keys-ascend a first) (keys-ascend b second) into back

-- ---- routes
abbrev pub Earlier : PrefixValue × Terms → PrefixValue × Terms → Type 0
Earlier r s = before r.0 s.0 ≡ true

pub earlier-apart : (r s : PrefixValue × Terms) → Earlier r s → Earlier s r → ⊥
earlier-apart r s first second = before-other r.0 r.0 (before-before r.0 s.0 r.0 first second) (same_prefix-itself r.0)

all-earlier : (r : PrefixValue × Terms) (routes : List (PrefixValue × Terms)) → list_all (before r.0) (keys_of routes) ≡ true
    → AllByRecursion (Earlier r) routes
all-earlier r [] all = tt
all-earlier r (s ∷ routes) all =
    let parts = and_parts (before r.0 s.0) (list_all (before r.0) (keys_of routes)) all in
    (parts.0, all-earlier r routes parts.1)

pub routes-ascend : (routes : List (PrefixValue × Terms)) → Ascend (keys_of routes) → Ascending Earlier earlier-apart routes
routes-ascend [] ascend = tt
routes-ascend (r ∷ routes) ascend = (all-earlier r routes ascend.0, routes-ascend routes ascend.1)

-- ---- the terms of a prefix
module _ (v : ViewValue) (node : List ℕ) (peer : CompiledPeer) (both : Bool) where
  told-both : (test : Bool) (m n k : ℕ) → cond test (Some m) None ≡ None → cond test (Some n) None ≡ Some k → ⊥
  told-both true m n k none some = absurd (cc)
  told-both false m n k none some = absurd (cc)

  told-one : (s t : Terms) (p : PrefixValue) (k : ℕ) → Contributes v node peer both p s → Contributes v node peer both p t → s.preference ≡ None
      → t.preference ≡ Some k → ⊥
  told-one s t p k first second none some =
      told-both (peer.my_asn == peer.peer_asn) first.advertisement.local_pref second.advertisement.local_pref k
      (sym (ap (λ (c : PrefixValue × Terms). c.1.preference) first.is) ∙ none) (sym (ap (λ (c : PrefixValue × Terms). c.1.preference) second.is) ∙ some)

  one-preference : (p : PrefixValue) (a b : Option ℕ) → IsGreatest v node peer both p a → IsGreatest v node peer both p b → a ≡ b
  one-preference p None None first second = refl
  one-preference p None (Some n) first second = absurd (told-one first.terms second.terms p n first.there second.there first.is second.is)
  one-preference p (Some m) None first second = absurd (told-one second.terms first.terms p m second.there first.there second.is first.is)
  one-preference p (Some m) (Some n) first second =
      let up : n ≤ m = first.greatest second.terms n m second.there second.is refl in
      let down : m ≤ n = second.greatest first.terms m n first.there first.is refl in
      ap Some (omega (arith, up, down))

  -- communities of a kind that ascend and are those of all contributions
  one-kind : {K : Type 0} {R : K → K → Ordering} → IsTotalOrder R → (kind : Terms → List K) (p : PrefixValue) (a b : List K)
      → ((k : K) → IsIn a k ↔ HasCommunity kind v node peer both p k) → ((k : K) → IsIn b k ↔ HasCommunity kind v node peer both p k)
      → IsStrictlySortedBy R a → IsStrictlySortedBy R b → a ≡ b
  one-kind o kind p a b first second up down =
      same-keys-ascending o a b up down (λ k there. (second k).1 ((first k).0 there)) (λ k there. (first k).1 ((second k).0 there))

  one-terms : (p : PrefixValue) (s t : Terms) → IsRoute v node peer both (p, s) → IsRoute v node peer both (p, t) → Ascends (p, s) → Ascends (p, t) → s ≡ t
  one-terms p s t first second up down =
      let with_preference : Option ℕ → Terms = λ a. record { preference = a; communities = s.communities; large = s.large } in
      let with_communities : List ℕ → Terms = λ ns. record { preference = t.preference; communities = ns; large = s.large } in
      let with_large : List LargeCommunity → Terms = λ cs. record { preference = t.preference; communities = t.communities; large = cs } in
      ap with_preference (one-preference p s.preference t.preference first.preference second.preference)
      ∙ ap with_communities
      (one-kind nat_cmp_total (λ x. x.communities) p s.communities t.communities first.communities second.communities up.numbers down.numbers)
      ∙ ap with_large (one-kind large_cmp-total (λ x. x.large) p s.large t.large first.large second.large up.large down.large)

  each-ascends : (routes : List (PrefixValue × Terms)) (r : PrefixValue × Terms) → AllByRecursion Ascends routes → IsIn routes r → Ascends r
  each-ascends [] r all none = absurd none
  each-ascends (s ∷ routes) r all (inl here) = subst Ascends here all.0
  each-ascends (s ∷ routes) r all (inr there) = each-ascends routes r all.1 there

  into : (t t' : List (PrefixValue × Terms)) → IsTableOf v node peer both t → IsTableOf v node peer both t' → (r : PrefixValue × Terms) → IsIn t r → IsIn t' r
  into t t' first second r there =
      let route = first.routes.routes r there in
      let found = second.routes.all (r.0, route.preference.terms) route.preference.there in
      let other = second.routes.routes (r.0, found.0) found.1 in
      let same : r.1 ≡ found.0 =
      one-terms r.0 r.1 found.0 route other (each-ascends t r first.communities there) (each-ascends t' (r.0, found.0) second.communities found.1) in
      subst (λ s. IsIn t' (r.0, s)) (sym same) found.1

  pub one-table : (t t' : List (PrefixValue × Terms)) → IsTableOf v node peer both t → IsTableOf v node peer both t' → t ≡ t'
  one-table t t' first second =
      same-items Earlier earlier-apart t t' (routes-ascend t first.prefixes) (routes-ascend t' second.prefixes) (into t t' first second)
      (into t' t second first)

pub tables-determined : TablesAreDetermined
tables-determined v node peer both t t' first second = one-table v node peer both t t' first second
