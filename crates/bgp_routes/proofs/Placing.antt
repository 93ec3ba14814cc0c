-- A table stays one with a contribution, and contributions are united one after the other.
use Rattle.std.proofs.Common.{◌≡◌, ℕ, true, false, cond, ◌&&◌, ◌==◌, List, [], ◌∷◌, ◌++◌, refl, sym, ◌∙◌, arith}
use Rattle.std.specs.List.{list_all, AllByRecursion, flat_map}
use Rattle.std.specs.Map.{keys_of}
use Rattle.std.proofs.lemmas.Bool.{true≢false, and_parts, and_from}
use Rattle.std.proofs.lemmas.Bool.Decides.{nat_tests}
use Rattle.mlb_base.proofs.Bools.{by_bool}
use Rattle.ip_ranges.specs.declared.family.Family.{Family}
use Rattle.ip_ranges.specs.declared.family.Family.TheVariants.{V4, V6}
use Rattle.ip_ranges.specs.Values.{PrefixValue, IsPrefix, same_family}
use Rattle.bgp_updates.specs.declared.route.Terms.{Terms}
use Rattle.bgp_updates.specs.Received.{same_prefix}
use Rattle.bgp_routes.specs.Uniting.{united_terms, with_contribution, with_contributions, with_each}
use Rattle.bgp_updates.specs.Tables.{Ascend, IsTable, before, families_before, numbers_before}
use Rattle.bgp_updates.proofs.Halves.{before-rest}

-- ---- a table stays a table

pub all-keys : (P : PrefixValue → Type 0) (routes : List (PrefixValue × Terms)) (c : PrefixValue × Terms) → AllByRecursion P (keys_of routes) → P c.0
    → AllByRecursion P (keys_of (with_contribution routes c))
all-keys P [] c all is = (is, tt)
all-keys P (route ∷ routes) c all is =
    elim (same_prefix c.0 route.0) as (λ u. AllByRecursion P (keys_of
    (cond u ((route.0, united_terms route.1 c.1) ∷ routes) (cond (before c.0 route.0) (c ∷ route ∷ routes) (route ∷ with_contribution routes c))))) [
      | true ↦ all
      | false ↦ elim (before c.0 route.0) as (λ v. AllByRecursion P (keys_of (cond v (c ∷ route ∷ routes) (route ∷ with_contribution routes c)))) [
        | true ↦ (is, all)
        | false ↦ (all.0, all-keys P routes c all.1 is)
      ]
    ]

before-all : (p : PrefixValue) (routes : List (PrefixValue × Terms)) (c : PrefixValue × Terms) → list_all (before p) (keys_of routes) ≡ true
    → before p c.0 ≡ true
    → list_all (before p) (keys_of (with_contribution routes c)) ≡ true
before-all p [] c all is = and_from (before p c.0) true is refl
before-all p (route ∷ routes) c all is =
    let parts = and_parts (before p route.0) (list_all (before p) (keys_of routes)) all in
    elim (same_prefix c.0 route.0) as (λ u. list_all (before p) (keys_of
    (cond u ((route.0, united_terms route.1 c.1) ∷ routes) (cond (before c.0 route.0) (c ∷ route ∷ routes) (route ∷ with_contribution routes c)))) ≡ true) [
      | true ↦ all
      | false ↦ elim (before c.0 route.0) as (λ v. list_all (before p) (keys_of (cond v (c ∷ route ∷ routes) (route ∷ with_contribution routes c))) ≡ true) [
        | true ↦ and_from (before p c.0) (list_all (before p) (keys_of (route ∷ routes))) is all
        | false ↦ and_from (before p route.0) (list_all (before p) (keys_of (with_contribution routes c))) parts.0 (before-all p routes c parts.1 is)
      ]
    ]

numbers-other : (a b l m : ℕ) → ((a == b) && (l == m)) ≡ false → numbers_before a b l m ≡ false → numbers_before b a m l ≡ true
numbers-other a b l m other late = grind (arith, nat_tests)

other-by : (f g : Family) (a b l m : ℕ) → ((same_family f g && (a == b)) && (l == m)) ≡ false → families_before f g (numbers_before a b l m) ≡ false
    → families_before g f (numbers_before b a m l) ≡ true
other-by V4 V4 a b l m other late = numbers-other a b l m other late
other-by V4 V6 a b l m other late = absurd (true≢false late)
other-by V6 V4 a b l m other late = refl
other-by V6 V6 a b l m other late = numbers-other a b l m other late

-- of two prefixes that aren't one, one is before the other
other-way : (p q : PrefixValue) → same_prefix p q ≡ false → before p q ≡ false → before q p ≡ true
other-way p q other late = other-by p.family q.family p.number q.number p.length q.length other late

pub ascend-with : (routes : List (PrefixValue × Terms)) (c : PrefixValue × Terms) → Ascend (keys_of routes) → Ascend (keys_of (with_contribution routes c))
ascend-with [] c ascend = (refl, tt)
ascend-with (route ∷ routes) c ascend =
    by_bool (Ascend (keys_of (with_contribution (route ∷ routes) c))) (same_prefix c.0 route.0)
    (λ own. rw own ascend)
    (λ other. by_bool (Ascend (keys_of (with_contribution (route ∷ routes) c))) (before c.0 route.0)
    (λ first. rw (other, first)
    (and_from (before c.0 route.0) (list_all (before c.0) (keys_of routes)) first (before-rest c.0 route.0 (keys_of routes) first ascend.0), ascend))
    (λ late. rw (other, late) (before-all route.0 routes c ascend.0 (other-way c.0 route.0 other late), ascend-with routes c ascend.1)))

pub stays : (routes : List (PrefixValue × Terms)) (c : PrefixValue × Terms) → IsTable routes → IsPrefix c.0 → IsTable (with_contribution routes c)
stays routes c table is = (all-keys IsPrefix routes c table.0 is, ascend-with routes c table.1)

-- ---- one contribution after the other

pub with-append : (routes a b : List (PrefixValue × Terms)) → with_contributions routes (a ++ b) ≡ with_contributions (with_contributions routes a) b
with-append routes [] b = refl
with-append routes (c ∷ a) b = with-append (with_contribution routes c) a b

pub with_each_flat : {A : Type 0} (f : A → List (PrefixValue × Terms)) (routes : List (PrefixValue × Terms)) (xs : List A)
    → with_each f routes xs ≡ with_contributions routes (flat_map f xs)
with_each_flat f routes [] = refl
with_each_flat f routes (x ∷ more) = with_each_flat f (with_contributions routes (f x)) more ∙ sym (with-append routes (f x) (flat_map f more))
