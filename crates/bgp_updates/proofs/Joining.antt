-- A route joins its group, which stands at its place.
use Rattle.std.proofs.Common.{◌≡◌, ℕ, zero, suc, Bool, true, false, cond, ◌&&◌, ◌==◌, ◌<◌, List, [], ◌∷◌, ◌++◌, length}
use Rattle.std.proofs.Common.{get_or, set, Option, Some, None, Result, is_eq, refl, sym, ◌∙◌, ap, subst, arith}
use Rattle.std.proofs.lemmas.Bool.Decides.{nat_tests}
use Rattle.std.proofs.lemmas.Map.Text.{is_eq-slice_cmp}
use Rattle.std.proofs.lemmas.Result.{on_ok_weaker}
use Rattle.std.specs.BTreeMap.{is_at}
use Rattle.std.specs.Cmp.Lexicographic.{pointwise, slice_cmp}
use Rattle.std.specs.Map.{lookup}
use Rattle.std.specs.Option.{option_cmp, option_map, option_or}
use Rattle.std.specs.Ordering.{nat_cmp, ordering_then}
use Rattle.std.specs.Result.{OnOk}
use Rattle.std.specs.Str.{bytes_eq}
use Rattle.std.specs.Cmp.{tied_then}
use Rattle.std.proofs.Math.Bool.{and_assoc}
use Rattle.ip_ranges.specs.Values.{PrefixValue}
use Rattle.large_numbers.specs.Large.{large_cmp}
use Rattle.large_numbers.specs.declared.numbers.LargeCommunity.{LargeCommunity}
use Rattle.bgp_updates.specs.declared.grouping.TermsKey.{TermsKey}
use Rattle.bgp_updates.specs.declared.route.RouteGroup.{RouteGroup}
use Rattle.bgp_updates.specs.declared.route.Terms.{Terms}
use Rattle.bgp_updates.specs.GroupPlaces.{ArePlaces, key_cmp, place_of, terms_in, with_prefix}
use Rattle.bgp_updates.specs.Received.{same_large, same_preference, same_terms, with_route}
use Rattle.bgp_updates.proofs.ReceivedLaws.{same_terms-is}

-- ---- the group at a place
pub set-with_prefix : (groups : List RouteGroup) (place : ℕ) (p : PrefixValue) (group : RouteGroup) → place < length groups → group ≡ get_or groups place group
    → set groups place (record { terms = group.terms; prefixes = group.prefixes ++ p ∷ [] }) ≡ with_prefix groups place p
set-with_prefix [] place p group lt is = absurd (omega arith)
set-with_prefix (first ∷ groups) zero p group lt is = ap (λ (g : RouteGroup). record { terms = g.terms; prefixes = g.prefixes ++ p ∷ [] } ∷ groups) is
set-with_prefix (first ∷ groups) (suc place) p group lt is = ap (λ rest. first ∷ rest) (set-with_prefix groups place p group (omega arith) is)

within-by : (same : Bool) (found : Option ℕ) (place n : ℕ) → cond same (Some 0) (option_map (λ m. suc m) found) ≡ Some place
    → ((m : ℕ) → found ≡ Some m → m < n) → place < suc n
within-by true found place n is later = let first : 0 ≡ place = cc in omega (arith, first)
within-by false None place n is later = absurd (cc)
within-by false (Some m) place n is later = let next : suc m ≡ place = cc in omega (arith, next, later m refl)

pub place-within : (groups : List RouteGroup) (terms : Terms) (place : ℕ) → place_of groups terms ≡ Some place → place < length groups
place-within [] terms place is = absurd (cc)
place-within (group ∷ groups) terms place is =
    within-by (same_terms group.terms terms) (place_of groups terms) place (length groups) is (place-within groups terms)

-- ---- the route joins the group of its terms
joined-by : (same : Bool) (found : Option ℕ) (group : RouteGroup) (groups : List RouteGroup) (route : PrefixValue × Terms) (place : ℕ)
    → same_terms group.terms route.1 ≡ same
    → ((m : ℕ) → found ≡ Some m → with_prefix groups m route.0 ≡ with_route same_terms groups route)
    → cond same (Some 0) (option_map (λ m. suc m) found) ≡ Some place
    → with_prefix (group ∷ groups) place route.0 ≡ with_route same_terms (group ∷ groups) route
joined-by true found group groups route place same later is =
    let first : 0 ≡ place = cc in
    rw same (subst (λ n. with_prefix (group ∷ groups) n route.0 ≡ record { terms = group.terms; prefixes = group.prefixes ++ route.0 ∷ [] } ∷ groups) first
    refl)
joined-by false None group groups route place same later is = absurd (cc)
joined-by false (Some m) group groups route place same later is =
    let next : suc m ≡ place = cc in
    rw same (subst (λ n. with_prefix (group ∷ groups) n route.0 ≡ group ∷ with_route same_terms groups route) next (ap (λ rest. group ∷ rest) (later m refl)))

pub joined : (groups : List RouteGroup) (route : PrefixValue × Terms) (place : ℕ) → place_of groups route.1 ≡ Some place
    → with_prefix groups place route.0 ≡ with_route same_terms groups route
joined [] route place is = absurd (cc)
joined (group ∷ groups) route place is =
    joined-by (same_terms group.terms route.1) (place_of groups route.1) group groups route place refl (joined groups route) is

appended-by : (same : Bool) (found : Option ℕ) (group : RouteGroup) (groups : List RouteGroup) (route : PrefixValue × Terms)
    → same_terms group.terms route.1 ≡ same
    → (found ≡ None → groups ++ record { terms = route.1; prefixes = route.0 ∷ [] } ∷ [] ≡ with_route same_terms groups route)
    → cond same (Some 0) (option_map (λ m. suc m) found) ≡ None
    → (group ∷ groups) ++ record { terms = route.1; prefixes = route.0 ∷ [] } ∷ [] ≡ with_route same_terms (group ∷ groups) route
appended-by true found group groups route same later is = absurd (cc)
appended-by false None group groups route same later is = rw same (ap (λ rest. group ∷ rest) (later refl))
appended-by false (Some m) group groups route same later is = absurd (cc)

pub appended : (groups : List RouteGroup) (route : PrefixValue × Terms) → place_of groups route.1 ≡ None
    → groups ++ record { terms = route.1; prefixes = route.0 ∷ [] } ∷ [] ≡ with_route same_terms groups route
appended [] route is = refl
appended (group ∷ groups) route is = appended-by (same_terms group.terms route.1) (place_of groups route.1) group groups route refl (appended groups route) is

-- ---- where the groups stand then
place-with_prefix : (groups : List RouteGroup) (place : ℕ) (p : PrefixValue) (terms : Terms)
    → place_of (with_prefix groups place p) terms ≡ place_of groups terms
place-with_prefix [] place p terms = refl
place-with_prefix (group ∷ groups) zero p terms = refl
place-with_prefix (group ∷ groups) (suc place) p terms =
    ap (λ found. cond (same_terms group.terms terms) (Some 0) (option_map (λ m. suc m) found)) (place-with_prefix groups place p terms)

pub places-stay : (entries : List (TermsKey × ℕ)) (groups : List RouteGroup) (place : ℕ) (p : PrefixValue) → ArePlaces entries groups
    → ArePlaces entries (with_prefix groups place p)
places-stay entries groups place p are key = are key ∙ sym (place-with_prefix groups place p (terms_in key))

-- the place of a group after the others
abbrev last_place : ℕ → Bool → Option ℕ
last_place n same = cond same (Some n) None

last-next : (first same : Bool) (found : Option ℕ) (n : ℕ) → cond first (Some 0) (option_map (λ m. suc m) (option_or found (last_place n same)))
    ≡ option_or (cond first (Some 0) (option_map (λ m. suc m) found)) (last_place (suc n) same)
last-next true same found n = refl
last-next false same (Some m) n = refl
last-next false true None n = refl
last-next false false None n = refl

place-append : (groups : List RouteGroup) (group : RouteGroup) (terms : Terms)
    → place_of (groups ++ group ∷ []) terms ≡ option_or (place_of groups terms) (last_place (length groups) (same_terms group.terms terms))
place-append [] group terms = elim (same_terms group.terms terms) as (λ s. cond s (Some 0) None ≡ last_place 0 s) [ true ↦ refl | false ↦ refl ]
place-append (first ∷ groups) group terms =
    ap (λ found. cond (same_terms first.terms terms) (Some 0) (option_map (λ m. suc m) found)) (place-append groups group terms)
    ∙ last-next (same_terms first.terms terms) (same_terms group.terms terms) (place_of groups terms) (length groups)

or-none : (found : Option ℕ) → option_or found None ≡ found
or-none None = refl
or-none (Some n) = refl

-- ---- keys are equal where their terms are
eq-numbers : (a b : ℕ) → is_eq (nat_cmp a b) ≡ (a == b)
eq-numbers a b = grind (arith, nat_tests)

eq-preferences : (p q : Option ℕ) → is_eq (option_cmp nat_cmp p q) ≡ same_preference p q
eq-preferences None None = refl
eq-preferences None (Some b) = refl
eq-preferences (Some a) None = refl
eq-preferences (Some a) (Some b) = eq-numbers a b

eq-larges : (c d : LargeCommunity) → is_eq (large_cmp c d) ≡ same_large c d
eq-larges c d =
    sym (tied_then (nat_cmp c.global d.global) (ordering_then (nat_cmp c.first d.first) (nat_cmp c.second d.second)))
    ∙ ap (λ s. is_eq (nat_cmp c.global d.global) && s) (sym (tied_then (nat_cmp c.first d.first) (nat_cmp c.second d.second)))
    ∙ rw (eq-numbers c.global d.global, eq-numbers c.first d.first, eq-numbers c.second d.second)
    (sym (and_assoc (c.global == d.global) (c.first == d.first) (c.second == d.second)))

eq-large_lists : (xs ys : List LargeCommunity) → is_eq (slice_cmp large_cmp xs ys) ≡ pointwise same_large xs ys
eq-large_lists [] [] = refl
eq-large_lists [] (d ∷ ys) = refl
eq-large_lists (c ∷ xs) [] = refl
eq-large_lists (c ∷ xs) (d ∷ ys) =
    sym (tied_then (large_cmp c d) (slice_cmp large_cmp xs ys)) ∙ rw (eq-larges c d, eq-large_lists xs ys) refl

same-keys : (a b : TermsKey) → is_eq (key_cmp a b) ≡ same_terms (terms_in a) (terms_in b)
same-keys a b =
    let preferences = option_cmp nat_cmp a.preference b.preference in
    let communities = slice_cmp nat_cmp a.communities.items b.communities.items in
    let larges = slice_cmp large_cmp a.large.items b.large.items in
    sym (tied_then preferences (ordering_then communities larges)) ∙ ap (λ s. is_eq preferences && s) (sym (tied_then communities larges))
    ∙ rw (eq-preferences a.preference b.preference, is_eq-slice_cmp a.communities.items b.communities.items, eq-large_lists a.large.items b.large.items)
    (sym (and_assoc (same_preference a.preference b.preference) (bytes_eq a.communities.items b.communities.items)
    (pointwise same_large a.large.items b.large.items)))

module _ (before after : List (TermsKey × ℕ)) (groups : List RouteGroup) (group : RouteGroup) (key : TermsKey) (are : ArePlaces before groups)
    (own : terms_in key ≡ group.terms)
    (absent : lookup (is_at (key_cmp key)) before ≡ None)
    (updates : (q : TermsKey)
    → lookup (is_at (key_cmp q)) after ≡ cond (is_at (key_cmp key) q) (Some (length groups)) (lookup (is_at (key_cmp q)) before)) where
  at-key : (q : TermsKey) (same : Bool) → same_terms group.terms (terms_in q) ≡ same
      → cond same (Some (length groups)) (place_of groups (terms_in q)) ≡ option_or (place_of groups (terms_in q)) (last_place (length groups) same)
  at-key q true same =
      let one : terms_in key ≡ terms_in q = own ∙ same_terms-is group.terms (terms_in q) same in
      let none : place_of groups (terms_in q) ≡ None = ap (place_of groups) (sym one) ∙ sym (are key) ∙ absent in
      rw none refl
  at-key q false same = sym (or-none (place_of groups (terms_in q)))

  pub places-with : ArePlaces after (groups ++ group ∷ [])
  places-with q =
      updates q
      ∙ ap (λ s. cond s (Some (length groups)) (lookup (is_at (key_cmp q)) before)) (same-keys key q ∙ ap (λ t. same_terms t (terms_in q)) own)
      ∙ ap (cond (same_terms group.terms (terms_in q)) (Some (length groups))) (are q)
      ∙ at-key q (same_terms group.terms (terms_in q)) refl
      ∙ sym (place-append groups group (terms_in q))

pub pushed : {T E : Type 0} (answer : Result T E) (groups : List RouteGroup) (place : ℕ) (p : PrefixValue) (group : RouteGroup) (prefixes : List PrefixValue)
    → place < length groups → group ≡ get_or groups place group
    → OnOk answer (prefixes ≡ group.prefixes ++ p ∷ [])
    → OnOk answer (set groups place (record { terms = group.terms; prefixes = prefixes }) ≡ with_prefix groups place p)
pushed answer groups place p group prefixes lt is told =
    on_ok_weaker answer (λ e. ap (λ (ps : List PrefixValue). set groups place (record { terms = group.terms; prefixes = ps })) e
    ∙ set-with_prefix groups place p group lt is) told
