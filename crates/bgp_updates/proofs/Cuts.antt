-- Where two tables agree outside a set of prefixes, what differs between them is what differs inside it.
use Rattle.std.proofs.Common.{◌≡◌, Bool, true, false, cond, not, is_none, List, [], ◌∷◌, filter, Some, refl, sym, ◌∙◌, ap}
use Rattle.std.proofs.lemmas.Map.Entries.{lookup-filter-keys}
use Rattle.std.specs.List.{list_any, AllByRecursion}
use Rattle.std.specs.Map.{keys_of}
use Rattle.std.proofs.lemmas.Bool.{false_from_ne_true, or_parts}
use Rattle.mlb_base.proofs.Bools.{by_bool}
use Rattle.ip_ranges.specs.Values.{PrefixValue}
use Rattle.bgp_updates.specs.declared.route.Terms.{Terms}
use Rattle.bgp_updates.specs.Laws.{AgreeBeside, cut}
use Rattle.bgp_updates.specs.Received.{AreDistinct, changed, gone, same_prefix, same_terms, stands_as, terms_at}
use Rattle.bgp_updates.proofs.Once.{same_terms-itself}
use Rattle.bgp_updates.proofs.ReceivedLaws.{same_prefix-is, same_prefix-itself}

-- ---- a filter of a filter
-- a test of what another test takes tells as much as a third one
pub record TellsAsMuch {A : Type 0} (takes inside whole : A → Bool) (x : A) : Type 0 where
  pub taken : takes x ≡ true → inside x ≡ whole x
  pub left : takes x ≡ false → whole x ≡ false

filter-inside : {A : Type 0} (takes inside whole : A → Bool) (xs : List A) → AllByRecursion (TellsAsMuch takes inside whole) xs
    → filter inside (filter takes xs) ≡ filter whole xs
filter-inside takes inside whole [] tell = refl
filter-inside takes inside whole (x ∷ xs) tell =
    by_bool (filter inside (filter takes (x ∷ xs)) ≡ filter whole (x ∷ xs)) (takes x)
    (λ is. rw (is, tell.0.taken is) (ap (λ rest. cond (whole x) (x ∷ rest) rest) (filter-inside takes inside whole xs tell.1)))
    (λ not_it. rw (not_it, tell.0.left not_it) (filter-inside takes inside whole xs tell.1))

-- ---- a table has the terms of each of its routes
abbrev HasOwn : List (PrefixValue × Terms) → PrefixValue × Terms → Type 0
HasOwn table route = terms_at table route.0 ≡ Some route.1

own-behind : (first : PrefixValue × Terms) (table routes : List (PrefixValue × Terms)) → list_any (same_prefix first.0) (keys_of routes) ≡ false
    → AllByRecursion (HasOwn table) routes → AllByRecursion (HasOwn (first ∷ table)) routes
own-behind first table [] apart own = tt
own-behind first table (route ∷ routes) apart own =
    let parts = or_parts (same_prefix first.0 route.0) (list_any (same_prefix first.0) (keys_of routes)) apart in
    let other : same_prefix route.0 first.0 ≡ false =
    false_from_ne_true (same_prefix route.0 first.0)
    (λ same. let there : same_prefix first.0 route.0 ≡ true = rw (same_prefix-is route.0 first.0 same) (same_prefix-itself first.0) in cc) in
    (rw other own.0, own-behind first table routes parts.1 own.1)

own-terms : (routes : List (PrefixValue × Terms)) → AreDistinct routes → AllByRecursion (HasOwn routes) routes
own-terms [] are = tt
own-terms (route ∷ routes) are = (rw (same_prefix-itself route.0) refl, own-behind route routes routes are.0 (own-terms routes are.1))

each : {A : Type 0} {P Q : A → Type 0} → ((x : A) → P x → Q x) → (xs : List A) → AllByRecursion P xs → AllByRecursion Q xs
each f [] all = tt
each f (x ∷ xs) all = (f x all.0, each f xs all.1)

-- ---- what is gone, and what changed
module _ (takes : PrefixValue → Bool) (old new : List (PrefixValue × Terms)) (agree : AgreeBeside takes old new) where
  cut-at : (table : List (PrefixValue × Terms)) (p : PrefixValue) → takes p ≡ true → terms_at (cut takes table) p ≡ terms_at table p
  cut-at table p taken =
      lookup-filter-keys (same_prefix p) takes true (λ q is. ap takes (sym (same_prefix-is p q is)) ∙ taken) table

  gone-tells : (route : PrefixValue × Terms) → HasOwn old route
      → TellsAsMuch (λ route. takes route.0) (λ route. is_none (terms_at (cut takes new) route.0)) (λ route. is_none (terms_at new route.0)) route
  gone-tells route own = record {
    taken = λ is. ap is_none (cut-at new route.0 is);
    left = λ beside. ap is_none (sym (agree route.0 beside) ∙ own);
  }

  pub gone-inside : AreDistinct old → gone (cut takes old) (cut takes new) ≡ gone old new
  gone-inside are =
      filter-inside (λ (route : PrefixValue × Terms). takes route.0) (λ route. is_none (terms_at (cut takes new) route.0))
      (λ route. is_none (terms_at new route.0)) old
      (each gone-tells old (own-terms old are))

  changed-tells : (route : PrefixValue × Terms) → HasOwn new route
      → TellsAsMuch (λ route. takes route.0) (λ route. not (stands_as same_terms (terms_at (cut takes old) route.0) route.1))
      (λ route. not (stands_as same_terms (terms_at old route.0) route.1)) route
  changed-tells route own = record {
    taken = λ is. ap (λ there. not (stands_as same_terms there route.1)) (cut-at old route.0 is);
    left = λ beside. ap (λ there. not (stands_as same_terms there route.1)) (agree route.0 beside ∙ own) ∙ ap not (same_terms-itself route.1);
  }

  pub changed-inside : AreDistinct new → changed same_terms (cut takes old) (cut takes new) ≡ changed same_terms old new
  changed-inside are =
      filter-inside (λ (route : PrefixValue × Terms). takes route.0) (λ route. not (stands_as same_terms (terms_at (cut takes old) route.0) route.1))
      (λ route. not (stands_as same_terms (terms_at old route.0) route.1)) new
      (each changed-tells new (own-terms new are))
