-- The table says of a prefix what its contributions do.
use Rattle.std.proofs.Common.{◌≡◌, Bool, true, false, cond, List, [], ◌∷◌, Option, Some, None, refl, sym, ◌∙◌, ap}
use Rattle.std.specs.Map.{keys_of}
use Rattle.mlb_base.proofs.Bools.{by_bool}
use Rattle.ip_ranges.specs.Values.{PrefixValue}
use Rattle.bgp_updates.specs.declared.route.Terms.{Terms}
use Rattle.bgp_updates.specs.Received.{same_prefix, terms_at}
use Rattle.bgp_updates.specs.Tables.{Ascend, before}
use Rattle.bgp_updates.proofs.ReceivedLaws.{lookup-absent, none-same, same_prefix-is}
use Rattle.bgp_updates.proofs.Halves.{before-rest}
use Rattle.bgp_routes.specs.Laws.{RoutesAreStated, joined, stated}
use Rattle.bgp_routes.specs.Routes.{contributions}
use Rattle.bgp_routes.specs.Uniting.{with_contribution, with_contributions}
use Rattle.bgp_routes.proofs.Placing.{ascend-with}

abbrev after : PrefixValue → Option Terms → PrefixValue × Terms → Option Terms
after p found c = cond (same_prefix p c.0) (Some (joined found c.1)) found

absent-before : (p : PrefixValue) (route : PrefixValue × Terms) (routes : List (PrefixValue × Terms)) → Ascend (keys_of (route ∷ routes))
    → same_prefix p route.0 ≡ false → before p route.0 ≡ true
    → terms_at (route ∷ routes) p ≡ None
absent-before p route routes ascend other first =
    rw other (lookup-absent p routes (none-same p (keys_of routes) (before-rest p route.0 (keys_of routes) first ascend.0)))

-- one contribution, cases on the prefix that is looked up
one-after : (routes : List (PrefixValue × Terms)) (c : PrefixValue × Terms) (p : PrefixValue) → Ascend (keys_of routes)
    → terms_at (with_contribution routes c) p ≡ after p (terms_at routes p) c
one-after [] c p ascend = refl
one-after (route ∷ routes) c p ascend =
    by_bool (terms_at (with_contribution (route ∷ routes) c) p ≡ after p (terms_at (route ∷ routes) p) c) (same_prefix c.0 route.0)
    (λ own.
    let here : c.0 ≡ route.0 = same_prefix-is c.0 route.0 own in
    by_bool (terms_at (with_contribution (route ∷ routes) c) p ≡ after p (terms_at (route ∷ routes) p) c) (same_prefix p route.0)
    (λ at. let at_c : same_prefix p c.0 ≡ true = ap (same_prefix p) here ∙ at in rw (own, at, at_c) refl)
    (λ off. let off_c : same_prefix p c.0 ≡ false = ap (same_prefix p) here ∙ off in rw (own, off, off_c) refl))
    (λ other. by_bool (terms_at (with_contribution (route ∷ routes) c) p ≡ after p (terms_at (route ∷ routes) p) c) (before c.0 route.0)
    (λ first. by_bool (terms_at (with_contribution (route ∷ routes) c) p ≡ after p (terms_at (route ∷ routes) p) c) (same_prefix p c.0)
    (λ at.
    let is : p ≡ c.0 = same_prefix-is p c.0 at in
    let none : terms_at (route ∷ routes) p ≡ None = ap (terms_at (route ∷ routes)) is ∙ absent-before c.0 route routes ascend other first in
    rw (other, first, at) (ap (λ found. Some (joined found c.1)) (sym none)))
    (λ off. rw (other, first, off) refl))
    (λ late. by_bool (terms_at (with_contribution (route ∷ routes) c) p ≡ after p (terms_at (route ∷ routes) p) c) (same_prefix p route.0)
    (λ at.
    let is : p ≡ route.0 = same_prefix-is p route.0 at in
    by_bool (terms_at (with_contribution (route ∷ routes) c) p ≡ after p (terms_at (route ∷ routes) p) c) (same_prefix p c.0)
    (λ too.
    let one : c.0 ≡ route.0 = sym (same_prefix-is p c.0 too) ∙ is in
    let alike : same_prefix c.0 route.0 ≡ true = ap (λ q. same_prefix q route.0) (sym (same_prefix-is p c.0 too)) ∙ at in
    absurd (differ (same_prefix c.0 route.0) alike other))
    (λ off. rw (other, late, at, off) refl))
    (λ off. rw (other, late, off) (one-after routes c p ascend.1))))
  where
    differ : (b : Bool) → b ≡ true → b ≡ false → ⊥
    differ true h e = cc
    differ false h e = cc

pub all-after : (routes contributed : List (PrefixValue × Terms)) (p : PrefixValue) → Ascend (keys_of routes)
    → terms_at (with_contributions routes contributed) p ≡ stated p (terms_at routes p) contributed
all-after routes [] p ascend = refl
all-after routes (c ∷ more) p ascend =
    all-after (with_contribution routes c) more p (ascend-with routes c ascend)
    ∙ ap (λ found. stated p found more) (one-after routes c p ascend)

pub routes-stated : RoutesAreStated
routes-stated v node peer both p = all-after [] (contributions v node peer both) p tt
