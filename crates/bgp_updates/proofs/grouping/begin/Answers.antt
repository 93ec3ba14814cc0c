use Rattle.std.proofs.Common.{◌≡◌, ◌++◌, ◌∷◌, [], length, cond, Some, None, sym, ◌∙◌, ap, subst, arith}
use Rattle.std.specs.BTreeMap.{is_at}
use Rattle.std.specs.Map.{lookup}
use Rattle.bgp_updates.specs.declared.route.RouteGroup.{RouteGroup}
use Rattle.bgp_updates.specs.GroupPlaces.{ArePlaces, key_cmp, place_of}
use Rattle.bgp_updates.proofs.Joining.{appended, places-with}
use Rattle.bgp_updates.proofs.grouping.begin.Goals as goal

pub returns-clause-groups : goal.returns-clause-groups
returns-clause-groups c =
    let groups = c.args.groups.now.items in
    let absent : lookup (is_at (key_cmp c.args.key)) c.args.places.now.entries ≡ None = c.requires.absent in
    let none : place_of groups c.args.route.now.1 ≡ None = ap (place_of groups) (sym c.requires.key) ∙ sym (c.requires.places c.args.key) ∙ absent in
    c.in_ok-push.ensures.items ∙ ap (λ (group : RouteGroup). groups ++ group ∷ []) c.in_ok-group_of.ensures ∙ appended groups c.args.route.now none

pub returns-clause-places : goal.returns-clause-places
returns-clause-places c =
    let groups = c.args.groups.now.items in
    let key = c.args.key in
    let before = c.args.places.now.entries in
    let after = c.insert.new.self.entries in
    let group : RouteGroup = record { terms = c.args.route.now.1; prefixes = c.args.route.now.0 ∷ [] } in
    let many : c.len.result ≡ length groups = omega (arith, c.len.ensures, c.args.groups.now.ok) in
    let are : ArePlaces after (groups ++ group ∷ []) =
    places-with before after groups group key c.requires.places c.requires.key c.requires.absent
    (λ q. c.in_ok-_none.ensures.updates.0 q ∙ ap (λ n. cond (is_at (key_cmp key) q) (Some n) (lookup (is_at (key_cmp q)) before)) many) in
    subst (ArePlaces after) (sym (c.in_ok-push.ensures.items ∙ ap (λ (g : RouteGroup). groups ++ g ∷ []) c.in_ok-group_of.ensures)) are
