use Rattle.std.proofs.Common.{◌≡◌, Some, sym, ◌∙◌, ap, subst}
use Rattle.std.proofs.lemmas.Result.{on_ok_weaker}
use Rattle.ip_ranges.specs.Values.{PrefixValue}
use Rattle.bgp_updates.specs.GroupPlaces.{ArePlaces, place_of, with_prefix}
use Rattle.bgp_updates.proofs.Joining.{joined, place-within, places-stay}
use Rattle.bgp_updates.proofs.grouping.join.Goals as goal

pub push_prefix-requires : goal.push_prefix-requires
push_prefix-requires c =
    let groups = c.args.groups.now.items in
    let found : place_of groups c.args.route.now.1 ≡ Some c.in-Some.place.now =
    ap (place_of groups) (sym c.in_ok-key.ensures) ∙ sym (c.requires c.in_ok-key.key) ∙ sym c.in-Some.ensures.value in
    place-within groups c.args.route.now.1 c.in-Some.place.now found

pub returns-in-Some-clause-groups : goal.returns-in-Some-clause-groups
returns-in-Some-clause-groups c =
    let groups = c.args.groups.now.items in
    let place = c.in-Some.place.now in
    let found : place_of groups c.args.route.now.1 ≡ Some place =
    ap (place_of groups) (sym c.in_ok-key.ensures) ∙ sym (c.requires c.in_ok-key.key) ∙ sym c.in-Some.ensures.value in
    let prefix : c.route.inside.prefix ≡ c.args.route.now.0 = ap (λ route. route.0) c.route.view_is in
    on_ok_weaker c.push_prefix.result (λ e. e ∙ ap (λ (p : PrefixValue). with_prefix groups place p) prefix ∙ joined groups c.args.route.now place found)
    c.push_prefix.ensures

pub returns-in-Some-clause-places : goal.returns-in-Some-clause-places
returns-in-Some-clause-places c =
    let groups = c.args.groups.now.items in
    let entries = c.args.places.now.entries in
    on_ok_weaker c.push_prefix.result (λ e. subst (ArePlaces entries) (sym e) (places-stay entries groups c.in-Some.place.now c.route.inside.prefix c.requires))
    c.push_prefix.ensures
