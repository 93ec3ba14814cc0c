use Rattle.std.proofs.Common.{◌≡◌, drop, []}
use Rattle.bgp_updates.specs.GroupPlaces.{ArePlaces}
use Rattle.bgp_updates.specs.Received.{groups_from, changed, same_terms}
use Rattle.bgp_updates.proofs.grouping.changed_groups.Given as goal

abbrev pub invariant-loop-route : goal.invariant-loop-route
invariant-loop-route l = record {
  groups : groups_from same_terms l.groups.items (changed same_terms l.old (drop l.route-index l.new))
      ≡ groups_from same_terms [] (changed same_terms l.old l.new);
  places : ArePlaces l.places.entries l.groups.items;
}
