use Rattle.std.proofs.Common.{◌≡◌}
use Rattle.std.specs.Vec.Iter.{into_iter_items}
use Rattle.ip_ranges.specs.Values.{AddressValue}
use Rattle.l2_elect.specs.Kept.{after_moves, kept_announcer}
use Rattle.l2_elect.proofs.announcers.Announcers.make_each.Given as goal

abbrev pub invariant-loop-address : goal.invariant-loop-address
invariant-loop-address l =
    (a : AddressValue) → after_moves a (kept_announcer l.self a) (into_iter_items l.address-iterator) ≡ after_moves a (kept_announcer l.fn.self a) l.fn.moves
