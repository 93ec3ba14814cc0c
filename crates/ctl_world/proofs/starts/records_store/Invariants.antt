use Rattle.std.proofs.Common.{◌≡◌, ◌+◌, ◌<◌, ◌^◌, length}
use Rattle.std.specs.Vec.Iter.{into_iter_items}
use Rattle.status_store.specs.Changes.{empty_store}
use Rattle.world_rules.specs.World.{records_store}
use Rattle.ctl_world.proofs.starts.records_store.Given as goal

-- what is set and what is left make the whole; there is a version for each that is left
abbrev pub invariant-loop-object : goal.invariant-loop-object
invariant-loop-object l =
    record {
      stored : records_store (into_iter_items l.object-iterator) l.store ≡ records_store l.fn.objects empty_store;
      room : l.store.counter + length (into_iter_items l.object-iterator) < 2 ^ 64;
    }
