use Rattle.std.proofs.Common.{◌≡◌, ◌+◌, ◌<◌, ◌^◌, length}
use Rattle.std.specs.Vec.Iter.{into_iter_items}
use Rattle.status_store.specs.Changes.{empty_store}
use Rattle.world_rules.specs.World.{store_of}
use Rattle.ctl_world.proofs.starts.store_of.Given as goal

-- what is set and what is left make the whole; there is a version for each that is left
abbrev pub invariant-loop-object : goal.invariant-loop-object
invariant-loop-object l =
    record {
      stored : store_of (into_iter_items l.object-iterator) l.store ≡ store_of l.fn.objects empty_store;
      room : l.store.counter + length (into_iter_items l.object-iterator) < 2 ^ 64;
    }
