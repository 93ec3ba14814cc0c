use Rattle.std.proofs.Common.{◌≡◌}
use Rattle.std.specs.Vec.Iter.{into_iter_items}
use Rattle.key_queue.specs.Queue.{queued_all}
use Rattle.key_queue.proofs.QueueLaws.{Begins}
use Rattle.key_queue.proofs.queue.KeyQueue.append.Given as goal

-- what came and what is left make the whole, and what was there is the beginning
abbrev pub invariant-loop-key : goal.invariant-loop-key
invariant-loop-key g l =
    record {
      whole : queued_all g.K.PartialEq.eq l.self (into_iter_items l.key-iterator) ≡ queued_all g.K.PartialEq.eq l.fn.self l.fn.keys.items;
      begins : Begins l.fn.self l.self;
    }
