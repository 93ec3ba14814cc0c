use Rattle.mlb_base.proofs.Entries.{copied_on}
use Rattle.versioned_map.proofs.map.VersionedMapTryCopy.copy.Goals as goal

pub loop-key-preserved-in_ok-insert : goal.loop-key-preserved-in_ok-insert
loop-key-preserved-in_ok-insert g c =
    let e = copied_on g.met.K.Ord.total c.loop-key.held.entries c.in-Some.key.now c.in-Some.object.now c.next.new.self c.self.inside.held.entries
    c.into_iter-key-iterator.ensures.into_iter_gives.5 (rw c.in-Some.ensures.steps at c.loop-key.invariant) in
    rw (c.in_ok-insert.ensures.entries, c.in_ok-copy.ensures, c.in_ok-copy-2.ensures) e

pub loop-key-preserved : goal.loop-key-preserved
loop-key-preserved g c =
    let e = copied_on g.met.K.Ord.total c.loop-key.held.entries c.in-Some.key.now c.in-Some.object.now c.next.new.self c.self.inside.held.entries
    c.into_iter-key-iterator.ensures.into_iter_gives.5 (rw c.in-Some.ensures.steps at c.loop-key.invariant) in
    rw (c.in_ok-insert.ensures.entries, c.in_ok-copy.ensures, c.in_ok-copy-2.ensures) e
