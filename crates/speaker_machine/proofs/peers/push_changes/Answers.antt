use Rattle.std.proofs.Common.{◌++◌, Bool, ap, ap₂, sym, ◌∙◌, subst}
use Rattle.bgp_updates.specs.Between.{HasHops}
use Rattle.speaker_machine.specs.Kept.{part_at, part_updates, updates_of}
use Rattle.speaker_machine.proofs.Parts.{Routes, mapped-at, part-hops, told-next}
use Rattle.speaker_machine.proofs.peers.push_changes.Goals as goal

pub loop-place-preserved : goal.loop-place-preserved
loop-place-preserved c =
    λ was now before right.
    let change = c.args.change.now in
    let node = c.args.kept.now.node in
    let hops = c.args.hops.now in
    let both = c.args.kept.now.both in
    let peer = c.index-peers-place.result in
    told-next (part_updates change was now node hops) c.loop-place.entries c.push_change.new.entries c.args.peers.now c.loop-place.place peer
    _ c.loop-place-test.true c.index-peers-place.is
    (c.in_ok-push_change.ensures
    ∙ ap₂ (λ (old new : Routes). c.loop-place.entries ++ updates_of old new hops peer)
    (mapped-at (part_at change was node both) c.args.peers.now c.args.before.now c.loop-place.place peer c.index-before-place.result c.loop-place-test.true
    c.index-peers-place.is before c.index-before-place.is)
    (c.in_ok-after.ensures.part now right)
    ∙ ap (λ (b : Bool). c.loop-place.entries ++ updates_of (part_at change was node b peer) (part_at change now node b peer) hops peer) c.requires.both)
    (c.loop-place.invariant was now before right)

pub push_change-requires-clause-told : goal.push_change-requires-clause-told
push_change-requires-clause-told c =
    let (now, right) = c.requires.kept in
    let change = c.args.change.now in
    let node = c.args.kept.now.node in
    let hops = c.args.hops.now in
    let peer = c.index-peers-place.result in
    subst (HasHops hops.v6) (sym (c.in_ok-after.ensures.part now right ∙ ap (λ (b : Bool). part_at change now node b peer) c.requires.both))
    (part-hops hops change now node peer c.requires.hops)
