use Rattle.std.proofs.Common.{◌-◌, sym, arith, refl, length}
use Rattle.std.proofs.lemmas.Option.{slice_get_read}
use Rattle.claim_index.proofs.GrowthLaws.{slot-of_port}
use Rattle.claim_index.proofs.slots.slot_at.Goals as goal

pub returns : goal.returns
returns c =
    let ports = c.args.ports.now in
    let port = c.in_ok-port.field-0.now in
    let lookup = c.in_ok-port.ensures.lookup in
    let there = lookup.3 in
    sym (slot-of_port c.args.group c.in_ok-group.group ports c.args.index port c.in_ok-group.was (omega arith)
    (slice_get_read ports (length ports) (c.args.index - 2) port refl there.0 lookup.1))
