use Rattle.std.proofs.Common.{arith}
use Rattle.ip_ranges.proofs.CoverLemmas.{lower_placed, upper_placed}
use Rattle.ip_ranges.proofs.covers.+add_cover.Goals as goal

pub add_cover-requires : goal.add_cover-requires
add_cover-requires t c =
    let halves = c.in-Halves.ensures.halves in
    (omega arith, lower_placed c.args.span.now c.args.bits c.args.base c.in-Halves.half c.in-Halves.middle c.requires c.in-Halves.ensures)

pub add_cover-requires-in-Halves : goal.add_cover-requires-in-Halves
add_cover-requires-in-Halves t c =
    let halves = c.in-Halves.ensures.halves in
    (omega arith, upper_placed c.args.span.now c.args.bits c.args.base c.in-Halves.half c.in-Halves.middle c.requires c.in-Halves.ensures)
