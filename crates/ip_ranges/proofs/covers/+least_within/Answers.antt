use Rattle.std.proofs.Common.{ap, ap₂, ◌∙◌, sym, arith, min}
use Rattle.ip_ranges.specs.Cover.{cover_within, least_of}
use Rattle.ip_ranges.proofs.CoverLemmas.{lower_placed, upper_placed}
use Rattle.ip_ranges.proofs.CoverTheorems.{least_of-append}
use Rattle.ip_ranges.proofs.covers.+least_within.Goals as goal

pub least_within-lower-requires : goal.least_within-lower-requires
least_within-lower-requires t c =
    let halves = c.in-Halves.ensures.halves in
    (omega arith, lower_placed c.args.span.now c.args.bits c.args.base c.in-Halves.half c.in-Halves.middle c.requires c.in-Halves.ensures)

pub least_within-upper-requires : goal.least_within-upper-requires
least_within-upper-requires t c =
    let halves = c.in-Halves.ensures.halves in
    (omega arith, upper_placed c.args.span.now c.args.bits c.args.base c.in-Halves.half c.in-Halves.middle c.requires c.in-Halves.ensures)

pub returns-in-Halves : goal.returns-in-Halves
returns-in-Halves t c =
    c.min.ensures ∙ ap₂ min c.least_within-lower.ensures c.least_within-upper.ensures
    ∙ sym (ap least_of c.in-Halves.ensures.cover ∙ least_of-append (cover_within c.args.span.now c.in-Halves.half c.args.base) _)
