use Rattle.std.proofs.Common.{◌-◌, ◌^◌, ap, ◌∙◌, arith}
use Rattle.ip_ranges.proofs.BlockLemmas.{IsRange-span, width_le}
use Rattle.ip_ranges.proofs.prefix.Prefix.span.Goals as goal

pub overflow_add-result : goal.overflow_add-result
overflow_add-result c =
    let host = c.low_ones.ensures ∙ ap (λ w. 2 ^ (w - c.self.inside.length) - 1) c.width.ensures in
    let range = IsRange-span c.self.inside.family c.self.inside.number c.self.inside.length _ host c.self.invariant in
    let below = width_le c.self.inside.family _ range.1 in
    omega arith

pub invariant_of-result : goal.invariant_of-result
invariant_of-result c =
    let host = c.low_ones.ensures ∙ ap (λ w. 2 ^ (w - c.self.inside.length) - 1) c.width.ensures in
    IsRange-span c.self.inside.family c.self.inside.number c.self.inside.length _ host c.self.invariant

pub returns-clause-range : goal.returns-clause-range
returns-clause-range c = invariant_of-result c
