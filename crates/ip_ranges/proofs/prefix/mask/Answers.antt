use Rattle.std.proofs.Common.{◌-◌, ◌^◌, ◌≤◌, ap, sym, ◌∙◌, subst}
use Rattle.ip_ranges.proofs.BlockLemmas.{masked_by, IsPrefix-masked}
use Rattle.ip_ranges.specs.Values.{width_of}
use Rattle.ip_ranges.proofs.prefix.mask.Goals as goal

pub invariant_of-result : goal.invariant_of-result
invariant_of-result c =
    let host = c.low_ones-host.ensures ∙ ap (λ w. 2 ^ (w - c.args.length) - 1) c.width.ensures in
    let within = subst (λ a. c.args.length ≤ width_of a.family) (sym c.address.view_is) c.requires in
    IsPrefix-masked c.address.inside.family c.address.inside.number c.args.length _ host c.address.invariant within

pub returns-clause-masked : goal.returns-clause-masked
returns-clause-masked c =
    let host = c.low_ones-host.ensures ∙ ap (λ w. 2 ^ (w - c.args.length) - 1) c.width.ensures in
    rw (← c.address.view_is) (masked_by c.address.inside.family c.address.inside.number c.args.length _ host)

pub returns-clause-prefix : goal.returns-clause-prefix
returns-clause-prefix c = invariant_of-result c
