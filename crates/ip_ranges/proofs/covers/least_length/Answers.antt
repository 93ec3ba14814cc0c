use Rattle.std.proofs.Common.{ap, ◌∙◌, subst}
use Rattle.ip_ranges.specs.Values.{IsRange, width_of}
use Rattle.ip_ranges.proofs.CoverTheorems.{least_length_of-within, least_length_of-least, least_length_of-found}
use Rattle.ip_ranges.proofs.covers.least_length.Goals as goal

pub returns-clause-value : goal.returns-clause-value
returns-clause-value c =
    c.least_within.ensures ∙ least_length_of-within c.args.span.now _ (c.width.ensures ∙ ap (λ s. width_of s.family) c.span.view_is)

pub returns-clause-least : goal.returns-clause-least
returns-clause-least c = rw (returns-clause-value c) (least_length_of-least c.args.span.now)

pub returns-clause-found : goal.returns-clause-found
returns-clause-found c = rw (returns-clause-value c) (least_length_of-found c.args.span.now (subst IsRange c.span.view_is c.span.invariant))
