use Rattle.std.proofs.Common.{ap, ◌∙◌, ◌++◌, subst}
use Rattle.ip_ranges.specs.Values.{IsRange, width_of}
use Rattle.ip_ranges.specs.Cover.{cover_within}
use Rattle.ip_ranges.proofs.CoverTheorems.{within_all, IsCover-cover_of, length-cover_of}
use Rattle.ip_ranges.proofs.covers.cover.Goals as goal

pub returns-clause-value : goal.returns-clause-value
returns-clause-value c =
    c.in_ok-add_cover.ensures
    ∙ ap (λ ps. ps ++ cover_within c.args.span.now c.width.result 0) c.new-prefixes.ensures
    ∙ within_all c.args.span.now _ (c.width.ensures ∙ ap (λ s. width_of s.family) c.span.view_is)

pub returns-clause-cover : goal.returns-clause-cover
returns-clause-cover c = rw (returns-clause-value c) (IsCover-cover_of c.args.span.now (subst IsRange c.span.view_is c.span.invariant))

pub returns-clause-short : goal.returns-clause-short
returns-clause-short c = rw (returns-clause-value c) (length-cover_of c.args.span.now)
