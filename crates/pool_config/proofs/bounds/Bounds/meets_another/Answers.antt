use Rattle.ip_ranges.specs.Values.{SpanValue}
use Rattle.pool_config.proofs.Counts.{met_counts}
use Rattle.pool_config.proofs.bounds.Bounds.meets_another.Goals as goal

pub returns-clause-exact : goal.returns-clause-exact
returns-clause-exact c = λ spans are.
    let span : SpanValue = record { family = c.span.inside.family; low = c.span.inside.low; high = c.span.inside.high } in
    rw (← c.span.view_is, c.ended_below.ensures, c.begun_at.ensures, c.of_family-bounds.ensures) (met_counts spans c.args.self.now are span c.span.invariant.0)
