use Rattle.pool_config.proofs.span_index.SpanIndex.holder.Goals as goal

pub returns-clause-none : goal.returns-clause-none
returns-clause-none c = rw (← c.address.view_is, ← c.of_family.ensures) c.holder.ensures.none
