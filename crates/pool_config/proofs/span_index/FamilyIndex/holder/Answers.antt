use Rattle.std.proofs.Common.{sym, arith}
use Rattle.pool_config.proofs.SpanPlaces.{none-begun, last-holds, last-cuts}
use Rattle.pool_config.proofs.span_index.FamilyIndex.holder.Goals as goal

pub returns-then-begun-eq0-clause-none : goal.returns-then-begun-eq0-clause-none
returns-then-begun-eq0-clause-none c = none-begun c.args.self.now.spans.items c.args.number c.begun-begun.result c.begun-begun.ensures.parts c.if-begun-eq0.true

pub returns-then-number-last-clause-found : goal.returns-then-number-last-clause-found
returns-then-number-last-clause-found c =
    last-holds c.args.self.now.spans.items c.args.number c.begun-begun.result c.begun-begun.ensures.parts c.index-last.result.now (omega arith)
    c.begun-begun.ensures.bound (sym c.index-last.ensures) c.if-number-last.true

pub returns-else-number-last-clause-none : goal.returns-else-number-last-clause-none
returns-else-number-last-clause-none c =
    last-cuts c.args.self.now.spans.items c.args.number c.begun-begun.result c.begun-begun.ensures.parts c.index-last.result.now (omega arith)
    c.begun-begun.ensures.bound (sym c.index-last.ensures) c.args.self.now.ascend c.if-number-last.false
