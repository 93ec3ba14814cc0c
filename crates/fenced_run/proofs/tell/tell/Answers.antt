use Rattle.std.proofs.lemmas.Result.{err_from_is_err_and}
use Rattle.fenced_run.proofs.Telling.{telling_halts}
use Rattle.fenced_run.proofs.tell.tell.Goals as goal

pub returns-in_err-answered-clause-err : goal.returns-in_err-answered-clause-err
returns-in_err-answered-clause-err g c =
    let p = err_from_is_err_and c.from_residual-in_err-answered.result c.from_residual-in_err-answered.ensures.1 in
    rw (p.1, p.2)
    (telling_halts c.args.input c.args.core.now c.args.fence.now (g.K.Sink.written c.args.out.now) (g.K.Sink.written c.tell_fence.new.out) (g.K.Sink.faults c.args.out.now)
    (g.K.Sink.faults c.tell_fence.new.out)
    c.in_ok-reply.ensures.ok)
