use Rattle.std.proofs.Common.{◌<◌, length}
use Rattle.std.proofs.lemmas.Result.{err_from_is_err_and}
use Rattle.fenced_run.specs.Stepping.{state_of}
use Rattle.fenced_run.proofs.Turning.{broken, goes_further, shorter}
use Rattle.fenced_run.proofs.turns.make_turns.Goals as goal

pub returns-in_err-make_turn-clause-err : goal.returns-in_err-make_turn-clause-err
returns-in_err-make_turn-clause-err g c =
    let some : 0 < length c.turns.core.queue = c.has_turn.ensures.0 c.turns-test.true in
    let p = err_from_is_err_and c.from_residual.result c.from_residual.ensures.1 in
    rw (p.1, p.2)
    (broken (state_of c.args.core.now c.args.fence.now) (state_of c.turns.core c.turns.fence) _ (g.K.Sink.written c.turns.out) _ _
    (g.K.Sink.faults c.turns.out) _ c.turns.invariant c.in_err-make_turn.field-0.0 some c.in_err-make_turn.ensures.err)

pub turns-preserved : goal.turns-preserved
turns-preserved g c =
    let some : 0 < length c.turns.core.queue = c.has_turn.ensures.0 c.turns-test.true in
    goes_further (state_of c.args.core.now c.args.fence.now) (state_of c.turns.core c.turns.fence) _ (g.K.Sink.written c.turns.out) _ _
    (g.K.Sink.faults c.turns.out) _ c.turns.invariant c.in_ok-make_turn.field-0 (state_of c.make_turn.new.core c.make_turn.new.fence) some
    c.if-not-branch.false c.in_ok-make_turn.ensures.step c.in_ok-make_turn.ensures.ok c.make_turn.ensures.later

pub turns-smaller : goal.turns-smaller
turns-smaller g c =
    let some : 0 < length c.turns.core.queue = c.has_turn.ensures.0 c.turns-test.true in
    shorter (state_of c.args.core.now c.args.fence.now) (state_of c.turns.core c.turns.fence) (g.K.Sink.written c.args.out.now)
    (g.K.Sink.written c.turns.out) (g.K.Sink.written c.make_turn.new.out) (g.K.Sink.faults c.args.out.now) (g.K.Sink.faults c.turns.out)
    (g.K.Sink.faults c.make_turn.new.out) c.turns.invariant c.in_ok-make_turn.field-0 (state_of c.make_turn.new.core c.make_turn.new.fence) some
    c.in_ok-make_turn.ensures.step
