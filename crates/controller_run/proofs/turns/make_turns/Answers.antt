use Rattle.std.proofs.Common.{◌≡◌, ◌<◌, length, sym, ◌∙◌, true, false, is_some}
use Rattle.std.proofs.lemmas.Result.{err_from_is_err_and}
use Rattle.core_rules.specs.Turn.{put_in}
use Rattle.controller_run.proofs.Turning.{wanting, broken, ends_at_put, goes_on}
use Rattle.controller_run.proofs.turns.make_turns.Goals as goal

pub returns-in_err-turn-clause-err : goal.returns-in_err-turn-clause-err
returns-in_err-turn-clause-err g c =
    let p = err_from_is_err_and c.from_residual.result c.from_residual.ensures.1 in
    rw (p.1, p.2) (wanting c.args.core.now c.turns.core _ (g.K.Sink.written c.turns.out) (g.K.Sink.written c.turns.out) _ (g.K.Sink.faults c.turns.out)
    (g.K.Sink.faults c.turns.out) c.turns.invariant)

pub returns-in-Err-clause-err : goal.returns-in-Err-clause-err
returns-in-Err-clause-err g c =
    let some : 0 < length c.turns.core.queue = c.has_turn.ensures.0 c.turns-test.true in
    broken c.args.core.now c.turns.core _ (g.K.Sink.written c.turns.out) _ _ (g.K.Sink.faults c.turns.out) _ c.turns.invariant c.in-Err.halt c.in_ok-turn.turn
    some c.in_ok-turn.ensures.turn c.in-Err.ensures.err

pub returns-then-wants_put-clause-ok : goal.returns-then-wants_put-clause-ok
returns-then-wants_put-clause-ok g c =
    let some : 0 < length c.turns.core.queue = c.has_turn.ensures.0 c.turns-test.true in
    let wanted : is_some (put_in c.in_ok-turn.turn) ≡ true = sym c.wants_put.ensures ∙ c.if-wants_put.true in
    ends_at_put c.args.core.now c.turns.core _ (g.K.Sink.written c.turns.out) _ (g.K.Sink.faults c.args.out.now) (g.K.Sink.faults c.turns.out)
    (g.K.Sink.faults c.turns.out) c.turns.invariant c.in_ok-turn.turn some c.in_ok-turn.ensures.turn wanted c.in_default.ensures.ok

pub turns-preserved : goal.turns-preserved
turns-preserved g c =
    let some : 0 < length c.turns.core.queue = c.has_turn.ensures.0 c.turns-test.true in
    let unwanted : is_some (put_in c.in_ok-turn.turn) ≡ false = sym c.wants_put.ensures ∙ c.if-wants_put.false in
    goes_on c.args.core.now c.turns.core _ (g.K.Sink.written c.turns.out) _ _ (g.K.Sink.faults c.turns.out) _ c.turns.invariant c.in_ok-turn.turn
    c.next_put.new.self some c.in_ok-turn.ensures.turn c.in_ok-turn.ensures.ok unwanted c.in_default.ensures.ok c.write_turn.ensures.later
