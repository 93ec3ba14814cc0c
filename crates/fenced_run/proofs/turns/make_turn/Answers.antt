use Rattle.std.proofs.Common.{◌≡◌, sym, ◌∙◌}
use Rattle.core_rules.specs.Turn.{core_turn}
use Rattle.core_rules.specs.declared.turn.Turn.TheVariants.{Wants}
use Rattle.fenced_run.proofs.Telling.{wants_step, wants_ok, wants_err}
use Rattle.fenced_run.proofs.turns.make_turn.Goals as goal

pub returns-in_ok-write_reason-in-Wants-clause-step : goal.returns-in_ok-write_reason-in-Wants-clause-step
returns-in_ok-write_reason-in-Wants-clause-step g c =
    let turned : core_turn c.args.core.now ≡ Wants c.in-Wants.put c.in-Wants.pending = sym c.in_ok-turn.ensures.turn ∙ c.in-Wants.is in
    wants_step c.args.core.now c.next_put.new.self c.args.fence.now c.in-Wants.put c.in-Wants.pending turned c.in_ok-turn.ensures.ok c.tell.result _
    c.tell.ensures.step

pub returns-in_ok-write_reason-in-Wants-clause-ok : goal.returns-in_ok-write_reason-in-Wants-clause-ok
returns-in_ok-write_reason-in-Wants-clause-ok g c =
    let turned : core_turn c.args.core.now ≡ Wants c.in-Wants.put c.in-Wants.pending = sym c.in_ok-turn.ensures.turn ∙ c.in-Wants.is in
    wants_ok c.args.core.now c.next_put.new.self c.args.fence.now c.in-Wants.put c.in-Wants.pending turned c.in_ok-turn.ensures.ok c.tell.result _ _ _
    c.in_ok-write_reason-in-Wants.ensures.ok c.tell.ensures.ok

pub returns-in_ok-write_reason-in-Wants-clause-err : goal.returns-in_ok-write_reason-in-Wants-clause-err
returns-in_ok-write_reason-in-Wants-clause-err g c =
    let turned : core_turn c.args.core.now ≡ Wants c.in-Wants.put c.in-Wants.pending = sym c.in_ok-turn.ensures.turn ∙ c.in-Wants.is in
    wants_err c.args.core.now c.next_put.new.self c.args.fence.now c.in-Wants.put c.in-Wants.pending turned c.in_ok-turn.ensures.ok c.tell.result _ _ _ _ _ _
    c.in_ok-write_reason-in-Wants.ensures.ok c.write_reason-in-Wants.ensures.later c.tell.ensures.err
