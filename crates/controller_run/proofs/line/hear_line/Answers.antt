use Rattle.std.proofs.Common.{◌≡◌, sym, ◌∙◌, false}
use Rattle.std.proofs.lemmas.Result.{err_from_is_err_and}
use Rattle.std.specs.Result.{is_err}
use Rattle.core_rules.specs.Replied.{core_reply}
use Rattle.line_run.proofs.Texts.{at_ok}
use Rattle.line_run.proofs.Refusals.{broken}
use Rattle.controller_run.specs.Stream.{controller_rules}
use Rattle.controller_run.proofs.Steps.{hears, hears_broken}
use Rattle.controller_run.proofs.line.hear_line.Goals as goal

pub returns-clause-ok : goal.returns-clause-ok
returns-clause-ok g c =
    let fine : is_err c.answered.result ≡ false = sym c.is_err.ensures.value ∙ c.if-is_err.false in
    let leads : c.answered.new.self ≡ core_reply c.args.core.now c.in-Ok.reply = at_ok c.answered.result fine c.answered.ensures.ok in
    hears c.args.core.now c.answered.new.self c.args.line c.in-Ok.reply c.requires c.in-Ok.ensures leads c.make_turns.new.core
    _ _ c.in_ok-make_turns.ensures.core c.in_ok-make_turns.ensures.ok

pub returns-in_err-make_turns-clause-err : goal.returns-in_err-make_turns-clause-err
returns-in_err-make_turns-clause-err g c =
    let fine : is_err c.answered.result ≡ false = sym c.is_err.ensures.value ∙ c.if-is_err.false in
    let leads : c.answered.new.self ≡ core_reply c.args.core.now c.in-Ok.reply = at_ok c.answered.result fine c.answered.ensures.ok in
    let p = err_from_is_err_and c.from_residual.result c.from_residual.ensures.1 in
    rw (p.1, p.2)
    (broken c.in_err-make_turns.field-0.0 controller_rules c.args.core.now c.args.line _ _ _ _ (hears_broken c.args.core.now c.answered.new.self c.args.line
    c.in-Ok.reply c.requires c.in-Ok.ensures leads c.in_err-make_turns.field-0.0 _ _ _ _ c.in_err-make_turns.ensures.err))
