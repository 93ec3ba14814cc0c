use Rattle.std.proofs.Common.{Some, ap, ◌∙◌, sym}
use Rattle.command_options.specs.Options.{texts_of}
use Rattle.controller_words.specs.Seen.{asked_seen}
use Rattle.controller_run.proofs.Asking.{run_no_lanes, trial_no_lanes}
use Rattle.controller_run.proofs.run.lanes_asked.Goals as goal

pub returns-in-Some-Run-clause-none : goal.returns-in-Some-Run-clause-none
returns-in-Some-Run-clause-none c =
    run_no_lanes (texts_of c.args.words.now) _ (sym (ap (λ x. Some (asked_seen x)) c.in-Some-Run.field-0-is) ∙ c.in-Some-Run.ensures.value)

pub returns-in-Some-Trial-clause-none : goal.returns-in-Some-Trial-clause-none
returns-in-Some-Trial-clause-none c =
    trial_no_lanes (texts_of c.args.words.now) _ _ (sym (ap (λ x. Some (asked_seen x)) c.in-Some-Trial.field-0-is) ∙ c.in-Some-Trial.ensures.value)
