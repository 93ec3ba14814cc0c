use Rattle.std.proofs.Common.{◌∙◌, refl}
use Rattle.std.proofs.lemmas.Result.{IfOk-weaker}
use Rattle.world_trial.proofs.Counts.{counts-same}
use Rattle.world_trial.proofs.text.counts_line.Goals as goal

pub returns : goal.returns
returns c =
    IfOk-weaker c.trial_line.result _ _
    (λ line is. is ∙ counts-same _ _ _ _ c.args.report.now.puts c.args.report.now.steps
    (rw (c.assigned_in-assigned.ensures, c.as_slice-records.ensures) refl) (rw c.as_slice-records.ensures refl)) c.trial_line.ensures
