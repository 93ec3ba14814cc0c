use Rattle.std.proofs.Common.{◌≤◌, length, sym, subst}
use Rattle.std.proofs.lemmas.Result.{IfOk-weaker}
use Rattle.std.specs.List.{AllByRecursion}
use Rattle.world_trial.specs.declared.report.TrialReport.{TrialReport}
use Rattle.world_trial.specs.Lines.{AreByKey, IsNumbered, keys_in, lines_in}
use Rattle.world_trial.specs.Run.{trial_world}
use Rattle.world_trial.proofs.ByKey.{lines-by_key}
use Rattle.world_trial.proofs.Few.{few-lines}
use Rattle.world_trial.proofs.Making.{made-is}
use Rattle.world_trial.proofs.Numbered.{trial-numbered}
use Rattle.world_trial.proofs.Safe.{good-trial}
use Rattle.world_trial.proofs.trials.trial.Goals as goal

pub returns-clause-by_key : goal.returns-clause-by_key
returns-clause-by_key c =
    IfOk-weaker c.report_of.result _ _
    (λ report is. subst (λ (r : TrialReport). AreByKey r.records) (sym is)
    (lines-by_key (trial_world c.args.seed c.args.steps).store.objects (good-trial c.args.seed c.args.steps).stored.kept.ascending))
    c.report_of.ensures

pub returns-clause-numbered : goal.returns-clause-numbered
returns-clause-numbered c =
    IfOk-weaker c.report_of.result _ _
    (λ report is. subst (λ (r : TrialReport). AllByRecursion IsNumbered (keys_in r.records)) (sym is) (trial-numbered c.args.seed c.args.steps))
    c.report_of.ensures

pub returns-clause-few : goal.returns-clause-few
returns-clause-few c =
    IfOk-weaker c.report_of.result _ _
    (λ report is. subst (λ (r : TrialReport). length r.records ≤ 48) (sym is)
    (few-lines (lines_in (trial_world c.args.seed c.args.steps).store.objects) (trial-numbered c.args.seed c.args.steps)
    (lines-by_key (trial_world c.args.seed c.args.steps).store.objects (good-trial c.args.seed c.args.steps).stored.kept.ascending)))
    c.report_of.ensures

pub returns-clause-safe : goal.returns-clause-safe
returns-clause-safe c = λ n. (good-trial c.args.seed n).stored.safe

pub returns-clause-made : goal.returns-clause-made
returns-clause-made c = λ n step. made-is step (trial_world c.args.seed n) (good-trial c.args.seed n).stored.kept
