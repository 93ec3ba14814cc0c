use Rattle.std.proofs.lemmas.Result.{IfOk-weaker}
use Rattle.admission_judge.proofs.Verdicts.{allowed_where, named_where}
use Rattle.admission_judge.proofs.judging.judge.Goals as goal

pub returns-clause-allowed : goal.returns-clause-allowed
returns-clause-allowed c = IfOk-weaker c.verdict_of.result _ _ (λ v is. allowed_where c.args.objects.now c.args.review.now.change v is) c.verdict_of.ensures

pub returns-clause-refused : goal.returns-clause-refused
returns-clause-refused c = IfOk-weaker c.verdict_of.result _ _ (λ v is. named_where c.args.objects.now c.args.review.now.change v is) c.verdict_of.ensures
