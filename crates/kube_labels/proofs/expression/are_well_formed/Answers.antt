use Rattle.std.proofs.Common.{rules}
use Rattle.std.proofs.lemmas.Bool.Decides.{Decides-at}
use Rattle.kube_labels.proofs.FaultLaws.{well_formed-Decides}
use Rattle.kube_labels.proofs.expression.are_well_formed.Goals as goal

pub returns-clause-value : goal.returns-clause-value
returns-clause-value c = search rules

pub returns-clause-meaning : goal.returns-clause-meaning
returns-clause-meaning c = Decides-at _ _ (returns-clause-value c) (well_formed-Decides c.args.expressions.now)
