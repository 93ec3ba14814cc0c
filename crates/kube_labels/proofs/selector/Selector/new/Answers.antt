use Rattle.std.proofs.Common.{rules}
use Rattle.kube_labels.proofs.FaultLaws.{selector_of_ok, selector_of_err}
use Rattle.kube_labels.proofs.selector.Selector.new.Goals as goal

pub returns-in-Some-clause-value : goal.returns-in-Some-clause-value
returns-in-Some-clause-value c = search rules

pub returns-in-Some-clause-accepted : goal.returns-in-Some-clause-accepted
returns-in-Some-clause-accepted c = selector_of_ok c.args.labels c.args.expressions _ (returns-in-Some-clause-value c)

pub returns-in-Some-clause-refused : goal.returns-in-Some-clause-refused
returns-in-Some-clause-refused c = selector_of_err c.args.labels c.args.expressions _ (returns-in-Some-clause-value c)

pub returns-in-None-clause-value : goal.returns-in-None-clause-value
returns-in-None-clause-value c = search rules

pub returns-in-None-clause-accepted : goal.returns-in-None-clause-accepted
returns-in-None-clause-accepted c = selector_of_ok c.args.labels c.args.expressions _ (returns-in-None-clause-value c)

pub returns-in-None-clause-refused : goal.returns-in-None-clause-refused
returns-in-None-clause-refused c = selector_of_err c.args.labels c.args.expressions _ (returns-in-None-clause-value c)
