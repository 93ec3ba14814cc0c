use Rattle.std.proofs.Common.{sym, ◌∙◌, ap}
use Rattle.kube_labels.specs.Pairs.{value_of}
use Rattle.kube_labels.proofs.PairLemmas.{value_of-pairs_of}
use Rattle.kube_labels.proofs.labels.Labels.get.Goals as goal

pub returns-clause-value : goal.returns-clause-value
returns-clause-value c = c.get.ensures.value ∙ sym (value_of-pairs_of c.self.inside.values.entries c.args.key.now) ∙ ap (value_of c.args.key.now) c.self.view_is
