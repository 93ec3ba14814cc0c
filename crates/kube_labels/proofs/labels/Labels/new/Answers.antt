use Rattle.kube_labels.proofs.PairLemmas.{ordered-pairs_of}
use Rattle.kube_labels.proofs.labels.Labels.new.Goals as goal

pub invariant_of-result : goal.invariant_of-result
invariant_of-result c = ordered-pairs_of c.new.result.entries c.new.ensures.ordered
