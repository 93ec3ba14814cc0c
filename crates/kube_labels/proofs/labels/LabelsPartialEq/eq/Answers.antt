use Rattle.std.proofs.Common.{◌∙◌, sym}
use Rattle.kube_labels.proofs.PairLemmas.{pointwise-pairs_of}
use Rattle.kube_labels.proofs.labels.LabelsPartialEq.eq.Goals as goal

pub returns : goal.returns
returns c = rw (← c.self.view_is, ← c.other.view_is) (c.eq.ensures ∙ sym (pointwise-pairs_of c.self.inside.values.entries c.other.inside.values.entries))
