use Rattle.std.proofs.Common.{◌∙◌}
use Rattle.kube_labels.proofs.PairLemmas.{pairs_of-clone}
use Rattle.kube_labels.proofs.labels.LabelsTryCopy.copy.Goals as goal

pub returns : goal.returns
returns c = pairs_of-clone c.self.inside.values.entries c.in_ok-clone.field-0.entries c.in_ok-clone.ensures.cases ∙ c.self.view_is

pub invariant_of-result : goal.invariant_of-result
invariant_of-result c = rw (pairs_of-clone c.self.inside.values.entries c.in_ok-clone.field-0.entries c.in_ok-clone.ensures.cases) c.self.invariant
