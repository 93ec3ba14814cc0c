use Rattle.kube_labels.specs.Pairs.{pairs_of}
use Rattle.sharing_terms.specs.Marked.{AreTexts}
use Rattle.ctl_world.proofs.terms.are_pairs.Given as goal

-- where the pairs left are texts, all are
abbrev pub invariant-loop-name : goal.invariant-loop-name
invariant-loop-name l = AreTexts (pairs_of l.name-iterator) → AreTexts l.labels
