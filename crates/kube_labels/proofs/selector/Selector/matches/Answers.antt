use Rattle.std.proofs.Common.{rules}
use Rattle.std.proofs.lemmas.Bool.Decides.{Decides-at}
use Rattle.kube_labels.proofs.FaultLaws.{first_fault_none}
use Rattle.kube_labels.proofs.MatchLaws.{matches-Decides}
use Rattle.kube_labels.proofs.selector.Selector.matches.Goals as goal

pub returns-then-has_all-clause-value : goal.returns-then-has_all-clause-value
returns-then-has_all-clause-value c = search rules

pub returns-then-has_all-clause-meaning : goal.returns-then-has_all-clause-meaning
returns-then-has_all-clause-meaning c =
    Decides-at _ _ (returns-then-has_all-clause-value c) (matches-Decides c.args.self.now c.args.labels.now c.has_all.ensures.ordered)

pub returns-then-has_all-clause-well_formed : goal.returns-then-has_all-clause-well_formed
returns-then-has_all-clause-well_formed c = rw (← c.self.view_is) ((first_fault_none c.self.inside.expressions).0 c.self.invariant)

pub returns-else-has_all-clause-value : goal.returns-else-has_all-clause-value
returns-else-has_all-clause-value c = search rules

pub returns-else-has_all-clause-meaning : goal.returns-else-has_all-clause-meaning
returns-else-has_all-clause-meaning c =
    Decides-at _ _ (returns-else-has_all-clause-value c) (matches-Decides c.args.self.now c.args.labels.now c.has_all.ensures.ordered)

pub returns-else-has_all-clause-well_formed : goal.returns-else-has_all-clause-well_formed
returns-else-has_all-clause-well_formed c = rw (← c.self.view_is) ((first_fault_none c.self.inside.expressions).0 c.self.invariant)
