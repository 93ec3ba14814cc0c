use Rattle.kube_labels.proofs.PairLaws.{value_of-with_pair, value_of-with_pair_other}
use Rattle.kube_labels.proofs.PairLemmas.{pairs_of-insert_entry, ordered-pairs_of}
use Rattle.kube_labels.proofs.labels.Labels.set.Goals as goal

pub returns-clause-ok : goal.returns-clause-ok
returns-clause-ok c = rw (c.in_ok-insert.ensures.entries, pairs_of-insert_entry, c.into_string.ensures, c.self.view_is)

pub returns-clause-at_key : goal.returns-clause-at_key
returns-clause-at_key c = rw (returns-clause-ok c) (value_of-with_pair c.args.key c.args.value c.args.self.now)

pub returns-clause-others : goal.returns-clause-others
returns-clause-others c = λ other differ. rw (returns-clause-ok c) (value_of-with_pair_other other c.args.key c.args.value c.args.self.now differ)

pub invariant_of-self-2 : goal.invariant_of-self-2
invariant_of-self-2 c = ordered-pairs_of c.insert.new.self.entries c.in_ok-insert.ensures.ordered

pub returns-clause-ordered : goal.returns-clause-ordered
returns-clause-ordered c = ordered-pairs_of c.insert.new.self.entries c.in_ok-insert.ensures.ordered
