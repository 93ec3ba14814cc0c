use Rattle.full_entries.proofs.entries.FullEntries.new.Goals as goal

pub invariant_of-result : goal.invariant_of-result
invariant_of-result c = (
  rw c.as_slice-3.ensures.value at (c.finds_all.ensures c.if-not-finds_all.false),
  rw c.as_slice-else-not-finds_all.ensures.value at (c.finds_all-else-not-finds_all.ensures c.if-not-finds_all-2.false),
)
