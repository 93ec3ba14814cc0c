use Rattle.claim_index.proofs.IndexGrowth.{indexed-none}
use Rattle.claim_index.proofs.index.ClaimIndex.new.Goals as goal

pub invariant_of-result : goal.invariant_of-result
invariant_of-result c =
    indexed-none c.new.result.items c.new-2.result c.new-3.result c.new-4.result c.new.ensures c.new-2.ensures c.new-4.ensures.numbers
