use Rattle.std.proofs.Common.{Ordering, IsSorted, subst}
use Rattle.pool_choice.specs.declared.choice.RankedPool.{RankedPool}
use Rattle.pool_choice.specs.contracts.choice.RankedPoolOrd.TheImpl as derived
use Rattle.pool_choice.proofs.EligibleLaws.{ranked-sorted}
use Rattle.pool_choice.proofs.RankLaws.{ranked_cmp-is}
use Rattle.pool_choice.proofs.choice.in_order.Goals as goal

pub returns : goal.returns
returns c =
    let up : IsSorted derived.cmp-value.it c.sort_unstable.new.self.items = c.sort_unstable.ensures.sorted in
    ranked-sorted c.args.service.now c.args.namespace.now c.args.pools.now c.in_ok-ranked.ranked.items c.sort_unstable.new.self.items c.in_ok-ranked.ensures
    c.sort_unstable.ensures.permutation
    (subst (λ (cmp : RankedPool → RankedPool → Ordering). IsSorted cmp c.sort_unstable.new.self.items) ranked_cmp-is up)
