-- The tests of eligibility decide what they should.
use Rattle.std.proofs.Common.{◌≡◌, ℕ, Bool, true, ◌&&◌, List, Contains, filter, Decides}
use Rattle.std.proofs.lemmas.Bool.{and_parts, and_from}
use Rattle.std.proofs.lemmas.Bool.Decides.{Decides-and}
use Rattle.mlb_base.proofs.Lists.{filter-contains, filter-keeps}
use Rattle.ip_ranges.specs.Values.{AddressValue}
use Rattle.pool_config.specs.declared.compiled.CompiledL2.{CompiledL2}
use Rattle.pool_config.specs.declared.compiled.CompiledPool.{CompiledPool}
use Rattle.pool_config.specs.Choice.{Chooses, Selects, chooses, selects}
use Rattle.pool_config.proofs.Tests.{chooses-Decides, selects-Decides}
use Rattle.speaker_view.specs.Endpoints.{announced_from, node_labels}
use Rattle.speaker_view.proofs.Serving.{announced_from-Decides}
use Rattle.speaker_view.specs.ViewValue.{ViewValue}
use Rattle.l2_elect.specs.Eligible.{advertises, is_advertised, is_eligible, IsAdvertised, IsEligible}
use Rattle.l2_elect.proofs.Passing.{passing, passes-where}

module _ (v : ViewValue) (address : AddressValue) (node : List ℕ) where
  pub advertises-Decides : (pool : CompiledPool) (adv : CompiledL2)
      → Decides (advertises v node pool adv) (Chooses adv.pools adv.pool_selectors pool.name pool.labels × Selects adv.node_selectors (node_labels v node))
  advertises-Decides pool adv =
      Decides-and (chooses adv.pools adv.pool_selectors pool.name pool.labels) (selects adv.node_selectors (node_labels v node))
      (chooses-Decides adv.pools adv.pool_selectors pool.name pool.labels) (selects-Decides adv.node_selectors (node_labels v node))

  pub advertised-means : is_advertised v node address ≡ true → IsAdvertised v address node
  advertised-means e =
      let found = passing (advertises v node) address v.held.config e in
      let both = (advertises-Decides found.pool found.advertisement).0 found.passes in (
        found.advertisement,
        record {
          config = found.config;
          there = found.there;
          meant = record { in_force = found.in_force; pool = found.pool; pool_is = found.pool_is; chosen = both.0; selected = both.1 };
        },
      )

  pub means-advertised : IsAdvertised v address node → is_advertised v node address ≡ true
  means-advertised (adv, by) =
      passes-where (advertises v node) address v.held.config by.config by.meant.pool adv by.meant.in_force by.meant.pool_is by.there
      ((advertises-Decides by.meant.pool adv).1 (by.meant.chosen, by.meant.selected))

  -- the eligible nodes are the members that pass
  pub eligible-member : IsEligible v address node → Contains (filter (is_eligible v address) v.members) node
  eligible-member e =
      filter-keeps (is_eligible v address) v.members node e.member
      (and_from (is_advertised v node address) (announced_from v address node) (means-advertised e.advertised)
      ((announced_from-Decides v address node).1 e.recorded))

  pub member-eligible : Contains (filter (is_eligible v address) v.members) node → IsEligible v address node
  member-eligible there =
      let passed = filter-contains (is_eligible v address) v.members node there in
      let both = and_parts (is_advertised v node address) (announced_from v address node) passed.1 in
      record { member = passed.0; advertised = advertised-means both.0; recorded = (announced_from-Decides v address node).0 both.1 }
