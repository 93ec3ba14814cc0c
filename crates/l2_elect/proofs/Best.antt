-- The best of some of the nodes.
use Rattle.std.proofs.Common.{◌≡◌, ℕ, List, filter, drop, Option}
use Rattle.std.specs.Option.{option_map, ForSome}
use Rattle.ip_ranges.specs.Values.{AddressValue}
use Rattle.pool_config.specs.declared.compiled.CompiledL2.{CompiledL2}
use Rattle.pool_config.specs.declared.compiled.CompiledPool.{CompiledPool}
use Rattle.speaker_view.specs.ViewValue.{ViewValue}
use Rattle.l2_elect.specs.declared.election.Candidate.{Candidate}
use Rattle.l2_elect.specs.Eligible.{is_eligible_by}
use Rattle.l2_elect.specs.Election.{digest_of, best_from}

-- The best of the one that is known and of the nodes before an index, with its digest: with the rest it gives the answer.
pub record IsBest (v : ViewValue) (address : AddressValue) (text : List ℕ) (pool : CompiledPool) (l2 : List CompiledL2) (known : Option Candidate)
    (nodes : List (List ℕ)) (index : ℕ) (best : Option Candidate) : Type 0 where
  pub answer : best_from text (option_map (λ c. c.node.now) best) (filter (is_eligible_by v address pool l2) (drop index nodes))
      ≡ best_from text (option_map (λ c. c.node.now) known) (filter (is_eligible_by v address pool l2) nodes)
  pub digest : ForSome best (λ c. c.digest ≡ digest_of text c.node.now)
