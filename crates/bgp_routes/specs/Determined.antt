-- What is so of a table decides it.
use Rattle.std.specs.Prelude.{◌≡◌, ℕ, Bool, List}
use Rattle.std.specs.List.{AllByRecursion}
use Rattle.std.specs.List.Sorted.{IsStrictlySortedBy}
use Rattle.std.specs.Map.{keys_of}
use Rattle.std.specs.Ordering.{nat_cmp}
use Rattle.ip_ranges.specs.Values.{PrefixValue}
use Rattle.large_numbers.specs.Large.{large_cmp}
use Rattle.pool_config.specs.declared.compiled.CompiledPeer.{CompiledPeer}
use Rattle.speaker_view.specs.ViewValue.{ViewValue}
use Rattle.bgp_updates.specs.declared.route.Terms.{Terms}
use Rattle.bgp_updates.specs.Tables.{Ascend}
use Rattle.bgp_routes.specs.Laws.{AreRoutes}

-- the communities of the route ascend, each once, and so do its large ones
pub record Ascends (route : PrefixValue × Terms) : Type 0 where
  pub numbers : IsStrictlySortedBy nat_cmp route.1.communities
  pub large : IsStrictlySortedBy large_cmp route.1.large

-- the routes of a node for a peer, by ascending prefix, each with communities that ascend
pub record IsTableOf (v : ViewValue) (node : List ℕ) (peer : CompiledPeer) (both : Bool) (table : List (PrefixValue × Terms)) : Type 0 where
  pub prefixes : Ascend (keys_of table)
  pub communities : AllByRecursion Ascends table
  pub routes : AreRoutes v node peer both table

-- There is one at most.
abbrev pub TablesAreDetermined : Type 0
TablesAreDetermined = (v : ViewValue) (node : List ℕ) (peer : CompiledPeer) (both : Bool) (t t' : List (PrefixValue × Terms))
    → IsTableOf v node peer both t → IsTableOf v node peer both t' → t ≡ t'
