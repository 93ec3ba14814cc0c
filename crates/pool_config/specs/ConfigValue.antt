-- A configuration as contracts see it.
use Rattle.std.specs.Prelude.{ℕ, ◌<◌, ◌≤◌, List, length, map}
use Rattle.std.specs.List.{AllByRecursion, flat_map}
use Rattle.std.specs.List.Sorted.{IsStrictlySortedBy}
use Rattle.std.specs.Ordering.{nat_cmp}
use Rattle.std.specs.declared.cmp.Ordering.{Ordering}
use Rattle.ip_ranges.specs.Values.{AddressValue, SpanValue, Holds}
use Rattle.pool_config.specs.declared.compiled.CompiledPool.{CompiledPool}
use Rattle.pool_config.specs.declared.compiled.CompiledL2.{CompiledL2}
use Rattle.pool_config.specs.declared.compiled.CompiledBgp.{CompiledBgp}
use Rattle.pool_config.specs.declared.compiled.CompiledPeer.{CompiledPeer}
use Rattle.kube_labels.specs.Names.{name_cmp}
use Rattle.large_numbers.specs.Large.{large_cmp}
use Rattle.mlb_base.specs.Items.{ItemAt, Has, IsIn}

pub record ConfigValue : Type 0 where
  pub pools : List CompiledPool
  pub l2 : List CompiledL2
  pub bgp : List CompiledBgp
  pub peers : List CompiledPeer

-- all spans, of the pools in their order, each with its pool's name
abbrev pub placed_spans : List CompiledPool → List (List ℕ × SpanValue)
placed_spans pools = flat_map (λ pool. map (λ span. (pool.name, span)) pool.spans) pools

-- the spans overlap: some address is in both
abbrev pub Overlaps : SpanValue → SpanValue → Type 0
Overlaps s t = (a : AddressValue) × Holds s a × Holds t a

-- no two of the spans overlap
abbrev pub AreApart : List (List ℕ × SpanValue) → Type 0
AreApart spans =
    (i j : ℕ) (a b : List ℕ × SpanValue) → i < j → ItemAt spans i a → ItemAt spans j b
    → ¬ Overlaps a.1 b.1

-- the names ascend, so that no two are the same
abbrev pub Ascend : List (List ℕ) → Type 0
Ascend names = IsStrictlySortedBy name_cmp names

-- an advertisement of the configuration has the value among those that are read of it
abbrev pub HasValue : {K : Type 0} → (CompiledBgp → List K) → ConfigValue → K → Type 0
HasValue values c k = Has (λ adv. IsIn (values adv) k) c.bgp

-- those of each advertisement ascend, and those of all are at most so many, each counted once: as many as any of them that ascend
pub record HasAtMost {K : Type 0} (limit : ℕ) (R : K → K → Ordering) (values : CompiledBgp → List K) (c : ConfigValue) : Type 0 where
  pub ascend : AllByRecursion (λ adv. IsStrictlySortedBy R (values adv)) c.bgp
  pub few : (ks : List K) → IsStrictlySortedBy R ks → AllByRecursion (HasValue values c) ks → length ks ≤ limit

-- at most 512 communities (RFC 1997), and at most 128 large ones (RFC 8092)
pub record HasFewCommunities (c : ConfigValue) : Type 0 where
  pub numbers : HasAtMost 512 nat_cmp (λ adv. adv.communities) c
  pub large : HasAtMost 128 large_cmp (λ adv. adv.large) c

-- in each list the names ascend, no two spans, of one pool or of two, overlap, and there are few communities
pub record IsConfig (c : ConfigValue) : Type 0 where
  pub pools : Ascend (map (λ p. p.name) c.pools)
  pub l2 : Ascend (map (λ a. a.name) c.l2)
  pub bgp : Ascend (map (λ a. a.name) c.bgp)
  pub peers : Ascend (map (λ p. p.name) c.peers)
  pub apart : AreApart (placed_spans c.pools)
  pub communities : HasFewCommunities c
