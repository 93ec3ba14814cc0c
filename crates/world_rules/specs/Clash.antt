-- Why a store isn't safe.
use Rattle.std.specs.Prelude.{◌≡◌, ◌≢◌, ◌↔◌}
use Rattle.std.specs.List.{Contains}
use Rattle.std.specs.Ordering.{ordering_then}
use Rattle.std.specs.declared.cmp.Ordering.TheVariants.{Less}
use Rattle.ip_ranges.specs.Values.{AddressValue}
use Rattle.kube_model.specs.declared.key.Key.{Key}
use Rattle.kube_model.specs.declared.record.Record.{Record}
use Rattle.kube_model.specs.Keys.{key_cmp}
use Rattle.sharing_terms.specs.declared.terms.Terms.{Terms}
use Rattle.sharing_terms.specs.Marked.{IsMarkOf}
use Rattle.sharing_terms.specs.Sharing.{MayShare}
use Rattle.status_store.specs.Changes.{StoreValue}
use Rattle.world_rules.specs.Safe.{IsRecorded, IsSafe}

-- Two services are recorded with one address, both records are marked, and the terms of their marks may not share it.
pub record Clash (store : StoreValue) (first second : Key) : Type 0 where
  pub apart : first ≢ second
  pub r : Record
  pub q : Record
  pub recorded : IsRecorded store first r
  pub recorded_too : IsRecorded store second q
  pub address : AddressValue
  pub there : Contains r.addresses address
  pub there_too : Contains q.addresses address
  pub terms : Terms
  pub others : Terms
  pub marked : IsMarkOf terms r.mark
  pub marked_too : IsMarkOf others q.mark
  pub unshared : ¬ (MayShare terms others)

-- such services, where no such pair stands before them: by the first key, and then by the second
pub record IsLeastClash (store : StoreValue) (first second : Key) : Type 0 where
  pub clash : Clash store first second
  pub least : (a b : Key) → Clash store a b → ¬ (ordering_then (key_cmp a first) (key_cmp b second) ≡ Less)

-- a store is safe exactly where no two services are such
abbrev pub SafeWithoutClash : Type 0
SafeWithoutClash = (store : StoreValue) → IsSafe store ↔ ((first second : Key) → ¬ (Clash store first second))
