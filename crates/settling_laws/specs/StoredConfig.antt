-- What is stored of the configuration: its objects, what they compile to, and the labels of each namespace.
use Rattle.std.specs.Prelude.{ℕ, List, [], ◌∷◌, Option, Some, None, Result}
use Rattle.std.specs.List.{flat_map}
use Rattle.std.specs.Option.{option_map_or}
use Rattle.kube_labels.specs.Names.{name_cmp}
use Rattle.kube_model.specs.declared.config_fault.ConfigFault.{ConfigFault}
use Rattle.kube_model.specs.declared.service.Service.{Service}
use Rattle.versioned_map.specs.declared.map.Versioned.{Versioned}
use Rattle.versioned_map.specs.Objects.{object_at}
use Rattle.pool_config.specs.declared.object_set.ObjectSet.{ObjectSet}
use Rattle.pool_config.specs.ConfigValue.{ConfigValue}
use Rattle.pool_config.specs.Compile.{compiled}
use Rattle.object_history.specs.Kinds.{Resource, pool_resource, l2_resource, bgp_resource, peer_resource, community_resource, namespace_resource}
use Rattle.alloc_book.specs.Asking.{Offer}
use Rattle.status_store.specs.Changes.{StoreValue}
use Rattle.core_rules.specs.Core.{offer_at}

-- an object of a kind under its key, at this version; nothing for an object of another kind
abbrev pub entry_of : {K T : Type 0} → ℕ → Option (K × T) → List (K × Versioned T)
entry_of version None = []
entry_of version (Some p) = (p.0, record { version = version; object = p.1 }) ∷ []

-- what is stored of a kind: its objects in the store's order, each under its key and at its version
abbrev pub stored_in : {K T : Type 0} → Resource K T → StoreValue → List (K × Versioned T)
stored_in resource store = flat_map (λ held. entry_of held.version (resource.shown held.object)) store.objects

-- the objects that a configuration is compiled from, as they are stored
abbrev pub objects_in : StoreValue → ObjectSet
objects_in store = record {
  pools = stored_in pool_resource store;
  l2s = stored_in l2_resource store;
  bgps = stored_in bgp_resource store;
  peers = stored_in peer_resource store;
  communities = stored_in community_resource store;
}

-- what the stored objects compile to: a configuration, or the first fault among them
abbrev pub config_in : StoreValue → Result ConfigValue ConfigFault
config_in store = compiled (objects_in store)

-- the labels that are stored of the namespace; one that isn't stored has none
abbrev pub labels_in : StoreValue → List ℕ → List (List ℕ × List ℕ)
labels_in store name = option_map_or (λ n. n.labels) (object_at name_cmp (stored_in namespace_resource store) name) []

-- what there is for the service by this configuration and the labels that are stored of its namespace
abbrev pub offer_by : ConfigValue → StoreValue → Service → Offer
offer_by config store service = offer_at config.pools (labels_in store service.key.namespace) service
