-- Which services wait for an address.
use Rattle.std.specs.Prelude.{◌≡◌, ℕ, Bool, false, ◌&&◌, List, [], ◌∷◌, Option, Some, None}
use Rattle.std.specs.BTreeSet.{BTreeSet, contains}
use Rattle.kube_model.specs.declared.key.Key.{Key}
use Rattle.kube_model.specs.declared.service.Service.{Service}
use Rattle.kube_model.specs.Keys.{key_cmp, same_key}
use Rattle.versioned_map.specs.declared.map.Versioned.{Versioned}
use Rattle.versioned_map.specs.Objects.{object_at}
use Rattle.object_history.specs.Cache.{Cached}
use Rattle.core_rules.specs.Core.{is_ready, service_of, waits}
use Rattle.core_rules.specs.Take.{no_key}
use Rattle.core_keys.specs.Lacking.{lacks_record}

-- the service of the key waits, if it is held
abbrev pub waits_at : Option (List ℕ) → List Key → List Key → Key → Option Service → Bool
waits_at class queue awaiting key None = false
waits_at class queue awaiting key (Some service) = waits class no_key queue awaiting key service

-- these are the keys of the held services that wait, while the core is ready; else there are none
abbrev pub AreWaiting : Option (List ℕ) → Cached → List Key → List Key → BTreeSet Key → Type 0
AreWaiting class held queue awaiting keys =
    (key : Key) → contains key_cmp keys key ≡ (is_ready held && waits_at class queue awaiting key (service_of held key))

-- the key is the first of the queue, and its service lacks a record
abbrev pub is_front_lacking : Option (List ℕ) → List (Key × Versioned Service) → List Key → Key → Bool
is_front_lacking class services [] key = false
is_front_lacking class services (front ∷ rest) key = same_key front key && lacks_record class (object_at key_cmp services front)
