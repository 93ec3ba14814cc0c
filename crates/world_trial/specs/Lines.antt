-- The services that are stored, and their addresses.
use Rattle.std.specs.Prelude.{◌≡◌, ℕ, ◌<◌, List, [], ◌∷◌, map, flat_map}
use Rattle.std.specs.List.Sorted.{IsStrictlySortedBy}
use Rattle.ip_ranges.specs.Values.{AddressValue}
use Rattle.kube_model.specs.declared.key.Key.{Key}
use Rattle.kube_model.specs.declared.object.Object.{Object}
use Rattle.kube_model.specs.declared.object.Object.TheVariants as objects
use Rattle.kube_model.specs.Keys.{key_cmp}
use Rattle.status_store.specs.declared.stored.Stored.{Stored}
use Rattle.world_trial.specs.Services.{numbered}

-- a service's key and the addresses that are recorded for it; an object of another kind has none
abbrev pub line_in : Object → List (Key × List AddressValue)
line_in (objects.Service service) = (service.key, service.holding.addresses) ∷ []
line_in (objects.Pool pool) = []
line_in (objects.L2 adv) = []
line_in (objects.Bgp adv) = []
line_in (objects.Peer peer) = []
line_in (objects.Community community) = []
line_in (objects.Namespace namespace) = []
line_in (objects.Node node) = []
line_in (objects.Slice slice) = []

-- those of all services that are stored, in their order
abbrev pub lines_in : List Stored → List (Key × List AddressValue)
lines_in stored = flat_map (λ held. line_in held.object) stored

-- the services of the lines
abbrev pub keys_in : List (Key × List AddressValue) → List Key
keys_in records = map (λ line. line.0) records

-- they ascend by key, so none has two lines
abbrev pub AreByKey : List (Key × List AddressValue) → Type 0
AreByKey records = IsStrictlySortedBy key_cmp (keys_in records)

-- one of the 48 services
abbrev pub IsNumbered : Key → Type 0
IsNumbered key = (y : ℕ) × (y < 48) × (key ≡ numbered y)
