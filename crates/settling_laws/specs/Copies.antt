-- What a core holds of services, and what it is still going to be shown of them, is what is stored, at the version at which it is stored.
use Rattle.std.specs.Prelude.{◌≡◌, ℕ, ◌≤◌, List, Option, Some, IfSome, ⊤}
use Rattle.std.specs.List.{AllByRecursion}
use Rattle.kube_model.specs.declared.event.Event.{Event}
use Rattle.kube_model.specs.declared.key.Key.{Key}
use Rattle.kube_model.specs.declared.object.Object.TheVariants as objects
use Rattle.kube_model.specs.declared.service.Service.{Service}
use Rattle.kube_model.specs.Keys.{key_cmp}
use Rattle.versioned_map.specs.declared.map.Versioned.{Versioned}
use Rattle.versioned_map.specs.Objects.{held_at}
use Rattle.status_store.specs.declared.stored.Stored.{Stored}
use Rattle.status_store.specs.Places.{service_at}
use Rattle.status_store.specs.Objects.{stored_at}
use Rattle.status_store.specs.Changes.{StoreValue}
use Rattle.core_rules.specs.Core.{State}
use Rattle.core_rules.specs.Take.{Effect, Shows, Drops, EndsServices, Configures, Expires, Nothing, effect_of}
use Rattle.world_rules.specs.Good.{IsGood, IsGoodStore}
use Rattle.world_rules.specs.Moves.{Move, IsListOf, IsStep, begun}
use Rattle.world_rules.specs.World.{WorldValue}

-- the version was given; and where the service of the key is stored at it, it is this service that is stored
abbrev pub IsOfStore : StoreValue → Key → ℕ → Service → Type 0
IsOfStore store key version service =
    (version ≤ store.counter)
    × ((stored : Stored) → stored_at store.objects (service_at key) ≡ Some stored → stored.version ≡ version → stored.object ≡ objects.Service service)

-- so it is of a service that an event shows
abbrev pub ShowsOfStore : StoreValue → Effect → Type 0
ShowsOfStore store (Shows version service) = IsOfStore store service.key version service
ShowsOfStore store (Drops key) = ⊤
ShowsOfStore store EndsServices = ⊤
ShowsOfStore store Configures = ⊤
ShowsOfStore store Expires = ⊤
ShowsOfStore store Nothing = ⊤

-- so it is of each that is held, and of each that is pending
pub record AreCopies (store : StoreValue) (s : State) (lane : List Event) : Type 0 where
  pub held : (key : Key) (held : Versioned Service) → held_at key_cmp s.held.services key ≡ Some held → IsOfStore store key held.version held.object
  pub pending : AllByRecursion (λ event. ShowsOfStore store (effect_of event)) lane

-- while the controller is up
abbrev pub HasCopies : WorldValue → Type 0
HasCopies w = IfSome w.core (λ s. AreCopies w.store s w.service_lane)

-- so it is of a controller that was just started, and was given a list of its services
abbrev pub StartsHaveCopies : Type 0
StartsHaveCopies = (class : Option (List ℕ)) (store : StoreValue) (list : List Event) → IsGoodStore store → IsListOf store list → HasCopies (begun class store list)

-- and whatever moves are made
abbrev pub MovesKeepCopies : Type 0
MovesKeepCopies = (old new : WorldValue) (move : Move) → IsStep old move new → IsGood old → HasCopies old → HasCopies new
