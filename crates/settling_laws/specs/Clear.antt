-- Services of which no put was refused for good.
use Rattle.std.specs.Prelude.{◌≡◌, ◌==◌, ℕ, Bool, true, false, List, [], Option, Some, None, IfSome, ⊤}
use Rattle.kube_model.specs.declared.event.Event.{Event}
use Rattle.kube_model.specs.declared.key.Key.{Key}
use Rattle.kube_model.specs.declared.object.Object.{Object}
use Rattle.kube_model.specs.declared.object.Object.TheVariants as objects
use Rattle.kube_model.specs.Keys.{has_key}
use Rattle.claim_index.specs.Claims.{ClaimValue, Holders}
use Rattle.status_store.specs.declared.change.Outcome.{Outcome}
use Rattle.status_store.specs.declared.change.Outcome.TheVariants.{Delivered, Lost, Refused}
use Rattle.status_store.specs.declared.stored.Stored.{Stored}
use Rattle.status_store.specs.Places.{service_at}
use Rattle.status_store.specs.Objects.{stored_at}
use Rattle.status_store.specs.Changes.{StoreValue}
use Rattle.core_rules.specs.Core.{State, own_claims}
use Rattle.world_rules.specs.Moves.{Move, Sets, Deletes, Tells, Takes, Turns, Stops, Starts, ConfigExpires, ServicesExpire, EndsLater, Lands, IsStep, begun}
use Rattle.world_rules.specs.World.{WorldValue}
use Rattle.world_rules.specs.Good.{stored_of, held_of, IsGood}
use Rattle.world_rules.specs.Tracked.{Shown}

-- both are there, at one version
abbrev pub at_one_version : Option Shown → Option Shown → Bool
at_one_version None h = false
at_one_version (Some x) None = false
at_one_version (Some x) (Some y) = y.version == x.version

-- the service is held at the version at which it is stored
abbrev pub is_current : StoreValue → State → Key → Bool
is_current store s key = at_one_version (stored_of store key) (held_of s key)

-- A service that is held as it is stored awaits nothing: no put of it was refused that is at this version.
abbrev pub IsClear : StoreValue → State → Key → Type 0
IsClear store s key = is_current store s key ≡ true → has_key s.awaiting key ≡ false

-- while the controller is up, each is so
abbrev pub AreClear : WorldValue → Type 0
AreClear w = IfSome w.core (λ s. (key : Key) → IsClear w.store s key)

-- ---- which moves leave it so
-- a put isn't refused for good: it is delivered, or no reply comes, whether it reached the store or not
abbrev pub IsSureOutcome : Outcome → Type 0
IsSureOutcome Delivered = ⊤
IsSureOutcome (Lost applied) = ⊤
IsSureOutcome Refused = ⊥

abbrev pub IsSure : Move → Type 0
IsSure (Sets object holding) = ⊤
IsSure (Deletes kind key) = ⊤
IsSure (Tells event) = ⊤
IsSure Takes = ⊤
IsSure (Turns outcome) = IsSureOutcome outcome
IsSure (Stops applied) = ⊤
IsSure (Starts list) = ⊤
IsSure ConfigExpires = ⊤
IsSure (ServicesExpire list) = ⊤
IsSure (EndsLater before event behind) = ⊤
IsSure (Lands put) = ⊤

-- each move but that keeps it so
abbrev pub MovesKeepClear : Type 0
MovesKeepClear = (old new : WorldValue) (move : Move) → IsStep old move new → IsSure move → IsGood old → AreClear old → AreClear new

-- Where a controller was just started, or the watch of its services has just expired, it is so.
abbrev pub StartsAreClear : Type 0
StartsAreClear =
    ((class : Option (List ℕ)) (store : StoreValue) (list : List Event) → AreClear (begun class store list))
    × ((old new : WorldValue) (list : List Event) → IsStep old (ServicesExpire list) new → IsGood old → AreClear new)

-- ---- who has what, by what is stored
abbrev pub claims_with : Object → List ClaimValue
claims_with (objects.Service service) = own_claims service
claims_with _ = []

abbrev pub claims_by : Option Stored → List ClaimValue
claims_by None = []
claims_by (Some held) = claims_with held.object

-- each key has the claim of the record that is stored for it, and no other
abbrev pub recorded : StoreValue → Holders
recorded store = λ key. claims_by (stored_at store.objects (service_at key))
