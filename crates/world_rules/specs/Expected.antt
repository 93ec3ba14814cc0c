-- Puts that are under way, given up by the controller: what is known of those that would be stored if they came now.
use Rattle.std.specs.Prelude.{◌≡◌, ◌≢◌, ◌≤◌, ℕ, true, List, [], Option, IfSome}
use Rattle.std.specs.List.{Contains}
use Rattle.ip_ranges.specs.Values.{AddressValue}
use Rattle.kube_model.specs.declared.event.Event.{Event}
use Rattle.kube_model.specs.declared.key.Key.{Key}
use Rattle.kube_model.specs.declared.put.Put.{Put}
use Rattle.kube_model.specs.declared.record.Record.{Record}
use Rattle.status_store.specs.Changes.{StoreValue, is_at_version, kept_record}
use Rattle.status_store.specs.Objects.{stored_at}
use Rattle.status_store.specs.Places.{service_at}
use Rattle.claim_index.specs.Claims.{records_of}
use Rattle.core_rules.specs.Core.{State}
use Rattle.core_laws.specs.Shared.{AllShowTerms}
use Rattle.world_rules.specs.Chain.{late_along}
use Rattle.world_rules.specs.Good.{IsGoodStore, held_of}
use Rattle.world_rules.specs.Moves.{Move, AreMoves, IsListOf, after_moves, begun, run_along}
use Rattle.world_rules.specs.Safe.{ShareByMarks}
use Rattle.world_rules.specs.Tracked.{is_given, version_at}

-- the record of the service that is stored at the key, and an empty one where none is
abbrev pub record_at : StoreValue → Key → Record
record_at store key = kept_record (stored_at store.objects (service_at key))

-- the record may stand beside those of other keys
abbrev pub StandsBeside : (Key → Record) → Key → Record → Type 0
StandsBeside f own r = (other : Key) → other ≢ own → (a : AddressValue) → Contains r.addresses a → Contains (f other).addresses a → ShareByMarks r (f other)

-- the put would be stored if it came now
abbrev pub CanLand : StoreValue → Put → Type 0
CanLand store put = is_at_version put.version (stored_at store.objects (service_at put.key)) ≡ true

-- the core has the list of services and holds the service at the put's version, and the put's record is claimed
abbrev pub IsExpected : State → Put → Type 0
IsExpected s put =
    (s.held.services_ended ≡ true) × (version_at (held_of s put.key) ≡ put.version)
    × (is_given put.holding ≡ true → Contains (records_of put.key s.claims) put.holding)

-- What holds of the puts that are under way.
pub record AreExpected (store : StoreValue) (core : Option State) (late : List Put) : Type 0 where
  pub counted : (put : Put) → Contains late put → put.version ≤ store.counter
  pub claimed : (put : Put) → Contains late put → CanLand store put → IfSome core (λ s. IsExpected s put)
  pub beside : (put : Put) → Contains late put → CanLand store put → StandsBeside (record_at store) put.key put.holding
  pub apart : (put other : Put) → Contains late put → Contains late other → CanLand store put → CanLand store other → put.key ≢ other.key
      → (a : AddressValue) → Contains put.holding.addresses a → Contains other.holding.addresses a → ShareByMarks put.holding other.holding

-- so it is whatever moves are made after a start over a good store, where services are shown terms that there can be
abbrev pub LateAreExpected : Type 0
LateAreExpected =
    (class : Option (List ℕ)) (store : StoreValue) (list : List Event) (moves : List Move) → IsGoodStore store → IsListOf store list
    → AreMoves moves (begun class store list) [] → AllShowTerms (run_along moves (begun class store list) [])
    → (let w = after_moves moves (begun class store list) in AreExpected w.store w.core (late_along moves (begun class store list) []))
