-- What holds of every world.
use Rattle.std.specs.Prelude.{◌≡◌, ℕ, true, List, [], ◌∷◌, Option, IfSome}
use Rattle.std.specs.List.{AllByRecursion}
use Rattle.kube_model.specs.declared.event.Event.{Event}
use Rattle.kube_model.specs.declared.key.Key.{Key}
use Rattle.kube_model.specs.declared.object.Object.{Object}
use Rattle.kube_model.specs.declared.record.Record.{Record}
use Rattle.kube_model.specs.Records.{is_assigned}
use Rattle.core_laws.specs.Shared.{AllShowTerms}
use Rattle.status_store.specs.Changes.{StoreValue, IsWellFormed, empty_store}
use Rattle.world_rules.specs.declared.step.Step.{Step}
use Rattle.world_rules.specs.Good.{IsGood, IsGoodStore, IsOwn}
use Rattle.world_rules.specs.Invariant.{ConfigEndsOnce, IsInOrder}
use Rattle.world_rules.specs.Moves.{Move, KeepsOrBares, IsListOf, IsStep, AreMoves, after_move, run_along, begun}
use Rattle.world_rules.specs.Safe.{IsRecorded, IsSafe, HasTerms, IsUnmarked, StepsTerms}
use Rattle.world_rules.specs.World.{WorldValue, IsEnabled, records_store, started, store_of, world_step}

-- a controller that was started over a good store, and shown a list of it, follows it
abbrev pub StartsAreGood : Type 0
StartsAreGood = (class : Option (List ℕ)) (store : StoreValue) (list : List Event) → IsGoodStore store → IsListOf store list → IsGood (begun class store list)

-- each step keeps what holds of a world
abbrev pub StepsKeepGood : Type 0
StepsKeepGood = (old new : WorldValue) (move : Move) → IsStep old move new → IsGood old → IsGood new

-- The store is safe, stands in its order, and has no version past its counter; and while the controller is up, all rows hold.
pub record IsSafeWorld (w : WorldValue) : Type 0 where
  pub safe : IsSafe w.store
  pub kept : IsWellFormed w.store
  pub ordered : IfSome w.core (IsInOrder w)

-- so it is before and after each of the moves
abbrev pub AreSafeAlong : List Move → WorldValue → Type 0
AreSafeAlong [] w = IsSafeWorld w
AreSafeAlong (move ∷ moves) w = IsSafeWorld w × AreSafeAlong moves (after_move move w)

-- so it is whatever moves are made after a start over a safe store, where services are shown terms that there can be
abbrev pub WorldsAreSafe : Type 0
WorldsAreSafe =
    (class : Option (List ℕ)) (store : StoreValue) (list : List Event) (moves : List Move) → IsGoodStore store → IsListOf store list
    → AreMoves moves (begun class store list) [] → AllShowTerms (run_along moves (begun class store list) [])
    → AreSafeAlong moves (begun class store list)

-- a store of objects with their records is good, where it is safe: nothing is asked of records that are the mark of no terms
abbrev pub RecordsAreGood : Type 0
RecordsAreGood = (objects : List Object) → IsSafe (records_store objects empty_store) → IsGoodStore (records_store objects empty_store)

-- no step gives a service an address under a record that is the mark of no terms
abbrev pub UnmarkedStay : Type 0
UnmarkedStay =
    (old new : WorldValue) (move : Move) → IsStep old move new → IsGood old → KeepsOrBares move old → (key : Key) (r : Record) → IsRecorded new.store key r → IsUnmarked r
    → is_assigned r ≡ true → IsRecorded old.store key r

-- while the controller is up, a good world is in order, row by row
abbrev pub WorldsAreInOrder : Type 0
WorldsAreInOrder = (w : WorldValue) → IsGood w → IfSome w.core (IsInOrder w)

-- a new store of objects is good: its records are empty
abbrev pub NewStoresAreGood : Type 0
NewStoresAreGood = (objects : List Object) → IsGoodStore (store_of objects empty_store)

-- ---- the worlds that `World` makes

-- it begins so over a good store whose objects have terms
abbrev pub StartsAreOwn : Type 0
StartsAreOwn =
    (class : Option (List ℕ)) (store : StoreValue) → IsGoodStore store → AllByRecursion (λ held. HasTerms held.object) store.objects
    → IsGood (started class store) × IsOwn (started class store)

-- those of objects with terms have them, with their own records or new
abbrev pub StoresHaveTerms : Type 0
StoresHaveTerms =
    (objects : List Object) → AllByRecursion HasTerms objects
    → AllByRecursion (λ held. HasTerms held.object) (store_of objects empty_store).objects
    × AllByRecursion (λ held. HasTerms held.object) (records_store objects empty_store).objects

-- A step that there is, is one of those: it is that move.
abbrev pub StepsAreMoves : Type 0
StepsAreMoves = (w : WorldValue) (step : Step) → IsEnabled step w → IsOwn w → (move : Move) × IsStep w move (world_step step w) × KeepsOrBares move w

-- it keeps what holds of such a world besides
abbrev pub StepsKeepOwn : Type 0
StepsKeepOwn = (w : WorldValue) (step : Step) → StepsTerms step → IsGood w → IsOwn w → IsOwn (world_step step w)

-- and in it the end of the list of the configuration is pending once, until it is taken
abbrev pub OwnEndsOnce : Type 0
OwnEndsOnce = (w : WorldValue) → IsOwn w → ConfigEndsOnce w
