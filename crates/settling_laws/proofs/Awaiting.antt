-- Which moves leave none awaiting what it is held as.
use Rattle.std.proofs.Common.{◌≡◌, ℕ, ◌+◌, Bool, true, false, cond, is_eq, List, [], Option, Some, None, option_map, IfSome, ◌⊎◌, inl, inr, refl, sym, ap, subst, ◌∙◌, arith}
use Rattle.std.proofs.lemmas.Bool.{true≢false, eqb-true}
use Rattle.kube_model.specs.declared.event.Event.{Event}
use Rattle.kube_model.specs.declared.event.ListGroup.TheVariants as groups
use Rattle.kube_model.specs.declared.key.Key.{Key}
use Rattle.kube_model.specs.declared.put.Put.{Put}
use Rattle.kube_model.specs.declared.service.Service.{Service}
use Rattle.kube_model.specs.Keys.{key_cmp, has_key}
use Rattle.versioned_map.specs.declared.map.Versioned.{Versioned}
use Rattle.versioned_map.specs.Objects.{held_at, at_version}
use Rattle.versioned_map.proofs.HeldLaws.{held_at-expired}
use Rattle.status_store.specs.declared.stored.Stored.{Stored}
use Rattle.status_store.specs.Places.{Place, place_cmp, service_at}
use Rattle.status_store.specs.Objects.{IsAscending, is_of, stored_at, with_stored, without_stored}
use Rattle.status_store.specs.declared.change.Edit.TheVariants.{Delete}
use Rattle.status_store.specs.declared.change.Outcome.TheVariants.{Lost}
use Rattle.status_store.specs.Changes.{StoreValue, IsWellFormed, after_put, edited}
use Rattle.status_store.proofs.ListLaws.{stored_at-with_stored, stored_at-without_stored}
use Rattle.core_rules.specs.Core.{State}
use Rattle.core_rules.specs.Take.{core_take}
use Rattle.world_rules.specs.Good.{stored_as, stored_of, held_as, IsOfGroup, IsFollowed, IsGood}
use Rattle.world_rules.specs.Moves.{Move, Sets, Deletes, Tells, Takes, Turns, Stops, Starts, ConfigExpires, ServicesExpire, EndsLater, Lands}
use Rattle.world_rules.specs.Moves.{IsMove, IsOld, stored_with, after_start, after_move}
use Rattle.world_rules.specs.Tracked.{Shown, IsBehind}
use Rattle.world_rules.specs.World.{WorldValue, expired_core}
use Rattle.world_rules.proofs.Lanes.{counted-at}
use Rattle.settling_laws.specs.Clear.{at_one_version, IsClear, AreClear, IsSure, MovesKeepClear, StartsAreClear}
use Rattle.settling_laws.proofs.Clear.{IsClearBy, clear-as, none-current, told-clear}
use Rattle.settling_laws.proofs.Settles.{lost-clear, set_by, service_clear, turn_clear}

-- ---- edits
set_clear : (w : WorldValue) (c : Option State) (given : Stored) → given.version ≡ w.store.counter + 1 → IfSome c (IsFollowed w)
    → IfSome c (λ s. (key : Key) → IsClear w.store s key)
    → (let after : StoreValue = record { objects = with_stored given w.store.objects; counter = w.store.counter + 1 } in
    IfSome c (λ s. (key : Key) → IsClear after s key))
set_clear w None given new up clear = tt
set_clear w (Some s) given new up clear = λ key. (
    let here = held_at key_cmp s.held.services key in
    let after : IsClearBy (option_map stored_as (stored_at (with_stored given w.store.objects) (service_at key))) here (has_key s.awaiting key) =
    clear-as _ _ _ (ap (option_map stored_as) (stored_at-with_stored w.store.objects given (service_at key))) refl refl
    (set_by (is_of (service_at key) given) (stored_at w.store.objects (service_at key)) here (has_key s.awaiting key) given
    w.store.counter new (up.tracked key).held_given (record { at = clear key })) in
    after.at)

gone_by : (b : Bool) (st : Option Stored) (o : Option (Versioned Service)) (awaits : Bool) → IsClearBy (option_map stored_as st) o awaits
    → IsClearBy (option_map stored_as (cond b None st)) o awaits
gone_by true st o awaits clear = record { at = λ current. absurd (true≢false (sym current)) }
gone_by false st o awaits clear = clear

delete_clear : (store : StoreValue) (c : Option State) (place : Place) (counter : ℕ) → IsAscending store.objects
    → IfSome c (λ s. (key : Key) → IsClear store s key)
    → (let after : StoreValue = record { objects = without_stored place store.objects; counter = counter } in
    IfSome c (λ s. (key : Key) → IsClear after s key))
delete_clear store None place counter sorted clear = tt
delete_clear store (Some s) place counter sorted clear = λ key. (
    let here = held_at key_cmp s.held.services key in
    let after : IsClearBy (option_map stored_as (stored_at (without_stored place store.objects) (service_at key))) here (has_key s.awaiting key) =
    clear-as _ _ _ (ap (option_map stored_as) (stored_at-without_stored store.objects place (service_at key) sorted)) refl refl
    (gone_by (is_eq (place_cmp place (service_at key))) (stored_at store.objects (service_at key)) here (has_key s.awaiting key) (record { at = clear key })) in
    after.at)

-- a put that was given up lands
land_clear : (w : WorldValue) (c : Option State) (put : Put) → IfSome c (IsFollowed w) → IfSome c (λ s. (key : Key) → IsClear w.store s key)
    → IfSome c (λ s. (key : Key) → IsClear (after_put put (Lost true) w.store) s key)
land_clear w None put up clear = tt
land_clear w (Some s) put up clear = λ key. (lost-clear w s up clear put (Lost true) key).at

-- ---- what is shown, starts, and watches that expire
tell_clear : (store : StoreValue) (c : Option State) (event : Event) → IsOfGroup groups.Config event ⊎ IsOld event c → IfSome c (λ s. (key : Key) → IsClear store s key)
    → IfSome (option_map (λ s. core_take s event) c) (λ s. (key : Key) → IsClear store s key)
tell_clear store None event of clear = tt
tell_clear store (Some s) event (inl of) clear = λ key. (told-clear store s key (clear key) event of).at
tell_clear store (Some s) event (inr old) clear = subst (λ (t : State). (key : Key) → IsClear store t key) (sym old) clear

start_clear : (c : Option State) (list : List Event) (w : WorldValue) → AreClear w → AreClear (after_start c list w)
start_clear None list w clear = λ key current. absurd (none-current (stored_of w.store key) current)
start_clear (Some s) list w clear = clear

config_clear : (store : StoreValue) (c : Option State) → IfSome c (λ s. (key : Key) → IsClear store s key)
    → IfSome (expired_core groups.Config c) (λ s. (key : Key) → IsClear store s key)
config_clear store None clear = tt
config_clear store (Some s) clear = clear

zero_by : (st : Option Shown) (o : Option (Versioned Service)) → IsBehind st 0 → at_one_version st (option_map held_as (option_map (at_version 0) o)) ≡ true → ⊥
zero_by None o later current = true≢false (sym current)
zero_by (Some x) None later current = true≢false (sym current)
zero_by (Some x) (Some v) later current = let same = eqb-true 0 x.version current in absurd (omega (arith, same, later))

pub expired_clear : (store : StoreValue) (c : Option State) → IsWellFormed store
    → IfSome (expired_core groups.Service c) (λ s. (key : Key) → IsClear store s key)
expired_clear store None kept = tt
expired_clear store (Some s) kept = λ key current.
    absurd (zero_by (stored_of store key) (held_at key_cmp s.held.services key) (counted-at store.counter store.objects (service_at key) kept.counted).1
    (ap (λ (o : Option (Versioned Service)). at_one_version (stored_of store key) (option_map held_as o)) (sym (held_at-expired key_cmp s.held.services key))
    ∙ current))

-- ---- each move
pub move-clear : (move : Move) (w : WorldValue) (late : List Put) → IsMove move w late → IsSure move → IsGood w → AreClear w → AreClear (after_move move w)
move-clear (Sets object holding) w late may sure good clear = set_clear w w.core (stored_with w.store object holding) refl good.up clear
move-clear (Deletes kind key) w late may sure good clear = delete_clear w.store w.core (kind, key) (edited (Delete kind key) w.store).counter good.stored.kept.ascending clear
move-clear (Tells event) w late may sure good clear = tell_clear w.store w.core event may clear
move-clear Takes w late may sure good clear = service_clear w w.core w.service_lane refl good.up clear
move-clear (Turns outcome) w late may sure good clear = turn_clear w.class w.store w.config_lane w.service_lane w.core outcome sure good.up clear
move-clear (Stops applied) w late may sure good clear = tt
move-clear (Starts list) w late may sure good clear = start_clear w.core list w clear
move-clear ConfigExpires w late may sure good clear = config_clear w.store w.core clear
move-clear (ServicesExpire list) w late may sure good clear = expired_clear w.store w.core good.stored.kept
move-clear (EndsLater before event behind) w late may sure good clear = clear
move-clear (Lands put) w late may sure good clear = land_clear w w.core put good.up clear

pub moves_keep_clear : MovesKeepClear
moves_keep_clear old next move step sure good clear = subst AreClear (sym step.leads) (move-clear move old [] step.may sure good clear)

pub starts_are_clear : StartsAreClear
starts_are_clear = (
  λ class store list key current. absurd (none-current (stored_of store key) current),
  λ old next list step good. subst AreClear (sym step.leads) (expired_clear old.store old.core good.stored.kept),
)
