-- An edit keeps what holds of a world.
use Rattle.world_rules.specs.Tracked.{is_given}
use Rattle.std.proofs.Common.{◌≡◌, ℕ, ◌+◌, Bool, true, false, cond, List, [], ◌∷◌, ◌++◌, Option, Some, None}
use Rattle.std.proofs.Common.{option_map, is_some, is_eq, IfSome, refl, sym, ap, subst, ◌∙◌, append-nil}
use Rattle.std.proofs.lemmas.Bool.{true≢false}
use Rattle.std.specs.List.{AllByRecursion}
use Rattle.mlb_base.proofs.Lists.{all-append}
use Rattle.kube_model.specs.declared.event.Event.TheVariants.{Changed, Deleted}
use Rattle.kube_model.specs.declared.event.ListGroup.TheVariants as groups
use Rattle.kube_model.specs.declared.key.Key.{Key}
use Rattle.kube_model.specs.declared.object.Kind.{Kind}
use Rattle.kube_model.specs.declared.object.Kind.TheVariants as kinds
use Rattle.kube_model.specs.declared.object.Object.{Object}
use Rattle.kube_model.specs.declared.object.Object.TheVariants as objects
use Rattle.kube_model.specs.declared.record.Record.{Record}
use Rattle.kube_model.specs.declared.service.Service.{Service}
use Rattle.kube_model.specs.Keys.{same_key}
use Rattle.kube_model.specs.Records.{empty_record}
use Rattle.kube_model.specs.Kinds.{kind_of, group_of}
use Rattle.kube_model.specs.Service.{with_holding}
use Rattle.kube_model.proofs.KeyLaws.{same_key-is, is_eq-key_cmp}
use Rattle.object_history.specs.Observations.{same_group}
use Rattle.status_store.specs.declared.change.Edit.{Edit}
use Rattle.status_store.specs.declared.change.Edit.TheVariants.{Delete}
use Rattle.status_store.specs.declared.stored.Stored.{Stored}
use Rattle.status_store.specs.Places.{Place, place_of, place_cmp, service_at}
use Rattle.status_store.specs.Objects.{IsAscending, is_of, stored_at}
use Rattle.status_store.specs.Changes.{StoreValue, kept_record, edited_place, edited}
use Rattle.status_store.proofs.ChangeLaws.{place_of-with_record}
use Rattle.status_store.proofs.ListLaws.{stored_at-with_stored, stored_at-without_stored}
use Rattle.core_rules.specs.Core.{State}
use Rattle.claim_index.specs.Claims.{records_of}
use Rattle.world_rules.specs.Tracked.{Shown, Notice, Shows, Gone, IsTracked}
use Rattle.world_rules.specs.Moves.{stored_with, after_set}
use Rattle.world_rules.specs.World.{WorldValue, as_shown, shown_edit, while_up, to_lane, after_edit}
use Rattle.world_rules.specs.Good.{stored_as, stored_of, held_of, notices_in, IsTrackedIn, IsOfGroup, IsFollowed, IsGood}
use Rattle.world_rules.proofs.Following.{at_next, stays-bare}
use Rattle.world_rules.proofs.Tracking.{tracked-other, tracked-set, tracked-create, tracked-delete}
use Rattle.world_rules.proofs.Lanes.{all-either, notices_in-push, tracked-as, of-lane, here-same}
use Rattle.world_rules.proofs.Storing.{set_store, good-set_store, good-delete}

-- ---- a service is set or deleted, this one or another
set_by : (b : Bool) (n : ℕ) (ended : Bool) (o : Option Stored) (service : Service) (h : Option Shown) (claims : List Record) (notices : List Notice)
    → (b ≡ true → is_given service.holding ≡ true → service.holding ≡ kept_record o) → IsTracked n ended (option_map stored_as o) h claims notices
    → IsTracked (n + 1) ended (option_map stored_as (cond b (Some (record { version = n + 1; object = objects.Service service })) o)) h claims
    (notices ++ cond b (Shows (at_next n service.holding) ∷ []) [])
set_by true n ended None service h claims notices keeps t =
    tracked-create n ended service.holding h claims notices (stays-bare service.holding empty_record (keeps refl) refl) t
set_by true n ended (Some held) service h claims notices keeps t = tracked-set n ended (stored_as held) service.holding h claims notices (keeps refl) t
set_by false n ended o service h claims notices keeps t =
    subst (IsTracked (n + 1) ended (option_map stored_as o) h claims) (sym (append-nil notices))
    (tracked-other n ended (option_map stored_as o) h claims notices t)

-- b: something is stored there; z: the key is the one that is deleted
deleted_by : (b z : Bool) (n : ℕ) (ended : Bool) (o : Option Stored) (h : Option Shown) (claims : List Record) (notices : List Notice)
    → (z ≡ true → is_some o ≡ b) → IsTracked n ended (option_map stored_as o) h claims notices
    → IsTracked (cond b (n + 1) n) ended (option_map stored_as (cond z None o)) h claims (notices ++ cond b (cond z (Gone ∷ []) []) [])
deleted_by true true n ended o h claims notices there t = tracked-delete n ended (option_map stored_as o) h claims notices t
deleted_by true false n ended o h claims notices there t =
    subst (IsTracked (n + 1) ended (option_map stored_as o) h claims) (sym (append-nil notices))
    (tracked-other n ended (option_map stored_as o) h claims notices t)
deleted_by false true n ended None h claims notices there t = subst (IsTracked n ended None h claims) (sym (append-nil notices)) t
deleted_by false true n ended (Some held) h claims notices there t = absurd (true≢false (there refl))
deleted_by false false n ended o h claims notices there t = subst (IsTracked n ended (option_map stored_as o) h claims) (sym (append-nil notices)) t

-- the world after a deletion, but for its core
abbrev edited_world : Edit → WorldValue → Option State → WorldValue
edited_world edit w c = record w {
  store = edited edit w.store;
  config_lane = w.config_lane ++ to_lane groups.Config (group_of (edited_place edit).0) (while_up c (shown_edit edit w.store));
  service_lane = w.service_lane ++ to_lane groups.Service (group_of (edited_place edit).0) (while_up c (shown_edit edit w.store));
}

-- the world after an object was set with a record, but for its core
abbrev set_world : Object → Record → WorldValue → Option State → WorldValue
set_world object holding w c = record w {
  store = set_store object holding w.store;
  service_lane = w.service_lane ++ to_lane groups.Service (group_of (kind_of object)) (while_up c (as_shown (stored_with w.store object holding) ∷ []));
}

module _ (w : WorldValue) (s : State) (key : Key) where
  abbrev IsTrackedAfter : Edit → Type 0
  IsTrackedAfter edit = IsTrackedIn (edited_world edit w (Some s)) s key

  abbrev IsTrackedSet : Object → Record → Type 0
  IsTrackedSet object holding = IsTrackedIn (set_world object holding w (Some s)) s key

  abbrev here : Option Stored
  here = stored_at w.store.objects (service_at key)

  service-set : (service : Service) (holding : Record)
      → (is_given holding ≡ true → holding ≡ kept_record (stored_at w.store.objects (service_at service.key)))
      → IsTrackedIn w s key → IsTrackedSet (objects.Service service) holding
  service-set service holding keeps t =
      let kept : Service = with_holding holding service in
      let new : Stored = record { version = w.store.counter + 1; object = objects.Service kept } in
      tracked-as _ _ _ _
      (ap (option_map stored_as)
      (stored_at-with_stored w.store.objects new (service_at key) ∙ ap (λ (b : Bool). cond b (Some new) here) (here-same key service.key)))
      refl refl (notices_in-push key w.service_lane (Changed (w.store.counter + 1) (objects.Service kept)))
      (set_by (same_key service.key key) w.store.counter s.held.services_ended here kept (held_of s key) (records_of key s.claims)
      (notices_in key w.service_lane)
      (λ same has. keeps has ∙ ap (λ (k : Key). kept_record (stored_at w.store.objects (service_at k))) (same_key-is service.key key same)) t)

  other-set : (object : Object) (holding : Record) → is_of (service_at key) (stored_with w.store object holding) ≡ false
      → same_group (group_of (kind_of object)) groups.Service ≡ false
      → IsTrackedIn w s key → IsTrackedSet object holding
  other-set object holding apart lane t =
      tracked-as _ _ _ _
      (ap (option_map stored_as)
      (stored_at-with_stored w.store.objects (stored_with w.store object holding) (service_at key)
      ∙ ap (λ (b : Bool). cond b (Some (stored_with w.store object holding)) here) apart))
      refl refl
      (ap (λ (b : Bool). notices_in key (w.service_lane ++ cond b (as_shown (stored_with w.store object holding) ∷ []) [])) lane
      ∙ ap (notices_in key) (append-nil w.service_lane))
      (tracked-other w.store.counter s.held.services_ended (stored_of w.store key) (held_of s key) (records_of key s.claims) (notices_in key w.service_lane) t)

  set-tracked : (object : Object) (holding : Record) → (is_given holding ≡ true → holding ≡ kept_record (stored_at w.store.objects (place_of object)))
      → IsTrackedIn w s key → IsTrackedSet object holding
  set-tracked (objects.Service service) holding keeps t = service-set service holding keeps t
  set-tracked (objects.Pool pool) holding keeps t = other-set (objects.Pool pool) holding refl refl t
  set-tracked (objects.L2 adv) holding keeps t = other-set (objects.L2 adv) holding refl refl t
  set-tracked (objects.Bgp adv) holding keeps t = other-set (objects.Bgp adv) holding refl refl t
  set-tracked (objects.Peer peer) holding keeps t = other-set (objects.Peer peer) holding refl refl t
  set-tracked (objects.Community community) holding keeps t = other-set (objects.Community community) holding refl refl t
  set-tracked (objects.Namespace namespace) holding keeps t = other-set (objects.Namespace namespace) holding refl refl t
  set-tracked (objects.Node node) holding keeps t = other-set (objects.Node node) holding refl refl t
  set-tracked (objects.Slice slice) holding keeps t = other-set (objects.Slice slice) holding refl refl t

  notices_by : (b : Bool) (gone : Key) → notices_in key (w.service_lane ++ cond b (Deleted kinds.Service gone ∷ []) [])
      ≡ notices_in key w.service_lane ++ cond b (cond (same_key gone key) (Gone ∷ []) []) []
  notices_by true gone = notices_in-push key w.service_lane (Deleted kinds.Service gone)
  notices_by false gone = ap (notices_in key) (append-nil w.service_lane) ∙ sym (append-nil (notices_in key w.service_lane))

  service-deleted : (gone : Key) → IsAscending w.store.objects → IsTrackedIn w s key → IsTrackedAfter (Delete kinds.Service gone)
  service-deleted gone sorted t =
      let there = is_some (stored_at w.store.objects (service_at gone)) in
      tracked-as _ _ _ _
      (ap (option_map stored_as)
      (stored_at-without_stored w.store.objects (service_at gone) (service_at key) sorted ∙ ap (λ (b : Bool). cond b None here) (is_eq-key_cmp gone key)))
      refl refl (notices_by there gone)
      (deleted_by there (same_key gone key) w.store.counter s.held.services_ended here (held_of s key) (records_of key s.claims) (notices_in key w.service_lane)
      (λ same. ap (λ (k : Key). is_some (stored_at w.store.objects (service_at k))) (sym (same_key-is gone key same))) t)

  counted_by : (b : Bool) → IsTrackedIn w s key → IsTracked (cond b (w.store.counter + 1) w.store.counter) s.held.services_ended (stored_of w.store key)
      (held_of s key) (records_of key s.claims) (notices_in key w.service_lane)
  counted_by true t =
      tracked-other w.store.counter s.held.services_ended (stored_of w.store key) (held_of s key) (records_of key s.claims) (notices_in key w.service_lane) t
  counted_by false t = t

  other-deleted : (kind : Kind) (gone : Key) → IsAscending w.store.objects
      → (let place : Place = (kind, gone) in is_eq (place_cmp place (service_at key)) ≡ false) → same_group (group_of kind) groups.Service ≡ false
      → IsTrackedIn w s key → IsTrackedAfter (Delete kind gone)
  other-deleted kind gone sorted apart lane t =
      tracked-as _ _ _ _
      (ap (option_map stored_as)
      (stored_at-without_stored w.store.objects (kind, gone) (service_at key) sorted ∙ ap (λ (b : Bool). cond b None here) apart))
      refl refl
      (ap (λ (b : Bool). notices_in key (w.service_lane ++ cond b (shown_edit (Delete kind gone) w.store) [])) lane
      ∙ ap (notices_in key) (append-nil w.service_lane))
      (counted_by (is_some (stored_at w.store.objects (kind, gone))) t)

  deleted-tracked : (kind : Kind) (gone : Key) → IsAscending w.store.objects → IsTrackedIn w s key → IsTrackedAfter (Delete kind gone)
  deleted-tracked kinds.Service gone sorted t = service-deleted gone sorted t
  deleted-tracked kinds.Pool gone sorted t = other-deleted kinds.Pool gone sorted refl refl t
  deleted-tracked kinds.L2 gone sorted t = other-deleted kinds.L2 gone sorted refl refl t
  deleted-tracked kinds.Bgp gone sorted t = other-deleted kinds.Bgp gone sorted refl refl t
  deleted-tracked kinds.Peer gone sorted t = other-deleted kinds.Peer gone sorted refl refl t
  deleted-tracked kinds.Community gone sorted t = other-deleted kinds.Community gone sorted refl refl t
  deleted-tracked kinds.Namespace gone sorted t = other-deleted kinds.Namespace gone sorted refl refl t
  deleted-tracked kinds.Node gone sorted t = other-deleted kinds.Node gone sorted refl refl t
  deleted-tracked kinds.Slice gone sorted t = other-deleted kinds.Slice gone sorted refl refl t

-- ---- what an edit has shown
pub deleted-of : (kind : Kind) (gone : Key) (store : StoreValue) → AllByRecursion (IsOfGroup (group_of kind)) (shown_edit (Delete kind gone) store)
deleted-of kind gone store = all-either (is_some (stored_at store.objects (kind, gone))) (IsOfGroup (group_of kind)) (Deleted kind gone ∷ []) [] (refl, tt) tt

pub set-of : (object : Object) (holding : Record) (store : StoreValue)
    → AllByRecursion (IsOfGroup (group_of (kind_of object))) (as_shown (stored_with store object holding) ∷ [])
set-of object holding store = (ap (λ (p : Place). group_of p.0) (place_of-with_record holding object), tt)

deleted-up : (kind : Kind) (gone : Key) (w : WorldValue) (c : Option State) → IsAscending w.store.objects → IfSome c (IsFollowed w)
    → IfSome c (IsFollowed (edited_world (Delete kind gone) w c))
deleted-up kind gone w None sorted up = tt
deleted-up kind gone w (Some s) sorted up = record {
  run = up.run;
  is = up.is;
  leads = up.leads;
  typed = up.typed;
  none_out = up.none_out;
  services = all-append (IsOfGroup groups.Service) w.service_lane (to_lane groups.Service (group_of kind) (shown_edit (Delete kind gone) w.store)) up.services
      (of-lane groups.Service (group_of kind) (shown_edit (Delete kind gone) w.store) (deleted-of kind gone w.store));
  tracked = λ key. deleted-tracked w s key kind gone sorted (up.tracked key);
}

pub good-deleted : (kind : Kind) (gone : Key) (w : WorldValue) → IsGood w → IsGood (after_edit (Delete kind gone) w)
good-deleted kind gone w good = record {
  stored = good-delete kind gone w.store good.stored;
  up = deleted-up kind gone w w.core good.stored.kept.ascending good.up;
}

set-up : (object : Object) (holding : Record) (w : WorldValue) (c : Option State)
    → (is_given holding ≡ true → holding ≡ kept_record (stored_at w.store.objects (place_of object)))
    → IfSome c (IsFollowed w) → IfSome c (IsFollowed (set_world object holding w c))
set-up object holding w None keeps up = tt
set-up object holding w (Some s) keeps up = record {
  run = up.run;
  is = up.is;
  leads = up.leads;
  typed = up.typed;
  none_out = up.none_out;
  services = all-append (IsOfGroup groups.Service) w.service_lane
      (to_lane groups.Service (group_of (kind_of object)) (as_shown (stored_with w.store object holding) ∷ [])) up.services
      (of-lane groups.Service (group_of (kind_of object)) (as_shown (stored_with w.store object holding) ∷ []) (set-of object holding w.store));
  tracked = λ key. set-tracked w s key object holding keeps (up.tracked key);
}

pub good-set : (object : Object) (holding : Record) (w : WorldValue)
    → (is_given holding ≡ true → holding ≡ kept_record (stored_at w.store.objects (place_of object)))
    → IsGood w → IsGood (after_set object holding w)
good-set object holding w keeps good = record {
  stored = good-set_store object holding w.store keeps good.stored;
  up = set-up object holding w w.core keeps good.up;
}
