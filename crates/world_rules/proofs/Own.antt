-- The steps of a world are moves, and keep what holds of it besides.
use Rattle.world_rules.proofs.Storing.{given-assigned}
use Rattle.std.proofs.Common.{◌≡◌, ◌≢◌, ℕ, ◌+◌, Bool, true, false, cond, List, [], ◌∷◌, ◌++◌, Option, Some, None, is_some, IfSome, inl, refl, sym, ap, subst, ◌∙◌}
use Rattle.std.proofs.lemmas.Bool.{true≢false}
use Rattle.std.specs.List.{AllByRecursion}
use Rattle.mlb_base.proofs.Lists.{all-append}
use Rattle.kube_model.specs.declared.event.Event.{Event}
use Rattle.kube_model.specs.declared.event.Event.TheVariants.{Deleted}
use Rattle.kube_model.specs.declared.event.ListGroup.{ListGroup}
use Rattle.kube_model.specs.declared.event.ListGroup.TheVariants as groups
use Rattle.kube_model.specs.declared.key.Key.{Key}
use Rattle.kube_model.specs.declared.object.Object.{Object}
use Rattle.kube_model.specs.declared.object.Object.TheVariants as objects
use Rattle.kube_model.specs.declared.put.Put.{Put}
use Rattle.kube_model.specs.declared.reply.PutReply.{PutReply}
use Rattle.kube_model.specs.declared.reply.PutReply.TheVariants as replies
use Rattle.kube_model.specs.declared.service.Service.{Service}
use Rattle.kube_model.specs.Kinds.{kind_of, group_of}
use Rattle.object_history.specs.Observations.{same_group}
use Rattle.pool_choice.proofs.SortLaws.{all-at}
use Rattle.status_store.specs.declared.change.Edit.{Edit}
use Rattle.status_store.specs.declared.change.Edit.TheVariants.{Set, Reset, Delete}
use Rattle.status_store.specs.declared.change.Outcome.{Outcome}
use Rattle.status_store.specs.declared.change.Outcome.TheVariants.{Lost}
use Rattle.status_store.specs.declared.stored.Stored.{Stored}
use Rattle.status_store.specs.Places.{Place, place_of, service_at}
use Rattle.status_store.specs.Objects.{stored_at, with_stored}
use Rattle.status_store.specs.Changes.{StoreValue, empty_store, kept_record, record_of, with_record, set_as, reset_as}
use Rattle.status_store.specs.Changes.{edited_place, edited, recorded, is_made, with_put, after_put, reply_to}
use Rattle.status_store.proofs.ChangeLaws.{place_of-with_record}
use Rattle.status_store.proofs.StoredLaws.{found-stored}
use Rattle.core_rules.specs.Core.{State}
use Rattle.core_rules.specs.Take.{effect_of}
use Rattle.core_rules.specs.Turn.{core_turn, after_turn, put_in}
use Rattle.core_rules.specs.Replied.{replied_to}
use Rattle.core_rules.specs.Run.{Turned}
use Rattle.core_rules.proofs.Effects.{by_effect}
use Rattle.core_rules.specs.declared.turn.Turn.{Turn}
use Rattle.core_laws.specs.Shown.{OfEffect}
use Rattle.core_laws.specs.Shared.{AllShowTerms}
use Rattle.sharing_terms.specs.Marked.{AreTerms}
use Rattle.sharing_terms.specs.Terms.{terms_of}
use Rattle.world_rules.specs.declared.step.ListOrder.{ListOrder}
use Rattle.world_rules.specs.declared.step.ListOrder.TheVariants.{Ascending}
use Rattle.world_rules.specs.declared.step.Step.TheVariants.{Edit as Edits, Take, Turn as Turns, Crash, Restart, Expire}
use Rattle.world_rules.specs.Good.{IsOfGroup, ShowsTerms, ConfigEnds, IsFollowed, IsGood, IsOwn}
use Rattle.world_rules.specs.Laws.{StartsAreOwn, StepsAreMoves, StepsKeepOwn, StoresHaveTerms}
use Rattle.world_rules.specs.Moves.{Move, Sets, Deletes, Tells, Takes, Stops, Starts, ConfigExpires, ServicesExpire, IsStep, KeepsOrBares}
use Rattle.world_rules.specs.Moves.{entries_taken, entries_put, entries_turned, entries_expired, after_start, relisted, but_config, begun}
use Rattle.world_rules.specs.Moves.{Turns as Makes}
use Rattle.world_rules.specs.Safe.{HasTerms, SetsTerms}
use Rattle.world_rules.specs.World.{WorldValue, as_shown, listing, shown_edit, shown_stored, shown_put, while_up, to_lane, told}
use Rattle.world_rules.specs.World.{untold, after_edit, after_take, turned, after_turning, next_put, reached, after_crash}
use Rattle.world_rules.specs.World.{restarted, expired_core, listed_anew, after_expiry, store_of, with_object, records_store}
use Rattle.world_rules.proofs.ConfigEnds.{ends-edited, ends-taken, config-ended, config-unended, ends-listing, ends-expired}
use Rattle.world_rules.proofs.Lanes.{all-either, of-lane, all-lane, of-listing, typed-listing, listing-list}
use Rattle.world_rules.proofs.Worlds.{starts_are_good, good-else}
use Rattle.world_rules.proofs.Storing.{AreTyped, typed-record, typed-with_stored, typed-without_stored}

-- ---- what is shown has terms
abbrev Typed : Key → Service → Type 0
Typed key service = AreTerms (terms_of service)

shown-typed : (event : Event) → ShowsTerms event → OfEffect Typed (effect_of event)
shown-typed =
    by_effect (λ event c. ShowsTerms event → OfEffect Typed c) (λ version service t. t) (λ key t. tt) (λ t. tt) (λ event c t. tt) (λ t. tt) (λ event t. tt)

-- no event of the configuration shows a service
config-typed : (event : Event) → IsOfGroup groups.Config event → OfEffect Typed (effect_of event)
config-typed = by_effect (λ event c. IsOfGroup groups.Config event → OfEffect Typed c) (λ version service of. absurd (cc)) (λ key of. tt) (λ of. tt)
    (λ event c of. tt) (λ of. tt) (λ event of. tt)

taken-typed : (c : Option State) (lane : List Event) → AllByRecursion ShowsTerms lane → AllShowTerms (entries_taken c lane)
taken-typed None lane all = tt
taken-typed (Some s) [] all = tt
taken-typed (Some s) (event ∷ more) all = (shown-typed event all.0, tt)

put-entries : (p : Option Put) (turn : Turn) (outcome : Outcome) (store : StoreValue) → AllShowTerms (entries_put p outcome store ++ Turned turn ∷ [])
put-entries None turn outcome store = (tt, tt)
put-entries (Some put) turn outcome store = (tt, (tt, tt))

turned-typed : (c : Option State) (outcome : Outcome) (store : StoreValue) → AllShowTerms (entries_turned c outcome store)
turned-typed None outcome store = tt
turned-typed (Some s) outcome store = put-entries (put_in (core_turn s)) (core_turn s) outcome store

expired_core-typed : (c : Option State) (group : ListGroup) → AllShowTerms (entries_expired c group)
expired_core-typed None group = tt
expired_core-typed (Some s) group = (tt, tt)

-- ---- steps are moves
config_taken : (class : Option (List ℕ)) (store : StoreValue) (config services : List Event) (c : Option State) → c ≢ None → config ≢ []
    → AllByRecursion (IsOfGroup groups.Config) config
    → (let w : WorldValue = record { class = class; store = store; config_lane = config; service_lane = services; core = c } in
    (move : Move) × IsStep w move (after_take groups.Config w) × KeepsOrBares move w)
config_taken class store [] services c up some all = absurd (some refl)
config_taken class store (event ∷ lane) services None up some all = absurd (up refl)
config_taken class store (event ∷ lane) services (Some s) up some all =
    (Tells event, record { may = inl all.0; typed = (config-typed event all.0, tt); leads = refl }, tt)

restart_leads : (order : ListOrder) (c : Option State) (w : WorldValue)
    → but_config (restarted order c w) ≡ but_config (after_start c (listing order groups.Service w.store) w)
restart_leads order None w = refl
restart_leads order (Some s) w = refl

-- the world after the watch of a list has expired, where the controller is so
abbrev expired_by : ListGroup → ListOrder → Option State → WorldValue → WorldValue
expired_by group order c w = record w {
  config_lane = listed_anew order groups.Config group w.store c w.config_lane;
  service_lane = listed_anew order groups.Service group w.store c w.service_lane;
  core = expired_core group c;
}

config_leads : (order : ListOrder) (c : Option State) (w : WorldValue)
    → (let v : WorldValue = record w { core = expired_core groups.Config c } in but_config (expired_by groups.Config order c w) ≡ but_config v)
config_leads order None w = refl
config_leads order (Some s) w = refl

services_lead : (order : ListOrder) (c : Option State) (w : WorldValue)
    → (let v : WorldValue =
    record w { service_lane = relisted c (listing order groups.Service w.store) w.service_lane; core = expired_core groups.Service c } in
    but_config (expired_by groups.Service order c w) ≡ but_config v)
services_lead order None w = refl
services_lead order (Some s) w = refl

-- an object has its own record
own-record : (object : Object) → with_record (record_of object) object ≡ object
own-record (objects.Service service) = refl
own-record (objects.Pool pool) = refl
own-record (objects.L2 adv) = refl
own-record (objects.Bgp adv) = refl
own-record (objects.Peer peer) = refl
own-record (objects.Community community) = refl
own-record (objects.Namespace namespace) = refl
own-record (objects.Node node) = refl
own-record (objects.Slice slice) = refl

-- the world after something was set at the object's place
abbrev set_there : Object → WorldValue → Object → WorldValue
set_there object w x =
    let new : Stored = reset_as w.store x in
    record w {
      store = record { objects = with_stored new w.store.objects; counter = w.store.counter + 1 };
      service_lane = w.service_lane ++ to_lane groups.Service (group_of (kind_of object)) (while_up w.core (as_shown new ∷ []));
    }

pub steps_are_moves : StepsAreMoves
steps_are_moves w (Edits (Set object)) enabled own =
    (Sets object (kept_record (stored_at w.store.objects (place_of object))), record { may = λ has. refl; typed = tt; leads = refl }, λ has. refl)
steps_are_moves w (Edits (Reset object)) enabled own = (
  Sets object (record_of object),
  record {
    may = λ has. absurd (true≢false (sym (given-assigned (record_of object) has) ∙ enabled.1));
    typed = tt;
    leads = ap (λ (x : Object). but_config (set_there object w x)) (sym (own-record object));
  },
  λ has. absurd (true≢false (sym has ∙ enabled.1)),
)
steps_are_moves w (Edits (Delete kind key)) enabled own = (Deletes kind key, record { may = tt; typed = tt; leads = refl }, tt)
steps_are_moves w (Take groups.Config) enabled own = config_taken w.class w.store w.config_lane w.service_lane w.core enabled.0 enabled.1 own.config
steps_are_moves w (Take groups.Service) enabled own = (Takes, record { may = tt; typed = taken-typed w.core w.service_lane own.pending_typed; leads = refl }, tt)
steps_are_moves w (Take groups.Endpoint) enabled own = absurd (enabled.1 refl)
steps_are_moves w (Turns outcome) enabled own = (Makes outcome, record { may = tt; typed = turned-typed w.core outcome w.store; leads = refl }, tt)
steps_are_moves w (Crash applied) enabled own = (Stops applied, record { may = tt; typed = tt; leads = refl }, tt)
steps_are_moves w (Restart order) enabled own =
    (Starts (listing order groups.Service w.store), record { may = listing-list order w.store; typed = tt; leads = restart_leads order w.core w }, tt)
steps_are_moves w (Expire groups.Config order) enabled own =
    (ConfigExpires, record { may = tt; typed = expired_core-typed w.core groups.Config; leads = config_leads order w.core w }, tt)
steps_are_moves w (Expire groups.Service order) enabled own = (
  ServicesExpire (listing order groups.Service w.store),
  record { may = listing-list order w.store; typed = expired_core-typed w.core groups.Service; leads = services_lead order w.core w },
  tt,
)
steps_are_moves w (Expire groups.Endpoint order) enabled own = absurd (enabled.1 refl)

-- ---- an edit
typed-edited : (edit : Edit) (store : StoreValue) → SetsTerms edit → AreTyped store.objects → AreTyped (edited edit store).objects
typed-edited (Set object) store t all =
    typed-with_stored store.objects (set_as store object) (typed-record (kept_record (stored_at store.objects (place_of object))) object t) all
typed-edited (Reset object) store t all = typed-with_stored store.objects (reset_as store object) t all
typed-edited (Delete kind key) store t all = typed-without_stored store.objects (kind, key) all

edit-of : (edit : Edit) (store : StoreValue) → AllByRecursion (IsOfGroup (group_of (edited_place edit).0)) (shown_edit edit store)
edit-of (Set object) store = (ap (λ (p : Place). group_of p.0) (place_of-with_record (kept_record (stored_at store.objects (place_of object))) object), tt)
edit-of (Reset object) store = (refl, tt)
edit-of (Delete kind gone) store =
    all-either (is_some (stored_at store.objects (kind, gone))) (IsOfGroup (group_of kind)) (Deleted kind gone ∷ []) [] (refl, tt) tt

edit-typed : (edit : Edit) (store : StoreValue) → SetsTerms edit → AllByRecursion ShowsTerms (shown_edit edit store)
edit-typed (Set object) store t = (typed-record (kept_record (stored_at store.objects (place_of object))) object t, tt)
edit-typed (Reset object) store t = (t, tt)
edit-typed (Delete kind gone) store t = all-either (is_some (stored_at store.objects (kind, gone))) ShowsTerms (Deleted kind gone ∷ []) [] (tt, tt) tt

while-all : (P : Event → Type 0) (c : Option State) (events : List Event) → AllByRecursion P events → AllByRecursion P (while_up c events)
while-all P None events all = tt
while-all P (Some s) events all = all

edit_ends : (c : Option State) (lane : List Event) (group : ListGroup) (edit : Edit) (store : StoreValue) → IfSome c (λ s. ConfigEnds s.held.config_ended lane)
    → IfSome c (λ s. ConfigEnds s.held.config_ended (lane ++ to_lane groups.Config group (while_up c (shown_edit edit store))))
edit_ends None lane group edit store ends = tt
edit_ends (Some s) lane group edit store ends = ends-edited s.held.config_ended lane group edit store ends

own-edit : (edit : Edit) (w : WorldValue) → SetsTerms edit → IsOwn w → IsOwn (after_edit edit w)
own-edit edit w t own =
    let group = group_of (edited_place edit).0 in
    let shown = while_up w.core (shown_edit edit w.store) in
    record {
      stored_typed = typed-edited edit w.store t own.stored_typed;
      pending_typed = all-append ShowsTerms w.service_lane (to_lane groups.Service group shown) own.pending_typed
          (all-lane ShowsTerms groups.Service group shown (while-all ShowsTerms w.core (shown_edit edit w.store) (edit-typed edit w.store t)));
      config = all-append (IsOfGroup groups.Config) w.config_lane (to_lane groups.Config group shown) own.config
          (of-lane groups.Config group shown (while-all (IsOfGroup group) w.core (shown_edit edit w.store) (edit-of edit w.store)));
      config_ends = edit_ends w.core w.config_lane group edit w.store own.config_ends;
    }

-- ---- an event that is taken
untold-all : (P : Event → Type 0) (c : Option State) (lane : List Event) → AllByRecursion P lane → AllByRecursion P (untold c lane)
untold-all P None lane all = all
untold-all P (Some s) [] all = tt
untold-all P (Some s) (event ∷ more) all = all.1

config_ends_by : (c : Option State) (lane : List Event) → AllByRecursion (IsOfGroup groups.Config) lane → IfSome c (λ s. ConfigEnds s.held.config_ended lane)
    → IfSome (told c lane) (λ s. ConfigEnds s.held.config_ended (untold c lane))
config_ends_by None lane of ends = tt
config_ends_by (Some s) [] of ends = ends
config_ends_by (Some s) (event ∷ lane) of ends =
    subst (λ (b : Bool). ConfigEnds b lane) (sym (config-ended s event of.0)) (ends-taken s.held.config_ended event lane of.0 ends)

service_ends_by : (c : Option State) (lane config : List Event) → IfSome c (λ s. AllByRecursion (IsOfGroup groups.Service) lane)
    → IfSome c (λ s. ConfigEnds s.held.config_ended config)
    → IfSome (told c lane) (λ s. ConfigEnds s.held.config_ended config)
service_ends_by None lane config of ends = tt
service_ends_by (Some s) [] config of ends = ends
service_ends_by (Some s) (event ∷ lane) config of ends = subst (λ (b : Bool). ConfigEnds b config) (sym (config-unended s event of.0)) ends

services-of : (c : Option State) (w : WorldValue) → IfSome c (IsFollowed w) → IfSome c (λ s. AllByRecursion (IsOfGroup groups.Service) w.service_lane)
services-of None w up = tt
services-of (Some s) w up = up.services

own-take : (group : ListGroup) (w : WorldValue) → IsGood w → IsOwn w → IsOwn (after_take group w)
own-take groups.Config w good own = record {
  stored_typed = own.stored_typed;
  pending_typed = own.pending_typed;
  config = untold-all (IsOfGroup groups.Config) w.core w.config_lane own.config;
  config_ends = config_ends_by w.core w.config_lane own.config own.config_ends;
}
own-take groups.Service w good own = record {
  stored_typed = own.stored_typed;
  pending_typed = untold-all ShowsTerms w.core w.service_lane own.pending_typed;
  config = own.config;
  config_ends = service_ends_by w.core w.service_lane w.config_lane (services-of w.core w good.up) own.config_ends;
}
own-take groups.Endpoint w good own = own

-- ---- a turn, and a crash
put_typed_by : (b : Bool) (put : Put) (found : Option Stored) (store : StoreValue) → stored_at store.objects (service_at put.key) ≡ found
    → AreTyped store.objects
    → AreTyped (cond b (with_put (store.counter + 1) put found store.objects) store.objects)
put_typed_by false put found store is all = all
put_typed_by true put None store is all = all
put_typed_by true put (Some held) store is all =
    typed-with_stored store.objects (recorded (store.counter + 1) put.holding held)
    (typed-record put.holding held.object
    (all-at (λ (x : Stored). HasTerms x.object) store.objects held all (found-stored store.objects (service_at put.key) held is).0)) all

typed-put : (put : Put) (outcome : Outcome) (store : StoreValue) → AreTyped store.objects → AreTyped (after_put put outcome store).objects
typed-put put outcome store all = put_typed_by (is_made put outcome store.objects) put (stored_at store.objects (service_at put.key)) store refl all

stored_typed : (found : Option Stored) → ((held : Stored) → found ≡ Some held → HasTerms held.object) → AllByRecursion ShowsTerms (shown_stored found)
stored_typed None at = tt
stored_typed (Some held) at = (at held refl, tt)

put-typed : (put : Put) (outcome : Outcome) (store : StoreValue) → AreTyped (after_put put outcome store).objects
    → AllByRecursion ShowsTerms (shown_put put outcome store)
put-typed put outcome store typed =
    let objects = (after_put put outcome store).objects in
    all-either (is_made put outcome store.objects) ShowsTerms (shown_stored (stored_at objects (service_at put.key))) []
    (stored_typed (stored_at objects (service_at put.key))
    (λ held e. all-at (λ (x : Stored). HasTerms x.object) objects held typed (found-stored objects (service_at put.key) held e).0)) tt

-- a reply leaves the list as it was
reply_ends : (o : Option Put) (s : State) (reply : PutReply) (lane : List Event) → ConfigEnds s.held.config_ended lane
    → ConfigEnds (replied_to o s reply).held.config_ended lane
reply_ends None s reply lane ends = ends
reply_ends (Some put) s (replies.Ok version) lane ends = ends
reply_ends (Some put) s replies.Stale lane ends = ends
reply_ends (Some put) s replies.Missing lane ends = ends
reply_ends (Some put) s replies.Unknown lane ends = ends

turned_own : (found : Option Put) (w : WorldValue) (s : State) (outcome : Outcome) → ConfigEnds s.held.config_ended w.config_lane → IsOwn w
    → IsOwn (turned (after_turn s) found outcome w)
turned_own None w s outcome ends own = record { stored_typed = own.stored_typed; pending_typed = own.pending_typed; config = own.config; config_ends = ends }
turned_own (Some put) w s outcome ends own =
    let typed : AreTyped (after_put put outcome w.store).objects = typed-put put outcome w.store own.stored_typed in
    record {
      stored_typed = typed;
      pending_typed = all-append ShowsTerms w.service_lane (shown_put put outcome w.store) own.pending_typed (put-typed put outcome w.store typed);
      config = own.config;
      config_ends = reply_ends (after_turn s).out (after_turn s) (reply_to put outcome w.store) w.config_lane ends;
    }

turning_own : (c : Option State) (w : WorldValue) (outcome : Outcome) → IfSome c (λ s. ConfigEnds s.held.config_ended w.config_lane) → IsOwn w
    → IsOwn (after_turning c outcome w)
turning_own None w outcome ends own = own
turning_own (Some s) w outcome ends own = turned_own (put_in (core_turn s)) w s outcome ends own

reached_typed : (found : Option Put) (applied : Bool) (store : StoreValue) → AreTyped store.objects → AreTyped (reached found applied store).objects
reached_typed None applied store all = all
reached_typed (Some put) applied store all = typed-put put (Lost applied) store all

own-crash : (applied : Bool) (w : WorldValue) → IsOwn w → IsOwn (after_crash applied w)
own-crash applied w own =
    record { stored_typed = reached_typed (next_put w.core) applied w.store own.stored_typed; pending_typed = tt; config = tt; config_ends = tt }

-- ---- lists
restart_own : (order : ListOrder) (c : Option State) (w : WorldValue) → IsOwn w → IsOwn (restarted order c w)
restart_own order None w own = record {
  stored_typed = own.stored_typed;
  pending_typed = typed-listing order groups.Service w.store own.stored_typed;
  config = of-listing order groups.Config w.store;
  config_ends = ends-listing order w.store;
}
restart_own order (Some s) w own = own

anew-all : (P : Event → Type 0) (order : ListOrder) (lane group : ListGroup) (store : StoreValue) (c : Option State) (pending : List Event)
    → AllByRecursion P (listing order lane store) → AllByRecursion P pending
    → AllByRecursion P (listed_anew order lane group store c pending)
anew-all P order lane group store None pending list all = all
anew-all P order lane group store (Some s) pending list all = all-either (same_group group lane) P (listing order lane store) pending list all

expiry_ends : (order : ListOrder) (c : Option State) (group : ListGroup) (store : StoreValue) (lane : List Event)
    → IfSome c (λ s. ConfigEnds s.held.config_ended lane)
    → IfSome (expired_core group c) (λ s. ConfigEnds s.held.config_ended (listed_anew order groups.Config group store c lane))
expiry_ends order None group store lane ends = tt
expiry_ends order (Some s) group store lane ends = ends-expired (same_group group groups.Config) s.held.config_ended order store lane ends

own-expiry : (group : ListGroup) (order : ListOrder) (w : WorldValue) → IsOwn w → IsOwn (after_expiry group order w)
own-expiry group order w own = record {
  stored_typed = own.stored_typed;
  pending_typed = anew-all ShowsTerms order groups.Service group w.store w.core w.service_lane (typed-listing order groups.Service w.store own.stored_typed)
      own.pending_typed;
  config = anew-all (IsOfGroup groups.Config) order groups.Config group w.store w.core w.config_lane (of-listing order groups.Config w.store) own.config;
  config_ends = expiry_ends order w.core group w.store w.config_lane own.config_ends;
}

pub steps_keep_own : StepsKeepOwn
steps_keep_own w (Edits edit) t good own = own-edit edit w t own
steps_keep_own w (Take group) t good own = own-take group w good own
steps_keep_own w (Turns outcome) t good own = turning_own w.core w outcome own.config_ends own
steps_keep_own w (Crash applied) t good own = own-crash applied w own
steps_keep_own w (Restart order) t good own = restart_own order w.core w own
steps_keep_own w (Expire group order) t good own = own-expiry group order w own

-- ---- beginnings
pub starts_are_own : StartsAreOwn
starts_are_own class store good typed =
    let list = listing Ascending groups.Service store in (
      good-else (begun class store list) (listing Ascending groups.Config store) (starts_are_good class store list good (listing-list Ascending store)),
      record {
        stored_typed = typed;
        pending_typed = typed-listing Ascending groups.Service store typed;
        config = of-listing Ascending groups.Config store;
        config_ends = ends-listing Ascending store;
      },
    )

typed-new : (held : List Object) (store : StoreValue) → AllByRecursion HasTerms held → AreTyped store.objects → AreTyped (store_of held store).objects
typed-new [] store all typed = typed
typed-new (object ∷ more) store all typed = typed-new more (edited (Set object) store) all.1 (typed-edited (Set object) store all.0 typed)

typed-records : (held : List Object) (store : StoreValue) → AllByRecursion HasTerms held → AreTyped store.objects → AreTyped (records_store held store).objects
typed-records [] store all typed = typed
typed-records (object ∷ more) store all typed =
    typed-records more (with_object object store) all.1 (typed-with_stored store.objects (record { version = store.counter + 1; object = object }) all.0 typed)

pub stores_have_terms : StoresHaveTerms
stores_have_terms held all = (typed-new held empty_store all tt, typed-records held empty_store all tt)
