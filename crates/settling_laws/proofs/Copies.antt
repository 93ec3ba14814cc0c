-- What a core holds and is still going to be shown of services is what is stored.
use Rattle.std.proofs.Common.{◌≡◌, ℕ, ◌+◌, ◌≤◌, ◌<◌, Bool, true, false, cond, not, ◌&&◌, leb, eqb, is_eq, is_some, List, [], ◌∷◌, ◌++◌, map, filter}
use Rattle.std.proofs.Common.{Option, Some, None, option_map, IfSome, ◌⊎◌, refl, sym, ap, subst, ◌∙◌, arith, append-nil}
use Rattle.std.proofs.lemmas.Bool.{true≢false, and_parts, eqb-true}
use Rattle.std.proofs.lemmas.Map.Entries.{option_filter}
use Rattle.std.specs.List.{AllByRecursion, Contains}
use Rattle.std.specs.List.Sorted.{IsStrictlySortedBy}
use Rattle.std.specs.Map.{keys_of}
use Rattle.std.specs.Option.{option_map_or}
use Rattle.mlb_base.proofs.Among.{contains-first, contains-later}
use Rattle.mlb_base.proofs.Lists.{all-append, all-front, all-behind}
use Rattle.kube_model.specs.declared.event.Event.{Event}
use Rattle.kube_model.specs.declared.event.Event.TheVariants.{Changed, Deleted, ListEnd}
use Rattle.kube_model.specs.declared.event.ListGroup.TheVariants as groups
use Rattle.kube_model.specs.declared.key.Key.{Key}
use Rattle.kube_model.specs.declared.object.Kind.{Kind}
use Rattle.kube_model.specs.declared.object.Kind.TheVariants as kinds
use Rattle.kube_model.specs.declared.object.Object.{Object}
use Rattle.kube_model.specs.declared.object.Object.TheVariants as objects
use Rattle.kube_model.specs.declared.put.Put.{Put}
use Rattle.kube_model.specs.declared.record.Record.{Record}
use Rattle.kube_model.specs.declared.reply.PutReply.{PutReply}
use Rattle.kube_model.specs.declared.reply.PutReply.TheVariants as replies
use Rattle.kube_model.specs.declared.service.Service.{Service}
use Rattle.kube_model.specs.Keys.{key_cmp, same_key}
use Rattle.kube_model.specs.Kinds.{kind_of, group_of}
use Rattle.kube_model.specs.Service.{with_holding}
use Rattle.kube_model.proofs.KeyLaws.{key_cmp-total, same_key-is, same_key-itself, is_eq-key_cmp}
use Rattle.versioned_map.specs.declared.map.Versioned.{Versioned}
use Rattle.versioned_map.specs.Objects.{held_at, at_version, version_at as version_held, amended_at}
use Rattle.versioned_map.proofs.HeldLaws.{held_at-shown, held_at-removed, held_at-listed, held_at-amended, held_at-expired}
use Rattle.status_store.specs.declared.change.Edit.TheVariants.{Delete}
use Rattle.status_store.specs.Changes.{edited, recorded, with_put, is_made, is_at_version, after_put, delivered_reply, reply_to}
use Rattle.status_store.specs.declared.change.Outcome.{Outcome}
use Rattle.status_store.specs.declared.change.Outcome.TheVariants.{Delivered, Lost, Refused}
use Rattle.status_store.specs.declared.stored.Stored.{Stored}
use Rattle.status_store.specs.Places.{Place, place_of, place_cmp, service_at}
use Rattle.status_store.specs.Objects.{is_of, stored_at, with_stored, without_stored, IsAscending}
use Rattle.status_store.specs.Changes.{StoreValue, IsWellFormed, with_record}
use Rattle.status_store.proofs.ListLaws.{stored_at-with_stored, stored_at-without_stored}
use Rattle.status_store.proofs.StoredLaws.{is_of-by, stored-found}
use Rattle.core_rules.specs.Core.{State, fresh}
use Rattle.core_rules.specs.Take.{Effect, Shows, Drops, EndsServices, Configures, Expires, Nothing, effect_of, core_by, core_take}
use Rattle.core_rules.specs.Turn.{core_turn, after_turn, put_in}
use Rattle.core_rules.specs.Replied.{replied, replied_to}
use Rattle.core_laws.proofs.Puts.{IsWanted, wanted-of, held-of}
use Rattle.core_laws.proofs.QuietRuns.{wants-some}
use Rattle.core_rules.proofs.Effects.{by_effect, config-services}
use Rattle.world_rules.specs.Good.{stored_as, IsOfGroup, IsFollowed, IsGood}
use Rattle.world_rules.specs.Moves.{Move, Sets, Deletes, Tells, Takes, Turns, Stops, Starts, ConfigExpires, ServicesExpire, EndsLater, Lands}
use Rattle.world_rules.specs.Moves.{IsMove, IsListOf, IsOld, stored_with, after_start, relisted, after_move}
use Rattle.world_rules.specs.Tracked.{version_at, IsBehind}
use Rattle.world_rules.specs.World.{WorldValue, as_shown, is_of_group, shown_stored, shown_edit, shown_put, told, untold, while_up, to_lane}
use Rattle.world_rules.specs.World.{put_by, turned, after_turning, expired_core}
use Rattle.world_rules.proofs.Storing.{stored_at-recorded}
use Rattle.object_history.specs.Observations.{same_group}
use Rattle.world_rules.proofs.Lanes.{all-any, all-either, counted-at, here-same}
use Rattle.world_rules.proofs.Takes.{services-sorted, told-event}
use Rattle.settling_laws.specs.Copies.{IsOfStore, ShowsOfStore, AreCopies, HasCopies, StartsHaveCopies, MovesKeepCopies}

some-is : {X : Type 0} (x y : X) → Some x ≡ Some y → x ≡ y
some-is x y e = cc

none-some : {X : Type 0} (x : X) → None ≡ Some x → ⊥
none-some x e = absurd (cc)

-- ---- a store that has changed
-- What was of the first store is of the second.
abbrev IsKept : StoreValue → StoreValue → Type 0
IsKept old new = (key : Key) (version : ℕ) (service : Service) → IsOfStore old key version service → IsOfStore new key version service

shows-kept : (old new : StoreValue) → IsKept old new → (effect : Effect) → ShowsOfStore old effect → ShowsOfStore new effect
shows-kept old new kept (Shows version service) of = kept service.key version service of
shows-kept old new kept (Drops key) of = tt
shows-kept old new kept EndsServices of = tt
shows-kept old new kept Configures of = tt
shows-kept old new kept Expires of = tt
shows-kept old new kept Nothing of = tt

lane-kept : (old new : StoreValue) → IsKept old new → (lane : List Event) → AllByRecursion (λ event. ShowsOfStore old (effect_of event)) lane
    → AllByRecursion (λ event. ShowsOfStore new (effect_of event)) lane
lane-kept old new kept [] all = tt
lane-kept old new kept (event ∷ more) all = (shows-kept old new kept (effect_of event) all.0, lane-kept old new kept more all.1)

-- an object is stored at a version that wasn't given before
new_by : (b : Bool) (n : ℕ) (given : Stored) (found : Option Stored) (version : ℕ) (service : Service) → given.version ≡ n + 1 → version ≤ n
    → ((stored : Stored) → found ≡ Some stored → stored.version ≡ version → stored.object ≡ objects.Service service)
    → (stored : Stored) → cond b (Some given) found ≡ Some stored → stored.version ≡ version → stored.object ≡ objects.Service service
new_by true n given found version service new low same stored is at =
    let one : given ≡ stored = some-is given stored is in
    let v : given.version ≡ version = ap (λ (x : Stored). x.version) one ∙ at in
    absurd (omega (arith, v, new, low))
new_by false n given found version service new low same stored is at = same stored is at

set-kept : (store : StoreValue) (given : Stored) → given.version ≡ store.counter + 1
    → IsKept store (record { objects = with_stored given store.objects; counter = store.counter + 1 })
set-kept store given new key version service of = (
  (let low = of.0 in omega (arith, low)),
  λ stored is at.
      new_by (is_of (service_at key) given) store.counter given (stored_at store.objects (service_at key)) version service new of.0 of.1 stored
      (sym (stored_at-with_stored store.objects given (service_at key)) ∙ is) at,
)

gone_by : (b : Bool) (found : Option Stored) (version : ℕ) (service : Service)
    → ((stored : Stored) → found ≡ Some stored → stored.version ≡ version → stored.object ≡ objects.Service service)
    → (stored : Stored) → cond b None found ≡ Some stored → stored.version ≡ version → stored.object ≡ objects.Service service
gone_by true found version service same stored is at = absurd (none-some stored is)
gone_by false found version service same stored is at = same stored is at

more_by : (b : Bool) (n : ℕ) → n ≤ cond b (n + 1) n
more_by true n = omega arith
more_by false n = omega arith

delete-kept : (store : StoreValue) (place : Place) → IsAscending store.objects
    → IsKept store (record { objects = without_stored place store.objects; counter = cond (is_some (stored_at store.objects place)) (store.counter + 1) store.counter })
delete-kept store place sorted key version service of = (
  (let low = of.0 in let more = more_by (is_some (stored_at store.objects place)) store.counter in omega (arith, low, more)),
  λ stored is at.
      gone_by (is_eq (place_cmp place (service_at key))) (stored_at store.objects (service_at key)) version service of.1 stored
      (sym (stored_at-without_stored store.objects place (service_at key) sorted) ∙ is) at,
)

-- ---- what is shown as it is stored
object-shown : (object : Object) (version : ℕ) (store : StoreValue) → version ≤ store.counter
    → stored_at store.objects (place_of object) ≡ Some (record { version = version; object = object })
    → ShowsOfStore store (effect_of (Changed version object))
object-shown (objects.Service service) version store low is = (low, λ stored at same. ap (λ (x : Stored). x.object) (some-is stored _ (sym at ∙ is)))
object-shown (objects.Pool pool) version store low is = tt
object-shown (objects.L2 adv) version store low is = tt
object-shown (objects.Bgp adv) version store low is = tt
object-shown (objects.Peer peer) version store low is = tt
object-shown (objects.Community community) version store low is = tt
object-shown (objects.Namespace namespace) version store low is = tt
object-shown (objects.Node node) version store low is = tt
object-shown (objects.Slice slice) version store low is = tt

new-shown : (store : StoreValue) (given : Stored) → given.version ≡ store.counter + 1
    → ShowsOfStore (record { objects = with_stored given store.objects; counter = store.counter + 1 }) (effect_of (as_shown given))
new-shown store given new =
    object-shown given.object given.version (record { objects = with_stored given store.objects; counter = store.counter + 1 }) (omega (arith, new))
    (stored_at-with_stored store.objects given (place_of given.object)
    ∙ ap (λ (b : Bool). cond b (Some given) (stored_at store.objects (place_of given.object))) (is_of-by (place_of given.object) given refl))

deleted-shown : (store : StoreValue) (kind : Kind) (key : Key) → ShowsOfStore store (effect_of (Deleted kind key))
deleted-shown store kinds.Service key = tt
deleted-shown store kinds.Pool key = tt
deleted-shown store kinds.L2 key = tt
deleted-shown store kinds.Bgp key = tt
deleted-shown store kinds.Peer key = tt
deleted-shown store kinds.Community key = tt
deleted-shown store kinds.Namespace key = tt
deleted-shown store kinds.Node key = tt
deleted-shown store kinds.Slice key = tt

-- each object of a list is

listed_by : (b : Bool) (store : StoreValue) (x : Stored) (less : List Stored) → ShowsOfStore store (effect_of (as_shown x))
    → AllByRecursion (λ event. ShowsOfStore store (effect_of event)) (map as_shown less)
    → AllByRecursion (λ event. ShowsOfStore store (effect_of event)) (map as_shown (cond b (x ∷ less) less))
listed_by true store x less here more = (here, more)
listed_by false store x less here more = more

listed-shown : (store : StoreValue) (held : List Stored) → AllByRecursion (λ x. ShowsOfStore store (effect_of (as_shown x))) held
    → AllByRecursion (λ event. ShowsOfStore store (effect_of event)) (map as_shown (filter (is_of_group groups.Service) held))
listed-shown store [] all = tt
listed-shown store (x ∷ more) all =
    listed_by (is_of_group groups.Service x) store x (filter (is_of_group groups.Service) more) all.0 (listed-shown store more all.1)

-- ---- the list of a store
all-found : {X : Type 0} (P : X → Type 0) (xs : List X) → ((x : X) → Contains xs x → P x) → AllByRecursion P xs
all-found P [] f = tt
all-found P (x ∷ xs) f = (f x (contains-first x xs), all-found P xs (λ y there. f y (contains-later x xs y there)))

stored-shown : (store : StoreValue) → IsWellFormed store → AllByRecursion (λ x. ShowsOfStore store (effect_of (as_shown x))) store.objects
stored-shown store kept =
    all-found (λ (x : Stored). ShowsOfStore store (effect_of (as_shown x))) store.objects
    (λ x there.
    let found : stored_at store.objects (place_of x.object) ≡ Some x = stored-found store.objects (place_of x.object) x kept.ascending (there, refl) in
    let low = (counted-at store.counter store.objects (place_of x.object) kept.counted).0 in
    let low' : x.version ≤ store.counter = subst (λ (o : Option Stored). version_at (option_map stored_as o) ≤ store.counter) found low in
    object-shown x.object x.version store low' found)

list-shown : (store : StoreValue) (list : List Event) → IsWellFormed store → IsListOf store list → AllByRecursion (λ event. ShowsOfStore store (effect_of event)) list
list-shown store list kept listed =
    let P : Event → Type 0 = λ event. ShowsOfStore store (effect_of event) in
    subst (AllByRecursion P) (sym listed.1)
    (all-append P listed.0 (ListEnd groups.Service ∷ [])
    (all-any P (map as_shown (filter (is_of_group groups.Service) store.objects)) listed.0 listed.2 (listed-shown store store.objects (stored-shown store kept)))
    (tt, tt))

fresh-copies : (class : Option (List ℕ)) (store : StoreValue) (list : List Event) → IsWellFormed store → IsListOf store list → AreCopies store (fresh class) list
fresh-copies class store list kept listed = record { held = λ key v is. absurd (none-some v is); pending = list-shown store list kept listed }

pub starts_have_copies : StartsHaveCopies
starts_have_copies class store list good listed = fresh-copies class store list good.kept listed

-- ---- edits
set-copies : (store : StoreValue) (s : State) (lane : List Event) (given : Stored) (b : Bool) → given.version ≡ store.counter + 1 → AreCopies store s lane
    → AreCopies (record { objects = with_stored given store.objects; counter = store.counter + 1 }) s (lane ++ cond b (as_shown given ∷ []) [])
set-copies store s lane given b new copies =
    let after : StoreValue = record { objects = with_stored given store.objects; counter = store.counter + 1 } in
    let P : Event → Type 0 = λ event. ShowsOfStore after (effect_of event) in
    record {
      held = λ key v is. set-kept store given new key v.version v.object (copies.held key v is);
      pending = all-append P lane (cond b (as_shown given ∷ []) []) (lane-kept store after (set-kept store given new) lane copies.pending)
          (all-either b P (as_shown given ∷ []) [] (new-shown store given new, tt) tt);
    }

delete-copies : (store : StoreValue) (s : State) (lane : List Event) (kind : Kind) (key : Key) (b : Bool) → IsAscending store.objects → AreCopies store s lane
    → (let after : StoreValue = edited (Delete kind key) store in AreCopies after s (lane ++ cond b (shown_edit (Delete kind key) store) []))
delete-copies store s lane kind key b sorted copies =
    let after : StoreValue = edited (Delete kind key) store in
    let P : Event → Type 0 = λ event. ShowsOfStore after (effect_of event) in
    let there = is_some (stored_at store.objects (kind, key)) in
    record {
      held = λ k v is. delete-kept store (kind, key) sorted k v.version v.object (copies.held k v is);
      pending = all-append P lane (cond b (shown_edit (Delete kind key) store) []) (lane-kept store after (delete-kept store (kind, key) sorted) lane copies.pending)
          (all-either b P (shown_edit (Delete kind key) store) []
          (all-either there P (Deleted kind key ∷ []) [] (deleted-shown after kind key, tt) tt) tt);
    }

-- ---- events that are taken
shown_by : (store : StoreValue) (old same : Bool) (key : Key) (o : Option (Versioned Service)) (version : ℕ) (service : Service)
    → (same ≡ true → IsOfStore store key version service)
    → ((v : Versioned Service) → o ≡ Some v → IsOfStore store key v.version v.object)
    → (v : Versioned Service) → cond old o (cond same (Some (record { version = version; object = service })) o) ≡ Some v
    → IsOfStore store key v.version v.object
shown_by store true same key o version service now before v is = before v is
shown_by store false true key o version service now before v is =
    let one : (let new : Versioned Service = record { version = version; object = service } in new ≡ v) = some-is _ v is in
    subst (λ (x : Versioned Service). IsOfStore store key x.version x.object) one (now refl)
shown_by store false false key o version service now before v is = before v is

dropped_by : (same : Bool) (o : Option (Versioned Service)) (v : Versioned Service) → cond same None o ≡ Some v → o ≡ Some v
dropped_by true o v is = absurd (none-some v is)
dropped_by false o v is = is

kept_by : (b : Bool) (x v : Versioned Service) → cond b (Some x) None ≡ Some v → Some x ≡ Some v
kept_by true x v is = is
kept_by false x v is = absurd (none-some v is)

left_by : (o : Option (Versioned Service)) (v : Versioned Service) → option_filter (λ (x : Versioned Service). not (eqb x.version 0)) o ≡ Some v → o ≡ Some v
left_by None v is = is
left_by (Some x) v is = kept_by (not (eqb x.version 0)) x v is

module _ (store : StoreValue) (s : State) (sorted : IsStrictlySortedBy key_cmp (keys_of s.held.services))
    (held : (key : Key) (v : Versioned Service) → held_at key_cmp s.held.services key ≡ Some v → IsOfStore store key v.version v.object)
  where
    abbrev HoldsOfStore : State → Type 0
    HoldsOfStore t = (key : Key) (v : Versioned Service) → held_at key_cmp t.held.services key ≡ Some v → IsOfStore store key v.version v.object

    took-copies : (event : Event) → IsOfGroup groups.Service event → ShowsOfStore store (effect_of event) → HoldsOfStore (core_take s event)
    took-copies = by_effect (λ event c. IsOfGroup groups.Service event → ShowsOfStore store c → HoldsOfStore (core_by c s event))
        (λ version service of shows key v is.
        let here = held_at key_cmp s.held.services key in
        let new : Versioned Service = record { version = version; object = service } in
        let old = leb version (version_held key_cmp s.held.services service.key) in
        shown_by store old (same_key service.key key) key here version service
        (λ same. subst (λ (k : Key). IsOfStore store k version service) (same_key-is service.key key same) shows) (held key) v
        (ap (λ (b : Bool). cond old here (cond b (Some new) here)) (sym (here-same key service.key))
        ∙ sym (held_at-shown key_cmp-total s.held.services service.key key version service) ∙ is))
        (λ gone of shows key v is.
        held key v (dropped_by (is_eq (key_cmp gone key)) (held_at key_cmp s.held.services key) v
        (sym (held_at-removed key_cmp-total s.held.services gone key sorted) ∙ is)))
        (λ of shows key v is.
        held key v (left_by (held_at key_cmp s.held.services key) v (sym (held_at-listed key_cmp-total s.held.services key sorted) ∙ is)))
        (λ event c of shows key v is. held key v (ap (λ (es : List (Key × Versioned Service)). held_at key_cmp es key) (sym (config-services event s.held c)) ∙ is))
        (λ of. absurd of)
        (λ event of shows. held)

take_by : (w : WorldValue) (c : Option State) (lane : List Event) → w.service_lane ≡ lane → IfSome c (IsFollowed w) → IfSome c (λ s. AreCopies w.store s lane)
    → IfSome (told c lane) (λ s. AreCopies w.store s (untold c lane))
take_by w None lane is up copies = tt
take_by w (Some s) [] is up copies = copies
take_by w (Some s) (event ∷ lane) is up copies =
    let of : AllByRecursion (IsOfGroup groups.Service) (event ∷ lane) = subst (AllByRecursion (IsOfGroup groups.Service)) is up.services in
    record { held = took-copies w.store s (services-sorted w s up) copies.held event of.0 copies.pending.0; pending = copies.pending.1 }

tell_by : (store : StoreValue) (lane : List Event) (c : Option State) (event : Event) → IsOfGroup groups.Config event ⊎ IsOld event c → IfSome c (λ s. AreCopies store s lane)
    → IfSome (option_map (λ s. core_take s event) c) (λ s. AreCopies store s lane)
tell_by store lane None event of copies = tt
tell_by store lane (Some s) event of copies =
    let same : (core_take s event).held.services ≡ s.held.services = (told-event s event of).0 in
    record {
      held = λ key v is. copies.held key v (ap (λ (es : List (Key × Versioned Service)). held_at key_cmp es key) (sym same) ∙ is);
      pending = copies.pending;
    }

-- ---- turns
module _ (w : WorldValue) (s : State) (copies : AreCopies w.store s w.service_lane) where
  turned-copies : AreCopies w.store (after_turn s) w.service_lane
  turned-copies = record { held = copies.held; pending = copies.pending }

  module _ (put : Put) (wants : put_in (core_turn s) ≡ Some put) where
    wanted : IsWanted s put (wants-some (core_turn s) put wants).0 s.queue
    wanted = let some = wants-some (core_turn s) put wants in wanted-of s s.queue put some.0 (sym some.1)

    abbrev held-there : (h : Versioned Service) × (held_at key_cmp s.held.services put.key ≡ Some h)
    held-there = let is = held-of (held_at key_cmp s.held.services put.key) wanted.service wanted.found in (is.0, is.1)

    -- the copies after the reply, where the put was stored or not, by what was stored
    abbrev Result : Bool → Option Stored → PutReply → Type 0
    Result b found reply =
        let objects = cond b (with_put (w.store.counter + 1) put found w.store.objects) w.store.objects in
        AreCopies (record { objects = objects; counter = cond b (w.store.counter + 1) w.store.counter }) (replied (after_turn s) put reply)
        (w.service_lane ++ cond b (shown_stored (stored_at objects (service_at put.key))) [])

    -- the reply isn't that it was stored
    abbrev IsSame : PutReply → Type 0
    IsSame reply = (replied (after_turn s) put reply).held.services ≡ s.held.services

    kept-result : (found : Option Stored) (reply : PutReply) → IsSame reply → Result false found reply
    kept-result found reply same = record {
      held = λ key v is. copies.held key v (ap (λ (es : List (Key × Versioned Service)). held_at key_cmp es key) (sym same) ∙ is);
      pending = subst (AllByRecursion (λ event. ShowsOfStore w.store (effect_of event))) (sym (append-nil w.service_lane)) copies.pending;
    }

    module _ (g : Stored) (found : stored_at w.store.objects (service_at put.key) ≡ Some g) (current : g.version ≡ put.version) where
      abbrev given : Stored
      given = recorded (w.store.counter + 1) put.holding g

      abbrev after : StoreValue
      after = record { objects = with_stored given w.store.objects; counter = w.store.counter + 1 }

      abbrev Shown : Event → Type 0
      Shown event = ShowsOfStore after (effect_of event)

      echo-is : stored_at after.objects (service_at put.key) ≡ Some given
      echo-is = stored_at-recorded w.store.objects g put.key put.key put.holding (w.store.counter + 1) found
          ∙ ap (λ (b : Bool). cond b (Some given) (stored_at w.store.objects (service_at put.key))) (same_key-itself put.key)

      pending-now : AllByRecursion Shown (w.service_lane ++ shown_stored (stored_at after.objects (service_at put.key)))
      pending-now =
          all-append Shown w.service_lane (shown_stored (stored_at after.objects (service_at put.key)))
          (lane-kept w.store after (set-kept w.store given refl) w.service_lane copies.pending)
          (subst (λ (o : Option Stored). AllByRecursion Shown (shown_stored o)) (sym echo-is) (new-shown w.store given refl, tt))

      lost-result : (reply : PutReply) → IsSame reply → Result true (Some g) reply
      lost-result reply same = record {
        held = λ key v is. set-kept w.store given refl key v.version v.object
            (copies.held key v (ap (λ (es : List (Key × Versioned Service)). held_at key_cmp es key) (sym same) ∙ is));
        pending = pending-now;
      }

      abbrev h : Versioned Service
      h = held-there.0

      abbrev new : Versioned Service
      new = record { version = w.store.counter + 1; object = with_holding put.holding h.object }

      version-is : h.version ≡ g.version
      version-is =
          sym (ap (λ (o : Option (Versioned Service)). option_map_or (λ (v : Versioned Service). v.version) o 0) held-there.1)
          ∙ sym wanted.version_is ∙ sym current

      object-is : g.object ≡ objects.Service h.object
      object-is = (copies.held put.key h held-there.1).1 g found (sym version-is)

      held-now : (key : Key) → held_at key_cmp (replied (after_turn s) put (replies.Ok (w.store.counter + 1))).held.services key
          ≡ cond (same_key put.key key) (Some new) (held_at key_cmp s.held.services key)
      held-now key =
          ap (λ (o : Option (Versioned Service)).
          held_at key_cmp (amended_at key_cmp s.held.services put.key (w.store.counter + 1) (with_holding put.holding) o) key) held-there.1
          ∙ held_at-amended key_cmp-total s.held.services put.key key (w.store.counter + 1) (with_holding put.holding) h held-there.1
          ∙ ap (λ (b : Bool). cond b (Some new) (held_at key_cmp s.held.services key)) (is_eq-key_cmp put.key key)

      new-of : (key : Key) → same_key put.key key ≡ true → IsOfStore after key (w.store.counter + 1) (with_holding put.holding h.object)
      new-of key same = (
        omega arith,
        λ stored is at.
            let here : stored_at after.objects (service_at key) ≡ Some given =
            ap (λ (k : Key). stored_at after.objects (service_at k)) (sym (same_key-is put.key key same)) ∙ echo-is in
            ap (λ (x : Stored). x.object) (some-is stored given (sym is ∙ here)) ∙ ap (with_record put.holding) object-is,
      )

      stored-result : Result true (Some g) (replies.Ok (w.store.counter + 1))
      stored-result = record {
        held = λ key v is.
            shown_by after false (same_key put.key key) key (held_at key_cmp s.held.services key) (w.store.counter + 1) (with_holding put.holding h.object)
            (new-of key) (λ x there. set-kept w.store given refl key x.version x.object (copies.held key x there)) v (sym (held-now key) ∙ is);
        pending = pending-now;
      }

    delivered_on : (b : Bool) (g : Stored) → stored_at w.store.objects (service_at put.key) ≡ Some g → eqb g.version put.version ≡ b
        → Result b (Some g) (cond b (replies.Ok (w.store.counter + 1)) replies.Stale)
    delivered_on true g found e = stored-result g found (eqb-true g.version put.version e)
    delivered_on false g found e = kept-result (Some g) replies.Stale refl

    delivered_by : (found : Option Stored) → stored_at w.store.objects (service_at put.key) ≡ found
        → Result (is_at_version put.version found) found (delivered_reply w.store.counter put found)
    delivered_by None is = kept-result None replies.Missing refl
    delivered_by (Some g) is = delivered_on (eqb g.version put.version) g is refl

    lost_on : (b : Bool) (found : Option Stored) → stored_at w.store.objects (service_at put.key) ≡ found → (b ≡ true → is_at_version put.version found ≡ true)
        → Result b found replies.Unknown
    lost_on false found is made = kept-result found replies.Unknown refl
    lost_on true None is made = absurd (true≢false (sym (made refl)))
    lost_on true (Some g) is made = lost-result g is (eqb-true g.version put.version (made refl)) replies.Unknown refl

    put-result : (outcome : Outcome) → Result (is_made put outcome w.store.objects) (stored_at w.store.objects (service_at put.key)) (reply_to put outcome w.store)
    put-result Delivered = delivered_by (stored_at w.store.objects (service_at put.key)) refl
    put-result Refused = kept-result (stored_at w.store.objects (service_at put.key)) replies.Stale refl
    put-result (Lost applied) =
        let there = stored_at w.store.objects (service_at put.key) in
        lost_on (applied && is_at_version put.version there) there refl (λ e. (and_parts applied (is_at_version put.version there) e).1)

    put-copies : (outcome : Outcome) → HasCopies (put_by (after_turn s) put outcome w)
    put-copies outcome =
        let lane : List Event = w.service_lane ++ shown_put put outcome w.store in
        let same : replied_to (put_in (core_turn s)) (after_turn s) (reply_to put outcome w.store) ≡ replied (after_turn s) put (reply_to put outcome w.store) =
        ap (λ (o : Option Put). replied_to o (after_turn s) (reply_to put outcome w.store)) wants in
        subst (λ (u : State). AreCopies (after_put put outcome w.store) u lane) (sym same) (put-result outcome)

  turn_by : (p : Option Put) (outcome : Outcome) → put_in (core_turn s) ≡ p → HasCopies (turned (after_turn s) p outcome w)
  turn_by None outcome e = turned-copies
  turn_by (Some put) outcome e = put-copies put e outcome

turns_by : (c : Option State) (w : WorldValue) (outcome : Outcome) → w.core ≡ c → HasCopies w → HasCopies (after_turning c outcome w)
turns_by None w outcome is copies = copies
turns_by (Some s) w outcome is copies =
    turn_by w s (subst (λ (c : Option State). IfSome c (λ t. AreCopies w.store t w.service_lane)) is copies) (put_in (core_turn s)) outcome refl

-- ---- starts, and watches that expire
start_by : (c : Option State) (list : List Event) (w : WorldValue) → w.core ≡ c → IsListOf w.store list → IsGood w → HasCopies w → HasCopies (after_start c list w)
start_by None list w is listed good copies = fresh-copies w.class w.store list good.stored.kept listed
start_by (Some s) list w is listed good copies = copies

zero_by : (o : Option (Versioned Service)) (v : Versioned Service) → option_map (at_version 0) o ≡ Some v → v.version ≡ 0
zero_by None v is = absurd (none-some v is)
zero_by (Some x) v is = sym (ap (λ (y : Versioned Service). y.version) (some-is _ v is))

later_by : (o : Option Stored) (stored : Stored) → IsBehind (option_map stored_as o) 0 → o ≡ Some stored → 0 < stored.version
later_by o stored behind is = subst (λ (x : Option Stored). IsBehind (option_map stored_as x) 0) is behind

expired_by : (w : WorldValue) (c : Option State) (list : List Event) → IsListOf w.store list → IsWellFormed w.store
    → IfSome (expired_core groups.Service c) (λ s. AreCopies w.store s (relisted c list w.service_lane))
expired_by w None list listed kept = tt
expired_by w (Some s) list listed kept = record {
  held = λ key v is. (
      let zero : v.version ≡ 0 = zero_by (held_at key_cmp s.held.services key) v (sym (held_at-expired key_cmp s.held.services key) ∙ is) in (
        omega (arith, zero),
        λ stored there at.
            let later = later_by (stored_at w.store.objects (service_at key)) stored (counted-at w.store.counter w.store.objects (service_at key) kept.counted).1 there in
            absurd (omega (arith, zero, at, later)),
      )
      );
  pending = list-shown w.store list kept listed;
}

config_by : (store : StoreValue) (lane : List Event) (c : Option State) → IfSome c (λ s. AreCopies store s lane)
    → IfSome (expired_core groups.Config c) (λ s. AreCopies store s lane)
config_by store lane None copies = tt
config_by store lane (Some s) copies = record { held = copies.held; pending = copies.pending }

-- ---- edits of a world
set_by : (w : WorldValue) (c : Option State) (object : Object) (holding : Record) → IfSome c (λ s. AreCopies w.store s w.service_lane)
    → IfSome c (λ s. AreCopies (record { objects = with_stored (stored_with w.store object holding) w.store.objects; counter = w.store.counter + 1 }) s
    (w.service_lane ++ to_lane groups.Service (group_of (kind_of object)) (while_up c (as_shown (stored_with w.store object holding) ∷ []))))
set_by w None object holding copies = tt
set_by w (Some s) object holding copies =
    set-copies w.store s w.service_lane (stored_with w.store object holding) (same_group (group_of (kind_of object)) groups.Service) refl copies

delete_by : (w : WorldValue) (c : Option State) (kind : Kind) (key : Key) → IsAscending w.store.objects → IfSome c (λ s. AreCopies w.store s w.service_lane)
    → IfSome c (λ s. AreCopies (edited (Delete kind key) w.store) s
    (w.service_lane ++ to_lane groups.Service (group_of kind) (while_up c (shown_edit (Delete kind key) w.store))))
delete_by w None kind key sorted copies = tt
delete_by w (Some s) kind key sorted copies =
    delete-copies w.store s w.service_lane kind key (same_group (group_of kind) groups.Service) sorted copies

late_by : (store : StoreValue) (c : Option State) (lane before : List Event) (event : Event) (behind : List Event)
    → lane ≡ before ++ ListEnd groups.Service ∷ event ∷ behind → IfSome c (λ s. AreCopies store s lane)
    → IfSome c (λ s. AreCopies store s (before ++ event ∷ ListEnd groups.Service ∷ behind))
late_by store None lane before event behind is copies = tt
late_by store (Some s) lane before event behind is copies =
    let P : Event → Type 0 = λ event. ShowsOfStore store (effect_of event) in
    let all : AllByRecursion P (before ++ ListEnd groups.Service ∷ event ∷ behind) = subst (AllByRecursion P) is copies.pending in
    let front = all-front P before (ListEnd groups.Service ∷ event ∷ behind) all in
    let rest = all-behind P before (ListEnd groups.Service ∷ event ∷ behind) all in
    record { held = copies.held; pending = all-append P before (event ∷ ListEnd groups.Service ∷ behind) front (rest.1.0, (rest.0, rest.1.1)) }

-- ---- a put that was given up
module _ (store : StoreValue) (s : State) (lane : List Event) (put : Put) (copies : AreCopies store s lane) where
  -- the copies after it, where it was stored or not, by what was stored
  abbrev Landed : Bool → Option Stored → Type 0
  Landed b found =
      let objects = cond b (with_put (store.counter + 1) put found store.objects) store.objects in
      AreCopies (record { objects = objects; counter = cond b (store.counter + 1) store.counter }) s
      (lane ++ cond b (shown_stored (stored_at objects (service_at put.key))) [])

  land-same : (found : Option Stored) → Landed false found
  land-same found = record {
    held = copies.held;
    pending = subst (AllByRecursion (λ event. ShowsOfStore store (effect_of event))) (sym (append-nil lane)) copies.pending;
  }

  module _ (g : Stored) (found : stored_at store.objects (service_at put.key) ≡ Some g) where
    abbrev landed : Stored
    landed = recorded (store.counter + 1) put.holding g

    abbrev behind : StoreValue
    behind = record { objects = with_stored landed store.objects; counter = store.counter + 1 }

    abbrev Shows_behind : Event → Type 0
    Shows_behind event = ShowsOfStore behind (effect_of event)

    landed-is : stored_at behind.objects (service_at put.key) ≡ Some landed
    landed-is = stored_at-recorded store.objects g put.key put.key put.holding (store.counter + 1) found
        ∙ ap (λ (b : Bool). cond b (Some landed) (stored_at store.objects (service_at put.key))) (same_key-itself put.key)

    land-made : Landed true (Some g)
    land-made = record {
      held = λ key v is. set-kept store landed refl key v.version v.object (copies.held key v is);
      pending = all-append Shows_behind lane (shown_stored (stored_at behind.objects (service_at put.key)))
          (lane-kept store behind (set-kept store landed refl) lane copies.pending)
          (subst (λ (o : Option Stored). AllByRecursion Shows_behind (shown_stored o)) (sym landed-is) (new-shown store landed refl, tt));
    }

  land-on : (b : Bool) (found : Option Stored) → stored_at store.objects (service_at put.key) ≡ found
      → (b ≡ true → is_at_version put.version found ≡ true) → Landed b found
  land-on false found is made = land-same found
  land-on true None is made = absurd (true≢false (sym (made refl)))
  land-on true (Some g) is made = land-made g is

  land-copies : AreCopies (after_put put (Lost true) store) s (lane ++ shown_put put (Lost true) store)
  land-copies =
      let there = stored_at store.objects (service_at put.key) in
      land-on (true && is_at_version put.version there) there refl (λ e. (and_parts true (is_at_version put.version there) e).1)

land_by : (w : WorldValue) (c : Option State) (put : Put) → IfSome c (λ s. AreCopies w.store s w.service_lane)
    → IfSome c (λ s. AreCopies (after_put put (Lost true) w.store) s (w.service_lane ++ while_up c (shown_put put (Lost true) w.store)))
land_by w None put copies = tt
land_by w (Some s) put copies = land-copies w.store s w.service_lane put copies

-- ---- each move
pub move-copies : (move : Move) (w : WorldValue) (late : List Put) → IsMove move w late → IsGood w → HasCopies w → HasCopies (after_move move w)
move-copies (Sets object holding) w late may good copies = set_by w w.core object holding copies
move-copies (Deletes kind key) w late may good copies = delete_by w w.core kind key good.stored.kept.ascending copies
move-copies (Tells event) w late may good copies = tell_by w.store w.service_lane w.core event may copies
move-copies Takes w late may good copies = take_by w w.core w.service_lane refl good.up copies
move-copies (Turns outcome) w late may good copies = turns_by w.core w outcome refl copies
move-copies (Stops applied) w late may good copies = tt
move-copies (Starts list) w late may good copies = start_by w.core list w refl may good copies
move-copies ConfigExpires w late may good copies = config_by w.store w.service_lane w.core copies
move-copies (ServicesExpire list) w late may good copies = expired_by w w.core list may good.stored.kept
move-copies (EndsLater before event behind) w late may good copies = late_by w.store w.core w.service_lane before event behind may copies
move-copies (Lands put) w late may good copies = land_by w w.core put copies

pub moves_keep_copies : MovesKeepCopies
moves_keep_copies old next move step good copies = subst HasCopies (sym step.leads) (move-copies move old [] step.may good copies)
