-- What a core holds of the configuration and is still going to be shown of it leads to what is stored, after each step.
use Rattle.std.proofs.Common.{◌≡◌, ℕ, ◌+◌, ◌≤◌, ◌<◌, Bool, true, false, cond, is_eq, is_some, List, [], ◌∷◌, ◌++◌, map, filter, reverse}
use Rattle.std.proofs.Common.{Option, Some, None, option_map, IfSome, refl, sym, ap, subst, ◌∙◌, arith}
use Rattle.std.proofs.lemmas.Grind.{reverse_onto}
use Rattle.std.proofs.lemmas.List.{map-append, reverse-reverse}
use Rattle.std.proofs.lemmas.List.Sorted.{Contains-permutation, IsPermutation-reverse}
use Rattle.std.specs.List.{AllByRecursion, Contains}
use Rattle.std.specs.List.Sorted.{IsStrictlySortedBy}
use Rattle.std.specs.Map.{keys_of}
use Rattle.std.specs.Cmp.{Equal-is}
use Rattle.mlb_base.proofs.Lists.{filter-contains, filter-keeps}
use Rattle.kube_labels.specs.Names.{name_cmp}
use Rattle.kube_labels.proofs.NameLaws.{name_cmp-total, name_cmp-exact}
use Rattle.kube_model.specs.declared.event.Event.{Event}
use Rattle.kube_model.specs.declared.event.Event.TheVariants.{Changed, Deleted, ListEnd, Expired, Members, Frame, Ignored}
use Rattle.kube_model.specs.declared.event.ListGroup.{ListGroup}
use Rattle.kube_model.specs.declared.event.ListGroup.TheVariants as groups
use Rattle.kube_model.specs.declared.key.Key.{Key}
use Rattle.kube_model.specs.declared.namespace.Namespace.{Namespace}
use Rattle.kube_model.specs.declared.object.Kind.{Kind}
use Rattle.kube_model.specs.declared.object.Kind.TheVariants as kinds
use Rattle.kube_model.specs.declared.object.Object.{Object}
use Rattle.kube_model.specs.declared.object.Object.TheVariants as objects
use Rattle.kube_model.specs.declared.put.Put.{Put}
use Rattle.kube_model.specs.declared.reply.PutReply.{PutReply}
use Rattle.kube_model.specs.declared.reply.PutReply.TheVariants as replies
use Rattle.kube_model.specs.Kinds.{kind_of, group_of}
use Rattle.versioned_map.specs.declared.map.Versioned.{Versioned}
use Rattle.versioned_map.specs.Objects.{at_version, expired, held_at}
use Rattle.versioned_map.proofs.HeldLaws.{held_at-expired}
use Rattle.pool_config.specs.declared.object_set.ObjectSet.{ObjectSet}
use Rattle.object_history.specs.AsShown.{IsAsShown}
use Rattle.object_history.specs.Cache.{Cached, cached, held_after, objects_after}
use Rattle.object_history.specs.Kinds.{namespace_resource, show_pool, show_l2, show_bgp, show_peer, show_community, show_namespace}
use Rattle.object_history.specs.LookBack.{version_of}
use Rattle.object_history.specs.Observations.{Observation, Watched, WatchExpired, same_group}
use Rattle.object_history.proofs.Force.{all_is_as_shown}
use Rattle.object_history.proofs.Held.{held_at-held_after}
use Rattle.status_store.specs.declared.change.Edit.{Edit}
use Rattle.status_store.specs.declared.change.Edit.TheVariants.{Set, Reset, Delete}
use Rattle.status_store.specs.declared.change.Outcome.{Outcome}
use Rattle.status_store.specs.declared.stored.Stored.{Stored}
use Rattle.status_store.specs.Places.{Place, place_of, place_cmp, service_at}
use Rattle.status_store.specs.Objects.{AreCounted, IsAscending, is_of, stored_at, with_stored, without_stored}
use Rattle.status_store.specs.Changes.{StoreValue, IsWellFormed, edited, edited_place, kept_record, recorded, reset_as, set_as}
use Rattle.status_store.specs.Changes.{after_put, is_made, with_put, reply_to}
use Rattle.status_store.proofs.ChangeLaws.{place_of-with_record}
use Rattle.status_store.proofs.ListLaws.{stored_at-with_stored, stored_at-without_stored}
use Rattle.status_store.proofs.PlaceLaws.{place_cmp-exact}
use Rattle.status_store.proofs.StoredLaws.{found-stored, is_of-is, stored-found}
use Rattle.core_rules.specs.Core.{State, fresh}
use Rattle.core_rules.specs.Replied.{replied_to}
use Rattle.core_rules.specs.Run.{observed}
use Rattle.core_rules.specs.Take.{core_take}
use Rattle.core_rules.specs.Turn.{core_turn, after_turn, put_in}
use Rattle.core_rules.proofs.Runs.{core_holds_what_was_observed}
use Rattle.world_rules.specs.declared.step.ListOrder.{ListOrder}
use Rattle.world_rules.specs.declared.step.ListOrder.TheVariants.{Ascending, Descending}
use Rattle.world_rules.specs.declared.step.Step.TheVariants.{Edit as Edits, Take, Turn as Turns, Crash, Restart, Expire}
use Rattle.world_rules.specs.Good.{stored_as, IsOfGroup, IsFollowed}
use Rattle.world_rules.specs.Tracked.{version_at, IsBehind}
use Rattle.world_rules.specs.World.{WorldValue, as_shown, is_of_group, listing, shown_edit, to_lane, while_up, told, untold}
use Rattle.world_rules.specs.World.{turned, after_turning, restarted, expired_core, listed_anew}
use Rattle.world_rules.proofs.Lanes.{counted-at}
use Rattle.settling_laws.specs.StoredConfig.{stored_in}
use Rattle.settling_laws.specs.Configured.{held_behind, LeadsTo, ConfigLeads, HasConfigCopies, StartsHaveConfigCopies, StepsKeepConfigCopies}
use Rattle.settling_laws.proofs.NamedKinds.{resource, place, as_held, at, IsNamed, stored-under, set-seen, set-other, deleted-seen, deleted-other, listed, behind-append}
use Rattle.settling_laws.proofs.NamedKinds.{named-pool, named-l2, named-bgp, named-peer, named-community, named-namespace}

-- ---- what changes nothing of the configuration
-- nothing of the configuration is held in another way
abbrev pub HasSameConfig : Cached → Cached → Type 0
HasSameConfig after before =
    (after.objects ≡ before.objects) × (after.namespaces ≡ before.namespaces) × (after.config ≡ before.config) × (after.config_ended ≡ before.config_ended)

-- an event of the services
pub service-same : (s : State) (event : Event) → IsOfGroup groups.Service event → HasSameConfig (core_take s event).held s.held
service-same s (Changed version (objects.Service service)) of = (refl, refl, refl, refl)
service-same s (Changed version (objects.Slice slice)) of = absurd (cc)
service-same s (Changed version _) of = absurd (cc)
service-same s (Deleted kinds.Service key) of = (refl, refl, refl, refl)
service-same s (Deleted _ key) of = absurd (cc)
service-same s (ListEnd groups.Service) of = (refl, refl, refl, refl)
service-same s (ListEnd _) of = absurd (cc)
service-same s Expired of = absurd of
service-same s (Members names) of = absurd of
service-same s (Frame interface bytes) of = absurd of
service-same s Ignored of = absurd of

-- a reply
pub reply-same : (p : Option Put) (s : State) (reply : PutReply) → HasSameConfig (replied_to p s reply).held s.held
reply-same None s reply = (refl, refl, refl, refl)
reply-same (Some put) s (replies.Ok version) = (refl, refl, refl, refl)
reply-same (Some put) s replies.Stale = (refl, refl, refl, refl)
reply-same (Some put) s replies.Missing = (refl, refl, refl, refl)
reply-same (Some put) s replies.Unknown = (refl, refl, refl, refl)

-- what a core makes of an event: a controller holds no nodes and no endpoint slices
took : (s : State) (event : Event)
    → ((core_take s event).held.objects ≡ objects_after (Watched event) s.held.objects)
    × ((core_take s event).held.namespaces ≡ held_after namespace_resource (Watched event) s.held.namespaces)
took s (Changed version (objects.Service service)) = (refl, refl)
took s (Changed version _) = (refl, refl)
took s (Deleted kinds.Service key) = (refl, refl)
took s (Deleted _ key) = (refl, refl)
took s (ListEnd groups.Service) = (refl, refl)
took s (ListEnd _) = (refl, refl)
took s Expired = (refl, refl)
took s (Members names) = (refl, refl)
took s (Frame interface bytes) = (refl, refl)
took s Ignored = (refl, refl)

same-leads : (store : StoreValue) (objects now : ObjectSet) (namespaces later : List (List ℕ × Versioned Namespace)) (lane : List Event) → now ≡ objects
    → later ≡ namespaces → ConfigLeads store objects namespaces lane → ConfigLeads store now later lane
same-leads store objects now namespaces later lane a b leads =
    subst (λ (o : ObjectSet). ConfigLeads store o later lane) (sym a)
    (subst (λ (n : List (List ℕ × Versioned Namespace)). ConfigLeads store objects n lane) (sym b) leads)

-- ---- lists and their orders
map-back : {X Y : Type 0} → (f : X → Y) (xs : List X) → reverse (map f xs) ≡ map f (reverse xs)
map-back f [] = refl
map-back f (x ∷ xs) =
    reverse_onto (map f xs) (f x) []
    ∙ ap (λ ys. ys ++ f x ∷ []) (map-back f xs)
    ∙ sym (map-append f (reverse xs) (x ∷ []))
    ∙ ap (map f) (sym (reverse_onto xs x []))

contains-back : {X : Type 0} → (xs : List X) (x : X) → Contains xs x → Contains (reverse xs) x
contains-back xs x there = Contains-permutation xs (reverse xs) x (IsPermutation-reverse xs) there

contains-forth : {X : Type 0} → (xs : List X) (x : X) → Contains (reverse xs) x → Contains xs x
contains-forth xs x there = subst (λ l. Contains l x) (reverse-reverse xs) (contains-back (reverse xs) x there)

-- ---- one kind
version_by : {T : Type 0} → (kind : Kind) (shown : Object → Option (List ℕ × T)) (name : List ℕ) (version : ℕ) (o : Option (List ℕ × T))
    → version_of (resource kind shown) name (at kind shown version o) ≤ version
version_by kind shown name version None = omega arith
version_by kind shown name version (Some p) = omega arith

version-few : {T : Type 0} → (kind : Kind) (shown : Object → Option (List ℕ × T)) (name : List ℕ) (st : Option Stored)
    → version_of (resource kind shown) name (as_held kind shown st) ≤ version_at (option_map stored_as st)
version-few kind shown name None = omega arith
version-few kind shown name (Some held) = version_by kind shown name held.version (shown held.object)

zero-version : {T : Type 0} → (kind : Kind) (shown : Object → Option (List ℕ × T)) (name : List ℕ) (o : Option (Versioned T))
    → version_of (resource kind shown) name (option_map (at_version 0) o) ≡ 0
zero-version kind shown name None = refl
zero-version kind shown name (Some held) = refl

later_by : (o : Option Stored) (stored : Stored) → IsBehind (option_map stored_as o) 0 → o ≡ Some stored → 0 < stored.version
later_by o stored behind is = subst (λ (x : Option Stored). IsBehind (option_map stored_as x) 0) is behind

module _ {T : Type 0} (kind : Kind) (shown : Object → Option (List ℕ × T)) (law : IsNamed kind shown) where
  -- an event is taken
  take-leads : (store : StoreValue) (entries : List (List ℕ × Versioned T)) (event : Event) (lane : List Event) → IsStrictlySortedBy name_cmp (keys_of entries)
      → LeadsTo (resource kind shown) store entries (event ∷ lane)
      → LeadsTo (resource kind shown) store (held_after (resource kind shown) (Watched event) entries) lane
  take-leads store entries event lane sorted leads name =
      ap (held_behind (resource kind shown) name lane)
      (held_at-held_after (resource kind shown) name_cmp-total name_cmp-exact name (Watched event) entries sorted)
      ∙ leads name

  -- what is stored changes, and more is pending
  push-leads : (old new : StoreValue) (entries : List (List ℕ × Versioned T)) (lane more : List Event)
      → ((name : List ℕ) → as_held kind shown (stored_at new.objects (place kind shown name))
      ≡ held_behind (resource kind shown) name more (as_held kind shown (stored_at old.objects (place kind shown name))))
      → LeadsTo (resource kind shown) old entries lane → LeadsTo (resource kind shown) new entries (lane ++ more)
  push-leads old new entries lane more changes leads name =
      behind-append (resource kind shown) name lane more (held_at name_cmp entries name)
      ∙ ap (held_behind (resource kind shown) name more) (leads name ∙ stored-under kind shown law old name)
      ∙ sym (changes name)
      ∙ sym (stored-under kind shown law new name)

  set_changes : (store : StoreValue) (added : Stored) (b : Bool) → same_group (group_of (kind_of added.object)) groups.Config ≡ b
      → added.version ≡ store.counter + 1 → AreCounted store.counter store.objects
      → (name : List ℕ) → as_held kind shown (stored_at (with_stored added store.objects) (place kind shown name))
      ≡ held_behind (resource kind shown) name (cond b (as_shown added ∷ []) []) (as_held kind shown (stored_at store.objects (place kind shown name)))
  set_changes store added true e next counted name =
      let st = stored_at store.objects (place kind shown name) in
      let few = version-few kind shown name st in
      let low = (counted-at store.counter store.objects (place kind shown name) counted).0 in
      ap (as_held kind shown) (stored_at-with_stored store.objects added (place kind shown name))
      ∙ set-seen kind shown law st added name (omega (arith, few, low, next))
  set_changes store added false e next counted name =
      ap (as_held kind shown) (stored_at-with_stored store.objects added (place kind shown name))
      ∙ set-other kind shown law (stored_at store.objects (place kind shown name)) added name e

  gone_none : (objects : List Stored) (at_key own : Place) (b : Bool) → is_eq (place_cmp at_key own) ≡ b → stored_at objects at_key ≡ None
      → as_held kind shown (cond b None (stored_at objects own)) ≡ as_held kind shown (stored_at objects own)
  gone_none objects at_key own true e none =
      let same : at_key ≡ own = place_cmp-exact at_key own ((Equal-is (place_cmp at_key own)).0 e) in
      ap (as_held kind shown) (sym none ∙ ap (stored_at objects) same)
  gone_none objects at_key own false e none = refl

  delete_changes : (store : StoreValue) (k : Kind) (key : Key) (found : Option Stored) (b : Bool) → stored_at store.objects (k, key) ≡ found
      → same_group (group_of k) groups.Config ≡ b → IsAscending store.objects
      → (name : List ℕ) → as_held kind shown (stored_at (without_stored (k, key) store.objects) (place kind shown name))
      ≡ held_behind (resource kind shown) name (cond b (cond (is_some found) (Deleted k key ∷ []) []) [])
      (as_held kind shown (stored_at store.objects (place kind shown name)))
  delete_changes store k key found false is e sorted name =
      ap (as_held kind shown) (stored_at-without_stored store.objects (k, key) (place kind shown name) sorted)
      ∙ deleted-other kind shown law k key name (stored_at store.objects (place kind shown name)) e
  delete_changes store k key None true is e sorted name =
      ap (as_held kind shown) (stored_at-without_stored store.objects (k, key) (place kind shown name) sorted)
      ∙ gone_none store.objects (k, key) (place kind shown name) (is_eq (place_cmp (k, key) (place kind shown name))) refl is
  delete_changes store k key (Some there) true is e sorted name =
      ap (as_held kind shown) (stored_at-without_stored store.objects (k, key) (place kind shown name) sorted)
      ∙ deleted-seen kind shown law store.objects there k key name (stored_at store.objects (place kind shown name)) is

  edit_changes : (edit : Edit) (store : StoreValue) → IsWellFormed store
      → (name : List ℕ) → as_held kind shown (stored_at (edited edit store).objects (place kind shown name))
      ≡ held_behind (resource kind shown) name (to_lane groups.Config (group_of (edited_place edit).0) (shown_edit edit store))
      (as_held kind shown (stored_at store.objects (place kind shown name)))
  edit_changes (Set object) store kept name =
      let group = ap (λ (p : Place). same_group (group_of p.0) groups.Config)
      (place_of-with_record (kept_record (stored_at store.objects (place_of object))) object) in
      set_changes store (set_as store object) (same_group (group_of (kind_of object)) groups.Config) group refl kept.counted name
  edit_changes (Reset object) store kept name =
      set_changes store (reset_as store object) (same_group (group_of (kind_of object)) groups.Config) refl refl kept.counted name
  edit_changes (Delete k key) store kept name =
      delete_changes store k key (stored_at store.objects (k, key)) (same_group (group_of k) groups.Config) refl refl kept.ascending name

  -- somebody edits
  edit-leads : (edit : Edit) (store : StoreValue) (entries : List (List ℕ × Versioned T)) (lane : List Event) → IsWellFormed store
      → LeadsTo (resource kind shown) store entries lane
      → LeadsTo (resource kind shown) (edited edit store) entries (lane ++ to_lane groups.Config (group_of (edited_place edit).0) (shown_edit edit store))
  edit-leads edit store entries lane kept leads =
      push-leads store (edited edit store) entries lane (to_lane groups.Config (group_of (edited_place edit).0) (shown_edit edit store))
      (edit_changes edit store kept) leads

  -- a put is made, or not
  made_same : (made : Bool) (store : StoreValue) (put : Put) (found : Option Stored) → stored_at store.objects (service_at put.key) ≡ found
      → (name : List ℕ) → as_held kind shown (stored_at (cond made (with_put (store.counter + 1) put found store.objects) store.objects) (place kind shown name))
      ≡ as_held kind shown (stored_at store.objects (place kind shown name))
  made_same false store put found is name = refl
  made_same true store put None is name = refl
  made_same true store put (Some held) is name =
      let added : Stored = recorded (store.counter + 1) put.holding held in
      let group : same_group (group_of (kind_of added.object)) groups.Config ≡ false =
      ap (λ (p : Place). same_group (group_of p.0) groups.Config)
      (place_of-with_record put.holding held.object ∙ (found-stored store.objects (service_at put.key) held is).1) in
      ap (as_held kind shown) (stored_at-with_stored store.objects added (place kind shown name))
      ∙ set-other kind shown law (stored_at store.objects (place kind shown name)) added name group

  pub put-same : (store : StoreValue) (put : Put) (outcome : Outcome) (name : List ℕ)
      → held_at name_cmp (stored_in (resource kind shown) (after_put put outcome store)) name ≡ held_at name_cmp (stored_in (resource kind shown) store) name
  put-same store put outcome name =
      stored-under kind shown law (after_put put outcome store) name
      ∙ made_same (is_made put outcome store.objects) store put (stored_at store.objects (service_at put.key)) refl name
      ∙ sym (stored-under kind shown law store name)

  put-leads : (store : StoreValue) (put : Put) (outcome : Outcome) (entries : List (List ℕ × Versioned T)) (lane : List Event)
      → LeadsTo (resource kind shown) store entries lane → LeadsTo (resource kind shown) (after_put put outcome store) entries lane
  put-leads store put outcome entries lane leads name = leads name ∙ sym (put-same store put outcome name)

  -- a list is going to be shown, and what is held counts for nothing
  module _ (store : StoreValue) (kept : IsWellFormed store) (name : List ℕ) where
    given : (x : Stored) → Contains store.objects x → 0 < x.version
    given x there =
        later_by (stored_at store.objects (place_of x.object)) x (counted-at store.counter store.objects (place_of x.object) kept.counted).1
        (stored-found store.objects (place_of x.object) x kept.ascending (there, refl))

    abbrev of_config : List Stored
    of_config = filter (is_of_group groups.Config) store.objects

    of_it : (x : Stored) → Contains of_config x → Contains store.objects x
    of_it x there = (filter-contains (is_of_group groups.Config) store.objects x there).0

    all_of : (x : Stored) → Contains store.objects x → is_of (place kind shown name) x ≡ true → Contains of_config x
    all_of x there here =
        filter-keeps (is_of_group groups.Config) store.objects x there
        (ap (λ (p : Place). same_group (group_of p.0) groups.Config) (is_of-is (place kind shown name) x here)
        ∙ ap (λ (g : ListGroup). same_group g groups.Config) law.group)

    list_leads : (order : ListOrder) (h : Option (Versioned T)) → version_of (resource kind shown) name h ≡ 0
        → held_behind (resource kind shown) name (listing order groups.Config store) h ≡ held_at name_cmp (stored_in (resource kind shown) store) name
    list_leads Ascending h zero =
        behind-append (resource kind shown) name (map as_shown of_config) (ListEnd groups.Config ∷ []) h
        ∙ listed kind shown law store.objects kept.ascending given name of_config of_it all_of h zero
        ∙ sym (stored-under kind shown law store name)
    list_leads Descending h zero =
        ap (λ (l : List Event). held_behind (resource kind shown) name (l ++ ListEnd groups.Config ∷ []) h) (map-back as_shown of_config)
        ∙ behind-append (resource kind shown) name (map as_shown (reverse of_config)) (ListEnd groups.Config ∷ []) h
        ∙ listed kind shown law store.objects kept.ascending given name (reverse of_config)
        (λ x there. of_it x (contains-forth of_config x there)) (λ x there here. contains-back of_config x (all_of x there here)) h zero
        ∙ sym (stored-under kind shown law store name)

  start-leads : (order : ListOrder) (store : StoreValue) → IsWellFormed store → LeadsTo (resource kind shown) store [] (listing order groups.Config store)
  start-leads order store kept name = list_leads store kept name order None refl

  expired-leads : (order : ListOrder) (store : StoreValue) (entries : List (List ℕ × Versioned T)) → IsWellFormed store
      → LeadsTo (resource kind shown) store (expired entries) (listing order groups.Config store)
  expired-leads order store entries kept name =
      list_leads store kept name order (held_at name_cmp (expired entries) name)
      (ap (version_of (resource kind shown) name) (held_at-expired name_cmp entries name) ∙ zero-version kind shown name (held_at name_cmp entries name))

-- ---- all kinds
-- what a core holds is as it was shown
pub held-shown : (w : WorldValue) (s : State) (up : IsFollowed w s) → IsAsShown s.held (observed up.run)
held-shown w s up =
    let held : s.held ≡ cached (observed up.run) = ap (λ (t : State). t.held) (sym up.leads) ∙ (core_holds_what_was_observed w.class up.run up.is).0 in
    subst (λ (c : Cached). IsAsShown c (observed up.run)) (sym held) (all_is_as_shown (observed up.run))

take_all : (store : StoreValue) (c : Cached) (observations : List Observation) (event : Event) (lane : List Event) → IsAsShown c observations
    → ConfigLeads store c.objects c.namespaces (event ∷ lane)
    → ConfigLeads store (objects_after (Watched event) c.objects) (held_after namespace_resource (Watched event) c.namespaces) lane
take_all store c observations event lane shown leads =
    let sets = shown.config_objects in
    record {
      pools = take-leads kinds.Pool show_pool named-pool store c.objects.pools event lane sets.pools.ascend leads.pools;
      l2s = take-leads kinds.L2 show_l2 named-l2 store c.objects.l2s event lane sets.l2s.ascend leads.l2s;
      bgps = take-leads kinds.Bgp show_bgp named-bgp store c.objects.bgps event lane sets.bgps.ascend leads.bgps;
      peers = take-leads kinds.Peer show_peer named-peer store c.objects.peers event lane sets.peers.ascend leads.peers;
      communities = take-leads kinds.Community show_community named-community store c.objects.communities event lane sets.communities.ascend leads.communities;
      namespaces = take-leads kinds.Namespace show_namespace named-namespace store c.namespaces event lane shown.namespaces.ascend leads.namespaces;
    }

edit_all : (edit : Edit) (store : StoreValue) (o : ObjectSet) (n : List (List ℕ × Versioned Namespace)) (lane : List Event) → IsWellFormed store
    → ConfigLeads store o n lane
    → ConfigLeads (edited edit store) o n (lane ++ to_lane groups.Config (group_of (edited_place edit).0) (shown_edit edit store))
edit_all edit store o n lane kept leads = record {
  pools = edit-leads kinds.Pool show_pool named-pool edit store o.pools lane kept leads.pools;
  l2s = edit-leads kinds.L2 show_l2 named-l2 edit store o.l2s lane kept leads.l2s;
  bgps = edit-leads kinds.Bgp show_bgp named-bgp edit store o.bgps lane kept leads.bgps;
  peers = edit-leads kinds.Peer show_peer named-peer edit store o.peers lane kept leads.peers;
  communities = edit-leads kinds.Community show_community named-community edit store o.communities lane kept leads.communities;
  namespaces = edit-leads kinds.Namespace show_namespace named-namespace edit store n lane kept leads.namespaces;
}

put_all : (store : StoreValue) (put : Put) (outcome : Outcome) (o : ObjectSet) (n : List (List ℕ × Versioned Namespace)) (lane : List Event)
    → ConfigLeads store o n lane → ConfigLeads (after_put put outcome store) o n lane
put_all store put outcome o n lane leads = record {
  pools = put-leads kinds.Pool show_pool named-pool store put outcome o.pools lane leads.pools;
  l2s = put-leads kinds.L2 show_l2 named-l2 store put outcome o.l2s lane leads.l2s;
  bgps = put-leads kinds.Bgp show_bgp named-bgp store put outcome o.bgps lane leads.bgps;
  peers = put-leads kinds.Peer show_peer named-peer store put outcome o.peers lane leads.peers;
  communities = put-leads kinds.Community show_community named-community store put outcome o.communities lane leads.communities;
  namespaces = put-leads kinds.Namespace show_namespace named-namespace store put outcome n lane leads.namespaces;
}

start_all : (order : ListOrder) (class : Option (List ℕ)) (store : StoreValue) → IsWellFormed store
    → ConfigLeads store (fresh class).held.objects (fresh class).held.namespaces (listing order groups.Config store)
start_all order class store kept = record {
  pools = start-leads kinds.Pool show_pool named-pool order store kept;
  l2s = start-leads kinds.L2 show_l2 named-l2 order store kept;
  bgps = start-leads kinds.Bgp show_bgp named-bgp order store kept;
  peers = start-leads kinds.Peer show_peer named-peer order store kept;
  communities = start-leads kinds.Community show_community named-community order store kept;
  namespaces = start-leads kinds.Namespace show_namespace named-namespace order store kept;
}

expired_all : (order : ListOrder) (store : StoreValue) (o : ObjectSet) (n : List (List ℕ × Versioned Namespace)) → IsWellFormed store
    → ConfigLeads store (objects_after (WatchExpired groups.Config) o) (held_after namespace_resource (WatchExpired groups.Config) n)
    (listing order groups.Config store)
expired_all order store o n kept = record {
  pools = expired-leads kinds.Pool show_pool named-pool order store o.pools kept;
  l2s = expired-leads kinds.L2 show_l2 named-l2 order store o.l2s kept;
  bgps = expired-leads kinds.Bgp show_bgp named-bgp order store o.bgps kept;
  peers = expired-leads kinds.Peer show_peer named-peer order store o.peers kept;
  communities = expired-leads kinds.Community show_community named-community order store o.communities kept;
  namespaces = expired-leads kinds.Namespace show_namespace named-namespace order store n kept;
}

pub starts_have_config_copies : StartsHaveConfigCopies
starts_have_config_copies class store good = start_all Ascending class store good.kept

-- ---- each step
-- it is so of this core, by what is stored and pending
abbrev Leads : StoreValue → List Event → State → Type 0
Leads store lane s = ConfigLeads store s.held.objects s.held.namespaces lane

edit_by : (edit : Edit) (c : Option State) (store : StoreValue) (lane : List Event) → IsWellFormed store → IfSome c (Leads store lane)
    → IfSome c (Leads (edited edit store) (lane ++ to_lane groups.Config (group_of (edited_place edit).0) (while_up c (shown_edit edit store))))
edit_by edit None store lane kept leads = tt
edit_by edit (Some s) store lane kept leads = edit_all edit store s.held.objects s.held.namespaces lane kept leads

config_by : (w : WorldValue) (c : Option State) (lane : List Event) → IfSome c (IsFollowed w) → IfSome c (Leads w.store lane)
    → IfSome (told c lane) (Leads w.store (untold c lane))
config_by w None lane up leads = tt
config_by w (Some s) [] up leads = leads
config_by w (Some s) (event ∷ more) up leads =
    let is = took s event in
    same-leads w.store (objects_after (Watched event) s.held.objects) (core_take s event).held.objects
    (held_after namespace_resource (Watched event) s.held.namespaces) (core_take s event).held.namespaces more is.0 is.1
    (take_all w.store s.held (observed up.run) event more (held-shown w s up) leads)

service_by : (w : WorldValue) (c : Option State) (services : List Event) → w.service_lane ≡ services → IfSome c (IsFollowed w)
    → IfSome c (Leads w.store w.config_lane) → IfSome (told c services) (Leads w.store w.config_lane)
service_by w None services e up leads = tt
service_by w (Some s) [] e up leads = leads
service_by w (Some s) (event ∷ more) e up leads =
    let of : AllByRecursion (IsOfGroup groups.Service) (event ∷ more) = subst (AllByRecursion (IsOfGroup groups.Service)) e up.services in
    let is = service-same s event of.0 in
    same-leads w.store s.held.objects (core_take s event).held.objects s.held.namespaces (core_take s event).held.namespaces w.config_lane is.0 is.1 leads

turn_by : (w : WorldValue) (s : State) (p : Option Put) (outcome : Outcome) → Leads w.store w.config_lane s
    → HasConfigCopies (turned (after_turn s) p outcome w)
turn_by w s None outcome leads = leads
turn_by w s (Some put) outcome leads =
    let is = reply-same (after_turn s).out (after_turn s) (reply_to put outcome w.store) in
    let next : State = replied_to (after_turn s).out (after_turn s) (reply_to put outcome w.store) in
    same-leads (after_put put outcome w.store) s.held.objects next.held.objects s.held.namespaces next.held.namespaces w.config_lane is.0 is.1
    (put_all w.store put outcome s.held.objects s.held.namespaces w.config_lane leads)

turning_by : (w : WorldValue) (c : Option State) (outcome : Outcome) → w.core ≡ c → HasConfigCopies w → HasConfigCopies (after_turning c outcome w)
turning_by w None outcome e leads = leads
turning_by w (Some s) outcome e leads =
    turn_by w s (put_in (core_turn s)) outcome (subst (λ (c : Option State). IfSome c (Leads w.store w.config_lane)) e leads)

restart_by : (w : WorldValue) (c : Option State) (order : ListOrder) → w.core ≡ c → IsWellFormed w.store → HasConfigCopies w
    → HasConfigCopies (restarted order c w)
restart_by w None order e kept leads = start_all order w.class w.store kept
restart_by w (Some s) order e kept leads = leads

expire_by : (group : ListGroup) (order : ListOrder) (store : StoreValue) (lane : List Event) (c : Option State) → IsWellFormed store
    → IfSome c (Leads store lane)
    → IfSome (expired_core group c) (Leads store (listed_anew order groups.Config group store c lane))
expire_by group order store lane None kept leads = tt
expire_by groups.Config order store lane (Some s) kept leads = expired_all order store s.held.objects s.held.namespaces kept
expire_by groups.Service order store lane (Some s) kept leads = leads
expire_by groups.Endpoint order store lane (Some s) kept leads = leads

pub steps_keep_config_copies : StepsKeepConfigCopies
steps_keep_config_copies w (Edits edit) good leads = edit_by edit w.core w.store w.config_lane good.stored.kept leads
steps_keep_config_copies w (Take groups.Config) good leads = config_by w w.core w.config_lane good.up leads
steps_keep_config_copies w (Take groups.Service) good leads = service_by w w.core w.service_lane refl good.up leads
steps_keep_config_copies w (Take groups.Endpoint) good leads = leads
steps_keep_config_copies w (Turns outcome) good leads = turning_by w w.core outcome refl leads
steps_keep_config_copies w (Crash applied) good leads = tt
steps_keep_config_copies w (Restart order) good leads = restart_by w w.core order refl good.stored.kept leads
steps_keep_config_copies w (Expire group order) good leads = expire_by group order w.store w.config_lane w.core good.stored.kept leads
