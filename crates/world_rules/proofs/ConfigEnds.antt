-- The end of the list of the configuration is pending once, until it is taken.
use Rattle.std.proofs.Common.{◌≡◌, ◌≢◌, Bool, true, false, cond, List, [], ◌∷◌, ◌++◌, map, filter, is_some, inl, inr, refl, sym, subst}
use Rattle.mlb_base.proofs.Lists.{all-append}
use Rattle.kube_model.specs.declared.event.Event.{Event}
use Rattle.kube_model.specs.declared.event.Event.TheVariants.{Changed, Deleted, ListEnd, Expired, Members, Frame, Ignored}
use Rattle.kube_model.specs.declared.event.ListGroup.{ListGroup}
use Rattle.kube_model.specs.declared.event.ListGroup.TheVariants as groups
use Rattle.kube_model.specs.declared.object.Kind.TheVariants as kinds
use Rattle.kube_model.specs.declared.object.Object.TheVariants as objects
use Rattle.object_history.specs.Cache.{ended_after_event}
use Rattle.object_history.specs.Observations.{same_group}
use Rattle.status_store.specs.declared.change.Edit.{Edit}
use Rattle.status_store.specs.declared.change.Edit.TheVariants.{Set, Reset, Delete}
use Rattle.status_store.specs.declared.stored.Stored.{Stored}
use Rattle.status_store.specs.Objects.{stored_at}
use Rattle.status_store.specs.Changes.{StoreValue}
use Rattle.core_rules.specs.Core.{State}
use Rattle.core_rules.specs.Take.{core_take}
use Rattle.world_rules.specs.Good.{IsOfGroup, ends_config, NoneEnds, OneEnds, ConfigEnds}
use Rattle.world_rules.specs.declared.step.ListOrder.{ListOrder}
use Rattle.world_rules.specs.World.{as_shown, is_of_group, in_order, listing, shown_edit, to_lane}
use Rattle.world_rules.proofs.Lanes.{all-ordered}

-- ---- more events
one-append : (lane more : List Event) → OneEnds lane → NoneEnds more → OneEnds (lane ++ more)
one-append [] more one none = absurd one
one-append (event ∷ lane) more (inl here) none = inl (here.0, all-append (λ (x : Event). x ≢ ends_config) lane more here.1 none)
one-append (event ∷ lane) more (inr later) none = inr (later.0, one-append lane more later.1 none)

pub ends-append : (ended : Bool) (lane more : List Event) → ConfigEnds ended lane → NoneEnds more → ConfigEnds ended (lane ++ more)
ends-append true lane more none = all-append (λ (x : Event). x ≢ ends_config) lane more none
ends-append false lane more one = one-append lane more one

none-lane : (b : Bool) (events : List Event) → NoneEnds events → NoneEnds (cond b events [])
none-lane true events none = none
none-lane false events none = tt

none-edit : (edit : Edit) (store : StoreValue) → NoneEnds (shown_edit edit store)
none-edit (Set object) store = (λ no. absurd (cc no), tt)
none-edit (Reset object) store = (λ no. absurd (cc no), tt)
none-edit (Delete kind key) store = none-gone (is_some (stored_at store.objects (kind, key)))
  where
    none-gone : (b : Bool) → NoneEnds (cond b (Deleted kind key ∷ []) [])
    none-gone true = (λ no. absurd (cc no), tt)
    none-gone false = tt

-- an edit shows no end
pub ends-edited : (ended : Bool) (lane : List Event) (group : ListGroup) (edit : Edit) (store : StoreValue) → ConfigEnds ended lane
    → ConfigEnds ended (lane ++ to_lane groups.Config group (shown_edit edit store))
ends-edited ended lane group edit store ends =
    ends-append ended lane (to_lane groups.Config group (shown_edit edit store)) ends
    (none-lane (same_group group groups.Config) (shown_edit edit store) (none-edit edit store))

-- ---- an event less
unless-end : (event : Event) (before : Bool) → IsOfGroup groups.Config event → event ≢ ends_config → ended_after_event groups.Config event before ≡ before
unless-end (Changed version object) before of not = refl
unless-end (Deleted kind key) before of not = refl
unless-end (ListEnd groups.Config) before of not = absurd (not refl)
unless-end (ListEnd groups.Service) before of not = absurd (cc)
unless-end (ListEnd groups.Endpoint) before of not = absurd (cc)
unless-end Expired before of not = absurd of
unless-end (Members names) before of not = absurd of
unless-end (Frame interface bytes) before of not = absurd of
unless-end Ignored before of not = absurd of

pub ends-taken : (ended : Bool) (event : Event) (lane : List Event) → IsOfGroup groups.Config event → ConfigEnds ended (event ∷ lane)
    → ConfigEnds (ended_after_event groups.Config event ended) lane
ends-taken true event lane of none = subst (λ (b : Bool). ConfigEnds b lane) (sym (unless-end event true of none.0)) none.1
ends-taken false event lane of (inl here) = subst (λ (x : Event). ConfigEnds (ended_after_event groups.Config x false) lane) (sym here.0) here.1
ends-taken false event lane of (inr later) = subst (λ (b : Bool). ConfigEnds b lane) (sym (unless-end event false of later.0)) later.1

-- ---- what the core makes of an event
pub config-ended : (s : State) (event : Event) → IsOfGroup groups.Config event
    → (core_take s event).held.config_ended ≡ ended_after_event groups.Config event s.held.config_ended
config-ended s (Changed version (objects.Service service)) of = absurd (cc)
config-ended s (Changed version (objects.Pool pool)) of = refl
config-ended s (Changed version (objects.L2 adv)) of = refl
config-ended s (Changed version (objects.Bgp adv)) of = refl
config-ended s (Changed version (objects.Peer peer)) of = refl
config-ended s (Changed version (objects.Community community)) of = refl
config-ended s (Changed version (objects.Namespace namespace)) of = refl
config-ended s (Changed version (objects.Node node)) of = refl
config-ended s (Changed version (objects.Slice slice)) of = absurd (cc)
config-ended s (Deleted kinds.Service key) of = absurd (cc)
config-ended s (Deleted kinds.Pool key) of = refl
config-ended s (Deleted kinds.L2 key) of = refl
config-ended s (Deleted kinds.Bgp key) of = refl
config-ended s (Deleted kinds.Peer key) of = refl
config-ended s (Deleted kinds.Community key) of = refl
config-ended s (Deleted kinds.Namespace key) of = refl
config-ended s (Deleted kinds.Node key) of = refl
config-ended s (Deleted kinds.Slice key) of = absurd (cc)
config-ended s (ListEnd groups.Config) of = refl
config-ended s (ListEnd groups.Service) of = absurd (cc)
config-ended s (ListEnd groups.Endpoint) of = absurd (cc)
config-ended s Expired of = absurd of
config-ended s (Members names) of = absurd of
config-ended s (Frame interface bytes) of = absurd of
config-ended s Ignored of = absurd of

-- an event of the services leaves the list of the configuration as it was
pub config-unended : (s : State) (event : Event) → IsOfGroup groups.Service event → (core_take s event).held.config_ended ≡ s.held.config_ended
config-unended s (Changed version (objects.Service service)) of = refl
config-unended s (Changed version (objects.Pool pool)) of = absurd (cc)
config-unended s (Changed version (objects.L2 adv)) of = absurd (cc)
config-unended s (Changed version (objects.Bgp adv)) of = absurd (cc)
config-unended s (Changed version (objects.Peer peer)) of = absurd (cc)
config-unended s (Changed version (objects.Community community)) of = absurd (cc)
config-unended s (Changed version (objects.Namespace namespace)) of = absurd (cc)
config-unended s (Changed version (objects.Node node)) of = absurd (cc)
config-unended s (Changed version (objects.Slice slice)) of = absurd (cc)
config-unended s (Deleted kinds.Service key) of = refl
config-unended s (Deleted kinds.Pool key) of = absurd (cc)
config-unended s (Deleted kinds.L2 key) of = absurd (cc)
config-unended s (Deleted kinds.Bgp key) of = absurd (cc)
config-unended s (Deleted kinds.Peer key) of = absurd (cc)
config-unended s (Deleted kinds.Community key) of = absurd (cc)
config-unended s (Deleted kinds.Namespace key) of = absurd (cc)
config-unended s (Deleted kinds.Node key) of = absurd (cc)
config-unended s (Deleted kinds.Slice key) of = absurd (cc)
config-unended s (ListEnd groups.Service) of = refl
config-unended s (ListEnd groups.Config) of = absurd (cc)
config-unended s (ListEnd groups.Endpoint) of = absurd (cc)
config-unended s Expired of = absurd of
config-unended s (Members names) of = absurd of
config-unended s (Frame interface bytes) of = absurd of
config-unended s Ignored of = absurd of

-- ---- the list
none-shown : (objects : List Stored) → NoneEnds (map as_shown objects)
none-shown [] = tt
none-shown (held ∷ more) = (λ no. absurd (cc no), none-shown more)

one-behind : (lane : List Event) → NoneEnds lane → OneEnds (lane ++ ends_config ∷ [])
one-behind [] none = inl (refl, tt)
one-behind (event ∷ lane) none = inr (none.0, one-behind lane none.1)

pub ends-listing : (order : ListOrder) (store : StoreValue) → ConfigEnds false (listing order groups.Config store)
ends-listing order store =
    let shown = map as_shown (filter (is_of_group groups.Config) store.objects) in
    one-behind (in_order order shown)
    (all-ordered (λ (event : Event). event ≢ ends_config) order shown (none-shown (filter (is_of_group groups.Config) store.objects)))

-- where the watch of a list has expired, that list is shown anew
pub ends-expired : (b ended : Bool) (order : ListOrder) (store : StoreValue) (lane : List Event) → ConfigEnds ended lane
    → ConfigEnds (cond b false ended) (cond b (listing order groups.Config store) lane)
ends-expired true ended order store lane ends = ends-listing order store
ends-expired false ended order store lane ends = ends
