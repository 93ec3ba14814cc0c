-- Where a controller has nothing to do any more, what is held of the configuration is what is stored of it, and is in force.
use Rattle.std.proofs.Common.{◌≡◌, ◌↔◌, ◌⊎◌, inl, inr, ⊎_elim, ℕ, Bool, true, false, cond, ◌&&◌, is_some, List, [], ◌∷◌, ◌++◌, map, filter}
use Rattle.std.proofs.Common.{Option, Some, None, option_map, Result, Ok, Err, IfSome, refl, sym, ap, subst, ◌∙◌}
use Rattle.std.proofs.lemmas.Bool.{true≢false}
use Rattle.std.specs.List.{AllByRecursion}
use Rattle.std.specs.Option.{option_map_or}
use Rattle.kube_labels.specs.Names.{name_cmp}
use Rattle.kube_labels.proofs.NameLaws.{name_cmp-total, name_cmp-exact}
use Rattle.kube_model.specs.declared.config_fault.ConfigFault.{ConfigFault}
use Rattle.kube_model.specs.declared.event.Event.{Event}
use Rattle.kube_model.specs.declared.event.Event.TheVariants.{Changed}
use Rattle.kube_model.specs.declared.event.ListGroup.TheVariants as groups
use Rattle.kube_model.specs.declared.namespace.Namespace.{Namespace}
use Rattle.kube_model.specs.declared.object.Kind.{Kind}
use Rattle.kube_model.specs.declared.object.Kind.TheVariants as kinds
use Rattle.kube_model.specs.declared.object.Object.{Object}
use Rattle.kube_model.specs.declared.object.Object.TheVariants as objects
use Rattle.kube_model.specs.declared.put.Put.{Put}
use Rattle.kube_model.specs.declared.service.Service.{Service}
use Rattle.versioned_map.specs.declared.map.Versioned.{Versioned}
use Rattle.versioned_map.specs.Objects.{object_at}
use Rattle.pool_config.specs.ConfigValue.{ConfigValue}
use Rattle.pool_config.specs.declared.object_set.ObjectSet.{ObjectSet}
use Rattle.pool_config.specs.Compile.{compiled, compiled_unless}
use Rattle.pool_config.specs.Lists.{lists_of}
use Rattle.pool_config.specs.Search.{first_fault}
use Rattle.pool_config.specs.Objects.{Objects, named, objects_of, set_shows}
use Rattle.alloc_book.specs.Asking.{Offer}
use Rattle.claim_index.specs.Claims.{holders}
use Rattle.object_history.specs.AsShown.{IsAsShown}
use Rattle.object_history.specs.Cache.{Cached, cached, in_force}
use Rattle.object_history.specs.Kinds.{namespace_resource, show_pool, show_l2, show_bgp, show_peer, show_community, show_namespace}
use Rattle.object_history.specs.LookBack.{AreAsShown, last_shown, IsInForce}
use Rattle.object_history.specs.Observations.{Observation}
use Rattle.object_history.proofs.Cached.{held_of as entries_of, held_at-held_of, pools-held, l2s-held, bgps-held, peers-held, communities-held, namespaces-held}
use Rattle.object_history.proofs.Force.{all_is_as_shown}
use Rattle.status_store.specs.declared.change.Outcome.{Outcome}
use Rattle.status_store.specs.declared.stored.Stored.{Stored}
use Rattle.status_store.specs.Changes.{StoreValue, reply_to}
use Rattle.status_store.specs.Objects.{IsAscending}
use Rattle.core_rules.specs.Core.{State, fresh, labels_of, offer_at, offer_in, pools_in}
use Rattle.core_rules.specs.Replied.{replied_to}
use Rattle.core_rules.specs.Run.{TranscriptEntry, IsRun, core_after, observed}
use Rattle.core_rules.specs.Take.{core_take}
use Rattle.core_rules.specs.Turn.{core_turn, after_turn, put_in}
use Rattle.core_rules.proofs.Runs.{core_holds_what_was_observed}
use Rattle.core_laws.specs.Puts.{labels_shown}
use Rattle.core_laws.specs.Quiet.{MeetsRow}
use Rattle.world_rules.specs.declared.step.Step.{Step}
use Rattle.world_rules.specs.declared.step.Step.TheVariants.{Edit as Edits, Take, Turn as Turns, Crash, Restart, Expire}
use Rattle.world_rules.specs.Good.{ends_config, IsFollowed, IsGood, IsOfGroup, IsOwn}
use Rattle.world_rules.specs.World.{WorldValue, after_steps, after_turning, as_shown, is_of_group, started, told, turned, untold, world_step}
use Rattle.world_rules.proofs.Own.{steps_are_moves, steps_keep_own}
use Rattle.world_rules.proofs.Worlds.{steps_keep_good}
use Rattle.settling_laws.specs.Clear.{recorded}
use Rattle.settling_laws.specs.Configured.{ConfigLeads, HasConfigCopies, IsConfigured, IsConfiguredAsStored, IsServing, ShowsAsStored, ShowsStored}
use Rattle.settling_laws.specs.Settling.{AreOwnSteps, ControllersConfigure, IsOwnStep, IsSettled, IsSettledAsStored, RestIsConfigured}
use Rattle.settling_laws.specs.StoredConfig.{stored_in, objects_in, config_in, labels_in, offer_by}
use Rattle.settling_laws.proofs.ConfigKept.{HasSameConfig, held-shown, reply-same, service-same, steps_keep_config_copies}
use Rattle.settling_laws.proofs.Ends.{own-terms}
use Rattle.settling_laws.proofs.NamedKinds.{resource, IsNamed, same-entries, same-named}
use Rattle.settling_laws.proofs.NamedKinds.{named-pool, named-l2, named-bgp, named-peer, named-community, named-namespace}
use Rattle.settling_laws.proofs.Rest.{rest_is_settled}
use Rattle.settling_laws.proofs.Settles.{controllers_settle}
use Rattle.settling_laws.proofs.UpToDate.{IsUpToDate, up_to_date}

-- ---- what is held, where nothing is pending
held-set : (store : StoreValue) (c : Cached) (observations : List Observation) → IsAscending store.objects → IsAsShown c observations
    → ConfigLeads store c.objects c.namespaces [] → c.objects ≡ objects_in store
held-set store c observations sorted shown leads =
    let sets = shown.config_objects in
    let pools = same-entries kinds.Pool show_pool named-pool store c.objects.pools sorted sets.pools.ascend leads.pools in
    let l2s = same-entries kinds.L2 show_l2 named-l2 store c.objects.l2s sorted sets.l2s.ascend leads.l2s in
    let bgps = same-entries kinds.Bgp show_bgp named-bgp store c.objects.bgps sorted sets.bgps.ascend leads.bgps in
    let peers = same-entries kinds.Peer show_peer named-peer store c.objects.peers sorted sets.peers.ascend leads.peers in
    let communities = same-entries kinds.Community show_community named-community store c.objects.communities sorted sets.communities.ascend leads.communities in
    λ i. record { pools = pools i; l2s = l2s i; bgps = bgps i; peers = peers i; communities = communities i }

held-namespaces : (store : StoreValue) (c : Cached) (observations : List Observation) → IsAscending store.objects → IsAsShown c observations
    → ConfigLeads store c.objects c.namespaces [] → c.namespaces ≡ stored_in namespace_resource store
held-namespaces store c observations sorted shown leads =
    same-entries kinds.Namespace show_namespace named-namespace store c.namespaces sorted shown.namespaces.ascend leads.namespaces

-- ---- what is in force
force_by : (before : Option ConfigValue) (made : Result ConfigValue ConfigFault) (config : ConfigValue) → in_force before made ≡ before → made ≡ Ok config
    → before ≡ Some config
force_by before made config same is = sym same ∙ ap (in_force before) is

-- the configuration that services are served by is in force, where what is held compiles as what is stored
pub served-by : (store : StoreValue) (c : Cached) (config : ConfigValue) → IsUpToDate c → c.config_ended ≡ true → compiled c.objects ≡ config_in store
    → IsServing store (λ last. c.config ≡ Some last) config → c.config ≡ Some config
served-by store c config current ended same serving =
    ⊎_elim
    (λ ok. force_by c.config (compiled c.objects) config (current ended) (same ∙ ok))
    (λ bad. bad.2)
    serving

-- what there is for services by what is held is what there is by what is stored
pub offers : (store : StoreValue) (c : Cached) (config : ConfigValue) → c.config ≡ Some config → ((name : List ℕ) → labels_of c name ≡ labels_in store name)
    → offer_in c ≡ offer_by config store
offers store c config force labels = λ i service. offer_at (pools_in (force i)) (labels service.key.namespace i) service

pub current-in : (class : Option (List ℕ)) (run : List TranscriptEntry) → IsRun class run → IsUpToDate (core_after class run).held
current-in class run is = subst IsUpToDate (sym (core_holds_what_was_observed class run is).0) (up_to_date (observed run))

pub accepted-in : (class : Option (List ℕ)) (run : List TranscriptEntry) → IsRun class run → (s : State) → core_after class run ≡ s → (config : ConfigValue)
    → (s.held.config ≡ Some config) ↔ IsInForce config (observed run)
accepted-in class run is s leads =
    let held : s.held ≡ cached (observed run) = ap (λ (t : State). t.held) (sym leads) ∙ (core_holds_what_was_observed class run is).0 in
    subst (λ (c : Cached). (config : ConfigValue) → (c.config ≡ Some config) ↔ IsInForce config (observed run)) (sym held) (all_is_as_shown (observed run)).config

-- ---- a world at rest
module _ (w : WorldValue) (s : State) (up : IsFollowed w s) (sorted : IsAscending w.store.objects) (settled : IsSettled w s)
    (leads : ConfigLeads w.store s.held.objects s.held.namespaces w.config_lane)
  where
    shown : IsAsShown s.held (observed up.run)
    shown = held-shown w s up

    none-left : ConfigLeads w.store s.held.objects s.held.namespaces []
    none-left = subst (ConfigLeads w.store s.held.objects s.held.namespaces) settled.config_taken leads

    set : s.held.objects ≡ objects_in w.store
    set = held-set w.store s.held (observed up.run) sorted shown none-left

    spaces : s.held.namespaces ≡ stored_in namespace_resource w.store
    spaces = held-namespaces w.store s.held (observed up.run) sorted shown none-left

    labels : (name : List ℕ) → labels_of s.held name ≡ labels_in w.store name
    labels name = ap (λ (es : List (List ℕ × Versioned Namespace)). option_map_or (λ (n : Namespace). n.labels) (object_at name_cmp es name) []) spaces

    serves : (config : ConfigValue) → IsServing w.store (λ last. s.held.config ≡ Some last) config → s.held.config ≡ Some config
    serves config serving =
        let current : IsUpToDate s.held = subst (λ (t : State). IsUpToDate t.held) up.leads (current-in w.class up.run up.is) in
        served-by w.store s.held config current settled.config_listed (ap compiled set) serving

    pub configured : IsConfigured w s
    configured = record {
      objects_held = set;
      namespaces_held = spaces;
      labels_held = labels;
      in_force = λ config ok. serves config (inl ok);
      accepted_last = λ run is leads. accepted-in w.class run is s leads;
      served = λ config serving key service stored there is awaits.
          let force = serves config serving in
          subst (λ (o : Service → Offer). MeetsRow s.class o (holders s.claims) service) (offers w.store s.held config force labels)
          (settled.served (ap is_some force) key service stored there is awaits);
    }

    pub configured-as-stored : IsSettledAsStored w s → IsConfiguredAsStored w s
    configured-as-stored as_stored = record {
      configured = configured;
      served = λ config serving key service stored there is.
          let force = serves config serving in
          subst (λ (o : Service → Offer). MeetsRow s.class o (recorded w.store) service) (offers w.store s.held config force labels)
          (as_stored.served (ap is_some force) key service stored there is);
    }

rest_by : (c : Option State) (w : WorldValue) → IsAscending w.store.objects → IfSome c (IsFollowed w) → IfSome c (IsSettled w)
    → IfSome c (λ s. ConfigLeads w.store s.held.objects s.held.namespaces w.config_lane) → IfSome c (IsConfigured w)
rest_by None w sorted up settled leads = tt
rest_by (Some s) w sorted up settled leads = configured w s up sorted settled leads

pub rest_is_configured : RestIsConfigured
rest_is_configured w good own copies leads rest =
    rest_by w.core w good.stored.kept.ascending good.up (rest_is_settled w good own copies rest) leads

-- ---- along a controller's own steps
good-along : (w : WorldValue) (steps : List Step) → IsGood w → IsOwn w → AreOwnSteps steps w → HasConfigCopies w
    → IsGood (after_steps steps w) × HasConfigCopies (after_steps steps w)
good-along w [] good own are leads = (good, leads)
good-along w (step ∷ steps) good own are leads =
    let next = world_step step w in
    let move = steps_are_moves w step are.1 own in
    good-along next steps (steps_keep_good w next move.0 move.1 good) (steps_keep_own w step (own-terms step are.0) good own) are.2
    (steps_keep_config_copies w step good leads)

stored_by : (c : Option State) (w : WorldValue) → IsAscending w.store.objects → IfSome c (IsFollowed w) → IfSome c (IsSettledAsStored w)
    → IfSome c (λ s. ConfigLeads w.store s.held.objects s.held.namespaces w.config_lane) → IfSome c (IsConfiguredAsStored w)
stored_by None w sorted up settled leads = tt
stored_by (Some s) w sorted up settled leads = configured-as-stored w s up sorted settled.settled leads settled

pub controllers_configure : ControllersConfigure
controllers_configure w good own copies leads clear steps are rest =
    let end = after_steps steps w in
    let along = good-along w steps good own are leads in
    stored_by end.core end along.0.stored.kept.ascending along.0.up (controllers_settle w good own copies clear steps are rest) along.1

-- ---- a start
-- ahead of the end of the list none is in force; after it, what is held compiles to it, or to a fault
abbrev pub Begins : List Event → State → Type 0
Begins lane s =
    ((s.held.config_ended ≡ false) × (s.held.config ≡ None) × ((more : List Stored) × (lane ≡ map as_shown more ++ ends_config ∷ [])))
    ⊎ ((lane ≡ []) × (s.held.config ≡ in_force None (compiled s.held.objects)))

quiet_by : (due ended : Bool) (made before : Option ConfigValue) → ended ≡ false → cond (due && ended) made before ≡ before
quiet_by false ended made before e = refl
quiet_by true false made before e = refl
quiet_by true true made before e = absurd (true≢false e)

-- an object that is shown ahead of the end has nothing compiled
unended : (s : State) (version : ℕ) (object : Object) → s.held.config_ended ≡ false
    → ((core_take s (Changed version object)).held.config_ended ≡ s.held.config_ended) × ((core_take s (Changed version object)).held.config ≡ s.held.config)
unended s version (objects.Service service) e = (refl, refl)
unended s version (objects.Node node) e = (refl, refl)
unended s version (objects.Slice slice) e = (refl, refl)
unended s version (objects.Namespace namespace) e = (refl, refl)
unended s version object e = (refl, quiet_by (set_shows s.held.objects version object) s.held.config_ended _ s.held.config e)

first-apart : {X : Type 0} (x : X) (xs : List X) → x ∷ xs ≡ [] → ⊥
first-apart x xs e = absurd (cc)

first-is : {X : Type 0} (x y : X) (xs ys : List X) → x ∷ xs ≡ y ∷ ys → x ≡ y
first-is x y xs ys e = cc

rest-is : {X : Type 0} (x y : X) (xs ys : List X) → x ∷ xs ≡ y ∷ ys → xs ≡ ys
rest-is x y xs ys e = cc

begins-ended : (s : State) → s.held.config ≡ None → Begins [] (core_take s ends_config)
begins-ended s none = inr (refl, ap (λ (before : Option ConfigValue). in_force before (compiled (core_take s ends_config).held.objects)) none)

begins_taken : (s : State) (event : Event) (lane : List Event) (more : List Stored) → s.held.config_ended ≡ false → s.held.config ≡ None
    → event ∷ lane ≡ map as_shown more ++ ends_config ∷ [] → Begins lane (core_take s event)
begins_taken s event lane [] ended none is =
    let first : event ≡ ends_config = first-is event ends_config lane [] is in
    let rest : lane ≡ [] = rest-is event ends_config lane [] is in
    subst (λ (l : List Event). Begins l (core_take s event)) (sym rest)
    (subst (λ (e : Event). Begins [] (core_take s e)) (sym first) (begins-ended s none))
begins_taken s event lane (x ∷ more) ended none is =
    let first : event ≡ as_shown x = first-is event (as_shown x) lane (map as_shown more ++ ends_config ∷ []) is in
    let rest = rest-is event (as_shown x) lane (map as_shown more ++ ends_config ∷ []) is in
    let same = unended s x.version x.object ended in
    subst (λ (e : Event). Begins lane (core_take s e)) (sym first) (inl (same.0 ∙ ended, same.1 ∙ none, (more, rest)))

begins_take : (c : Option State) (lane : List Event) → IfSome c (Begins lane) → IfSome (told c lane) (Begins (untold c lane))
begins_take None lane begins = tt
begins_take (Some s) [] begins = begins
begins_take (Some s) (event ∷ lane) begins =
    ⊎_elim
    (λ before. begins_taken s event lane before.2.0 before.0 before.1 before.2.1)
    (λ behind. absurd (first-apart event lane behind.0))
    begins

same-begins : (lane : List Event) (before after : State) → HasSameConfig after.held before.held → Begins lane before → Begins lane after
same-begins lane before after same begins =
    ⊎_elim
    (λ ahead. inl (same.3 ∙ ahead.0, same.2 ∙ ahead.1, ahead.2))
    (λ behind. inr (behind.0, same.2 ∙ behind.1 ∙ ap (λ (o : ObjectSet). in_force None (compiled o)) (sym same.0)))
    begins

begins_service : (w : WorldValue) (c : Option State) (services lane : List Event) → w.service_lane ≡ services → IfSome c (IsFollowed w) → IfSome c (Begins lane)
    → IfSome (told c services) (Begins lane)
begins_service w None services lane e up begins = tt
begins_service w (Some s) [] lane e up begins = begins
begins_service w (Some s) (event ∷ more) lane e up begins =
    let of : AllByRecursion (IsOfGroup groups.Service) (event ∷ more) = subst (AllByRecursion (IsOfGroup groups.Service)) e up.services in
    same-begins lane s (core_take s event) (service-same s event of.0) begins

begins_put : (w : WorldValue) (s : State) (p : Option Put) (outcome : Outcome) → Begins w.config_lane s
    → IfSome (turned (after_turn s) p outcome w).core (Begins (turned (after_turn s) p outcome w).config_lane)
begins_put w s None outcome begins = begins
begins_put w s (Some put) outcome begins =
    same-begins w.config_lane s (replied_to (after_turn s).out (after_turn s) (reply_to put outcome w.store))
    (reply-same (after_turn s).out (after_turn s) (reply_to put outcome w.store)) begins

begins_turn : (w : WorldValue) (c : Option State) (outcome : Outcome) → w.core ≡ c → IfSome w.core (Begins w.config_lane)
    → IfSome (after_turning c outcome w).core (Begins (after_turning c outcome w).config_lane)
begins_turn w None outcome e begins = begins
begins_turn w (Some s) outcome e begins =
    begins_put w s (put_in (core_turn s)) outcome (subst (λ (c : Option State). IfSome c (Begins w.config_lane)) e begins)

step-begins : (w : WorldValue) (step : Step) → IsOwnStep step → IsGood w → IfSome w.core (Begins w.config_lane)
    → IfSome (world_step step w).core (Begins (world_step step w).config_lane)
step-begins w (Edits edit) own good begins = absurd own
step-begins w (Take groups.Config) own good begins = begins_take w.core w.config_lane begins
step-begins w (Take groups.Service) own good begins = begins_service w w.core w.service_lane w.config_lane refl good.up begins
step-begins w (Take groups.Endpoint) own good begins = begins
step-begins w (Turns outcome) own good begins = begins_turn w w.core outcome refl begins
step-begins w (Crash applied) own good begins = absurd own
step-begins w (Restart order) own good begins = absurd own
step-begins w (Expire group order) own good begins = absurd own

pub begins-along : (w : WorldValue) (steps : List Step) → IsGood w → IsOwn w → AreOwnSteps steps w → IfSome w.core (Begins w.config_lane)
    → IfSome (after_steps steps w).core (Begins (after_steps steps w).config_lane)
begins-along w [] good own are begins = begins
begins-along w (step ∷ steps) good own are begins =
    let next = world_step step w in
    let move = steps_are_moves w step are.1 own in
    begins-along next steps (steps_keep_good w next move.0 move.1 good) (steps_keep_own w step (own-terms step are.0) good own) are.2
    (step-begins w step are.0 good begins)

pub start-begins : (class : Option (List ℕ)) (store : StoreValue) → Begins (started class store).config_lane (fresh class)
start-begins class store = inl (refl, refl, (filter (is_of_group groups.Config) store.objects, refl))

end-apart : (more : List Stored) → [] ≡ map as_shown more ++ ends_config ∷ [] → ⊥
end-apart [] e = first-apart ends_config [] (sym e)
end-apart (x ∷ more) e = first-apart (as_shown x) (map as_shown more ++ ends_config ∷ []) (sym e)

-- at rest none is in force, where what is held has a fault
pub none-in-force : (store : StoreValue) (lane : List Event) (s : State) (fault : ConfigFault) → lane ≡ [] → s.held.objects ≡ objects_in store
    → config_in store ≡ Err fault → Begins lane s → s.held.config ≡ None
none-in-force store lane s fault none same bad begins =
    ⊎_elim
    (λ ahead. absurd (end-apart ahead.2.0 (sym none ∙ ahead.2.1)))
    (λ behind. behind.1 ∙ ap (in_force None) (ap compiled same ∙ bad))
    begins

-- ---- by the look back
module _ (store : StoreValue) (observations : List Observation) (sorted : IsAscending store.objects) where
  kind-shown : {T : Type 0} (kind : Kind) (shown : Object → Option (List ℕ × T)) (law : IsNamed kind shown) (entries : List (List ℕ × Versioned T))
      → entries ≡ entries_of (resource kind shown) observations → AreAsShown (resource kind shown) entries observations
      → ShowsAsStored (resource kind shown) store observations → named entries ≡ named (stored_in (resource kind shown) store)
  kind-shown kind shown law entries is as_shown same =
      same-named kind shown law store entries sorted as_shown.ascend
      (λ name.
      ap (λ (es : List (List ℕ × Versioned _)). object_at name_cmp es name) is
      ∙ ap (option_map (λ held. held.object)) (held_at-held_of (resource kind shown) name_cmp-total name_cmp-exact observations name)
      ∙ same name)

  -- what was shown compiles as what is stored
  pub shown-compiles : ShowsStored store observations → compiled (cached observations).objects ≡ config_in store
  shown-compiles shows =
      let sets = (all_is_as_shown observations).config_objects in
      let c : Cached = cached observations in
      let pools = kind-shown kinds.Pool show_pool named-pool c.objects.pools (pools-held observations) sets.pools shows.pools in
      let l2s = kind-shown kinds.L2 show_l2 named-l2 c.objects.l2s (l2s-held observations) sets.l2s shows.l2s in
      let bgps = kind-shown kinds.Bgp show_bgp named-bgp c.objects.bgps (bgps-held observations) sets.bgps shows.bgps in
      let peers = kind-shown kinds.Peer show_peer named-peer c.objects.peers (peers-held observations) sets.peers shows.peers in
      let communities =
      kind-shown kinds.Community show_community named-community c.objects.communities (communities-held observations) sets.communities shows.communities in
      let same : objects_of c.objects ≡ objects_of (objects_in store) =
      λ i. record { pools = pools i; l2s = l2s i; bgps = bgps i; peers = peers i; communities = communities i } in
      ap made same
    where
      made : Objects → Result ConfigValue ConfigFault
      made o = compiled_unless (first_fault o) (lists_of o)

-- the labels that are held are those last shown
pub labels-held : (observations : List Observation) (name : List ℕ) → labels_of (cached observations) name ≡ labels_shown name observations
labels-held observations name =
    ap (λ (es : List (List ℕ × Versioned Namespace)). option_map_or (λ (n : Namespace). n.labels) (object_at name_cmp es name) []) (namespaces-held observations)
    ∙ ap (λ (o : Option (Versioned Namespace)). option_map_or (λ (n : Namespace). n.labels) (option_map (λ (h : Versioned Namespace). h.object) o) [])
    (held_at-held_of namespace_resource name_cmp-total name_cmp-exact observations name)
    ∙ labelled (last_shown namespace_resource name observations)
  where
    labelled : (o : Option (Versioned Namespace))
        → option_map_or (λ (n : Namespace). n.labels) (option_map (λ (h : Versioned Namespace). h.object) o) []
        ≡ option_map_or (λ (h : Versioned Namespace). h.object.labels) o []
    labelled None = refl
    labelled (Some held) = refl
