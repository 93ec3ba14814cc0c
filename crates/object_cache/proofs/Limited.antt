-- Which event passes a limit, and that what is held stays within the limits.
use Rattle.std.proofs.Common.{◌≡◌, ◌↔◌, ℕ, zero, suc, ◌≤◌, ◌+◌, Bool, true, false, cond, leb, ltb, not, ◌&&◌, List, [], ◌∷◌, length}
use Rattle.std.proofs.Common.{Option, Some, None, Ordering, is_some, refl, sym, ap, subst, ◌∙◌, arith, leb-true, leb-false, lt-ltb}
use Rattle.std.proofs.lemmas.Bool.{and_parts, lt-leb}
use Rattle.std.specs.Option.{option_map_or}
use Rattle.std.specs.List.Sorted.{IsStrictlySortedBy}
use Rattle.std.specs.Map.{keys_of}
use Rattle.std.specs.BTreeMap.{insert_entry, is_at}
use Rattle.std.specs.Cmp.{IsTotalOrder}
use Rattle.kube_model.specs.declared.event.Event.{Event}
use Rattle.kube_model.specs.declared.event.Event.TheVariants.{Changed, Deleted, ListEnd, Expired, Members, Frame, Ignored}
use Rattle.kube_model.specs.declared.event.ListGroup.TheVariants as groups
use Rattle.kube_model.specs.declared.object.Kind.{Kind}
use Rattle.kube_model.specs.declared.object.Kind.TheVariants as kinds
use Rattle.kube_model.specs.declared.object.Object.TheVariants as objects
use Rattle.kube_labels.specs.Names.{name_cmp}
use Rattle.kube_labels.proofs.NameLaws.{name_cmp-total}
use Rattle.kube_model.specs.Keys.{key_cmp}
use Rattle.kube_model.specs.Service.{with_holding}
use Rattle.kube_model.proofs.KeyLaws.{key_cmp-total}
use Rattle.versioned_map.specs.declared.map.Versioned.{Versioned}
use Rattle.versioned_map.specs.Objects.{held_at, version_at, shown, expired, listed}
use Rattle.versioned_map.proofs.Lengths.{length-insert_entry, length-remove_entry, length-listed, length-expired, length-amended}
use Rattle.object_history.specs.Observations.{Observation, Watched, WatchExpired, Written, same_group}
use Rattle.object_history.specs.Kinds.{Resource, service_resource, node_resource}
use Rattle.object_history.specs.Cache.{Cached, deleted_in, held_after_event, cached, cached_after}
use Rattle.object_history.proofs.Force.{all_is_as_shown}
use Rattle.object_cache.specs.Limits.{most_services, most_nodes, passes, first_past, limit_of, IsPastLimit, NonePassed, LimitsAreExact}

-- ---- one kind's entries
either_way : (b : Bool) (n new most : ℕ) → n ≤ most → new ≡ cond b n n → new ≤ most
either_way true n new most few is = omega (arith, few, is)
either_way false n new most few is = omega (arith, few, is)

more_than_none : (v : ℕ) → leb (suc v) 0 ≡ false
more_than_none v = lt-leb (suc v) 0 (omega arith)

none_is_fewer : (v : ℕ) → ltb 0 (suc v) ≡ true
none_is_fewer v = lt-ltb 0 (suc v) (omega arith)

within_none : (full : Bool) (version most n new : ℕ) → full ≡ leb most n → n ≤ most → ((ltb 0 version && full) && true) ≡ false
    → new ≡ cond (leb version 0) n (suc n) → new ≤ most
within_none full zero most n new f few unpassed is = omega (arith, few, is)
within_none true (suc v) most n new f few unpassed is =
    let wrong : true ≡ false = rw (none_is_fewer v) at unpassed in
    absurd (cc)
within_none false (suc v) most n new f few unpassed is =
    let more : new ≡ suc n = rw (more_than_none v) at is in
    omega (arith, leb-false most n (sym f), more)

past_none : (version most n new : ℕ) → n ≤ most → ((ltb 0 version && leb most n) && true) ≡ true → new ≡ cond (leb version 0) n (suc n) → new ≡ most + 1
past_none zero most n new few passed is = absurd (cc)
past_none (suc v) most n new few passed is =
    let both = and_parts (ltb 0 (suc v) && leb most n) true passed in
    let full : leb most n ≡ true = (and_parts (ltb 0 (suc v)) (leb most n) both.0).1 in
    let more : new ≡ suc n = rw (more_than_none v) at is in
    omega (arith, few, leb-true most n full, more)

module _ {T : Type 0} where
  abbrev length_then : Option (Versioned T) → ℕ → ℕ → ℕ
  length_then found version n = cond (leb version (option_map_or (λ (held : Versioned T). held.version) found 0)) n (cond (is_some found) n (suc n))

  within_by : (found : Option (Versioned T)) (version most n new : ℕ) → n ≤ most → ((ltb 0 version && leb most n) && not (is_some found)) ≡ false
      → new ≡ length_then found version n → new ≤ most
  within_by None version most n new few unpassed is = within_none (leb most n) version most n new refl few unpassed is
  within_by (Some held) version most n new few unpassed is = either_way (leb version held.version) n new most few is

  past_by : (found : Option (Versioned T)) (version most n new : ℕ) → n ≤ most → ((ltb 0 version && leb most n) && not (is_some found)) ≡ true
      → new ≡ length_then found version n → new ≡ most + 1
  past_by None version most n new few passed is = past_none version most n new few passed is
  past_by (Some held) version most n new few passed is =
      let wrong : false ≡ true = (and_parts (ltb 0 version && leb most n) false passed).1 in
      absurd (cc)

module _ {K T : Type 0} {cmp : K → K → Ordering} (o : IsTotalOrder cmp) (entries : List (K × Versioned T)) (s : IsStrictlySortedBy cmp (keys_of entries)) where
  inserted : (old : Bool) (key : K) (version : ℕ) (object : T)
      → length (cond old entries (insert_entry cmp entries key (record { version = version; object = object })))
      ≡ cond old (length entries) (cond (is_some (held_at cmp entries key)) (length entries) (suc (length entries)))
  inserted true key version object = refl
  inserted false key version object = length-insert_entry o entries key (record { version = version; object = object }) s

  -- where no limit is passed, no more than may be are held
  shown-within : (most : ℕ) (key : K) (version : ℕ) (object : T) → length entries ≤ most → passes cmp most entries key version ≡ false
      → length (shown cmp entries key version object) ≤ most
  shown-within most key version object few unpassed =
      within_by (held_at cmp entries key) version most (length entries) (length (shown cmp entries key version object)) few unpassed
      (inserted (leb version (version_at cmp entries key)) key version object)

  -- where one is passed, one more is held
  shown-past : (most : ℕ) (key : K) (version : ℕ) (object : T) → length entries ≤ most → passes cmp most entries key version ≡ true
      → length (shown cmp entries key version object) ≡ most + 1
  shown-past most key version object few passed =
      past_by (held_at cmp entries key) version most (length entries) (length (shown cmp entries key version object)) few passed
      (inserted (leb version (version_at cmp entries key)) key version object)

module _ {K T : Type 0} (resource : Resource K T) (entries : List (K × Versioned T)) (most : ℕ) (few : length entries ≤ most) where
  deleted-within : (gone : Option K) → length (deleted_in resource gone entries) ≤ most
  deleted-within None = few
  deleted-within (Some key) = let less = length-remove_entry (is_at (resource.cmp key)) entries in omega (arith, few, less)

  listed-within : (ends : Bool) → length (cond ends (listed entries) entries) ≤ most
  listed-within true = let less = length-listed entries in omega (arith, few, less)
  listed-within false = few

  expired-within : (expires : Bool) → length (cond expires (expired entries) entries) ≤ most
  expired-within true = rw (length-expired entries) few
  expired-within false = few

-- ---- the cache
pub record IsWithin (s : Cached) : Type 0 where
  pub services_ascend : IsStrictlySortedBy key_cmp (keys_of s.services)
  pub nodes_ascend : IsStrictlySortedBy name_cmp (keys_of s.nodes)
  pub services : length s.services ≤ most_services
  pub nodes : length s.nodes ≤ most_nodes

-- the event passes the limit of services
abbrev passes_services : Cached → Event → Bool
passes_services s (Changed version (objects.Service service)) = passes key_cmp most_services s.services service.key version
passes_services s (Changed version (objects.Pool pool)) = false
passes_services s (Changed version (objects.L2 adv)) = false
passes_services s (Changed version (objects.Bgp adv)) = false
passes_services s (Changed version (objects.Peer peer)) = false
passes_services s (Changed version (objects.Community community)) = false
passes_services s (Changed version (objects.Namespace namespace)) = false
passes_services s (Changed version (objects.Node node)) = false
passes_services s (Changed version (objects.Slice slice)) = false
passes_services s (Deleted kind key) = false
passes_services s (ListEnd group) = false
passes_services s Expired = false
passes_services s (Members names) = false
passes_services s (Frame interface bytes) = false
passes_services s Ignored = false

-- and that of nodes
abbrev passes_nodes : Cached → Event → Bool
passes_nodes s (Changed version (objects.Node node)) = passes name_cmp most_nodes s.nodes node.name version
passes_nodes s (Changed version (objects.Service service)) = false
passes_nodes s (Changed version (objects.Pool pool)) = false
passes_nodes s (Changed version (objects.L2 adv)) = false
passes_nodes s (Changed version (objects.Bgp adv)) = false
passes_nodes s (Changed version (objects.Peer peer)) = false
passes_nodes s (Changed version (objects.Community community)) = false
passes_nodes s (Changed version (objects.Namespace namespace)) = false
passes_nodes s (Changed version (objects.Slice slice)) = false
passes_nodes s (Deleted kind key) = false
passes_nodes s (ListEnd group) = false
passes_nodes s Expired = false
passes_nodes s (Members names) = false
passes_nodes s (Frame interface bytes) = false
passes_nodes s Ignored = false

abbrev limit_by : Bool → Bool → Option (Kind × ℕ)
limit_by services nodes = cond services (first_past kinds.Service most_services true) (first_past kinds.Node most_nodes nodes)

first_of : (b : Bool) → first_past kinds.Service most_services b ≡ limit_by b false
first_of true = refl
first_of false = refl

limit_of-is : (s : Cached) (event : Event) → limit_of s event ≡ limit_by (passes_services s event) (passes_nodes s event)
limit_of-is s (Changed version (objects.Service service)) = first_of (passes key_cmp most_services s.services service.key version)
limit_of-is s (Changed version (objects.Pool pool)) = refl
limit_of-is s (Changed version (objects.L2 adv)) = refl
limit_of-is s (Changed version (objects.Bgp adv)) = refl
limit_of-is s (Changed version (objects.Peer peer)) = refl
limit_of-is s (Changed version (objects.Community community)) = refl
limit_of-is s (Changed version (objects.Namespace namespace)) = refl
limit_of-is s (Changed version (objects.Node node)) = refl
limit_of-is s (Changed version (objects.Slice slice)) = refl
limit_of-is s (Deleted kind key) = refl
limit_of-is s (ListEnd group) = refl
limit_of-is s Expired = refl
limit_of-is s (Members names) = refl
limit_of-is s (Frame interface bytes) = refl
limit_of-is s Ignored = refl

-- no event passes both
one_limit : (s : Cached) (event : Event) → passes_services s event ≡ true → passes_nodes s event ≡ false
one_limit s (Changed version (objects.Service service)) e = refl
one_limit s (Changed version (objects.Pool pool)) e = refl
one_limit s (Changed version (objects.L2 adv)) e = refl
one_limit s (Changed version (objects.Bgp adv)) e = refl
one_limit s (Changed version (objects.Peer peer)) e = refl
one_limit s (Changed version (objects.Community community)) e = refl
one_limit s (Changed version (objects.Namespace namespace)) e = refl
one_limit s (Changed version (objects.Node node)) e = absurd (cc)
one_limit s (Changed version (objects.Slice slice)) e = refl
one_limit s (Deleted kind key) e = refl
one_limit s (ListEnd group) e = refl
one_limit s Expired e = refl
one_limit s (Members names) e = refl
one_limit s (Frame interface bytes) e = refl
one_limit s Ignored e = refl

module _ (s : Cached) (w : IsWithin s) where
  services-within : (event : Event) → passes_services s event ≡ false → length (held_after_event service_resource event s.services) ≤ most_services
  services-within (Changed version (objects.Service service)) unpassed =
      shown-within key_cmp-total s.services w.services_ascend most_services service.key version service w.services unpassed
  services-within (Changed version (objects.Pool pool)) unpassed = w.services
  services-within (Changed version (objects.L2 adv)) unpassed = w.services
  services-within (Changed version (objects.Bgp adv)) unpassed = w.services
  services-within (Changed version (objects.Peer peer)) unpassed = w.services
  services-within (Changed version (objects.Community community)) unpassed = w.services
  services-within (Changed version (objects.Namespace namespace)) unpassed = w.services
  services-within (Changed version (objects.Node node)) unpassed = w.services
  services-within (Changed version (objects.Slice slice)) unpassed = w.services
  services-within (Deleted kind key) unpassed = deleted-within service_resource s.services most_services w.services (service_resource.deleted kind key)
  services-within (ListEnd group) unpassed = listed-within service_resource s.services most_services w.services (same_group group groups.Service)
  services-within Expired unpassed = expired-within service_resource s.services most_services w.services true
  services-within (Members names) unpassed = w.services
  services-within (Frame interface bytes) unpassed = w.services
  services-within Ignored unpassed = w.services

  nodes-within : (event : Event) → passes_nodes s event ≡ false → length (held_after_event node_resource event s.nodes) ≤ most_nodes
  nodes-within (Changed version (objects.Node node)) unpassed =
      shown-within name_cmp-total s.nodes w.nodes_ascend most_nodes node.name version node w.nodes unpassed
  nodes-within (Changed version (objects.Service service)) unpassed = w.nodes
  nodes-within (Changed version (objects.Pool pool)) unpassed = w.nodes
  nodes-within (Changed version (objects.L2 adv)) unpassed = w.nodes
  nodes-within (Changed version (objects.Bgp adv)) unpassed = w.nodes
  nodes-within (Changed version (objects.Peer peer)) unpassed = w.nodes
  nodes-within (Changed version (objects.Community community)) unpassed = w.nodes
  nodes-within (Changed version (objects.Namespace namespace)) unpassed = w.nodes
  nodes-within (Changed version (objects.Slice slice)) unpassed = w.nodes
  nodes-within (Deleted kind key) unpassed = deleted-within node_resource s.nodes most_nodes w.nodes (node_resource.deleted kind key)
  nodes-within (ListEnd group) unpassed = listed-within node_resource s.nodes most_nodes w.nodes (same_group group groups.Config)
  nodes-within Expired unpassed = expired-within node_resource s.nodes most_nodes w.nodes true
  nodes-within (Members names) unpassed = w.nodes
  nodes-within (Frame interface bytes) unpassed = w.nodes
  nodes-within Ignored unpassed = w.nodes

  services-past : (event : Event) → passes_services s event ≡ true → length (held_after_event service_resource event s.services) ≡ most_services + 1
  services-past (Changed version (objects.Service service)) passed =
      shown-past key_cmp-total s.services w.services_ascend most_services service.key version service w.services passed
  services-past (Changed version (objects.Pool pool)) passed = absurd (cc)
  services-past (Changed version (objects.L2 adv)) passed = absurd (cc)
  services-past (Changed version (objects.Bgp adv)) passed = absurd (cc)
  services-past (Changed version (objects.Peer peer)) passed = absurd (cc)
  services-past (Changed version (objects.Community community)) passed = absurd (cc)
  services-past (Changed version (objects.Namespace namespace)) passed = absurd (cc)
  services-past (Changed version (objects.Node node)) passed = absurd (cc)
  services-past (Changed version (objects.Slice slice)) passed = absurd (cc)
  services-past (Deleted kind key) passed = absurd (cc)
  services-past (ListEnd group) passed = absurd (cc)
  services-past Expired passed = absurd (cc)
  services-past (Members names) passed = absurd (cc)
  services-past (Frame interface bytes) passed = absurd (cc)
  services-past Ignored passed = absurd (cc)

  nodes-past : (event : Event) → passes_nodes s event ≡ true → length (held_after_event node_resource event s.nodes) ≡ most_nodes + 1
  nodes-past (Changed version (objects.Node node)) passed = shown-past name_cmp-total s.nodes w.nodes_ascend most_nodes node.name version node w.nodes passed
  nodes-past (Changed version (objects.Service service)) passed = absurd (cc)
  nodes-past (Changed version (objects.Pool pool)) passed = absurd (cc)
  nodes-past (Changed version (objects.L2 adv)) passed = absurd (cc)
  nodes-past (Changed version (objects.Bgp adv)) passed = absurd (cc)
  nodes-past (Changed version (objects.Peer peer)) passed = absurd (cc)
  nodes-past (Changed version (objects.Community community)) passed = absurd (cc)
  nodes-past (Changed version (objects.Namespace namespace)) passed = absurd (cc)
  nodes-past (Changed version (objects.Slice slice)) passed = absurd (cc)
  nodes-past (Deleted kind key) passed = absurd (cc)
  nodes-past (ListEnd group) passed = absurd (cc)
  nodes-past Expired passed = absurd (cc)
  nodes-past (Members names) passed = absurd (cc)
  nodes-past (Frame interface bytes) passed = absurd (cc)
  nodes-past Ignored passed = absurd (cc)

-- ---- the limit that is passed, and what would be held
abbrev first : Kind → ℕ → Option (Kind × ℕ)
first kind count = Some (kind, count)

module _ (then : Cached) where
  none_past : length then.services ≤ most_services → length then.nodes ≤ most_nodes → (kind : Kind) (count : ℕ) → IsPastLimit then kind count → ⊥
  none_past few less kinds.Service count past = omega (arith, few, past.1.0, past.1.1, past.2)
  none_past few less kinds.Node count past = omega (arith, less, past.1.0, past.1.1, past.2)
  none_past few less kinds.Pool count past = absurd past.1
  none_past few less kinds.L2 count past = absurd past.1
  none_past few less kinds.Bgp count past = absurd past.1
  none_past few less kinds.Peer count past = absurd past.1
  none_past few less kinds.Community count past = absurd past.1
  none_past few less kinds.Namespace count past = absurd past.1
  none_past few less kinds.Slice count past = absurd past.1

  services_past : length then.services ≡ most_services + 1 → length then.nodes ≤ most_nodes → (kind : Kind) (count : ℕ) → IsPastLimit then kind count
      → first_past kinds.Service most_services true ≡ Some (kind, count)
  services_past more few kinds.Service count past = ap (λ (n : ℕ). first kinds.Service n) (sym (past.1.1 ∙ more))
  services_past more few kinds.Node count past = absurd (omega (arith, few, past.1.0, past.1.1, past.2))
  services_past more few kinds.Pool count past = absurd past.1
  services_past more few kinds.L2 count past = absurd past.1
  services_past more few kinds.Bgp count past = absurd past.1
  services_past more few kinds.Peer count past = absurd past.1
  services_past more few kinds.Community count past = absurd past.1
  services_past more few kinds.Namespace count past = absurd past.1
  services_past more few kinds.Slice count past = absurd past.1

  nodes_past : length then.nodes ≡ most_nodes + 1 → length then.services ≤ most_services → (kind : Kind) (count : ℕ) → IsPastLimit then kind count
      → first_past kinds.Node most_nodes true ≡ Some (kind, count)
  nodes_past more few kinds.Node count past = ap (λ (n : ℕ). first kinds.Node n) (sym (past.1.1 ∙ more))
  nodes_past more few kinds.Service count past = absurd (omega (arith, few, past.1.0, past.1.1, past.2))
  nodes_past more few kinds.Pool count past = absurd past.1
  nodes_past more few kinds.L2 count past = absurd past.1
  nodes_past more few kinds.Bgp count past = absurd past.1
  nodes_past more few kinds.Peer count past = absurd past.1
  nodes_past more few kinds.Community count past = absurd past.1
  nodes_past more few kinds.Namespace count past = absurd past.1
  nodes_past more few kinds.Slice count past = absurd past.1

  past_services : length then.services ≡ most_services + 1 → (kind : Kind) (count : ℕ) → first_past kinds.Service most_services true ≡ Some (kind, count)
      → IsPastLimit then kind count
  past_services more kind count e =
      let same : Path (Kind × ℕ) (kinds.Service, most_services + 1) (kind, count) = cc in
      let is : kinds.Service ≡ kind = ap (λ (p : Kind × ℕ). p.0) same in
      let n : most_services + 1 ≡ count = ap (λ (p : Kind × ℕ). p.1) same in
      subst (λ (k : Kind). IsPastLimit then k count) is (most_services, (refl, sym (more ∙ n)), omega (arith, n))

  past_nodes : length then.nodes ≡ most_nodes + 1 → (kind : Kind) (count : ℕ) → first_past kinds.Node most_nodes true ≡ Some (kind, count)
      → IsPastLimit then kind count
  past_nodes more kind count e =
      let same : Path (Kind × ℕ) (kinds.Node, most_nodes + 1) (kind, count) = cc in
      let is : kinds.Node ≡ kind = ap (λ (p : Kind × ℕ). p.0) same in
      let n : most_nodes + 1 ≡ count = ap (λ (p : Kind × ℕ). p.1) same in
      subst (λ (k : Kind). IsPastLimit then k count) is (most_nodes, (refl, sym (more ∙ n)), omega (arith, n))

module _ (s : Cached) (w : IsWithin s) (event : Event) where
  exact_by : (services nodes : Bool) → services ≡ passes_services s event → nodes ≡ passes_nodes s event → (kind : Kind) (count : ℕ)
      → (limit_by services nodes ≡ Some (kind, count)) ↔ IsPastLimit (cached_after (Watched event) s) kind count
  exact_by true nodes e d kind count =
      let more = services-past s w event (sym e) in
      let few = nodes-within s w event (one_limit s event (sym e)) in
      (past_services (cached_after (Watched event) s) more kind count, services_past (cached_after (Watched event) s) more few kind count)
  exact_by false true e d kind count =
      let more = nodes-past s w event (sym d) in
      let few = services-within s w event (sym e) in
      (past_nodes (cached_after (Watched event) s) more kind count, nodes_past (cached_after (Watched event) s) more few kind count)
  exact_by false false e d kind count = (
    λ none. absurd (cc),
    λ past. absurd (none_past (cached_after (Watched event) s) (services-within s w event (sym e)) (nodes-within s w event (sym d)) kind count past),
  )

  limit-exact : (kind : Kind) (count : ℕ) → (limit_of s event ≡ Some (kind, count)) ↔ IsPastLimit (cached_after (Watched event) s) kind count
  limit-exact kind count = rw (limit_of-is s event) (exact_by (passes_services s event) (passes_nodes s event) refl refl kind count)

none_passed : (services nodes : Bool) → limit_by services nodes ≡ None → (services ≡ false) × (nodes ≡ false)
none_passed true nodes e = absurd (cc)
none_passed false true e = absurd (cc)
none_passed false false e = (refl, refl)

is_within : (observations : List Observation) → (length (cached observations).services ≤ most_services) × (length (cached observations).nodes ≤ most_nodes)
    → IsWithin (cached observations)
is_within observations lengths =
    let shown = all_is_as_shown observations in
    record { services_ascend = shown.services.ascend; nodes_ascend = shown.nodes.ascend; services = lengths.0; nodes = lengths.1 }

-- what is held after observations that passed no limit stays within them
within-lengths : (observations : List Observation) → NonePassed observations
    → (length (cached observations).services ≤ most_services) × (length (cached observations).nodes ≤ most_nodes)
within-lengths [] none = (omega arith, omega arith)
within-lengths (Watched event ∷ earlier) none =
    let w = is_within earlier (within-lengths earlier none.1) in
    let free = none_passed (passes_services (cached earlier) event) (passes_nodes (cached earlier) event) (sym (limit_of-is (cached earlier) event) ∙ none.0) in
    (services-within (cached earlier) w event free.0, nodes-within (cached earlier) w event free.1)
within-lengths (WatchExpired group ∷ earlier) none =
    let before = within-lengths earlier none in (
      expired-within service_resource (cached earlier).services most_services before.0 (same_group group groups.Service),
      expired-within node_resource (cached earlier).nodes most_nodes before.1 (same_group group groups.Config),
    )
within-lengths (Written key version holding ∷ earlier) none =
    let before = within-lengths earlier none in
    (rw (length-amended key_cmp (cached earlier).services key version (with_holding holding)) before.0, before.1)

pub limits_are_exact : LimitsAreExact
limits_are_exact observations event kind count none =
    limit-exact (cached observations) (is_within observations (within-lengths observations none)) event kind count
