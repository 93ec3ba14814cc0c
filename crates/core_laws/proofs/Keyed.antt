-- What holds of each service that an event shows, whatever its record is, holds of each that is held.
use Rattle.std.proofs.Common.{◌≡◌, ℕ, Bool, true, false, cond, List, [], ◌∷◌, Option, Some, None, is_eq, option_map, refl, sym, ap, subst, ◌∙◌}
use Rattle.std.specs.Prelude.{⊤}
use Rattle.std.specs.Cmp.{Equal-is}
use Rattle.kube_model.specs.declared.event.Event.{Event}
use Rattle.kube_model.specs.declared.event.Event.TheVariants.{Changed, Deleted, ListEnd, Expired as ExpiredEvent, Members, Frame, Ignored}
use Rattle.kube_model.specs.declared.key.Key.{Key}
use Rattle.kube_model.specs.declared.object.Object.TheVariants as objects
use Rattle.kube_model.specs.declared.put.Put.{Put}
use Rattle.kube_model.specs.declared.record.Record.{Record}
use Rattle.kube_model.specs.declared.reply.PutReply.{PutReply}
use Rattle.kube_model.specs.declared.reply.PutReply.TheVariants.{Ok as StoredReply, Stale, Missing, Unknown}
use Rattle.kube_model.specs.declared.service.Policy.{Policy}
use Rattle.kube_model.specs.declared.service.Policy.TheVariants.{Cluster as ClusterPolicy, Local as LocalPolicy}
use Rattle.kube_model.specs.declared.service.Service.{Service}
use Rattle.kube_model.specs.Keys.{key_cmp}
use Rattle.kube_model.specs.Service.{with_holding}
use Rattle.kube_model.proofs.KeyLaws.{key_cmp-exact}
use Rattle.sharing_terms.specs.declared.terms.Backend.{Backend}
use Rattle.sharing_terms.specs.declared.terms.Terms.{Terms}
use Rattle.sharing_terms.specs.Ports.{ports_in}
use Rattle.sharing_terms.specs.Terms.{terms_of, backend_by}
use Rattle.versioned_map.specs.declared.map.Versioned.{Versioned}
use Rattle.versioned_map.specs.Objects.{at_version, held_at}
use Rattle.object_history.specs.Observations.{Observation, Watched, WatchExpired, Written}
use Rattle.object_history.specs.Kinds.{service_resource}
use Rattle.object_history.specs.LookBack.{object_in, held_on, expires, record_in, written_over, version_of, newer_than, last_shown}
use Rattle.core_rules.specs.Core.{service_of}
use Rattle.core_rules.specs.Take.{Effect, Shows, Drops, EndsServices, Configures, Expires, Nothing, effect_of}
use Rattle.core_rules.specs.Run.{TranscriptEntry, Took, Expired, Turned, Heard, core_after, IsRun, observed, told_by, heard_by, heard_of, put_out}
use Rattle.core_laws.specs.Shown.{OfEffect, HoldsOfShown}
use Rattle.core_rules.proofs.Claims.{shown-held}
use Rattle.core_rules.proofs.Effects.{by_effect}

module _ (P : Key → Service → Type 0) where
  abbrev OfEvent : Event → Type 0
  OfEvent event = OfEffect P (effect_of event)

  abbrev OfObservation : Observation → Type 0
  OfObservation (Watched event) = OfEvent event
  OfObservation (WatchExpired group) = ⊤
  OfObservation (Written key version holding) = ⊤

  abbrev OfAll : List Observation → Type 0
  OfAll [] = ⊤
  OfAll (o ∷ earlier) = OfObservation o × OfAll earlier

  module _ (kept : (key : Key) (service : Service) (holding : Record) → P key service → P key (with_holding holding service)) where
    told-here : (here : Bool) (key : Key) (service : Service) (version : ℕ) (h : Versioned Service) → here ≡ is_eq (key_cmp key service.key)
        → P service.key service
        → cond here (Some (record { version = version; object = service })) None ≡ Some h → P key h.object
    told-here true key service version h e holds found =
        let same : service.key ≡ key = sym (key_cmp-exact key service.key ((Equal-is (key_cmp key service.key)).0 (sym e))) in
        let told : Versioned Service = record { version = version; object = service } in
        let is : told ≡ h = cc in
        subst (λ (x : Versioned Service). P key x.object) is (subst (λ k. P k service) same holds)
    told-here false key service version h e holds found = absurd (cc)

    told-holds : (o : Observation) (key : Key) (h : Versioned Service) → OfObservation o → object_in service_resource key o ≡ Some h → P key h.object
    told-holds (Watched (Changed version (objects.Service service))) key h p e = told-here (is_eq (key_cmp key service.key)) key service version h refl p e
    told-holds (Watched (Changed version (objects.Pool pool))) key h p e = absurd (cc)
    told-holds (Watched (Changed version (objects.L2 adv))) key h p e = absurd (cc)
    told-holds (Watched (Changed version (objects.Bgp adv))) key h p e = absurd (cc)
    told-holds (Watched (Changed version (objects.Peer peer))) key h p e = absurd (cc)
    told-holds (Watched (Changed version (objects.Community community))) key h p e = absurd (cc)
    told-holds (Watched (Changed version (objects.Namespace namespace))) key h p e = absurd (cc)
    told-holds (Watched (Changed version (objects.Node node))) key h p e = absurd (cc)
    told-holds (Watched (Changed version (objects.Slice slice))) key h p e = absurd (cc)
    told-holds (Watched (Deleted kind gone)) key h p e = absurd (cc)
    told-holds (Watched (ListEnd group)) key h p e = absurd (cc)
    told-holds (Watched ExpiredEvent) key h p e = absurd (cc)
    told-holds (Watched (Members names)) key h p e = absurd (cc)
    told-holds (Watched (Frame interface bytes)) key h p e = absurd (cc)
    told-holds (Watched Ignored) key h p e = absurd (cc)
    told-holds (WatchExpired group) key h p e = absurd (cc)
    told-holds (Written k version holding) key h p e = absurd (cc)

    over-by : (here : Bool) (key : Key) (version : ℕ) (holding : Record) (g : Versioned Service) → P key g.object
        → P key (written_over service_resource key (cond here (Some (version, with_holding holding)) None) g).object
    over-by true key version holding g p = kept key g.object holding p
    over-by false key version holding g p = p

    over-holds : (o : Observation) (key : Key) (g : Versioned Service) → P key g.object
        → P key (written_over service_resource key (record_in service_resource key o) g).object
    over-holds (Watched event) key g p = p
    over-holds (WatchExpired group) key g p = p
    over-holds (Written k version holding) key g p = over-by (is_eq (key_cmp k key)) key version holding g p

    on-by : (b : Bool) (key : Key) (g x : Versioned Service) → P key g.object → P key x.object → P key (cond b (at_version 0 g) x).object
    on-by true key g x p q = p
    on-by false key g x p q = q

    on-holds : (o : Observation) (key : Key) (g : Versioned Service) → P key g.object → P key (held_on service_resource key o g).object
    on-holds o key g p =
        on-by (expires service_resource.group o) key g (written_over service_resource key (record_in service_resource key o) g) p (over-holds o key g p)

    shown-by : (newer gone : Bool) (o : Observation) (key : Key) (before : Option (Versioned Service)) (h : Versioned Service) → OfObservation o
        → ((g : Versioned Service) → before ≡ Some g → P key g.object)
        → cond newer (object_in service_resource key o) (cond gone None (option_map (held_on service_resource key o) before)) ≡ Some h → P key h.object
    shown-by true gone o key before h p ih e = told-holds o key h p e
    shown-by false true o key before h p ih e = absurd (cc)
    shown-by false false o key None h p ih e = absurd (cc)
    shown-by false false o key (Some g) h p ih e =
        let is : held_on service_resource key o g ≡ h = cc in
        subst (λ (x : Versioned Service). P key x.object) is (on-holds o key g (ih g refl))

    pub shown-holds : (observations : List Observation) (key : Key) (h : Versioned Service) → OfAll observations
        → last_shown service_resource key observations ≡ Some h → P key h.object
    shown-holds [] key h all e = absurd (cc)
    shown-holds (o ∷ earlier) key h all e =
        shown-by (newer_than service_resource key (version_of service_resource key (last_shown service_resource key earlier))
        (object_in service_resource key o)) _ o key (last_shown service_resource key earlier) h
        all.0 (λ g. shown-holds earlier key g all.1) e

    object-holds : (found : Option (Versioned Service)) (key : Key) (service : Service) → ((h : Versioned Service) → found ≡ Some h → P key h.object)
        → option_map (λ (h : Versioned Service). h.object) found ≡ Some service → P key service
    object-holds None key service each e = absurd (cc)
    object-holds (Some h) key service each e =
        let is : h.object ≡ service = cc in
        subst (P key) is (each h refl)

    told-all : (c : Effect) (event : Event) (earlier : List Observation) → (OfEffect P c → OfObservation (Watched event)) → OfEffect P c → OfAll earlier
        → OfAll (told_by c event earlier)
    told-all (Shows version service) event earlier turn p all = (turn p, all)
    told-all (Drops key) event earlier turn p all = (turn p, all)
    told-all EndsServices event earlier turn p all = (turn p, all)
    told-all Configures event earlier turn p all = (turn p, all)
    told-all Expires event earlier turn p all = (turn p, all)
    told-all Nothing event earlier turn p all = all

    replied-all : (put : Put) (reply : PutReply) (earlier : List Observation) → OfAll earlier → OfAll (heard_of put reply earlier)
    replied-all put (StoredReply version) earlier all = (tt, all)
    replied-all put Stale earlier all = all
    replied-all put Missing earlier all = all
    replied-all put Unknown earlier all = all

    heard-all : (out : Option Put) (reply : PutReply) (earlier : List Observation) → OfAll earlier → OfAll (heard_by out reply earlier)
    heard-all None reply earlier all = all
    heard-all (Some put) reply earlier all = replied-all put reply earlier all

    pub observed-all : (run : List TranscriptEntry) → HoldsOfShown P run → OfAll (observed run)
    observed-all [] all = tt
    observed-all (Took event ∷ earlier) all = told-all (effect_of event) event (observed earlier) (λ p. p) all.0 (observed-all earlier all.1)
    observed-all (Expired group ∷ earlier) all = (tt, observed-all earlier all.1)
    observed-all (Turned turn ∷ earlier) all = observed-all earlier all.1
    observed-all (Heard reply ∷ earlier) all = heard-all (put_out earlier) reply (observed earlier) (observed-all earlier all.1)

    pub held-holds : (class : Option (List ℕ)) (run : List TranscriptEntry) → IsRun class run → HoldsOfShown P run → (key : Key) (service : Service)
        → service_of (core_after class run).held key ≡ Some service → P key service
    held-holds class run is all key service found =
        object-holds (held_at key_cmp (core_after class run).held.services key) key service
        (λ h e. shown-holds (observed run) key h (observed-all run all) (sym (shown-held class run is key) ∙ e)) found

-- ---- each service is held under its own key
own-key : (event : Event) → OfEffect (λ key service. service.key ≡ key) (effect_of event)
own-key = by_effect (λ event c. OfEffect (λ key service. service.key ≡ key) c) (λ version service. refl) (λ key. tt) tt (λ event c. tt) tt (λ event. tt)

pub own-keys : (run : List TranscriptEntry) → HoldsOfShown (λ key service. service.key ≡ key) run
own-keys [] = tt
own-keys (Took event ∷ earlier) = (own-key event, own-keys earlier)
own-keys (Expired group ∷ earlier) = (tt, own-keys earlier)
own-keys (Turned turn ∷ earlier) = (tt, own-keys earlier)
own-keys (Heard reply ∷ earlier) = (tt, own-keys earlier)

pub service-key : (class : Option (List ℕ)) (run : List TranscriptEntry) → IsRun class run → (key : Key) (service : Service)
    → service_of (core_after class run).held key ≡ Some service → service.key ≡ key
service-key class run is key service found = held-holds (λ k s. s.key ≡ k) (λ k s holding p. p) class run is (own-keys run) key service found

-- ---- terms
backend-kept : (policy : Policy) (service : Service) (holding : Record) → backend_by policy (with_holding holding service) ≡ backend_by policy service
backend-kept ClusterPolicy service holding = refl
backend-kept LocalPolicy service holding = refl

-- a record doesn't change the terms
pub terms-kept : (service : Service) (holding : Record) → terms_of (with_holding holding service) ≡ terms_of service
terms-kept service holding =
    let with : Backend → Terms = λ backend. record { key = service.share_key; ports = ports_in service.ports; backend = backend } in
    ap with (backend-kept service.policy service holding)
