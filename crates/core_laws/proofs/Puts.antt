-- Each put is what is chosen by what the look back shows.
use Rattle.std.proofs.Common.{◌≡◌, ◌≢◌, ℕ, Bool, true, false, cond, ◌&&◌, List, [], ◌∷◌, Option, Some, None, is_some, option_map}
use Rattle.std.proofs.Common.{◌⊎◌, inl, inr, ⊎_elim, refl, sym, ap, subst, ◌∙◌}
use Rattle.std.proofs.lemmas.Bool.{true≢false}
use Rattle.std.specs.Option.{option_map_or}
use Rattle.kube_model.specs.declared.event.Event.{Event}
use Rattle.kube_model.specs.declared.key.Key.{Key}
use Rattle.kube_model.specs.declared.namespace.Namespace.{Namespace}
use Rattle.kube_model.specs.declared.put.Put.{Put}
use Rattle.kube_model.specs.declared.reason.Reason.{Reason}
use Rattle.kube_model.specs.declared.record.Record.{Record}
use Rattle.kube_model.specs.declared.reply.PutReply.{PutReply}
use Rattle.kube_model.specs.declared.reply.PutReply.TheVariants.{Ok as StoredReply, Stale, Missing, Unknown}
use Rattle.kube_model.specs.declared.service.Service.{Service}
use Rattle.versioned_map.specs.declared.map.Versioned.{Versioned}
use Rattle.versioned_map.specs.Objects.{held_at, version_at}
use Rattle.pool_config.specs.ConfigValue.{ConfigValue}
use Rattle.kube_labels.specs.Names.{name_cmp}
use Rattle.object_history.specs.Cache.{Cached, cached}
use Rattle.kube_model.specs.Keys.{key_cmp}
use Rattle.object_history.specs.Kinds.{service_resource, namespace_resource}
use Rattle.object_history.proofs.Cached.{held_at-held_of, namespaces-held}
use Rattle.kube_labels.proofs.NameLaws.{name_cmp-total, name_cmp-exact}
use Rattle.object_history.proofs.Seen.{last_shown-is}
use Rattle.object_history.proofs.Force.{all_is_as_shown}
use Rattle.alloc_book.specs.Asking.{Offer}
use Rattle.alloc_book.specs.Chosen.{IsChosen}
use Rattle.alloc_book.specs.declared.choice.Choice.{Choice}
use Rattle.alloc_book.specs.declared.choice.Choice.TheVariants.{Foreign}
use Rattle.kube_model.specs.Records.{same_record}
use Rattle.kube_model.specs.Service.{same_class}
use Rattle.mlb_base.proofs.CaseLaws.{case-has}
use Rattle.claim_index.specs.Claims.{Holders, holders, claims_of}
use Rattle.kube_model.proofs.RecordLaws.{same_record-itself}
use Rattle.alloc_book.proofs.ChooseLaws.{choose-is}
use Rattle.alloc_book.proofs.PendingLaws.{chosen-by}
use Rattle.core_rules.specs.declared.turn.Turn.{Turn}
use Rattle.core_rules.specs.declared.turn.Turn.TheVariants.{Idle, NoPut, Wants}
use Rattle.core_rules.specs.Core.{State, is_ready, service_of, labels_of, offer_at, offer_in, pools_in, own_claims, has_other}
use Rattle.core_rules.specs.Take.{core_by, core_take}
use Rattle.core_rules.specs.Turn.{wanted_record, reason_in, is_foreign, chosen_at, turn_at, turn_of}
use Rattle.core_rules.specs.Replied.{replied_to}
use Rattle.core_rules.specs.Run.{TranscriptEntry, Took, Expired, Turned, Heard, core_after, IsRun, observed, claims_shown}
use Rattle.core_rules.proofs.Claims.{shown-held, claims_are_shown}
use Rattle.core_rules.proofs.Effects.{by_effect}
use Rattle.core_rules.proofs.Runs.{core_holds_what_was_observed}
use Rattle.core_laws.specs.Puts.{labels_shown, IsRightDecision, PutsAreRight, TurnsAreReady}
use Rattle.core_laws.proofs.Classes.{by-test, same_class-is}
use Rattle.core_laws.proofs.Kept.{kept_at, due-by, wanted-own}
use Rattle.core_laws.proofs.Keyed.{service-key}
use Rattle.core_laws.proofs.Others.{other-claims}
use Rattle.core_laws.proofs.Ready.{runs-idle}

-- ---- the class
took-class : (s : State) (event : Event) → (core_take s event).class ≡ s.class
took-class s = by_effect (λ event c. (core_by c s event).class ≡ s.class) (λ version service. refl) (λ key. refl) refl (λ event c. refl) refl (λ event. refl)

heard-class : (out : Option Put) (reply : PutReply) (s : State) → (replied_to out s reply).class ≡ s.class
heard-class None reply s = refl
heard-class (Some put) (StoredReply version) s = refl
heard-class (Some put) Stale s = refl
heard-class (Some put) Missing s = refl
heard-class (Some put) Unknown s = refl

pub class-is : (class : Option (List ℕ)) (run : List TranscriptEntry) → (core_after class run).class ≡ class
class-is class [] = refl
class-is class (Took event ∷ earlier) = took-class (core_after class earlier) event ∙ class-is class earlier
class-is class (Expired group ∷ earlier) = class-is class earlier
class-is class (Turned turn ∷ earlier) = class-is class earlier
class-is class (Heard reply ∷ earlier) = heard-class (core_after class earlier).out reply (core_after class earlier) ∙ class-is class earlier

-- ---- what is wanted
-- The put of a turn: its key is the front of the queue.
pub record IsWanted (s : State) (put : Put) (pending : Option Reason) (queue : List Key) : Type 0 where
  pub rest : List Key
  pub service : Service
  pub queue_is : queue ≡ put.key ∷ rest
  pub found : service_of s.held put.key ≡ Some service
  pub version_is : put.version ≡ version_at key_cmp s.held.services put.key
  pub holding_is : put.holding ≡ wanted_record service.holding (chosen_at s service)
  pub own : chosen_at s service ≢ Foreign
  pub due : (same_record put.holding service.holding ≡ false) ⊎ (has_other service s.claims ≡ true)
  pub reason_is : pending ≡ reason_in (chosen_at s service)

wanted-by : (b : Bool) (s : State) (key : Key) (rest : List Key) (service : Service) (put : Put) (pending : Option Reason)
    → service_of s.held key ≡ Some service
    → b ≡ kept_at s service
    → Wants put pending ≡ cond b (NoPut key (reason_in (chosen_at s service))) (Wants (record {
      key = key;
      version = version_at key_cmp s.held.services key;
      holding = wanted_record service.holding (chosen_at s service);
    }) (reason_in (chosen_at s service)))
    → IsWanted s put pending (key ∷ rest)
wanted-by true s key rest service put pending found b e = absurd (cc)
wanted-by false s key rest service put pending found b e =
    let p : put ≡ record { key = key; version = version_at key_cmp s.held.services key; holding = wanted_record service.holding (chosen_at s service) } = cc in
    let r : pending ≡ reason_in (chosen_at s service) = cc in
    let k : key ≡ put.key = ap (λ (x : Put). x.key) (sym p) in
    let h : put.holding ≡ wanted_record service.holding (chosen_at s service) = ap (λ (x : Put). x.holding) p in
    record {
      rest = rest;
      service = service;
      queue_is = ap (λ (x : Key). x ∷ rest) k;
      found = subst (λ x. service_of s.held x ≡ Some service) k found;
      version_is = ap (λ (x : Put). x.version) p ∙ ap (version_at key_cmp s.held.services) k;
      holding_is = h;
      own = wanted-own (chosen_at s service) _ (sym b);
      due =
          subst (λ (x : Record). (same_record x service.holding ≡ false) ⊎ (has_other service s.claims ≡ true)) (sym h)
          (due-by (is_foreign (chosen_at s service)) (same_record (wanted_record service.holding (chosen_at s service)) service.holding)
          (has_other service s.claims) (sym b));
      reason_is = r;
    }

wanted-at : (found : Option Service) (s : State) (key : Key) (rest : List Key) (put : Put) (pending : Option Reason) → service_of s.held key ≡ found
    → Wants put pending ≡ turn_at s key found → IsWanted s put pending (key ∷ rest)
wanted-at None s key rest put pending f e = absurd (cc)
wanted-at (Some service) s key rest put pending f e =
    wanted-by (kept_at s service) s key rest service put pending f refl e

pub wanted-of : (s : State) (queue : List Key) (put : Put) (pending : Option Reason) → Wants put pending ≡ turn_of s queue → IsWanted s put pending queue
wanted-of s [] put pending e = absurd (cc)
wanted-of s (key ∷ rest) put pending e = wanted-at (service_of s.held key) s key rest put pending refl e

-- ---- what is shown
pub held-of : (held : Option (Versioned Service)) (service : Service) → option_map (λ (h : Versioned Service). h.object) held ≡ Some service
    → (h : Versioned Service) × (held ≡ Some h) × (h.object ≡ service)
held-of None service e = absurd (cc)
held-of (Some h) service e = (h, refl, cc)

labels-within : (found : Option (Versioned Namespace)) → option_map_or (λ (n : Namespace). n.labels) (option_map (λ (h : Versioned Namespace). h.object) found)
    [] ≡ option_map_or (λ (h : Versioned Namespace). h.object.labels) found []
labels-within None = refl
labels-within (Some h) = refl

pub labels-shown : (class : Option (List ℕ)) (run : List TranscriptEntry) → IsRun class run → (name : List ℕ)
    → labels_of (core_after class run).held name ≡ labels_shown name (observed run)
labels-shown class run is name =
    ap (λ (h : Cached). labels_of h name) (core_holds_what_was_observed class run is).0
    ∙ labels-within (held_at name_cmp (cached (observed run)).namespaces name)
    ∙ ap (λ (found : Option (Versioned Namespace)). option_map_or (λ (h : Versioned Namespace). h.object.labels) found [])
    (ap (λ (es : List (List ℕ × Versioned Namespace)). held_at name_cmp es name) (namespaces-held (observed run))
    ∙ held_at-held_of namespace_resource name_cmp-total name_cmp-exact (observed run) name)

some-config : (c : Option ConfigValue) → is_some c ≡ true → (config : ConfigValue) × (c ≡ Some config)
some-config None e = absurd (cc)
some-config (Some config) e = (config, refl)

-- Both lists have ended, and the configuration in force.
pub record IsReadyAt (held : Cached) : Type 0 where
  pub configured : held.config_ended ≡ true
  pub listed : held.services_ended ≡ true
  pub config : ConfigValue
  pub in_force : held.config ≡ Some config

ready-parts : (a b : Bool) (c : Option ConfigValue) → (a && b && is_some c) ≡ true → (a ≡ true) × (b ≡ true) × (is_some c ≡ true)
ready-parts true true c e = (refl, refl, e)
ready-parts true false c e = absurd (cc)
ready-parts false b c e = absurd (cc)

ready-at : (held : Cached) → is_ready held ≡ true → IsReadyAt held
ready-at held e =
    let parts = ready-parts held.config_ended held.services_ended held.config e in
    let found = some-config held.config parts.2 in
    record { configured = parts.0; listed = parts.1; config = found.0; in_force = found.1 }

-- where something is queued, the core is ready
queue-ready : (b : Bool) (queue : List Key) → (b ≡ false → queue ≡ []) → queue ≢ [] → b ≡ true
queue-ready true queue idle some = refl
queue-ready false queue idle some = absurd (some (idle refl))

-- a turn is idle only where nothing is queued
busy-by : (b : Bool) (key : Key) (pending : Option Reason) (put : Put) → cond b (NoPut key pending) (Wants put pending) ≢ Idle
busy-by true key pending put e = absurd (cc)
busy-by false key pending put e = absurd (cc)

busy-at : (found : Option Service) (s : State) (key : Key) → turn_at s key found ≢ Idle
busy-at None s key e = absurd (cc)
busy-at (Some service) s key e = busy-by (kept_at s service) key _ _ e

pub idle-queue : (s : State) (queue : List Key) → turn_of s queue ≡ Idle → queue ≡ []
idle-queue s [] e = refl
idle-queue s (key ∷ keys) e = absurd (busy-at (service_of s.held key) s key e)

turn-queue : (s : State) (queue : List Key) (turn : Turn) → turn ≡ turn_of s queue → turn ≢ Idle → queue ≢ []
turn-queue s queue turn e busy none = busy (e ∙ ap (turn_of s) none)

pub ready-run : (class : Option (List ℕ)) (turn : Turn) (earlier : List TranscriptEntry) → IsRun class (Turned turn ∷ earlier) → turn ≢ Idle
    → IsReadyAt (core_after class earlier).held
ready-run class turn earlier is busy =
    let s = core_after class earlier in
    ready-at s.held (queue-ready (is_ready s.held) s.queue (λ n. (runs-idle class earlier is.1 n).0) (turn-queue s s.queue turn is.0.1 busy))

pub turns_are_ready : TurnsAreReady
turns_are_ready class turn earlier is busy =
    let ready : IsReadyAt (core_after class earlier).held = ready-run class turn earlier is busy in
    let shown = all_is_as_shown (observed earlier) in
    let holds = (core_holds_what_was_observed class earlier is.1).0 in
    record {
      configured = shown.config_ended.0 (ap (λ (h : Cached). h.config_ended) (sym holds) ∙ ready.configured);
      listed = shown.services_ended.0 (ap (λ (h : Cached). h.services_ended) (sym holds) ∙ ready.listed);
      config = ready.config;
      in_force = (shown.config ready.config).0 (ap (λ (h : Cached). h.config) (sym holds) ∙ ready.in_force);
    }

wants-busy : (put : Put) (pending : Option Reason) → Wants put pending ≢ Idle
wants-busy put pending e = absurd (cc)

differs-from : (a b : Record) → same_record a b ≡ false → a ≢ b
differs-from a b d e = true≢false (sym (subst (λ x. same_record a x ≡ true) e (same_record-itself a)) ∙ d)

-- What is decided for a held service, in the words of the look back.
pub record IsDecidedAs (class : Option (List ℕ)) (key : Key) (pending : Option Reason) (earlier : List TranscriptEntry) (service : Service) : Type 0 where
  pub right : IsRightDecision class key pending earlier
  pub object_is : service ≡ right.held.object
  pub version_is : version_at key_cmp (core_after class earlier).held.services key ≡ right.held.version
  pub choice_is : chosen_at (core_after class earlier) service ≡ right.choice

-- a turn that isn't idle decides by what the look back shows
pub decided : (class : Option (List ℕ)) (turn : Turn) (earlier : List TranscriptEntry) → IsRun class (Turned turn ∷ earlier) → turn ≢ Idle
    → (key : Key) (pending : Option Reason) (service : Service) → service_of (core_after class earlier).held key ≡ Some service
    → pending ≡ reason_in (chosen_at (core_after class earlier) service) → IsDecidedAs class key pending earlier service
decided class turn earlier is busy key pending service there reason =
    let s = core_after class earlier in
    let hs = observed earlier in
    let ready : IsReadyAt s.held = ready-run class turn earlier is busy in
    let holds = (core_holds_what_was_observed class earlier is.1).0 in
    let found = held-of (held_at key_cmp s.held.services key) service there in
    let held = found.0 in
    let service_is : service ≡ held.object = sym found.2 in
    let name = service.key.namespace in
    let choice = chosen_at s service in
    let chosen : IsChosen (holders s.claims) (offer_in s.held service) s.class service choice =
    choose-is s.claims (offer_in s.held service) s.class service choice refl in
    let by_claims = chosen-by (holders s.claims) (λ k. claims_shown k earlier) (offer_in s.held service) s.class service choice
    (λ k. claims_are_shown class earlier is.1 k) chosen in
    let offer_is : offer_in s.held service ≡ offer_at ready.config.pools (labels_shown name hs) service =
    ap (λ (c : Option ConfigValue). offer_at (pools_in c) (labels_of s.held name) service) ready.in_force
    ∙ ap (λ (labels : List (List ℕ × List ℕ)). offer_at ready.config.pools labels service) (labels-shown class earlier is.1 name) in
    let by_offer = subst (λ (o : Offer). IsChosen (λ k. claims_shown k earlier) o s.class service choice) offer_is by_claims in
    let by_class =
    subst (λ (c : Option (List ℕ)). IsChosen (λ k. claims_shown k earlier) (offer_at ready.config.pools (labels_shown name hs) service) c service choice)
    (class-is class earlier) by_offer in
    record {
      right = record {
        held = held;
        shown = last_shown-is service_resource key hs held (sym (shown-held class earlier is.1 key) ∙ found.1);
        config = ready.config;
        in_force = ((all_is_as_shown hs).config ready.config).0 (ap (λ (h : Cached). h.config) (sym holds) ∙ ready.in_force);
        choice = choice;
        chosen = subst (λ (x : Service).
            IsChosen (λ k. claims_shown k earlier) (offer_at ready.config.pools (labels_shown x.key.namespace hs) x) class x choice) service_is by_class;
        reason_is = reason;
      };
      object_is = service_is;
      version_is = ap (λ (h : Option (Versioned Service)). option_map_or (λ (v : Versioned Service). v.version) h 0) found.1;
      choice_is = refl;
    }

-- so the record that is wanted is the one that the look back wants
pub wanted-as : (class : Option (List ℕ)) (key : Key) (pending : Option Reason) (earlier : List TranscriptEntry) (service : Service)
    (d : IsDecidedAs class key pending earlier service)
    → wanted_record service.holding (chosen_at (core_after class earlier) service) ≡ wanted_record d.right.held.object.holding d.right.choice
wanted-as class key pending earlier service d =
    ap (λ (x : Service). wanted_record x.holding (chosen_at (core_after class earlier) service)) d.object_is
    ∙ ap (wanted_record d.right.held.object.holding) d.choice_is

-- something is chosen for a service of its own class alone
own-of : (has : Holders) (o : Offer) (class : Option (List ℕ)) (service : Service) (c : Choice) → IsChosen has o class service c → c ≢ Foreign
    → service.balancer ≡ true → service.class ≡ class
own-of has o class service c chosen own balancer =
    case-has _ _ _ _
    (λ _ foreign. absurd (own foreign))
    (λ one _. by-test (same_class class service.class) (same_class-is class service.class) (λ other. one (balancer, other)))
    chosen

pub puts_are_right : PutsAreRight
puts_are_right class put pending earlier is =
    let s = core_after class earlier in
    let wanted : IsWanted s put pending s.queue = wanted-of s s.queue put pending is.0.1 in
    let d : IsDecidedAs class put.key pending earlier wanted.service =
    decided class (Wants put pending) earlier is (wants-busy put pending) put.key pending wanted.service wanted.found wanted.reason_is in
    record {
      decision = d.right;
      version_is = wanted.version_is ∙ d.version_is;
      holding_is = wanted.holding_is ∙ wanted-as class put.key pending earlier wanted.service d;
      due =
          ⊎_elim
          (λ differs. inl (subst (λ (x : Service). put.holding ≢ x.holding) d.object_is (differs-from put.holding wanted.service.holding differs)))
          (λ other.
          let of : wanted.service.key ≡ put.key = service-key class earlier is.1 put.key wanted.service wanted.found in
          inr (λ alone.
          other-claims s.claims wanted.service other
          (ap (λ (k : Key). claims_of k s.claims) of ∙ claims_are_shown class earlier is.1 put.key ∙ alone ∙ ap own_claims (sym d.object_is))))
          wanted.due;
      own = own-of _ _ class d.right.held.object d.right.choice d.right.chosen (λ e. wanted.own (d.choice_is ∙ e));
    }
