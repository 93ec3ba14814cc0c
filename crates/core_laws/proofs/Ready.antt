-- While a core isn't ready nothing is queued and no put is in flight.
use Rattle.std.proofs.Common.{◌≡◌, ℕ, Bool, true, false, cond, ◌&&◌, List, [], ◌∷◌, ◌++◌, Option, Some, None, is_some, Result, Ok, Err, refl, sym, ◌∙◌}
use Rattle.mlb_base.proofs.Bools.{false_before}
use Rattle.kube_model.specs.declared.config_fault.ConfigFault.{ConfigFault}
use Rattle.kube_model.specs.declared.event.Event.{Event}
use Rattle.kube_model.specs.declared.event.Event.TheVariants.{Changed, Deleted, ListEnd, Expired as ExpiredEvent, Members, Frame, Ignored}
use Rattle.kube_model.specs.declared.event.ListGroup.TheVariants as groups
use Rattle.kube_model.specs.declared.key.Key.{Key}
use Rattle.kube_model.specs.declared.object.Kind.TheVariants as kinds
use Rattle.kube_model.specs.declared.object.Object.TheVariants as objects
use Rattle.kube_model.specs.declared.put.Put.{Put}
use Rattle.kube_model.specs.declared.reply.PutReply.{PutReply}
use Rattle.kube_model.specs.declared.reply.PutReply.TheVariants.{Ok as StoredReply, Stale, Missing, Unknown}
use Rattle.kube_model.specs.declared.service.Service.{Service}
use Rattle.versioned_map.specs.declared.map.Versioned.{Versioned}
use Rattle.versioned_map.specs.Objects.{is_newer, listed}
use Rattle.pool_config.specs.ConfigValue.{ConfigValue}
use Rattle.object_history.specs.Cache.{Cached, cached_after, objects_after, in_force}
use Rattle.object_history.specs.Observations.{Watched, WatchExpired}
use Rattle.pool_config.specs.Compile.{compiled}
use Rattle.kube_model.specs.Keys.{key_cmp}
use Rattle.claim_index.specs.Claims.{loses}
use Rattle.core_rules.specs.Core.{State, is_ready, shown_terms}
use Rattle.core_rules.specs.Take.{Configures, effect_of, core_by, core_take, own_and_waiting, listed_and_free, listed_keys, have_claims}
use Rattle.core_rules.specs.Turn.{turn_of, rest_of, put_in}
use Rattle.core_rules.specs.Replied.{replied_to}
use Rattle.core_rules.specs.Run.{TranscriptEntry, Took, Expired, Turned, Heard, core_after, IsRun}
use Rattle.core_rules.proofs.Effects.{by_effect}

abbrev pub IsIdle : Bool → List Key → Option Put → Type 0
IsIdle ready queue out = ready ≡ false → (queue ≡ []) × (out ≡ None)

in_force-stays : (b : Bool) (c : Option ConfigValue) (r : Result ConfigValue ConfigFault) → is_some c ≡ true → is_some (cond b (in_force c r) c) ≡ true
in_force-stays true c (Ok config) e = refl
in_force-stays true c (Err fault) e = e
in_force-stays false c r e = e

ready-stays : (a b : Bool) (c d : Option ConfigValue) → (is_some c ≡ true → is_some d ≡ true) → (a && b && is_some c) ≡ true → (a && b && is_some d) ≡ true
ready-stays true true c d stays e = stays e
ready-stays true false c d stays e = absurd (cc)
ready-stays false b c d stays e = absurd (cc)

ready-comes : (a b : Bool) (c d : Option ConfigValue) → (is_some c ≡ true → is_some d ≡ true) → (a && b && is_some c) ≡ true → (true && b && is_some d) ≡ true
ready-comes true true c d stays e = stays e
ready-comes true false c d stays e = absurd (cc)
ready-comes false b c d stays e = absurd (cc)

-- an event of the configuration or of a namespace leaves a ready core ready
pub config-ready : (event : Event) (s : Cached) → effect_of event ≡ Configures → is_ready s ≡ true → is_ready (cached_after (Watched event) s) ≡ true
config-ready (Changed version (objects.Service service)) s c e = absurd (cc)
config-ready (Changed version (objects.Pool pool)) s c e = ready-stays s.config_ended s.services_ended s.config _ (in_force-stays _ s.config _) e
config-ready (Changed version (objects.L2 adv)) s c e = ready-stays s.config_ended s.services_ended s.config _ (in_force-stays _ s.config _) e
config-ready (Changed version (objects.Bgp adv)) s c e = ready-stays s.config_ended s.services_ended s.config _ (in_force-stays _ s.config _) e
config-ready (Changed version (objects.Peer peer)) s c e = ready-stays s.config_ended s.services_ended s.config _ (in_force-stays _ s.config _) e
config-ready (Changed version (objects.Community community)) s c e = ready-stays s.config_ended s.services_ended s.config _ (in_force-stays _ s.config _) e
config-ready (Changed version (objects.Namespace namespace)) s c e = e
config-ready (Changed version (objects.Node node)) s c e = absurd (cc)
config-ready (Changed version (objects.Slice slice)) s c e = absurd (cc)
config-ready (Deleted kinds.Service key) s c e = absurd (cc)
config-ready (Deleted kinds.Pool key) s c e = ready-stays s.config_ended s.services_ended s.config _ (in_force-stays _ s.config _) e
config-ready (Deleted kinds.L2 key) s c e = ready-stays s.config_ended s.services_ended s.config _ (in_force-stays _ s.config _) e
config-ready (Deleted kinds.Bgp key) s c e = ready-stays s.config_ended s.services_ended s.config _ (in_force-stays _ s.config _) e
config-ready (Deleted kinds.Peer key) s c e = ready-stays s.config_ended s.services_ended s.config _ (in_force-stays _ s.config _) e
config-ready (Deleted kinds.Community key) s c e = ready-stays s.config_ended s.services_ended s.config _ (in_force-stays _ s.config _) e
config-ready (Deleted kinds.Namespace key) s c e = e
config-ready (Deleted kinds.Node key) s c e = absurd (cc)
config-ready (Deleted kinds.Slice key) s c e = absurd (cc)
config-ready (ListEnd groups.Service) s c e = absurd (cc)
config-ready (ListEnd groups.Config) s c e =
    ready-comes s.config_ended s.services_ended s.config (in_force s.config (compiled (objects_after (Watched (ListEnd groups.Config)) s.objects)))
    (in_force-stays true s.config (compiled (objects_after (Watched (ListEnd groups.Config)) s.objects))) e
config-ready (ListEnd groups.Endpoint) s c e = absurd (cc)
config-ready ExpiredEvent s c e = absurd (cc)
config-ready (Members names) s c e = absurd (cc)
config-ready (Frame interface bytes) s c e = absurd (cc)
config-ready Ignored s c e = absurd (cc)

shown-idle : (newer ready : Bool) (queue more : List Key) → ready ≡ false → queue ≡ [] → more ≡ [] → cond newer (queue ++ more) queue ≡ []
shown-idle true ready queue more r q m = rw (q, m) refl
shown-idle false ready queue more r q m = q

listed-idle : (a : Bool) (c : Option ConfigValue) (before : Bool) (lost : Bool) (s : State) (services : List (Key × Versioned Service)) (queue : List Key)
    → queue ≡ [] → (a && is_some c) ≡ false
    → (listed_keys services queue ++ listed_and_free before (a && is_some c) lost s) ≡ []
listed-idle a c before lost s services queue q r = rw (q, r) refl

not-ready : (a b : Bool) (c : Option ConfigValue) → (a && true && is_some c) ≡ false → (a && b && is_some c) ≡ false
not-ready true true c e = e
not-ready true false c e = refl
not-ready false b c e = refl

not-configured : (a : Bool) (c : Option ConfigValue) → (a && true && is_some c) ≡ false → (a && is_some c) ≡ false
not-configured true c e = e
not-configured false c e = refl

took-idle : (s : State) → IsIdle (is_ready s.held) s.queue s.out → s.out ≡ None → (event : Event)
    → IsIdle (is_ready (core_take s event).held) (core_take s event).queue (core_take s event).out
took-idle s idle o = by_effect (λ event c. IsIdle (is_ready (core_by c s event).held) (core_by c s event).queue (core_by c s event).out)
    (λ version service n. (
      shown-idle (is_newer key_cmp s.held.services service.key version) (is_ready s.held) s.queue
          (own_and_waiting (is_ready s.held) (loses service.key service.holding (shown_terms service) s.claims) s service.key) n (idle n).0 (rw n refl),
      o,
    ))
    (λ key n. (rw ((idle n).0, n) refl, o))
    (λ n. (
      listed-idle s.held.config_ended s.held.config (is_ready s.held) (have_claims s.held.services s.claims) s (listed s.held.services) s.queue
          (idle (not-ready s.held.config_ended s.held.services_ended s.held.config n)).0 (not-configured s.held.config_ended s.held.config n),
      o,
    ))
    (λ event c n. ((rw n refl) ∙ (idle (false_before (is_ready s.held) (is_ready (cached_after (Watched event) s.held)) (config-ready event s.held c) n)).0, o))
    (λ n. (refl, o))
    (λ event. idle)

expired-idle : (b : Bool) (queue : List Key) → b ≡ false → cond b queue [] ≡ []
expired-idle true queue e = absurd (cc)
expired-idle false queue e = refl

turned-idle : (s : State) (queue : List Key) → queue ≡ [] → (rest_of queue ≡ []) × (put_in (turn_of s queue) ≡ None)
turned-idle s [] e = (refl, refl)
turned-idle s (key ∷ keys) e = absurd (cc)

replied-ready : (out : Option Put) (reply : PutReply) (s : State) → is_ready (replied_to out s reply).held ≡ is_ready s.held
replied-ready None reply s = refl
replied-ready (Some put) (StoredReply version) s = refl
replied-ready (Some put) Stale s = refl
replied-ready (Some put) Missing s = refl
replied-ready (Some put) Unknown s = refl

some-none : (out : Option Put) → is_some out ≡ true → out ≡ None → ⊥
some-none None s n = absurd (cc)
some-none (Some put) s n = absurd (cc)

pub runs-idle : (class : Option (List ℕ)) (run : List TranscriptEntry) → IsRun class run
    → IsIdle (is_ready (core_after class run).held) (core_after class run).queue (core_after class run).out
runs-idle class [] is n = (refl, refl)
runs-idle class (Took event ∷ earlier) is n = took-idle (core_after class earlier) (runs-idle class earlier is.1) is.0 event n
runs-idle class (Expired group ∷ earlier) is n =
    (expired-idle (is_ready (cached_after (WatchExpired group) (core_after class earlier).held)) (core_after class earlier).queue n, is.0)
runs-idle class (Turned turn ∷ earlier) is n = turned-idle (core_after class earlier) (core_after class earlier).queue (runs-idle class earlier is.1 n).0
runs-idle class (Heard reply ∷ earlier) is n =
    absurd (some-none (core_after class earlier).out is.0
    (runs-idle class earlier is.1 (sym (replied-ready (core_after class earlier).out reply (core_after class earlier)) ∙ n)).1)
