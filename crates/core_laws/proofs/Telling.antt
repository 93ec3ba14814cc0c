-- Reasons and notes are right.
use Rattle.std.proofs.Common.{◌≡◌, ◌≢◌, ℕ, Bool, true, false, cond, List, [], ◌∷◌, Option, Some, None, Result, Ok, Err, refl, sym, ap, subst, ◌∙◌}
use Rattle.kube_model.specs.declared.config_fault.ConfigFault.{ConfigFault}
use Rattle.kube_model.specs.declared.event.Event.{Event}
use Rattle.kube_model.specs.declared.event.Event.TheVariants.{Changed, Deleted, ListEnd, Expired, Members, Frame, Ignored}
use Rattle.kube_model.specs.declared.event.ListGroup.TheVariants as groups
use Rattle.kube_model.specs.declared.key.Key.{Key}
use Rattle.kube_model.specs.declared.object.Kind.TheVariants as kinds
use Rattle.kube_model.specs.declared.object.Object.TheVariants as objects
use Rattle.kube_model.specs.declared.reason.Reason.{Reason}
use Rattle.kube_model.specs.declared.service.Service.{Service}
use Rattle.kube_model.specs.Keys.{key_cmp}
use Rattle.versioned_map.specs.Objects.{version_at}
use Rattle.pool_config.specs.Compile.{compiled}
use Rattle.pool_config.specs.ConfigValue.{ConfigValue}
use Rattle.object_history.specs.Cache.{Cached, cached, objects_after, event_compiles}
use Rattle.object_history.specs.Observations.{Observation, Watched}
use Rattle.object_history.specs.LookBack.{Compiles}
use Rattle.object_history.proofs.Cached.{objects-as_shown}
use Rattle.object_history.proofs.Force.{compiles-is}
use Rattle.object_cache.specs.Change.{applied, note_in, note_of}
use Rattle.alloc_book.specs.declared.choice.Choice.{Choice}
use Rattle.alloc_book.specs.declared.choice.Choice.TheVariants.{Foreign, Clear, Pending, Keep, New}
use Rattle.alloc_book.specs.Chosen.{IsChosen}
use Rattle.core_rules.specs.declared.turn.Turn.{Turn}
use Rattle.core_rules.specs.declared.turn.Turn.TheVariants.{Idle, NoPut, Wants}
use Rattle.core_rules.specs.Core.{State, service_of}
use Rattle.core_rules.specs.Take.{Effect, Shows, Drops, EndsServices, Configures, Expires, Nothing, effect_of, note_by}
use Rattle.core_rules.specs.Turn.{wanted_record, reason_in, chosen_at, turn_at, turn_of}
use Rattle.core_rules.specs.Run.{core_after, observed, claims_shown}
use Rattle.core_rules.proofs.Runs.{core_holds_what_was_observed}
use Rattle.core_laws.specs.QuietShown.{offer_shown}
use Rattle.core_laws.specs.Telling.{Tells, ReasonsAreRight, IsRightNote, NotesAreRight}
use Rattle.core_laws.proofs.Kept.{kept_at}
use Rattle.core_laws.proofs.Puts.{IsDecidedAs, decided}

-- ---- reasons
pending-is : (c : Choice) (reason : Reason) → reason_in c ≡ Some reason → c ≡ Pending reason
pending-is Foreign reason e = absurd (cc)
pending-is Clear reason e = absurd (cc)
pending-is (Pending r) reason e = let same : r ≡ reason = cc in ap Pending same
pending-is (Keep holding) reason e = absurd (cc)
pending-is (New holding) reason e = absurd (cc)

-- The turn is that of a held service, which is pending.
record IsPendingAt (s : State) (key : Key) (reason : Reason) : Type 0 where
  pub service : Service
  pub found : service_of s.held key ≡ Some service
  pub chosen : chosen_at s service ≡ Pending reason

told-by : (b : Bool) (s : State) (key : Key) (service : Service) (turn : Turn) (k : Key) (version : ℕ) (reason : Reason) → service_of s.held k ≡ Some service
    → turn ≡ cond b (NoPut k (reason_in (chosen_at s service)))
    (Wants (record { key = k; version = version; holding = wanted_record service.holding (chosen_at s service) }) (reason_in (chosen_at s service)))
    → Tells turn key reason → IsPendingAt s key reason
told-by true s key service turn k version reason found e tells =
    let t : (k ≡ key) × (reason_in (chosen_at s service) ≡ Some reason) = subst (λ (x : Turn). Tells x key reason) e tells in
    record { service = service; found = subst (λ x. service_of s.held x ≡ Some service) t.0 found; chosen = pending-is (chosen_at s service) reason t.1 }
told-by false s key service turn k version reason found e tells =
    let t : (k ≡ key) × (reason_in (chosen_at s service) ≡ Some reason) = subst (λ (x : Turn). Tells x key reason) e tells in
    record { service = service; found = subst (λ x. service_of s.held x ≡ Some service) t.0 found; chosen = pending-is (chosen_at s service) reason t.1 }

told-at : (found : Option Service) (s : State) (key k : Key) (turn : Turn) (reason : Reason) → service_of s.held k ≡ found → turn ≡ turn_at s k found
    → Tells turn key reason → IsPendingAt s key reason
told-at None s key k turn reason f e tells =
    let t : (k ≡ key) × (None ≡ Some reason) = subst (λ (x : Turn). Tells x key reason) e tells in
    let no : None ≡ Some reason = t.1 in
    absurd (cc)
told-at (Some service) s key k turn reason f e tells =
    told-by (kept_at s service) s key service turn k (version_at key_cmp s.held.services k) reason f e tells

told-of : (s : State) (queue : List Key) (key : Key) (turn : Turn) (reason : Reason) → turn ≡ turn_of s queue → Tells turn key reason → IsPendingAt s key reason
told-of s [] key turn reason e tells = absurd (subst (λ (x : Turn). Tells x key reason) e tells)
told-of s (k ∷ rest) key turn reason e tells = told-at (service_of s.held k) s key k turn reason refl e tells

busy : (turn : Turn) (key : Key) (reason : Reason) → Tells turn key reason → turn ≢ Idle
busy turn key reason tells e = subst (λ (x : Turn). Tells x key reason) e tells

pub reasons_are_right : ReasonsAreRight
reasons_are_right class turn key reason earlier is tells =
    let s = core_after class earlier in
    let p : IsPendingAt s key reason = told-of s s.queue key turn reason is.0.1 tells in
    let d : IsDecidedAs class key (Some reason) earlier p.service =
    decided class turn earlier is (busy turn key reason tells) key (Some reason) p.service p.found (ap reason_in (sym p.chosen)) in
    let held = d.right.held in
    record {
      held = held;
      shown = d.right.shown;
      config = d.right.config;
      in_force = d.right.in_force;
      chosen = subst (IsChosen (λ k. claims_shown k earlier) (offer_shown d.right.config (observed earlier) held.object) class held.object)
          (sym d.choice_is ∙ p.chosen) d.right.chosen;
    }

-- ---- notes
note-compiled : (made : Result ConfigValue ConfigFault) (event : Event) (earlier : List Observation) → Compiles earlier (Watched event)
    → compiled (objects_after (Watched event) (cached earlier).objects) ≡ made
    → IsRightNote (note_in made) event earlier
note-compiled (Ok config) event earlier turn e =
    (config, record { compiles = turn; held = (cached (Watched event ∷ earlier)).objects; shown = objects-as_shown (Watched event ∷ earlier); accepted = e })
note-compiled (Err fault) event earlier turn e =
    record { compiles = turn; held = (cached (Watched event ∷ earlier)).objects; shown = objects-as_shown (Watched event ∷ earlier); refused = e }

note-by : (b : Bool) (event : Event) (earlier : List Observation) → event_compiles (cached earlier).objects (cached earlier).config_ended event ≡ b
    → IsRightNote (note_of b (objects_after (Watched event) (cached earlier).objects)) event earlier
note-by true event earlier e =
    note-compiled (compiled (objects_after (Watched event) (cached earlier).objects)) event earlier ((compiles-is earlier (Watched event)).0 e) refl
note-by false event earlier e = λ turn. let yes : event_compiles (cached earlier).objects (cached earlier).config_ended event ≡ true =
    (compiles-is earlier (Watched event)).1 turn in absurd (cc)

note-applied : (event : Event) (earlier : List Observation) → IsRightNote (applied (cached earlier) event).note event earlier
note-applied event earlier = note-by (event_compiles (cached earlier).objects (cached earlier).config_ended event) event earlier refl

-- what concerns no configuration compiles none
never-compiles : (event : Event) (c : Effect) → effect_of event ≡ c → c ≢ Configures → (earlier : List Observation) → ¬ (Compiles earlier (Watched event))
never-compiles (Changed version (objects.Service service)) c e other earlier turn = turn.0
never-compiles (Changed version (objects.Pool pool)) c e other earlier turn = other (sym e)
never-compiles (Changed version (objects.L2 adv)) c e other earlier turn = other (sym e)
never-compiles (Changed version (objects.Bgp adv)) c e other earlier turn = other (sym e)
never-compiles (Changed version (objects.Peer peer)) c e other earlier turn = other (sym e)
never-compiles (Changed version (objects.Community community)) c e other earlier turn = other (sym e)
never-compiles (Changed version (objects.Namespace namespace)) c e other earlier turn = other (sym e)
never-compiles (Changed version (objects.Node node)) c e other earlier turn = turn.0
never-compiles (Changed version (objects.Slice slice)) c e other earlier turn = turn.0
never-compiles (Deleted kinds.Service key) c e other earlier turn = let no : false ≡ true = turn.0 in absurd (cc)
never-compiles (Deleted kinds.Pool key) c e other earlier turn = other (sym e)
never-compiles (Deleted kinds.L2 key) c e other earlier turn = other (sym e)
never-compiles (Deleted kinds.Bgp key) c e other earlier turn = other (sym e)
never-compiles (Deleted kinds.Peer key) c e other earlier turn = other (sym e)
never-compiles (Deleted kinds.Community key) c e other earlier turn = other (sym e)
never-compiles (Deleted kinds.Namespace key) c e other earlier turn = other (sym e)
never-compiles (Deleted kinds.Node key) c e other earlier turn = let no : false ≡ true = turn.0 in absurd (cc)
never-compiles (Deleted kinds.Slice key) c e other earlier turn = let no : false ≡ true = turn.0 in absurd (cc)
never-compiles (ListEnd groups.Config) c e other earlier turn = other (sym e)
never-compiles (ListEnd groups.Service) c e other earlier turn = let wrong : groups.Service ≡ groups.Config = turn in absurd (cc)
never-compiles (ListEnd groups.Endpoint) c e other earlier turn = let wrong : groups.Endpoint ≡ groups.Config = turn in absurd (cc)
never-compiles Expired c e other earlier turn = turn
never-compiles (Members names) c e other earlier turn = turn
never-compiles (Frame interface bytes) c e other earlier turn = turn
never-compiles Ignored c e other earlier turn = turn

note-of : (c : Effect) (s : State) (event : Event) (earlier : List Observation) → effect_of event ≡ c → s.held ≡ cached earlier
    → IsRightNote (note_by c s event) event earlier
note-of Configures s event earlier e h = subst (λ (x : Cached). IsRightNote (applied x event).note event earlier) (sym h) (note-applied event earlier)
note-of (Shows version service) s event earlier e h = never-compiles event (Shows version service) e (λ x. absurd (cc)) earlier
note-of (Drops key) s event earlier e h = never-compiles event (Drops key) e (λ x. absurd (cc)) earlier
note-of EndsServices s event earlier e h = never-compiles event EndsServices e (λ x. absurd (cc)) earlier
note-of Expires s event earlier e h = never-compiles event Expires e (λ x. absurd (cc)) earlier
note-of Nothing s event earlier e h = never-compiles event Nothing e (λ x. absurd (cc)) earlier

pub notes_are_right : NotesAreRight
notes_are_right class event earlier is =
    note-of (effect_of event) (core_after class earlier) event (observed earlier) refl (core_holds_what_was_observed class earlier is).0
