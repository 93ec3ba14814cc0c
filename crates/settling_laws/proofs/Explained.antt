-- What holds in a cluster once a controller that ran in it waits.
use Rattle.std.proofs.Common.{◌≡◌, ◌≢◌, ℕ, Bool, true, false, ◌&&◌, is_some, List, [], ◌∷◌, ◌++◌, Option, Some, None, inl, inr, ⊎_elim, refl, sym, ap, subst, ◌∙◌}
use Rattle.std.proofs.lemmas.Bool.{true≢false}
use Rattle.std.specs.List.{AllByRecursion}
use Rattle.kube_model.specs.declared.event.Event.{Event}
use Rattle.kube_model.specs.declared.key.Key.{Key}
use Rattle.kube_model.specs.declared.object.Object.TheVariants as objects
use Rattle.kube_model.specs.declared.put.Put.{Put}
use Rattle.kube_model.specs.declared.service.Service.{Service}
use Rattle.pool_config.specs.Compile.{compiled}
use Rattle.object_history.specs.Cache.{Cached, cached}
use Rattle.alloc_book.specs.Asking.{Offer}
use Rattle.claim_index.specs.Claims.{Holders}
use Rattle.status_store.specs.declared.stored.Stored.{Stored}
use Rattle.status_store.specs.Places.{service_at}
use Rattle.status_store.specs.Objects.{IsStored}
use Rattle.status_store.specs.Changes.{StoreValue}
use Rattle.core_rules.specs.Core.{State, is_ready, labels_of, offer_in, service_of}
use Rattle.core_rules.specs.declared.turn.Turn.TheVariants.{Idle, NoPut, Wants}
use Rattle.core_rules.specs.Run.{TranscriptEntry, Took, Expired, Turned, Heard, IsRun, core_after, observed, put_out}
use Rattle.core_rules.proofs.Runs.{core_holds_what_was_observed}
use Rattle.core_laws.specs.Quiet.{IsQuiet, MeetsRow}
use Rattle.core_laws.specs.Shared.{AllShowTerms}
use Rattle.core_laws.proofs.Puts.{class-is}
use Rattle.core_laws.proofs.QuietRuns.{runs_are_quiet}
use Rattle.core_laws.proofs.Shared.{none-out}
use Rattle.world_rules.specs.Good.{stored_of, held_of, IsFollowed, IsGood}
use Rattle.world_rules.specs.Moves.{Move, Sets, Deletes, Tells, Takes, Turns, Stops, Starts, ConfigExpires, ServicesExpire, EndsLater, Lands}
use Rattle.world_rules.specs.Moves.{AreMoves, under_way, entries_of, after_move, after_moves, run_along, begun}
use Rattle.world_rules.specs.Explaining.{Explains, acts_of, answered}
use Rattle.world_rules.specs.World.{WorldValue, after_steps}
use Rattle.world_rules.proofs.Explaining.{answered-run, runs_are_safe_in_worlds, world-shown}
use Rattle.world_rules.proofs.Landing.{AreExpected, none-expected}
use Rattle.world_rules.proofs.Worlds.{good-else, good-move, late-move, good-moves, starts_are_good}
use Rattle.settling_laws.specs.Clear.{recorded, AreClear, IsSure}
use Rattle.settling_laws.specs.Configured.{HasConfigCopies, IsConfiguredAsStored, IsServing}
use Rattle.settling_laws.specs.StoredConfig.{config_in, labels_in}
use Rattle.settling_laws.specs.Copies.{HasCopies}
use Rattle.settling_laws.specs.Explained.{ListsAnew, AreSureAtLast, AreSureSince, EndsConfigured, EndsSettled, InAllConfigs, IsServedAtRest}
use Rattle.settling_laws.specs.Explained.{IsServedAsStored, IsSettling, RunsSettleWorlds}
use Rattle.settling_laws.specs.Settling.{IsSettledAsStored}
use Rattle.settling_laws.proofs.Copies.{move-copies, starts_have_copies}
use Rattle.settling_laws.proofs.Awaiting.{move-clear, expired_clear, starts_are_clear}
use Rattle.settling_laws.proofs.ConfigRest.{accepted-in, controllers_configure, current-in, labels-held, offers, served-by, shown-compiles}
use Rattle.settling_laws.proofs.Ends.{steps_end}
use Rattle.settling_laws.proofs.Rest.{held-stored}
use Rattle.settling_laws.proofs.Settles.{claims-recorded, controllers_settle, is-settled, unwritten}
use Rattle.settling_laws.proofs.Starts.{steps-up, up_by}

-- ---- along moves
terms-first : (now earlier : List TranscriptEntry) → AllShowTerms (now ++ earlier) → AllShowTerms now
terms-first [] earlier all = tt
terms-first (entry ∷ now) earlier all = (all.0, terms-first now earlier all.1)

terms-earlier : (now earlier : List TranscriptEntry) → AllShowTerms (now ++ earlier) → AllShowTerms earlier
terms-earlier [] earlier all = all
terms-earlier (entry ∷ now) earlier all = terms-earlier now earlier all.1

terms-before : (moves : List Move) (w : WorldValue) (earlier : List TranscriptEntry) → AllShowTerms (run_along moves w earlier) → AllShowTerms earlier
terms-before [] w earlier all = all
terms-before (move ∷ moves) w earlier all =
    terms-earlier (entries_of move w) earlier (terms-before moves (after_move move w) (entries_of move w ++ earlier) all)

terms-here : (move : Move) (moves : List Move) (w : WorldValue) (earlier : List TranscriptEntry) → AllShowTerms (run_along (move ∷ moves) w earlier)
    → AllShowTerms (entries_of move w)
terms-here move moves w earlier all = terms-first (entries_of move w) earlier (terms-before moves (after_move move w) (entries_of move w ++ earlier) all)

copies-along : (moves : List Move) (w : WorldValue) (late : List Put) (earlier : List TranscriptEntry) → AreMoves moves w late
    → AllShowTerms (run_along moves w earlier) → IsGood w → AreExpected w.store w.core late → HasCopies w → HasCopies (after_moves moves w)
copies-along [] w late earlier may typed good e copies = copies
copies-along (move ∷ moves) w late earlier may typed good e copies =
    copies-along moves (after_move move w) (under_way move w late) (entries_of move w ++ earlier) may.1 typed
    (good-move move w late may.0 (terms-here move moves w earlier typed) e good) (late-move move w late may.0 e good)
    (move-copies move w late may.0 good copies)

clear-along : (moves : List Move) (w : WorldValue) (late : List Put) (earlier : List TranscriptEntry) → AreMoves moves w late
    → AllShowTerms (run_along moves w earlier) → IsGood w → AreExpected w.store w.core late → AllByRecursion IsSure moves → AreClear w
    → AreClear (after_moves moves w)
clear-along [] w late earlier may typed good e sure clear = clear
clear-along (move ∷ moves) w late earlier may typed good e sure clear =
    clear-along moves (after_move move w) (under_way move w late) (entries_of move w ++ earlier) may.1 typed
    (good-move move w late may.0 (terms-here move moves w earlier typed) e good) (late-move move w late may.0 e good) sure.1
    (move-clear move w late may.0 sure.0 good clear)

listed-clear : (move : Move) (w : WorldValue) → ListsAnew move → IsGood w → AreClear (after_move move w)
listed-clear (Sets object holding) w lists good = absurd lists
listed-clear (Deletes kind key) w lists good = absurd lists
listed-clear (Tells event) w lists good = absurd lists
listed-clear Takes w lists good = absurd lists
listed-clear (Turns outcome) w lists good = absurd lists
listed-clear (Stops applied) w lists good = absurd lists
listed-clear (Starts list) w lists good = absurd lists
listed-clear ConfigExpires w lists good = absurd lists
listed-clear (ServicesExpire list) w lists good = expired_clear w.store w.core good.stored.kept
listed-clear (EndsLater before event behind) w lists good = absurd lists
listed-clear (Lands put) w lists good = absurd lists

last-clear : (moves : List Move) (w : WorldValue) (late : List Put) (earlier : List TranscriptEntry) → AreMoves moves w late
    → AllShowTerms (run_along moves w earlier) → IsGood w → AreExpected w.store w.core late → AreSureAtLast moves → AreClear (after_moves moves w)
last-clear [] w late earlier may typed good e sure = absurd sure
last-clear (move ∷ moves) w late earlier may typed good e sure =
    let next = after_move move w in
    let kept : IsGood next = good-move move w late may.0 (terms-here move moves w earlier typed) e good in
    let expected : AreExpected next.store next.core (under_way move w late) = late-move move w late may.0 e good in
    ⊎_elim
    (λ lists.
    clear-along moves next (under_way move w late) (entries_of move w ++ earlier) may.1 typed kept expected lists.1 (listed-clear move w lists.0 good))
    (λ later. last-clear moves next (under_way move w late) (entries_of move w ++ earlier) may.1 typed kept expected later)
    sure

none-some : {X : Type 0} (x : X) → None ≡ Some x → ⊥
none-some x e = absurd (cc)

some-is : {X : Type 0} (x y : X) → Some x ≡ Some y → x ≡ y
some-is x y e = cc

first-apart : {X : Type 0} (x : X) (xs : List X) → x ∷ xs ≡ [] → ⊥
first-apart x xs e = absurd (cc)

first-of : (a b c : Bool) → (a && b && c) ≡ true → a ≡ true
first-of true b c e = refl
first-of false b c e = absurd (true≢false (sym e))

-- ---- the world whose core waits
module _ (class : Option (List ℕ)) (store : StoreValue) (config : List Event) (s : State) where
  abbrev w : WorldValue
  w = record { class = class; store = store; config_lane = config; service_lane = []; core = Some s }

  module _ (good : IsGood w) (copies : HasCopies w) (clear : AreClear w) (ready : is_ready s.held ≡ true) (queue : s.queue ≡ []) where
    up : IsFollowed w s
    up = good.up

    same : (key : Key) → held_of s key ≡ stored_of store key
    same key = (up.tracked key).follows

    held : (key : Key) (service : Service) (stored : Stored) → IsStored store.objects (service_at key) stored → stored.object ≡ objects.Service service
        → service_of s.held key ≡ Some service
    held = held-stored store s good.stored.kept.ascending same copies.held

    served : (key : Key) (service : Service) (stored : Stored) → IsStored store.objects (service_at key) stored → stored.object ≡ objects.Service service
        → MeetsRow s.class (offer_in s.held) (recorded store) service
    served key service stored there is =
        let quiet : IsQuiet s = subst IsQuiet up.leads (runs_are_quiet class up.run up.is) in
        subst (λ (has : Holders). MeetsRow s.class (offer_in s.held) has service) (claims-recorded class store config [] s good clear same held ready queue)
        (quiet key service (is-settled class store config [] s good clear same held ready queue key service stored there is)
        (unwritten class store config [] s good clear same held ready queue key) (held key service stored there is))

-- each stored service has what is chosen for it
abbrev AreServed : StoreValue → State → Type 0
AreServed store s =
    is_ready s.held ≡ true → s.queue ≡ [] → (key : Key) (service : Service) (stored : Stored) → IsStored store.objects (service_at key) stored
    → stored.object ≡ objects.Service service → MeetsRow s.class (offer_in s.held) (recorded store) service

waits_by : (class : Option (List ℕ)) (store : StoreValue) (config services : List Event) (c : Option State) (s : State) → c ≡ Some s → services ≡ []
    → (let w : WorldValue = record { class = class; store = store; config_lane = config; service_lane = services; core = c } in
    IsGood w → HasCopies w → AreClear w → AreServed store s)
waits_by class store config services None s core none good copies clear = absurd (none-some s core)
waits_by class store config (event ∷ lane) (Some t) s core none good copies clear = absurd (first-apart event lane none)
waits_by class store config [] (Some t) s core none good copies clear =
    subst (AreServed store) (some-is t s core) (λ ready queue. served class store config t good copies clear ready queue)

-- ---- a run, but for a last put that has no reply
quiet-answered : (run : List TranscriptEntry) → put_out run ≡ None → answered run ≡ run
quiet-answered [] none = refl
quiet-answered (Took event ∷ earlier) none = refl
quiet-answered (Expired group ∷ earlier) none = refl
quiet-answered (Turned Idle ∷ earlier) none = refl
quiet-answered (Turned (NoPut key pending) ∷ earlier) none = refl
quiet-answered (Turned (Wants put pending) ∷ earlier) none = absurd (none-some put (sym none))
quiet-answered (Heard reply ∷ earlier) none = refl

answered-quiet : (class : Option (List ℕ)) (run : List TranscriptEntry) → IsRun class run → put_out (answered run) ≡ None
answered-quiet class [] is = refl
answered-quiet class (Took event ∷ earlier) is = none-out class earlier is.1 is.0
answered-quiet class (Expired group ∷ earlier) is = none-out class earlier is.1 is.0
answered-quiet class (Turned Idle ∷ earlier) is = refl
answered-quiet class (Turned (NoPut key pending) ∷ earlier) is = refl
answered-quiet class (Turned (Wants put pending) ∷ earlier) is = none-out class earlier is.1 is.0.0
answered-quiet class (Heard reply ∷ earlier) is = refl

answered-terms : (run : List TranscriptEntry) → AllShowTerms run → AllShowTerms (answered run)
answered-terms [] all = all
answered-terms (Took event ∷ earlier) all = all
answered-terms (Expired group ∷ earlier) all = all
answered-terms (Turned Idle ∷ earlier) all = all
answered-terms (Turned (NoPut key pending) ∷ earlier) all = all
answered-terms (Turned (Wants put pending) ∷ earlier) all = all.1
answered-terms (Heard reply ∷ earlier) all = all

-- the core of a world that explains the run is the run's
core-is : (class : Option (List ℕ)) (run : List TranscriptEntry) → IsRun class run → AllShowTerms run → (store : StoreValue) (list : List Event)
    (moves : List Move) → Explains class store list moves run
    → (after_moves moves (begun class store list)).core ≡ Some (core_after class (answered run))
core-is class run is typed store list moves ex =
    let a : List TranscriptEntry = answered run in
    let none : put_out a ≡ None = answered-quiet class run is in
    let ex' : Explains class store list moves a =
    record { good = ex.good; listed = ex.listed; running = ex.running; may = ex.may; same = ex.same ∙ ap acts_of (sym (quiet-answered a none)) } in
    (runs_are_safe_in_worlds class a (answered-run class run is) (answered-terms run typed) store list moves ex').0.core none

-- ---- every world that explains a run
module _ (class : Option (List ℕ)) (run : List TranscriptEntry) (is : IsRun class run) (typed : AllShowTerms run) (store : StoreValue) (list : List Event)
    (moves : List Move) (ex : Explains class store list moves run)
  where
    abbrev w0 : WorldValue
    w0 = begun class store list

    abbrev end : WorldValue
    end = after_moves moves w0

    begins : IsGood w0
    begins = starts_are_good class store list ex.good ex.listed

    none : AreExpected w0.store w0.core []
    none = none-expected w0.store w0.core

    shown : AllShowTerms (run_along moves w0 [])
    shown = world-shown class run is typed store list moves ex

    good : IsGood end
    good = good-moves moves w0 [] [] ex.may shown begins none

    copies : HasCopies end
    copies = copies-along moves w0 [] [] ex.may shown begins none (starts_have_copies class store list ex.good ex.listed)

    clear : AreSureSince moves → AreClear end
    clear sure =
        ⊎_elim (λ all. clear-along moves w0 [] [] ex.may shown begins none all (starts_are_clear.0 class store list))
        (λ last. last-clear moves w0 [] [] ex.may shown begins none last)
        sure

    core : end.core ≡ Some (core_after class (answered run))
    core = core-is class run is typed store list moves ex

    is-up : end.core ≢ None
    is-up e = none-some (core_after class (answered run)) (sym e ∙ core)

    settles : AreSureSince moves → InAllConfigs end EndsSettled
    settles sure config own steps are rest =
        let v : WorldValue = record end { config_lane = config } in
        let last : WorldValue = after_steps steps v in
        up_by (IsSettledAsStored last) last.core (steps-up v steps are is-up)
        (controllers_settle v (good-else end config good) own copies (clear sure) steps are rest)

    configures : AreSureSince moves → InAllConfigs end (λ v. HasConfigCopies v → EndsConfigured v)
    configures sure config own leads steps are rest =
        let v : WorldValue = record end { config_lane = config } in
        let last : WorldValue = after_steps steps v in
        up_by (IsConfiguredAsStored last) last.core (steps-up v steps are is-up)
        (controllers_configure v (good-else end config good) own copies leads (clear sure) steps are rest)

    served-at-rest : AreSureSince moves → IsServedAtRest class end run
    served-at-rest sure ready queue out lane key service stored there what =
        let s : State = core_after class run in
        let now : end.core ≡ Some s = core ∙ ap (λ (r : List TranscriptEntry). Some (core_after class r)) (quiet-answered run out) in
        subst (λ (c : Option (List ℕ)). MeetsRow c (offer_in s.held) (recorded end.store) service) (class-is class run)
        (waits_by end.class end.store end.config_lane end.service_lane end.core s now lane good copies (clear sure) ready queue key service stored there what)

    served-as-stored : AreSureSince moves → IsServedAsStored class end run
    served-as-stored sure ready queue out lane shows config serving key service stored there what =
        let s : State = core_after class run in
        let held : s.held ≡ cached (observed run) = (core_holds_what_was_observed class run is).0 in
        let ended : s.held.config_ended ≡ true = first-of s.held.config_ended s.held.services_ended (is_some s.held.config) ready in
        let compiles : compiled s.held.objects ≡ config_in end.store =
        ap (λ (c : Cached). compiled c.objects) held ∙ shown-compiles end.store (observed run) good.stored.kept.ascending shows in
        let by_held : IsServing end.store (λ last. s.held.config ≡ Some last) config =
        ⊎_elim (λ ok. inl ok) (λ bad. inr (bad.0, bad.1, (accepted-in class run is s refl config).1 bad.2)) serving in
        let force : s.held.config ≡ Some config = served-by end.store s.held config (current-in class run is) ended compiles by_held in
        let labels : (name : List ℕ) → labels_of s.held name ≡ labels_in end.store name =
        λ name. ap (λ (c : Cached). labels_of c name) held ∙ labels-held (observed run) name ∙ shows.labels name in
        subst (λ (o : Service → Offer). MeetsRow class o (recorded end.store) service) (offers end.store s.held config force labels)
        (served-at-rest sure ready queue out lane key service stored there what)

    pub settling : IsSettling class moves end run
    settling = record {
      core = core;
      ends = λ config own steps are. steps_end (record end { config_lane = config }) (good-else end config good) own steps are;
      settles = settles;
      served = served-at-rest;
      configures = configures;
      served_as_stored = served-as-stored;
    }

pub runs_settle_worlds : RunsSettleWorlds
runs_settle_worlds = settling
