-- A world that explains a run goes through that run.
use Rattle.std.proofs.Common.{◌≡◌, ℕ, true, List, [], ◌∷◌, ◌++◌, map, Option, Some, None, is_some, refl, sym, ap, subst, ◌∙◌}
use Rattle.std.specs.List.{AllByRecursion}
use Rattle.kube_model.specs.declared.event.Event.{Event}
use Rattle.kube_model.specs.declared.event.Event.TheVariants.{Changed, Deleted, ListEnd, Expired as WatchesExpired, Members, Frame, Ignored}
use Rattle.kube_model.specs.declared.event.ListGroup.{ListGroup}
use Rattle.kube_model.specs.declared.event.ListGroup.TheVariants as groups
use Rattle.kube_model.specs.declared.key.Key.{Key}
use Rattle.kube_model.specs.declared.object.Kind.{Kind}
use Rattle.kube_model.specs.declared.object.Kind.TheVariants as kinds
use Rattle.kube_model.specs.declared.object.Object.{Object}
use Rattle.kube_model.specs.declared.object.Object.TheVariants as objects
use Rattle.kube_model.specs.declared.put.Put.{Put}
use Rattle.kube_model.specs.Kinds.{kind_of, group_of}
use Rattle.status_store.specs.declared.change.Outcome.{Outcome}
use Rattle.status_store.specs.Changes.{StoreValue, after_put, reply_to}
use Rattle.core_rules.specs.declared.turn.Turn.{Turn}
use Rattle.core_rules.specs.declared.turn.Turn.TheVariants.{Idle, NoPut, Wants}
use Rattle.core_rules.specs.Core.{State}
use Rattle.core_rules.specs.Take.{core_take, core_expired}
use Rattle.core_rules.specs.Turn.{core_turn, after_turn, put_in, rest_of}
use Rattle.core_rules.specs.Replied.{core_reply}
use Rattle.core_rules.specs.Run.{TranscriptEntry, Took, Expired, Turned, Heard, core_after, put_out, MayEnter, IsRun}
use Rattle.core_rules.proofs.Runs.{core_holds_what_was_observed, took-out, heard-out}
use Rattle.core_laws.proofs.Expired.{expired_is_both}
use Rattle.core_laws.proofs.Puts.{idle-queue}
use Rattle.core_laws.specs.Shared.{AllShowTerms}
use Rattle.world_rules.specs.Moves.{Move, Sets, Deletes, Tells, Takes, Turns, Stops, Starts, ConfigExpires, ServicesExpire, EndsLater, Lands}
use Rattle.world_rules.specs.Moves.{entries_taken, entries_put, entries_turned, entries_of, run_along, after_move, after_moves, begun}
use Rattle.world_rules.specs.Explaining.{Act, Shown, ListExpired, Decided, Answered, shown_of, acts_of_event, acts_of_turn, acts_of_entry}
use Rattle.world_rules.specs.Explaining.{acts_of, answered, puts_of_entry, puts_of, IsRunning, Explains, IsExplained, RunsAreSafeInWorlds}
use Rattle.world_rules.specs.Good.{IsGood}
use Rattle.world_rules.proofs.Worlds.{starts_are_good, good-moves, safe-along}
use Rattle.world_rules.proofs.Turns.{good-turn}
use Rattle.world_rules.proofs.Landing.{none-expected}
use Rattle.world_rules.specs.Safe.{IsSafe}
use Rattle.world_rules.specs.World.{WorldValue, told, turned, after_turning}

-- ---- the same run, without what is ignored
abbrev pub normal_shown : ListGroup → Event → List TranscriptEntry
normal_shown groups.Config event = Took event ∷ []
normal_shown groups.Service event = Took event ∷ []
normal_shown groups.Endpoint event = []

abbrev pub normal_event : Event → List TranscriptEntry
normal_event (Changed version object) = normal_shown (group_of (kind_of object)) (Changed version object)
normal_event (Deleted kind key) = normal_shown (group_of kind) (Deleted kind key)
normal_event (ListEnd group) = normal_shown group (ListEnd group)
normal_event WatchesExpired = Expired groups.Service ∷ Expired groups.Config ∷ []
normal_event (Members names) = []
normal_event (Frame interface bytes) = []
normal_event Ignored = []

abbrev pub normal_turn : Turn → List TranscriptEntry
normal_turn Idle = []
normal_turn (NoPut key pending) = Turned (NoPut key pending) ∷ []
normal_turn (Wants put pending) = Turned (Wants put pending) ∷ []

abbrev pub normal_entry : TranscriptEntry → List TranscriptEntry
normal_entry (Took event) = normal_event event
normal_entry (Expired group) = Expired group ∷ []
normal_entry (Turned turn) = normal_turn turn
normal_entry (Heard reply) = Heard reply ∷ []

abbrev pub normal : List TranscriptEntry → List TranscriptEntry
normal [] = []
normal (entry ∷ earlier) = normal_entry entry ++ normal earlier

-- what an entry of it is
abbrev pub act_of : TranscriptEntry → Act
act_of (Took event) = Shown event
act_of (Expired group) = ListExpired group
act_of (Turned turn) = Decided
act_of (Heard reply) = Answered reply

shown-acts : (group : ListGroup) (event : Event) (more : List TranscriptEntry)
    → map act_of (normal_shown group event ++ more) ≡ shown_of group event ++ map act_of more
shown-acts groups.Config event more = refl
shown-acts groups.Service event more = refl
shown-acts groups.Endpoint event more = refl

event-acts : (event : Event) (more : List TranscriptEntry) → map act_of (normal_event event ++ more) ≡ acts_of_event event ++ map act_of more
event-acts (Changed version object) more = shown-acts (group_of (kind_of object)) (Changed version object) more
event-acts (Deleted kind key) more = shown-acts (group_of kind) (Deleted kind key) more
event-acts (ListEnd group) more = shown-acts group (ListEnd group) more
event-acts WatchesExpired more = refl
event-acts (Members names) more = refl
event-acts (Frame interface bytes) more = refl
event-acts Ignored more = refl

turn-acts : (turn : Turn) (more : List TranscriptEntry) → map act_of (normal_turn turn ++ more) ≡ acts_of_turn turn ++ map act_of more
turn-acts Idle more = refl
turn-acts (NoPut key pending) more = refl
turn-acts (Wants put pending) more = refl

entry-acts : (entry : TranscriptEntry) (more : List TranscriptEntry) → map act_of (normal_entry entry ++ more) ≡ acts_of_entry entry ++ map act_of more
entry-acts (Took event) more = event-acts event more
entry-acts (Expired group) more = refl
entry-acts (Turned turn) more = turn-acts turn more
entry-acts (Heard reply) more = refl

pub acts-normal : (run : List TranscriptEntry) → map act_of (normal run) ≡ acts_of run
acts-normal [] = refl
acts-normal (entry ∷ earlier) = entry-acts entry (normal earlier) ∙ ap (λ (acts : List Act). acts_of_entry entry ++ acts) (acts-normal earlier)

-- its puts are the same
shown-puts : (group : ListGroup) (event : Event) (more : List TranscriptEntry) → puts_of (normal_shown group event ++ more) ≡ puts_of more
shown-puts groups.Config event more = refl
shown-puts groups.Service event more = refl
shown-puts groups.Endpoint event more = refl

event-puts : (event : Event) (more : List TranscriptEntry) → puts_of (normal_event event ++ more) ≡ puts_of more
event-puts (Changed version object) more = shown-puts (group_of (kind_of object)) (Changed version object) more
event-puts (Deleted kind key) more = shown-puts (group_of kind) (Deleted kind key) more
event-puts (ListEnd group) more = shown-puts group (ListEnd group) more
event-puts WatchesExpired more = refl
event-puts (Members names) more = refl
event-puts (Frame interface bytes) more = refl
event-puts Ignored more = refl

entry-puts : (entry : TranscriptEntry) (more : List TranscriptEntry) → puts_of (normal_entry entry ++ more) ≡ puts_of_entry entry ++ puts_of more
entry-puts (Took event) more = event-puts event more
entry-puts (Expired group) more = refl
entry-puts (Turned Idle) more = refl
entry-puts (Turned (NoPut key pending)) more = refl
entry-puts (Turned (Wants put pending)) more = refl
entry-puts (Heard reply) more = refl

pub puts-normal : (run : List TranscriptEntry) → puts_of (normal run) ≡ puts_of run
puts-normal [] = refl
puts-normal (entry ∷ earlier) = entry-puts entry (normal earlier) ∙ ap (λ (puts : List Put). puts_of_entry entry ++ puts) (puts-normal earlier)

-- ---- it leads to the same core
-- a turn that is idle changes nothing
idle-same : (s : State) → s.out ≡ None → Idle ≡ core_turn s → after_turn s ≡ s
idle-same s none idle =
    let empty : s.queue ≡ [] = idle-queue s s.queue (sym idle) in
    let rest : rest_of s.queue ≡ s.queue = ap rest_of empty ∙ sym empty in
    let out : put_in (core_turn s) ≡ s.out = ap put_in (sym idle) ∙ sym none in
    ap (λ (queue : List Key). record s { queue = queue; out = put_in (core_turn s) }) rest
    ∙ ap (λ (o : Option Put). record s { queue = s.queue; out = o }) out

module _ (class : Option (List ℕ)) where
  -- a run, and the core after it
  abbrev pub LeadsTo : List TranscriptEntry → State → Type 0
  LeadsTo run s = IsRun class run × (core_after class run ≡ s)

  object-leads : (version : ℕ) (object : Object) (n : List TranscriptEntry) → IsRun class n → (core_after class n).out ≡ None
      → LeadsTo (normal_event (Changed version object) ++ n) (core_take (core_after class n) (Changed version object))
  object-leads version (objects.Service service) n is none = ((none, is), refl)
  object-leads version (objects.Pool pool) n is none = ((none, is), refl)
  object-leads version (objects.L2 adv) n is none = ((none, is), refl)
  object-leads version (objects.Bgp adv) n is none = ((none, is), refl)
  object-leads version (objects.Peer peer) n is none = ((none, is), refl)
  object-leads version (objects.Community community) n is none = ((none, is), refl)
  object-leads version (objects.Namespace namespace) n is none = ((none, is), refl)
  object-leads version (objects.Node node) n is none = ((none, is), refl)
  object-leads version (objects.Slice slice) n is none = (is, refl)

  deletion-leads : (kind : Kind) (key : Key) (n : List TranscriptEntry) → IsRun class n → (core_after class n).out ≡ None
      → LeadsTo (normal_event (Deleted kind key) ++ n) (core_take (core_after class n) (Deleted kind key))
  deletion-leads kinds.Service key n is none = ((none, is), refl)
  deletion-leads kinds.Pool key n is none = ((none, is), refl)
  deletion-leads kinds.L2 key n is none = ((none, is), refl)
  deletion-leads kinds.Bgp key n is none = ((none, is), refl)
  deletion-leads kinds.Peer key n is none = ((none, is), refl)
  deletion-leads kinds.Community key n is none = ((none, is), refl)
  deletion-leads kinds.Namespace key n is none = ((none, is), refl)
  deletion-leads kinds.Node key n is none = ((none, is), refl)
  deletion-leads kinds.Slice key n is none = (is, refl)

  event-leads : (event : Event) (n : List TranscriptEntry) → IsRun class n → (core_after class n).out ≡ None
      → LeadsTo (normal_event event ++ n) (core_take (core_after class n) event)
  event-leads (Changed version object) n is none = object-leads version object n is none
  event-leads (Deleted kind key) n is none = deletion-leads kind key n is none
  event-leads (ListEnd groups.Config) n is none = ((none, is), refl)
  event-leads (ListEnd groups.Service) n is none = ((none, is), refl)
  event-leads (ListEnd groups.Endpoint) n is none = (is, refl)
  event-leads WatchesExpired n is none = ((none, (none, is)), sym (expired_is_both class n is))
  event-leads (Members names) n is none = (is, refl)
  event-leads (Frame interface bytes) n is none = (is, refl)
  event-leads Ignored n is none = (is, refl)

  turn-leads : (turn : Turn) (n : List TranscriptEntry) → IsRun class n → (core_after class n).out ≡ None → turn ≡ core_turn (core_after class n)
      → LeadsTo (normal_turn turn ++ n) (after_turn (core_after class n))
  turn-leads Idle n is none e = (is, sym (idle-same (core_after class n) none e))
  turn-leads (NoPut key pending) n is none e = (((none, e), is), refl)
  turn-leads (Wants put pending) n is none e = (((none, e), is), refl)

  pub normal-leads : (run : List TranscriptEntry) → IsRun class run → LeadsTo (normal run) (core_after class run)
  normal-leads [] is = (tt, refl)
  normal-leads (Took event ∷ earlier) is =
      let ih = normal-leads earlier is.1 in
      let here = event-leads event (normal earlier) ih.0 (ap (λ (s : State). s.out) ih.1 ∙ is.0) in
      (here.0, here.1 ∙ ap (λ (s : State). core_take s event) ih.1)
  normal-leads (Expired group ∷ earlier) is =
      let ih = normal-leads earlier is.1 in
      ((ap (λ (s : State). s.out) ih.1 ∙ is.0, ih.0), ap (λ (s : State). core_expired s group) ih.1)
  normal-leads (Turned turn ∷ earlier) is =
      let ih = normal-leads earlier is.1 in
      let here = turn-leads turn (normal earlier) ih.0 (ap (λ (s : State). s.out) ih.1 ∙ is.0.0) (is.0.1 ∙ ap core_turn (sym ih.1)) in
      (here.0, here.1 ∙ ap after_turn ih.1)
  normal-leads (Heard reply ∷ earlier) is =
      let ih = normal-leads earlier is.1 in
      ((ap (λ (s : State). is_some s.out) ih.1 ∙ is.0, ih.0), ap (λ (s : State). core_reply s reply) ih.1)

  -- ---- what happens decides the run
  same-entry : (x y : TranscriptEntry) (s : State) → MayEnter x s → MayEnter y s → act_of x ≡ act_of y → x ≡ y
  same-entry (Took event) (Took other) s p q e = let same : event ≡ other = cc in ap Took same
  same-entry (Took event) (Expired group) s p q e = absurd (cc)
  same-entry (Took event) (Turned turn) s p q e = absurd (cc)
  same-entry (Took event) (Heard reply) s p q e = absurd (cc)
  same-entry (Expired group) (Took event) s p q e = absurd (cc)
  same-entry (Expired group) (Expired other) s p q e = let same : group ≡ other = cc in ap Expired same
  same-entry (Expired group) (Turned turn) s p q e = absurd (cc)
  same-entry (Expired group) (Heard reply) s p q e = absurd (cc)
  same-entry (Turned turn) (Took event) s p q e = absurd (cc)
  same-entry (Turned turn) (Expired group) s p q e = absurd (cc)
  same-entry (Turned turn) (Turned other) s p q e = ap Turned (p.1 ∙ sym q.1)
  same-entry (Turned turn) (Heard reply) s p q e = absurd (cc)
  same-entry (Heard reply) (Took event) s p q e = absurd (cc)
  same-entry (Heard reply) (Expired group) s p q e = absurd (cc)
  same-entry (Heard reply) (Turned turn) s p q e = absurd (cc)
  same-entry (Heard reply) (Heard other) s p q e = let same : reply ≡ other = cc in ap Heard same

  pub same-runs : (n m : List TranscriptEntry) → IsRun class n → IsRun class m → map act_of n ≡ map act_of m → n ≡ m
  same-runs [] [] p q e = refl
  same-runs [] (y ∷ m) p q e = absurd (cc)
  same-runs (x ∷ n) [] p q e = absurd (cc)
  same-runs (x ∷ n) (y ∷ m) p q e =
      let tails : map act_of n ≡ map act_of m = cc in
      let heads : act_of x ≡ act_of y = cc in
      let rest : n ≡ m = same-runs n m p.1 q.1 tails in
      let may : MayEnter x (core_after class m) = subst (λ (r : List TranscriptEntry). MayEnter x (core_after class r)) rest p.0 in
      let first : x ≡ y = same-entry x y (core_after class m) may q.0 heads in
      ap (λ (z : TranscriptEntry). z ∷ n) first ∙ ap (λ (r : List TranscriptEntry). y ∷ r) rest

  -- ---- the run of a world's core
  pub record GoesThrough (w : WorldValue) (run : List TranscriptEntry) : Type 0 where
    pub class_is : w.class ≡ class
    pub is : IsRun class run
    pub core : w.core ≡ Some (core_after class run)
    pub none : (core_after class run).out ≡ None

  taken-through : (lane : List Event) (run : List TranscriptEntry) → IsRun class run → (core_after class run).out ≡ None
      → IsRun class (entries_taken (Some (core_after class run)) lane ++ run)
      × (told (Some (core_after class run)) lane ≡ Some (core_after class (entries_taken (Some (core_after class run)) lane ++ run)))
      × ((core_after class (entries_taken (Some (core_after class run)) lane ++ run)).out ≡ None)
  taken-through [] run is none = (is, refl, none)
  taken-through (event ∷ more) run is none = ((none, is), refl, took-out (core_after class run) event ∙ none)

  put-through : (p : Option Put) (outcome : Outcome) (w : WorldValue) (run : List TranscriptEntry) → p ≡ put_in (core_turn (core_after class run))
      → GoesThrough w run
      → GoesThrough (turned (after_turn (core_after class run)) p outcome w)
      ((entries_put p outcome w.store ++ Turned (core_turn (core_after class run)) ∷ []) ++ run)
  put-through None outcome w run e g = record { class_is = g.class_is; is = ((g.none, refl), g.is); core = refl; none = sym e }
  put-through (Some put) outcome w run e g =
      let s = core_after class run in
      let out : is_some (after_turn s).out ≡ true = ap is_some (sym e) in
      record {
        class_is = g.class_is;
        is = (out, ((g.none, refl), g.is));
        core = refl;
        none = heard-out (after_turn s).out (reply_to put outcome w.store) (after_turn s) out;
      }

  pub move-through : (move : Move) (w : WorldValue) (run : List TranscriptEntry) → IsRunning move → GoesThrough w run
      → GoesThrough (after_move move w) (entries_of move w ++ run)
  move-through (Sets object holding) w run r g = record { class_is = g.class_is; is = g.is; core = g.core; none = g.none }
  move-through (Deletes kind key) w run r g = record { class_is = g.class_is; is = g.is; core = g.core; none = g.none }
  move-through (Tells event) w run r g =
      let t = taken-through (event ∷ []) run g.is g.none in
      record { class_is = g.class_is; is = rw g.core t.0; core = rw g.core t.1; none = rw g.core t.2 }
  move-through Takes w run r g =
      let t = taken-through w.service_lane run g.is g.none in
      record { class_is = g.class_is; is = rw g.core t.0; core = rw g.core t.1; none = rw g.core t.2 }
  move-through (Turns outcome) w run r g =
      subst (λ (c : Option State). GoesThrough (after_turning c outcome w) (entries_turned c outcome w.store ++ run)) (sym g.core)
      (put-through (put_in (core_turn (core_after class run))) outcome w run refl g)
  move-through (Stops applied) w run r g = absurd r
  move-through (Starts list) w run r g = absurd r
  move-through ConfigExpires w run r g =
      record { class_is = g.class_is; is = rw g.core (g.none, g.is); core = rw g.core refl; none = rw g.core g.none }
  move-through (ServicesExpire list) w run r g =
      record { class_is = g.class_is; is = rw g.core (g.none, g.is); core = rw g.core refl; none = rw g.core g.none }
  move-through (EndsLater before event behind) w run r g = record { class_is = g.class_is; is = g.is; core = g.core; none = g.none }
  move-through (Lands put) w run r g = record { class_is = g.class_is; is = g.is; core = g.core; none = g.none }

  moves-through : (moves : List Move) (w : WorldValue) (run : List TranscriptEntry) → AllByRecursion IsRunning moves → GoesThrough w run
      → GoesThrough (after_moves moves w) (run_along moves w run)
  moves-through [] w run all g = g
  moves-through (move ∷ moves) w run all g = moves-through moves (after_move move w) (entries_of move w ++ run) all.1 (move-through move w run all.0 g)

  -- ---- a world that explains a run
  pub answered-run : (run : List TranscriptEntry) → IsRun class run → IsRun class (answered run)
  answered-run [] is = is
  answered-run (Took event ∷ earlier) is = is
  answered-run (Expired group ∷ earlier) is = is
  answered-run (Turned Idle ∷ earlier) is = is
  answered-run (Turned (NoPut key pending) ∷ earlier) is = is
  answered-run (Turned (Wants put pending) ∷ earlier) is = is.1
  answered-run (Heard reply ∷ earlier) is = is

  none-out : (run : List TranscriptEntry) → IsRun class run → (core_after class run).out ≡ None → put_out run ≡ None
  none-out run is none = sym (core_holds_what_was_observed class run is).1 ∙ none

  -- no put is in flight
  quiescent : (w : WorldValue) (along run : List TranscriptEntry) → w.core ≡ Some (core_after class run) → puts_of along ≡ puts_of run → answered run ≡ run
      → IsSafe w.store → put_out run ≡ None
      → IsExplained class w along run
  quiescent w along run core puts same safe none =
      record {
        puts = puts ∙ ap puts_of (sym same);
        core = λ out. core;
        about = λ put out. (let no : Some put ≡ None = sym out ∙ none in absurd (cc no));
        safe = safe;
        last = λ put out outcome. (let no : Some put ≡ None = sym out ∙ none in absurd (cc no));
      }

  -- the store after a turn that wants a put
  turned-store : (c : Option State) (s : State) (put : Put) (outcome : Outcome) (w : WorldValue) → c ≡ Some s → put_in (core_turn s) ≡ Some put
      → (after_turning c outcome w).store ≡ after_put put outcome w.store
  turned-store c s put outcome w up wants = rw (up, wants) refl

  -- a put is in flight
  about-put : (w : WorldValue) (along earlier : List TranscriptEntry) (put : Put) → w.core ≡ Some (core_after class earlier) → puts_of along ≡ puts_of earlier
      → IsGood w
      → (turn : Turn) → turn ≡ core_turn (core_after class earlier) → put_in turn ≡ Some put → answered (Turned turn ∷ earlier) ≡ earlier
      → IsExplained class w along (Turned turn ∷ earlier)
  about-put w along earlier put core puts good turn is wants same =
      let s = core_after class earlier in
      let turns : (other : Put) → put_in turn ≡ Some other → put_in (core_turn s) ≡ Some other = λ other out. ap put_in (sym is) ∙ out in
      record {
        puts = puts ∙ ap puts_of (sym same);
        core = λ out. (let no : Some put ≡ None = sym wants ∙ out in absurd (cc no));
        about = λ other out. record { state = s; up = core; wants = turns other out; then = refl };
        safe = good.stored.safe;
        last = λ other out outcome. subst IsSafe (turned-store w.core s other outcome w core (turns other out)) (good-turn outcome w good).stored.safe;
      }

  explains : (w : WorldValue) (along run : List TranscriptEntry) → IsRun class run → w.core ≡ Some (core_after class (answered run))
      → puts_of along ≡ puts_of (answered run) → IsGood w
      → IsExplained class w along run
  explains w along [] is core puts good = quiescent w along [] core puts refl good.stored.safe refl
  explains w along (Took event ∷ earlier) is core puts good =
      quiescent w along (Took event ∷ earlier) core puts refl good.stored.safe (none-out earlier is.1 is.0)
  explains w along (Expired group ∷ earlier) is core puts good =
      quiescent w along (Expired group ∷ earlier) core puts refl good.stored.safe (none-out earlier is.1 is.0)
  explains w along (Turned Idle ∷ earlier) is core puts good = quiescent w along (Turned Idle ∷ earlier) core puts refl good.stored.safe refl
  explains w along (Turned (NoPut key pending) ∷ earlier) is core puts good =
      quiescent w along (Turned (NoPut key pending) ∷ earlier) core puts refl good.stored.safe refl
  explains w along (Turned (Wants put pending) ∷ earlier) is core puts good = about-put w along earlier put core puts good (Wants put pending) is.0.1 refl refl
  explains w along (Heard reply ∷ earlier) is core puts good = quiescent w along (Heard reply ∷ earlier) core puts refl good.stored.safe refl

-- ---- what was shown had terms, and has them without what is ignored
terms-event : (event : Event) (more : List TranscriptEntry) → AllShowTerms (Took event ∷ more) → AllShowTerms (normal_event event ++ more)
terms-event (Changed version (objects.Service service)) more all = all
terms-event (Changed version (objects.Pool pool)) more all = all
terms-event (Changed version (objects.L2 adv)) more all = all
terms-event (Changed version (objects.Bgp adv)) more all = all
terms-event (Changed version (objects.Peer peer)) more all = all
terms-event (Changed version (objects.Community community)) more all = all
terms-event (Changed version (objects.Namespace namespace)) more all = all
terms-event (Changed version (objects.Node node)) more all = all
terms-event (Changed version (objects.Slice slice)) more all = all.1
terms-event (Deleted kinds.Service key) more all = all
terms-event (Deleted kinds.Pool key) more all = all
terms-event (Deleted kinds.L2 key) more all = all
terms-event (Deleted kinds.Bgp key) more all = all
terms-event (Deleted kinds.Peer key) more all = all
terms-event (Deleted kinds.Community key) more all = all
terms-event (Deleted kinds.Namespace key) more all = all
terms-event (Deleted kinds.Node key) more all = all
terms-event (Deleted kinds.Slice key) more all = all.1
terms-event (ListEnd groups.Config) more all = all
terms-event (ListEnd groups.Service) more all = all
terms-event (ListEnd groups.Endpoint) more all = all.1
terms-event WatchesExpired more all = (tt, (tt, all.1))
terms-event (Members names) more all = all.1
terms-event (Frame interface bytes) more all = all.1
terms-event Ignored more all = all.1

event-terms : (event : Event) (more : List TranscriptEntry) → AllShowTerms (normal_event event ++ more) → AllShowTerms (Took event ∷ more)
event-terms (Changed version (objects.Service service)) more all = all
event-terms (Changed version (objects.Pool pool)) more all = all
event-terms (Changed version (objects.L2 adv)) more all = all
event-terms (Changed version (objects.Bgp adv)) more all = all
event-terms (Changed version (objects.Peer peer)) more all = all
event-terms (Changed version (objects.Community community)) more all = all
event-terms (Changed version (objects.Namespace namespace)) more all = all
event-terms (Changed version (objects.Node node)) more all = all
event-terms (Changed version (objects.Slice slice)) more all = (tt, all)
event-terms (Deleted kinds.Service key) more all = all
event-terms (Deleted kinds.Pool key) more all = all
event-terms (Deleted kinds.L2 key) more all = all
event-terms (Deleted kinds.Bgp key) more all = all
event-terms (Deleted kinds.Peer key) more all = all
event-terms (Deleted kinds.Community key) more all = all
event-terms (Deleted kinds.Namespace key) more all = all
event-terms (Deleted kinds.Node key) more all = all
event-terms (Deleted kinds.Slice key) more all = (tt, all)
event-terms (ListEnd groups.Config) more all = all
event-terms (ListEnd groups.Service) more all = all
event-terms (ListEnd groups.Endpoint) more all = (tt, all)
event-terms WatchesExpired more all = (tt, all.1.1)
event-terms (Members names) more all = (tt, all)
event-terms (Frame interface bytes) more all = (tt, all)
event-terms Ignored more all = (tt, all)

pub terms-normal : (run : List TranscriptEntry) → AllShowTerms run → AllShowTerms (normal run)
terms-normal [] all = tt
terms-normal (Took event ∷ earlier) all = terms-event event (normal earlier) (all.0, terms-normal earlier all.1)
terms-normal (Expired group ∷ earlier) all = (tt, terms-normal earlier all.1)
terms-normal (Turned Idle ∷ earlier) all = terms-normal earlier all.1
terms-normal (Turned (NoPut key pending) ∷ earlier) all = (tt, terms-normal earlier all.1)
terms-normal (Turned (Wants put pending) ∷ earlier) all = (tt, terms-normal earlier all.1)
terms-normal (Heard reply ∷ earlier) all = (tt, terms-normal earlier all.1)

normal-terms : (run : List TranscriptEntry) → AllShowTerms (normal run) → AllShowTerms run
normal-terms [] all = tt
normal-terms (Took event ∷ earlier) all =
    let here = event-terms event (normal earlier) all in
    (here.0, normal-terms earlier here.1)
normal-terms (Expired group ∷ earlier) all = (tt, normal-terms earlier all.1)
normal-terms (Turned Idle ∷ earlier) all = (tt, normal-terms earlier all)
normal-terms (Turned (NoPut key pending) ∷ earlier) all = (tt, normal-terms earlier all.1)
normal-terms (Turned (Wants put pending) ∷ earlier) all = (tt, normal-terms earlier all.1)
normal-terms (Heard reply ∷ earlier) all = (tt, normal-terms earlier all.1)

pub terms-answered : (run : List TranscriptEntry) → AllShowTerms run → AllShowTerms (answered run)
terms-answered [] all = all
terms-answered (Took event ∷ earlier) all = all
terms-answered (Expired group ∷ earlier) all = all
terms-answered (Turned Idle ∷ earlier) all = all
terms-answered (Turned (NoPut key pending) ∷ earlier) all = all
terms-answered (Turned (Wants put pending) ∷ earlier) all = all.1
terms-answered (Heard reply ∷ earlier) all = all

-- what is known of a world that explains a run: what it was shown has terms, and it goes through the same run
pub record GoesAlong (class : Option (List ℕ)) (w : WorldValue) (along run : List TranscriptEntry) : Type 0 where
  pub shown : AllShowTerms along
  pub core : w.core ≡ Some (core_after class (answered run))
  pub puts : puts_of along ≡ puts_of (answered run)

along-run : (class : Option (List ℕ)) (run : List TranscriptEntry) → IsRun class run → AllShowTerms run → (store : StoreValue) (list : List Event)
    (moves : List Move) → Explains class store list moves run
    → GoesAlong class (after_moves moves (begun class store list)) (run_along moves (begun class store list) []) run
along-run class run is typed store list moves ex =
    let w0 = begun class store list in
    let along = run_along moves w0 [] in
    let led : GoesThrough class (after_moves moves w0) along =
    moves-through class moves w0 [] ex.running (record { class_is = refl; is = tt; core = refl; none = refl }) in
    let mine = normal-leads class along led.is in
    let theirs = normal-leads class (answered run) (answered-run class run is) in
    let acts : map act_of (normal along) ≡ map act_of (normal (answered run)) = acts-normal along ∙ ex.same ∙ sym (acts-normal (answered run)) in
    let same : normal along ≡ normal (answered run) = same-runs class (normal along) (normal (answered run)) mine.0 theirs.0 acts in
    let cores : core_after class along ≡ core_after class (answered run) = sym mine.1 ∙ ap (core_after class) same ∙ theirs.1 in
    record {
      shown = normal-terms along (subst AllShowTerms (sym same) (terms-normal (answered run) (terms-answered run typed)));
      core = led.core ∙ ap Some cores;
      puts = sym (puts-normal along) ∙ ap puts_of same ∙ puts-normal (answered run);
    }

-- services that its world was shown have terms
pub world-shown : (class : Option (List ℕ)) (run : List TranscriptEntry) → IsRun class run → AllShowTerms run → (store : StoreValue) (list : List Event)
    (moves : List Move) → Explains class store list moves run → AllShowTerms (run_along moves (begun class store list) [])
world-shown class run is typed store list moves ex = (along-run class run is typed store list moves ex).shown

pub runs_are_safe_in_worlds : RunsAreSafeInWorlds
runs_are_safe_in_worlds class run is typed store list moves ex =
    let w0 = begun class store list in
    let along = run_along moves w0 [] in
    let known = along-run class run is typed store list moves ex in
    let begins : IsGood w0 = starts_are_good class store list ex.good ex.listed in
    let good : IsGood (after_moves moves w0) = good-moves moves w0 [] [] ex.may known.shown begins (none-expected w0.store w0.core) in (
      explains class (after_moves moves w0) along run is known.core known.puts good,
      safe-along moves w0 [] [] ex.may known.shown begins (none-expected w0.store w0.core),
    )
