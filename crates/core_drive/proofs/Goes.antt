-- What is driven goes on from a run of the core, so it is sound, and where no put is in flight nothing is left waiting.
use Rattle.std.proofs.Common.{◌≡◌, ◌≢◌, ℕ, true, List, [], ◌∷◌, ◌++◌, Option, Some, None, is_some, refl, sym, ap, ◌∙◌, subst}
use Rattle.kube_model.specs.declared.event.Event.{Event}
use Rattle.kube_model.specs.declared.event.ListGroup.{ListGroup}
use Rattle.kube_model.specs.declared.key.Key.{Key}
use Rattle.kube_model.specs.declared.reply.PutReply.{PutReply}
use Rattle.core_rules.specs.declared.turn.Turn.{Turn}
use Rattle.core_rules.specs.declared.turn.Turn.TheVariants.{Idle, NoPut, Wants}
use Rattle.core_rules.specs.Core.{State}
use Rattle.core_rules.specs.Take.{core_take, core_expired}
use Rattle.core_rules.specs.Turn.{core_turn, after_turn, put_in, rest_of, turn_of}
use Rattle.core_rules.specs.Replied.{core_reply}
use Rattle.core_rules.specs.Run.{TranscriptEntry as CoreEntry, Took as TookByCore, Expired as ExpiredByCore}
use Rattle.core_rules.specs.Run.{Turned as TurnedByCore, Heard as HeardByCore, IsRun, core_after}
use Rattle.core_rules.proofs.Runs.{core_holds_what_was_observed, took-out, heard-out}
use Rattle.core_laws.specs.Shared.{AllShowTerms}
use Rattle.core_laws.specs.Shown.{HoldsOfShown}
use Rattle.core_laws.proofs.Puts.{idle-queue}
use Rattle.core_laws.proofs.QuietShown.{runs_are_quiet_as_shown}
use Rattle.core_laws.proofs.Sound.{runs_are_sound}
use Rattle.core_laws.proofs.Telling.{notes_are_right}
use Rattle.core_drive.specs.Drive.{Driven, TranscriptEntry, turned, turns, taking, expiring, hearing, core_entry, behind}
use Rattle.core_drive.specs.Laws.{BeginsFresh, EventsGoOn, ExpiriesGoOn, RepliesGoOn, DrivesAreSound, DrivesAreQuiet}
use Rattle.core_drive.specs.Sound.{AreNotesRight, LeadsTo, ShowsTerms, ShowsFamilies, HasFamilies}

-- ---- transcripts one after the other
pub behind-append : (xs ys : List TranscriptEntry) (earlier : List CoreEntry) → behind (xs ++ ys) earlier ≡ behind ys (behind xs earlier)
behind-append [] ys earlier = refl
behind-append (x ∷ xs) ys earlier = behind-append xs ys (core_entry x ∷ earlier)

notes-append : (xs ys : List TranscriptEntry) (earlier : List CoreEntry) → AreNotesRight xs earlier → AreNotesRight ys (behind xs earlier)
    → AreNotesRight (xs ++ ys) earlier
notes-append [] ys earlier first then = then
notes-append (x ∷ xs) ys earlier first then = (first.0, notes-append xs ys (core_entry x ∷ earlier) first.1 then)

-- ---- what goes on from a run of the core is a run of the core
-- What is driven goes on from the run: it leads to its core, with right notes, and ends with a put in flight or nothing queued.
record GoesOn (class : Option (List ℕ)) (run : List CoreEntry) (d : Driven) : Type 0 where
  is : IsRun class (behind d.entries run)
  core : core_after class (behind d.entries run) ≡ d.core
  typed : AllShowTerms run → AllShowTerms (behind d.entries run)
  families : HoldsOfShown HasFamilies run → HoldsOfShown HasFamilies (behind d.entries run)
  notes : AreNotesRight d.entries run
  idle : d.core.out ≡ None → d.core.queue ≡ []

-- something is queued, so there is a turn to make
not-idle : (queue : List Key) (s : State) (key : Key) (keys : List Key) → key ∷ keys ≡ queue → turn_of s queue ≢ Idle
not-idle queue s key keys e idle = let none : queue ≡ [] = idle-queue s queue idle in absurd (cc)

module _ (class : Option (List ℕ)) where
  turn-entered : (run : List CoreEntry) (turn : Turn) → IsRun class run → (core_after class run).out ≡ None → turn ≡ core_turn (core_after class run)
      → IsRun class (TurnedByCore turn ∷ run)
  turn-entered run turn is none e = ((none, e), is)

  turns-go : (queue : List Key) (run : List CoreEntry) → IsRun class run → (core_after class run).out ≡ None → queue ≡ (core_after class run).queue
      → GoesOn class run (turns queue (core_after class run))
  turns-go [] run is none e = record { is = is; core = refl; typed = λ t. t; families = λ f. f; notes = tt; idle = λ _. sym e }
  turns-go (key ∷ keys) run is none e =
      by-turn (core_turn (core_after class run)) refl
      (λ out. turns-go keys (TurnedByCore (core_turn (core_after class run)) ∷ run) (turn-entered run (core_turn (core_after class run)) is none refl) out
      (ap rest_of e))
    where
      by-turn : (turn : Turn) → turn ≡ core_turn (core_after class run)
          → ((after_turn (core_after class run)).out ≡ None
          → GoesOn class (TurnedByCore (core_turn (core_after class run)) ∷ run) (turns keys (after_turn (core_after class run))))
          → GoesOn class run (turned turn (after_turn (core_after class run)) (turns keys (after_turn (core_after class run))))
      by-turn Idle t more = absurd (not-idle (core_after class run).queue (core_after class run) key keys e (sym t))
      by-turn (NoPut k pending) t more =
          let rest = more (ap put_in (sym t)) in
          let same : TurnedByCore (core_turn (core_after class run)) ∷ run ≡ TurnedByCore (NoPut k pending) ∷ run =
          ap (λ (x : Turn). TurnedByCore x ∷ run) (sym t) in
          let moved : GoesOn class (TurnedByCore (NoPut k pending) ∷ run) (turns keys (after_turn (core_after class run))) =
          subst (λ (r : List CoreEntry). GoesOn class r (turns keys (after_turn (core_after class run)))) same rest in
          record {
            is = moved.is;
            core = moved.core;
            typed = λ all. moved.typed (tt, all);
            families = λ all. moved.families (tt, all);
            notes = (tt, moved.notes);
            idle = moved.idle;
          }
      by-turn (Wants put pending) t more =
          record {
            is = turn-entered run (Wants put pending) is none t;
            core = refl;
            typed = λ all. (tt, all);
            families = λ all. (tt, all);
            notes = (tt, tt);
            idle = λ out. let some : Some put ≡ None = ap put_in t ∙ out in absurd (cc);
          }

  taking-goes : (event : Event) (run : List CoreEntry) → IsRun class run → (core_after class run).out ≡ None → ShowsTerms event → ShowsFamilies event
      → GoesOn class run (taking (core_after class run) event)
  taking-goes event run is none typed families =
      let entered : IsRun class (TookByCore event ∷ run) = (none, is) in
      let rest = turns-go (core_take (core_after class run) event).queue (TookByCore event ∷ run) entered (took-out (core_after class run) event ∙ none) refl in
      record {
        is = rest.is;
        core = rest.core;
        typed = λ all. rest.typed (typed, all);
        families = λ all. rest.families (families, all);
        notes = (notes_are_right class event run is, rest.notes);
        idle = rest.idle;
      }

  expiring-goes : (group : ListGroup) (run : List CoreEntry) → IsRun class run → (core_after class run).out ≡ None
      → GoesOn class run (expiring (core_after class run) group)
  expiring-goes group run is none =
      let entered : IsRun class (ExpiredByCore group ∷ run) = (none, is) in
      let rest = turns-go (core_expired (core_after class run) group).queue (ExpiredByCore group ∷ run) entered none refl in
      record {
        is = rest.is;
        core = rest.core;
        typed = λ all. rest.typed (tt, all);
        families = λ all. rest.families (tt, all);
        notes = (tt, rest.notes);
        idle = rest.idle;
      }

  hearing-goes : (reply : PutReply) (run : List CoreEntry) → IsRun class run → is_some (core_after class run).out ≡ true
      → GoesOn class run (hearing (core_after class run) reply)
  hearing-goes reply run is some =
      let entered : IsRun class (HeardByCore reply ∷ run) = (some, is) in
      let rest = turns-go (core_reply (core_after class run) reply).queue (HeardByCore reply ∷ run) entered
      (heard-out (core_after class run).out reply (core_after class run) some) refl in
      record {
        is = rest.is;
        core = rest.core;
        typed = λ all. rest.typed (tt, all);
        families = λ all. rest.families (tt, all);
        notes = (tt, rest.notes);
        idle = rest.idle;
      }

-- ---- from what was told
goes-by : (class : Option (List ℕ)) (d : Driven) (s : State) (told : List TranscriptEntry) → LeadsTo class told s → GoesOn class (behind told []) d
    → LeadsTo class (told ++ d.entries) d.core
goes-by class d s told leads g =
    let join = sym (behind-append told d.entries []) in
    record {
      is = subst (IsRun class) join g.is;
      core = ap (core_after class) (sym join) ∙ g.core;
      typed = subst AllShowTerms join (g.typed leads.typed);
      families = subst (HoldsOfShown HasFamilies) join (g.families leads.families);
      notes = notes-append told d.entries [] leads.notes g.notes;
      idle = g.idle;
    }

pub begins_fresh : BeginsFresh
begins_fresh class = record { is = tt; core = refl; typed = tt; families = tt; notes = tt; idle = λ _. refl }

pub events_go_on : EventsGoOn
events_go_on class told s event leads none typed families =
    let goes = taking-goes class event (behind told []) leads.is (ap (λ (x : State). x.out) leads.core ∙ none) typed families in
    goes-by class (taking s event) s told leads (subst (λ (x : State). GoesOn class (behind told []) (taking x event)) leads.core goes)

pub expiries_go_on : ExpiriesGoOn
expiries_go_on class told s group leads none =
    let goes = expiring-goes class group (behind told []) leads.is (ap (λ (x : State). x.out) leads.core ∙ none) in
    goes-by class (expiring s group) s told leads (subst (λ (x : State). GoesOn class (behind told []) (expiring x group)) leads.core goes)

pub replies_go_on : RepliesGoOn
replies_go_on class told s reply leads some =
    let goes = hearing-goes class reply (behind told []) leads.is (ap (λ (x : State). is_some x.out) leads.core ∙ some) in
    goes-by class (hearing s reply) s told leads (subst (λ (x : State). GoesOn class (behind told []) (hearing x reply)) leads.core goes)

pub drives_are_sound : DrivesAreSound
drives_are_sound class told s leads = record { run = runs_are_sound class (behind told []) leads.is leads.typed; notes = leads.notes }

pub drives_are_quiet : DrivesAreQuiet
drives_are_quiet class told s leads none =
    runs_are_quiet_as_shown class (behind told []) leads.is (ap (λ (x : State). x.queue) leads.core ∙ leads.idle none)
    (sym (core_holds_what_was_observed class (behind told []) leads.is).1 ∙ ap (λ (x : State). x.out) leads.core ∙ none)
