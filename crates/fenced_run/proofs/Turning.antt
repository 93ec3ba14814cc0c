-- Turns one after the other, and what is written of them.
use Rattle.std.proofs.Common.{◌≡◌, ℕ, ◌<◌, ◌≤◌, Bool, true, false, List, [], ◌∷◌, ◌++◌, length, Option}
use Rattle.std.proofs.Common.{None, refl, sym, ap, ◌∙◌, arith, append_assoc, subst}
use Rattle.std.proofs.lemmas.List.{append-nil}
use Rattle.kube_model.specs.declared.key.Key.{Key}
use Rattle.core_rules.specs.Turn.{rest_of}
use Rattle.line_run.specs.declared.halt.Halt.{Halt}
use Rattle.line_run.specs.Text.{Halts}
use Rattle.line_run.proofs.Runs.{text_of-append}
use Rattle.line_run.proofs.Texts.{Halts-first, Halts-then}
use Rattle.mlb_edge.specs.Written.{Grows, Grows-append, Grows-none}
use Rattle.fenced_run.specs.Drive.{Driven, FencedState, Step, TranscriptEntry, driven, driven_by, turning, turns, turns_from}
use Rattle.fenced_run.specs.Stepping.{Steps, driven_text, entries_text, step_text}
use Rattle.fenced_run.specs.Stream.{fenced_rules}
use Rattle.fenced_run.proofs.AtOnce.{turning-idle, turning-queue}

pub append-text : (xs ys : List TranscriptEntry) → entries_text (xs ++ ys) ≡ entries_text xs ++ entries_text ys
append-text xs ys = text_of-append fenced_rules xs ys

-- ---- a step, and what follows it

-- what follows a step is driven so
pub record IsFollowed (step : Step) (now then : Driven) : Type 0 where
  pub state : now.state ≡ then.state
  pub text : driven_text now ≡ step_text step ++ driven_text then

pub follows-by : (b : Bool) (step : Step) (rest : FencedState → Driven) → b ≡ true → IsFollowed step (driven_by b step rest) (rest step.state)
follows-by true step rest e = record { state = refl; text = append-text step.entries (rest step.state).entries }
follows-by false step rest e = absurd (cc)

pub record IsEnded (step : Step) (now : Driven) : Type 0 where
  pub state : now.state ≡ step.state
  pub text : driven_text now ≡ step_text step

pub ends-by : (b : Bool) (step : Step) (rest : FencedState → Driven) → b ≡ false → IsEnded step (driven_by b step rest)
ends-by false step rest e = record { state = refl; text = refl }
ends-by true step rest e = absurd (cc)

-- the text begins with that of the step
pub begins-by : (b : Bool) (step : Step) (rest : FencedState → Driven) → (more : List ℕ) × (driven_text (driven_by b step rest) ≡ step_text step ++ more)
begins-by true step rest = (driven_text (rest step.state), append-text step.entries (rest step.state).entries)
begins-by false step rest = ([], sym (append-nil (step_text step)))

-- ---- turns

stepped : (queue : List Key) (s : FencedState) → 0 < length queue → turns queue s ≡ driven (turning s) (λ next. turns (rest_of queue) next)
stepped [] s some = absurd (omega arith)
stepped (key ∷ keys) s some = refl

-- a turn is made where one is queued
turns-step : (s : FencedState) → 0 < length s.core.queue → turns_from s ≡ driven (turning s) (λ next. turns (rest_of s.core.queue) next)
turns-step s some = stepped s.core.queue s some

rest-is : (s : FencedState) → turns (rest_of s.core.queue) (turning s).state ≡ turns_from (turning s).state
rest-is s = ap (λ (queue : List Key). turns queue (turning s).state) (sym (turning-queue s))

pub turns-follow : (s : FencedState) → 0 < length s.core.queue → (turning s).goes_on ≡ true → IsFollowed (turning s) (turns_from s) (turns_from (turning s).state)
turns-follow s some goes =
    let now = follows-by (turning s).goes_on (turning s) (λ next. turns (rest_of s.core.queue) next) goes in
    let there = rest-is s in
    record {
      state = ap (λ (d : Driven). d.state) (turns-step s some) ∙ now.state ∙ ap (λ (d : Driven). d.state) there;
      text = ap driven_text (turns-step s some) ∙ now.text ∙ ap (λ (d : Driven). step_text (turning s) ++ driven_text d) there;
    }

pub turns-end : (s : FencedState) → 0 < length s.core.queue → (turning s).goes_on ≡ false → IsEnded (turning s) (turns_from s)
turns-end s some stops =
    let now = ends-by (turning s).goes_on (turning s) (λ next. turns (rest_of s.core.queue) next) stops in
    record {
      state = ap (λ (d : Driven). d.state) (turns-step s some) ∙ now.state;
      text = ap driven_text (turns-step s some) ∙ now.text;
    }

turn_first : (s : FencedState) → 0 < length s.core.queue → (more : List ℕ) × (driven_text (turns_from s) ≡ step_text (turning s) ++ more)
turn_first s some =
    let it = begins-by (turning s).goes_on (turning s) (λ next. turns (rest_of s.core.queue) next) in
    (it.0, ap driven_text (turns-step s some) ∙ it.1)

none-queued : (queue : List Key) (s : FencedState) → length queue ≤ 0 → turns queue s ≡ record { entries = []; state = s }
none-queued [] s none = refl
none-queued (key ∷ keys) s none = absurd (omega arith)

-- nothing is queued
pub turns-none : (s : FencedState) → length s.core.queue ≤ 0 → turns_from s ≡ record { entries = []; state = s }
turns-none s none = none-queued s.core.queue s none

-- ---- the loop

rest-shorter : (queue : List Key) → 0 < length queue → length (rest_of queue) < length queue
rest-shorter [] some = absurd (omega arith)
rest-shorter (key ∷ keys) some = omega arith

-- What holds while turns are made: the text so far and that of the turns to come are the text of all.
pub record Turning (start now : FencedState) (before mid : Option (List ℕ)) (faults faults' : ℕ) : Type 0 where
  pub idle : now.core.out ≡ None
  pub same : (turns_from now).state ≡ (turns_from start).state
  pub text : List ℕ
  pub rest : text ++ driven_text (turns_from now) ≡ driven_text (turns_from start)
  pub wrote : Grows before mid text
  pub later : faults ≤ faults'

pub begins : (start : FencedState) (before : Option (List ℕ)) (k : ℕ) → start.core.out ≡ None → Turning start start before before k k
begins start before k idle = record { idle = idle; same = refl; text = []; rest = refl; wrote = Grows-none before; later = omega arith }

module _ (start now : FencedState) (before mid after : Option (List ℕ)) (k m n : ℕ) (so_far : Turning start now before mid k m) where
  -- where a turn isn't written whole
  pub broken : (halt : Halt) → 0 < length now.core.queue → Halts halt (step_text (turning now)) mid after m n
      → Halts halt (driven_text (turns_from start)) before after k n
  broken halt some h =
      let first = turn_first now some in
      rw (← so_far.rest, first.1)
      (Halts-then halt so_far.text (step_text (turning now) ++ first.0) before mid after k m n so_far.wrote so_far.later
      (Halts-first halt (step_text (turning now)) first.0 mid after m n h))

  -- where no turn follows
  pub ends_here : (goes_on : Bool) (next : FencedState) → 0 < length now.core.queue → goes_on ≡ false → Steps goes_on next (turning now)
      → next ≡ (turns_from start).state
  ends_here goes_on next some stops steps =
      let end = turns-end now some (sym steps.more ∙ stops) in
      steps.state ∙ sym end.state ∙ so_far.same

  pub ends_text : (goes_on : Bool) (next : FencedState) → 0 < length now.core.queue → goes_on ≡ false → Steps goes_on next (turning now)
      → Grows mid after (step_text (turning now)) → Grows before after (driven_text (turns_from start))
  ends_text goes_on next some stops steps wrote =
      let end = turns-end now some (sym steps.more ∙ stops) in
      rw (← so_far.rest, end.text) (Grows-append before mid after so_far.text (step_text (turning now)) so_far.wrote wrote)

  -- where one may
  pub goes_further : (goes_on : Bool) (next : FencedState) → 0 < length now.core.queue → goes_on ≡ true → Steps goes_on next (turning now)
      → Grows mid after (step_text (turning now)) → m ≤ n → Turning start next before after k n
  goes_further goes_on next some goes steps wrote later =
      let on : (turning now).goes_on ≡ true = sym steps.more ∙ goes in
      let step = turns-follow now some on in
      rw steps.state (record {
        idle = turning-idle now on;
        same = sym step.state ∙ so_far.same;
        text = so_far.text ++ step_text (turning now);
        rest = append_assoc so_far.text (step_text (turning now)) (driven_text (turns_from (turning now).state))
            ∙ ap (λ (t : List ℕ). so_far.text ++ t) (sym step.text) ∙ so_far.rest;
        wrote = Grows-append before mid after so_far.text (step_text (turning now)) so_far.wrote wrote;
        later = omega (arith, so_far.later);
      })

  -- a queue that a turn was taken of is shorter
  pub shorter : (goes_on : Bool) (next : FencedState) → 0 < length now.core.queue → Steps goes_on next (turning now)
      → length next.core.queue < length now.core.queue
  shorter goes_on next some steps = rw (steps.state, turning-queue now) (rest-shorter now.core.queue some)

-- where nothing is queued all was made
pub all_state : (start now : FencedState) (before mid : Option (List ℕ)) (k m : ℕ) → Turning start now before mid k m → length now.core.queue ≤ 0
    → now ≡ (turns_from start).state
all_state start now before mid k m so_far none = sym (ap (λ (d : Driven). d.state) (turns-none now none)) ∙ so_far.same

pub all_text : (start now : FencedState) (before mid : Option (List ℕ)) (k m : ℕ) → Turning start now before mid k m → length now.core.queue ≤ 0
    → Grows before mid (driven_text (turns_from start))
all_text start now before mid k m so_far none =
    let whole : so_far.text ≡ driven_text (turns_from start) =
    sym (append-nil so_far.text) ∙ ap (λ (d : Driven). so_far.text ++ driven_text d) (sym (turns-none now none)) ∙ so_far.rest in
    subst (λ (text : List ℕ). Grows before mid text) whole so_far.wrote
