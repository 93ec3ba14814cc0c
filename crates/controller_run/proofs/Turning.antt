-- Turns one after the other, and what is written of them.
use Rattle.std.proofs.Common.{◌≡◌, ℕ, ◌<◌, ◌≤◌, Bool, true, false, List, [], ◌∷◌, ◌++◌, length, Option}
use Rattle.std.proofs.Common.{None, refl, sym, ap, ◌∙◌, arith, append_assoc, is_some}
use Rattle.std.proofs.lemmas.List.{append-nil}
use Rattle.kube_model.specs.declared.key.Key.{Key}
use Rattle.core_rules.specs.Core.{State}
use Rattle.mlb_base.proofs.Bools.{none_from}
use Rattle.core_drive.specs.Drive.{Driven, turned, turns, turns_from}
use Rattle.controller_run.specs.Output.{output_of, turn_text}
use Rattle.core_rules.specs.Turn.{core_turn, after_turn, put_in}
use Rattle.core_rules.specs.declared.turn.Turn.{Turn}
use Rattle.core_rules.specs.declared.turn.Turn.TheVariants.{Idle, NoPut, Wants}
use Rattle.mlb_edge.specs.Written.{Grows, Grows-append}
use Rattle.line_run.specs.declared.halt.Halt.{Halt}
use Rattle.line_run.specs.declared.halt.Halt.TheVariants.{NoMemory}
use Rattle.line_run.specs.Text.{Halts}
use Rattle.line_run.proofs.Texts.{upto_first, upto_all, Halts-first, Halts-then}

-- What holds while turns are made: the text so far and that of the turns to come are the text of all.
pub record Turning (start now : State) (before mid : Option (List ℕ)) (faults faults' : ℕ) : Type 0 where
  pub idle : now.out ≡ None
  pub same : (turns_from now).core ≡ (turns_from start).core
  pub text : List ℕ
  pub rest : text ++ output_of (turns_from now).entries ≡ output_of (turns_from start).entries
  pub wrote : Grows before mid text
  pub later : faults ≤ faults'

stepped : (queue : List Key) (s : State) → queue ≡ s.queue → 0 < length queue
    → turns s.queue s ≡ turned (core_turn s) (after_turn s) (turns (after_turn s).queue (after_turn s))
stepped [] s e some = absurd (omega arith)
stepped (key ∷ keys) s e some = rw (← e) refl

-- a turn is made where one is queued
turns-step : (s : State) → 0 < length s.queue → turns_from s ≡ turned (core_turn s) (after_turn s) (turns_from (after_turn s))
turns-step s some = stepped s.queue s refl some

pub record IsPassed (turn : Turn) (now rest : Driven) : Type 0 where
  pub core : now.core ≡ rest.core
  pub text : output_of now.entries ≡ turn_text turn ++ output_of rest.entries

passed : (turn : Turn) (s : State) (rest : Driven) → is_some (put_in turn) ≡ false → IsPassed turn (turned turn s rest) rest
passed Idle s rest e = record { core = refl; text = refl }
passed (NoPut key pending) s rest e = record { core = refl; text = refl }
passed (Wants put pending) s rest e = absurd (cc)

-- a turn without a put
pub turns-passed : (s : State) → 0 < length s.queue → is_some (put_in (core_turn s)) ≡ false → IsPassed (core_turn s) (turns_from s) (turns_from (after_turn s))
turns-passed s some e = rw (turns-step s some) (passed (core_turn s) (after_turn s) (turns_from (after_turn s)) e)

pub record IsStopped (turn : Turn) (s : State) (now : Driven) : Type 0 where
  pub core : now.core ≡ s
  pub text : output_of now.entries ≡ turn_text turn

stopped : (turn : Turn) (s : State) (rest : Driven) → is_some (put_in turn) ≡ true → IsStopped turn s (turned turn s rest)
stopped Idle s rest e = absurd (cc)
stopped (NoPut key pending) s rest e = absurd (cc)
stopped (Wants put pending) s rest e = record { core = refl; text = append-nil (turn_text (Wants put pending)) }

-- a turn that wants a put
pub turns-stopped : (s : State) → 0 < length s.queue → is_some (put_in (core_turn s)) ≡ true → IsStopped (core_turn s) (after_turn s) (turns_from s)
turns-stopped s some e = rw (turns-step s some) (stopped (core_turn s) (after_turn s) (turns_from (after_turn s)) e)

begins_with : (b : Bool) (s : State) → b ≡ is_some (put_in (core_turn s)) → 0 < length s.queue
    → (more : List ℕ) × (output_of (turns_from s).entries ≡ turn_text (core_turn s) ++ more)
begins_with true s e some = ([], (turns-stopped s some (sym e)).text ∙ sym (append-nil (turn_text (core_turn s))))
begins_with false s e some = (output_of (turns_from (after_turn s)).entries, (turns-passed s some (sym e)).text)

-- the text of the turns begins with that of the next one
pub turn_first : (s : State) → 0 < length s.queue → (more : List ℕ) × (output_of (turns_from s).entries ≡ turn_text (core_turn s) ++ more)
turn_first s some = begins_with (is_some (put_in (core_turn s))) s refl some

ended : (queue : List Key) (s : State) → queue ≡ s.queue → length queue ≤ 0 → turns s.queue s ≡ record { entries = []; core = s }
ended [] s e none = rw (← e) refl
ended (key ∷ keys) s e none = absurd (omega arith)

-- nothing is queued
pub turns-none : (s : State) → length s.queue ≤ 0 → turns_from s ≡ record { entries = []; core = s }
turns-none s none = ended s.queue s refl none

module _ (start now : State) (before mid after : Option (List ℕ)) (k m n : ℕ) (so_far : Turning start now before mid k m) where
  -- what stands written where memory is wanting
  pub wanting : Halts NoMemory (output_of (turns_from start).entries) before mid k m
  wanting = rw (← so_far.rest) (upto_first before mid so_far.text (output_of (turns_from now).entries) (upto_all before mid so_far.text so_far.wrote))

  -- where a turn isn't written whole
  pub broken : (halt : Halt) (turn : Turn) → 0 < length now.queue → turn ≡ core_turn now → Halts halt (turn_text turn) mid after m n
      → Halts halt (output_of (turns_from start).entries) before after k n
  broken halt turn some is h =
      let first = turn_first now some in
      let here : Halts halt (turn_text (core_turn now)) mid after m n = rw is at h in
      rw (← so_far.rest, first.1)
      (Halts-then halt so_far.text (turn_text (core_turn now) ++ first.0) before mid after k m n so_far.wrote so_far.later
      (Halts-first halt (turn_text (core_turn now)) first.0 mid after m n here))

  -- where a put is wanted
  pub ends_at_put : (turn : Turn) → 0 < length now.queue → turn ≡ core_turn now → is_some (put_in turn) ≡ true → Grows mid after (turn_text turn)
      → Grows before after (output_of (turns_from start).entries)
  ends_at_put turn some is wanted wrote =
      let want : is_some (put_in (core_turn now)) ≡ true = rw is at wanted in
      let last : Grows mid after (turn_text (core_turn now)) = rw is at wrote in
      rw (← so_far.rest, (turns-stopped now some want).text) (Grows-append before mid after so_far.text (turn_text (core_turn now)) so_far.wrote last)

  -- where none is
  pub goes_on : (turn : Turn) (next : State) → 0 < length now.queue → turn ≡ core_turn now → next ≡ after_turn now → is_some (put_in turn) ≡ false
      → Grows mid after (turn_text turn) → m ≤ n
      → Turning start next before after k n
  goes_on turn next some is next_is unwanted wrote later =
      let want : is_some (put_in (core_turn now)) ≡ false = rw is at unwanted in
      let last : Grows mid after (turn_text (core_turn now)) = rw is at wrote in
      let step = turns-passed now some want in
      rw next_is (record {
        idle = none_from (put_in (core_turn now)) want;
        same = sym step.core ∙ so_far.same;
        text = so_far.text ++ turn_text (core_turn now);
        rest = append_assoc so_far.text (turn_text (core_turn now)) (output_of (turns_from (after_turn now)).entries)
            ∙ ap (λ (t : List ℕ). so_far.text ++ t) (sym step.text) ∙ so_far.rest;
        wrote = Grows-append before mid after so_far.text (turn_text (core_turn now)) so_far.wrote last;
        later = omega (arith, so_far.later);
      })
