-- What the lines of a stream lead to is right: of the core, of the fence, of both together, and among any number of others.
use Rattle.std.proofs.Common.{◌≡◌, ℕ, ◌+◌, Bool, true, false, cond, eqb, not, ◌&&◌, List, [], ◌∷◌, ◌++◌, Option, Some, None, Result, Ok, Err, is_some, refl, sym, ap, ◌∙◌, subst, append_assoc}
use Rattle.std.proofs.lemmas.Bool.{eqb-true}
use Rattle.std.proofs.lemmas.List.{append-nil}
use Rattle.kube_model.specs.declared.event.Event.{Event}
use Rattle.kube_model.specs.declared.event.EventFault.{EventFault}
use Rattle.kube_model.specs.declared.put.Put.{Put}
use Rattle.kube_model.specs.declared.status.Status.TheVariants.{Limit}
use Rattle.kube_model.specs.declared.status.What.TheVariants as whats
use Rattle.kube_events.specs.Event.{event_of_line}
use Rattle.core_drive.specs.Drive.{TranscriptEntry as CoreEntry, behind as run_behind}
use Rattle.core_drive.specs.Sound.{LeadsTo}
use Rattle.core_drive.proofs.Goes.{begins_fresh}
use Rattle.core_rules.specs.Take.{limits}
use Rattle.fence_rules.specs.Among.{IsSafeAt}
use Rattle.fence_laws.specs.Follows.{Directory}
use Rattle.fence_laws.specs.Runs.{Coming, Comes, Lists, Relists, Goes, Tells, first_fences, history, with_fence}
use Rattle.fence_laws.proofs.Runs.{fences_are_safe}
use Rattle.fence_lines.specs.Lines.{input_of_line}
use Rattle.line_run.specs.Machine.{Transition, Goes as GoesTo, Stops}
use Rattle.line_run.specs.Run.{AreTaken}
use Rattle.mlb_edge.specs.declared.lines.Line.{Line}
use Rattle.object_cache.specs.Limits.{most_services}
use Rattle.put_fence.specs.declared.answer.Input.{Input}
use Rattle.put_fence.specs.declared.fence.Fence.{Fence}
use Rattle.put_fence.specs.declared.output.Taken.{Taken}
use Rattle.put_fence.specs.Fences.{started, taken}
use Rattle.shown_service_laws.proofs.EventTerms.{events_show_terms, events_show_families}
use Rattle.status_store.specs.Changes.{StoreValue}
use Rattle.controller_run.specs.Sound.{IsSafeThroughout}
use Rattle.controller_run.proofs.SoFar.{led_right}
use Rattle.fenced_run.specs.Drive.{Driven, FencedState, TranscriptEntry, OfCore, Told, begun, taking, told}
use Rattle.fenced_run.specs.Parts.{AreFolded, core_part, fence_after, inputs_in, IsToldOf}
use Rattle.fenced_run.specs.Right.{AreRightFenced, IsRightFenced, IsSafeAs, IsSafeBehindFence, IsSeenAs, IsUp, WritesRightly, WritesUpTo, all_told_to, fences_then}
use Rattle.fenced_run.specs.Stream.{event_step, fenced_rules, first_text, goes_by, line_step, takes_events, is_free, told_step}
use Rattle.fenced_run.proofs.Keeping.{GoesWell, core-append, folded-first, joins, last_of, taking-leads, taking-well, told-leads, told-well}

-- what was told leads to this state
pub record Led (class : Option (List ℕ)) (name : List ℕ) (all : List TranscriptEntry) (s : FencedState) : Type 0 where
  pub core : LeadsTo class (core_part all) s.core
  pub well : GoesWell None (started name).fence all s.fence

module _ (class : Option (List ℕ)) (name : List ℕ) where
  abbrev Start : Fence
  Start = (started name).fence

  -- what is driven goes on from it
  on-driven : (d : Driven) (s : FencedState) (all : List TranscriptEntry) → Led class name all s → LeadsTo class (core_part all ++ core_part d.entries) d.state.core
      → GoesWell (last_of None all) s.fence d.entries d.state.fence → Led class name (all ++ d.entries) d.state
  on-driven d s all led leads well = record {
    core = subst (λ (es : List CoreEntry). LeadsTo class es d.state.core) (sym (core-append all d.entries)) leads;
    well = joins None (started name).fence s.fence d.state.fence all d.entries led.well well;
  }

  abbrev GoesOn : FencedState → Transition FencedState TranscriptEntry → Type 0
  GoesOn s step = (next : FencedState) (entries all : List TranscriptEntry) → step ≡ GoesTo next entries → Led class name all s → Led class name (all ++ entries) next

  by_driven : (d : Driven) (next : FencedState) (entries all : List TranscriptEntry) → goes_by d ≡ GoesTo next entries → Led class name (all ++ d.entries) d.state
      → Led class name (all ++ entries) next
  by_driven d next entries all e led =
      let state : d.state ≡ next = cc in
      let same : d.entries ≡ entries = cc in
      rw (← state, ← same) led

  told-goes : (read : Result Input EventFault) (s : FencedState) (line : Line) → input_of_line line.bytes ≡ read → GoesOn s (told_step s line read)
  told-goes (Err fault) s line reads next entries all e led = absurd (cc)
  told-goes (Ok input) s line reads next entries all e led =
      by_driven (told input s) next entries all e
      (on-driven (told input s) s all led (told-leads class input s (core_part all) led.core)
      (told-well (last_of None all) input s (subst (λ (wanted : Option Put). IsToldOf wanted input) (sym led.well.last) tt)))

  within-goes : (b : Bool) (s : FencedState) (bytes : List ℕ) (event : Event) → s.core.out ≡ None → event_of_line bytes ≡ Ok event
      → GoesOn s (cond b (Stops (Limit whats.Services (most_services + 1))) (goes_by (taking event s)))
  within-goes true s bytes event none reads next entries all e led = absurd (cc)
  within-goes false s bytes event none reads next entries all e led =
      by_driven (taking event s) next entries all e
      (on-driven (taking event s) s all led
      (taking-leads class event s (core_part all) none (events_show_terms bytes event reads) (events_show_families bytes event reads) led.core)
      (taking-well (last_of None all) event s led.well.last))

  event-goes : (read : Result Event EventFault) (s : FencedState) (line : Line) → s.core.out ≡ None → event_of_line line.bytes ≡ read
      → GoesOn s (event_step s line read)
  event-goes (Err fault) s line none reads = told-goes (input_of_line line.bytes) s line refl
  event-goes (Ok event) s line none reads = within-goes (limits s.core event) s line.bytes event none reads

  not-out : (free : Bool) (out : Option Put) → (free && not (is_some out)) ≡ true → out ≡ None
  not-out free None e = refl
  not-out true (Some put) e = absurd (cc)
  not-out false (Some put) e = absurd (cc)

  by-events : (b : Bool) (s : FencedState) (line : Line) → takes_events s ≡ b
      → GoesOn s (cond b (event_step s line (event_of_line line.bytes)) (told_step s line (input_of_line line.bytes)))
  by-events true s line may = event-goes (event_of_line line.bytes) s line (not-out (is_free s.fence.stage) s.core.out may) refl
  by-events false s line may = told-goes (input_of_line line.bytes) s line refl

  line-goes : (s : FencedState) (line : Line) → GoesOn s (line_step s line)
  line-goes s line = by-events (takes_events s) s line refl

  lines-lead : (lines : List Line) (s t : FencedState) (entries all : List TranscriptEntry) → AreTaken fenced_rules lines s t entries → Led class name all s
      → Led class name (all ++ entries) t
  lines-lead [] s t entries all (same, none) led = rw (same, none, append-nil all) led
  lines-lead (line ∷ lines) s t entries all (next, first, rest, steps, more, is) led =
      let one = line-goes s line next first all steps led in
      rw is (subst (λ (es : List TranscriptEntry). Led class name es t) (append_assoc all first rest) (lines-lead lines next t rest (all ++ first) more one))

  first-led : Led class name [] (begun class name)
  first-led = record { core = begins_fresh class; well = record { folded = tt; fence = refl; linked = tt; last = refl } }

-- ---- any number of controllers

-- a fence that is told these, one after the other
abbrev fold : Fence → List Input → Fence
fold f [] = f
fold f (input ∷ more) = fold (taken input f).fence more

folded-is : (f : Fence) (all : List TranscriptEntry) → AreFolded f all → fence_after f all ≡ fold f (inputs_in all)
folded-is f [] is = refl
folded-is f (OfCore entry ∷ all) is = folded-is f all is
folded-is f (Told input t ∷ all) is =
    folded-is t.fence all is.1 ∙ ap (λ (x : Taken). fold x.fence (inputs_in all)) is.0

at-tells : (here : Bool) (i j : ℕ) (input : Input) (more : List Input) (fences : ℕ → Fence) → eqb i j ≡ here
    → fold (cond here (taken input (fences j)).fence (fences i)) more ≡ fold (fences i) (cond here (input ∷ []) [] ++ more)
at-tells true i j input more fences e = ap (λ (n : ℕ). fold (taken input (fences n)).fence more) (sym (eqb-true i j e))
at-tells false i j input more fences e = refl

fences-fold : (comings : List Coming) (fences : ℕ → Fence) (i : ℕ) → fences_then comings fences i ≡ fold (fences i) (all_told_to i comings)
fences-fold [] fences i = refl
fences-fold (Comes happening ∷ more) fences i = fences-fold more fences i
fences-fold (Lists j list ∷ more) fences i = fences-fold more fences i
fences-fold (Relists j list ∷ more) fences i = fences-fold more fences i
fences-fold (Goes j move ∷ more) fences i = fences-fold more fences i
fences-fold (Tells j input ∷ more) fences i =
    fences-fold more (with_fence j (taken input (fences j)).fence fences) i ∙ at-tells (eqb i j) i j input (all_told_to i more) fences refl

module _ (class : Option (List ℕ)) (name : List ℕ) (all : List TranscriptEntry) (safe : IsSafeThroughout class (core_part all))
    (folded : AreFolded (started name).fence all) where
  one-seen : (earlier later : List TranscriptEntry) → all ≡ earlier ++ later → (store : StoreValue) (who : Directory) (names : ℕ → List ℕ)
      (comings : List Coming) (i : ℕ) → IsSeenAs class name store who names comings i earlier → IsSafeAs class name store names comings i earlier
  one-seen earlier later e store who names comings i seen =
      let fences = fences_are_safe class store who names comings seen.good seen.apart seen.come in
      let first : AreFolded (started name).fence earlier =
      folded-first (started name).fence earlier later (subst (AreFolded (started name).fence) e folded) in
      let among = (safe (core_part earlier) (core_part later) (ap core_part e ∙ core-append earlier later)).1 in
      let at : IsUp class store names comings i → IsSafeAt class store (history comings (first_fences names)) i (run_behind (core_part earlier) []) =
      λ up. among store (history comings (first_fences names)) i (record { good = seen.good; may = fences.0; up = up; same = seen.acts }) in
      record {
        may = fences.0;
        safe = fences.1;
        fence = fences-fold comings (first_fences names) i
            ∙ ap (λ (n : List ℕ). fold (started n).fence (all_told_to i comings)) seen.named
            ∙ ap (fold (started name).fence) seen.inputs
            ∙ sym (folded-is (started name).fence earlier first);
        core = λ up. (at up).core;
        puts = λ up. (at up).puts;
      }

  pub safe_behind : IsSafeBehindFence class name all
  safe_behind = one-seen

-- ---- the run

pub led_rightly : (class : Option (List ℕ)) (name : List ℕ) (all : List TranscriptEntry) (s : FencedState) → Led class name all s → IsRightFenced class name all s
led_rightly class name all s led =
    let sound = led_right class (core_part all) s.core led.core in
    record {
      sound = sound;
      folded = led.well.folded;
      fence = led.well.fence;
      linked = led.well.linked;
      safe = safe_behind class name all sound.safe led.well.folded;
    }

pub all_right : (class : Option (List ℕ)) (name : List ℕ) (lines : List Line) → AreRightFenced class name lines
all_right class name lines earlier later s all split are =
    led_rightly class name all s (lines-lead class name earlier (begun class name) s all [] are (first-led class name))

pub writes_rightly : (class : Option (List ℕ)) (name : List ℕ) (left before after : Option (List ℕ))
    → WritesUpTo (first_text name) (begun class name) left before after → WritesRightly class name left before after
writes_rightly class name left before after upto = record { written = upto; right = all_right class name upto.lines }
