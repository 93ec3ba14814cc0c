-- What each line keeps, a run keeps.
use Rattle.std.proofs.Common.{◌≡◌, List, [], ◌∷◌, ◌++◌, ◌⊎◌, inl, inr, refl, sym, subst, append_assoc}
use Rattle.std.proofs.lemmas.List.{append-nil}
use Rattle.kube_model.specs.declared.status.Status.{Status}
use Rattle.mlb_edge.specs.declared.lines.Line.{Line}
use Rattle.mlb_edge.specs.InputLines.{Ending}
use Rattle.line_run.specs.Machine.{Transition, Goes, Stops, Rules}
use Rattle.line_run.specs.Run.{Run, runs_on, run_from, status_at}

-- why a run stops in a state: no more lines can be read, or it isn't taken further by a line
abbrev pub StopsIn : {S E : Type 0} → Rules S E → S → Status → Type 0
StopsIn rules s status = ((ending : Ending) × (status ≡ status_at rules ending s)) ⊎ ((line : Line) × (rules.step s line ≡ Stops status))

-- After what was told before, a run comes to a state of which this holds, and stops in it.
pub record Kept {S E : Type 0} (rules : Rules S E) (Holds : List E → S → Type 0) (told : List E) (run : Run E) : Type 0 where
  pub state : S
  pub kept : Holds (told ++ run.entries) state
  pub stops : StopsIn rules state run.stop

module _ {S E : Type 0} (rules : Rules S E) (Holds : List E → S → Type 0)
    (keeps : (s next : S) (line : Line) (entries told : List E) → rules.step s line ≡ Goes next entries → Holds told s → Holds (told ++ entries) next) where
  on_step : (step : Transition S E) (s : S) (line : Line) (told : List E) (rest : S → Run E) → rules.step s line ≡ step
      → ((next : S) (more : List E) → Holds more next → Kept rules Holds more (rest next)) → Holds told s
      → Kept rules Holds told (runs_on step rest)
  on_step (Goes next entries) s line told rest is then holds =
      let more = then next (told ++ entries) (keeps s next line entries told is holds) in
      record {
        state = more.state;
        kept = subst (λ (es : List E). Holds es more.state) (append_assoc told entries (rest next).entries) more.kept;
        stops = more.stops;
      }
  on_step (Stops status) s line told rest is then holds = record {
    state = s;
    kept = subst (λ (es : List E). Holds es s) (sym (append-nil told)) holds;
    stops = inr (line, is);
  }

  -- what holds where a run begins, and is kept by each line, holds where it stops
  pub run-keeps : (lines : List Line) (ending : Ending) (s : S) (told : List E) → Holds told s → Kept rules Holds told (run_from rules lines ending s)
  run-keeps [] ending s told holds = record {
    state = s;
    kept = subst (λ (es : List E). Holds es s) (sym (append-nil told)) holds;
    stops = inl (ending, refl);
  }
  run-keeps (line ∷ lines) ending s told holds =
      on_step (rules.step s line) s line told (λ next. run_from rules lines ending next) refl (λ next more. run-keeps lines ending next more) holds
