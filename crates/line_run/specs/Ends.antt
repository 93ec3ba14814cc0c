-- What one step of a run does: a line is read and driven, or the run ends.
use Rattle.std.specs.Prelude.{◌≡◌, ◌⊎◌, ℕ, List, [], ◌∷◌, Option}
use Rattle.std.specs.Io.KnownBytes.{IsAtEnd}
use Rattle.kube_model.specs.declared.status.Status.{Status}
use Rattle.kube_model.specs.declared.status.Status.TheVariants.{NoMemory}
use Rattle.mlb_edge.specs.Causes.{Rose}
use Rattle.mlb_edge.specs.declared.lines.Line.{Line}
use Rattle.mlb_edge.specs.declared.lines.LineEnd.{LineEnd}
use Rattle.mlb_edge.specs.declared.lines.LineEnd.TheVariants.{ReadFault, LineLimit, InputLimit}
use Rattle.mlb_edge.specs.InputLines.{Input, Whole, LongLine, LongInput, Follows, EndsAs}
use Rattle.mlb_edge.specs.Rows.{HasNoNewline}
use Rattle.mlb_edge.specs.Written.{Grows}
use Rattle.line_run.specs.declared.halt.Refusal.{Refusal}
use Rattle.line_run.specs.Ended.{status_of_end, status_of_refusal}
use Rattle.line_run.specs.Machine.{Rules}
use Rattle.line_run.specs.Steps.{Takes, Refuses}

-- One line was read and taken, and just its text was written.
pub record Drives {S E : Type 0} (rules : Rules S E) (s t : S) (now next : Option Input) (before after : Option (List ℕ)) : Type 0 where
  pub line : Line
  pub comes : Follows now (line ∷ []) next
  pub takes : Takes rules s t line before after

-- No line is left, and nothing of the source.
pub record IsLast {S E : Type 0} (rules : Rules S E) (s : S) (status : Status) (now : Option Input) (left' : Option (List ℕ)) : Type 0 where
  pub ends : EndsAs now Whole
  pub at_end : IsAtEnd left'
  pub is : (status ≡ rules.end s) ⊎ (status ≡ NoMemory)

-- The next line can't be read.
pub record IsUnread (status : Status) (now next : Option Input) (held' : List ℕ) (reads reads' : ℕ) : Type 0 where
  pub end : LineEnd
  pub is : status ≡ status_of_end end
  pub same : Follows now [] next
  pub long_line : (number : ℕ) → end ≡ LineLimit number → EndsAs now (LongLine number)
  pub long_input : end ≡ InputLimit → EndsAs now LongInput
  pub failed : end ≡ ReadFault → HasNoNewline held' × Rose reads reads'

-- The next line is read, and isn't taken or its text isn't written whole.
pub record IsUntaken {S E : Type 0} (rules : Rules S E) (s : S) (status : Status) (now next : Option Input) (before after : Option (List ℕ))
    (writes writes' : ℕ) : Type 0 where
  pub line : Line
  pub comes : Follows now (line ∷ []) next
  pub refusal : Refusal
  pub is : status ≡ status_of_refusal refusal
  pub refuses : Refuses refusal rules s line before after writes writes'

-- why the run ends: nothing is written where no line is read
abbrev pub Ends : {S E : Type 0} → Rules S E → S → Status
    → (now next : Option Input) (held' : List ℕ) (left' before after : Option (List ℕ)) (reads reads' writes writes' : ℕ) → Type 0
Ends rules s status now next held' left' before after reads reads' writes writes' =
    (IsLast rules s status now left' × Grows before after [])
    ⊎ ((IsUnread status now next held' reads reads' × Grows before after [])
    ⊎ IsUntaken rules s status now next before after writes writes')
