-- Each line is told of, and none ends the run.
use Rattle.std.proofs.Common.{◌≡◌, ℕ, List, [], ◌∷◌, ◌++◌, map, Option, Some, None, refl, sym, ap, ◌∙◌, subst}
use Rattle.kube_model.specs.declared.status.LaneName.{LaneName}
use Rattle.kube_model.specs.declared.status.Status.{Status}
use Rattle.kube_model.specs.declared.status.Status.TheVariants.{BadLine}
use Rattle.mlb_edge.specs.declared.lines.Line.{Line}
use Rattle.mlb_edge.specs.InputLines.{Ending, Whole, LongLine, LongInput, input_of}
use Rattle.line_run.specs.Clauses as run
use Rattle.line_run.specs.Run.{Run, run_from, status_at}
use Rattle.admit_run.specs.declared.work.Work.{Work}
use Rattle.admit_run.specs.declared.work.Work.TheVariants.{Explaining}
use Rattle.admit_run.specs.Stream.{TranscriptEntry, told_of, admit_rules, IsCause}
use Rattle.admit_run.specs.Told.{StopsAtNone}
use Rattle.admit_run.specs.Words.{begun_by}

-- each line is told of once, in their order, by its number and what it is read as; and no line ends such a run
pub lines_are_told : (lines : List Line) (ending : Ending)
    → run_from admit_rules lines ending Explaining ≡ record { entries = map told_of lines; stop = status_at admit_rules ending Explaining }
lines_are_told [] ending = refl
lines_are_told (line ∷ lines) ending =
    ap (λ (r : Run TranscriptEntry). let first : Run TranscriptEntry = record { entries = told_of line ∷ r.entries; stop = r.stop } in first)
    (lines_are_told lines ending)

-- no ending of lines is a bad one
ends_well : (ending : Ending) (lane : LaneName) (number : ℕ) (bytes : List ℕ) → status_at admit_rules ending Explaining ≡ BadLine lane number bytes → ⊥
ends_well Whole lane number bytes e = cc
ends_well (LongLine at) lane number bytes e = cc
ends_well LongInput lane number bytes e = cc

stops_well : (lines : List Line) (ending : Ending) (lane : LaneName) (number : ℕ) (bytes : List ℕ)
    → (run_from admit_rules lines ending Explaining).stop ≡ BadLine lane number bytes → ⊥
stops_well lines ending lane number bytes e = ends_well ending lane number bytes
    (sym (ap (λ (r : Run TranscriptEntry). r.stop) (lines_are_told lines ending)) ∙ e)

-- so a run that tells of lines stops at none
pub stops_at_none : (status : Status) (left before after : Option (List ℕ)) → run.AtBadLine admit_rules IsCause Explaining status left before after
    → (lane : LaneName) (number : ℕ) (bytes : List ℕ) → status ≡ BadLine lane number bytes → ⊥
stops_at_none status None before after bad lane number bytes e =
    let at = (bad lane number bytes e).1.stops in
    stops_well at.0 at.1 lane number bytes (at.2.0 ∙ e)
stops_at_none status (Some input) before after bad lane number bytes e =
    stops_well (input_of input).lines (input_of input).ending lane number bytes ((bad lane number bytes e).1.stops.0 ∙ e)

-- so does one that these words ask for
pub explained_stops : (words : List (List ℕ)) (work : Work) (status : Status) (left before after : Option (List ℕ)) → work ≡ begun_by words
    → run.AtBadLine admit_rules IsCause work status left before after → StopsAtNone words status
explained_stops words work status left before after begun bad ask lane number bytes e =
    let at : run.AtBadLine admit_rules IsCause Explaining status left before after =
    subst (λ (w : Work). run.AtBadLine admit_rules IsCause w status left before after) (begun ∙ ap begun_by ask) bad in
    stops_at_none status left before after at lane number bytes e
