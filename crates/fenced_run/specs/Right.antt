-- What is right of a run behind a fence: of the core, of the fence, and of the two together.
use Rattle.std.specs.Prelude.{◌≡◌, ◌≢◌, ◌==◌, ℕ, if◌then◌else◌, List, [], ◌∷◌, ◌++◌, Option, Some, None}
use Rattle.std.specs.List.{flat_map}
use Rattle.core_drive.specs.Drive.{behind as run_behind}
use Rattle.core_rules.specs.Run.{core_after}
use Rattle.status_store.specs.Changes.{StoreValue}
use Rattle.world_rules.specs.Explaining.{acts_of, answered as but_unanswered, puts_of}
use Rattle.world_rules.specs.Good.{IsGoodStore}
use Rattle.fence_rules.specs.Among.{after_all, run_at}
use Rattle.fence_rules.specs.Cluster.{IsSafeThroughout, MayAllHappen, first_cluster}
use Rattle.fence_laws.specs.Follows.{Directory}
use Rattle.fence_laws.specs.Runs.{AllCome, Coming, Comes, Lists, Relists, Goes, Tells, fences_after}
use Rattle.fence_laws.specs.Runs.{first_fences, history}
use Rattle.put_fence.specs.declared.answer.Input.{Input}
use Rattle.put_fence.specs.declared.fence.Fence.{Fence}
use Rattle.put_fence.specs.Fences.{started}
use Rattle.line_run.specs.Run.{AreTaken}
use Rattle.line_run.specs.RunOutput.{AreOfInput}
use Rattle.line_run.specs.Text.{GrowsUpTo}
use Rattle.line_run.specs.RunOutput.{text_by}
use Rattle.mlb_edge.specs.declared.lines.Line.{Line}
use Rattle.controller_run.specs.SoFar.{IsRightSoFar}
use Rattle.fenced_run.specs.Drive.{FencedState, TranscriptEntry, begun}
use Rattle.fenced_run.specs.Parts.{AreFolded, AreLinked, core_part, fence_after, inputs_in}
use Rattle.fenced_run.specs.Stream.{fenced_rules, first_text}

-- ---- any number of controllers

-- what the fence of this bridge is told
abbrev pub told_to : ℕ → Coming → List Input
told_to i (Comes happening) = []
told_to i (Lists j list) = []
told_to i (Relists j list) = []
told_to i (Goes j move) = []
told_to i (Tells j input) = if i == j then input ∷ [] else []

abbrev pub all_told_to : ℕ → List Coming → List Input
all_told_to i comings = flat_map (told_to i) comings

-- the fences after all that comes
abbrev pub fences_then : List Coming → (ℕ → Fence) → ℕ → Fence
fences_then [] fences = fences
fences_then (coming ∷ more) fences = fences_then more (fences_after coming fences)

-- its program is started
abbrev pub IsUp : Option (List ℕ) → StoreValue → (ℕ → List ℕ) → List Coming → ℕ → Type 0
IsUp class store names comings i =
    ((after_all (history comings (first_fences names)) (first_cluster class store)).bridges i).core ≢ None

-- A history of fences, each of a name of its own, is seen as this transcript by one of its bridges: what came to it may come, that bridge's fence was
-- told what the transcript says, and its program was shown and answered, and made turns, as the transcript has it, but for a last put without a reply.
pub record IsSeenAs (class : Option (List ℕ)) (name : List ℕ) (store : StoreValue) (who : Directory) (names : ℕ → List ℕ) (comings : List Coming) (i : ℕ)
    (told : List TranscriptEntry) : Type 0 where
  pub good : IsGoodStore store
  pub apart : (j : ℕ) → who (names j) ≡ j
  pub named : names i ≡ name
  pub come : AllCome who comings (first_fences names) (first_cluster class store) []
  pub inputs : all_told_to i comings ≡ inputs_in told
  pub acts : acts_of (run_at (history comings (first_fences names)) i (first_cluster class store) [])
      ≡ acts_of (but_unanswered (run_behind (core_part told) []))

-- All of it may happen in the cluster, and the store is safe throughout. The bridge's fence is the run's; and once its program is started, that is the
-- run's core, and its puts are the run's.
pub record IsSafeAs (class : Option (List ℕ)) (name : List ℕ) (store : StoreValue) (names : ℕ → List ℕ) (comings : List Coming) (i : ℕ)
    (told : List TranscriptEntry) : Type 0 where
  pub may : MayAllHappen (history comings (first_fences names)) (first_cluster class store)
  pub safe : IsSafeThroughout (history comings (first_fences names)) (first_cluster class store)
  pub fence : fences_then comings (first_fences names) i ≡ fence_after (started name).fence told
  pub core : IsUp class store names comings i
      → ((after_all (history comings (first_fences names)) (first_cluster class store)).bridges i).core
      ≡ Some (core_after class (but_unanswered (run_behind (core_part told) [])))
  pub puts : IsUp class store names comings i
      → puts_of (run_at (history comings (first_fences names)) i (first_cluster class store) [])
      ≡ puts_of (but_unanswered (run_behind (core_part told) []))

-- Whatever store there is, however many controllers, whoever edits it, and however late what each asked for is carried out: where a beginning of the
-- transcript is what one of them saw of it, no two services are wrongly given one address.
abbrev pub IsSafeBehindFence : Option (List ℕ) → List ℕ → List TranscriptEntry → Type 0
IsSafeBehindFence class name told =
    (earlier later : List TranscriptEntry) → told ≡ earlier ++ later
    → (store : StoreValue) (who : Directory) (names : ℕ → List ℕ) (comings : List Coming) (i : ℕ) → IsSeenAs class name store who names comings i earlier
    → IsSafeAs class name store names comings i earlier

-- ---- the run

-- What was told, which led to this state: the core's part is right, as that of a controller without a fence; the fence's part is what the fence of this
-- name comes to; each put of the core is told to the fence, and what the core hears is what the fence gave; and it is safe among any number of others.
pub record IsRightFenced (class : Option (List ℕ)) (name : List ℕ) (told : List TranscriptEntry) (s : FencedState) : Type 0 where
  pub sound : IsRightSoFar class (core_part told) s.core
  pub folded : AreFolded (started name).fence told
  pub fence : s.fence ≡ fence_after (started name).fence told
  pub linked : AreLinked None told
  pub safe : IsSafeBehindFence class name told

-- so it is after each beginning of the lines that is taken
abbrev pub AreRightFenced : Option (List ℕ) → List ℕ → List Line → Type 0
AreRightFenced class name lines =
    (earlier later : List Line) (s : FencedState) (told : List TranscriptEntry) → lines ≡ earlier ++ later
    → AreTaken fenced_rules earlier (begun class name) s told → IsRightFenced class name told s

-- A beginning of the first text and of the text of the input's run was written, or of some lines' run where the source doesn't tell its bytes.
pub record WritesUpTo (first : List ℕ) (s : FencedState) (left before after : Option (List ℕ)) : Type 0 where
  pub lines : List Line
  pub of_input : AreOfInput left lines
  pub wrote : GrowsUpTo before after (first ++ text_by fenced_rules s lines)

-- So it is of the fence's first request, and the run of the lines is right.
pub record WritesRightly (class : Option (List ℕ)) (name : List ℕ) (left before after : Option (List ℕ)) : Type 0 where
  pub written : WritesUpTo (first_text name) (begun class name) left before after
  pub right : AreRightFenced class name written.lines
