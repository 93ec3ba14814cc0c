-- What a run behind a fence owes.
use Rattle.std.specs.Prelude.{◌≡◌, ◌⊎◌, ℕ, List, String, Option}
use Rattle.kube_model.specs.declared.status.Status.{Status}
use Rattle.kube_model.specs.declared.status.Status.TheVariants.{Usage, WriteFault, NoMemory}
use Rattle.command_options.specs.Options.{texts_of}
use Rattle.line_run.specs.Answered.{IsAnswered, MayBeAsked}
use Rattle.line_run.specs.Clauses as run
use Rattle.line_run.specs.Text.{GrowsUpTo}
use Rattle.mlb_edge.specs.Reading.{Reading}
use Rattle.mlb_edge.specs.Written.{Grows, GrowsInPart}
use Rattle.fenced_run.specs.Drive.{FencedState, begun}
use Rattle.fenced_run.specs.Right as right
use Rattle.fenced_run.specs.Stream.{IsCause, fenced_rules, first_text}
use Rattle.fenced_run.specs.Words.{Say}

-- where the words ask for a run behind a fence, this is so of the fence's name and the class that they name
abbrev pub OverFence : {Z : Type 0} → List (String Z) → (List ℕ → Option (List ℕ) → Type 0) → Type 0
OverFence words Owes = (name : List ℕ) (class : Option (List ℕ)) → Say (texts_of words) name class → Owes name class

-- Once the fence's first request was written, the input may be asked for more wherever all that came whole was answered.
abbrev pub MayAskAnswered : {Z S K : Type 0} → List (String Z) → (name left : S → Option (List ℕ)) → (S → Reading → K → Type 0) → (K → Option (List ℕ))
    → S → K → Type 0
MayAskAnswered words name_of left may_read written input out = OverFence words (λ name class. (mid : Option (List ℕ))
    → Grows (written out) mid (first_text name)
    → MayBeAsked name_of may_read input
    (λ source reader out'. IsAnswered fenced_rules (begun class name) (left input) reader (left source) mid (written out')))

-- the words are faulty, or it is one of the statuses that such a run may end with
abbrev pub CanEnd : Status → Type 0
CanEnd status = (status ≡ Usage) ⊎ run.CanEnd IsCause status

-- The first text was written, and what came after it is a run's from this state on.
pub record RunsOn (first : List ℕ) (s : FencedState) (status : Status) (left left' before after : Option (List ℕ)) : Type 0 where
  pub mid : Option (List ℕ)
  pub begins : Grows before mid first
  pub owes : run.RunOwes fenced_rules IsCause s status left left' mid after

-- That text wasn't written whole, and nothing was read.
abbrev pub IsUnbegun : List ℕ → Status → (left left' before after : Option (List ℕ)) → Type 0
IsUnbegun first status left left' before after =
    (left' ≡ left)
    × (((status ≡ WriteFault) × GrowsInPart before after first) ⊎ ((status ≡ NoMemory) × GrowsUpTo before after first))

-- what is owed, however the run ends
abbrev pub RunOwes : List ℕ → FencedState → Status → (left left' before after : Option (List ℕ)) → Type 0
RunOwes first s status left left' before after =
    RunsOn first s status left left' before after ⊎ IsUnbegun first status left left' before after

abbrev pub WritesRightly : {Z K : Type 0} → List (String Z) → Option (List ℕ) → (K → Option (List ℕ)) → K → K → Type 0
WritesRightly words left written out out' =
    OverFence words (λ name class. right.WritesRightly class name left (written out) (written out'))
