-- What the admission tool is asked by its words to begin with, and which statuses it may end with.
use Rattle.std.specs.Prelude.{◌≡◌, ◌⊎◌, ℕ, List, String, Option}
use Rattle.command_options.specs.Options.{texts_of}
use Rattle.kube_model.specs.declared.status.Status.{Status}
use Rattle.kube_model.specs.declared.status.Status.TheVariants.{Usage}
use Rattle.line_run.specs.Answered.{IsAnswered, MayBeAsked}
use Rattle.line_run.specs.Clauses as run
use Rattle.mlb_edge.specs.Reading.{Reading}
use Rattle.admit_run.specs.declared.work.Work.{Work}
use Rattle.admit_run.specs.Stream.{admit_rules, IsCause}
use Rattle.admit_run.specs.Words.{AreKnown, begun_by}

-- what a run of these words begins with
abbrev pub work_of : {Z : Type 0} → List (String Z) → Work
work_of words = begun_by (texts_of words)

-- where the words are known, the input may be asked for more wherever all that came whole was answered
abbrev pub MayAskAnswered : {Z S K : Type 0} → List (String Z) → (name left : S → Option (List ℕ)) → (S → Reading → K → Type 0) → (K → Option (List ℕ)) → S → K
    → Type 0
MayAskAnswered words name left may_read written input out = AreKnown (texts_of words)
    → MayBeAsked name may_read input
    (λ source reader out'. IsAnswered admit_rules (work_of words) (left input) reader (left source) (written out) (written out'))

-- the words are faulty, or it is one of the statuses that a run may end with: no file is opened, and nothing that is held has a limit
abbrev pub CanEnd : Status → Type 0
CanEnd status = (status ≡ Usage) ⊎ run.CanEnd IsCause status
