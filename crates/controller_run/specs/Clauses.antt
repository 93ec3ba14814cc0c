-- What the controller owes besides the clauses of any run over lines: that what it writes is sound, safe and leaves nothing waiting; and what it owes
-- of a trial.
use Rattle.std.specs.Prelude.{◌≡◌, ◌⊎◌, ℕ, List, String, Option}
use Rattle.kube_model.specs.declared.status.Status.{Status}
use Rattle.kube_model.specs.declared.status.Status.TheVariants.{Done, Usage}
use Rattle.line_exchanges.specs.Exchanges as exchanges
use Rattle.line_run.specs.Answered.{IsAnswered, MayBeAsked}
use Rattle.line_run.specs.Clauses as run
use Rattle.core_rules.specs.Core.{fresh}
use Rattle.mlb_edge.specs.Reading.{Reading}
use Rattle.controller_run.specs.Right as right
use Rattle.controller_run.specs.Sound as sound
use Rattle.controller_run.specs.Stream.{controller_rules, IsCause}
use Rattle.command_options.specs.Options.{texts_of}
use Rattle.controller_words.specs.Words.{Run, Say}
use Rattle.controller_run.specs.Asked.{AskTrial}
use Rattle.controller_run.specs.Trial.{TrialEnds, IsSafeTrial}

-- where the words ask for a run over one stream, this is so of the class that they name
abbrev pub OverStream : {Z : Type 0} → List (String Z) → (Option (List ℕ) → Type 0) → Type 0
OverStream words Owes = (class : Option (List ℕ)) → Say (texts_of words) (Run class) → Owes class

-- the input may be asked for more wherever all that came whole was answered
abbrev pub MayAskAnswered : {Z S K : Type 0} → List (String Z) → (name left : S → Option (List ℕ)) → (S → Reading → K → Type 0) → (K → Option (List ℕ)) → S → K
    → Type 0
MayAskAnswered words name left may_read written input out = OverStream words (λ class. MayBeAsked name may_read input
    (λ source reader out'. IsAnswered controller_rules (fresh class) (left input) reader (left source) (written out) (written out')))

-- the words are faulty, or it is one of the statuses that a run of the controller or a trial may end with: no file is opened, no lane is
-- known but the input, and of what is held services alone have a limit
abbrev pub CanEnd : Status → Type 0
CanEnd status = (status ≡ Usage) ⊎ run.CanEnd IsCause status

-- a beginning of the text of a run was written, which is sound, and safe in every world that explains it
abbrev pub WritesRightly : {Z K : Type 0} → List (String Z) → Option (List ℕ) → (K → Option (List ℕ)) → K → K → Type 0
WritesRightly words left written out out' = OverStream words (λ class. right.WritesRightly class left (written out) (written out'))

-- what was read and written is safe in each world in which it is seen
abbrev pub WritesSafely : {Z K : Type 0} → List (String Z) → Option (List ℕ) → (K → Option (List ℕ)) → K → K → Type 0
WritesSafely words left written out out' = OverStream words (λ class. exchanges.WritesSafely left (written out) (written out'))

-- where the run is done, nothing is left waiting that could be served, and each settled service has its own
abbrev pub EndsQuiet : {Z K : Type 0} → List (String Z) → Status → Option (List ℕ) → (K → Option (List ℕ)) → K → K → Type 0
EndsQuiet words status left written out out' =
    OverStream words (λ class. status ≡ Done → sound.EndsQuiet class left (written out) (written out'))

-- What stands written of the trial that the words ask for; and at no moment of it are two services recorded with one address, unless they share it.
abbrev pub WritesTrial : {Z K : Type 0} → List (String Z) → Status → (K → Option (List ℕ)) → K → K → Type 0
WritesTrial words status written out out' = (seed steps : ℕ) → AskTrial (texts_of words) seed steps
    → TrialEnds seed steps status (written out) (written out') × IsSafeTrial seed

-- it reads nothing
abbrev pub LeavesInput : {Z S : Type 0} → List (String Z) → S → S → Type 0
LeavesInput words input input' = (seed steps : ℕ) → AskTrial (texts_of words) seed steps → input' ≡ input
