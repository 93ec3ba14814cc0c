-- What the speaker owes at each status where all comes by one stream: the clauses of a run over lines, with the speaker's rules and the words' node and class.
use Rattle.std.specs.Prelude.{◌≡◌, ◌⊎◌, ℕ, List, String, Option, None}
use Rattle.kube_model.specs.declared.status.Status.{Status}
use Rattle.kube_model.specs.declared.status.Status.TheVariants.{Usage}
use Rattle.command_options.specs.Options.{texts_of}
use Rattle.line_run.specs.Answered.{IsAnswered, MayBeAsked}
use Rattle.line_run.specs.Clauses as run
use Rattle.mlb_edge.specs.Reading.{Reading}
use Rattle.speaker_machine.specs.Stream.{speaker_rules, IsCause}
use Rattle.speaker_laws.specs.Clauses.{begun_by, lanes_of}

-- so it is where the words name no lane files: all comes by one stream
abbrev pub InStream : {Z : Type 0} → List (String Z) → Type 0 → Type 0
InStream words so = lanes_of (texts_of words) ≡ None → so

-- in one stream, the input may be asked for more wherever all that came whole was answered
abbrev pub MayAskAnswered : {Z S K : Type 0} → List (String Z) → (name left : S → Option (List ℕ)) → (S → Reading → K → Type 0) → (K → Option (List ℕ)) → S → K
    → Type 0
MayAskAnswered words name left may_read told input out =
    InStream words (MayBeAsked name may_read input
    (λ source reader out'. IsAnswered speaker_rules (begun_by words) (left input) reader (left source) (told out) (told out')))

-- the words are faulty, or it is one of the statuses that a run of the speaker may end with: no file is opened, no lane is known
-- but the input, and there are no puts
abbrev pub CanEnd : Status → Type 0
CanEnd status = (status ≡ Usage) ⊎ run.CanEnd IsCause status
