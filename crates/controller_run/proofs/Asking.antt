-- What the words ask for is one thing.
use Rattle.std.proofs.Common.{◌≡◌, ℕ, List, Option, Some, None, sym, ◌∙◌}
use Rattle.command_options.specs.Lanes.{LaneNames}
use Rattle.controller_words.specs.Reading.{asked_in}
use Rattle.controller_words.specs.Words.{AskedValue, Run, Trial, Lanes, Say}
use Rattle.controller_words.proofs.NamedWords.{say-read}
use Rattle.world_trial.proofs.Safe.{good-trial}
use Rattle.controller_run.specs.Asked.{AskRun, AskTrial, AskLanes, AskNoLanes}
use Rattle.controller_run.specs.Trial.{IsSafeTrial}

-- the class of a run is one
pub one_run : (words : List (List ℕ)) (class class' : Option (List ℕ)) → Some (Run class) ≡ asked_in words → Say words (Run class') → class ≡ class'
one_run words class class' is say =
    let same : Some (Run class) ≡ Some (Run class') = is ∙ say-read words (Run class') say in
    let classes : class ≡ class' = cc in
    classes

-- words that ask for a trial ask for no run, and the other way round
pub no-run : (words : List (List ℕ)) (seed steps : ℕ) → Some (Trial seed steps) ≡ asked_in words → ¬ (AskRun words)
no-run words seed steps is (class, say) = let wrong : Some (Trial seed steps) ≡ Some (Run class) = is ∙ say-read words (Run class) say in absurd (cc)

pub no-trial : (words : List (List ℕ)) (class : Option (List ℕ)) → Some (Run class) ≡ asked_in words → (seed steps : ℕ) → ¬ (AskTrial words seed steps)
no-trial words class is seed steps say = let wrong : Some (Run class) ≡ Some (Trial seed steps) = is ∙ say-read words (Trial seed steps) say in absurd (cc)

-- words that ask for a run over two lanes ask for neither of the others
pub lanes_no_run : (words : List (List ℕ)) (class : Option (List ℕ)) (files : LaneNames) → AskLanes words class files → ¬ (AskRun words)
lanes_no_run words class files say (other, run) =
    let wrong : Some (Lanes class files) ≡ Some (Run other) = sym (say-read words (Lanes class files) say) ∙ say-read words (Run other) run in
    absurd (cc)

pub lanes_no_trial : (words : List (List ℕ)) (class : Option (List ℕ)) (files : LaneNames) → AskLanes words class files → (seed steps : ℕ)
    → ¬ (AskTrial words seed steps)
lanes_no_trial words class files say seed steps trial =
    let wrong : Some (Lanes class files) ≡ Some (Trial seed steps) = sym (say-read words (Lanes class files) say) ∙ say-read words (Trial seed steps) trial in
    absurd (cc)

-- words that ask for either of them ask for no run over two lanes
pub run_no_lanes : (words : List (List ℕ)) (class : Option (List ℕ)) → Some (Run class) ≡ asked_in words → AskNoLanes words
run_no_lanes words class is other files say = let wrong : Some (Run class) ≡ Some (Lanes other files) = is ∙ say-read words (Lanes other files) say in
    absurd (cc)

pub trial_no_lanes : (words : List (List ℕ)) (seed steps : ℕ) → Some (Trial seed steps) ≡ asked_in words → AskNoLanes words
trial_no_lanes words seed steps is class files say =
    let wrong : Some (Trial seed steps) ≡ Some (Lanes class files) = is ∙ say-read words (Lanes class files) say in
    absurd (cc)

-- the class and the files that are asked for are one
pub one_lanes : (words : List (List ℕ)) (class class' : Option (List ℕ)) (files files' : LaneNames) → AskLanes words class files → AskLanes words class' files'
    → (class ≡ class') × (files ≡ files')
one_lanes words class class' files files' say say' =
    let same : Some (Lanes class files) ≡ Some (Lanes class' files') =
    sym (say-read words (Lanes class files) say) ∙ say-read words (Lanes class' files') say' in
    let classes : class ≡ class' = cc in
    let names : files ≡ files' = cc in
    (classes, names)

-- words that ask for nothing ask for neither
pub none-asked : (words : List (List ℕ)) → None ≡ asked_in words → (asked : AskedValue) → ¬ (Say words asked)
none-asked words is asked say = let wrong : None ≡ Some asked = is ∙ say-read words asked say in absurd (cc)

-- the trial that is asked for is one
pub one-trial : (words : List (List ℕ)) (seed steps m n : ℕ) → Some (Trial seed steps) ≡ asked_in words → AskTrial words m n → (seed ≡ m) × (steps ≡ n)
one-trial words seed steps m n is say =
    let same : Some (Trial seed steps) ≡ Some (Trial m n) = is ∙ say-read words (Trial m n) say in
    let seeds : seed ≡ m = cc in
    let counts : steps ≡ n = cc in
    (seeds, counts)

-- every trial is safe at each moment
pub trial-safe : (seed : ℕ) → IsSafeTrial seed
trial-safe seed n = (good-trial seed n).stored.safe
