-- What the words of the command line say: nothing or `--lb-class CLASS` for a run over one stream, `--config-lane FILE` and
-- `--service-lane FILE` too for one over two lanes, `--trial SEED` and `--steps N` for a trial.
use Rattle.std.specs.Prelude.{◌≡◌, ◌≢◌, ◌≤◌, ◌<◌, ◌^◌, ◌⊎◌, ◌↔◌, ℕ, List, [], ◌∷◌, map, codes, decimal, Option, None}
use Rattle.std.specs.List.{AllByRecursion}
use Rattle.std.specs.Option.{option_to_list}
use Rattle.command_options.specs.Options.{CommandOption, AreOptions}
use Rattle.command_options.specs.Values.{values_of}
use Rattle.command_options.specs.Lanes.{LaneNames, NameLanes, NameNoLanes}

-- what is asked for
pub data AskedValue : Type 0 where
  Run : Option (List ℕ) → AskedValue  -- a run for the services of this class, with none for those that name none
  Trial : ℕ → ℕ → AskedValue  -- a trial, from this seed, of this many steps
  Lanes : Option (List ℕ) → LaneNames → AskedValue  -- a run over the file of the configuration and that of the services, for the services of this class

abbrev pub class_option : List ℕ
class_option = codes "--lb-class"

abbrev pub trial_option : List ℕ
trial_option = codes "--trial"

abbrev pub steps_option : List ℕ
steps_option = codes "--steps"

abbrev pub config_option : List ℕ
config_option = codes "--config-lane"

abbrev pub service_option : List ℕ
service_option = codes "--service-lane"

abbrev pub IsKnown : CommandOption → Type 0
IsKnown o =
    (o.name ≡ class_option) ⊎ (o.name ≡ trial_option) ⊎ (o.name ≡ steps_option) ⊎ (o.name ≡ config_option) ⊎ (o.name ≡ service_option)

-- a trial has no more steps
abbrev pub most_steps : ℕ
most_steps = 100000

-- neither lane's option stands
abbrev pub NoLanes : List CommandOption → Type 0
NoLanes options = NameNoLanes config_option service_option options

-- The options ask for this: a run by the class's option at most once, over two lanes by theirs too, each once, of distinct files, and a trial by
-- its own options, each once, with a seed of 64 bits.
abbrev pub Ask : List CommandOption → AskedValue → Type 0
Ask options (Run class) =
    (values_of class_option options ≡ option_to_list class) × (values_of trial_option options ≡ []) × (values_of steps_option options ≡ []) × NoLanes options
Ask options (Trial seed steps) =
    (values_of class_option options ≡ []) × (values_of trial_option options ≡ decimal seed ∷ []) × (values_of steps_option options ≡ decimal steps ∷ [])
    × (seed < 2 ^ 64) × (steps ≤ most_steps) × NoLanes options
Ask options (Lanes class files) =
    (values_of class_option options ≡ option_to_list class) × (values_of trial_option options ≡ []) × (values_of steps_option options ≡ [])
    × NameLanes config_option service_option options files

-- The words are of the table, and say this: they are options, each of them known, that ask for it.
pub record Say (words : List (List ℕ)) (asked : AskedValue) : Type 0 where
  pub options : List CommandOption
  pub spelled : AreOptions options words
  pub known : AllByRecursion IsKnown options
  pub ask : Ask options asked

-- some words of the table
abbrev pub AreKnown : List (List ℕ) → Type 0
AreKnown words = (asked : AskedValue) × Say words asked

-- ---- the words of a run, those of a trial, and those of a run over two lanes
-- an option with this name and value
abbrev pub option_of : List ℕ → List ℕ → CommandOption
option_of name value = record { name = name; value = value }

-- none, or that of the class
abbrev pub run_options : Option (List ℕ) → List CommandOption
run_options class = map (λ value. option_of class_option value) (option_to_list class)

-- the option of the seed and that of the steps, in either order
abbrev pub AreTrial : List (List ℕ) → ℕ → ℕ → Type 0
AreTrial words seed steps =
    AreOptions (option_of trial_option (decimal seed) ∷ option_of steps_option (decimal steps) ∷ []) words
    ⊎ AreOptions (option_of steps_option (decimal steps) ∷ option_of trial_option (decimal seed) ∷ []) words

-- the option of the configuration's file and that of the services', in either order
abbrev pub AreLanes : List (List ℕ) → LaneNames → Type 0
AreLanes words files =
    AreOptions (option_of config_option files.first ∷ option_of service_option files.second ∷ []) words
    ⊎ AreOptions (option_of service_option files.second ∷ option_of config_option files.first ∷ []) words

-- these words say a run, and no others do
abbrev pub RunsAreSaid : Type 0
RunsAreSaid = (words : List (List ℕ)) (class : Option (List ℕ)) → Say words (Run class) ↔ AreOptions (run_options class) words

-- these words say a trial, and no others do
abbrev pub TrialsAreSaid : Type 0
TrialsAreSaid = (words : List (List ℕ)) (seed steps : ℕ) → Say words (Trial seed steps) ↔ ((seed < 2 ^ 64) × (steps ≤ most_steps) × AreTrial words seed steps)

-- these words say a run over two lanes for the services that name no class, and no others do
abbrev pub LanesAreSaid : Type 0
LanesAreSaid = (words : List (List ℕ)) (files : LaneNames) → Say words (Lanes None files) ↔ ((files.first ≢ files.second) × AreLanes words files)
