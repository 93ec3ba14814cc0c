-- What is asked for as a function of the words.
use Rattle.std.specs.Prelude.{ℕ, ◌+◌, ◌^◌, ◌&&◌, nat_lt, if◌then◌else◌, List, decimal, Option, Some, None, option_and_then}
use Rattle.std.specs.Option.{option_map}
use Rattle.std.specs.Str.{bytes_eq}
use Rattle.std.specs.Str.Parse.{digits_value}
use Rattle.command_options.specs.Values.{once, text_of, taken_in}
use Rattle.command_options.specs.Lanes.{LaneNames, LanesGiven, no_lanes, with_first, with_second, lanes_of}
use Rattle.controller_words.specs.Words.{AskedValue, Run, Trial, Lanes, class_option, trial_option, steps_option, config_option, service_option, most_steps}

-- the number below the bound that the text writes in decimal
abbrev pub number_below : ℕ → List ℕ → Option ℕ
number_below bound text =
    if nat_lt (digits_value 10 text) bound && bytes_eq text (decimal (digits_value 10 text)) then Some (digits_value 10 text) else None

abbrev pub seed_of : List ℕ → Option ℕ
seed_of text = number_below (2 ^ 64) text

abbrev pub steps_of : List ℕ → Option ℕ
steps_of text = number_below (most_steps + 1) text

-- what options said so far
pub record Given : Type 0 where
  pub class : Option (List ℕ)
  pub seed : Option ℕ
  pub steps : Option ℕ
  pub lanes : LanesGiven

abbrev pub nothing_given : Given
nothing_given = record { class = None; seed = None; steps = None; lanes = no_lanes }

abbrev pub with_class : List ℕ → Given → Option Given
with_class value g = option_map (λ class. record { class = class; seed = g.seed; steps = g.steps; lanes = g.lanes }) (once text_of value g.class)

abbrev pub with_seed : List ℕ → Given → Option Given
with_seed value g = option_map (λ seed. record { class = g.class; seed = seed; steps = g.steps; lanes = g.lanes }) (once seed_of value g.seed)

abbrev pub with_steps : List ℕ → Given → Option Given
with_steps value g = option_map (λ steps. record { class = g.class; seed = g.seed; steps = steps; lanes = g.lanes }) (once steps_of value g.steps)

abbrev pub with_lanes : LanesGiven → Given → Given
with_lanes lanes g = record { class = g.class; seed = g.seed; steps = g.steps; lanes = lanes }

abbrev pub with_config : List ℕ → Given → Option Given
with_config value g = option_map (λ lanes. with_lanes lanes g) (with_first value g.lanes)

abbrev pub with_service : List ℕ → Given → Option Given
with_service value g = option_map (λ lanes. with_lanes lanes g) (with_second value g.lanes)

abbrev pub with_option : List ℕ → List ℕ → Given → Option Given
with_option name value g =
    if bytes_eq name class_option then with_class value g
    else if bytes_eq name trial_option then with_seed value g
    else if bytes_eq name steps_option then with_steps value g
    else if bytes_eq name config_option then with_config value g
    else if bytes_eq name service_option then with_service value g
    else None

-- a seed and steps make a trial, and only together, without a class and without lanes; lanes make a run over them
abbrev pub asked_by : Option (List ℕ) → Option ℕ → Option ℕ → Option LaneNames → Option AskedValue
asked_by class None None None = Some (Run class)
asked_by class None None (Some files) = Some (Lanes class files)
asked_by class None (Some steps) lanes = None
asked_by class (Some seed) None lanes = None
asked_by None (Some seed) (Some steps) None = Some (Trial seed steps)
asked_by None (Some seed) (Some steps) (Some files) = None
asked_by (Some class) (Some seed) (Some steps) lanes = None

abbrev pub finished : Given → Option AskedValue
finished g = option_and_then (asked_by g.class g.seed g.steps) (lanes_of g.lanes)

-- what the words ask for, where they are of the table
abbrev pub asked_in : List (List ℕ) → Option AskedValue
asked_in words = option_and_then finished (taken_in with_option words nothing_given)
