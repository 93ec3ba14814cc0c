-- The values of options, and what options give one after the other.
use Rattle.std.specs.Prelude.{ℕ, List, [], ◌∷◌, map, filter, Option, Some, None, option_and_then}
use Rattle.std.specs.Option.{option_map}
use Rattle.std.specs.Str.{bytes_eq}
use Rattle.command_options.specs.Options.{CommandOption, options_in}

-- the values of the option of this name, as often as it stands
abbrev pub values_of : List ℕ → List CommandOption → List (List ℕ)
values_of name options = map (λ o. o.value) (filter (λ o. bytes_eq o.name name) options)

-- what a value that stands at most once reads as, where none stood before
abbrev pub once : {A : Type 0} → (List ℕ → Option A) → List ℕ → Option A → Option (Option A)
once read value None = option_map (λ a. Some a) (read value)
once read value (Some held) = None

-- a text is read as it is
abbrev pub text_of : List ℕ → Option (List ℕ)
text_of value = Some value

-- what the options give after what was given, where each name and value is taken by the step
abbrev pub taken_by : {G : Type 0} → (List ℕ → List ℕ → G → Option G) → List CommandOption → G → Option G
taken_by step [] g = Some g
taken_by step (o ∷ options) g = option_and_then (taken_by step options) (step o.name o.value g)

-- what the words give after what was given
abbrev pub taken_in : {G : Type 0} → (List ℕ → List ℕ → G → Option G) → List (List ℕ) → G → Option G
taken_in step words g = option_and_then (λ options. taken_by step options g) (options_in words)
