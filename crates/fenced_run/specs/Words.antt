-- What the words of the command line say where they ask for a run behind a fence: `--fence NAME`, or `--fence NAME --lb-class CLASS`.
use Rattle.std.specs.Prelude.{◌≡◌, ℕ, ◌&&◌, Bool, true, false, if◌then◌else◌, List, [], ◌∷◌, codes, Option, Some, None, ⊤}
use Rattle.std.specs.Option.{option_map}
use Rattle.std.specs.Str.{bytes_eq}
use Rattle.command_options.specs.Options.{is_value}
use Rattle.fenced_run.specs.declared.words.FenceWords.{FenceWords}

abbrev pub fence_option : List ℕ
fence_option = codes "--fence"

abbrev pub class_option : List ℕ
class_option = codes "--lb-class"

-- the class's option and the class, or nothing
abbrev pub class_words : Option (List ℕ) → List (List ℕ)
class_words None = []
class_words (Some class) = class_option ∷ class ∷ []

-- a name or a class isn't empty, and doesn't begin with `-`
abbrev pub IsValue : List ℕ → Type 0
IsValue text = is_value text ≡ true

abbrev pub IsClass : Option (List ℕ) → Type 0
IsClass None = ⊤
IsClass (Some class) = IsValue class

-- The words are the fence's option, the name, and then the class's words.
pub record Say (words : List (List ℕ)) (name : List ℕ) (class : Option (List ℕ)) : Type 0 where
  pub words_are : words ≡ fence_option ∷ name ∷ class_words class
  pub named : IsValue name
  pub classed : IsClass class

-- some words of the table
abbrev pub AreKnown : List (List ℕ) → Type 0
AreKnown words = (name : List ℕ) × (class : Option (List ℕ)) × Say words name class

-- ---- as a function of the words

pub record Said : Type 0 where
  pub name : List ℕ
  pub class : Option (List ℕ)

abbrev pub class_in : List (List ℕ) → Option (Option (List ℕ))
class_in [] = Some None
class_in (option ∷ []) = None
class_in (option ∷ class ∷ []) =
    if bytes_eq option class_option && is_value class then Some (Some class) else None
class_in (option ∷ class ∷ more ∷ rest) = None

abbrev pub said_by : List ℕ → Option (Option (List ℕ)) → Option Said
said_by name None = None
said_by name (Some class) = Some (record { name = name; class = class })

abbrev pub said_in : List (List ℕ) → Option Said
said_in [] = None
said_in (option ∷ []) = None
said_in (option ∷ name ∷ rest) =
    if bytes_eq option fence_option && is_value name then said_by name (class_in rest) else None

-- as contracts see it
abbrev pub said_seen : FenceWords → Said
said_seen said = record { name = said.name.now; class = option_map (λ c. c.now) said.class }

-- the first word is the fence's option
abbrev pub asks_for_fence : List (List ℕ) → Bool
asks_for_fence [] = false
asks_for_fence (word ∷ words) = bytes_eq word fence_option
