-- Words of a command line as options: `NAME=VALUE` in one word, or `NAME` and `VALUE` in two.
use Rattle.std.specs.Prelude.{◌≡◌, ◌≢◌, ◌⊎◌, ◌↔◌, ℕ, Bool, true, false, ◌==◌, not, nat_lt, if◌then◌else◌}
use Rattle.std.specs.Prelude.{List, [], ◌∷◌, ◌++◌, length, map, string_bytes, String, Option, Some, None}
use Rattle.std.specs.Option.{option_map}
use Rattle.std.specs.List.{AllByRecursion, position_or_len, before_first, after_first}

-- what the words say
abbrev pub texts_of : {Z : Type 0} → List (String Z) → List (List ℕ)
texts_of words = map (λ word. string_bytes word) words

-- an option of a command line
pub record CommandOption : Type 0 where
  pub name : List ℕ
  pub value : List ℕ

-- the text isn't empty
abbrev pub is_given : List ℕ → Bool
is_given [] = false
is_given (c ∷ text) = true

-- a value in a word of its own isn't empty, and doesn't begin with `-`
abbrev pub is_value : List ℕ → Bool
is_value [] = false
is_value (c ∷ text) = not (c == 45)

-- the words begin with the option, in one word or in two, and these are after it
abbrev pub BeginWith : CommandOption → List (List ℕ) → List (List ℕ) → Type 0
BeginWith o rest words =
    ((words ≡ (o.name ++ 61 ∷ o.value) ∷ rest) × (is_given o.value ≡ true))
    ⊎ ((words ≡ o.name ∷ o.value ∷ rest) × (is_value o.value ≡ true))

-- the words are these options, one after the other; no name has a `=`
abbrev pub AreOptions : List CommandOption → List (List ℕ) → Type 0
AreOptions [] words = words ≡ []
AreOptions (o ∷ options) words =
    (rest : List (List ℕ)) × AllByRecursion (λ c. c ≢ 61) o.name × BeginWith o rest words × AreOptions options rest

-- ---- the options as a function of the words
abbrev pub is_equals : ℕ → Bool
is_equals c = c == 61

abbrev pub has_equals : List ℕ → Bool
has_equals word = nat_lt (position_or_len is_equals word) (length word)

-- an option, and the words after it
pub record First : Type 0 where
  pub option : CommandOption
  pub rest : List (List ℕ)

abbrev pub joined_first : List ℕ → List ℕ → List (List ℕ) → Option First
joined_first name value rest = if is_given value then Some (record { option = record { name = name; value = value }; rest = rest }) else None

abbrev pub apart_first : List ℕ → List (List ℕ) → Option First
apart_first name [] = None
apart_first name (value ∷ rest) = if is_value value then Some (record { option = record { name = name; value = value }; rest = rest }) else None

-- the first option of the words
abbrev pub first_of : List (List ℕ) → Option First
first_of [] = None
first_of (word ∷ words) = if has_equals word then joined_first (before_first is_equals word) (after_first is_equals word) words else apart_first word words

abbrev pub with_option : Bool → List ℕ → List ℕ → Option (List CommandOption) → Option (List CommandOption)
with_option true name value options = option_map (λ more. record { name = name; value = value } ∷ more) options
with_option false name value options = None

-- the options that the words are, if they are options
abbrev pub options_in : List (List ℕ) → Option (List CommandOption)
options_in [] = Some []
options_in (word ∷ []) =
    if has_equals word then with_option (is_given (after_first is_equals word)) (before_first is_equals word) (after_first is_equals word) (Some [])
    else None
options_in (word ∷ value ∷ rest) =
    if has_equals word
    then with_option (is_given (after_first is_equals word)) (before_first is_equals word) (after_first is_equals word) (options_in (value ∷ rest))
    else with_option (is_value value) word value (options_in rest)

-- words are read as options exactly where they are these options
abbrev pub OptionsAreRead : Type 0
OptionsAreRead = (words : List (List ℕ)) (options : List CommandOption) → (options_in words ≡ Some options) ↔ AreOptions options words
