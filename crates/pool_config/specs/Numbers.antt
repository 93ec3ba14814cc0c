-- The numbers of BGP communities (RFC 1997): `A:B` is A times 65536 plus B.
use Rattle.std.specs.Prelude.{◌≡◌, ℕ, ◌+◌, ◌*◌, ◌<◌, Bool, ◌&&◌, List, ◌∷◌, ◌++◌, length, Option, Some, None, if◌then◌else◌, ◌==◌, nat_lt, decimal}
use Rattle.std.specs.List.{list_any, before_first, after_first}
use Rattle.std.specs.Ordering.{nat_cmp}
use Rattle.std.specs.Str.{all_ascii_digits}
use Rattle.std.specs.Str.Parse.{digits_value}
pub use Rattle.ip_ranges.specs.EntryText.{is_padded}
use Rattle.pool_config.specs.KeySets.{keys_with}

-- the text is `A:B`, both of them decimal below 65536 without leading zeros, and this is its number
abbrev pub IsNumberText : List ℕ → ℕ → Type 0
IsNumberText text n = (a : ℕ) × (b : ℕ) × (a < 65536) × (b < 65536) × (text ≡ decimal a ++ 58 ∷ decimal b) × (n ≡ a * 65536 + b)

-- `b':'`
abbrev pub is_colon : ℕ → Bool
is_colon c = c == 58

abbrev pub has_colon : List ℕ → Bool
has_colon text = list_any is_colon text

-- a decimal number below the limit, without sign or leading zeros
abbrev pub number_below : ℕ → List ℕ → Option ℕ
number_below limit text =
    if is_padded text then None
    else (if (all_ascii_digits text && nat_lt 0 (length text)) && nat_lt (digits_value 10 text) limit then Some (digits_value 10 text) else None)

abbrev pub half_of : List ℕ → Option ℕ
half_of text = number_below 65536 text

abbrev pub joined : Option ℕ → Option ℕ → Option ℕ
joined None b = None
joined (Some a) None = None
joined (Some a) (Some b) = Some (a * 65536 + b)

-- the number of a text, if it is one; a text without a colon is none
abbrev pub number_of : List ℕ → Option ℕ
number_of text = joined (half_of (before_first is_colon text)) (half_of (after_first is_colon text))

-- the numbers, each put in its place among those that ascend, once
abbrev pub ascending_with : List ℕ → List ℕ → List ℕ
ascending_with numbers more = keys_with nat_cmp numbers more
