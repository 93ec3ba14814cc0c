-- The texts of large communities (RFC 8092): three numbers of 32 bits, written `large:A:B:C`.
use Rattle.std.specs.Prelude.{◌≡◌, ◌^◌, ◌<◌, ℕ, Bool, List, ◌∷◌, ◌++◌, codes, decimal, Option, Some, None, if◌then◌else◌, nat_eq}
use Rattle.std.specs.List.{starts_with, before_first, after_first}
use Rattle.large_numbers.specs.declared.numbers.LargeCommunity.{LargeCommunity}
use Rattle.pool_config.specs.Numbers.{is_colon, number_below}

-- how the text of a large community begins
abbrev pub large_mark : List ℕ
large_mark = codes "large:"

abbrev pub begins_large : List ℕ → Bool
begins_large text = starts_with nat_eq text large_mark

-- the text is `large:A:B:C`, each of them decimal below 2^32 without leading zeros, and these are its numbers
pub record IsLargeText (text : List ℕ) (c : LargeCommunity) : Type 0 where
  pub global : c.global < 2 ^ 32
  pub first : c.first < 2 ^ 32
  pub second : c.second < 2 ^ 32
  pub spelled : text ≡ large_mark ++ (decimal c.global ++ 58 ∷ (decimal c.first ++ 58 ∷ decimal c.second))

-- a decimal number below 2^32 without sign or leading zeros
abbrev pub word_of : List ℕ → Option ℕ
word_of text = number_below (2 ^ 32) text

-- two numbers, where both are there
abbrev pub pair : Option ℕ → Option ℕ → Option (ℕ × ℕ)
pair None c = None
pair (Some b) None = None
pair (Some b) (Some c) = Some (b, c)

-- the two parts of the local data, `B:C`
abbrev pub local_of : List ℕ → Option (ℕ × ℕ)
local_of text = pair (word_of (before_first is_colon text)) (word_of (after_first is_colon text))

-- they and the Global Administrator, where both are there
abbrev pub with_global : Option ℕ → Option (ℕ × ℕ) → Option LargeCommunity
with_global None local = None
with_global (Some a) None = None
with_global (Some a) (Some local) = Some (record { global = a; first = local.0; second = local.1 })

-- the numbers `A:B:C`
abbrev pub words_of : List ℕ → Option LargeCommunity
words_of text = with_global (word_of (before_first is_colon text)) (local_of (after_first is_colon text))

-- the large community of a text, if it is one
abbrev pub large_of : List ℕ → Option LargeCommunity
large_of text = if begins_large text then words_of (after_first is_colon text) else None
