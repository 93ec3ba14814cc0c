-- An interface of the command line, `NAME=MAC`.
use Rattle.std.specs.Prelude.{◌≡◌, ◌≢◌, ◌+◌, ◌*◌, ◌<◌, ◌==◌, ◌&&◌, ℕ, Bool, if◌then◌else◌, List, [], ◌∷◌, ◌++◌, length, slice_index, Option, Some, None}
use Rattle.std.specs.List.{AllByRecursion, before_first, after_first}
use Rattle.std.specs.Option.{option_map}
use Rattle.std.specs.Result.{result_ok}
use Rattle.command_options.specs.Options.{is_equals, has_equals}
use Rattle.hex.specs.Hex.{hex_digit_value, decode_sized}

-- an interface's name and hardware address
pub record InterfaceValue : Type 0 where
  pub name : List ℕ
  pub mac : List ℕ

-- two hexadecimal digits of either case, the high one first, write the octet
pub record WriteOctet (first second octet : ℕ) : Type 0 where
  pub high : ℕ
  pub low : ℕ
  pub first_digit : hex_digit_value first ≡ Some high
  pub second_digit : hex_digit_value second ≡ Some low
  pub value : octet ≡ high * 16 + low

-- The text writes six octets with `:` between them: octet k at byte 3k.
pub record IsMac (text mac : List ℕ) : Type 0 where
  pub long : length text ≡ 17
  pub six : length mac ≡ 6
  pub colons : (k : ℕ) → k < 5 → slice_index text (3 * k + 2) ≡ 58
  pub octets : (k : ℕ) → k < 6 → WriteOctet (slice_index text (3 * k)) (slice_index text (3 * k + 1)) (slice_index mac k)

-- the value is the interface's name, which has no `=`, a `=`, and the text of its hardware address
pub record IsInterface (value : List ℕ) (i : InterfaceValue) : Type 0 where
  pub text : List ℕ
  pub joined : value ≡ i.name ++ 61 ∷ text
  pub lacks : AllByRecursion (λ c. c ≢ 61) i.name
  pub mac : IsMac text i.mac

-- ---- the interface as a function of the value
-- whether the text is of six pairs, with `:` between them
abbrev pub is_paired : List ℕ → Bool
is_paired text =
    (length text == 17) && (slice_index text 2 == 58) && (slice_index text 5 == 58) && (slice_index text 8 == 58)
    && (slice_index text 11 == 58) && (slice_index text 14 == 58)

-- the text without the bytes between its pairs
abbrev pub digits_of : List ℕ → List ℕ
digits_of text =
    slice_index text 0 ∷ slice_index text 1 ∷ slice_index text 3 ∷ slice_index text 4 ∷ slice_index text 6 ∷ slice_index text 7
    ∷ slice_index text 9 ∷ slice_index text 10 ∷ slice_index text 12 ∷ slice_index text 13 ∷ slice_index text 15 ∷ slice_index text 16 ∷ []

-- the hardware address that the text writes
unfoldable pub mac_of : List ℕ → Option (List ℕ)
mac_of text = if is_paired text then result_ok (decode_sized (digits_of text) 6) else None

-- the interface that the value is
abbrev pub interface_of : List ℕ → Option InterfaceValue
interface_of value =
    if has_equals value then option_map (λ mac. record { name = before_first is_equals value; mac = mac }) (mac_of (after_first is_equals value))
    else None
