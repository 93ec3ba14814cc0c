-- The printed text is canonical.
use Rattle.std.proofs.Common.{◌≡◌, ℕ, suc, ◌+◌, ◌/◌, ◌%◌, ◌^◌, ◌<◌, ◌≤◌, ◌⊎◌, List, [], ◌∷◌, take, drop}
use Rattle.std.proofs.Common.{flat_map, refl, sym, ap, ◌∙◌, arith, inl, inr, lt-ltb, le-ltb}
use Rattle.std.proofs.lemmas.Bool.{cases_lt}
use Rattle.std.proofs.lemmas.Bool.Decides.{nat_tests}
use Rattle.std.proofs.lemmas.Nat.{from_be_bytes-to_be_bytes_4}
use Rattle.std.specs.Char.{digit_value, digit_char}
use Rattle.std.specs.Int.{w32, w128, to_be_bytes, from_be_bytes}
use Rattle.std.specs.Net.Addr.{segments_of}
use Rattle.std.specs.Net.Text.{hex, groups_text, longest_zero_run, hex_groups_text}
use Rattle.std.specs.List.{All}
use Rattle.std.proofs.NetLemmas.Alphabet.{IsDigitOrDot, IsHexOrColon, All-ipv4_text, All-hex_groups_text}
use Rattle.std.proofs.NetLemmas.Texts.{IsDotted-ipv4_text, AllSegments, AllSegments-take, AllSegments-drop, IsZeroRun-longest_zero_run, longest_zero_run_first}
use Rattle.ip_ranges.specs.declared.family.Family.{Family}
use Rattle.ip_ranges.specs.declared.family.Family.TheVariants.{V4, V6}
use Rattle.ip_ranges.specs.Values.{AddressValue, IsOfFamily, width_of}
use Rattle.ip_ranges.specs.AddressText.{canonical_text, text_in}
use Rattle.ip_ranges.specs.Canonical.{IsLowerHexDigit, IsField, AreMoreFields, AreFields, HasShortened, HasAll, IsCanonicalIn, IsCanonical}
use Rattle.ip_ranges.proofs.BytesLemmas.{AreBytes-high_first, segments_fit, octets_of-segments_of, from_be_bytes-to_be_bytes_16}
use Rattle.ip_ranges.proofs.WrittenLemmas.{hex_one, hex_two, hex_three, hex_four}

value_of_digit : (d : ℕ) → d < 16 → digit_value (digit_char d) ≡ d
value_of_digit d h = grind (arith, nat_tests)

lower_digit : (d : ℕ) → d < 16 → IsLowerHexDigit (digit_char d)
lower_digit d h = grind (arith, nat_tests)

some_digit : (d : ℕ) → 0 < d → d < 16 → digit_char d ≡ 48 → ⊥
some_digit d some h is = grind (arith, nat_tests)

-- up to four digits, of which the first isn't 0 where there are several
field_one : (n : ℕ) → n < 0x10 → IsField (digit_char n ∷ []) n
field_one n h =
    let a = value_of_digit n h in
    record { writes = omega arith; lower = (lower_digit n h, tt); no_leading_zero = λ long _. omega arith }

field_two : (n : ℕ) → 0x10 ≤ n → n < 0x100 → IsField (digit_char (n / 0x10) ∷ digit_char (n % 0x10) ∷ []) n
field_two n low high =
    let a = value_of_digit (n / 0x10) (omega arith) in
    let b = value_of_digit (n % 0x10) (omega arith) in
    record {
      writes = omega arith;
      lower = (lower_digit (n / 0x10) (omega arith), (lower_digit (n % 0x10) (omega arith), tt));
      no_leading_zero = λ _. some_digit (n / 0x10) (omega arith) (omega arith);
    }

field_three : (n : ℕ) → 0x100 ≤ n → n < 0x1000 → IsField (digit_char (n / 0x100) ∷ digit_char (n / 0x10 % 0x10) ∷ digit_char (n % 0x10) ∷ []) n
field_three n low high =
    let a = value_of_digit (n / 0x100) (omega arith) in
    let b = value_of_digit (n / 0x10 % 0x10) (omega arith) in
    let c = value_of_digit (n % 0x10) (omega arith) in
    record {
      writes = omega arith;
      lower = (lower_digit (n / 0x100) (omega arith), (lower_digit (n / 0x10 % 0x10) (omega arith), (lower_digit (n % 0x10) (omega arith), tt)));
      no_leading_zero = λ _. some_digit (n / 0x100) (omega arith) (omega arith);
    }

field_four : (n : ℕ) → 0x1000 ≤ n → n < 2 ^ 16
    → IsField (digit_char (n / 0x1000) ∷ digit_char (n / 0x100 % 0x10) ∷ digit_char (n / 0x10 % 0x10) ∷ digit_char (n % 0x10) ∷ []) n
field_four n low high =
    let a = value_of_digit (n / 0x1000) (omega arith) in
    let b = value_of_digit (n / 0x100 % 0x10) (omega arith) in
    let c = value_of_digit (n / 0x10 % 0x10) (omega arith) in
    let d = value_of_digit (n % 0x10) (omega arith) in
    record {
      writes = omega arith;
      lower = (
        lower_digit (n / 0x1000) (omega arith),
        (lower_digit (n / 0x100 % 0x10) (omega arith), (lower_digit (n / 0x10 % 0x10) (omega arith), (lower_digit (n % 0x10) (omega arith), tt))),
      );
      no_leading_zero = λ _. some_digit (n / 0x1000) (omega arith) (omega arith);
    }

pub IsField-hex : (n : ℕ) → n < 2 ^ 16 → IsField (hex n) n
IsField-hex n fits =
    elim (cases_lt n 0x1000) [
      | inr four ↦ rw (hex_four n four) (field_four n four fits)
      | inl h₃ ↦ elim (cases_lt n 0x100) [
        | inr three ↦ rw (hex_three n three h₃) (field_three n three h₃)
        | inl h₂ ↦ elim (cases_lt n 0x10) [
          | inr two ↦ rw (hex_two n two h₂) (field_two n two h₂)
          | inl h₁ ↦ rw (hex_one n h₁) (field_one n h₁)
        ]
      ]
    ]

more_fields : (groups : List ℕ) → AllSegments groups → AreMoreFields (flat_map (λ t. 58 ∷ hex t) groups) groups
more_fields [] fits = refl
more_fields (g ∷ groups) fits = (hex g, _, refl, IsField-hex g (fits 0), more_fields groups (λ j. fits (suc j)))

AreFields-groups_text : (groups : List ℕ) → AllSegments groups → AreFields (groups_text groups) groups
AreFields-groups_text [] fits = refl
AreFields-groups_text (g ∷ groups) fits = (hex g, _, refl, IsField-hex g (fits 0), more_fields groups (λ j. fits (suc j)))

shortened : (groups : List ℕ) → AllSegments groups → HasShortened (hex_groups_text groups) groups ⊎ HasAll (hex_groups_text groups) groups
unfolding hex_groups_text
shortened groups fits =
    let start = (longest_zero_run groups).0 in
    let len = (longest_zero_run groups).1 in
    elim (cases_lt 1 len) [
      | inl long ↦ rw (lt-ltb 1 len long) (inl (record {
        start = start;
        len = len;
        run = record {
          several = omega arith;
          zeros = IsZeroRun-longest_zero_run groups;
          longest = λ other size run. (longest_zero_run_first groups other size run).0;
          first = λ other run. (longest_zero_run_first groups other len run).1 refl;
        };
        front = groups_text (take start groups);
        back = groups_text (drop (start + len) groups);
        spelled = refl;
        front_fields = AreFields-groups_text _ (AllSegments-take start groups fits);
        back_fields = AreFields-groups_text _ (AllSegments-drop (start + len) groups fits);
      }))
      | inr short ↦ rw (le-ltb 1 len short) (inr (record {
        alone = λ other size run. omega (arith, (longest_zero_run_first groups other size run).0);
        fields = AreFields-groups_text groups fits;
      }))
    ]

canonical_in : (f : Family) (n : ℕ) → n < 2 ^ width_of f → IsCanonicalIn f (text_in f n) n
canonical_in V4 n fits =
    let bytes = to_be_bytes w32 n in
    (bytes, IsDotted-ipv4_text bytes refl (AreBytes-high_first 4 n), sym (from_be_bytes-to_be_bytes_4 n fits))
canonical_in V6 n fits =
    let bytes = to_be_bytes w128 n in
    let whole = octets_of-segments_of bytes (AreBytes-high_first 16 n) refl in (
      segments_of bytes,
      refl,
      sym (ap (from_be_bytes w128) whole ∙ from_be_bytes-to_be_bytes_16 n fits),
      shortened (segments_of bytes) (segments_fit bytes (AreBytes-high_first 16 n)),
    )

pub IsCanonical-canonical_text : (a : AddressValue) → IsOfFamily a → IsCanonical (canonical_text a) a
unfolding canonical_text
IsCanonical-canonical_text a fits = canonical_in a.family a.number fits

below_dot : (c : ℕ) → IsDigitOrDot c → c < 128
below_dot c (inl digit) = omega arith
below_dot c (inr dot) = omega arith

below_hex : (c : ℕ) → IsHexOrColon c → c < 128
below_hex c (inl digit) = omega arith
below_hex c (inr letter) = omega arith

ascii_in : (f : Family) (n : ℕ) → All (λ c. c < 128) (text_in f n)
ascii_in V4 n = λ k d below. below_dot _ (All-ipv4_text (to_be_bytes w32 n) (AreBytes-high_first 4 n) k d below)
ascii_in V6 n =
    λ k d below. below_hex _ (All-hex_groups_text (segments_of (to_be_bytes w128 n)) (segments_fit (to_be_bytes w128 n) (AreBytes-high_first 16 n)) k d below)

pub ascii-canonical_text : (a : AddressValue) → All (λ c. c < 128) (canonical_text a)
unfolding canonical_text
ascii-canonical_text a = ascii_in a.family a.number
