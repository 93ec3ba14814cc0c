-- Decimal numbers of at most 255, without sign or leading zeros.
use Rattle.std.proofs.Common.{◌≡◌, ◌≢◌, ℕ, ◌+◌, ◌<◌, ◌≤◌, List, [], ◌∷◌, true, false, Option, Some, None, Result, Ok, Err, length}
use Rattle.std.proofs.Common.{get_or, decimal, refl, sym, ap, ◌∙◌, subst, append-nil, lit≤, arith, eqb-true, eq-eqb, ne_eqb, inl, inr}
use Rattle.std.proofs.lemmas.Bool.{cases_lt, cases_eq, false≢true, true≢false}
use Rattle.std.proofs.lemmas.Fmt.{decimal_is_IsNumeral, decimal_digit, first_decimal, decimal-digits_value}
use Rattle.std.proofs.lemmas.Str.Parse.{numerals_by_value, tells_digits, parse_plain}
use Rattle.std.specs.Str.Parse.{AllDigits, ParsesUnsigned}
use Rattle.std.specs.Result.{result_ok}
use Rattle.std.specs.Net.Reader.{read_octet, whole_value}
use Rattle.std.proofs.NetLemmas.Ipv4.{read_octet_sound, read_octet_complete}
use Rattle.ip_ranges.specs.EntryText.{is_padded}
use Rattle.ip_ranges.proofs.SpelledLemmas.{whole_some}

pub octet_whole : (text : List ℕ) (a : ℕ) → whole_value (read_octet text) ≡ Some a → (a < 256) × (text ≡ decimal a)
octet_whole text a e =
    let h = read_octet_sound text [] a (whole_some _ a e) in
    (h.0, h.1 ∙ append-nil (decimal a))

pub whole_octet : (a : ℕ) → a < 256 → whole_value (read_octet (decimal a)) ≡ Some a
whole_octet a h = rw (rw append-nil at (read_octet_complete a [] h (lit≤ tt))) refl

-- what a padded text begins with
padded : (text : List ℕ) → is_padded text ≡ true → (get_or text 0 0 ≢ 43) → (1 < length text) × (get_or text 0 0 ≡ 48)
padded [] e h = absurd (false≢true e)
padded (c ∷ []) e h = absurd (h (eqb-true c 43 e))
padded (c ∷ d ∷ rest) e h =
    let same : (c ≡ 48) = eqb-true c 48 (rw (ne_eqb c 43 h) at e) in
    (omega arith, same)

not_padded : (text : List ℕ) → is_padded text ≡ false → (get_or text 0 0 ≢ 43) × (get_or text 0 0 ≡ 48 → length text ≤ 1)
not_padded [] e = (omega arith, λ _. omega arith)
not_padded (c ∷ []) e = (λ same. true≢false (sym (eq-eqb c 43 same) ∙ e), λ _. omega arith)
not_padded (c ∷ d ∷ rest) e = elim (cases_eq c 43) [
  | inl plus ↦ absurd (true≢false (rw (eq-eqb c 43 plus) at e))
  | inr other ↦ (other, λ zero_first. absurd (true≢false (sym (eq-eqb c 48 zero_first) ∙ (rw (ne_eqb c 43 other) at e))))
]

-- a decimal number isn't padded
pub padded_none : (text : List ℕ) → is_padded text ≡ true → whole_value (read_octet text) ≡ None
padded_none text e = go _ refl
  where
    go : (o : Option ℕ) → whole_value (read_octet text) ≡ o → o ≡ None
    go None is = refl
    go (Some a) is =
        let (fits, written) = octet_whole text a is in
        let (numeral, value) = decimal_is_IsNumeral a (omega arith) in
        elim (cases_lt a 10) [
          | inl one ↦
              let short : text ≡ (48 + a) ∷ [] = written ∙ decimal_digit a one in
              let first = ap (λ t. get_or t 0 0) short in
              let len = ap (λ (t : List ℕ). length t) short in
              let (long, zero_first) = padded text e (omega arith) in
              absurd (omega arith)
          | inr more ↦
              let above = first_decimal a (omega arith) (omega arith) in
              let first = ap (λ t. get_or t 0 0) written in
              let (long, zero_first) = padded text e (omega arith) in
              absurd (omega arith)
        ]

-- what `parse` gives of a text that isn't padded
pub parsed_octet : {E : Type 0} (text : List ℕ) (r : Result ℕ E) → is_padded text ≡ false → ParsesUnsigned 8 10 text r
    → result_ok r ≡ whole_value (read_octet text)
parsed_octet {E} text (Ok n) e parses =
    let own = numerals_by_value (AllDigits 10) tells_digits in
    let (no_plus, alone) = not_padded text e in
    let (numeral, value) = parse_plain own {E = E} 8 text (Ok n) parses no_plus in
    let (digits, some, fits) = numeral in
    let one : get_or text 0 0 ≡ 48 → length text ≡ 1 = λ zero_first. let short = alone zero_first in omega arith in
    let written : decimal n ≡ text = ap decimal value ∙ decimal-digits_value own text digits some one (omega arith) in
    sym (subst (λ t. whole_value (read_octet t) ≡ Some n) written (whole_octet n (omega arith)))
parsed_octet {E} text (Err x) e parses = go _ refl
  where
    go : (o : Option ℕ) → whole_value (read_octet text) ≡ o → None ≡ whole_value (read_octet text)
    go None is = sym is
    go (Some a) is =
        let own = numerals_by_value (AllDigits 10) tells_digits in
        let (fits, written) = octet_whole text a is in
        let (numeral, value) = decimal_is_IsNumeral a (omega arith) in
        let (no_plus, alone) = not_padded text e in
        let refused = parse_plain own {E = E} 8 text (Err x) parses no_plus in
        absurd (refused (rw written (numeral.1, numeral.0, omega arith)))
