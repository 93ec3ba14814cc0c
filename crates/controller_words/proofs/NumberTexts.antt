-- A number is read of the text that writes it.
use Rattle.std.proofs.Common.{◌≡◌, ◌≢◌, ℕ, ◌^◌, ◌<◌, ◌≤◌, Bool, true, false, cond, ◌&&◌, List, Option, Some, None, Result}
use Rattle.std.proofs.Common.{Ok, Err, length, get_or, nat_lt, decimal, refl, sym, ap, ◌∙◌, subst, arith, inl, inr}
use Rattle.std.specs.Str.{bytes_eq}
use Rattle.std.specs.Str.Parse.{digits_value, AllDigits, ParsesUnsigned}
use Rattle.std.specs.Result.{result_ok}
use Rattle.std.proofs.lemmas.Bool.{cases_lt, lt-ltb, ltb-true, and_parts}
use Rattle.std.proofs.lemmas.Fmt.{decimal_is_IsNumeral, decimal_digit, first_decimal, decimal-digits_value}
use Rattle.std.proofs.lemmas.Slice.Eq.{bytes_eq-Decides}
use Rattle.std.proofs.lemmas.Str.Parse.{numerals_by_value, tells_digits, parse_plain, IsNumeralModel}
use Rattle.controller_words.specs.Reading.{number_below}

own : IsNumeralModel (AllDigits 10) (digits_value 10)
own = numerals_by_value (AllDigits 10) tells_digits

pub number-is : (bound : ℕ) (text : List ℕ) (n : ℕ) → number_below bound text ≡ Some n → (n < bound) × (text ≡ decimal n)
number-is bound text n e = by (nat_lt (digits_value 10 text) bound && bytes_eq text (decimal (digits_value 10 text))) refl e where
  by : (b : Bool) → (nat_lt (digits_value 10 text) bound && bytes_eq text (decimal (digits_value 10 text))) ≡ b
      → cond b (Some (digits_value 10 text)) None ≡ Some n → (n < bound) × (text ≡ decimal n)
  by false t f = absurd (cc)
  by true t f =
      let value : digits_value 10 text ≡ n = cc in
      let (below, writes) = and_parts _ _ t in
      let less : digits_value 10 text < bound = ltb-true _ _ below in
      (subst (λ m. m < bound) value less, (bytes_eq-Decides text (decimal (digits_value 10 text))).0 writes ∙ ap decimal value)

pub number-read : (bound : ℕ) (text : List ℕ) (n : ℕ) → bound ≤ 2 ^ 64 → n < bound → text ≡ decimal n → number_below bound text ≡ Some n
number-read bound text n wide below writes =
    let value : digits_value 10 text ≡ n = ap (digits_value 10) writes ∙ (decimal_is_IsNumeral n (omega arith)).1 in
    let less : nat_lt n bound ≡ true = lt-ltb n bound below in
    let same : bytes_eq text (decimal n) ≡ true = (bytes_eq-Decides text (decimal n)).1 writes in
    rw (value, less, same) refl

-- ---- the text that is parsed
-- no decimal begins with a sign, and one that begins with a zero is that zero alone
pub decimal-first : (n : ℕ) → n < 2 ^ 64 → (get_or (decimal n) 0 0 ≢ 43) × (get_or (decimal n) 0 0 ≡ 48 → length (decimal n) ≡ 1)
decimal-first n small = elim (cases_lt n 10) [
  | inl one ↦ rw (decimal_digit n one) (λ e. omega (arith, one), λ e. refl)
  | inr more ↦ let above = first_decimal n (omega arith) small in (λ e. omega arith, λ e. omega arith)
]

-- a text that isn't begun so is read as none
none-by : (bound : ℕ) (text : List ℕ) (r : Option ℕ) → number_below bound text ≡ r → ((n : ℕ) → n < bound → text ≢ decimal n) → r ≡ None
none-by bound text None e other = refl
none-by bound text (Some n) e other = let (below, writes) = number-is bound text n e in absurd (other n below writes)

pub number-none : (bound : ℕ) (text : List ℕ) → ((n : ℕ) → n < bound → text ≢ decimal n) → number_below bound text ≡ None
number-none bound text other = none-by bound text (number_below bound text) refl other

pub signed-none : (text : List ℕ) → get_or text 0 0 ≡ 43 → number_below (2 ^ 64) text ≡ None
signed-none text plus = number-none (2 ^ 64) text (λ n small writes. (decimal-first n small).0 (ap (λ (t : List ℕ). get_or t 0 0) (sym writes) ∙ plus))

pub padded-none : (text : List ℕ) → get_or text 0 0 ≡ 48 → 1 < length text → number_below (2 ^ 64) text ≡ None
padded-none text zero long = number-none (2 ^ 64) text (λ n small writes.
    let one = (decimal-first n small).1 (ap (λ (t : List ℕ). get_or t 0 0) (sym writes) ∙ zero) in
    let short : length text ≡ 1 = ap (λ (t : List ℕ). length t) writes ∙ one in
    omega arith)

pub parsed-number : {E : Type 0} (text : List ℕ) (r : Result ℕ E) → get_or text 0 0 ≢ 43 → (get_or text 0 0 ≡ 48 → length text ≤ 1)
    → ParsesUnsigned 64 10 text r → result_ok r ≡ number_below (2 ^ 64) text
parsed-number {E} text (Ok n) plain alone parses =
    let ((digits, some, fits), value) = parse_plain own {E = E} 64 text (Ok n) parses plain in
    let writes : decimal (digits_value 10 text) ≡ text = decimal-digits_value own text digits some (λ e. let short = alone e in omega arith) fits in
    ap (λ m. Some m) value ∙ sym (number-read (2 ^ 64) text (digits_value 10 text) (omega arith) fits (sym writes))
parsed-number {E} text (Err x) plain alone parses =
    let refused = parse_plain own {E = E} 64 text (Err x) parses plain in
    sym (number-none (2 ^ 64) text (λ n small writes.
    let (numeral, value) = decimal_is_IsNumeral n small in
    let less : digits_value 10 text < 2 ^ 64 = rw (writes, value) small in
    refused (rw writes numeral.1, rw writes numeral.0, less)))
