-- The texts that have a number are those of the form `A:B`.
use Rattle.std.proofs.Common.{◌≡◌, ℕ, zero, suc, ◌+◌, ◌*◌, ◌^◌, ◌<◌, ◌≤◌, Bool, true, false, ◌&&◌, List, [], ◌∷◌, ◌++◌, ◌↔◌, Option, Some, None, length, get_or}
use Rattle.std.proofs.Common.{take, drop, decimal, cond, refl, sym, ◌∙◌, ap, subst, arith, eqb-true, eq-eqb, ne_eqb, inl, inr, nat_lt, Decides, is_none}
use Rattle.std.proofs.lemmas.Bool.{cases_lt, cases_eq, true≢false, false≢true, lt-ltb, ltb-true, and_parts}
use Rattle.std.proofs.lemmas.Fmt.{decimal_is_IsNumeral, decimal_digit, first_decimal, decimal-digits_value, decimal_nonempty}
use Rattle.std.proofs.lemmas.List.Sums.{split_at_first, passes_at_first, position_or_len_is}
use Rattle.std.proofs.lemmas.Str.Parse.{numerals_by_value, tells_all_ascii_digits, IsNumeralModel, digit_at}
use Rattle.std.specs.List.{position_or_len, before_first, after_first}
use Rattle.std.specs.Str.{all_ascii_digits}
use Rattle.std.specs.Str.Parse.{digits_value}
use Rattle.ip_ranges.specs.EntryText.{is_padded}
use Rattle.pool_config.specs.Faults.{IsNoNumber}
use Rattle.pool_config.specs.Numbers.{IsNumberText, number_below, number_of, half_of, joined, is_colon}

own : IsNumeralModel (λ ds. all_ascii_digits ds ≡ true) (digits_value 10)
own = numerals_by_value (λ ds. all_ascii_digits ds ≡ true) tells_all_ascii_digits

-- a text that isn't padded has no leading zero
alone : (text : List ℕ) → is_padded text ≡ false → get_or text 0 0 ≡ 48 → length text ≤ 1
alone [] e first = omega arith
alone (c ∷ []) e first = omega arith
alone (c ∷ d ∷ rest) e first = elim (cases_eq c 43) [
  | inl plus ↦ absurd (true≢false (rw (eq-eqb c 43 plus) at e))
  | inr other ↦ absurd (true≢false (rw (ne_eqb c 43 other, eq-eqb c 48 first) at e))
]

unpadded : (text : List ℕ) → 48 < get_or text 0 0 → is_padded text ≡ false
unpadded [] above = refl
unpadded (c ∷ []) above = ne_eqb c 43 (λ e. omega arith)
unpadded (c ∷ d ∷ rest) above =
    let not_plus : (c ≡ 43 → ⊥) = λ e. omega arith in let not_zero : (c ≡ 48 → ⊥) = λ e. omega arith in rw (ne_eqb c 43 not_plus, ne_eqb c 48 not_zero) refl

decimal_unpadded : (a : ℕ) → a < 2 ^ 64 → is_padded (decimal a) ≡ false
decimal_unpadded a fits = elim (cases_lt a 10) [
  | inl one ↦ rw (decimal_digit a one) (ne_eqb (48 + a) 43 (λ e. omega arith))
  | inr more ↦ unpadded (decimal a) (first_decimal a (omega arith) (omega arith))
]

-- numbers below a limit
pub below_some : (limit : ℕ) → limit ≤ 2 ^ 64 → (text : List ℕ) (a : ℕ) → number_below limit text ≡ Some a → (a < limit) × (text ≡ decimal a)
below_some limit small text a e = go (is_padded text) refl ((all_ascii_digits text && nat_lt 0 (length text)) && nat_lt (digits_value 10 text) limit) refl e
  where
    go : (p : Bool) → is_padded text ≡ p → (d : Bool) → ((all_ascii_digits text && nat_lt 0 (length text)) && nat_lt (digits_value 10 text) limit) ≡ d
        → cond p None (cond d (Some (digits_value 10 text)) None) ≡ Some a → (a < limit) × (text ≡ decimal a)
    go true padded d digits found = absurd (let h : None ≡ Some a = found in cc)
    go false padded false digits found = absurd (let h : None ≡ Some a = found in cc)
    go false padded true holds found =
        let value : digits_value 10 text ≡ a = (let h : Some (digits_value 10 text) ≡ Some a = found in cc) in
        let (both, fits) = and_parts _ _ holds in
        let (digits, some) = and_parts _ _ both in
        let s : 0 < length text = ltb-true _ _ some in
        let f : digits_value 10 text < limit = ltb-true _ _ fits in
        let one : get_or text 0 0 ≡ 48 → length text ≡ 1 = λ first. let short = alone text padded first in omega arith in
        (omega arith, sym (decimal-digits_value own text digits s one (omega arith)) ∙ ap decimal value)

pub below_decimal : (limit : ℕ) → limit ≤ 2 ^ 64 → (a : ℕ) → a < limit → number_below limit (decimal a) ≡ Some a
below_decimal limit small a fits =
    let wide : a < 2 ^ 64 = omega arith in
    let (numeral, value) = decimal_is_IsNumeral a wide in
    let digits : all_ascii_digits (decimal a) ≡ true = own.from (decimal a) numeral.1 in
    let some : nat_lt 0 (length (decimal a)) ≡ true = lt-ltb _ _ numeral.0 in
    let below : nat_lt (digits_value 10 (decimal a)) limit ≡ true = lt-ltb _ _ (omega arith) in
    rw (decimal_unpadded a wide, digits, some, below) (ap (λ n. Some n) value)

-- what stands before a colon and after it
get_left : (xs ys : List ℕ) (k d : ℕ) → k < length xs → get_or (xs ++ ys) k d ≡ get_or xs k d
get_left [] ys k d h = absurd (omega arith)
get_left (x ∷ xs) ys zero d h = refl
get_left (x ∷ xs) ys (suc k) d h = get_left xs ys k d (omega arith)

get_here : (xs ys : List ℕ) (c d : ℕ) → get_or (xs ++ c ∷ ys) (length xs) d ≡ c
get_here [] ys c d = refl
get_here (x ∷ xs) ys c d = get_here xs ys c d

take_left : (xs ys : List ℕ) → take (length xs) (xs ++ ys) ≡ xs
take_left [] ys = refl
take_left (x ∷ xs) ys = ap (λ (l : List ℕ). x ∷ l) (take_left xs ys)

drop_right : (xs ys : List ℕ) (c : ℕ) → drop (suc (length xs)) (xs ++ c ∷ ys) ≡ ys
drop_right [] ys c = refl
drop_right (x ∷ xs) ys c = drop_right xs ys c

joined_length : (xs ys : List ℕ) → length xs ≤ length (xs ++ ys)
joined_length [] ys = omega arith
joined_length (x ∷ xs) ys = let rest = joined_length xs ys in omega arith

colon_at : (a : ℕ) (rest : List ℕ) → a < 2 ^ 64 → position_or_len is_colon (decimal a ++ 58 ∷ rest) ≡ length (decimal a)
colon_at a rest fits =
    let (numeral, value) = decimal_is_IsNumeral a fits in
    position_or_len_is is_colon (decimal a ++ 58 ∷ rest) (length (decimal a)) 0 (joined_length (decimal a) (58 ∷ rest))
    (λ k below. let range = digit_at (decimal a) k numeral.1 below in
    rw (get_left (decimal a) (58 ∷ rest) k 0 below) (ne_eqb (get_or (decimal a) k 0) 58 (λ e. omega arith)))
    (λ below. rw (get_here (decimal a) rest 58 0) refl)

pub before_decimal : (a : ℕ) (rest : List ℕ) → a < 2 ^ 64 → before_first is_colon (decimal a ++ 58 ∷ rest) ≡ decimal a
before_decimal a rest fits = ap (λ n. take n (decimal a ++ 58 ∷ rest)) (colon_at a rest fits) ∙ take_left (decimal a) (58 ∷ rest)

pub behind_decimal : (a : ℕ) (rest : List ℕ) → a < 2 ^ 64 → after_first is_colon (decimal a ++ 58 ∷ rest) ≡ rest
behind_decimal a rest fits =
    let at = colon_at a rest fits in
    let one : position_or_len is_colon (decimal a ++ 58 ∷ rest) + 1 ≡ suc (length (decimal a)) = omega arith in
    ap (λ n. drop n (decimal a ++ 58 ∷ rest)) one ∙ drop_right (decimal a) rest 58

number_written : (a b : ℕ) → a < 65536 → b < 65536 → number_of (decimal a ++ 58 ∷ decimal b) ≡ Some (a * 65536 + b)
number_written a b fa fb =
    rw (
      before_decimal a (decimal b) (omega arith),
      behind_decimal a (decimal b) (omega arith),
      below_decimal 65536 (omega arith) a fa,
      below_decimal 65536 (omega arith) b fb,
    ) refl

drop_short : (xs : List ℕ) (n : ℕ) → 0 < length (drop n xs) → n < length xs
drop_short [] zero h = h
drop_short [] (suc n) h = absurd (let none : 0 < 0 = h in omega arith)
drop_short (x ∷ xs) zero h = omega arith
drop_short (x ∷ xs) (suc n) h = let rest = drop_short xs n h in omega arith

-- a text with something after its first colon is what stands before it, the colon, and that
pub cut_at_colon : (text : List ℕ) → 0 < length (after_first is_colon text) → text ≡ before_first is_colon text ++ 58 ∷ after_first is_colon text
cut_at_colon text long =
    let within : position_or_len is_colon text < length text = (let far = drop_short text (position_or_len is_colon text + 1) long in omega arith) in
    let colon : get_or text (position_or_len is_colon text) 0 ≡ 58 = eqb-true _ 58 (passes_at_first is_colon text 0 within) in
    split_at_first is_colon text 0 within ∙ ap (λ c. before_first is_colon text ++ c ∷ after_first is_colon text) colon

number_form : (text : List ℕ) (n : ℕ) → number_of text ≡ Some n → IsNumberText text n
number_form text n e = go (half_of (before_first is_colon text)) refl (half_of (after_first is_colon text)) refl e
  where
    go : (x : Option ℕ) → half_of (before_first is_colon text) ≡ x → (y : Option ℕ) → half_of (after_first is_colon text) ≡ y → joined x y ≡ Some n
        → IsNumberText text n
    go None hx y hy found = absurd (let h : None ≡ Some n = found in cc)
    go (Some a) hx None hy found = absurd (let h : None ≡ Some n = found in cc)
    go (Some a) hx (Some b) hy found =
        let (fa, before) = below_some 65536 (omega arith) (before_first is_colon text) a hx in
        let (fb, behind) = below_some 65536 (omega arith) (after_first is_colon text) b hy in
        let long : 0 < length (after_first is_colon text) = subst (λ (l : List ℕ). 0 < length l) (sym behind) (decimal_nonempty b (omega arith)) in
        let whole : text ≡ decimal a ++ 58 ∷ decimal b =
        cut_at_colon text long ∙ ap (λ l. l ++ 58 ∷ after_first is_colon text) before ∙ ap (λ l. decimal a ++ 58 ∷ l) behind in
        let number : n ≡ a * 65536 + b = (let h : Some (a * 65536 + b) ≡ Some n = found in cc) in
        (a, b, fa, fb, whole, number)

pub numbers_are_read : (text : List ℕ) (n : ℕ) → (number_of text ≡ Some n) ↔ IsNumberText text n
numbers_are_read text n = (
  number_form text n,
  λ (a, b, fa, fb, whole, number). ap number_of whole ∙ number_written a b fa fb ∙ ap (λ m. Some m) (sym number),
)

-- a text without a number
pub no_number : (text : List ℕ) → number_of text ≡ None → IsNoNumber text
no_number text none = λ n number. absurd (let h : None ≡ Some n = sym none ∙ (numbers_are_read text n).1 number in cc)

pub no_number-Decides : (text : List ℕ) → Decides (is_none (number_of text)) (IsNoNumber text)
no_number-Decides text = go (number_of text) refl
  where
    go : (r : Option ℕ) → number_of text ≡ r → Decides (is_none r) (IsNoNumber text)
    go None e = (λ _. no_number text e, λ _. refl)
    go (Some n) e = (λ f. absurd (false≢true f), λ none. absurd (none n ((numbers_are_read text n).0 e)))
