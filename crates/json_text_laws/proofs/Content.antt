-- What a JSON string gives is UTF-8 where its text is.
use Rattle.std.proofs.Common.{◌≡◌, ℕ, ◌<◌, ◌≤◌, true, false, cond, ◌&&◌, ◌||◌, ◌==◌, nat_lt, List, [], ◌∷◌, ◌++◌, length, get_or, Option, Some}
use Rattle.std.proofs.Common.{None, option_and_then, IfSome, inl, inr, refl, sym, subst, arith, append_assoc, append-nil, length-append, ◌⊎◌}
use Rattle.std.proofs.Math.Seq.{take-append_seam, drop-append_seam, get_or-append_seam}
use Rattle.std.proofs.lemmas.Bool.{and_parts, and_cases, or_cases, cases_lt, cond_both, eqb-true, ltb-true}
use Rattle.std.proofs.lemmas.Bool.{ltb-false, leb-true, leb-false, le-ltb, le-leb, lt-ltb}
use Rattle.std.proofs.lemmas.Option.{cond_some}
use Rattle.std.proofs.lemmas.Str.{IsUtf8-append, IsUtf8-encode, IsUtf8-take, IsUtf8-drop, IsCharBoundary-before_ascii, IsCharBoundary-after_ascii, encode_ascii}
use Rattle.std.specs.Char.{IsScalar, encode_utf8, digit_value, is_digit}
use Rattle.std.specs.Str.{IsUtf8}
use lib.Utf8.{low_scalar}
use Rattle.json.specs.Text.{code_unit, short_escape, is_high_surrogate, is_low_surrogate, surrogate_pair}
use Rattle.json.specs.Text.{Within, plain, after_backslash, after_u, after_high, prepend, content}

-- ---- texts and ASCII

-- what follows an ASCII byte
pub behind_ascii : (x : ℕ) (xs : List ℕ) → x < 128 → IsUtf8 (x ∷ xs) → IsUtf8 xs
behind_ascii x xs low u = IsUtf8-drop (x ∷ xs) 1 u (IsCharBoundary-after_ascii (x ∷ xs) 0 u (omega arith) low)

-- what stands on both sides of an ASCII byte
beside_ascii : (xs ys : List ℕ) (x : ℕ) → x < 128 → IsUtf8 (xs ++ x ∷ ys) → IsUtf8 xs × IsUtf8 ys
beside_ascii xs ys x low u =
    let all : List ℕ = xs ++ x ∷ ys in
    let there : get_or all (length xs) 0 < 128 = subst (λ c. c < 128) (sym (get_or-append_seam xs x ys 0)) low in
    let cut = IsCharBoundary-before_ascii all (length xs) (omega (arith, length-append xs (x ∷ ys))) there in (
      subst IsUtf8 (take-append_seam xs (x ∷ ys)) (IsUtf8-take all (length xs) u cut),
      behind_ascii x ys low (subst IsUtf8 (drop-append_seam xs (x ∷ ys)) (IsUtf8-drop all (length xs) u cut)),
    )

ascii_text : (c : ℕ) → c < 128 → IsUtf8 (c ∷ [])
ascii_text c low = subst IsUtf8 (encode_ascii c low) (IsUtf8-encode c (low_scalar c (omega arith)))

-- ---- escapes

hex_ascii : (c : ℕ) → is_digit c 16 ≡ true → c < 128
hex_ascii c e = elim (cases_lt c 123) [
  | inl low ↦ omega arith
  | inr high ↦
      let none : digit_value c ≡ 36 =
      rw (
        le-ltb c 48 (omega arith),
        le-ltb c 58 (omega arith),
        le-ltb c 65 (omega arith),
        le-ltb c 91 (omega arith),
        le-ltb c 97 (omega arith),
        le-ltb c 123 high,
      ) refl in
      let digit = ltb-true (digit_value c) 16 e in
      absurd (omega arith)
]

record Unit16 (a b c d u : ℕ) : Type 0 where
  first : a < 128
  second : b < 128
  third : c < 128
  fourth : d < 128
  fits : u < 65536

unit_of : (a b c d u : ℕ) → code_unit a b c d ≡ Some u → Unit16 a b c d u
unfolding code_unit
unit_of a b c d u e =
    let both = cond_some _ _ u e in
    let three = and_parts _ _ both.0 in
    let two = and_parts _ _ three.0 in
    let one = and_parts _ _ two.0 in
    let value_a = ltb-true (digit_value a) 16 one.0 in
    let value_b = ltb-true (digit_value b) 16 one.1 in
    let value_c = ltb-true (digit_value c) 16 two.1 in
    let value_d = ltb-true (digit_value d) 16 three.1 in
    record { first = hex_ascii a one.0; second = hex_ascii b one.1; third = hex_ascii c two.1; fourth = hex_ascii d three.1; fits = omega (arith, both.1) }

-- what stands after four hex digits
behind_four : (a b c d u : ℕ) (xs : List ℕ) → Unit16 a b c d u → IsUtf8 (a ∷ b ∷ c ∷ d ∷ xs) → IsUtf8 xs
behind_four a b c d u xs h t =
    behind_ascii d xs h.fourth (behind_ascii c (d ∷ xs) h.third (behind_ascii b (c ∷ d ∷ xs) h.second (behind_ascii a (b ∷ c ∷ d ∷ xs) h.first t)))

high_scalar : (c : ℕ) → 57344 ≤ c → c < 1114112 → IsScalar c
high_scalar c low top = rw (le-ltb c 55296 (omega arith), le-leb 57344 c low, lt-ltb c 1114112 top) refl

no_surrogate : (u : ℕ) → u < 65536 → is_high_surrogate u ≡ false → is_low_surrogate u ≡ false → (u < 55296) ⊎ (57344 ≤ u)
no_surrogate u fits high low = elim (and_cases _ _ high) [
  | inl below ↦ inl (leb-false 55296 u below)
  | inr above ↦
      let past : 56320 ≤ u = ltb-false u 56320 above in
      elim (and_cases _ _ low) [ inl lower ↦ let less = leb-false 56320 u lower in absurd (omega arith) | inr beyond ↦ inr (ltb-false u 57344 beyond) ]
]

unit_text : (u : ℕ) → u < 65536 → is_high_surrogate u ≡ false → is_low_surrogate u ≡ false → IsUtf8 (encode_utf8 u)
unit_text u fits high low =
    elim (no_surrogate u fits high low) [ inl below ↦ IsUtf8-encode u (low_scalar u below) | inr above ↦ IsUtf8-encode u (high_scalar u above (omega arith)) ]

pair_text : (h l : ℕ) → is_high_surrogate h ≡ true → is_low_surrogate l ≡ true → IsUtf8 (encode_utf8 (surrogate_pair h l))
pair_text h l high low =
    let first = and_parts _ _ high in
    let second = and_parts _ _ low in
    let from_h = leb-true 55296 h first.0 in
    let to_h = ltb-true h 56320 first.1 in
    let from_l = leb-true 56320 l second.0 in
    let to_l = ltb-true l 57344 second.1 in
    IsUtf8-encode (surrogate_pair h l) (high_scalar (surrogate_pair h l) (omega arith) (omega arith))

-- ---- strings

then_has : {A B : Type 0} (o : Option A) (f : A → Option B) (P : B → Type 0) → ((x : A) → o ≡ Some x → IfSome (f x) P) → IfSome (option_and_then f o) P
then_has None f P each = tt
then_has (Some x) f P each = each x refl

prepended : (piece : List ℕ) (r : Option (List ℕ)) → IsUtf8 piece → IfSome r IsUtf8 → IfSome (prepend piece r) IsUtf8
prepended piece None u h = tt
prepended piece (Some s) u h = IsUtf8-append piece s u h

beyond : (before piece : List ℕ) (r : Option (List ℕ)) → IfSome r (λ s. IsUtf8 ((before ++ piece) ++ s)) → IfSome (prepend piece r) (λ s. IsUtf8 (before ++ s))
beyond before piece None h = tt
beyond before piece (Some s) h = subst IsUtf8 (append_assoc before piece s) h

joined : (before : List ℕ) (r : Option (List ℕ)) → IsUtf8 before → IfSome r IsUtf8 → IfSome r (λ s. IsUtf8 (before ++ s))
joined before None u h = tt
joined before (Some s) u h = IsUtf8-append before s u h

record Escaped (x c : ℕ) : Type 0 where
  source : x < 128
  target : c < 128

itself : (x : ℕ) → (((x == 34) || (x == 92)) || (x == 47)) ≡ true → Escaped x x
itself x e =
    let low : x < 128 = elim (or_cases ((x == 34) || (x == 92)) (x == 47) e) [
      | inl two ↦ elim (or_cases (x == 34) (x == 92) two) [
        | inl is ↦ (let same = eqb-true x 34 is in omega arith)
        | inr is ↦ (let same = eqb-true x 92 is in omega arith)
      ]
      | inr is ↦ (let same = eqb-true x 47 is in omega arith)
    ] in
    record { source = low; target = low }

named : (x code c : ℕ) (rest : Option ℕ) → code < 128 → c < 128 → IfSome rest (λ c. Escaped x c) → IfSome (cond (x == code) (Some c) rest) (λ c. Escaped x c)
named x code c rest low small more =
    cond_both (x == code) (Some c) rest (λ r. IfSome r (λ c. Escaped x c))
    (λ e. let same = eqb-true x code e in record { source = omega arith; target = small }) (λ _. more)

escaped : (x : ℕ) → IfSome (short_escape x) (λ c. Escaped x c)
unfolding short_escape
escaped x =
    cond_both (((x == 34) || (x == 92)) || (x == 47)) (Some x) _ (λ r. IfSome r (λ c. Escaped x c)) (λ e. itself x e)
    (λ _. named x 98 8 _ (omega arith) (omega arith) (named x 102 12 _ (omega arith) (omega arith)
    (named x 110 10 _ (omega arith) (omega arith) (named x 114 13 _ (omega arith) (omega arith) (named x 116 9 None (omega arith) (omega arith) tt)))))

-- What the string gives is UTF-8, with what was read before it.
abbrev Reads : Within → List ℕ → Type 0
Reads plain xs = (before : List ℕ) → IsUtf8 (before ++ xs) → IfSome (content plain xs) (λ s. IsUtf8 (before ++ s))
Reads after_backslash xs = IsUtf8 xs → IfSome (content after_backslash xs) IsUtf8
Reads after_u xs = IsUtf8 xs → IfSome (content after_u xs) IsUtf8
Reads (after_high h) xs = is_high_surrogate h ≡ true → IsUtf8 xs → IfSome (content (after_high h) xs) IsUtf8

plain_step : (x : ℕ) (xs : List ℕ) → Reads plain xs → Reads after_backslash xs → Reads plain (x ∷ xs)
unfolding content
plain_step x xs next slash before u =
    cond_both (x == 34) (Some []) _ (λ r. IfSome r (λ s. IsUtf8 (before ++ s)))
    (λ e. subst IsUtf8 (sym (append-nil before)) (beside_ascii before xs x (let same = eqb-true x 34 e in omega arith) u).0) (λ _.
    cond_both (x == 92) (content after_backslash xs) _ (λ r. IfSome r (λ s. IsUtf8 (before ++ s)))
    (λ e. let both = beside_ascii before xs x (let same = eqb-true x 92 e in omega arith) u in joined before _ both.0 (slash both.1)) (λ _.
    cond_both (nat_lt x 32) None _ (λ r. IfSome r (λ s. IsUtf8 (before ++ s))) (λ _. tt)
    (λ _. beyond before (x ∷ []) _ (next (before ++ x ∷ []) (subst IsUtf8 (sym (append_assoc before (x ∷ []) xs)) u)))))

backslash_step : (x : ℕ) (xs : List ℕ) → Reads plain xs → Reads after_u xs → Reads after_backslash (x ∷ xs)
unfolding content
backslash_step x xs next unit u =
    cond_both (x == 117) (content after_u xs) _ (λ r. IfSome r IsUtf8)
    (λ e. unit (behind_ascii x xs (let same = eqb-true x 117 e in omega arith) u))
    (λ _. by (short_escape x) (escaped x))
  where
    by : (o : Option ℕ) → IfSome o (λ c. Escaped x c) → IfSome (option_and_then (λ c. prepend (c ∷ []) (content plain xs)) o) IsUtf8
    by None h = tt
    by (Some c) h = prepended (c ∷ []) _ (ascii_text c h.target) (next [] (behind_ascii x xs h.source u))

unit_step : (a b c d : ℕ) (xs : List ℕ) → Reads plain xs → ((h : ℕ) → Reads (after_high h) xs) → Reads after_u (a ∷ b ∷ c ∷ d ∷ xs)
unfolding content
unit_step a b c d xs next high t = then_has (code_unit a b c d) _ IsUtf8 (λ u e.
    let is = unit_of a b c d u e in
    let rest = behind_four a b c d u xs is t in
    cond_both (is_high_surrogate u) (content (after_high u) xs) _ (λ r. IfSome r IsUtf8) (λ up. high u up rest) (λ not_high.
    cond_both (is_low_surrogate u) None _ (λ r. IfSome r IsUtf8) (λ _. tt)
    (λ not_low. prepended (encode_utf8 u) _ (unit_text u is.fits not_high not_low) (next [] rest))))

high_step : (h s v a b c d : ℕ) (xs : List ℕ) → Reads plain xs → Reads (after_high h) (s ∷ v ∷ a ∷ b ∷ c ∷ d ∷ xs)
unfolding content
high_step h s v a b c d xs next high t =
    cond_both ((s == 92) && (v == 117)) _ None (λ r. IfSome r IsUtf8)
    (λ e.
    let both = and_parts _ _ e in
    let slash = eqb-true s 92 both.0 in
    let letter = eqb-true v 117 both.1 in
    let digits = behind_ascii v (a ∷ b ∷ c ∷ d ∷ xs) (omega arith) (behind_ascii s (v ∷ a ∷ b ∷ c ∷ d ∷ xs) (omega arith) t) in
    then_has (code_unit a b c d) _ IsUtf8 (λ l is.
    cond_both (is_low_surrogate l) _ None (λ r. IfSome r IsUtf8)
    (λ low. prepended (encode_utf8 (surrogate_pair h l)) _ (pair_text h l high low) (next [] (behind_four a b c d l xs (unit_of a b c d l is) digits)))
    (λ _. tt)))
    (λ _. tt)

content_reads : (w : Within) (xs : List ℕ) → Reads w xs
unfolding content
content_reads plain [] = λ before u. tt
content_reads plain (x ∷ xs) = plain_step x xs (content_reads plain xs) (content_reads after_backslash xs)
content_reads after_backslash [] = λ u. tt
content_reads after_backslash (x ∷ xs) = backslash_step x xs (content_reads plain xs) (content_reads after_u xs)
content_reads after_u [] = λ u. tt
content_reads after_u (a ∷ []) = λ u. tt
content_reads after_u (a ∷ b ∷ []) = λ u. tt
content_reads after_u (a ∷ b ∷ c ∷ []) = λ u. tt
content_reads after_u (a ∷ b ∷ c ∷ d ∷ xs) = unit_step a b c d xs (content_reads plain xs) (λ h. content_reads (after_high h) xs)
content_reads (after_high h) [] = λ high u. tt
content_reads (after_high h) (s ∷ []) = λ high u. tt
content_reads (after_high h) (s ∷ v ∷ []) = λ high u. tt
content_reads (after_high h) (s ∷ v ∷ a ∷ []) = λ high u. tt
content_reads (after_high h) (s ∷ v ∷ a ∷ b ∷ []) = λ high u. tt
content_reads (after_high h) (s ∷ v ∷ a ∷ b ∷ c ∷ []) = λ high u. tt
content_reads (after_high h) (s ∷ v ∷ a ∷ b ∷ c ∷ d ∷ xs) = high_step h s v a b c d xs (content_reads plain xs)

pub content_text : (xs : List ℕ) → IsUtf8 xs → IfSome (content plain xs) IsUtf8
content_text xs u = content_reads plain xs [] u
