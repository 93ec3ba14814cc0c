-- What is read of a hardware address's text is what the text writes.
use Rattle.std.proofs.Common.{◌≡◌, ℕ, zero, suc, ◌+◌, ◌*◌, ◌<◌, Bool, true, false, ◌&&◌, cond, eqb, eqb-true, List, []}
use Rattle.std.proofs.Common.{◌∷◌, length, slice_index, Option, Some, None, Result, Ok, Err, refl, sym, ap, subst, arith}
use Rattle.std.specs.Prelude.{⊤}
use Rattle.std.specs.Result.{result_ok}
use Rattle.hex.specs.Hex.{hex_digit_value, digit_or_error, pair_value, decode_pairs, decode_sized, ◌>>=◌}
use Rattle.hex.specs.declared.error.FromHexError.{FromHexError}
use Rattle.speaker_words.specs.Interface.{WriteOctet, IsMac, is_paired, digits_of, mac_of}

-- ---- pairs of digits
octet-of : (a b i octet : ℕ) → pair_value a b i ≡ Ok octet → WriteOctet a b octet
octet-of a b i octet e = by (hex_digit_value a) (hex_digit_value b) refl refl e where
  by : (h l : Option ℕ) → hex_digit_value a ≡ h → hex_digit_value b ≡ l
      → (digit_or_error a i h >>= λ high. digit_or_error b (i + 1) l >>= λ low. Ok (high * 16 + low)) ≡ Ok octet → WriteOctet a b octet
  by None l t u f = absurd (cc)
  by (Some high) None t u f = absurd (cc)
  by (Some high) (Some low) t u f =
      let value : high * 16 + low ≡ octet = cc in
      record { high = high; low = low; first_digit = t; second_digit = u; value = sym value }

octet-read : (a b i octet : ℕ) → WriteOctet a b octet → pair_value a b i ≡ Ok octet
octet-read a b i octet w = rw (w.first_digit, w.second_digit) (ap Ok (sym w.value))

-- the digits write the octets, pair by pair
abbrev WriteAll : List ℕ → List ℕ → Type 0
WriteAll [] [] = ⊤
WriteAll [] (octet ∷ octets) = ⊥
WriteAll (a ∷ []) octets = ⊥
WriteAll (a ∷ b ∷ digits) [] = ⊥
WriteAll (a ∷ b ∷ digits) (octet ∷ octets) = WriteOctet a b octet × WriteAll digits octets

-- what both steps of a reading gave
both-read : (first : Result ℕ FromHexError) (rest : Result (List ℕ) FromHexError) (octets : List ℕ)
    → (first >>= λ octet. rest >>= λ more. Ok (octet ∷ more)) ≡ Ok octets
    → (octet : ℕ) × (more : List ℕ) × (first ≡ Ok octet) × (rest ≡ Ok more) × (octets ≡ octet ∷ more)
both-read (Err e) rest octets f = absurd (cc)
both-read (Ok octet) (Err e) octets f = absurd (cc)
both-read (Ok octet) (Ok more) octets f = let is : octet ∷ more ≡ octets = cc in (octet, more, refl, refl, sym is)

read-write : (i : ℕ) (digits octets : List ℕ) → decode_pairs i digits ≡ Ok octets → WriteAll digits octets
unfolding decode_pairs
read-write i [] [] e = tt
read-write i [] (octet ∷ octets) e = absurd (cc)
read-write i (a ∷ []) octets e = absurd (cc)
read-write i (a ∷ b ∷ digits) octets e =
    let (octet, more, first, rest, are) = both-read (pair_value a b i) (decode_pairs (i + 2) digits) octets e in
    subst (λ (os : List ℕ). WriteAll (a ∷ b ∷ digits) os) (sym are) (octet-of a b i octet first, read-write (i + 2) digits more rest)

write-read : (i : ℕ) (digits octets : List ℕ) → WriteAll digits octets → decode_pairs i digits ≡ Ok octets
unfolding decode_pairs
write-read i [] [] w = refl
write-read i [] (octet ∷ octets) w = absurd w
write-read i (a ∷ []) octets w = absurd w
write-read i (a ∷ b ∷ digits) [] w = absurd w
write-read i (a ∷ b ∷ digits) (octet ∷ octets) w = rw (octet-read a b i octet w.0, write-read (i + 2) digits octets w.1) refl

-- ---- six octets
-- what holds below six
below_six : (P : ℕ → Type 0) → P 0 → P 1 → P 2 → P 3 → P 4 → P 5 → (k : ℕ) → k < 6 → P k
below_six P a b c d e f zero lt = a
below_six P a b c d e f (suc zero) lt = b
below_six P a b c d e f (suc (suc zero)) lt = c
below_six P a b c d e f (suc (suc (suc zero))) lt = d
below_six P a b c d e f (suc (suc (suc (suc zero)))) lt = e
below_six P a b c d e f (suc (suc (suc (suc (suc zero))))) lt = f
below_six P a b c d e f (suc (suc (suc (suc (suc (suc k)))))) lt = absurd (omega (arith, lt))

-- what is written by six pairs of digits
octets-at : (text mac : List ℕ) → WriteAll (digits_of text) mac
    → (length mac ≡ 6) × ((k : ℕ) → k < 6 → WriteOctet (slice_index text (3 * k)) (slice_index text (3 * k + 1)) (slice_index mac k))
octets-at text [] w = absurd w
octets-at text (a ∷ []) w = absurd w.1
octets-at text (a ∷ b ∷ []) w = absurd w.1.1
octets-at text (a ∷ b ∷ c ∷ []) w = absurd w.1.1.1
octets-at text (a ∷ b ∷ c ∷ d ∷ []) w = absurd w.1.1.1.1
octets-at text (a ∷ b ∷ c ∷ d ∷ e ∷ []) w = absurd w.1.1.1.1.1
octets-at text (a ∷ b ∷ c ∷ d ∷ e ∷ f ∷ []) w =
    let mac : List ℕ = a ∷ b ∷ c ∷ d ∷ e ∷ f ∷ [] in (
      refl,
      below_six (λ (k : ℕ). WriteOctet (slice_index text (3 * k)) (slice_index text (3 * k + 1)) (slice_index mac k)) w.0 w.1.0 w.1.1.0 w.1.1.1.0
          w.1.1.1.1.0 w.1.1.1.1.1.0,
    )
octets-at text (a ∷ b ∷ c ∷ d ∷ e ∷ f ∷ g ∷ mac) w = absurd w.1.1.1.1.1.1

all-write : (text mac : List ℕ) → IsMac text mac → WriteAll (digits_of text) mac
all-write text mac is = of mac is.six is.octets where
  of : (mac : List ℕ) → length mac ≡ 6 → ((k : ℕ) → k < 6 → WriteOctet (slice_index text (3 * k)) (slice_index text (3 * k + 1)) (slice_index mac k))
      → WriteAll (digits_of text) mac
  of (a ∷ b ∷ c ∷ d ∷ e ∷ f ∷ []) six octets = (
    octets 0 (omega arith),
    (octets 1 (omega arith), (octets 2 (omega arith), (octets 3 (omega arith), (octets 4 (omega arith), (octets 5 (omega arith), tt))))),
  )
  of [] six octets = absurd (omega (arith, six))
  of (a ∷ []) six octets = absurd (omega (arith, six))
  of (a ∷ b ∷ []) six octets = absurd (omega (arith, six))
  of (a ∷ b ∷ c ∷ []) six octets = absurd (omega (arith, six))
  of (a ∷ b ∷ c ∷ d ∷ []) six octets = absurd (omega (arith, six))
  of (a ∷ b ∷ c ∷ d ∷ e ∷ []) six octets = absurd (omega (arith, six))
  of (a ∷ b ∷ c ∷ d ∷ e ∷ f ∷ g ∷ mac) six octets = absurd (omega (arith, six))

-- ---- the pairs' places
six-parts : (a b c d e f : Bool) → (a && b && c && d && e && f) ≡ true → (a ≡ true) × (b ≡ true) × (c ≡ true) × (d ≡ true) × (e ≡ true) × (f ≡ true)
six-parts true true true true true f is = (refl, refl, refl, refl, refl, is)
six-parts true true true true false f is = absurd (cc)
six-parts true true true false e f is = absurd (cc)
six-parts true true false d e f is = absurd (cc)
six-parts true false c d e f is = absurd (cc)
six-parts false b c d e f is = absurd (cc)

below_five : (P : ℕ → Type 0) → P 0 → P 1 → P 2 → P 3 → P 4 → (k : ℕ) → k < 5 → P k
below_five P a b c d e zero lt = a
below_five P a b c d e (suc zero) lt = b
below_five P a b c d e (suc (suc zero)) lt = c
below_five P a b c d e (suc (suc (suc zero))) lt = d
below_five P a b c d e (suc (suc (suc (suc zero)))) lt = e
below_five P a b c d e (suc (suc (suc (suc (suc k))))) lt = absurd (omega (arith, lt))

pub read-mac : (text mac : List ℕ) → mac_of text ≡ Some mac → IsMac text mac
unfolding mac_of
read-mac text mac e = by (is_paired text) refl e where
  ok-of : (r : Result (List ℕ) FromHexError) → result_ok r ≡ Some mac → r ≡ Ok mac
  ok-of (Ok x) f = let is : x ≡ mac = cc in ap Ok is
  ok-of (Err x) f = absurd (cc)

  by : (b : Bool) → is_paired text ≡ b → cond b (result_ok (decode_sized (digits_of text) 6)) None ≡ Some mac → IsMac text mac
  by false t f = absurd (cc)
  by true t f =
      let (long, a, b, c, d, e) = six-parts (eqb (length text) 17) (eqb (slice_index text 2) 58) (eqb (slice_index text 5) 58) (eqb (slice_index text 8) 58)
      (eqb (slice_index text 11) 58) (eqb (slice_index text 14) 58) t in
      let write = octets-at text mac (read-write 0 (digits_of text) mac (ok-of (decode_sized (digits_of text) 6) f)) in
      record {
        long = eqb-true (length text) 17 long;
        six = write.0;
        colons = below_five (λ (k : ℕ). slice_index text (3 * k + 2) ≡ 58) (eqb-true _ 58 a) (eqb-true _ 58 b) (eqb-true _ 58 c) (eqb-true _ 58 d)
            (eqb-true _ 58 e);
        octets = write.1;
      }

pub mac-read : (text mac : List ℕ) → IsMac text mac → mac_of text ≡ Some mac
unfolding mac_of
mac-read text mac is =
    let a : slice_index text 2 ≡ 58 = is.colons 0 (omega arith) in
    let b : slice_index text 5 ≡ 58 = is.colons 1 (omega arith) in
    let c : slice_index text 8 ≡ 58 = is.colons 2 (omega arith) in
    let d : slice_index text 11 ≡ 58 = is.colons 3 (omega arith) in
    let e : slice_index text 14 ≡ 58 = is.colons 4 (omega arith) in
    rw (is.long, a, b, c, d, e) (ap result_ok (write-read 0 (digits_of text) mac (all-write text mac is)))
