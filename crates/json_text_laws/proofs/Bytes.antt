-- The bytes of UTF-8 are bytes.
use Rattle.std.proofs.Common.{◌≡◌, ℕ, ◌<◌, suc, zero, List, [], ◌∷◌, ◌++◌, true, get_or, inl, inr, subst, arith}
use Rattle.std.proofs.lemmas.Bool.{and_parts, cond_both, ltb-true}
use Rattle.std.specs.List.{AllByRecursion}
use Rattle.std.specs.Str.{IsUtf8}
use Rattle.mlb_base.proofs.Lists.{all-append}
use lib.Dec.{ltb}
use lib.Utf8.{scalar, scalars, encode, encodes, scalar_cases}

abbrev AreBytes : List ℕ → Type 0
AreBytes = AllByRecursion (λ b. b < 256)

appended : (xs ys : List ℕ) → AreBytes xs → AreBytes ys → AreBytes (xs ++ ys)
appended = all-append (λ (b : ℕ). b < 256)

below_top : (c : ℕ) → scalar c ≡ true → c < 1114112
below_top c s = elim (scalar_cases c s) [ inl low ↦ omega arith | inr high ↦ high.1 ]

encode_bytes : (c : ℕ) → c < 1114112 → AreBytes (encode c)
unfolding encode
encode_bytes c top =
    cond_both (ltb c 128) _ _ AreBytes (λ e. let h = ltb-true c 128 e in (omega arith, tt)) (λ _.
    cond_both (ltb c 2048) _ _ AreBytes (λ e. let h = ltb-true c 2048 e in (omega arith, (omega arith, tt))) (λ _.
    cond_both (ltb c 65536) _ _ AreBytes (λ e. let h = ltb-true c 65536 e in (omega arith, (omega arith, (omega arith, tt)))) (λ _.
    (omega arith, (omega arith, (omega arith, (omega arith, tt)))))))

encodes_bytes : (cs : List ℕ) → scalars cs ≡ true → AreBytes (encodes cs)
encodes_bytes [] s = tt
encodes_bytes (c ∷ cs) s = let both = and_parts _ _ s in appended (encode c) (encodes cs) (encode_bytes c (below_top c both.0)) (encodes_bytes cs both.1)

at : (xs : List ℕ) → AreBytes xs → (i : ℕ) → get_or xs i 0 < 256
at [] h i = omega arith
at (x ∷ xs) h zero = h.0
at (x ∷ xs) h (suc i) = at xs h.1 i

pub utf8_below_256 : (xs : List ℕ) → IsUtf8 xs → (i : ℕ) → get_or xs i 0 < 256
utf8_below_256 xs u = at xs (subst AreBytes u.1.1 (encodes_bytes u.0 u.1.0))
