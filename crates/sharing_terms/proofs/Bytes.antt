-- The bytes of a text are bytes.
use Rattle.std.proofs.Common.{◌≡◌, ℕ, zero, suc, ◌+◌, ◌/◌, ◌%◌, ◌<◌, Bool, true, false, cond, ltb, List, []}
use Rattle.std.proofs.Common.{◌∷◌, ◌++◌, IsUtf8, ⊎_elim, refl, sym, subst, arith, lit<, T}
use Rattle.std.proofs.lemmas.Bool.{and_parts}
use Rattle.std.specs.List.{AllByRecursion}
use Rattle.hex.specs.Hex.{IsBytes}
use lib.Dec.{ltb→lt}
use lib.Utf8.{encode, encodes, scalar, scalars, scalar_cases}

abbrev AllBytes : List ℕ → Type 0
AllBytes bytes = AllByRecursion (λ b. b < 256) bytes

all-append : (xs ys : List ℕ) → AllBytes xs → AllBytes ys → AllBytes (xs ++ ys)
all-append [] ys all more = more
all-append (x ∷ xs) ys all more = (all.0, all-append xs ys all.1 more)

-- one to four bytes, by the size of the character
encode_by : (c : ℕ) (one two three : Bool) → ltb c 128 ≡ one → ltb c 2048 ≡ two → ltb c 65536 ≡ three → c < 1114112
    → AllBytes (cond one (c ∷ []) (cond two ((192 + c / 64) ∷ (128 + c % 64) ∷ []) (cond three ((224 + c / 4096) ∷ (128 + c / 64 % 64) ∷ (128 + c % 64) ∷ [])
    ((240 + c / 262144) ∷ (128 + c / 4096 % 64) ∷ (128 + c / 64 % 64) ∷ (128 + c % 64) ∷ []))))
encode_by c true two three a b d below = let small : c < 128 = ltb→lt c 128 (subst T (sym a) tt) in (omega arith, tt)
encode_by c false true three a b d below = let small : c < 2048 = ltb→lt c 2048 (subst T (sym b) tt) in (omega arith, (omega arith, tt))
encode_by c false false true a b d below = let small : c < 65536 = ltb→lt c 65536 (subst T (sym d) tt) in (omega arith, (omega arith, (omega arith, tt)))
encode_by c false false false a b d below = (omega arith, (omega arith, (omega arith, (omega arith, tt))))

encode-bytes : (c : ℕ) → scalar c ≡ true → AllBytes (encode c)
unfolding encode
encode-bytes c s =
    let below : c < 1114112 = ⊎_elim (λ low. omega (arith, low)) (λ high. high.1) (scalar_cases c s) in
    encode_by c (ltb c 128) (ltb c 2048) (ltb c 65536) refl refl refl below

encodes-bytes : (cs : List ℕ) → scalars cs ≡ true → AllBytes (encodes cs)
encodes-bytes [] s = tt
encodes-bytes (c ∷ cs) s =
    let parts = and_parts (scalar c) (scalars cs) s in
    all-append (encode c) (encodes cs) (encode-bytes c parts.0) (encodes-bytes cs parts.1)

at-each : (bytes : List ℕ) → AllBytes bytes → IsBytes bytes
at-each [] all i = lit< tt
at-each (b ∷ bytes) all zero = all.0
at-each (b ∷ bytes) all (suc i) = at-each bytes all.1 i

pub utf8-bytes : (text : List ℕ) → IsUtf8 text → IsBytes text
utf8-bytes text h = subst IsBytes h.1.1 (at-each (encodes h.0) (encodes-bytes h.0 h.1.0))
