-- A checksum in the place that it was computed over as zeros.
use Rattle.std.proofs.Common.{◌≡◌, ℕ, ◌+◌, ◌-◌, ◌<◌, ◌^◌, List, ◌∷◌, ◌++◌, length, sym, ◌∙◌, ap, arith}
use Rattle.std.specs.Int.{w16, to_be_bytes}
use Rattle.std.proofs.lemmas.Nat.{from_be_bytes-to_be_bytes_2}
use Rattle.neigh_frames.specs.Checksum.{plus, sum_from, ones_sum}
use Rattle.neigh_frames.proofs.Carry.{AreBytes, AreBytes-append, AreBytes-cons, plus-zero, plus-complement, sum_from-below, sum_from-plus}
use Rattle.neigh_frames.proofs.Sums.{sum_from-append}

-- a number's two bytes are added as the number
sum_from-number : (sum number : ℕ) (rest : List ℕ) → number < 2 ^ 16 → sum_from sum (to_be_bytes w16 number ++ rest) ≡ sum_from (plus sum number) rest
sum_from-number sum number rest below = ap (λ (n : ℕ). sum_from (plus sum n) rest) (from_be_bytes-to_be_bytes_2 number below)

-- a number in place of the two zeros is added to the sum
sum_from-filled : (pairs number : ℕ) (front rest : List ℕ) → length front ≡ pairs + pairs → AreBytes front → AreBytes rest → number < 2 ^ 16
    → ones_sum (front ++ (to_be_bytes w16 number ++ rest)) ≡ plus (ones_sum (front ++ (to_be_bytes w16 0 ++ rest))) number
sum_from-filled pairs number front rest even f r below =
    let s : sum_from 0 front < 0x1_0000 = sum_from-below 0 front (omega arith) f in
    sum_from-append pairs 0 front (to_be_bytes w16 number ++ rest) even
    ∙ sum_from-number (sum_from 0 front) number rest below
    ∙ sum_from-plus (sum_from 0 front) number rest s below r
    ∙ ap (λ (n : ℕ). plus n number) (sym (
    sum_from-append pairs 0 front (to_be_bytes w16 0 ++ rest) even
    ∙ sum_from-number (sum_from 0 front) 0 rest (omega arith)
    ∙ ap (λ (n : ℕ). sum_from n rest) (plus-zero (sum_from 0 front) s)))

-- where a sum is computed over zeros, its complement in their place makes it ffff
pub ones_sum-complemented : (whole : ℕ → List ℕ) (front rest : List ℕ) (pairs : ℕ) → ((number : ℕ) → whole number ≡ front ++ (to_be_bytes w16 number ++ rest))
    → length front ≡ pairs + pairs → AreBytes front → AreBytes rest → ones_sum (whole (0xffff - ones_sum (whole 0))) ≡ 0xffff
ones_sum-complemented whole front rest pairs is even f r =
    let sum = ones_sum (whole 0) in
    let parts : ones_sum (whole 0) ≡ ones_sum (front ++ (to_be_bytes w16 0 ++ rest)) = ap ones_sum (is 0) in
    let small : sum < 0x1_0000 = rw parts (sum_from-below 0 (front ++ (to_be_bytes w16 0 ++ rest)) (omega arith)
    (AreBytes-append front (to_be_bytes w16 0 ++ rest) f (AreBytes-cons 0 (0 ∷ rest) (omega arith) (AreBytes-cons 0 rest (omega arith) r)))) in
    ap ones_sum (is (0xffff - sum))
    ∙ sum_from-filled pairs (0xffff - sum) front rest even f r (omega arith)
    ∙ ap (λ (n : ℕ). plus n (0xffff - sum)) (sym parts)
    ∙ plus-complement sum small
