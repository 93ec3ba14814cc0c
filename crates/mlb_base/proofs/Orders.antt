-- Two orders, one after the other, and the order of numbers.
use Rattle.std.proofs.Common.{◌≡◌, ℕ, ◌<◌, ◌==◌, false, Ordering, Less, Equal, Greater, refl, arith}
use Rattle.std.proofs.lemmas.Bool.Decides.{nat_tests}
use Rattle.std.specs.Ordering.{nat_cmp, ordering_then}

pub both_equal : (a b : Ordering) → ordering_then a b ≡ Equal → (a ≡ Equal) × (b ≡ Equal)
both_equal Less b e = absurd (cc)
both_equal Equal b e = (refl, e)
both_equal Greater b e = absurd (cc)

pub less_is : (n m : ℕ) → nat_cmp n m ≡ Less → n < m
less_is n m less = grind (arith, nat_tests)

pub less_apart : (n m : ℕ) → nat_cmp n m ≡ Less → (m == n) ≡ false
less_apart n m less = grind (arith, nat_tests)
