-- What tests decide.
use Rattle.std.proofs.Common.{◌≡◌, ◌≤◌, ℕ, Bool, true, false, ◌||◌, not, List, Some, None, refl, Decides}
use Rattle.std.specs.Prelude.{nat_le, if◌then◌else◌}
use Rattle.std.proofs.lemmas.Bool.{false≢true, leb-true, le-leb}

pub Decides-nat_le : (a b : ℕ) → Decides (nat_le a b) (a ≤ b)
Decides-nat_le a b = (leb-true a b, le-leb a b)

-- one fact follows from another
pub Decides-implies : {P Q : Type 0} (x y : Bool) → Decides x P → Decides y Q → Decides (not x || y) (P → Q)
Decides-implies true y dx dy = (λ e p. dy.0 e, λ f. dy.1 (f (dx.0 refl)))
Decides-implies false y dx dy = (λ e p. absurd (false≢true (dx.1 p)), λ f. refl)

-- an answer is given where the test holds
pub answered : (fits : Bool) (reply answer : List ℕ) → (if fits then Some reply else None) ≡ Some answer → (fits ≡ true) × (answer ≡ reply)
answered true reply answer e = (refl, cc)
answered false reply answer e = absurd (cc)
