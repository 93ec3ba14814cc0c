-- What is known of each of two values that were made together.
use Rattle.std.proofs.Common.{◌≡◌, Result, Ok, IfOk}

module _ {A B E : Type 0} where
  pub left_of : (P : A → Type 0) (one : Result A E) (all : Result (A × B) E) (made : A × B)
      → all ≡ Ok made → IfOk all (λ both. one ≡ Ok both.0) → IfOk one P → P made.0
  left_of P one all made e is holds = (rw (rw e at is) at holds)

  pub right_of : (P : B → Type 0) (one : Result B E) (all : Result (A × B) E) (made : A × B)
      → all ≡ Ok made → IfOk all (λ both. one ≡ Ok both.1) → IfOk one P → P made.1
  right_of P one all made e is holds = (rw (rw e at is) at holds)
