-- What holds where a call that succeeds answers, or leaves behind, a value that is known.
use Rattle.std.proofs.Common.{◌≡◌, Result, Ok, Err, IfOk, sym, subst}
use Rattle.std.specs.Result.{OnOk}

module _ {T E : Type 0} where
  pub if_ok-same : (r : Result T E) (x : T) (P : T → Type 0) → IfOk r (λ y. y ≡ x) → P x → IfOk r P
  if_ok-same (Ok y) x P is holds = subst P (sym is) holds
  if_ok-same (Err e) x P is holds = tt

  pub on_ok-same : {X : Type 0} (r : Result T E) (new x : X) (P : X → Type 0) → OnOk r (new ≡ x) → P x → OnOk r (P new)
  on_ok-same (Ok y) new x P is holds = subst P (sym is) holds
  on_ok-same (Err e) new x P is holds = tt

  -- a call that answers x and leaves behind a value
  pub if_ok-both : {X : Type 0} (r : Result T E) (x : T) (new y : X) (P : T → X → Type 0) → IfOk r (λ z. z ≡ x) → OnOk r (new ≡ y) → P x y
      → IfOk r (λ z. P z new)
  if_ok-both (Ok z) x new y P is left holds = subst (λ (t : T). P t new) (sym is) (subst (P x) (sym left) holds)
  if_ok-both (Err e) x new y P is left holds = tt
