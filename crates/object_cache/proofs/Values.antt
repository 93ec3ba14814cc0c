-- Values of results, and what they tell.
use Rattle.std.proofs.Common.{◌≡◌, Bool, true, false, cond, not, Option, Result, Ok, Err, IfOk, IsOkAnd, refl, subst}
use Rattle.versioned_map.specs.declared.map.Shown.TheVariants.{Held, PassedOver}
use Rattle.versioned_map.specs.Objects.{is_held}

-- what holds of a result's value holds of what the value is
pub at_value : {T E : Type 0} (P : T → Type 0) (r : Result T E) (x : T) → IfOk r (λ y. y ≡ x) → IsOkAnd r P → P x
at_value P (Ok y) x e p = subst P e p
at_value P (Err d) x e p = absurd p

-- an object is held where it isn't older
pub held-newer : {T : Type 0} (old : Bool) (object : T) (before : Option T) → is_held (cond old (PassedOver object) (Held before)) ≡ not old
held-newer true object before = refl
held-newer false object before = refl
