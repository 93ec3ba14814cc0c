-- Classes of services, as a test and as what it decides.
use Rattle.std.proofs.Common.{◌≡◌, ℕ, Bool, true, false, List, Option, Some, None, refl, sym, ap, Decides}
use Rattle.std.proofs.lemmas.Bool.{true≢false}
use Rattle.std.proofs.lemmas.Slice.Eq.{bytes_eq-Decides}
use Rattle.kube_model.specs.Service.{same_class}
use Rattle.mlb_base.proofs.CaseLaws.{fails}

-- what is decided holds where it can't fail
pub by-test : {P : Type 0} → (b : Bool) → Decides b P → ¬ (¬ P) → P
by-test true decides twice = decides.0 refl
by-test false decides twice = absurd (twice (fails false decides refl))

pub same_class-is : (a b : Option (List ℕ)) → Decides (same_class a b) (b ≡ a)
same_class-is None None = (λ _. refl, λ _. refl)
same_class-is None (Some b) = (λ e. absurd (true≢false (sym e)), λ h. absurd (cc))
same_class-is (Some a) None = (λ e. absurd (true≢false (sym e)), λ h. absurd (cc))
same_class-is (Some a) (Some b) =
    let some : List ℕ → Option (List ℕ) = λ x. Some x in
    (λ e. ap some (sym ((bytes_eq-Decides a b).0 e)), λ h. let same : a ≡ b = cc in (bytes_eq-Decides a b).1 same)
