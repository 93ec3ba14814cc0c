-- What holds of the services that are set holds of what each number says.
use Rattle.std.proofs.Common.{ℕ, ◌<◌, ◌%◌, ◌/◌, ◌==◌, nat_lt, Bool, Option, arith}
use Rattle.std.proofs.lemmas.Bool.{cond_both}
use Rattle.std.specs.Prelude.{IfSome, ⊤}
use Rattle.kube_model.specs.declared.object.Object.{Object}
use Rattle.kube_model.specs.declared.object.Object.TheVariants as objects
use Rattle.status_store.specs.declared.change.Edit.{Edit}
use Rattle.status_store.specs.Changes.{OnSet, OnReset}
use Rattle.world_rules.specs.declared.step.Step.{Step}
use Rattle.world_rules.specs.declared.step.Step.TheVariants.{Edit as Edits, Take, Turn, Crash, Restart, Expire}
use Rattle.world_trial.specs.Drawn.{edit_of, crash_of, step_up, step_down, step_by, step_of}
use Rattle.world_trial.specs.Services.{service_of}

-- where an edit sets an object, this holds of it
abbrev pub EditSets : (Object → Type 0) → Edit → Type 0
EditSets P edit = OnSet edit P × OnReset edit P

-- and so it is of a step
abbrev pub Sets : (Object → Type 0) → Step → Type 0
Sets P (Edits edit) = EditSets P edit
Sets P (Take group) = ⊤
Sets P (Turn outcome) = ⊤
Sets P (Crash applied) = ⊤
Sets P (Restart order) = ⊤
Sets P (Expire group order) = ⊤

module _ (P : Object → Type 0) (services : (y z : ℕ) → y < 48 → P (objects.Service (service_of y z))) where
  abbrev May : Option Step → Type 0
  May step = IfSome step (Sets P)

  edit-sets : (k y z : ℕ) → y < 48 → EditSets P (edit_of k y z)
  edit-sets k y z few = cond_both (nat_lt k 3) _ _ (EditSets P) (λ _. (services y z few, tt)) (λ _. (tt, tt))

  crash-sets : (z : ℕ) → May (crash_of z)
  crash-sets z = cond_both (z == 0) _ _ May (λ _. tt) (λ _. cond_both (z == 1) _ _ May (λ _. tt) (λ _. tt))

  up-sets : (k z : ℕ) → May (step_up k z)
  up-sets k z =
      cond_both (nat_lt k 8) _ _ May (λ _. tt) (λ _.
      cond_both (k == 8) _ _ May (λ _. tt) (λ _.
      cond_both (nat_lt k 14) _ _ May (λ _. tt) (λ _.
      cond_both (k == 14) _ _ May (λ _. tt) (λ _. crash-sets z))))

  down-sets : (k : ℕ) → May (step_down k)
  down-sets k = cond_both (nat_lt k 9) _ _ May (λ _. tt) (λ _. tt)

  by-sets : (k y z : ℕ) (is_up : Bool) → y < 48 → May (step_by k y z is_up)
  by-sets k y z is_up few =
      cond_both (nat_lt k 4) _ _ May (λ _. edit-sets k y z few) (λ _. cond_both is_up _ _ May (λ _. up-sets k z) (λ _. down-sets k))

  pub step-sets : (x : ℕ) (is_up : Bool) → May (step_of x is_up)
  unfolding step_of
  step-sets x is_up = let few : x / 16 % 48 < 48 = omega arith in by-sets (x % 16) (x / 16 % 48) (x / 1024 % 8) is_up few
