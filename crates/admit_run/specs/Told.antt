-- Where it is asked what lines are read as, none ends the run.
use Rattle.std.specs.Prelude.{◌≡◌, ℕ, List}
use Rattle.kube_model.specs.declared.status.LaneName.{LaneName}
use Rattle.kube_model.specs.declared.status.Status.{Status}
use Rattle.kube_model.specs.declared.status.Status.TheVariants.{BadLine}
use Rattle.admit_run.specs.Words.{AskExplained}

-- where it is asked what the lines are read as, the run stops at none
abbrev pub StopsAtNone : List (List ℕ) → Status → Type 0
StopsAtNone words status = AskExplained words → (lane : LaneName) (number : ℕ) (bytes : List ℕ) → status ≡ BadLine lane number bytes → ⊥
