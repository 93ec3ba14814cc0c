-- The line of the trial for the same counts.
use Rattle.std.proofs.Common.{◌≡◌, ℕ, refl}
use Rattle.kube_lines.specs.OutputLines.{trial_text}

pub counts-same : (a b s t puts steps : ℕ) → a ≡ b → s ≡ t → trial_text a puts s steps ≡ trial_text b puts t steps
counts-same a b s t puts steps e f = rw (e, f) refl
