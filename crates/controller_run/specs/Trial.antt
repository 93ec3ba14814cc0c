-- What a trial writes.
use Rattle.std.specs.Prelude.{ℕ, List, [], Option}
use Rattle.kube_model.specs.declared.status.Status.{Status}
use Rattle.kube_model.specs.declared.status.Status.TheVariants.{Done, Usage, OpenFault, ReadFault, WriteFault, BadLine, BadReply, NoReply, Limit, NoMemory}
use Rattle.mlb_edge.specs.Written.{Grows, GrowsInPart}
use Rattle.world_rules.specs.Safe.{IsSafe}
use Rattle.world_trial.specs.Report.{report_of, report_text}
use Rattle.world_trial.specs.Run.{trial_world}

-- the record lines of the services that are stored in the end, by key, and the line of the trial
abbrev pub trial_bytes : ℕ → ℕ → List ℕ
trial_bytes seed steps = report_text (report_of seed steps)

-- What stands written where a trial ends so: the text, a beginning of it and not the whole, or nothing.
abbrev pub TrialEnds : ℕ → ℕ → Status → Option (List ℕ) → Option (List ℕ) → Type 0
TrialEnds seed steps Done before after = Grows before after (trial_bytes seed steps)
TrialEnds seed steps WriteFault before after = GrowsInPart before after (trial_bytes seed steps)
TrialEnds seed steps NoMemory before after = Grows before after []
TrialEnds seed steps Usage before after = ⊥
TrialEnds seed steps (OpenFault lane) before after = ⊥
TrialEnds seed steps (ReadFault lane) before after = ⊥
TrialEnds seed steps (BadLine lane number bytes) before after = ⊥
TrialEnds seed steps (BadReply number bytes) before after = ⊥
TrialEnds seed steps (NoReply put) before after = ⊥
TrialEnds seed steps (Limit what count) before after = ⊥

-- at no moment of the trial are two services recorded with one address, unless they share it by the terms of their marks
abbrev pub IsSafeTrial : ℕ → Type 0
IsSafeTrial seed = (n : ℕ) → IsSafe (trial_world seed n).store
