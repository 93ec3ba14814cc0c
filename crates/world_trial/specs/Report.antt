-- What is told of a trial, and its text.
use Rattle.std.specs.Prelude.{ℕ, List, [], ◌∷◌, ◌++◌, Bool, not, filter, flat_map, length}
use Rattle.ip_ranges.specs.Values.{AddressValue}
use Rattle.kube_lines.specs.OutputLines.{record_text, trial_text}
use Rattle.kube_model.specs.declared.key.Key.{Key}
use Rattle.mlb_base.specs.Items.{is_nil}
use Rattle.world_rules.specs.World.{WorldValue}
use Rattle.world_trial.specs.declared.report.TrialReport.{TrialReport}
use Rattle.world_trial.specs.Begun.{first_world}
use Rattle.world_trial.specs.Draws.{draws}
use Rattle.world_trial.specs.Lines.{lines_in}
use Rattle.world_trial.specs.Run.{after_draws, draws_puts}

-- what is told of so many steps that are drawn from the seed, where a trial begins with this world
abbrev pub report_after : WorldValue → ℕ → ℕ → TrialReport
report_after w seed steps = record {
  records = lines_in (after_draws (draws seed steps) w).store.objects;
  puts = draws_puts (draws seed steps) w;
  steps = steps;
}

-- what is told of a trial
abbrev pub report_of : ℕ → ℕ → TrialReport
report_of seed steps = report_after first_world seed steps

-- ---- its text

-- whether the service has an address
abbrev pub is_assigned : Key × List AddressValue → Bool
is_assigned line = not (is_nil line.1)

-- how many services have one
abbrev pub assigned_in : List (Key × List AddressValue) → ℕ
assigned_in records = length (filter is_assigned records)

-- the line of a service, and its end
unfoldable pub line_text : Key × List AddressValue → List ℕ
line_text line = record_text line.0 line.1 ++ 10 ∷ []

-- the line of the trial
abbrev pub counts_text : TrialReport → List ℕ
counts_text report = trial_text (assigned_in report.records) report.puts (length report.records) report.steps

-- the lines of the services, and then that of the trial
abbrev pub report_text : TrialReport → List ℕ
report_text report = flat_map line_text report.records ++ (counts_text report ++ 10 ∷ [])
