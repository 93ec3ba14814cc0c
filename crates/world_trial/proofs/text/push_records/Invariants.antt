use Rattle.std.proofs.Common.{◌≡◌, ◌++◌, drop}
use Rattle.std.specs.Prelude.{flat_map, string_bytes}
use Rattle.world_trial.specs.Report.{line_text}
use Rattle.world_trial.proofs.text.push_records.Given as goal

abbrev pub invariant-loop-line : goal.invariant-loop-line
invariant-loop-line l =
    string_bytes l.text ++ flat_map line_text (drop l.line-index l.records) ≡ string_bytes l.fn.text ++ flat_map line_text l.records
