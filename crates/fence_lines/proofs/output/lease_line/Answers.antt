use Rattle.std.proofs.Common.{◌∙◌, ap}
use Rattle.serde_json.specs.Written.{has_float}
use Rattle.fence_lines.proofs.Texts.{lease_has_float}
use Rattle.fence_lines.proofs.output.lease_line.Goals as goal

pub written-requires : goal.written-requires
written-requires c = ap has_float c.in_ok-value.ensures ∙ lease_has_float c.args.known.now
