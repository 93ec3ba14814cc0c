use Rattle.std.proofs.Common.{◌∙◌, ap}
use Rattle.serde_json.specs.Written.{has_float}
use Rattle.kube_lines.proofs.LineTexts.{line_is, record_has_float, record_is}
use Rattle.kube_lines.proofs.lines.record_line.Goals as goal

pub written-requires : goal.written-requires
written-requires c = ap has_float c.in_ok-value.ensures ∙ record_has_float c.args.key.now c.args.addresses.now

pub returns : goal.returns
returns c = line_is c.written.result _ _ _ c.written.ensures c.in_ok-value.ensures (record_is c.args.key.now c.args.addresses.now)
