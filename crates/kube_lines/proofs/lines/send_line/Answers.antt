use Rattle.std.proofs.Common.{ap}
use Rattle.serde_json.specs.Written.{has_float}
use Rattle.kube_lines.proofs.LineTexts.{line_is, send_is}
use Rattle.kube_lines.proofs.lines.send_line.Goals as goal

pub written-requires : goal.written-requires
written-requires c = ap has_float c.in_ok-value.ensures

pub returns : goal.returns
returns c = line_is c.written.result _ _ _ c.written.ensures c.in_ok-value.ensures (send_is c.args.interface.now c.args.bytes.now)
