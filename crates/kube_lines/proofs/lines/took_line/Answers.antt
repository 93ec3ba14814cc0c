use Rattle.std.proofs.Common.{ap}
use Rattle.serde_json.specs.Written.{has_float}
use Rattle.kube_lines.proofs.LineTexts.{line_is, took_is}
use Rattle.kube_lines.proofs.lines.took_line.Goals as goal

pub written-requires : goal.written-requires
written-requires c = ap has_float c.in_ok-value.ensures

pub returns : goal.returns
returns c = line_is c.written.result _ _ _ c.written.ensures c.in_ok-value.ensures (took_is c.args.lane c.args.number)
