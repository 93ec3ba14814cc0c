use Rattle.std.proofs.Common.{◌≡◌, map, take}
use Rattle.serde_json.specs.View.{view}
use Rattle.fence_lines.specs.Lines.{service_data}
use Rattle.fence_lines.proofs.output.named_value.Given as goal

abbrev pub invariant-loop-n : goal.invariant-loop-n
invariant-loop-n l = map view l.services.items ≡ map service_data (take l.n-index l.named)
