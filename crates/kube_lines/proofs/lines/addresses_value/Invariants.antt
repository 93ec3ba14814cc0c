use Rattle.std.proofs.Common.{◌≡◌, map, take}
use Rattle.serde_json.specs.Data.{string}
use Rattle.serde_json.specs.View.{view}
use Rattle.ip_ranges.specs.AddressText.{canonical_text}
use Rattle.kube_lines.proofs.lines.addresses_value.Given as goal

abbrev pub invariant-loop-address : goal.invariant-loop-address
invariant-loop-address l = map view l.strings.items ≡ map (λ address. string (canonical_text address)) (take l.address-index l.addresses)
