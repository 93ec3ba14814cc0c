use Rattle.std.proofs.Common.{◌≡◌, drop, map}
use Rattle.serde_json.specs.View.{members_view}
use Rattle.kube_lines.specs.OutputLines.{pair_number, with_numbers}
use Rattle.kube_lines.proofs.lines.put_numbers.Given as goal

abbrev pub invariant-loop-name : goal.invariant-loop-name
invariant-loop-name l =
    with_numbers (map pair_number (drop l.name-index l.numbers)) (members_view l.members.entries)
    ≡ with_numbers (map pair_number l.numbers) (members_view l.initial.members.entries)
