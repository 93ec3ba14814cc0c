use Rattle.std.proofs.Common.{◌≡◌, drop, map}
use Rattle.serde_json.specs.View.{members_view}
use Rattle.kube_lines.specs.OutputLines.{pair_text, with_texts}
use Rattle.kube_lines.proofs.lines.put_texts.Given as goal

abbrev pub invariant-loop-name : goal.invariant-loop-name
invariant-loop-name l =
    with_texts (map pair_text (drop l.name-index l.texts)) (members_view l.members.entries)
    ≡ with_texts (map pair_text l.texts) (members_view l.initial.members.entries)
