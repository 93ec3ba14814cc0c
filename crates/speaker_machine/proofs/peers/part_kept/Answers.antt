use Rattle.std.proofs.Common.{Some, None, sym, ◌∙◌}
use Rattle.speaker_machine.proofs.Parts.{part-kept}
use Rattle.speaker_machine.proofs.peers.part_kept.Goals as goal

pub returns-in-Some-clause-part : goal.returns-in-Some-clause-part
returns-in-Some-clause-part c =
    λ v right. part-kept c.args.change.now v c.args.kept.now.node c.args.kept.now.both c.args.peer.now (Some c.in-Some.part)
    (sym c.in-Some.is ∙ c.in_ok-part.ensures.part v right)

pub returns-in-None-clause-part : goal.returns-in-None-clause-part
returns-in-None-clause-part c =
    λ v right. c.empty.ensures
    ∙ part-kept c.args.change.now v c.args.kept.now.node c.args.kept.now.both c.args.peer.now None (sym c.in-None.is ∙ c.in_ok-part.ensures.part v right)
