use Rattle.std.proofs.Common.{List, ◌++◌, ap, subst, sym, ◌∙◌}
use Rattle.speaker_view.specs.declared.change.ViewChange.{ViewChange}
use Rattle.speaker_machine.specs.declared.transcript.TranscriptEntry.{TranscriptEntry}
use Rattle.speaker_machine.specs.Kept.{WereRoutes}
use Rattle.speaker_machine.specs.Updates.{updates_by}
use Rattle.speaker_machine.proofs.changes.told_since.Goals as goal

pub returns-clause-entries : goal.returns-clause-entries
returns-clause-entries c =
    λ before kept were. c.in_ok-renew_routes.ensures.entries before
    (subst (λ (change : ViewChange). WereRoutes change c.args.standing.now.routes before c.args.view.now c.args.local.now)
    (sym c.of_node-change.ensures) were)
    ∙ ap (λ (es : List TranscriptEntry). es ++ updates_by before c.args.view.now c.args.local.now.node c.args.local.now.next_hops)
    (c.in_ok-entries.ensures.entries before kept)
