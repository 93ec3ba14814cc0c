use Rattle.speaker_machine.proofs.Steps.{entries-told}
use Rattle.speaker_machine.proofs.changes.changed_entries.Goals as goal

pub returns-clause-entries : goal.returns-clause-entries
returns-clause-entries c =
    entries-told c.entries_for-entries.result c.args.local.now c.args.note c.args.announcers.now c.args.view.now c.in-Ok.changes.withdrawn.keys
    c.in-Ok.changes.announced.keys
    c.in-Ok.ensures.withdrawn c.in-Ok.ensures.announced c.entries_for-entries.ensures
