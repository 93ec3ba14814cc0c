use Rattle.event_laws.proofs.TellingLaws.{deleted_lines_are_read}
use Rattle.event_laws.proofs.laws.deleted_lines_are_read.Goals as goal

pub returns : goal.returns
returns c = deleted_lines_are_read
