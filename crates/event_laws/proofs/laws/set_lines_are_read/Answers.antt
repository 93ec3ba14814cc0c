use Rattle.event_laws.proofs.TellingLaws.{set_lines_are_read}
use Rattle.event_laws.proofs.laws.set_lines_are_read.Goals as goal

pub returns : goal.returns
returns c = set_lines_are_read
