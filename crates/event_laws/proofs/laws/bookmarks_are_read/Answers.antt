use Rattle.event_laws.proofs.OtherLaws.{bookmarks_are_read}
use Rattle.event_laws.proofs.laws.bookmarks_are_read.Goals as goal

pub returns : goal.returns
returns c = bookmarks_are_read
