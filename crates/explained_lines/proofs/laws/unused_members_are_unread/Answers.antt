use Rattle.explained_lines.proofs.UnreadLaws.{members_are_unread}
use Rattle.explained_lines.proofs.laws.unused_members_are_unread.Goals as goal

pub returns : goal.returns
returns c = members_are_unread
