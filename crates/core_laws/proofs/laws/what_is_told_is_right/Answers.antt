use Rattle.core_laws.proofs.Telling.{reasons_are_right, notes_are_right}
use Rattle.core_laws.proofs.laws.what_is_told_is_right.Goals as goal

pub returns-clause-reasons : goal.returns-clause-reasons
returns-clause-reasons c = reasons_are_right

pub returns-clause-notes : goal.returns-clause-notes
returns-clause-notes c = notes_are_right
