use Rattle.line_event_laws.proofs.Shown.{lines_show_numbers}
use Rattle.line_event_laws.proofs.laws.lines_show_numbers.Goals as goal

pub returns : goal.returns
returns c = lines_show_numbers
