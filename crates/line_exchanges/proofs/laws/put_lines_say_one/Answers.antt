use Rattle.line_exchanges.proofs.Puts.{put_lines_say_one}
use Rattle.line_exchanges.proofs.laws.put_lines_say_one.Goals as goal

pub returns : goal.returns
returns c = put_lines_say_one
