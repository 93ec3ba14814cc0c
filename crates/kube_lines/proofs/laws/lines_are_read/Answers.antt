use Rattle.kube_lines.proofs.Apart.{lines-read}
use Rattle.kube_lines.proofs.laws.lines_are_read.Goals as goal

pub returns : goal.returns
returns c = lines-read
