use Rattle.announced_set.proofs.Listed.{all_are_announced}
use Rattle.announced_set.proofs.laws.all_are_announced.Goals as goal

pub returns : goal.returns
returns c = all_are_announced
