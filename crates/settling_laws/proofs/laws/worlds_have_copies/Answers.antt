use Rattle.settling_laws.proofs.Copies.{starts_have_copies, moves_keep_copies}
use Rattle.settling_laws.proofs.laws.worlds_have_copies.Goals as goal

pub returns : goal.returns
returns c = record { starts = starts_have_copies; moves = moves_keep_copies }
