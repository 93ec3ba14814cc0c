use Rattle.core_drive.proofs.Goes.{drives_are_sound, drives_are_quiet}
use Rattle.core_drive.proofs.Settled.{drives_are_settled}
use Rattle.core_drive.proofs.laws.drives_are_sound.Goals as goal

pub returns-clause-sound : goal.returns-clause-sound
returns-clause-sound c = drives_are_sound

pub returns-clause-quiet : goal.returns-clause-quiet
returns-clause-quiet c = drives_are_quiet

pub returns-clause-settled : goal.returns-clause-settled
returns-clause-settled c = drives_are_settled
