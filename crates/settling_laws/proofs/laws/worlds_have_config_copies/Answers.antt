use Rattle.settling_laws.proofs.ConfigKept.{starts_have_config_copies, steps_keep_config_copies}
use Rattle.settling_laws.proofs.laws.worlds_have_config_copies.Goals as goal

pub returns : goal.returns
returns c = record { starts = starts_have_config_copies; steps = steps_keep_config_copies }
