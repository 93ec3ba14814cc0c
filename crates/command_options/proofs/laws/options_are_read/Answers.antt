use Rattle.command_options.proofs.Reading.{options_are_read}
use Rattle.command_options.proofs.laws.options_are_read.Goals as goal

pub returns : goal.returns
returns c = options_are_read
