use Rattle.std.proofs.Common.{◌≡◌, length}
use Rattle.std.specs.Option.{option_map}
use Rattle.neigh_frames.specs.Options.{options_of, sender_in, with_options}
use Rattle.neigh_frames.proofs.options.sender_of.Given as goal

abbrev pub invariant-loop-rest : goal.invariant-loop-rest
invariant-loop-rest l = option_map (with_options l.sender) (options_of l.rest) ≡ option_map sender_in (options_of l.bytes)

abbrev pub decreases-loop-rest : goal.decreases-loop-rest
decreases-loop-rest l = length l.rest
