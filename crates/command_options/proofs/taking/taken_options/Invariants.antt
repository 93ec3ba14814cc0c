use Rattle.std.proofs.Common.{◌≡◌, length}
use Rattle.command_options.specs.Options.{texts_of}
use Rattle.command_options.specs.Values.{taken_in}
use Rattle.command_options.proofs.taking.taken_options.Given as goal

abbrev pub invariant-options : goal.invariant-options
invariant-options g l =
    let t = g.G.TakesOptions in
    taken_in t.step (texts_of l.rest) (t.said l.given) ≡ taken_in t.step (texts_of l.words) (t.said l.initial.given)

abbrev pub decreases-options : goal.decreases-options
decreases-options g l = length l.rest
