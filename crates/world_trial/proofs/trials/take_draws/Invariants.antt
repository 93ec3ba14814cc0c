use Rattle.std.proofs.Common.{◌≡◌, ◌+◌, ◌-◌, ◌≤◌}
use Rattle.world_trial.specs.Draws.{draws}
use Rattle.world_trial.specs.Run.{after_draws, draws_puts}
use Rattle.world_trial.proofs.trials.take_draws.Given as goal

-- what is made of the draws that are left, and what was made, is what is made of all
abbrev pub invariant-loop : goal.invariant-loop
invariant-loop l =
    record {
      world : after_draws (draws l.state (l.steps - l.counter)) l.world ≡ after_draws (draws l.fn.state l.steps) l.fn.world;
      puts : l.puts + draws_puts (draws l.state (l.steps - l.counter)) l.world ≡ draws_puts (draws l.fn.state l.steps) l.fn.world;
      most : l.puts ≤ l.counter;
    }
