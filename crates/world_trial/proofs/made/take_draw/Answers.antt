use Rattle.world_trial.specs.Run.{after_draw, draw_puts}
use Rattle.world_trial.proofs.made.take_draw.Goals as goal

pub returns-clause-world : goal.returns-clause-world
unfolding after_draw
returns-clause-world c = rw (← c.is_up.ensures, ← c.in_ok-step.ensures) c.take_drawn.ensures.world

pub returns-clause-puts : goal.returns-clause-puts
unfolding draw_puts
returns-clause-puts c = rw (← c.is_up.ensures, ← c.in_ok-step.ensures) c.take_drawn.ensures.puts
