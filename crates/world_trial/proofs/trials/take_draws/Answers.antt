use Rattle.std.proofs.Common.{◌∙◌, ◌<◌, arith}
use Rattle.world_trial.proofs.Continued.{world-left, puts-left}
use Rattle.world_trial.proofs.trials.take_draws.Goals as goal

pub loop-preserved : goal.loop-preserved
loop-preserved c =
    let less : c.loop.counter < c.args.steps = omega arith in
    record {
      world =
          world-left c.loop.state c.args.steps c.loop.counter c.draw.result c.draw.new.state c.loop.world c.take_draw.new.world
          less c.draw.ensures.drawn c.draw.ensures.next c.in_ok-puts.ensures.world ∙ c.loop.invariant.world;
      puts =
          puts-left c.loop.state c.args.steps c.loop.counter c.draw.result c.draw.new.state c.loop.world c.take_draw.new.world
          less c.draw.ensures.drawn c.draw.ensures.next c.in_ok-puts.ensures.world
          c.loop.puts c.in_ok-puts.field-0 c.in_ok-puts.ensures.puts ∙ c.loop.invariant.puts;
      most = omega (arith, c.loop.invariant.most, c.in_ok-puts.ensures.most);
    }
