use Rattle.std.proofs.Common.{Bool, drop}
use Rattle.std.specs.Fn.{FnReturnsAt}
use Rattle.pool_config.specs.Search.{TellsAny}
use Rattle.pool_config.proofs.search.any_passes.Given as goal

abbrev pub invariant-loop-item : goal.invariant-loop-item
invariant-loop-item g l =
    goal.F-IsAlwaysCallable g l.test
    × ((any : Bool) → TellsAny (FnReturnsAt g.F.Fn l.test) (drop l.item-index l.items) any → TellsAny (FnReturnsAt g.F.Fn l.test) l.items any)
