use Rattle.std.proofs.Common.{Option, List, ℕ}
use Rattle.std.specs.Fn.{FnReturnsAt}
use Rattle.pool_config.specs.Objects.{named}
use Rattle.pool_config.specs.Search.{FindsFirst}
use Rattle.pool_config.proofs.search.first_name.Given as goal

abbrev pub invariant-loop-name : goal.invariant-loop-name
invariant-loop-name g l =
    goal.F-IsAlwaysCallable g l.test
    × ((found : Option (List ℕ)) → FindsFirst (FnReturnsAt g.F.Fn l.test) (named l.name-iterator) found
    → FindsFirst (FnReturnsAt g.F.Fn l.test) (named l.objects) found)
