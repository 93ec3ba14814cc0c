use Rattle.std.proofs.Common.{◌≡◌, ◌++◌}
use Rattle.core_keys.specs.Picked.{keys_where}
use Rattle.core_keys.proofs.picking.push_passing.Given as goal

abbrev pub invariant-loop-key : goal.invariant-loop-key
invariant-loop-key g l =
    l.keys.items ++ keys_where (g.P.ObjectTest.passes l.test) l.key-iterator ≡ l.fn.keys.items ++ keys_where (g.P.ObjectTest.passes l.test) l.objects
