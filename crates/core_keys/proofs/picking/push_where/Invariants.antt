use Rattle.std.proofs.Common.{◌≡◌, ◌++◌, filter}
use Rattle.core_keys.proofs.picking.push_where.Given as goal

abbrev pub invariant-loop-key : goal.invariant-loop-key
invariant-loop-key g l =
    l.found.items ++ filter (g.P.KeyTest.passes l.test) l.key-iterator ≡ l.fn.found.items ++ filter (g.P.KeyTest.passes l.test) l.keys.keys
