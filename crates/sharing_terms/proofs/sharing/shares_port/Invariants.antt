use Rattle.std.proofs.Common.{◌≡◌, ◌+◌, length}
use Rattle.std.specs.List.{list_any}
use Rattle.sharing_terms.specs.Ports.{AreAscending}
use Rattle.sharing_terms.specs.Sharing.{has_port}
use Rattle.sharing_terms.proofs.sharing.shares_port.Given as goal

abbrev pub invariant-loop-port : goal.invariant-loop-port
invariant-loop-port l =
    record {
      left : AreAscending l.left;
      right : AreAscending l.right;
      same : list_any (has_port l.right) l.left ≡ list_any (has_port l.fn.b) l.fn.a;
    }

abbrev pub decreases-loop-port : goal.decreases-loop-port
decreases-loop-port l = length l.left + length l.right
