use Rattle.std.proofs.Common.{sym, ◌∙◌}
use Rattle.sharing_terms.proofs.Walks.{compared, ascending-behind, left-passed, right-passed, none-shared}
use Rattle.sharing_terms.proofs.sharing.shares_port.Goals as goal

pub loop-port-preserved-in-Less : goal.loop-port-preserved-in-Less
loop-port-preserved-in-Less c =
    let less = compared c.in-Some-Some.port.now c.in-Some-Some.other.now _ _ c.cmp.ensures c.in-Less.is in
    let same = left-passed _ _ _ _ _ _ c.in-Some-Some.ensures.cases c.in-Some-Some.ensures'.cases less c.loop-port.invariant.right in
    record {
      left = ascending-behind _ _ _ c.in-Some-Some.ensures.cases c.loop-port.invariant.left;
      right = c.loop-port.invariant.right;
      same = same ∙ c.loop-port.invariant.same;
    }

pub loop-port-preserved : goal.loop-port-preserved
loop-port-preserved c =
    let greater = compared c.in-Some-Some.port.now c.in-Some-Some.other.now _ _ c.cmp.ensures c.in-Greater.is in
    let same = right-passed _ _ _ _ _ _ c.in-Some-Some.ensures.cases c.in-Some-Some.ensures'.cases greater c.loop-port.invariant.left in
    record {
      left = c.loop-port.invariant.left;
      right = ascending-behind _ _ _ c.in-Some-Some.ensures'.cases c.loop-port.invariant.right;
      same = same ∙ c.loop-port.invariant.same;
    }

pub returns-in_default : goal.returns-in_default
returns-in_default c = sym (none-shared _ _ c.in_default.ensures'.cases) ∙ c.loop-port.invariant.same
