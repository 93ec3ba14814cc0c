use Rattle.std.proofs.Common.{sym, subst, arith}
use Rattle.std.specs.List.Sorted.{IsStrictlySortedBy}
use Rattle.std.specs.Ordering.{nat_cmp}
use Rattle.numbered_items.proofs.TermNumberLaws.{none-ascend}
use Rattle.numbered_items.proofs.term_numbers.TermNumbers.with_room.Goals as goal

pub invariant_of-result : goal.invariant_of-result
invariant_of-result c =
    record {
      within = omega arith;
      ascend = λ _. subst (IsStrictlySortedBy nat_cmp) (sym c.in_ok-with_capacity.ensures.items) none-ascend;
    }
