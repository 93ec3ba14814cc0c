use Rattle.std.proofs.Common.{◌∷◌, [], drop, sym, ap, subst, ◌∙◌, arith}
use Rattle.std.specs.List.Sorted.{IsStrictlySortedBy}
use Rattle.std.specs.Ordering.{nat_cmp}
use Rattle.std.proofs.lemmas.List.{drop-append-le}
use Rattle.numbered_items.specs.Index.{TermList}
use Rattle.numbered_items.proofs.TermNumberLaws.{ascending-put}
use Rattle.numbered_items.proofs.term_numbers.TermNumbers.push.Goals as goal
use Rattle.numbered_items.proofs.term_numbers.TermNumbers.push.Goals.{then-self, else-self}

pub invariant_of-self : goal.invariant_of-self
invariant_of-self c =
    let gone = c.self.inside.gone in
    let items = c.self.inside.numbers.items in
    let put = ap (drop gone) c.push_reserved.ensures.items ∙ drop-append-le gone items (c.args.number ∷ []) (omega (arith, c.self.invariant.within)) in
    elim c.if-self.branch [
      | then-self w ↦ record {
        within = omega (arith, c.self.invariant.within, c.push_reserved.ensures.len);
        ascend = λ up.
            let left = w.as_slice.ensures ∙ ap (λ (l : TermList). l.numbers) (sym c.self.view_is) in
            let above = rw left at (w.is_above_last-self-inside.ensures (sym w.self-is ∙ up)) in
            subst (IsStrictlySortedBy nat_cmp) (sym put) (ascending-put (drop gone items) c.args.number (c.self.invariant.ascend w.if-self.true) above);
      }
      | else-self w ↦ record {
        within = omega (arith, c.self.invariant.within, c.push_reserved.ensures.len);
        ascend = λ up. absurd (cc);
      }
    ]
