use Rattle.std.proofs.Common.{rules, drop, filter, sym, ap, subst, ◌∙◌, ◌==◌, not}
use Rattle.std.specs.List.Sorted.{IsStrictlySortedBy}
use Rattle.std.specs.Ordering.{nat_cmp}
use Rattle.std.proofs.lemmas.Fn.{filter_same}
use Rattle.std.proofs.lemmas.List.Kept.{IsStrictlySortedBy-filter}
use Rattle.numbered_items.specs.Index.{TermList}
use Rattle.numbered_items.proofs.TermNumberLaws.{found-out, none-out}
use Rattle.numbered_items.proofs.term_numbers.TermNumbers.remove.Goals as goal

pub returns-then-not-self : goal.returns-then-not-self
returns-then-not-self c =
    rw (← c.self.view_is)
    (filter_same _ _ _ (λ x b f' k. search rules) _ _ c.retain.ensures.filtered ∙ ap (filter (λ n. not (n == c.args.number))) c.drop_front.ensures)

pub invariant_of-self-in-Ok : goal.invariant_of-self-in-Ok
invariant_of-self-in-Ok c =
    record {
      within = c.remove_behind-self-inside.ensures.within;
      ascend = λ up.
          let left = drop c.self.inside.gone c.self.inside.numbers.items in
          let read = c.as_slice.ensures ∙ ap (λ (l : TermList). l.numbers) (sym c.self.view_is) in
          let position = rw read at c.in-Ok.ensures.position in
          let bound = rw read at c.in-Ok.ensures.bound in
          let taken = found-out c.args.number left c.in-Ok.index (c.self.invariant.ascend up) position bound in
          subst (IsStrictlySortedBy nat_cmp) (sym (c.remove_behind-self-inside.ensures.numbers ∙ taken))
          (IsStrictlySortedBy-filter nat_cmp (λ n. not (n == c.args.number)) left (c.self.invariant.ascend up));
    }

pub returns-in-Ok : goal.returns-in-Ok
returns-in-Ok c =
    let left = drop c.self.inside.gone c.self.inside.numbers.items in
    let read = c.as_slice.ensures ∙ ap (λ (l : TermList). l.numbers) (sym c.self.view_is) in
    let position = rw read at c.in-Ok.ensures.position in
    let bound = rw read at c.in-Ok.ensures.bound in
    rw (← c.self.view_is)
    (c.remove_behind-self-inside.ensures.numbers ∙ found-out c.args.number left c.in-Ok.index (c.self.invariant.ascend c.if-not-self.false) position bound)

pub returns-in_default : goal.returns-in_default
returns-in_default c =
    let left = drop c.self.inside.gone c.self.inside.numbers.items in
    let read = c.as_slice.ensures ∙ ap (λ (l : TermList). l.numbers) (sym c.self.view_is) in
    let position = rw read at c.in_default.ensures.position in
    rw (← c.self.view_is) (none-out c.args.number left c.in_default.field-0 (c.self.invariant.ascend c.if-not-self.false) position)
