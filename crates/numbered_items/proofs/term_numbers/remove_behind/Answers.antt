use Rattle.std.proofs.Common.{◌≡◌, ◌+◌, ◌-◌, drop, ap, ◌∙◌, arith}
use Rattle.std.proofs.Math.Seq.{paste}
use Rattle.numbered_items.proofs.TermNumberLaws.{moved-up, moved-down}
use Rattle.numbered_items.proofs.term_numbers.remove_behind.Goals as goal

pub returns-then-len-at-clause-numbers : goal.returns-then-len-at-clause-numbers
returns-then-len-at-clause-numbers c =
    ap (drop c.args.gone) c.remove-removed.ensures.items ∙ moved-down c.args.numbers.now.items c.args.gone c.args.index (omega (arith, c.requires))

pub returns-then-gone-len-clause-numbers : goal.returns-then-gone-len-clause-numbers
returns-then-gone-len-clause-numbers c =
    let xs = c.args.numbers.now.items in
    let gone = c.args.gone in
    let ahead : (gone + c.args.index) - gone ≡ c.args.index = omega arith in
    ap (drop (gone + 1)) (c.copy_within.ensures.items ∙ ap (paste xs (gone + 1) (drop gone xs)) ahead)
    ∙ moved-up xs gone c.args.index (omega (arith, c.requires))

pub returns-clause-numbers : goal.returns-clause-numbers
returns-clause-numbers c =
    let xs = c.args.numbers.now.items in
    let gone = c.args.gone in
    let ahead : (gone + c.args.index) - gone ≡ c.args.index = omega arith in
    c.drop_front.ensures
    ∙ ap (drop (gone + 1)) (c.copy_within.ensures.items ∙ ap (paste xs (gone + 1) (drop gone xs)) ahead)
    ∙ moved-up xs gone c.args.index (omega (arith, c.requires))
