use Rattle.std.proofs.Common.{◌-◌, false, true, ap, ◌∙◌, ◌∷◌, [], arith, sym}
use Rattle.ip_ranges.proofs.CoverLemmas.{within-apart, within-inside, read_apart, read_inside, some_bits, middle_is, middle_fits, halved, made_block}
use Rattle.ip_ranges.proofs.covers.part_of.Goals as goal

pub returns-then-is_apart : goal.returns-then-is_apart
returns-then-is_apart c =
    within-apart c.args.span.now c.args.bits c.args.base
    (read_apart c.args.span.now c.args.bits c.args.base _ _ true c.low_ones.ensures c.is_apart.ensures c.if-is_apart.true)

pub returns-then-is_inside : goal.returns-then-is_inside
returns-then-is_inside c =
    let apart = read_apart c.args.span.now c.args.bits c.args.base _ _ false c.low_ones.ensures c.is_apart.ensures c.if-is_apart.false in
    let inside = read_inside c.args.span.now c.args.bits c.args.base _ _ true c.low_ones.ensures c.is_inside.ensures c.if-is_inside.true in
    let made = made_block c.span.inside.family c.span.inside.low c.span.inside.high c.args.bits c.args.base c.width.result c.args.span.now c.span.view_is
    c.width.ensures in
    within-inside c.args.span.now c.args.bits c.args.base apart inside ∙ ap (λ p. p ∷ []) (sym made)

pub overflow_add-result : goal.overflow_add-result
overflow_add-result c =
    let apart = read_apart c.args.span.now c.args.bits c.args.base _ _ false c.low_ones.ensures c.is_apart.ensures c.if-is_apart.false in
    let inside = read_inside c.args.span.now c.args.bits c.args.base _ _ false c.low_ones.ensures c.is_inside.ensures c.if-is_inside.false in
    let some = some_bits c.args.span.now c.args.bits c.args.base apart inside in
    let middle = middle_is (c.args.bits - 1) c.args.base _ c.low_ones-2.ensures in
    let fits = middle_fits c.args.span.now c.args.bits c.args.base some c.requires.numbers_fit in
    omega arith

pub overflow_add-result-2 : goal.overflow_add-result-2
overflow_add-result-2 c =
    let apart = read_apart c.args.span.now c.args.bits c.args.base _ _ false c.low_ones.ensures c.is_apart.ensures c.if-is_apart.false in
    let inside = read_inside c.args.span.now c.args.bits c.args.base _ _ false c.low_ones.ensures c.is_inside.ensures c.if-is_inside.false in
    let some = some_bits c.args.span.now c.args.bits c.args.base apart inside in
    let middle = middle_is (c.args.bits - 1) c.args.base _ c.low_ones-2.ensures in
    let fits = middle_fits c.args.span.now c.args.bits c.args.base some c.requires.numbers_fit in
    omega arith

pub returns : goal.returns
returns c =
    let apart = read_apart c.args.span.now c.args.bits c.args.base _ _ false c.low_ones.ensures c.is_apart.ensures c.if-is_apart.false in
    let inside = read_inside c.args.span.now c.args.bits c.args.base _ _ false c.low_ones.ensures c.is_inside.ensures c.if-is_inside.false in
    halved c.args.span.now c.args.bits c.args.base _ apart inside c.low_ones-2.ensures
