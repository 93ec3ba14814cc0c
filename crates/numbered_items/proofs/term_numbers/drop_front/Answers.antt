use Rattle.std.proofs.Common.{◌-◌, take, ap, ◌∙◌, arith}
use Rattle.numbered_items.proofs.TermNumberLaws.{front-dropped}
use Rattle.numbered_items.proofs.term_numbers.drop_front.Goals as goal

pub returns : goal.returns
returns c =
    let left = c.len-len.result - c.args.count in
    c.truncate.ensures.items ∙ ap (take left) c.copy_within.ensures.items ∙ front-dropped c.args.numbers.now.items c.args.count left (omega (arith, c.requires))
