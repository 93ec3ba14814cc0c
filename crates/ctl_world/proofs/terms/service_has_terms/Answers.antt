use Rattle.ctl_world.proofs.TermLaws.{terms-are}
use Rattle.ctl_world.proofs.terms.service_has_terms.Goals as goal

pub returns : goal.returns
returns c = terms-are c.args.service.now c.is_text.ensures c.is_text-2.ensures (rw c.as_slice.ensures at c.are_small.ensures) c.are_pairs.ensures.ordered
    c.are_pairs.ensures.texts
