use Rattle.sharing_terms.proofs.ReadBack.{answer-marked, answer-only}
use Rattle.sharing_terms.proofs.mark.mark_text.Goals as goal

pub returns-clause-mark : goal.returns-clause-mark
returns-clause-mark c = answer-marked c.args.terms.now c.written.result c.written.ensures.terms c.written.ensures.text

pub returns-clause-only : goal.returns-clause-only
returns-clause-only c =
    answer-only c.args.terms.now c.written.result (answer-marked c.args.terms.now c.written.result c.written.ensures.terms c.written.ensures.text)
