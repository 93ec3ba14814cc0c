use Rattle.sharing_terms.proofs.ReadBack.{answer-exact}
use Rattle.sharing_terms.proofs.reading.read_mark.Goals as goal

pub returns-clause-exact : goal.returns-clause-exact
returns-clause-exact c = answer-exact c.args.text.now c.recorded.result c.recorded.ensures
