use Rattle.command_options.specs.Options.{texts_of}
use Rattle.fenced_run.proofs.Saying.{answer_said, answer_unknown}
use Rattle.fenced_run.proofs.words.fence_words.Goals as goal

pub returns-clause-said : goal.returns-clause-said
returns-clause-said c = answer_said (texts_of c.args.words.now) c.read_words.result c.read_words.ensures

pub returns-clause-unknown : goal.returns-clause-unknown
returns-clause-unknown c = answer_unknown (texts_of c.args.words.now) c.read_words.result c.read_words.ensures
