use Rattle.pool_config.proofs.NumberTexts.{numbers_are_read}
use Rattle.pool_config.proofs.numbers.read_number.Goals as goal

pub returns-clause-meaning : goal.returns-clause-meaning
returns-clause-meaning c = λ n. rw c.joined_halves.ensures.value (numbers_are_read c.args.text.now n)
