use Rattle.pool_config.proofs.LargeTexts.{large_texts_are_read}
use Rattle.pool_config.proofs.large.read_large.Goals as goal

pub returns-clause-meaning : goal.returns-clause-meaning
returns-clause-meaning c = λ n. rw c.large_by_parts.ensures.value (large_texts_are_read c.args.text.now n)
