use Rattle.std.proofs.lemmas.Str.Pattern.{starts_text}
use Rattle.pool_config.specs.Large.{large_mark}
use Rattle.pool_config.proofs.large.begins_large.Goals as goal

pub returns : goal.returns
returns c = starts_text c.starts_with.result large_mark c.args.text.now c.starts_with.ensures.cases
