use Rattle.std.proofs.Common.{◌∙◌}
use Rattle.core_keys.proofs.KeyLists.{any-has}
use Rattle.core_keys.proofs.keys.has_key.Goals as goal

pub returns : goal.returns
returns c = c.contains.ensures.found ∙ any-has c.args.keys.now c.args.key.now
