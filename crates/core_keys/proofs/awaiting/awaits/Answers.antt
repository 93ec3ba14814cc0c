use Rattle.std.proofs.Common.{◌∙◌}
use Rattle.core_keys.proofs.KeyLists.{any-has}
use Rattle.core_keys.proofs.awaiting.awaits.Goals as goal

pub returns : goal.returns
returns c = c.contains.ensures ∙ any-has c.args.awaiting.now c.args.key.now
