use Rattle.std.proofs.Common.{◌∙◌}
use Rattle.core_keys.proofs.KeyLists.{without-flip}
use Rattle.core_keys.proofs.keys.drop_key.Goals as goal

pub returns : goal.returns
returns c = c.remove.ensures ∙ without-flip c.args.keys.now c.args.key.now
