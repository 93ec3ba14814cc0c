use Rattle.std.proofs.Common.{◌∙◌}
use Rattle.std.proofs.lemmas.Result.{on_ok_weaker}
use Rattle.core_keys.proofs.QueuedKeys.{queued-as-they-are}
use Rattle.core_keys.proofs.keys.append_new.Goals as goal

pub returns-clause-ok : goal.returns-clause-ok
returns-clause-ok c =
    on_ok_weaker c.append.result (λ is. is ∙ queued-as-they-are c.args.queue.now c.args.more.items c.requires.0 c.requires.1) c.append.ensures.ok
