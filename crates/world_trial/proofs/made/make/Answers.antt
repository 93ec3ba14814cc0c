use Rattle.std.proofs.Common.{Ok, Err, refl, sym}
use Rattle.world_trial.proofs.Making.{made-ok, refused-absent, refused-limit}
use Rattle.world_trial.proofs.made.make.Goals as goal

pub returns-in-Ok-clause-made : goal.returns-in-Ok-clause-made
returns-in-Ok-clause-made c =
    sym (made-ok (Ok c.in-Ok.field-0) c.args.step c.args.world.now c.is_kept.ensures c.in-Ok.ensures.not_enabled c.in-Ok.field-0 refl c.in-Ok.ensures.limited)

pub returns-in-Err-NotEnabled-clause-made : goal.returns-in-Err-NotEnabled-clause-made
returns-in-Err-NotEnabled-clause-made c =
    sym (refused-absent (Err c.in-Err-NotEnabled.field-0) c.args.step c.args.world.now c.is_kept.ensures c.in-Err-NotEnabled.ensures.not_enabled
    c.in-Err-NotEnabled.field-0 refl c.in-Err-NotEnabled.field-0-is)

pub returns-in-Err-Limit-clause-made : goal.returns-in-Err-Limit-clause-made
returns-in-Err-Limit-clause-made c =
    sym (refused-limit (Err c.in-Err-Limit.field-0) c.args.step c.args.world.now c.is_kept.ensures c.in-Err-Limit.ensures.not_enabled
    c.in-Err-Limit.ensures.limit c.in-Err-Limit.field-0 refl c.in-Err-Limit.field-0-is)
