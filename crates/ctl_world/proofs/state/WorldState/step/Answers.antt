use Rattle.std.proofs.Common.{refl, sym, ◌∙◌}
use Rattle.ctl_world.proofs.Enabled.{enabled, disabled, used-up}
use Rattle.ctl_world.proofs.Refused.{passed-is}
use Rattle.ctl_world.proofs.state.WorldState.step.Goals as goal

pub returns-then-not-is_enabled-clause-err : goal.returns-then-not-is_enabled-clause-err
returns-then-not-is_enabled-clause-err c =
    (disabled c.args.step c.args.self.now c.requires.stored.kept (sym c.is_enabled.ensures ∙ c.if-not-is_enabled.true), refl)

pub make-requires-clause-there : goal.make-requires-clause-there
make-requires-clause-there c = enabled c.args.step c.args.self.now c.requires.stored.kept (sym c.is_enabled.ensures ∙ c.if-not-is_enabled.false)

pub returns-then-is_used_up-clause-err : goal.returns-then-is_used_up-clause-err
returns-then-is_used_up-clause-err c = (
  enabled c.args.step c.args.self.now c.requires.stored.kept (sym c.is_enabled.ensures ∙ c.if-not-is_enabled.false),
  used-up c.args.step c.args.self.now (sym c.is_used_up.ensures.value ∙ c.if-is_used_up.true),
  refl,
)

pub returns-clause-passed : goal.returns-clause-passed
returns-clause-passed c =
    passed-is _ _ c.make.result (enabled c.args.step c.args.self.now c.requires.stored.kept (sym c.is_enabled.ensures ∙ c.if-not-is_enabled.false))
    c.make.ensures.passed
