use Rattle.std.proofs.Common.{List, sym, subst}
use Rattle.pool_config.specs.declared.compiled.CompiledPool.{CompiledPool}
use Rattle.full_entries.specs.Entries.{AreThose}
use Rattle.ctl_core.proofs.state.CoreState.choose_for.Goals as goal

pub choose-choice-requires : goal.choose-choice-requires
choose-choice-requires c =
    subst (λ (pools : List CompiledPool). AreThose pools c.self.inside.book.entries) (sym c.config_or-config.ensures) c.self.invariant.1
