use Rattle.std.proofs.Common.{refl, sym, ◌∙◌}
use Rattle.std.proofs.lemmas.Bool.{true≢false}
use Rattle.ip_ranges.specs.declared.family.Family.TheVariants.{V4, V6}
use Rattle.address_holders.proofs.HolderLaws.{none-having, none-of}
use Rattle.address_holders.proofs.address_holders.AddressHolders.is_unused.Goals as goal

pub returns-then-is_unused : goal.returns-then-is_unused
returns-then-is_unused c = rw (← c.self.view_is) (
  λ e. none-having c.self.inside.v4 c.self.inside.v6 c.args.slot.now (c.if-is_unused.ensures.0 refl) (c.is_unused-then-is_unused.ensures.0 e),
  λ none. c.is_unused-then-is_unused.ensures.1 (none-of c.self.inside.v4 c.self.inside.v6 V6 c.args.slot.now none),
)

pub returns-else-is_unused : goal.returns-else-is_unused
returns-else-is_unused c = rw (← c.self.view_is) (
  λ e. absurd (true≢false (sym e ∙ c.if-is_unused.false)),
  λ none. absurd (true≢false (sym (c.if-is_unused.ensures.1 (none-of c.self.inside.v4 c.self.inside.v6 V4 c.args.slot.now none)))),
)
