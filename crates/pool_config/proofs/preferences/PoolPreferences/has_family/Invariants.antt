use Rattle.std.proofs.Common.{◌≡◌, drop}
use Rattle.std.specs.List.{list_any}
use Rattle.pool_config.specs.Preferences.{of_family}
use Rattle.pool_config.proofs.preferences.PoolPreferences.has_family.Given as goal

abbrev pub invariant-loop-span : goal.invariant-loop-span
invariant-loop-span l = list_any (λ s. of_family s.family l.v4 l.v6) (drop l.span-index l.spans) ≡ list_any (λ s. of_family s.family l.v4 l.v6) l.spans
