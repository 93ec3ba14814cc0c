use Rattle.std.proofs.Common.{◌≡◌, ◌&&◌, drop}
use Rattle.std.specs.List.{list_any}
use Rattle.std.specs.Str.{bytes_eq}
use Rattle.pool_config.specs.Large.{begins_large}
use Rattle.pool_config.proofs.communities.has_large.Given as goal

abbrev pub invariant-loop-known : goal.invariant-loop-known
invariant-loop-known l =
    list_any (λ v. bytes_eq v.0 l.name && begins_large v.1) (drop l.known-index l.values) ≡ list_any (λ v. bytes_eq v.0 l.name && begins_large v.1) l.values
