use Rattle.std.proofs.Common.{List, ap, subst, ◌∙◌}
use Rattle.std.specs.Result.{OnOk}
use Rattle.ip_ranges.specs.Values.{AddressValue}
use Rattle.bgp_routes.specs.Contributors.{AreTouched, has}
use Rattle.bgp_routes.specs.Kept.{KeptValue}
use Rattle.bgp_routes.proofs.Keeping.{cleared-stand, filled}
use Rattle.bgp_routes.proofs.Standing.{ok-then}
use Rattle.bgp_routes.proofs.kept.KeptRoutes.fill.Goals as goal

pub touch_all-requires-clause-stand : goal.touch_all-requires-clause-stand
touch_all-requires-clause-stand c =
    cleared-stand c.self.inside.both c.replace.new.dest.advertisements c.self.inside.contributors
    (ap (λ (k : KeptValue). has k.contributors) c.self.view_is ∙ c.requires.contributors)

pub returns-clause-ok : goal.returns-clause-ok
returns-clause-ok c =
    let view = c.args.view.now in
    let node = c.self.inside.node in
    let both = c.self.inside.both in
    let old = c.self.inside.contributors in
    let new = c.touch_all.new.contributors in
    let none = ap (λ (k : KeptValue). has k.contributors) c.self.view_is ∙ c.requires.contributors in
    let touched = subst (λ (addresses : List AddressValue). OnOk c.touch_all.result (AreTouched view node both addresses old new))
    (c.as_slice.ensures ∙ c.in_ok-addresses.ensures) c.touch_all.ensures in
    ok-then c.touch_all.result touched (filled view node both c.replace.new.dest old new (c.replace.ensures.after ∙ c.in_ok-held.ensures) none)
