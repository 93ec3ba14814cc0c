use Rattle.std.proofs.Common.{◌≡◌, List, sym, ap, subst, ◌∙◌}
use Rattle.std.specs.Result.{OnOk}
use Rattle.ip_ranges.specs.Values.{AddressValue}
use Rattle.bgp_routes.specs.declared.kept_config.Advertisement.{Advertisement}
use Rattle.bgp_routes.specs.Contributors.{IsPutByAll, StandRight}
use Rattle.bgp_routes.specs.KeptConfig.{KeptConfigValue, kept_config_for}
use Rattle.bgp_routes.specs.Routes.{counts}
use Rattle.bgp_routes.proofs.Renewing.{touched-counted, touched-uncounted}
use Rattle.bgp_routes.proofs.Standing.{ok-then}
use Rattle.bgp_routes.proofs.touching.touch.Goals as goal

pub returns-then-counts : goal.returns-then-counts
returns-then-counts c =
    let view = c.args.view.now in
    let node = c.args.node.now in
    let both = c.args.both in
    let address = c.args.address.now in
    let old = c.args.contributors.now in
    let new = c.put_by_all.new.contributors in
    let choice = c.choice_at-choice.result.now in
    let own : c.advertisements.result.now ≡ (kept_config_for view node).advertisements =
    c.advertisements.ensures.advertisements ∙ ap (λ (h : KeptConfigValue). h.advertisements) c.requires.held in
    let put =
    subst (λ (advertisements : List Advertisement). OnOk c.put_by_all.result (IsPutByAll advertisements choice address old new)) own c.put_by_all.ensures in
    let stand = subst (λ (h : KeptConfigValue). StandRight both h.advertisements old) c.requires.held c.requires.stand in
    ok-then c.put_by_all.result put (touched-counted view node both address choice old new
    (ap (λ (a : AddressValue). counts both a.family) (sym c.address.view_is) ∙ sym c.counts.ensures ∙ c.if-counts.true) c.choice_at-choice.ensures stand)

pub returns-else-counts : goal.returns-else-counts
returns-else-counts c =
    let view = c.args.view.now in
    let node = c.args.node.now in
    let both = c.args.both in
    let address = c.args.address.now in
    let old = c.args.contributors.now in
    let stand = subst (λ (h : KeptConfigValue). StandRight both h.advertisements old) c.requires.held c.requires.stand in
    touched-uncounted view node both address old
    (ap (λ (a : AddressValue). counts both a.family) (sym c.address.view_is) ∙ sym c.counts.ensures ∙ c.if-counts.false) stand
