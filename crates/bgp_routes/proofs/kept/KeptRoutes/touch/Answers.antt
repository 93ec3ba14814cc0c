use Rattle.std.proofs.Common.{sym, subst}
use Rattle.bgp_routes.specs.Kept.{AreKeptBut, KeptValue}
use Rattle.bgp_routes.proofs.Keeping.{held-but, renewed, stand-but}
use Rattle.bgp_routes.proofs.Standing.{ok-then}
use Rattle.bgp_routes.proofs.kept.KeptRoutes.touch.Goals as goal

pub touch_all-requires-clause-held : goal.touch_all-requires-clause-held
touch_all-requires-clause-held c =
    let view = c.args.view.now in
    let addresses = c.args.addresses.now in
    let kept : KeptValue =
    record { node = c.self.inside.node; both = c.self.inside.both; held = c.self.inside.held; contributors = c.self.inside.contributors } in
    let but : AreKeptBut view addresses kept = subst (λ (k : KeptValue). AreKeptBut view addresses k) (sym c.self.view_is) c.requires in
    held-but view addresses kept but

pub touch_all-requires-clause-stand : goal.touch_all-requires-clause-stand
touch_all-requires-clause-stand c =
    let view = c.args.view.now in
    let addresses = c.args.addresses.now in
    let kept : KeptValue =
    record { node = c.self.inside.node; both = c.self.inside.both; held = c.self.inside.held; contributors = c.self.inside.contributors } in
    let but : AreKeptBut view addresses kept = subst (λ (k : KeptValue). AreKeptBut view addresses k) (sym c.self.view_is) c.requires in
    stand-but view addresses kept but

pub returns-clause-ok : goal.returns-clause-ok
returns-clause-ok c =
    let view = c.args.view.now in
    let addresses = c.args.addresses.now in
    let kept : KeptValue =
    record { node = c.self.inside.node; both = c.self.inside.both; held = c.self.inside.held; contributors = c.self.inside.contributors } in
    let but : AreKeptBut view addresses kept = subst (λ (k : KeptValue). AreKeptBut view addresses k) (sym c.self.view_is) c.requires in
    ok-then c.touch_all.result c.touch_all.ensures (renewed view addresses kept but c.touch_all.new.contributors)
