use Rattle.std.proofs.Common.{◌≡◌, ◌∙◌, ap, sym, subst}
use Rattle.bgp_routes.specs.Laws.{AreRoutes}
use Rattle.bgp_routes.specs.Routes.{routes_of}
use Rattle.bgp_routes.proofs.Elements.{routes-unite}
use Rattle.bgp_routes.proofs.announced.routes.Goals as goal

pub returns-clause-meaning : goal.returns-clause-meaning
returns-clause-meaning c =
    let view = c.args.view.now in
    let peer = c.args.peer.now in
    let both = c.args.both in
    let same : c.in_ok-node.node ≡ c.args.node.now = c.in_ok-node.ensures in
    let value : c.from_vec.result ≡ routes_of view c.args.node.now peer both =
    c.from_vec.ensures ∙ c.in_ok-routes.ensures.value ∙ c.in_ok-united.ensures.value ∙ ap (λ n. routes_of view n peer both) same in
    subst (AreRoutes view c.args.node.now peer both) (sym value) (routes-unite view c.args.node.now peer both)
