use Rattle.std.proofs.Common.{◌≡◌, List, [], find, Some, None, All, sym, ap, subst, ◌∙◌}
use Rattle.std.specs.List.{flat_map}
use Rattle.std.specs.Map.{keys_of}
use Rattle.bgp_updates.specs.Tables.{HasFew}
use Rattle.bgp_routes.specs.declared.kept_config.Advertisement.{Advertisement}
use Rattle.bgp_routes.specs.Contributors.{of_aggregate}
use Rattle.bgp_routes.specs.KeptConfig.{is_kept_of}
use Rattle.bgp_routes.specs.Kept.{AreKeptFor, KeptValue}
use Rattle.bgp_routes.specs.Peers.{table_found, tables_of}
use Rattle.bgp_routes.specs.Uniting.{with_contributions}
use Rattle.bgp_routes.proofs.FewTold.{whole-few}
use Rattle.bgp_routes.proofs.Keeping.{none-told, whole-told}
use Rattle.bgp_routes.proofs.kept.KeptRoutes.table_of.Goals as goal

pub returns-in_default-clause-table : goal.returns-in_default-clause-table
returns-in_default-clause-table c = λ v right.
    let peer = c.args.peer.now in
    none-told v c.args.self.now right peer (subst (λ (k : KeptValue). None ≡ find (is_kept_of peer) k.held.peers) c.self.view_is c.in_default.ensures)

pub returns-clause-table : goal.returns-clause-table
returns-clause-table c = λ v right.
    let peer = c.args.peer.now in
    let kept : KeptValue =
    record { node = c.self.inside.node; both = c.self.inside.both; held = c.self.inside.held; contributors = c.self.inside.contributors } in
    let is =
    c.in_ok-table.ensures
    ∙ ap (λ (advertisements : List Advertisement). with_contributions []
    (flat_map (of_aggregate c.self.inside.contributors advertisements c.in-Some.peer.now) (keys_of c.self.inside.contributors)))
    c.advertisements-advertisements.ensures.advertisements in
    ap Some is
    ∙ whole-told v kept (subst (λ (k : KeptValue). AreKeptFor v k) (sym c.self.view_is) right) peer c.advertisements-advertisements.ensures.few
    c.in-Some.peer.now c.in-Some.ensures
    ∙ ap (λ (k : KeptValue). table_found peer (tables_of v k.node k.both)) c.self.view_is

pub returns-clause-few : goal.returns-clause-few
returns-clause-few c =
    let is =
    c.in_ok-table.ensures
    ∙ ap (λ (advertisements : List Advertisement). with_contributions []
    (flat_map (of_aggregate c.self.inside.contributors advertisements c.in-Some.peer.now) (keys_of c.self.inside.contributors)))
    c.advertisements-advertisements.ensures.advertisements in
    subst (All HasFew) (sym is)
    (whole-few c.self.inside.held.advertisements c.advertisements-advertisements.ensures.few c.self.inside.contributors c.in-Some.peer.now)
