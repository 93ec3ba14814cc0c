use Rattle.std.proofs.Common.{◌≡◌, List, [], find, Some, None, All, sym, ap, subst, ◌∙◌}
use Rattle.std.specs.List.{flat_map}
use Rattle.std.specs.Option.{option_map}
use Rattle.ip_ranges.specs.Values.{AddressValue}
use Rattle.bgp_updates.specs.Tables.{HasFew}
use Rattle.bgp_routes.specs.declared.kept_config.Advertisement.{Advertisement}
use Rattle.bgp_routes.specs.Contributors.{of_address}
use Rattle.bgp_routes.specs.KeptConfig.{is_kept_of}
use Rattle.bgp_routes.specs.Kept.{AreKeptFor, KeptValue}
use Rattle.bgp_routes.specs.Parts.{part_of}
use Rattle.bgp_routes.specs.Peers.{table_found, tables_of}
use Rattle.bgp_routes.specs.Uniting.{with_contributions}
use Rattle.bgp_routes.proofs.FewTold.{part-few}
use Rattle.bgp_routes.proofs.Keeping.{none-told, part-told}
use Rattle.bgp_routes.proofs.kept.KeptRoutes.part_of.Goals as goal

pub returns-in_default-clause-part : goal.returns-in_default-clause-part
returns-in_default-clause-part c = λ v right.
    let peer = c.args.peer.now in
    ap (option_map (part_of v c.args.addresses.now))
    (none-told v c.args.self.now right peer (subst (λ (k : KeptValue). None ≡ find (is_kept_of peer) k.held.peers) c.self.view_is c.in_default.ensures))

pub returns-clause-part : goal.returns-clause-part
returns-clause-part c = λ v right.
    let peer = c.args.peer.now in
    let kept : KeptValue =
    record { node = c.self.inside.node; both = c.self.inside.both; held = c.self.inside.held; contributors = c.self.inside.contributors } in
    let is =
    c.in_ok-table.ensures
    ∙ ap (λ (advertisements : List Advertisement). with_contributions []
    (flat_map (of_address c.self.inside.contributors advertisements c.in-Some.peer.now) c.as_slice.result.now)) c.advertisements.ensures.advertisements
    ∙ ap (λ (addresses : List AddressValue). with_contributions []
    (flat_map (of_address c.self.inside.contributors c.self.inside.held.advertisements c.in-Some.peer.now) addresses)) c.as_slice.ensures in
    ap Some is
    ∙ part-told v kept (subst (λ (k : KeptValue). AreKeptFor v k) (sym c.self.view_is) right) peer c.advertisements.ensures.few c.in-Some.peer.now
    c.in-Some.ensures c.args.addresses.now
    ∙ ap (λ (k : KeptValue). option_map (part_of v c.args.addresses.now) (table_found peer (tables_of v k.node k.both))) c.self.view_is

pub returns-clause-few : goal.returns-clause-few
returns-clause-few c =
    let is =
    c.in_ok-table.ensures
    ∙ ap (λ (advertisements : List Advertisement). with_contributions []
    (flat_map (of_address c.self.inside.contributors advertisements c.in-Some.peer.now) c.as_slice.result.now)) c.advertisements.ensures.advertisements
    ∙ ap (λ (addresses : List AddressValue). with_contributions []
    (flat_map (of_address c.self.inside.contributors c.self.inside.held.advertisements c.in-Some.peer.now) addresses)) c.as_slice.ensures in
    subst (All HasFew) (sym is)
    (part-few c.self.inside.held.advertisements c.advertisements.ensures.few c.self.inside.contributors c.in-Some.peer.now c.args.addresses.now)
