-- Where IPv4 alone counts, each route is of IPv4, and they are those of both families that are so.
use Rattle.std.proofs.Common.{◌≡◌, ℕ, Bool, true, false, List, inl, inr, refl, sym, ap, ◌∙◌}
use Rattle.std.proofs.lemmas.Bool.{false≢true}
use Rattle.std.proofs.lemmas.List.Elements.{All-from_recursion}
use Rattle.ip_ranges.specs.declared.family.Family.{Family}
use Rattle.ip_ranges.specs.declared.family.Family.TheVariants.{V4}
use Rattle.ip_ranges.specs.Values.{PrefixValue, same_family}
use Rattle.ip_ranges.proofs.AddressLaws.{same_family-is}
use Rattle.mlb_base.specs.Items.{IsIn}
use Rattle.pool_config.specs.declared.compiled.CompiledPeer.{CompiledPeer}
use Rattle.speaker_view.specs.ViewValue.{ViewValue}
use Rattle.bgp_updates.specs.declared.route.Terms.{Terms}
use Rattle.bgp_routes.specs.Contribution.{Counts, IsContribution}
use Rattle.bgp_routes.specs.Families.{Ipv4RoutesAreTheSame, RoutesAreOfIpv4}
use Rattle.bgp_routes.specs.Routes.{contributions, routes_of}
use Rattle.bgp_routes.proofs.Elements.{routes-unite}
use Rattle.bgp_routes.proofs.Few.{all-from, contributions-ascend}
use Rattle.bgp_routes.proofs.Listing.{contributions-listed}
use Rattle.bgp_routes.proofs.Sets.{united-part}

alone : (f : Family) → Counts false f → f ≡ V4
alone f (inl is) = is
alone f (inr both) = absurd (false≢true both)

abbrev IsOfIpv4 : PrefixValue × Terms → Type 0
IsOfIpv4 route = route.0.family ≡ V4

pub routes-of-ipv4 : RoutesAreOfIpv4
routes-of-ipv4 v node peer =
    All-from_recursion IsOfIpv4 (routes_of v node peer false) (all-from IsOfIpv4 (routes_of v node peer false) (λ route there.
    let by = ((routes-unite v node peer false).routes route there).preference.there in
    ap (λ (c : PrefixValue × Terms). c.0.family) by.is ∙ alone by.address.family by.counts))

module _ (v : ViewValue) (node : List ℕ) (peer : CompiledPeer) where
  -- whether it counts is all that `both` decides
  counted : (both other : Bool) (c : PrefixValue × Terms) (by : IsContribution v node peer both c) → Counts other by.address.family
      → IsContribution v node peer other c
  counted both other c by counts = record {
    peer_selects = by.peer_selects;
    address = by.address;
    counts = counts;
    announced = by.announced;
    advertisement = by.advertisement;
    advertised = by.advertised;
    is = by.is;
  }

  own-family : (both : Bool) (c : PrefixValue × Terms) (by : IsContribution v node peer both c) → c.0.family ≡ by.address.family
  own-family both c by = ap (λ (d : PrefixValue × Terms). d.0.family) by.is

  into : (p : PrefixValue) (t : Terms) → IsIn (contributions v node peer false) (p, t)
      → IsIn (contributions v node peer true) (p, t) × (same_family p.family V4 ≡ true)
  into p t there =
      let by = (contributions-listed v node peer false (p, t)).0 there in
      let four : p.family ≡ V4 = own-family false (p, t) by ∙ alone by.address.family by.counts in
      ((contributions-listed v node peer true (p, t)).1 (counted false true (p, t) by (inr refl)), ap (λ f. same_family f V4) four)

  back : (p : PrefixValue) (t : Terms) → same_family p.family V4 ≡ true → IsIn (contributions v node peer true) (p, t)
      → IsIn (contributions v node peer false) (p, t)
  back p t four there =
      let by = (contributions-listed v node peer true (p, t)).0 there in
      let own : by.address.family ≡ V4 = sym (own-family true (p, t) by) ∙ same_family-is p.family V4 four in
      (contributions-listed v node peer false (p, t)).1 (counted true false (p, t) by (inl own))

pub same-ipv4-routes : Ipv4RoutesAreTheSame
same-ipv4-routes v node peer limited =
    united-part (λ p. same_family p.family V4) (contributions v node peer false) (contributions v node peer true)
    (contributions-ascend v node peer false limited)
    (contributions-ascend v node peer true limited) (into v node peer) (back v node peer)
