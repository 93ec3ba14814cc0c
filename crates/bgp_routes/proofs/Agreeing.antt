-- Views that differ at some addresses at most have the same routes at the prefixes that aren't theirs.
use Rattle.std.proofs.Common.{◌≡◌, ℕ, Bool, true, false, List, Option, Some, Contains, sym, ◌∙◌, ap, subst}
use Rattle.std.proofs.lemmas.Bool.{false≢true}
use Rattle.std.specs.List.{list_any}
use Rattle.ip_ranges.specs.Values.{AddressValue, PrefixValue}
use Rattle.mlb_base.specs.Items.{IsIn}
use Rattle.mlb_base.proofs.Among.{any-contains}
use Rattle.pool_config.specs.Choice.{Selects}
use Rattle.pool_config.specs.ConfigValue.{ConfigValue}
use Rattle.pool_config.specs.declared.compiled.CompiledPeer.{CompiledPeer}
use Rattle.speaker_view.specs.Advertised.{IsAnnouncedFrom}
use Rattle.speaker_view.specs.ViewValue.{ViewValue}
use Rattle.speaker_view.proofs.Serving.{announced_from-Decides}
use Rattle.bgp_updates.specs.declared.route.Terms.{Terms}
use Rattle.bgp_updates.specs.Received.{same_prefix}
use Rattle.bgp_updates.proofs.ReceivedLaws.{same_prefix-itself}
use Rattle.bgp_routes.specs.Contribution.{IsContribution}
use Rattle.bgp_routes.specs.Differ.{DiffersAt}
use Rattle.bgp_routes.specs.Few.{HasFewInForce}
use Rattle.bgp_routes.specs.Parts.{OthersAgree, bgp_in, bgp_of, is_touched, prefix_under}
use Rattle.bgp_routes.specs.Routes.{contributions}
use Rattle.bgp_routes.proofs.Few.{contributions-ascend}
use Rattle.bgp_routes.proofs.Listing.{contributions-listed}
use Rattle.bgp_routes.proofs.Sets.{stated-same}
use Rattle.bgp_routes.proofs.Stated.{routes-stated}
use Rattle.bgp_routes.proofs.Stays.{any-in}

-- the same the other way round
pub turned : (u v : ViewValue) (node : List ℕ) (addresses : List AddressValue) → DiffersAt u v node addresses → DiffersAt v u node addresses
turned u v node addresses differs = record {
  config = sym differs.config;
  labels = sym differs.labels;
  announced = λ a other. sym (differs.announced a other);
}

abbrev touched-by : List AddressValue → PrefixValue → Option ConfigValue → Bool
touched-by addresses p config = list_any (λ a. list_any (λ adv. same_prefix p (prefix_under adv a)) (bgp_in config)) addresses

module _ (u v : ViewValue) (node : List ℕ) (addresses : List AddressValue) (differs : DiffersAt u v node addresses) (peer : CompiledPeer) (both : Bool) where
  module _ (c : PrefixValue × Terms) (by : IsContribution u node peer both c) (untouched : is_touched v addresses c.0 ≡ false) where
    in_force : v.held.config ≡ Some by.advertised.config
    in_force = sym differs.config ∙ by.advertised.meant.in_force

    there : IsIn (bgp_of v) by.advertisement
    there = subst (λ (config : Option ConfigValue). IsIn (bgp_in config) by.advertisement) (sym in_force) by.advertised.there

    own : same_prefix c.0 (prefix_under by.advertisement by.address) ≡ true
    own = ap (same_prefix c.0) (sym (ap (λ (d : PrefixValue × Terms). d.0) by.is)) ∙ same_prefix-itself c.0

    not-listed : ¬ (Contains addresses by.address)
    not-listed listed =
        false≢true
        (sym untouched
        ∙ any-contains (λ (a : AddressValue). list_any (λ adv. same_prefix c.0 (prefix_under adv a)) (bgp_of v)) addresses by.address listed
        (any-in (λ adv. same_prefix c.0 (prefix_under adv by.address)) (bgp_of v) by.advertisement there own))

    announced : IsAnnouncedFrom v by.address node
    announced =
        (announced_from-Decides v by.address node).0
        (sym (differs.announced by.address not-listed) ∙ (announced_from-Decides u by.address node).1 by.announced)

    -- what isn't contributed by these addresses is contributed by both
    pub into : IsContribution v node peer both c
    into = record {
      peer_selects = subst (Selects peer.node_selectors) differs.labels by.peer_selects;
      address = by.address;
      counts = by.counts;
      announced = announced;
      advertisement = by.advertisement;
      advertised = record {
        config = by.advertised.config;
        there = by.advertised.there;
        meant = record {
          in_force = in_force;
          pool = by.advertised.meant.pool;
          pool_is = by.advertised.meant.pool_is;
          chosen = by.advertised.meant.chosen;
          selected = subst (Selects by.advertisement.node_selectors) differs.labels by.advertised.meant.selected;
        };
        named = by.advertised.named;
      };
      is = by.is;
    }

  module _ (p : PrefixValue) (untouched : is_touched v addresses p ≡ false) where
    untouched-before : is_touched u addresses p ≡ false
    untouched-before = ap (touched-by addresses p) differs.config ∙ untouched

    listed : (t : Terms) → IsIn (contributions u node peer both) (p, t) → IsIn (contributions v node peer both) (p, t)
    listed t among = (contributions-listed v node peer both (p, t)).1 (into (p, t) ((contributions-listed u node peer both (p, t)).0 among) untouched)

pub others-agree : OthersAgree
others-agree u v node addresses differs limited peer both p untouched =
    let limited-before : HasFewInForce u = λ config in_force. limited config (sym differs.config ∙ in_force) in
    let back = turned u v node addresses differs in
    routes-stated u node peer both p
    ∙ stated-same p (contributions u node peer both) (contributions v node peer both) (contributions-ascend u node peer both limited-before)
    (contributions-ascend v node peer both limited)
    (listed u v node addresses differs peer both p untouched)
    (listed v u node addresses back peer both p (untouched-before u v node addresses differs peer both p untouched))
    ∙ sym (routes-stated v node peer both p)
