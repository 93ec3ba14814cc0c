-- Where what decides the routes is the same in two views, so are the routes.
use Rattle.std.proofs.Common.{◌≡◌, ℕ, Bool, List, [], ◌∷◌, map, Option, refl, ◌∙◌, ap, ap₂}
use Rattle.ip_ranges.specs.Values.{PrefixValue}
use Rattle.pool_config.specs.ConfigValue.{ConfigValue}
use Rattle.pool_config.specs.declared.compiled.CompiledPeer.{CompiledPeer}
use Rattle.speaker_view.specs.ViewValue.{ViewValue}
use Rattle.bgp_updates.specs.declared.route.Terms.{Terms}
use Rattle.bgp_routes.specs.Contribution.{IsContribution}
use Rattle.bgp_routes.specs.Differ.{DiffersAt}
use Rattle.bgp_routes.specs.Parts.{CommunitiesAscend, SameViewsKeepTables}
use Rattle.bgp_routes.specs.Peers.{PeerTable, peers_in, peers_of, table_at, tables_of}
use Rattle.bgp_routes.specs.Laws.{AreRoutes, HasCommunity, IsGreatest, IsRoute}
use Rattle.bgp_routes.specs.Routes.{routes_of}
use Rattle.bgp_routes.proofs.Agreeing.{into, turned}
use Rattle.bgp_routes.proofs.Determined.{one-table}
use Rattle.bgp_routes.proofs.Elements.{prefixes-ascend, routes-unite}

-- ---- views that announce the same addresses
module _ (u v : ViewValue) (node : List ℕ) (peer : CompiledPeer) (both : Bool) (there : (c : PrefixValue × Terms) → IsContribution u node peer both c
    → IsContribution v node peer both c)
    (back : (c : PrefixValue × Terms) → IsContribution v node peer both c → IsContribution u node peer both c) where
  greatest : (p : PrefixValue) (a : Option ℕ) → IsGreatest u node peer both p a → IsGreatest v node peer both p a
  greatest p a is = record {
    terms = is.terms;
    there = there (p, is.terms) is.there;
    is = is.is;
    greatest = λ others m n by. is.greatest others m n (back (p, others) by);
  }

  has : {K : Type 0} (kind : Terms → List K) (p : PrefixValue) (k : K) → HasCommunity kind u node peer both p k → HasCommunity kind v node peer both p k
  has kind p k is = (is.0, there (p, is.0) is.1, is.2)

  has-back : {K : Type 0} (kind : Terms → List K) (p : PrefixValue) (k : K) → HasCommunity kind v node peer both p k → HasCommunity kind u node peer both p k
  has-back kind p k is = (is.0, back (p, is.0) is.1, is.2)

  route : (r : PrefixValue × Terms) → IsRoute u node peer both r → IsRoute v node peer both r
  route r is = record {
    communities =
        λ n. (λ among. has (λ t. t.communities) r.0 n ((is.communities n).0 among), λ told. (is.communities n).1 (has-back (λ t. t.communities) r.0 n told));
    large = λ c. (λ among. has (λ t. t.large) r.0 c ((is.large c).0 among), λ told. (is.large c).1 (has-back (λ t. t.large) r.0 c told));
    preference = greatest r.0 r.1.preference is.preference;
  }

  are-routes : (table : List (PrefixValue × Terms)) → AreRoutes u node peer both table → AreRoutes v node peer both table
  are-routes table are = record {
    routes = λ r among. route r (are.routes r among);
    all = λ c by. are.all c (back c by);
  }

module _ (u v : ViewValue) (node : List ℕ) (both : Bool) (differs : DiffersAt u v node []) (first : CommunitiesAscend u node both)
    (second : CommunitiesAscend v node both) where
  same-routes : (peer : CompiledPeer) → routes_of u node peer both ≡ routes_of v node peer both
  same-routes peer =
      one-table v node peer both (routes_of u node peer both) (routes_of v node peer both)
      (record {
        prefixes = prefixes-ascend u node peer both;
        communities = first peer;
        routes = are-routes u v node peer both (λ c by. into u v node [] differs peer both c by refl)
            (λ c by. into v u node [] (turned u v node [] differs) peer both c by refl) (routes_of u node peer both) (routes-unite u node peer both);
      })
      (record { prefixes = prefixes-ascend v node peer both; communities = second peer; routes = routes-unite v node peer both })

  same-tables : (peers : List CompiledPeer) → map (table_at u node both) peers ≡ map (table_at v node both) peers
  same-tables [] = refl
  same-tables (peer ∷ peers) =
      ap₂ (λ (routes : List (PrefixValue × Terms)) (ts : List PeerTable).
      record { name = peer.name; my_asn = peer.my_asn; peer_asn = peer.peer_asn; routes = routes } ∷ ts) (same-routes peer) (same-tables peers)

  pub same-kept : tables_of u node both ≡ tables_of v node both
  same-kept = same-tables (peers_of u) ∙ ap (λ (config : Option ConfigValue). map (table_at v node both) (peers_in config)) differs.config

pub same-views : SameViewsKeepTables
same-views u v node both differs first second = same-kept u v node both differs first second
