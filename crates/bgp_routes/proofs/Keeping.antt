-- What is kept is right for a view, and what is told by it is the tables of the view's peers.
use Rattle.std.proofs.Common.{◌≡◌, ℕ, Bool, true, false, cond, ◌&&◌, ◌==◌, List, [], ◌∷◌, map, find, Option, Some, None, refl, sym, ap, subst, ◌∙◌}
use Rattle.std.specs.List.{flat_map}
use Rattle.std.specs.Map.{keys_of}
use Rattle.std.specs.Option.{option_map}
use Rattle.std.specs.Str.{bytes_eq}
use Rattle.std.proofs.lemmas.Bool.{and_parts, false≢true}
use Rattle.std.proofs.Math.Bool.{and-false}
use Rattle.ip_ranges.specs.Values.{AddressValue, PrefixValue}
use Rattle.pool_config.specs.ConfigValue.{ConfigValue}
use Rattle.pool_config.specs.declared.compiled.CompiledPeer.{CompiledPeer}
use Rattle.speaker_view.specs.Endpoints.{node_labels, recorded_addresses}
use Rattle.speaker_view.specs.ViewValue.{ViewValue}
use Rattle.bgp_updates.specs.declared.route.Terms.{Terms}
use Rattle.bgp_routes.specs.declared.contributors.Aggregate.{Aggregate}
use Rattle.bgp_routes.specs.declared.kept_config.Advertisement.{Advertisement}
use Rattle.bgp_routes.specs.declared.kept_config.KeptPeer.{KeptPeer}
use Rattle.bgp_routes.specs.Contributors.{AreTouched, Entries, StandRight, contributes, has, may_stand, of_address, of_aggregate}
use Rattle.bgp_routes.specs.KeptConfig.{AreFew, KeptConfigValue, advertisement_of, choice_at, choice_by, kept_config_for, is_kept_of, is_set, peer_by, pools_in}
use Rattle.bgp_routes.specs.Kept.{AreKeptBut, AreKeptFor, HoldsNone, IsCleared, KeptValue}
use Rattle.bgp_routes.specs.Parts.{bgp_in, bgp_of, part_of}
use Rattle.bgp_routes.specs.Peers.{PeerTable, is_table_of, peers_in, peers_of, table_at, table_found, tables_of}
use Rattle.bgp_routes.specs.Routes.{counts, routes_of}
use Rattle.bgp_routes.specs.Uniting.{with_contributions}
use Rattle.bgp_routes.proofs.Renewing.{same-elsewhere, same-held, touched-all, unrecorded-none}
use Rattle.bgp_routes.proofs.Telling.{part-is, whole-is}

-- ---- nothing is held
no-config : (v : ViewValue) (node : List ℕ) → v.held.config ≡ None → record { advertisements = []; choices = []; peers = [] } ≡ kept_config_for v node
no-config v node none = λ i. record {
  advertisements = map advertisement_of (bgp_in (sym none i));
  choices = map (choice_by (node_labels v node) (bgp_in (sym none i))) (pools_in (sym none i));
  peers = map (peer_by (node_labels v node) (bgp_in (sym none i))) (peers_in (sym none i));
}

nothing-contributes : (v : ViewValue) (node : List ℕ) (both : Bool) → v.held.config ≡ None → (g : Aggregate) (a : AddressValue)
    → false ≡ contributes v node both g a
nothing-contributes v node both none g a =
    sym (ap (λ (config : Option ConfigValue). may_stand both (map advertisement_of (bgp_in config)) g a && is_set (choice_at v node a) g.advertisement) none
    ∙ ap (λ b. b && is_set (choice_at v node a) g.advertisement) (and-false (counts both a.family)))

pub cleared-none : (kept : KeptValue) → IsCleared kept → HoldsNone kept
cleared-none kept cleared v none = record {
  held = cleared.held ∙ no-config v kept.node none;
  contributors = λ g a. ap (λ f. f g a) cleared.contributors ∙ nothing-contributes v kept.node kept.both none g a;
}

pub cleared-stand : (both : Bool) (advertisements : List Advertisement) (entries : Entries) → has entries ≡ (λ g a. false)
    → StandRight both advertisements entries
cleared-stand both advertisements entries none g a stands = absurd (false≢true (sym (ap (λ f. f g a) none) ∙ stands))

-- ---- all was made anew
pub filled : (v : ViewValue) (node : List ℕ) (both : Bool) (held : KeptConfigValue) (old new : Entries) → held ≡ kept_config_for v node
    → has old ≡ (λ g a. false)
    → AreTouched v node both (recorded_addresses v) old new → AreKeptFor v (record { node = node; both = both; held = held; contributors = new })
filled v node both held old new right none touched = record {
  held = right;
  contributors = touched-all v node both (recorded_addresses v) old new (λ g a other. ap (λ f. f g a) none ∙ unrecorded-none v node both g a other) touched;
}

-- ---- some was
module _ (v : ViewValue) (addresses : List AddressValue) (kept : KeptValue) (but : AreKeptBut v addresses kept) where
  abbrev u : ViewValue
  u = but.0

  pub held-but : kept.held ≡ kept_config_for v kept.node
  held-but = but.1.held ∙ same-held u v kept.node addresses but.2

  pub stand-but : StandRight kept.both kept.held.advertisements kept.contributors
  stand-but g a stands =
      let by : contributes u kept.node kept.both g a ≡ true = sym (but.1.contributors g a) ∙ stands in
      let may = (and_parts (may_stand kept.both (kept_config_for u kept.node).advertisements g a) (is_set (choice_at u kept.node a) g.advertisement) by).0 in
      subst (λ (h : KeptConfigValue). may_stand kept.both h.advertisements g a ≡ true) (sym but.1.held) may

  pub renewed : (new : Entries) → AreTouched v kept.node kept.both addresses kept.contributors new
      → AreKeptFor v (record { node = kept.node; both = kept.both; held = kept.held; contributors = new })
  renewed new touched = record {
    held = held-but;
    contributors = touched-all v kept.node kept.both addresses kept.contributors new
        (λ g a other. but.1.contributors g a ∙ same-elsewhere u v kept.node kept.both addresses but.2 g a other) touched;
  }

-- ---- what is told
find-map : {A B : Type 0} (test : B → Bool) (f : A → B) (xs : List A) → find test (map f xs) ≡ option_map f (find (λ x. test (f x)) xs)
find-map test f [] = refl
find-map {A} {B} test f (x ∷ xs) = by-test (test (f x)) (find-map test f xs) where
  by-test : (b : Bool) → find test (map f xs) ≡ option_map f (find (λ y. test (f y)) xs)
      → cond b (Some (f x)) (find test (map f xs)) ≡ option_map f (cond b (Some x) (find (λ y. test (f y)) xs))
  by-test true rest = refl
  by-test false rest = rest

module _ (v : ViewValue) (kept : KeptValue) (right : AreKeptFor v kept) (peer : CompiledPeer) where
  abbrev node : List ℕ
  node = kept.node

  abbrev both : Bool
  both = kept.both

  abbrev routes : CompiledPeer → List (PrefixValue × Terms)
  routes p = routes_of v node p both

  abbrev made : CompiledPeer → KeptPeer
  made p = peer_by (node_labels v node) (bgp_of v) p

  -- the peer's name and AS numbers are those of this one
  abbrev is_one : CompiledPeer → Bool
  is_one p = bytes_eq p.name peer.name && (p.my_asn == peer.my_asn) && (p.peer_asn == peer.peer_asn)

  found-held : find (is_kept_of peer) kept.held.peers ≡ option_map made (find is_one (peers_of v))
  found-held = ap (λ (h : KeptConfigValue). find (is_kept_of peer) h.peers) right.held ∙ find-map (is_kept_of peer) made (peers_of v)

  found-table : table_found peer (tables_of v node both) ≡ option_map routes (find is_one (peers_of v))
  found-table =
      ap (option_map (λ (table : PeerTable). table.routes)) (find-map (is_table_of peer) (table_at v node both) (peers_of v))
      ∙ twice (find is_one (peers_of v))
    where
      twice : (o : Option CompiledPeer) → option_map (λ (table : PeerTable). table.routes) (option_map (table_at v node both) o) ≡ option_map routes o
      twice None = refl
      twice (Some p) = refl

  none-by : (o : Option CompiledPeer) → option_map made o ≡ None → option_map routes o ≡ None
  none-by None e = refl
  none-by (Some p) e = absurd (let wrong : Some (made p) ≡ None = e in cc)

  some-by : (o : Option CompiledPeer) (held : KeptPeer) → option_map made o ≡ Some held
      → (p : CompiledPeer) × (made p ≡ held) × (option_map routes o ≡ Some (routes p))
  some-by None held e = absurd (let wrong : None ≡ Some held = e in cc)
  some-by (Some p) held e = (p, (let own : Some (made p) ≡ Some held = e in cc), refl)

  -- where no peer is found, none has a table
  pub none-told : None ≡ find (is_kept_of peer) kept.held.peers → None ≡ table_found peer (tables_of v node both)
  none-told none = sym (found-table ∙ none-by (find is_one (peers_of v)) (sym found-held ∙ sym none))

  module _ (few : AreFew kept.held.advertisements) (held : KeptPeer) (found : Some held ≡ find (is_kept_of peer) kept.held.peers) where
    one : (p : CompiledPeer) × (made p ≡ held) × (option_map routes (find is_one (peers_of v)) ≡ Some (routes p))
    one = some-by (find is_one (peers_of v)) held (sym found-held ∙ sym found)

    few-held : AreFew (map advertisement_of (bgp_of v))
    few-held = subst (λ (h : KeptConfigValue). AreFew h.advertisements) right.held few

    pub whole-told : Some (with_contributions [] (flat_map (of_aggregate kept.contributors kept.held.advertisements held) (keys_of kept.contributors)))
        ≡ table_found peer (tables_of v node both)
    whole-told =
        (λ i. Some (with_contributions [] (flat_map (of_aggregate kept.contributors (right.held i).advertisements (sym one.1 i)) (keys_of kept.contributors))))
        ∙ ap Some (whole-is v node one.0 both kept.contributors right.contributors few-held)
        ∙ sym (found-table ∙ one.2)

    pub part-told : (addresses : List AddressValue)
        → Some (with_contributions [] (flat_map (of_address kept.contributors kept.held.advertisements held) addresses))
        ≡ option_map (part_of v addresses) (table_found peer (tables_of v node both))
    part-told addresses =
        (λ i. Some (with_contributions [] (flat_map (of_address kept.contributors (right.held i).advertisements (sym one.1 i)) addresses)))
        ∙ ap Some (part-is v node one.0 both kept.contributors right.contributors few-held addresses)
        ∙ sym (ap (option_map (part_of v addresses)) (found-table ∙ one.2))
