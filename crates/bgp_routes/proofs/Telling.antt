-- What is told by the addresses that stand with aggregates is a peer's table by the view.
use Rattle.std.proofs.Common.{◌≡◌, ℕ, Bool, zero, suc, ◌+◌, true, is_some, List, [], ◌∷◌, map, Option, Some, None, inl, inr, refl, sym, ap, subst, ◌∙◌, arith}
use Rattle.std.proofs.lemmas.Bool.{and_from, and_parts}
use Rattle.std.specs.List.{AllByRecursion, flat_map, list_any, slice_get}
use Rattle.std.specs.List.Sorted.{IsStrictlySortedBy}
use Rattle.std.specs.Map.{keys_of}
use Rattle.std.specs.Ordering.{nat_cmp}
use Rattle.ip_ranges.specs.Values.{AddressValue, PrefixValue, masked}
use Rattle.large_numbers.specs.Large.{large_cmp}
use Rattle.mlb_base.specs.Items.{IsIn}
use Rattle.pool_config.specs.declared.compiled.CompiledBgp.{CompiledBgp}
use Rattle.pool_config.specs.declared.compiled.CompiledPeer.{CompiledPeer}
use Rattle.speaker_view.specs.Endpoints.{node_labels}
use Rattle.speaker_view.specs.ViewValue.{ViewValue}
use Rattle.bgp_updates.specs.declared.route.Terms.{Terms}
use Rattle.bgp_updates.specs.Received.{same_prefix}
use Rattle.bgp_updates.proofs.ReceivedLaws.{same_prefix-is, same_prefix-itself}
use Rattle.bgp_routes.specs.declared.contributors.Aggregate.{Aggregate}
use Rattle.bgp_routes.specs.declared.kept_config.Advertisement.{Advertisement}
use Rattle.bgp_routes.specs.declared.kept_config.KeptPeer.{KeptPeer}
use Rattle.bgp_routes.specs.Contribution.{IsContribution, contribution, length_for}
use Rattle.bgp_routes.specs.Contributors.{Entries, aggregate_of, contributes, has, is_told, may_stand}
use Rattle.bgp_routes.specs.Contributors.{of_address, of_advertisements, of_aggregate, of_contributor, one_of}
use Rattle.bgp_routes.specs.Determined.{Ascends}
use Rattle.bgp_routes.specs.KeptConfig.{AreFew, advertisement_of, choice_at, is_set, peer_by, prefix_of, route_for}
use Rattle.bgp_routes.specs.Parts.{bgp_of, is_touched, part_of, prefix_under}
use Rattle.bgp_routes.specs.Placed.{place_of}
use Rattle.bgp_routes.specs.Routes.{contributions, routes_of}
use Rattle.bgp_routes.specs.Uniting.{with_contributions}
use Rattle.bgp_routes.proofs.Contributing.{Contributing, at-in, at-map, contributes-listed, receives-at}
use Rattle.bgp_routes.proofs.Contributing.{listed-contributes, map-at, same-prefix-at, standing-place}
use Rattle.bgp_routes.proofs.Few.{all-from, each-of}
use Rattle.bgp_routes.proofs.Listing.{contributions-listed, flat-from, flat-in, keep, kept, passed, pass}
use Rattle.bgp_routes.proofs.Sets.{united-part, united-same}
use Rattle.bgp_routes.proofs.Standing.{one-stands, stands-among, stands-one, there-is}
use Rattle.bgp_routes.proofs.Stays.{any-in, in-any}

-- ---- what is told by a list of advertisements
module _ (entries : Entries) (peer : KeptPeer) (a : AddressValue) where
  pub record Told (place : ℕ) (advertisements : List Advertisement) (c : PrefixValue × Terms) : Type 0 where
    pub index : ℕ
    pub adv : Advertisement
    pub at : slice_get advertisements index ≡ Some adv
    pub told : is_told entries peer a (place + index) adv ≡ true
    pub is : c ≡ route_for peer a adv

  told-later : (place : ℕ) (first : Advertisement) (advertisements : List Advertisement) (c : PrefixValue × Terms) → Told (place + 1) advertisements c
      → Told place (first ∷ advertisements) c
  told-later place first advertisements c told =
      let next : place + 1 + told.index ≡ place + suc told.index = omega arith in
      record { index = suc told.index; adv = told.adv; at = told.at; told = subst (λ n. is_told entries peer a n told.adv ≡ true) next told.told; is = told.is }

  pub told-from : (place : ℕ) (advertisements : List Advertisement) (c : PrefixValue × Terms) → IsIn (of_advertisements entries peer a place advertisements) c
      → Told place advertisements c
  told-from place [] c none = absurd none
  told-from place (adv ∷ advertisements) c there =
      elim (kept (is_told entries peer a place adv) (route_for peer a adv) (of_advertisements entries peer a (place + 1) advertisements) c there) [
        | inl own ↦ (let same : place ≡ place + 0 = omega arith in
            record { index = 0; adv = adv; at = refl; told = subst (λ n. is_told entries peer a n adv ≡ true) same own.0; is = sym own.1 })
        | inr later ↦ told-later place adv advertisements c (told-from (place + 1) advertisements c later)
      ]

  pub from-told : (place : ℕ) (advertisements : List Advertisement) (index : ℕ) (adv : Advertisement) → slice_get advertisements index ≡ Some adv
      → is_told entries peer a (place + index) adv ≡ true
      → IsIn (of_advertisements entries peer a place advertisements) (route_for peer a adv)
  from-told place [] index adv at told = absurd (let wrong : None ≡ Some adv = at in cc)
  from-told place (first ∷ advertisements) zero adv at told =
      let same : first ≡ adv = (let own : Some first ≡ Some adv = at in cc) in
      let here : place + 0 ≡ place = omega arith in
      keep (is_told entries peer a place first) (route_for peer a first) (of_advertisements entries peer a (place + 1) advertisements) (route_for peer a adv)
      (inl (
        subst (λ n. is_told entries peer a n first ≡ true) here
            (subst (λ (x : Advertisement). is_told entries peer a (place + 0) x ≡ true) (sym same) told),
        ap (route_for peer a) same,
      ))
  from-told place (first ∷ advertisements) (suc index) adv at told =
      let next : place + suc index ≡ place + 1 + index = omega arith in
      keep (is_told entries peer a place first) (route_for peer a first) (of_advertisements entries peer a (place + 1) advertisements) (route_for peer a adv)
      (inr (from-told (place + 1) advertisements index adv at (subst (λ n. is_told entries peer a n adv ≡ true) next told)))

-- ---- where what is told comes from
module _ (entries : Entries) (advertisements : List Advertisement) (peer : KeptPeer) where
  -- something that is told: by which advertisement, and of which address
  pub record Source (c : PrefixValue × Terms) : Type 0 where
    pub address : AddressValue
    pub place : ℕ
    pub adv : Advertisement
    pub at : slice_get advertisements place ≡ Some adv
    pub heard : is_set peer.receives place ≡ true
    pub stands : (a : AddressValue) × (has entries (aggregate_of place adv address) a ≡ true)
    pub is : c ≡ route_for peer address adv

  -- an aggregate, with an address that stands with it
  pub record Standing (c : PrefixValue × Terms) : Type 0 where
    pub aggregate : Aggregate
    pub address : AddressValue
    pub adv : Advertisement
    pub at : slice_get advertisements aggregate.advertisement ≡ Some adv
    pub heard : is_set peer.receives aggregate.advertisement ≡ true
    pub stands : has entries aggregate address ≡ true
    pub is : c ≡ route_for peer address adv

  pub part-source : (addresses : List AddressValue) (c : PrefixValue × Terms) → IsIn (flat_map (of_address entries advertisements peer) addresses) c
      → (s : Source c) × IsIn addresses s.address
  part-source addresses c there =
      let of = flat-from (of_address entries advertisements peer) addresses c there in
      let a : AddressValue = of.item in
      let told = told-from entries peer a 0 advertisements c of.own in
      let zero-more : 0 + told.index ≡ told.index = omega arith in
      let is = subst (λ n. is_told entries peer a n told.adv ≡ true) zero-more told.told in
      let both = and_parts (is_set peer.receives told.index) (is_some (one_of entries (aggregate_of told.index told.adv a))) is in
      let one = there-is (one_of entries (aggregate_of told.index told.adv a)) both.1 in (
        record {
          address = a;
          place = told.index;
          adv = told.adv;
          at = told.at;
          heard = both.0;
          stands = (one.0, one-stands entries (aggregate_of told.index told.adv a) one.0 one.1);
          is = told.is;
        },
        of.there,
      )

  pub source-part : (addresses : List AddressValue) (c : PrefixValue × Terms) (s : Source c) → IsIn addresses s.address
      → IsIn (flat_map (of_address entries advertisements peer) addresses) c
  source-part addresses c s there =
      let g = aggregate_of s.place s.adv s.address in
      let told = and_from (is_set peer.receives s.place) (is_some (one_of entries g)) s.heard (stands-one entries g s.stands.0 s.stands.1) in
      let more-zero : s.place ≡ 0 + s.place = omega arith in
      subst (IsIn (flat_map (of_address entries advertisements peer) addresses)) (sym s.is)
      (flat-in (of_address entries advertisements peer) addresses s.address (route_for peer s.address s.adv) there
      (from-told entries peer s.address 0 advertisements s.place s.adv s.at (subst (λ n. is_told entries peer s.address n s.adv ≡ true) more-zero told)))

  from-contributor : (g : Aggregate) (o : Option AddressValue) (p : Option Advertisement) (c : PrefixValue × Terms)
      → is_set peer.receives g.advertisement ≡ true
      → one_of entries g ≡ o → slice_get advertisements g.advertisement ≡ p → IsIn (of_contributor peer o p) c → Standing c
  from-contributor g None p c heard one at none = absurd none
  from-contributor g (Some a) None c heard one at none = absurd none
  from-contributor g (Some a) (Some adv) c heard one at there =
      elim there [
        | inl is ↦ record { aggregate = g; address = a; adv = adv; at = at; heard = heard; stands = one-stands entries g a one; is = sym is }
        | inr none ↦ absurd none
      ]

  pub whole-standing : (c : PrefixValue × Terms) → IsIn (flat_map (of_aggregate entries advertisements peer) (keys_of entries)) c → Standing c
  whole-standing c there =
      let of = flat-from (of_aggregate entries advertisements peer) (keys_of entries) c there in
      let g : Aggregate = of.item in
      let own = passed (is_set peer.receives g.advertisement) (of_contributor peer (one_of entries g) (slice_get advertisements g.advertisement)) c of.own in
      from-contributor g (one_of entries g) (slice_get advertisements g.advertisement) c own.0 refl refl own.1

  -- whichever address is taken of those that stand with it
  pub standing-whole : (g : Aggregate) (a : AddressValue) (adv : Advertisement) → slice_get advertisements g.advertisement ≡ Some adv
      → is_set peer.receives g.advertisement ≡ true → has entries g a ≡ true
      → (c : PrefixValue × Terms) → ((b : AddressValue) → has entries g b ≡ true → c ≡ route_for peer b adv)
      → IsIn (flat_map (of_aggregate entries advertisements peer) (keys_of entries)) c
  standing-whole g a adv at heard stands c same =
      let one = there-is (one_of entries g) (stands-one entries g a stands) in
      let b : AddressValue = one.0 in
      let own = same b (one-stands entries g b one.1) in
      let here : IsIn (of_contributor peer (Some b) (Some adv)) c = inl (sym own) in
      let by : IsIn (of_contributor peer (one_of entries g) (slice_get advertisements g.advertisement)) c =
      subst (λ (o : Option AddressValue). IsIn (of_contributor peer o (slice_get advertisements g.advertisement)) c) (sym one.1)
      (subst (λ (p : Option Advertisement). IsIn (of_contributor peer (Some b) p) c) (sym at) here) in
      flat-in (of_aggregate entries advertisements peer) (keys_of entries) g c (stands-among entries g a stands)
      (pass (is_set peer.receives g.advertisement) (of_contributor peer (one_of entries g) (slice_get advertisements g.advertisement)) c heard by)

-- ---- by a view
module _ (v : ViewValue) (node : List ℕ) (peer : CompiledPeer) (both : Bool) (entries : Entries)
    (right : (g : Aggregate) (a : AddressValue) → has entries g a ≡ contributes v node both g a)
    (few : AreFew (map advertisement_of (bgp_of v))) where
  abbrev bgp : List CompiledBgp
  bgp = bgp_of v

  abbrev advertisements : List Advertisement
  advertisements = map advertisement_of bgp

  abbrev held : KeptPeer
  held = peer_by (node_labels v node) bgp peer

  -- what stands with an aggregate may stand there
  may : (g : Aggregate) (a : AddressValue) → has entries g a ≡ true → may_stand both advertisements g a ≡ true
  may g a stands = (and_parts (may_stand both advertisements g a) (is_set (choice_at v node a) g.advertisement) (sym (right g a) ∙ stands)).0

  -- and has its prefix
  same-prefix : (g : Aggregate) (a b : AddressValue) (adv : CompiledBgp) → slice_get bgp g.advertisement ≡ Some adv → has entries g a ≡ true
      → g.place ≡ place_of (prefix_under adv b) → prefix_under adv a ≡ prefix_under adv b
  same-prefix g a b adv at stands place =
      same-prefix-at (prefix_under adv a) (prefix_under adv b) (sym (standing-place v node both g a adv at (may g a stands)) ∙ place)

  same-route : (a b : AddressValue) (adv : CompiledBgp) → prefix_under adv a ≡ prefix_under adv b
      → route_for held a (advertisement_of adv) ≡ route_for held b (advertisement_of adv)
  same-route a b adv same = λ i. (same i, (route_for held b (advertisement_of adv)).1)

  listed-by : (g : Aggregate) (a : AddressValue) (adv : CompiledBgp) → slice_get bgp g.advertisement ≡ Some adv → is_set held.receives g.advertisement ≡ true
      → has entries g a ≡ true
      → IsContribution v node peer both (contribution peer a adv)
  listed-by g a adv at heard stands =
      contributes-listed v node both peer g a adv at (sym (right g a) ∙ stands) (sym (receives-at v node both peer g.advertisement adv at) ∙ heard)

  -- ---- the whole table
  whole-listed : (c : PrefixValue × Terms) → IsIn (flat_map (of_aggregate entries advertisements held) (keys_of entries)) c → IsContribution v node peer both c
  whole-listed c there =
      let s = whole-standing entries advertisements held c there in
      let found = map-at advertisement_of bgp s.aggregate.advertisement s.adv s.at in
      let is : contribution peer s.address found.0 ≡ c = ap (route_for held s.address) found.2 ∙ sym s.is in
      subst (IsContribution v node peer both) is (listed-by s.aggregate s.address found.0 found.1 s.heard s.stands)

  listed-whole : (c : PrefixValue × Terms) → IsContribution v node peer both c → IsIn (flat_map (of_aggregate entries advertisements held) (keys_of entries)) c
  listed-whole c by =
      let s : Contributing v node both peer c = listed-contributes v node both peer c by in
      let g : Aggregate = aggregate_of s.place (advertisement_of s.adv) s.address in
      let stands : has entries g s.address ≡ true = right g s.address ∙ s.contributes in
      standing-whole entries advertisements held g s.address (advertisement_of s.adv) (at-map advertisement_of bgp s.place s.adv s.at)
      (receives-at v node both peer s.place s.adv s.at ∙ s.heard) stands c
      (λ b own. s.is ∙ sym (same-route b s.address s.adv (same-prefix g b s.address s.adv s.at own refl)))

  -- ---- a part
  touched-by : (addresses : List AddressValue) (a : AddressValue) (adv : CompiledBgp) → IsIn addresses a → IsIn bgp adv
      → is_touched v addresses (prefix_under adv a) ≡ true
  touched-by addresses a adv there among =
      any-in (λ (b : AddressValue). list_any (λ other. same_prefix (prefix_under adv a) (prefix_under other b)) bgp) addresses a there
      (any-in (λ other. same_prefix (prefix_under adv a) (prefix_under other a)) bgp adv among (same_prefix-itself (prefix_under adv a)))

  part-listed : (addresses : List AddressValue) (c : PrefixValue × Terms) → IsIn (flat_map (of_address entries advertisements held) addresses) c
      → IsContribution v node peer both c × (is_touched v addresses c.0 ≡ true)
  part-listed addresses c there =
      let from = part-source entries advertisements held addresses c there in
      let s : Source entries advertisements held c = from.0 in
      let found = map-at advertisement_of bgp s.place s.adv s.at in
      let adv : CompiledBgp = found.0 in
      let g : Aggregate = aggregate_of s.place s.adv s.address in
      let b : AddressValue = s.stands.0 in
      let place : g.place ≡ place_of (prefix_under adv s.address) = ap (λ (x : Advertisement). place_of (prefix_of x s.address)) (sym found.2) in
      let same : prefix_under adv b ≡ prefix_under adv s.address = same-prefix g b s.address adv found.1 s.stands.1 place in
      let own : route_for held s.address (advertisement_of adv) ≡ c = ap (route_for held s.address) found.2 ∙ sym s.is in
      let is : contribution peer b adv ≡ c = same-route b s.address adv same ∙ own in (
        subst (IsContribution v node peer both) is (listed-by g b adv found.1 s.heard s.stands.1),
        subst (λ (d : PrefixValue × Terms). is_touched v addresses d.0 ≡ true) own (touched-by addresses s.address adv from.1 (at-in bgp adv s.place found.1)),
      )

  -- a prefix of one of the addresses is that address's own under each advertisement of its length
  same-length : (p : PrefixValue) (adv other : CompiledBgp) (a b : AddressValue) → p ≡ prefix_under adv a → p ≡ prefix_under other b → p ≡ prefix_under adv b
  same-length p adv other a b own there =
      let families : a.family ≡ b.family = ap (λ (q : PrefixValue). q.family) (sym own ∙ there) in
      let lengths : length_for b.family other ≡ length_for b.family adv =
      ap (λ (q : PrefixValue). q.length) (sym there ∙ own) ∙ ap (λ f. length_for f adv) families in
      there ∙ ap (masked b) lengths

  listed-part : (addresses : List AddressValue) (c : PrefixValue × Terms) → is_touched v addresses c.0 ≡ true → IsContribution v node peer both c
      → IsIn (flat_map (of_address entries advertisements held) addresses) c
  listed-part addresses c touched by =
      let s : Contributing v node both peer c = listed-contributes v node both peer c by in
      let adv : CompiledBgp = s.adv in
      let at = in-any (λ (b : AddressValue). list_any (λ other. same_prefix c.0 (prefix_under other b)) bgp) addresses touched in
      let a : AddressValue = at.0 in
      let under = in-any (λ other. same_prefix c.0 (prefix_under other a)) bgp at.2 in
      let other : CompiledBgp = under.0 in
      let own : c.0 ≡ prefix_under adv s.address = ap (λ (d : PrefixValue × Terms). d.0) s.is in
      let there : c.0 ≡ prefix_under other a = same_prefix-is c.0 (prefix_under other a) under.2 in
      let here : c.0 ≡ prefix_under adv a = same-length c.0 adv other s.address a own there in
      let same : prefix_under adv s.address ≡ prefix_under adv a = sym own ∙ here in
      let g : Aggregate = aggregate_of s.place (advertisement_of adv) s.address in
      let stands : has entries g s.address ≡ true = right g s.address ∙ s.contributes in
      let moved : has entries (aggregate_of s.place (advertisement_of adv) a) s.address ≡ true =
      subst (λ (p : PrefixValue). has entries (record { place = place_of p; advertisement = s.place }) s.address ≡ true) same stands in
      source-part entries advertisements held addresses c
      (record {
        address = a;
        place = s.place;
        adv = advertisement_of adv;
        at = at-map advertisement_of bgp s.place adv s.at;
        heard = receives-at v node both peer s.place adv s.at ∙ s.heard;
        stands = (s.address, moved);
        is = s.is ∙ same-route s.address a adv same;
      })
      at.1

  -- ---- communities ascend
  ascends-by : (c : PrefixValue × Terms) → IsContribution v node peer both c → Ascends c
  ascends-by c by =
      let s : Contributing v node both peer c = listed-contributes v node both peer c by in
      let there : IsIn advertisements (advertisement_of s.adv) =
      at-in advertisements (advertisement_of s.adv) s.place (at-map advertisement_of bgp s.place s.adv s.at) in
      subst Ascends (sym s.is) (record {
        numbers =
            each-of (λ (adv : Advertisement). IsStrictlySortedBy nat_cmp adv.communities) advertisements (advertisement_of s.adv) few.numbers.ascend there;
        large = each-of (λ (adv : Advertisement). IsStrictlySortedBy large_cmp adv.large) advertisements (advertisement_of s.adv) few.large.ascend there;
      })

  all-ascend : AllByRecursion Ascends (contributions v node peer both)
  all-ascend = all-from Ascends (contributions v node peer both) (λ c there. ascends-by c ((contributions-listed v node peer both c).0 there))

  pub whole-is : with_contributions [] (flat_map (of_aggregate entries advertisements held) (keys_of entries)) ≡ routes_of v node peer both
  whole-is =
      let cs = flat_map (of_aggregate entries advertisements held) (keys_of entries) in
      united-same cs (contributions v node peer both)
      (all-from Ascends cs (λ c there. ascends-by c (whole-listed c there))) all-ascend
      (λ p t there. (contributions-listed v node peer both (p, t)).1 (whole-listed (p, t) there))
      (λ p t there. listed-whole (p, t) ((contributions-listed v node peer both (p, t)).0 there))

  pub part-is : (addresses : List AddressValue)
      → with_contributions [] (flat_map (of_address entries advertisements held) addresses) ≡ part_of v addresses (routes_of v node peer both)
  part-is addresses =
      let cs = flat_map (of_address entries advertisements held) addresses in
      united-part (is_touched v addresses) cs (contributions v node peer both)
      (all-from Ascends cs (λ c there. ascends-by c (part-listed addresses c there).0)) all-ascend
      (λ p t there. let listed = part-listed addresses (p, t) there in ((contributions-listed v node peer both (p, t)).1 listed.0, listed.1))
      (λ p t touched there. listed-part addresses (p, t) touched ((contributions-listed v node peer both (p, t)).0 there))
