-- What is told has so few communities.
use Rattle.std.proofs.Common.{◌≡◌, ℕ, List, [], Some, None, All, refl, sym, ap, subst, ◌∙◌}
use Rattle.std.proofs.lemmas.List.Elements.{All-from_recursion}
use Rattle.std.specs.List.{AllByRecursion, flat_map}
use Rattle.std.specs.List.Sorted.{IsStrictlySortedBy}
use Rattle.std.specs.Map.{keys_of}
use Rattle.std.specs.Ordering.{nat_cmp}
use Rattle.ip_ranges.specs.Values.{AddressValue, PrefixValue}
use Rattle.large_numbers.specs.Large.{large_cmp}
use Rattle.large_numbers.specs.declared.numbers.LargeCommunity.{LargeCommunity}
use Rattle.mlb_base.specs.Items.{Has as HasItem, IsIn}
use Rattle.bgp_updates.specs.declared.route.Terms.{Terms}
use Rattle.bgp_updates.specs.Tables.{HasFew}
use Rattle.bgp_updates.proofs.ReceivedLaws.{distinct}
use Rattle.bgp_routes.specs.declared.kept_config.Advertisement.{Advertisement}
use Rattle.bgp_routes.specs.declared.kept_config.KeptPeer.{KeptPeer}
use Rattle.bgp_routes.specs.Contributors.{Entries, of_address, of_aggregate}
use Rattle.bgp_routes.specs.Determined.{Ascends}
use Rattle.bgp_routes.specs.KeptConfig.{AreFew, route_for}
use Rattle.bgp_routes.specs.Laws.{stated}
use Rattle.bgp_routes.specs.Uniting.{with_contributions}
use Rattle.bgp_routes.proofs.Contributing.{at-in}
use Rattle.bgp_routes.proofs.Elements.{ascend-all, at-route, communities, join-large, join-numbers, large, split-large, split-numbers, tells-told}
use Rattle.bgp_routes.proofs.Few.{all-ascend, all-from, each-of, has-at}
use Rattle.bgp_routes.proofs.Stated.{all-after}
use Rattle.bgp_routes.proofs.Telling.{part-source, whole-standing}

module _ (advertisements : List Advertisement) (few : AreFew advertisements) where
  -- the communities of a contribution are those of an advertisement
  record IsOfOne (c : PrefixValue × Terms) : Type 0 where
    pub adv : Advertisement
    pub there : IsIn advertisements adv
    pub numbers : c.1.communities ≡ adv.communities
    pub large : c.1.large ≡ adv.large

  module _ (cs : List (PrefixValue × Terms)) (each : (c : PrefixValue × Terms) → IsIn cs c → IsOfOne c) where
    abbrev table : List (PrefixValue × Terms)
    table = with_contributions [] cs

    own-ascends : (c : PrefixValue × Terms) → IsIn cs c → Ascends c
    own-ascends c there =
        let one = each c there in
        record {
          numbers = subst (IsStrictlySortedBy nat_cmp) (sym one.numbers)
              (each-of (λ (adv : Advertisement). IsStrictlySortedBy nat_cmp adv.communities) advertisements one.adv few.numbers.ascend one.there);
          large = subst (IsStrictlySortedBy large_cmp) (sym one.large)
              (each-of (λ (adv : Advertisement). IsStrictlySortedBy large_cmp adv.large) advertisements one.adv few.large.ascend one.there);
        }

    ascends : AllByRecursion Ascends table
    ascends = all-ascend cs [] tt (all-from Ascends cs own-ascends)

    stated-at : (route : PrefixValue × Terms) → IsIn table route → stated route.0 None cs ≡ Some route.1
    stated-at route there = sym (all-after [] cs route.0 tt) ∙ at-route table route (distinct table (ascend-all [] cs tt)) there

    number-of : (route : PrefixValue × Terms) → IsIn table route → (n : ℕ) → IsIn route.1.communities n
        → HasItem (λ (adv : Advertisement). IsIn adv.communities n) advertisements
    number-of route there n among =
        let told = tells-told (λ x. IsIn (communities x) n) (λ x y. split-numbers x y n) (λ x y. join-numbers x y n) route.0 cs route.1 (stated-at route there)
        among in
        let one = each (route.0, told.terms) told.there in
        has-at (λ (adv : Advertisement). IsIn adv.communities n) advertisements one.adv one.there (subst (λ (ns : List ℕ). IsIn ns n) one.numbers told.tells)

    large-of : (route : PrefixValue × Terms) → IsIn table route → (c : LargeCommunity) → IsIn route.1.large c
        → HasItem (λ (adv : Advertisement). IsIn adv.large c) advertisements
    large-of route there c among =
        let told = tells-told (λ x. IsIn (large x) c) (λ x y. split-large x y c) (λ x y. join-large x y c) route.0 cs route.1 (stated-at route there) among in
        let one = each (route.0, told.terms) told.there in
        has-at (λ (adv : Advertisement). IsIn adv.large c) advertisements one.adv one.there
        (subst (λ (cs : List LargeCommunity). IsIn cs c) one.large told.tells)

    route-few : (route : PrefixValue × Terms) → IsIn table route → HasFew route
    route-few route there =
        let up = each-of Ascends table route ascends there in
        record {
          communities = few.numbers.few route.1.communities up.numbers
              (all-from (λ n. HasItem (λ (adv : Advertisement). IsIn adv.communities n) advertisements) route.1.communities (number-of route there));
          large = few.large.few route.1.large up.large
              (all-from (λ c. HasItem (λ (adv : Advertisement). IsIn adv.large c) advertisements) route.1.large (large-of route there));
        }

    all-few : All HasFew table
    all-few = All-from_recursion HasFew table (all-from HasFew table route-few)

  of-one : (adv : Advertisement) (c d : PrefixValue × Terms) → c ≡ d → IsIn advertisements adv → d.1.communities ≡ adv.communities → d.1.large ≡ adv.large
      → IsOfOne c
  of-one adv c d is there numbers larges = record {
    adv = adv;
    there = there;
    numbers = ap (λ (x : PrefixValue × Terms). x.1.communities) is ∙ numbers;
    large = ap (λ (x : PrefixValue × Terms). x.1.large) is ∙ larges;
  }

  pub part-few : (entries : Entries) (peer : KeptPeer) (addresses : List AddressValue)
      → All HasFew (with_contributions [] (flat_map (of_address entries advertisements peer) addresses))
  part-few entries peer addresses =
      all-few (flat_map (of_address entries advertisements peer) addresses) (λ c there.
      let s = (part-source entries advertisements peer addresses c there).0 in
      of-one s.adv c (route_for peer s.address s.adv) s.is (at-in advertisements s.adv s.place s.at) refl refl)

  pub whole-few : (entries : Entries) (peer : KeptPeer)
      → All HasFew (with_contributions [] (flat_map (of_aggregate entries advertisements peer) (keys_of entries)))
  whole-few entries peer =
      all-few (flat_map (of_aggregate entries advertisements peer) (keys_of entries)) (λ c there.
      let s = whole-standing entries advertisements peer c there in
      of-one s.adv c (route_for peer s.address s.adv) s.is (at-in advertisements s.adv s.aggregate.advertisement s.at) refl refl)
