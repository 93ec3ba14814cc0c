-- The routes of a peer can be told in messages.
use Rattle.std.proofs.Common.{◌≡◌, ◌<◌, ◌≤◌, ◌^◌, ◌/◌, ◌*◌, ◌%◌, ◌-◌, ◌+◌, ◌==◌, ℕ, Bool, true, false, cond, max, List, [], ◌∷◌}
use Rattle.std.proofs.Common.{Option, Some, None, is_some, is_none, IfSome, Ordering, refl, sym, ap, ◌∙◌, subst, inl, inr, arith}
use Rattle.std.specs.List.{AllByRecursion}
use Rattle.std.specs.List.Sorted.{IsStrictlySortedBy}
use Rattle.std.specs.Ordering.{nat_cmp}
use Rattle.std.proofs.lemmas.Cmp.{nat_cmp_total}
use Rattle.std.proofs.lemmas.Map.Lookups.{CmpEqualImpliesEq, exact_unsigned}
use Rattle.std.specs.Cmp.{IsTotalOrder}
use Rattle.ip_ranges.specs.declared.family.Family.{Family}
use Rattle.ip_ranges.specs.declared.family.Family.TheVariants.{V4, V6}
use Rattle.ip_ranges.specs.Values.{AddressValue, PrefixValue, IsOfFamily, IsPrefix, width_of}
use Rattle.large_numbers.specs.Large.{large_cmp}
use Rattle.mlb_base.specs.Items.{IsIn}
use Rattle.mlb_base.proofs.Lists.{contains-in}
use Rattle.pool_config.specs.declared.compiled.CompiledBgp.{CompiledBgp}
use Rattle.pool_config.specs.declared.compiled.CompiledPeer.{CompiledPeer}
use Rattle.pool_config.proofs.CommunitySets.{large_cmp-exact, large_cmp-total}
use Rattle.speaker_view.specs.Held.{objects_of}
use Rattle.speaker_view.specs.ViewValue.{ViewValue}
use Rattle.bgp_updates.specs.Between.{number_of_hop, peering_of}
use Rattle.bgp_updates.specs.Received.{same_prefix}
use Rattle.bgp_updates.specs.Tables.{IsTable, before}
use Rattle.bgp_updates.specs.declared.route.Peering.{Peering}
use Rattle.bgp_updates.specs.declared.route.Terms.{Terms}
use Rattle.bgp_reading.specs.Laws.{CanBeTold}
use Rattle.bgp_reading.specs.Update.{AreValues, IsLarge, IsTold}
use Rattle.bgp_reading.proofs.Meaning.{masked-is}
use Rattle.bgp_routes.specs.Contribution.{IsContribution, length_for}
use Rattle.bgp_routes.specs.Routes.{contributions, routes_of}
use Rattle.bgp_routes.specs.Uniting.{greater, united, united_terms, with_contribution, with_contributions}
use Rattle.bgp_routes.proofs.Elements.{in_united}
use Rattle.bgp_routes.proofs.Listing.{contributions-listed}
use Rattle.bgp_routes.proofs.Placing.{stays}
use Rattle.bgp_routes.specs.Few.{HasFewInForce}
use Rattle.bgp_routes.proofs.Few.{all-from, each-of, routes-few, united-ascend}
use Rattle.shown_view_laws.specs.Numbered.{HasFittingAddresses, HasCompiledNumbers, HasCompiledAsn, IsNumbered}
use Rattle.shown_view_laws.specs.Tellable.{RoutesCanBeTold}

-- ---- a masked address

length-fits : (f : Family) (adv : CompiledBgp) → HasCompiledNumbers adv → length_for f adv ≤ width_of f
length-fits V4 adv numbers = numbers.length
length-fits V6 adv numbers = numbers.length_v6

-- ---- terms

module _ (peering : Peering) where
  -- a sender tells the terms, and its messages hold their numbers
  record IsSayable (terms : Terms) : Type 0 where
    values : AreValues peering terms
    told : IsTold peering terms

  -- a route with a prefix without bits past its length and such terms
  record IsGood (route : PrefixValue × Terms) : Type 0 where
    prefix : IsPrefix route.0
    terms : IsSayable route.1

  both-some : (a b : Option ℕ) (o : Bool) → is_some a ≡ o → is_some b ≡ o → is_some (greater a b) ≡ o
  both-some None b o x y = y
  both-some (Some m) None o x y = x
  both-some (Some m) (Some n) o x y = x

  greater-small : (a b : Option ℕ) → IfSome a (λ n. n < 2 ^ 32) → IfSome b (λ n. n < 2 ^ 32) → IfSome (greater a b) (λ n. n < 2 ^ 32)
  greater-small None b x y = y
  greater-small (Some m) None x y = x
  greater-small (Some m) (Some n) x y = omega (arith, x, y)

  -- what holds of the keys of both holds of the united ones
  united-all : {K : Type 0} {R : K → K → Ordering} (o : IsTotalOrder R) (exact : CmpEqualImpliesEq R) (P : K → Type 0) (a b : List K) → AllByRecursion P a
      → AllByRecursion P b
      → AllByRecursion P (united R a b)
  united-all {K} {R} o exact P a b x y = all-from P (united R a b) (λ k there. elim (in_united o exact a b k there) [
    | inl one ↦ each-of P a k x one
    | inr other ↦ each-of P b k y other
  ])

  united-sayable : (s t : Terms) → IsSayable s → IsSayable t → IsSayable (united_terms s t)
  united-sayable s t x y = record {
    values = record {
      own = x.values.own;
      next_hop = x.values.next_hop;
      next_hop_v6 = x.values.next_hop_v6;
      preference = greater-small s.preference t.preference x.values.preference y.values.preference;
      communities = united-all nat_cmp_total exact_unsigned (λ n. n < 2 ^ 32) s.communities t.communities x.values.communities y.values.communities;
      ascending = united-ascend nat_cmp_total exact_unsigned s.communities t.communities;
      large = united-all large_cmp-total large_cmp-exact IsLarge s.large t.large x.values.large y.values.large;
      large_ascending = united-ascend large_cmp-total large_cmp-exact s.large t.large;
    };
    told = both-some s.preference t.preference (is_none peering.own) x.told y.told;
  }

  -- ---- tables

  good-with : (routes : List (PrefixValue × Terms)) (c : PrefixValue × Terms) → AllByRecursion IsGood routes → IsGood c
      → AllByRecursion IsGood (with_contribution routes c)
  good-with [] c all own = (own, tt)
  good-with (route ∷ routes) c all own = by_test (same_prefix c.0 route.0) (before c.0 route.0) (good-with routes c all.1 own) where
    by_test : (same first : Bool) → AllByRecursion IsGood (with_contribution routes c)
        → AllByRecursion IsGood
        (cond same ((route.0, united_terms route.1 c.1) ∷ routes) (cond first (c ∷ route ∷ routes) (route ∷ with_contribution routes c)))
    by_test true first rest = (record { prefix = all.0.prefix; terms = united-sayable route.1 c.1 all.0.terms own.terms }, all.1)
    by_test false true rest = (own, all)
    by_test false false rest = (all.0, rest)

  -- a table of such routes
  record IsGoodTable (routes : List (PrefixValue × Terms)) : Type 0 where
    table : IsTable routes
    good : AllByRecursion IsGood routes

  good-all : (routes cs : List (PrefixValue × Terms)) → IsGoodTable routes → AllByRecursion IsGood cs → IsGoodTable (with_contributions routes cs)
  good-all routes [] is all = is
  good-all routes (c ∷ cs) is all =
      good-all (with_contribution routes c) cs (record { table = stays routes c is.table all.0.prefix; good = good-with routes c is.good all.0 }) all.1

  all-told : (routes : List (PrefixValue × Terms)) → AllByRecursion IsGood routes → AllByRecursion (λ route. IsTold peering route.1) routes
  all-told [] all = tt
  all-told (route ∷ routes) all = (all.0.terms.told, all-told routes all.1)

  all-values : (routes : List (PrefixValue × Terms)) → AllByRecursion IsGood routes → AllByRecursion (λ route. AreValues peering route.1) routes
  all-values [] all = tt
  all-values (route ∷ routes) all = (all.0.terms.values, all-values routes all.1)

-- ---- contributions

module _ (v : ViewValue) (node : List ℕ) (peer : CompiledPeer) (both : Bool) (hop : AddressValue) (hop_v6 : Option AddressValue) (numbered : IsNumbered v)
    (limited : HasFewInForce v)
    (asn : HasCompiledAsn peer) (hop_small : hop.number < 2 ^ 32) (hop_v6_small : number_of_hop hop_v6 < 2 ^ 128) where
  abbrev peering : Peering
  peering = peering_of peer hop hop_v6

  own-small : (b : Bool) → IfSome (cond b None (Some peer.my_asn)) (λ n. n < 2 ^ 32)
  own-small true = tt
  own-small false = asn

  told-some : (b : Bool) (n : ℕ) → is_some (cond b (Some n) None) ≡ is_none (cond b None (Some peer.my_asn))
  told-some true n = refl
  told-some false n = refl

  told-small : (b : Bool) (n : ℕ) → n < 2 ^ 32 → IfSome (cond b (Some n) None) (λ m. m < 2 ^ 32)
  told-small true n small = small
  told-small false n small = tt

  contribution-good : (c : PrefixValue × Terms) → IsContribution v node peer both c → IsGood peering c
  contribution-good c by =
      let adv = by.advertised in
      let numbers : HasCompiledNumbers by.advertisement =
      each-of HasCompiledNumbers adv.config.bgp by.advertisement (numbered.config adv.config adv.meant.in_force).bgp adv.there in
      let announced = by.announced in
      let addresses : HasFittingAddresses announced.service =
      each-of HasFittingAddresses (objects_of v.held.services) announced.service numbered.services
      (contains-in (objects_of v.held.services) announced.service announced.held) in
      let fits : IsOfFamily by.address = each-of IsOfFamily announced.service.holding.addresses by.address addresses
      (contains-in announced.service.holding.addresses by.address announced.recorded) in
      subst (IsGood peering) (sym by.is) (record {
        prefix = (masked-is by.address.family by.address.number (length_for by.address.family by.advertisement)
            (length-fits by.address.family by.advertisement numbers) fits).is;
        terms = record {
          values = record {
            own = own-small (peer.my_asn == peer.peer_asn);
            next_hop = hop_small;
            next_hop_v6 = hop_v6_small;
            preference = told-small (peer.my_asn == peer.peer_asn) by.advertisement.local_pref numbers.local_pref;
            communities = numbers.communities;
            ascending = each-of (λ (a : CompiledBgp). IsStrictlySortedBy nat_cmp a.communities) adv.config.bgp by.advertisement
                (limited adv.config adv.meant.in_force).numbers.ascend adv.there;
            large = numbers.large;
            large_ascending = each-of (λ (a : CompiledBgp). IsStrictlySortedBy large_cmp a.large) adv.config.bgp by.advertisement
                (limited adv.config adv.meant.in_force).large.ascend adv.there;
          };
          told = told-some (peer.my_asn == peer.peer_asn) by.advertisement.local_pref;
        };
      })

  routes-good : IsGoodTable peering (routes_of v node peer both)
  routes-good =
      good-all peering [] (contributions v node peer both) (record { table = (tt, tt); good = tt })
      (all-from (IsGood peering) (contributions v node peer both) (λ c there. contribution-good c ((contributions-listed v node peer both c).0 there)))

  routes-told : CanBeTold peering (routes_of v node peer both)
  routes-told = record {
    table = routes-good.table;
    few = routes-few v node peer both limited;
    of_peer = all-told peering (routes_of v node peer both) routes-good.good;
    typed = all-values peering (routes_of v node peer both) routes-good.good;
  }

pub routes_can_be_told : RoutesCanBeTold
routes_can_be_told v node peer both hop hop_v6 numbered limited asn small small_v6 = routes-told v node peer both hop hop_v6 numbered limited asn small small_v6
