-- The routes of a node for a peer have so few communities.
use Rattle.std.proofs.Common.{◌≡◌, ℕ, ◌≤◌, Bool, true, false, cond, inl, inr, List, [], ◌∷◌, length, Option}
use Rattle.std.proofs.Common.{Some, None, Ordering, Result, Ok, Err, arith, All, refl, sym, ap, ◌∙◌, subst}
use Rattle.std.proofs.lemmas.Cmp.{nat_cmp_total}
use Rattle.std.proofs.lemmas.List.Elements.{All-from_recursion}
use Rattle.std.proofs.lemmas.Map.Lookups.{CmpEqualImpliesEq, exact_unsigned}
use Rattle.std.specs.Prelude.{IfOk}
use Rattle.std.specs.Cmp.{IsTotalOrder}
use Rattle.std.specs.List.{AllByRecursion}
use Rattle.std.specs.List.Sorted.{IsStrictlySortedBy}
use Rattle.std.specs.Ordering.{nat_cmp}
use Rattle.ip_ranges.specs.Values.{AddressValue, PrefixValue}
use Rattle.large_numbers.specs.Large.{large_cmp}
use Rattle.mlb_base.specs.Items.{Has, IsIn}
use Rattle.pool_config.specs.declared.compiled.CompiledBgp.{CompiledBgp}
use Rattle.pool_config.specs.declared.compiled.CompiledPeer.{CompiledPeer}
use Rattle.pool_config.specs.ConfigValue.{ConfigValue, HasAtMost, HasValue}
use Rattle.pool_config.specs.KeySets.{keys_with}
use Rattle.pool_config.proofs.CommunitySets.{large_cmp-exact, large_cmp-total, no_keys}
use Rattle.pool_config.proofs.KeySets.{ascending-keys_with}
use Rattle.speaker_view.specs.ViewValue.{ViewValue}
use Rattle.bgp_updates.specs.declared.route.Terms.{Terms}
use Rattle.bgp_updates.specs.Received.{same_prefix}
use Rattle.bgp_updates.specs.Tables.{HasFew, before}
use Rattle.bgp_routes.specs.Contribution.{IsContribution, contribution}
use Rattle.bgp_routes.specs.Determined.{Ascends}
use Rattle.bgp_routes.specs.Laws.{HasCommunity}
use Rattle.bgp_routes.specs.Routes.{contributions, routes_of}
use Rattle.bgp_routes.specs.Uniting.{united, united_terms, with_contribution, with_contributions}
use Rattle.bgp_routes.proofs.Elements.{routes-unite}
use Rattle.bgp_routes.proofs.Listing.{contributions-listed}
use Rattle.bgp_routes.specs.Few.{HasFewInForce}

pub all-from : {A : Type 0} (P : A → Type 0) (xs : List A) → ((x : A) → IsIn xs x → P x) → AllByRecursion P xs
all-from P [] each = tt
all-from P (x ∷ xs) each = (each x (inl refl), all-from P xs (λ y there. each y (inr there)))

pub each-of : {A : Type 0} (P : A → Type 0) (xs : List A) (x : A) → AllByRecursion P xs → IsIn xs x → P x
each-of P [] x all none = absurd none
each-of P (y ∷ xs) x all (inl here) = subst P here all.0
each-of P (y ∷ xs) x all (inr later) = each-of P xs x all.1 later

pub has-at : {A : Type 0} (P : A → Type 0) (xs : List A) (x : A) → IsIn xs x → P x → Has P xs
has-at P [] x none holds = none
has-at P (y ∷ xs) x (inl here) holds = inl (subst P (sym here) holds)
has-at P (y ∷ xs) x (inr later) holds = inr (has-at P xs x later holds)

-- ---- the communities of a route ascend
pub united-ascend : {K : Type 0} {R : K → K → Ordering} → IsTotalOrder R → CmpEqualImpliesEq R → (a b : List K) → IsStrictlySortedBy R (united R a b)
united-ascend {K} {R} o exact a b = ascending-keys_with o exact (keys_with R [] a) b (ascending-keys_with o exact [] a (no_keys R))

pub terms-ascend : (p : PrefixValue) (s t : Terms) → Ascends (p, united_terms s t)
terms-ascend p s t = record {
  numbers = united-ascend nat_cmp_total exact_unsigned s.communities t.communities;
  large = united-ascend large_cmp-total large_cmp-exact s.large t.large;
}

one-ascends : (routes : List (PrefixValue × Terms)) (c : PrefixValue × Terms) → AllByRecursion Ascends routes → Ascends c
    → AllByRecursion Ascends (with_contribution routes c)
one-ascends [] c all own = (own, tt)
one-ascends (route ∷ routes) c all own = by_test (same_prefix c.0 route.0) (before c.0 route.0) (one-ascends routes c all.1 own) where
  by_test : (same first : Bool) → AllByRecursion Ascends (with_contribution routes c)
      → AllByRecursion Ascends (cond same ((route.0, united_terms route.1 c.1) ∷ routes) (cond first (c ∷ route ∷ routes) (route ∷ with_contribution routes c)))
  by_test true first rest = (terms-ascend route.0 route.1 c.1, all.1)
  by_test false true rest = (own, all)
  by_test false false rest = (all.0, rest)

pub all-ascend : (cs routes : List (PrefixValue × Terms)) → AllByRecursion Ascends routes → AllByRecursion Ascends cs
    → AllByRecursion Ascends (with_contributions routes cs)
all-ascend [] routes all own = all
all-ascend (c ∷ cs) routes all own = all-ascend cs (with_contribution routes c) (one-ascends routes c all own.0) own.1

module _ (v : ViewValue) (node : List ℕ) (peer : CompiledPeer) (both : Bool) (limited : HasFewInForce v) where
  contribution-ascends : (c : PrefixValue × Terms) → IsContribution v node peer both c → Ascends c
  contribution-ascends c by =
      let adv = by.advertised in
      let config = limited adv.config adv.meant.in_force in
      subst Ascends (sym by.is) (record {
        numbers = each-of (λ a. IsStrictlySortedBy nat_cmp a.communities) adv.config.bgp by.advertisement config.numbers.ascend adv.there;
        large = each-of (λ a. IsStrictlySortedBy large_cmp a.large) adv.config.bgp by.advertisement config.large.ascend adv.there;
      })

  pub contributions-ascend : AllByRecursion Ascends (contributions v node peer both)
  contributions-ascend =
      all-from Ascends (contributions v node peer both) (λ c there. contribution-ascends c ((contributions-listed v node peer both c).0 there))

  pub routes-ascend : AllByRecursion Ascends (routes_of v node peer both)
  routes-ascend = all-ascend (contributions v node peer both) [] tt contributions-ascend

  -- a community of a route is one of an advertisement, so those of a kind are as few
  module _ {K : Type 0} (p : PrefixValue) (kind : Terms → List K) (values : CompiledBgp → List K)
      (own : (a : AddressValue) (adv : CompiledBgp) → kind (contribution peer a adv).1 ≡ values adv) where
    value-of : (config : ConfigValue) → v.held.config ≡ Some config → (k : K) → HasCommunity kind v node peer both p k → HasValue values config k
    value-of config in_force k (terms, by, has) =
        let adv = by.advertised in
        let same : Some adv.config ≡ Some config = sym adv.meant.in_force ∙ in_force in
        let one : adv.config ≡ config = cc in
        let are : kind terms ≡ values by.advertisement = ap (λ (c : PrefixValue × Terms). kind c.1) by.is ∙ own by.address by.advertisement in
        subst (λ (c : ConfigValue). HasValue values c k) one
        (has-at (λ a. IsIn (values a) k) adv.config.bgp by.advertisement adv.there (subst (λ (ks : List K). IsIn ks k) are has))

    none-there : (ks : List K) (limit : ℕ) → v.held.config ≡ None → ((k : K) → IsIn ks k → HasCommunity kind v node peer both p k) → length ks ≤ limit
    none-there [] limit none each = omega arith
    none-there (k ∷ ks) limit none each =
        let (terms, by, has) = each k (inl refl) in
        let wrong : None ≡ Some by.advertised.config = sym none ∙ by.advertised.meant.in_force in
        absurd (cc)

    few-by : (o : Option ConfigValue) {R : K → K → Ordering} (ks : List K) (limit : ℕ) → v.held.config ≡ o
        → ((config : ConfigValue) → v.held.config ≡ Some config → HasAtMost limit R values config)
        → IsStrictlySortedBy R ks → ((k : K) → IsIn ks k → HasCommunity kind v node peer both p k) → length ks ≤ limit
    few-by None ks limit none most ascend each = none-there ks limit none each
    few-by (Some config) ks limit in_force most ascend each =
        (most config in_force).few ks ascend (all-from (HasValue values config) ks (λ k among. value-of config in_force k (each k among)))

  route-few : (route : PrefixValue × Terms) → IsIn (routes_of v node peer both) route → HasFew route
  route-few route there =
      let is = (routes-unite v node peer both).routes route there in
      let up = each-of Ascends (routes_of v node peer both) route routes-ascend there in
      record {
        communities = few-by route.0 (λ t. t.communities) (λ a. a.communities) (λ a adv. refl) v.held.config route.1.communities 512 refl
            (λ config e. (limited config e).numbers) up.numbers (λ n among. (is.communities n).0 among);
        large = few-by route.0 (λ t. t.large) (λ a. a.large) (λ a adv. refl) v.held.config route.1.large 128 refl (λ config e. (limited config e).large)
            up.large (λ c among. (is.large c).0 among);
      }

  pub routes-few : All HasFew (routes_of v node peer both)
  routes-few = All-from_recursion HasFew (routes_of v node peer both) (all-from HasFew (routes_of v node peer both) route-few)

  -- what a call gives
  pub answer-few : {E : Type 0} (r : Result (List (PrefixValue × Terms)) E) → IfOk r (λ table. table ≡ routes_of v node peer both)
      → IfOk r (λ table. All HasFew table)
  answer-few (Ok table) is = subst (All HasFew) (sym is) routes-few
  answer-few (Err e) is = tt
