-- What the terms of a route tell: the communities and the greatest preference of all contributions of its prefix.
use Rattle.std.proofs.Common.{◌≡◌, ℕ, ◌≤◌, Bool, true, false, cond, List, [], ◌∷◌, ◌⊎◌, inl, inr, Option}
use Rattle.std.proofs.Common.{Some, None, Ordering, refl, sym, ◌∙◌, ap, subst, arith}
use Rattle.std.specs.Cmp.{IsTotalOrder}
use Rattle.std.specs.List.{list_any}
use Rattle.std.specs.Bool.{⊤}
use Rattle.std.specs.Map.{keys_of}
use Rattle.std.proofs.lemmas.Bool.{or_left, or_right, true≢false}
use Rattle.std.proofs.lemmas.Cmp.{nat_cmp_total}
use Rattle.std.proofs.lemmas.Map.Lookups.{CmpEqualImpliesEq, exact_unsigned}
use Rattle.std.proofs.lemmas.Option.{same_Some}
use Rattle.ip_ranges.specs.Values.{PrefixValue}
use Rattle.large_numbers.specs.declared.numbers.LargeCommunity.{LargeCommunity}
use Rattle.mlb_base.specs.Items.{IsIn}
use Rattle.mlb_base.proofs.Bools.{by_bool}
use Rattle.pool_config.specs.declared.compiled.CompiledPeer.{CompiledPeer}
use Rattle.pool_config.specs.KeySets.{keys_with}
use Rattle.pool_config.proofs.CommunitySets.{large_cmp-exact, large_cmp-total}
use Rattle.pool_config.proofs.KeySets.{in_keys, keys_in}
use Rattle.speaker_view.specs.ViewValue.{ViewValue}
use Rattle.bgp_updates.specs.declared.route.Terms.{Terms}
use Rattle.bgp_updates.specs.Received.{AreDistinct, same_prefix, terms_at}
use Rattle.bgp_updates.specs.Tables.{Ascend}
use Rattle.bgp_updates.proofs.Packing.{by_test}
use Rattle.bgp_updates.proofs.ReceivedLaws.{distinct, same_prefix-is, same_prefix-itself}
use Rattle.bgp_routes.specs.Contribution.{IsContribution}
use Rattle.bgp_routes.specs.Laws.{HasCommunity, IsGreatest, IsRoute, RoutesUniteContributions, joined, stated}
use Rattle.bgp_routes.specs.Routes.{contributions, routes_of}
use Rattle.bgp_routes.specs.Uniting.{greater, united, united_terms, with_contribution, with_contributions}
use Rattle.bgp_routes.proofs.Listing.{contributions-listed}
use Rattle.bgp_routes.proofs.Placing.{ascend-with}
use Rattle.bgp_routes.proofs.Stated.{routes-stated}

-- ---- what united terms tell

module _ {K : Type 0} {R : K → K → Ordering} (o : IsTotalOrder R) (exact : CmpEqualImpliesEq R) where
  pub in_united : (a b : List K) (k : K) → IsIn (united R a b) k → IsIn a k ⊎ IsIn b k
  in_united a b k there = elim (in_keys o exact (keys_with R [] a) b k there) [
    | inl first ↦ elim (in_keys o exact [] a k first) [ inl none ↦ absurd none | inr one ↦ inl one ]
    | inr second ↦ inr second
  ]

  pub united_in : (a b : List K) (k : K) → IsIn a k ⊎ IsIn b k → IsIn (united R a b) k
  united_in a b k (inl one) = keys_in o exact (keys_with R [] a) b k (inl (keys_in o exact [] a k (inr one)))
  united_in a b k (inr other) = keys_in o exact (keys_with R [] a) b k (inr other)

-- there is a preference, and it is at least this
abbrev pub AtLeast : ℕ → Option ℕ → Type 0
AtLeast m None = ⊥
AtLeast m (Some x) = m ≤ x

pub greater-to : (m : ℕ) (a b : Option ℕ) → AtLeast m (greater a b) → AtLeast m a ⊎ AtLeast m b
greater-to m None b h = inr h
greater-to m (Some x) None h = inl h
greater-to m (Some x) (Some y) h = by_test ((m ≤ x) ⊎ (m ≤ y)) m x (λ within. inl within) (λ over. inr (omega (arith, h, over)))

pub greater-from : (m : ℕ) (a b : Option ℕ) → AtLeast m a ⊎ AtLeast m b → AtLeast m (greater a b)
greater-from m None b (inl none) = absurd none
greater-from m None b (inr h) = h
greater-from m (Some x) None (inl h) = h
greater-from m (Some x) None (inr none) = absurd none
greater-from m (Some x) (Some y) (inl h) = omega (arith, h)
greater-from m (Some x) (Some y) (inr h) = omega (arith, h)

-- ---- what stated terms tell is what one of those before or of the contributions does

abbrev pub There : (Terms → Type 0) → Option Terms → Type 0
There P None = ⊥
There P (Some t) = P t

pub record Told (P : Terms → Type 0) (p : PrefixValue) (cs : List (PrefixValue × Terms)) : Type 0 where
  pub terms : Terms
  pub there : IsIn cs (p, terms)
  pub tells : P terms

told-later : (P : Terms → Type 0) (p : PrefixValue) (c : PrefixValue × Terms) (cs : List (PrefixValue × Terms)) → Told P p cs → Told P p (c ∷ cs)
told-later P p c cs told = record { terms = told.terms; there = inr told.there; tells = told.tells }

module _ (P : Terms → Type 0) (split : (s t : Terms) → P (united_terms s t) → P s ⊎ P t) (join : (s t : Terms) → P s ⊎ P t → P (united_terms s t))
    (p : PrefixValue) where
  joined-to : (found : Option Terms) (t : Terms) → P (joined found t) → There P found ⊎ P t
  joined-to None t now = inr now
  joined-to (Some s) t now = split s t now

  joined-from : (found : Option Terms) (t : Terms) → There P found ⊎ P t → P (joined found t)
  joined-from None t (inl none) = absurd none
  joined-from None t (inr now) = now
  joined-from (Some s) t h = join s t h

  pub stated-to : (found : Option Terms) (cs : List (PrefixValue × Terms)) → There P (stated p found cs) → There P found ⊎ Told P p cs
  stated-to found [] h = inl h
  stated-to found (c ∷ more) h =
      by_bool (There P found ⊎ Told P p (c ∷ more)) (same_prefix p c.0)
      (λ own.
      let here : c ≡ (p, c.1) = ap (λ (q : PrefixValue). (q, c.1)) (sym (same_prefix-is p c.0 own)) in
      elim (stated-to (Some (joined found c.1)) more (subst (λ b. There P (stated p (cond b (Some (joined found c.1)) found) more)) own h)) [
        | inl now ↦ elim (joined-to found c.1 now) [ inl before ↦ inl before | inr new ↦ inr (record { terms = c.1; there = inl here; tells = new }) ]
        | inr later ↦ inr (told-later P p c more later)
      ])
      (λ other. elim (stated-to found more (subst (λ b. There P (stated p (cond b (Some (joined found c.1)) found) more)) other h)) [
        | inl before ↦ inl before
        | inr later ↦ inr (told-later P p c more later)
      ])

  own-first : (found : Option Terms) (c : PrefixValue × Terms) (more : List (PrefixValue × Terms)) → There P found ⊎ Told P p (c ∷ more)
      → P (joined found c.1) ⊎ Told P p more
  own-first found c more (inl before) = inl (joined-from found c.1 (inl before))
  own-first found c more (inr told) = elim (told.there) [
    | inl is ↦ inl (joined-from found c.1 (inr (subst P (sym (ap (λ r. r.1) is)) told.tells)))
    | inr later ↦ inr (record { terms = told.terms; there = later; tells = told.tells })
  ]

  other-first : (found : Option Terms) (c : PrefixValue × Terms) (more : List (PrefixValue × Terms)) → same_prefix p c.0 ≡ false
      → There P found ⊎ Told P p (c ∷ more) → There P found ⊎ Told P p more
  other-first found c more other (inl before) = inl before
  other-first found c more other (inr told) = elim (told.there) [
    | inl is ↦ absurd (true≢false (sym (ap (same_prefix p) (ap (λ r. r.0) is) ∙ same_prefix-itself p) ∙ other))
    | inr later ↦ inr (record { terms = told.terms; there = later; tells = told.tells })
  ]

  pub stated-from : (found : Option Terms) (cs : List (PrefixValue × Terms)) → There P found ⊎ Told P p cs → There P (stated p found cs)
  stated-from found [] (inl h) = h
  stated-from found [] (inr told) = absurd told.there
  stated-from found (c ∷ more) h =
      by_bool (There P (stated p found (c ∷ more))) (same_prefix p c.0)
      (λ own. subst (λ b. There P (stated p (cond b (Some (joined found c.1)) found) more)) (sym own)
      (stated-from (Some (joined found c.1)) more (own-first found c more h)))
      (λ other.
      subst (λ b. There P (stated p (cond b (Some (joined found c.1)) found) more)) (sym other) (stated-from found more (other-first found c more other h)))

  -- of no terms before
  pub tells-told : (cs : List (PrefixValue × Terms)) (terms : Terms) → stated p None cs ≡ Some terms → P terms → Told P p cs
  tells-told cs terms is tells = elim (stated-to None cs (subst (There P) (sym is) tells)) [ inl none ↦ absurd none | inr told ↦ told ]

  pub told-tells : (cs : List (PrefixValue × Terms)) (terms : Terms) → stated p None cs ≡ Some terms → Told P p cs → P terms
  told-tells cs terms is told = subst (There P) is (stated-from None cs (inr told))

-- ---- tables

any-key : (p : PrefixValue) (routes : List (PrefixValue × Terms)) (route : PrefixValue × Terms) → IsIn routes route → p ≡ route.0
    → list_any (same_prefix p) (keys_of routes) ≡ true
any-key p [] route none e = absurd none
any-key p (x ∷ routes) route (inl is) e =
    or_left (same_prefix p x.0) (list_any (same_prefix p) (keys_of routes)) (ap (same_prefix p) (ap (λ r. r.0) is ∙ sym e) ∙ same_prefix-itself p)
any-key p (x ∷ routes) route (inr later) e = or_right (same_prefix p x.0) (list_any (same_prefix p) (keys_of routes)) (any-key p routes route later e)

pub at-route : (routes : List (PrefixValue × Terms)) (route : PrefixValue × Terms) → AreDistinct routes → IsIn routes route
    → terms_at routes route.0 ≡ Some route.1
at-route [] route apart none = absurd none
at-route (x ∷ routes) route apart (inl is) = subst (λ q. terms_at (x ∷ routes) q.0 ≡ Some q.1) is (rw (same_prefix-itself x.0) refl)
at-route (x ∷ routes) route apart (inr later) =
    by_bool (terms_at (x ∷ routes) route.0 ≡ Some route.1) (same_prefix route.0 x.0)
    (λ own. absurd (true≢false (sym (any-key x.0 routes route later (sym (same_prefix-is route.0 x.0 own))) ∙ apart.0)))
    (λ other. rw other (at-route routes route apart.1 later))

pub at-in : (routes : List (PrefixValue × Terms)) (p : PrefixValue) (terms : Terms) → terms_at routes p ≡ Some terms → IsIn routes (p, terms)
at-in [] p terms e = absurd (cc)
at-in (x ∷ routes) p terms e =
    by_bool (IsIn (x ∷ routes) (p, terms)) (same_prefix p x.0)
    (λ own.
    let one : x.1 ≡ terms = same_Some x.1 terms (subst (λ b. cond b (Some x.1) (terms_at routes p) ≡ Some terms) own e) in
    inl (ap (λ (q : PrefixValue). (q, x.1)) (sym (same_prefix-is p x.0 own)) ∙ ap (λ (t : Terms). (p, t)) one))
    (λ other. inr (at-in routes p terms (subst (λ b. cond b (Some x.1) (terms_at routes p) ≡ Some terms) other e)))

pub ascend-all : (routes contributed : List (PrefixValue × Terms)) → Ascend (keys_of routes) → Ascend (keys_of (with_contributions routes contributed))
ascend-all routes [] ascend = ascend
ascend-all routes (c ∷ more) ascend = ascend-all (with_contribution routes c) more (ascend-with routes c ascend)

-- ---- the two kinds of communities
abbrev pub communities : Terms → List ℕ
communities t = t.communities

pub split-numbers : (s t : Terms) (n : ℕ) → IsIn (communities (united_terms s t)) n → IsIn (communities s) n ⊎ IsIn (communities t) n
split-numbers s t n h = in_united nat_cmp_total exact_unsigned s.communities t.communities n h

pub join-numbers : (s t : Terms) (n : ℕ) → IsIn (communities s) n ⊎ IsIn (communities t) n → IsIn (communities (united_terms s t)) n
join-numbers s t n h = united_in nat_cmp_total exact_unsigned s.communities t.communities n h

abbrev pub large : Terms → List LargeCommunity
large t = t.large

pub split-large : (s t : Terms) (c : LargeCommunity) → IsIn (large (united_terms s t)) c → IsIn (large s) c ⊎ IsIn (large t) c
split-large s t c h = in_united large_cmp-total large_cmp-exact s.large t.large c h

pub join-large : (s t : Terms) (c : LargeCommunity) → IsIn (large s) c ⊎ IsIn (large t) c → IsIn (large (united_terms s t)) c
join-large s t c h = united_in large_cmp-total large_cmp-exact s.large t.large c h

-- ---- the routes of a node for a peer

pub some-there : (found : Option Terms) → There (λ t. ⊤) found → (terms : Terms) × (found ≡ Some terms)
some-there None none = absurd none
some-there (Some terms) h = (terms, refl)

pub prefixes-ascend : (v : ViewValue) (node : List ℕ) (peer : CompiledPeer) (both : Bool) → Ascend (keys_of (routes_of v node peer both))
prefixes-ascend v node peer both = ascend-all [] (contributions v node peer both) tt

module _ (v : ViewValue) (node : List ℕ) (peer : CompiledPeer) (both : Bool) where
  distinct-routes : AreDistinct (routes_of v node peer both)
  distinct-routes = distinct (routes_of v node peer both) (prefixes-ascend v node peer both)

  stated-at : (route : PrefixValue × Terms) → IsIn (routes_of v node peer both) route → stated route.0 None (contributions v node peer both) ≡ Some route.1
  stated-at route there = sym (routes-stated v node peer both route.0) ∙ at-route (routes_of v node peer both) route distinct-routes there

  abbrev Reaches : ℕ → Terms → Type 0
  Reaches m t = AtLeast m t.preference

  split-reaches : (m : ℕ) (s t : Terms) → Reaches m (united_terms s t) → Reaches m s ⊎ Reaches m t
  split-reaches m s t h = greater-to m s.preference t.preference h

  join-reaches : (m : ℕ) (s t : Terms) → Reaches m s ⊎ Reaches m t → Reaches m (united_terms s t)
  join-reaches m s t h = greater-from m s.preference t.preference h

  module _ (route : PrefixValue × Terms) (there : IsIn (routes_of v node peer both) route) where
    abbrev all_of : List (PrefixValue × Terms)
    all_of = contributions v node peer both

    -- communities of a kind that uniting unites are those of all contributions
    module _ {K : Type 0} (kind : Terms → List K) (split : (s t : Terms) (k : K) → IsIn (kind (united_terms s t)) k → IsIn (kind s) k ⊎ IsIn (kind t) k)
        (join : (s t : Terms) (k : K) → IsIn (kind s) k ⊎ IsIn (kind t) k → IsIn (kind (united_terms s t)) k) (k : K) where
      abbrev Has : Terms → Type 0
      Has t = IsIn (kind t) k

      has-community : Has route.1 → HasCommunity kind v node peer both route.0 k
      has-community has =
          let told = tells-told Has (λ s t h. split s t k h) (λ s t h. join s t k h) route.0 all_of route.1 (stated-at route there) has in
          (told.terms, (contributions-listed v node peer both (route.0, told.terms)).0 told.there, told.tells)

      community-has : HasCommunity kind v node peer both route.0 k → Has route.1
      community-has (terms, by, has) =
          told-tells Has (λ s t h. split s t k h) (λ s t h. join s t k h) route.0 all_of route.1 (stated-at route there)
          (record { terms = terms; there = (contributions-listed v node peer both (route.0, terms)).1 by; tells = has })

    reached : (m : ℕ) (others : Terms) → IsContribution v node peer both (route.0, others) → others.preference ≡ Some m → AtLeast m route.1.preference
    reached m others by is =
        told-tells (Reaches m) (split-reaches m) (join-reaches m) route.0 all_of route.1 (stated-at route there)
        (record { terms = others; there = (contributions-listed v node peer both (route.0, others)).1 by; tells = subst (AtLeast m) (sym is) (omega arith) })

    none-greater : (others : Terms) (m n : ℕ) → IsContribution v node peer both (route.0, others) → others.preference ≡ Some m → route.1.preference ≡ Some n
        → m ≤ n
    none-greater others m n by is own = subst (AtLeast m) own (reached m others by is)

    -- the contribution whose preference is the route's
    equal-by : (n x : ℕ) (others : Terms) → IsContribution v node peer both (route.0, others) → route.1.preference ≡ Some n → others.preference ≡ Some x → n ≤ x
        → others.preference ≡ route.1.preference
    equal-by n x others by own is least =
        let most = none-greater others x n by is own in
        let one : x ≡ n = omega (arith, least, most) in
        is ∙ ap Some one ∙ sym own

    some-reaches : (n : ℕ) (others : Terms) (preference : Option ℕ) → others.preference ≡ preference → AtLeast n preference
        → (x : ℕ) × (others.preference ≡ Some x) × (n ≤ x)
    some-reaches n others None is none = absurd none
    some-reaches n others (Some x) is least = (x, is, least)

    greatest-by : (preference : Option ℕ) → route.1.preference ≡ preference → IsGreatest v node peer both route.0 route.1.preference
    greatest-by (Some n) own =
        let told = tells-told (Reaches n) (split-reaches n) (join-reaches n) route.0 all_of route.1 (stated-at route there)
        (subst (AtLeast n) (sym own) (omega arith)) in
        let by = (contributions-listed v node peer both (route.0, told.terms)).0 told.there in
        let some = some-reaches n told.terms told.terms.preference refl told.tells in
        record { terms = told.terms; there = by; is = equal-by n some.0 told.terms by own some.1 some.2; greatest = none-greater }
    greatest-by None own =
        let told = tells-told (λ t. ⊤) (λ s t h. inl tt) (λ s t h. tt) route.0 all_of route.1 (stated-at route there) tt in
        let by = (contributions-listed v node peer both (route.0, told.terms)).0 told.there in
        record { terms = told.terms; there = by; is = none-by told.terms by told.terms.preference refl ∙ sym own; greatest = none-greater }
      where
        none-by : (others : Terms) → IsContribution v node peer both (route.0, others) → (preference : Option ℕ) → others.preference ≡ preference
            → others.preference ≡ None
        none-by others by None is = is
        none-by others by (Some m) is = absurd (subst (AtLeast m) own (reached m others by is))

    pub is-route : IsRoute v node peer both route
    is-route = record {
      communities = λ n. (has-community communities split-numbers join-numbers n, community-has communities split-numbers join-numbers n);
      large = λ c. (has-community large split-large join-large c, community-has large split-large join-large c);
      preference = greatest-by route.1.preference refl;
    }

  has-route : (c : PrefixValue × Terms) → IsContribution v node peer both c → (terms : Terms) × IsIn (routes_of v node peer both) (c.0, terms)
  has-route c by =
      let told : Told (λ t. ⊤) c.0 (contributions v node peer both) =
      record { terms = c.1; there = (contributions-listed v node peer both c).1 by; tells = tt } in
      let some = some-there (stated c.0 None (contributions v node peer both))
      (stated-from (λ t. ⊤) (λ s t h. inl tt) (λ s t h. tt) c.0 None (contributions v node peer both) (inr told)) in
      (some.0, at-in (routes_of v node peer both) c.0 some.0 (routes-stated v node peer both c.0 ∙ some.1))

pub routes-unite : RoutesUniteContributions
routes-unite v node peer both = record { routes = is-route v node peer both; all = has-route v node peer both }
