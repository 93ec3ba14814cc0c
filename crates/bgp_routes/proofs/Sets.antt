-- What contributions are united to is decided by which there are, in whatever order and however often.
use Rattle.std.proofs.Common.{◌≡◌, ℕ, ◌≤◌, Bool, true, false, cond, List, [], ◌∷◌, filter, ◌⊎◌, inl, inr, Option, Some, None, refl, sym, ◌∙◌, ap, subst, arith}
use Rattle.std.specs.Bool.{⊤}
use Rattle.std.specs.List.{list_all, AllByRecursion}
use Rattle.std.specs.Map.{keys_of}
use Rattle.std.proofs.lemmas.Cmp.{nat_cmp_total}
use Rattle.std.proofs.lemmas.Bool.{and_from, and_parts}
use Rattle.std.proofs.lemmas.Map.Entries.{lookup-filter-keys}
use Rattle.ip_ranges.specs.Values.{PrefixValue}
use Rattle.mlb_base.specs.Items.{IsIn}
use Rattle.mlb_base.proofs.Bools.{by_bool}
use Rattle.pool_config.proofs.CommunitySets.{large_cmp-total}
use Rattle.bgp_updates.specs.declared.route.Terms.{Terms}
use Rattle.bgp_updates.specs.Received.{same_prefix, terms_at}
use Rattle.bgp_updates.specs.Tables.{Ascend, before}
use Rattle.bgp_updates.proofs.ReceivedLaws.{distinct, same_prefix-is}
use Rattle.bgp_routes.specs.Determined.{Ascends}
use Rattle.bgp_routes.specs.Laws.{joined, stated}
use Rattle.bgp_routes.specs.Uniting.{united_terms, with_contributions}
use Rattle.bgp_routes.proofs.Determined.{Earlier, earlier-apart, routes-ascend, same-items, same-keys-ascending}
use Rattle.bgp_routes.proofs.Elements.{AtLeast, There, Told, at-in, at-route, greater-from, greater-to, ascend-all, communities}
use Rattle.bgp_routes.proofs.Elements.{join-large, join-numbers, large, split-large, split-numbers, stated-from, told-tells, tells-told}
use Rattle.bgp_routes.proofs.Few.{terms-ascend}
use Rattle.bgp_routes.proofs.Stated.{all-after}

abbrev Contributions : Type 0
Contributions = List (PrefixValue × Terms)

-- ---- the terms of a prefix
abbrev Reaches : ℕ → Terms → Type 0
Reaches m t = AtLeast m t.preference

reaches-split : (m : ℕ) (s t : Terms) → Reaches m (united_terms s t) → Reaches m s ⊎ Reaches m t
reaches-split m s t h = greater-to m s.preference t.preference h

reaches-join : (m : ℕ) (s t : Terms) → Reaches m s ⊎ Reaches m t → Reaches m (united_terms s t)
reaches-join m s t h = greater-from m s.preference t.preference h

same-preference : (a b : Option ℕ) → ((m : ℕ) → AtLeast m a → AtLeast m b) → ((m : ℕ) → AtLeast m b → AtLeast m a) → a ≡ b
same-preference None None into back = refl
same-preference None (Some n) into back = absurd (back n (omega arith))
same-preference (Some n) None into back = absurd (into n (omega arith))
same-preference (Some m) (Some n) into back =
    let up : m ≤ n = into m (omega arith) in
    let down : n ≤ m = back n (omega arith) in
    ap Some (omega (arith, up, down))

-- the communities of what is stated ascend
abbrev FoundAscends : PrefixValue → Option Terms → Type 0
FoundAscends p None = ⊤
FoundAscends p (Some t) = Ascends (p, t)

joined-ascends : (p : PrefixValue) (found : Option Terms) (t : Terms) → Ascends (p, t) → Ascends (p, joined found t)
joined-ascends p None t own = own
joined-ascends p (Some s) t own = terms-ascend p s t

-- whatever the prefix is of which the terms are
ascends-too : (p q : PrefixValue) (t : Terms) → Ascends (q, t) → Ascends (p, t)
ascends-too p q t own = record { numbers = own.numbers; large = own.large }

stated-ascends : (p : PrefixValue) (found : Option Terms) (cs : Contributions) → FoundAscends p found → AllByRecursion Ascends cs
    → FoundAscends p (stated p found cs)
stated-ascends p found [] first all = first
stated-ascends p found (c ∷ cs) first all =
    stated-ascends p (cond (same_prefix p c.0) (Some (joined found c.1)) found) cs (by_test (same_prefix p c.0)) all.1
  where
    by_test : (b : Bool) → FoundAscends p (cond b (Some (joined found c.1)) found)
    by_test true = joined-ascends p found c.1 (ascends-too p c.0 c.1 all.0)
    by_test false = first

module _ (p : PrefixValue) (cs ds : Contributions) (first : AllByRecursion Ascends cs) (second : AllByRecursion Ascends ds)
    (into : (t : Terms) → IsIn cs (p, t) → IsIn ds (p, t)) (back : (t : Terms) → IsIn ds (p, t) → IsIn cs (p, t)) where
  told-into : (P : Terms → Type 0) → Told P p cs → Told P p ds
  told-into P told = record { terms = told.terms; there = into told.terms told.there; tells = told.tells }

  told-back : (P : Terms → Type 0) → Told P p ds → Told P p cs
  told-back P told = record { terms = told.terms; there = back told.terms told.there; tells = told.tells }

  module _ (s t : Terms) (s-is : stated p None cs ≡ Some s) (t-is : stated p None ds ≡ Some t) where
    over : (P : Terms → Type 0) → ((x y : Terms) → P (united_terms x y) → P x ⊎ P y) → ((x y : Terms) → P x ⊎ P y → P (united_terms x y)) → P s → P t
    over P split join h = told-tells P split join p ds t t-is (told-into P (tells-told P split join p cs s s-is h))

    under : (P : Terms → Type 0) → ((x y : Terms) → P (united_terms x y) → P x ⊎ P y) → ((x y : Terms) → P x ⊎ P y → P (united_terms x y)) → P t → P s
    under P split join h = told-tells P split join p cs s s-is (told-back P (tells-told P split join p ds t t-is h))

    s-ascends : Ascends (p, s)
    s-ascends = subst (FoundAscends p) s-is (stated-ascends p None cs tt first)

    t-ascends : Ascends (p, t)
    t-ascends = subst (FoundAscends p) t-is (stated-ascends p None ds tt second)

    one-terms : s ≡ t
    one-terms =
        let numbers : s.communities ≡ t.communities =
        same-keys-ascending nat_cmp_total s.communities t.communities s-ascends.numbers t-ascends.numbers
        (λ n. over (λ x. IsIn (communities x) n) (λ x y. split-numbers x y n) (λ x y. join-numbers x y n))
        (λ n. under (λ x. IsIn (communities x) n) (λ x y. split-numbers x y n) (λ x y. join-numbers x y n)) in
        let larges : s.large ≡ t.large =
        same-keys-ascending large_cmp-total s.large t.large s-ascends.large t-ascends.large
        (λ c. over (λ x. IsIn (large x) c) (λ x y. split-large x y c) (λ x y. join-large x y c))
        (λ c. under (λ x. IsIn (large x) c) (λ x y. split-large x y c) (λ x y. join-large x y c)) in
        let preference : s.preference ≡ t.preference =
        same-preference s.preference t.preference (λ m. over (Reaches m) (reaches-split m) (reaches-join m))
        (λ m. under (Reaches m) (reaches-split m) (reaches-join m)) in
        λ i. record { preference = preference i; communities = numbers i; large = larges i }

  none-none : stated p None cs ≡ None → (t : Terms) → stated p None ds ≡ Some t → ⊥
  none-none none t some =
      let told = tells-told (λ x. ⊤) (λ x y h. inl tt) (λ x y h. tt) p ds t some tt in
      subst (There (λ x. ⊤)) none (stated-from (λ x. ⊤) (λ x y h. inl tt) (λ x y h. tt) p None cs (inr (told-back (λ x. ⊤) told)))

  some-none : (s : Terms) → stated p None cs ≡ Some s → stated p None ds ≡ None → ⊥
  some-none s some none =
      let told = tells-told (λ x. ⊤) (λ x y h. inl tt) (λ x y h. tt) p cs s some tt in
      subst (There (λ x. ⊤)) none (stated-from (λ x. ⊤) (λ x y h. inl tt) (λ x y h. tt) p None ds (inr (told-into (λ x. ⊤) told)))

  by-both : (f g : Option Terms) → stated p None cs ≡ f → stated p None ds ≡ g → f ≡ g
  by-both None None f-is g-is = refl
  by-both None (Some t) f-is g-is = absurd (none-none f-is t g-is)
  by-both (Some s) None f-is g-is = absurd (some-none s f-is g-is)
  by-both (Some s) (Some t) f-is g-is = ap Some (one-terms s t f-is g-is)

  -- the same contributions of a prefix state the same of it
  pub stated-same : stated p None cs ≡ stated p None ds
  stated-same = by-both (stated p None cs) (stated p None ds) refl refl

-- of no contribution nothing is stated
pub stated-none : (p : PrefixValue) (cs : Contributions) → ((t : Terms) → IsIn cs (p, t) → ⊥) → stated p None cs ≡ None
stated-none p cs none = by-found (stated p None cs) refl where
  by-found : (f : Option Terms) → stated p None cs ≡ f → f ≡ None
  by-found None is = refl
  by-found (Some t) is =
      let told = tells-told (λ x. ⊤) (λ x y h. inl tt) (λ x y h. tt) p cs t is tt in
      absurd (none told.terms told.there)

-- ---- tables
in-other : (xs ys : Contributions) → Ascend (keys_of xs) → ((p : PrefixValue) → terms_at xs p ≡ terms_at ys p) → (r : PrefixValue × Terms) → IsIn xs r
    → IsIn ys r
in-other xs ys ascend same r there = at-in ys r.0 r.1 (sym (same r.0) ∙ at-route xs r (distinct xs ascend) there)

-- tables with the same terms at each prefix are one
pub one-table-at : (xs ys : Contributions) → Ascend (keys_of xs) → Ascend (keys_of ys) → ((p : PrefixValue) → terms_at xs p ≡ terms_at ys p) → xs ≡ ys
one-table-at xs ys first second same =
    same-items Earlier earlier-apart xs ys (routes-ascend xs first) (routes-ascend ys second) (in-other xs ys first same)
    (in-other ys xs second (λ p. sym (same p)))

module _ (keep : PrefixValue → Bool) where
  abbrev pub part : Contributions → Contributions
  part routes = filter (λ route. keep route.0) routes

  before-part : (p : PrefixValue) (routes : Contributions) → list_all (before p) (keys_of routes) ≡ true → list_all (before p) (keys_of (part routes)) ≡ true
  before-part p [] all = refl
  before-part p (route ∷ routes) all =
      let parts = and_parts (before p route.0) (list_all (before p) (keys_of routes)) all in
      by_test (keep route.0) parts.0 (before-part p routes parts.1)
    where
      by_test : (b : Bool) → before p route.0 ≡ true → list_all (before p) (keys_of (part routes)) ≡ true
          → list_all (before p) (keys_of (cond b (route ∷ part routes) (part routes))) ≡ true
      by_test true first rest = and_from (before p route.0) (list_all (before p) (keys_of (part routes))) first rest
      by_test false first rest = rest

  part-ascends : (routes : Contributions) → Ascend (keys_of routes) → Ascend (keys_of (part routes))
  part-ascends [] ascend = tt
  part-ascends (route ∷ routes) ascend = by_test (keep route.0) (part-ascends routes ascend.1) where
    by_test : (b : Bool) → Ascend (keys_of (part routes)) → Ascend (keys_of (cond b (route ∷ part routes) (part routes)))
    by_test true rest = (before-part route.0 routes ascend.0, rest)
    by_test false rest = rest

  part-at : (p : PrefixValue) (routes : Contributions) → terms_at (part routes) p ≡ cond (keep p) (terms_at routes p) None
  part-at p routes = lookup-filter-keys (same_prefix p) keep (keep p) (λ q own. ap keep (sym (same_prefix-is p q own))) routes

  -- ---- what is united of a part of the contributions is that part of what is united of all
  pub united-part : (cs ds : Contributions) → AllByRecursion Ascends cs → AllByRecursion Ascends ds
      → ((p : PrefixValue) (t : Terms) → IsIn cs (p, t) → IsIn ds (p, t) × (keep p ≡ true))
      → ((p : PrefixValue) (t : Terms) → keep p ≡ true → IsIn ds (p, t) → IsIn cs (p, t))
      → with_contributions [] cs ≡ part (with_contributions [] ds)
  united-part cs ds first second into back =
      one-table-at (with_contributions [] cs) (part (with_contributions [] ds)) (ascend-all [] cs tt)
      (part-ascends (with_contributions [] ds) (ascend-all [] ds tt))
      (λ p.
      all-after [] cs p tt
      ∙ by_bool (stated p None cs ≡ cond (keep p) (stated p None ds) None) (keep p)
      (λ kept. rw kept (stated-same p cs ds first second (λ t there. (into p t there).0) (λ t there. back p t kept there)))
      (λ other. rw other (stated-none p cs (λ t there. differ (keep p) (into p t there).1 other)))
      ∙ sym (part-at p (with_contributions [] ds) ∙ ap (λ found. cond (keep p) found None) (all-after [] ds p tt)))
    where
      differ : (b : Bool) → b ≡ true → b ≡ false → ⊥
      differ true h e = cc
      differ false h e = cc

pub part-all : (routes : Contributions) → part (λ p. true) routes ≡ routes
part-all [] = refl
part-all (route ∷ routes) = ap (λ more. route ∷ more) (part-all routes)

-- what is united of the same contributions is the same
pub united-same : (cs ds : Contributions) → AllByRecursion Ascends cs → AllByRecursion Ascends ds
    → ((p : PrefixValue) (t : Terms) → IsIn cs (p, t) → IsIn ds (p, t)) → ((p : PrefixValue) (t : Terms) → IsIn ds (p, t) → IsIn cs (p, t))
    → with_contributions [] cs ≡ with_contributions [] ds
united-same cs ds first second into back =
    united-part (λ p. true) cs ds first second (λ p t there. (into p t there, refl)) (λ p t kept there. back p t there) ∙ part-all (with_contributions [] ds)
