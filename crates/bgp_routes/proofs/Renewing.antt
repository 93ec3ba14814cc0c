-- What stands after an address, or some, were touched.
use Rattle.std.proofs.Common.{◌≡◌, ℕ, ◌<◌, ◌+◌, ◌==◌, nat_lt, Bool, true, false, cond, ◌&&◌, ◌||◌, List, [], map}
use Rattle.std.proofs.Common.{Option, Some, None, take, length, get_or, Contains, refl, sym, ap, subst, ◌∙◌, arith}
use Rattle.std.proofs.lemmas.Bool.{and_from, and_parts, false≢true, false_from_ne_true, eqb-true, eq-eqb}
use Rattle.std.proofs.lemmas.Bool.Decides.{nat_tests, same_from_decides}
use Rattle.std.proofs.lemmas.List.Folds.{list_any_more}
use Rattle.std.proofs.lemmas.Option.{slice_get_within}
use Rattle.std.specs.BTreeMap.{is_at}
use Rattle.std.specs.List.{slice_get}
use Rattle.mlb_base.proofs.Bools.{by_bool}
use Rattle.ip_ranges.specs.Values.{AddressValue, has_address, same_address}
use Rattle.ip_ranges.proofs.AddressLaws.{has_address-from, same_address-is, same_address-flip}
use Rattle.kube_model.specs.declared.service.Service.{Service}
use Rattle.pool_config.specs.PoolOf.{pool_with}
use Rattle.speaker_view.specs.Endpoints.{announced_from, can_announce, node_labels, recorded_addresses}
use Rattle.speaker_view.specs.Held.{objects_of}
use Rattle.speaker_view.specs.ViewValue.{ViewValue}
use Rattle.speaker_view.proofs.Indexed.{has-recorded_addresses}
use Rattle.bgp_routes.specs.declared.contributors.Aggregate.{Aggregate}
use Rattle.bgp_routes.specs.declared.kept_config.Advertisement.{Advertisement}
use Rattle.bgp_routes.specs.Contributors.{AreTouched, Entries, IsPutAt, IsPutByAll, IsTouched, StandRight}
use Rattle.bgp_routes.specs.Contributors.{aggregate_cmp, aggregate_of, contributes, has, is_own, may_stand}
use Rattle.bgp_routes.specs.Differ.{DiffersAt}
use Rattle.bgp_routes.specs.KeptConfig.{advertisement_of, choice_at, choice_by, choice_of, kept_config_for, is_set, peer_by, pools_in, pools_of, prefix_of}
use Rattle.bgp_routes.specs.Parts.{bgp_in, bgp_of}
use Rattle.bgp_routes.specs.Peers.{peers_in}
use Rattle.bgp_routes.specs.Placed.{place_cmp, place_of}
use Rattle.bgp_routes.specs.Routes.{counts}
use Rattle.bgp_routes.proofs.Placed.{place_cmp-exact, place_cmp-total}
use Rattle.bgp_routes.proofs.Standing.{aggregate_cmp-exact, aggregate_cmp-total, at-itself, at-same}
use Rattle.bgp_routes.proofs.Stays.{any-in, in-any}

-- ---- an address with all its own aggregates, one after the other
module _ (advertisements : List Advertisement) (flags : List Bool) (a : AddressValue) where
  -- the aggregate is the address's own
  abbrev own_at : Aggregate → AddressValue → Bool
  own_at g b = is_own g b (slice_get advertisements g.advertisement)

  -- so it is with those of the first so many advertisements
  abbrev pub IsPutUpTo : ℕ → Entries → Entries → Type 0
  IsPutUpTo n old new = (g : Aggregate) (b : AddressValue)
      → has new g b ≡ cond (same_address a b && (own_at g b && nat_lt g.advertisement n)) (is_set flags g.advertisement) (has old g b)

  none-below : (n : ℕ) → nat_lt n 0 ≡ false
  none-below n = grind (arith, nat_tests)

  no-part : (s m l : Bool) (x y : Bool) → l ≡ false → cond (s && (m && l)) x y ≡ y
  no-part true true l x y e = rw e refl
  no-part true false l x y e = refl
  no-part false m l x y e = refl

  pub put-none : (entries : Entries) → IsPutUpTo 0 entries entries
  put-none entries g b =
      sym (no-part (same_address a b) (own_at g b) (nat_lt g.advertisement 0) (is_set flags g.advertisement) (has entries g b) (none-below g.advertisement))

  one-more : (m n : ℕ) → nat_lt m (n + 1) ≡ (nat_lt m n || (m == n))
  one-more m n = grind (arith, nat_tests)

  steps : (m e l : Bool) (x y w : Bool) → (e ≡ true → x ≡ y) → cond ((m && e) && true) x (cond (m && l) y w) ≡ cond (m && (l || e)) y w
  steps true true true x y w same = same refl
  steps true true false x y w same = same refl
  steps true false true x y w same = refl
  steps true false false x y w same = refl
  steps false e l x y w same = refl

  untouched : (t : Bool) (x y w z : Bool) → cond (t && false) x (cond (false && y) z w) ≡ w
  untouched true x y w z = refl
  untouched false x y w z = refl

  module _ (n : ℕ) (adv : Advertisement) (at : slice_get advertisements n ≡ Some adv) where
    -- an aggregate is that of the address under the advertisement where the address may stand with it by that advertisement
    own-test : (g : Aggregate) → is_at (aggregate_cmp (aggregate_of n adv a)) g ≡ (own_at g a && (g.advertisement == n))
    own-test g =
        same_from_decides {P = aggregate_of n adv a ≡ g} (is_at (aggregate_cmp (aggregate_of n adv a)) g) (own_at g a && (g.advertisement == n)) (
          at-same aggregate_cmp aggregate_cmp-exact (aggregate_of n adv a) g,
          λ same. subst (λ (h : Aggregate). is_at (aggregate_cmp (aggregate_of n adv a)) h ≡ true) same
              (at-itself aggregate_cmp aggregate_cmp-total (aggregate_of n adv a)),
        )
        (by-parts, λ same. subst (λ (h : Aggregate). (own_at h a && (h.advertisement == n)) ≡ true) same own-stands)
      where
        own-stands : (own_at (aggregate_of n adv a) a && (n == n)) ≡ true
        own-stands =
            and_from (own_at (aggregate_of n adv a) a) (n == n)
            (ap (is_own (aggregate_of n adv a) a) at ∙ at-itself place_cmp place_cmp-total (place_of (prefix_of adv a)))
            (eq-eqb n n refl)

        by-parts : (own_at g a && (g.advertisement == n)) ≡ true → aggregate_of n adv a ≡ g
        by-parts e =
            let both = and_parts (own_at g a) (g.advertisement == n) e in
            let number : g.advertisement ≡ n = eqb-true g.advertisement n both.1 in
            let here : slice_get advertisements g.advertisement ≡ Some adv = ap (slice_get advertisements) number ∙ at in
            let place : g.place ≡ place_of (prefix_of adv a) =
            at-same place_cmp place_cmp-exact g.place (place_of (prefix_of adv a)) (subst (λ (o : Option Advertisement). is_own g a o ≡ true) here both.0) in
            λ i. record { place = sym place i; advertisement = sym number i }

    pub put-more : (old now new : Entries) → IsPutUpTo n old now → IsPutAt (aggregate_of n adv a) a (is_set flags n) now new → IsPutUpTo (n + 1) old new
    put-more old now new so_far here g b =
        by_bool (has new g b ≡ cond (same_address a b && (own_at g b && nat_lt g.advertisement (n + 1))) (is_set flags g.advertisement) (has old g b))
        (same_address a b)
        (λ own.
        let same : a ≡ b = same_address-is a b own in
        let test : is_at (aggregate_cmp (aggregate_of n adv a)) g ≡ (own_at g b && (g.advertisement == n)) =
        subst (λ (c : AddressValue). is_at (aggregate_cmp (aggregate_of n adv a)) g ≡ (own_at g c && (g.advertisement == n))) same (own-test g) in
        here g b
        ∙ ap (λ t. cond (t && same_address a b) (is_set flags n) (has now g b)) test
        ∙ ap (λ x. cond ((own_at g b && (g.advertisement == n)) && same_address a b) (is_set flags n) x) (so_far g b)
        ∙ (λ i. cond ((own_at g b && (g.advertisement == n)) && own i) (is_set flags n)
        (cond (own i && (own_at g b && nat_lt g.advertisement n)) (is_set flags g.advertisement) (has old g b)))
        ∙ steps (own_at g b) (g.advertisement == n) (nat_lt g.advertisement n) (is_set flags n) (is_set flags g.advertisement) (has old g b)
        (λ e. ap (is_set flags) (sym (eqb-true g.advertisement n e)))
        ∙ ap (λ l. cond (own_at g b && l) (is_set flags g.advertisement) (has old g b)) (sym (one-more g.advertisement n))
        ∙ (λ i. cond (sym own i && (own_at g b && nat_lt g.advertisement (n + 1))) (is_set flags g.advertisement) (has old g b)))
        (λ other.
        here g b
        ∙ ap (λ x. cond (is_at (aggregate_cmp (aggregate_of n adv a)) g && same_address a b) (is_set flags n) x) (so_far g b)
        ∙ (λ i. cond (is_at (aggregate_cmp (aggregate_of n adv a)) g && other i) (is_set flags n)
        (cond (other i && (own_at g b && nat_lt g.advertisement n)) (is_set flags g.advertisement) (has old g b)))
        ∙ untouched (is_at (aggregate_cmp (aggregate_of n adv a)) g) (is_set flags n) (own_at g b && nat_lt g.advertisement n) (has old g b)
        (is_set flags g.advertisement)
        ∙ (λ i. cond (sym other i && (own_at g b && nat_lt g.advertisement (n + 1))) (is_set flags g.advertisement) (has old g b)))

  below : (o : Option Advertisement) (g : Aggregate) (b : AddressValue) → slice_get advertisements g.advertisement ≡ o → is_own g b o ≡ true
      → g.advertisement < length advertisements
  below None g b at e = absurd (false≢true e)
  below (Some adv) g b at e = slice_get_within advertisements g.advertisement adv at

  is-below : (m n : ℕ) → m < n → nat_lt m n ≡ true
  is-below m n h = grind (arith, nat_tests)

  with-all : (g : Aggregate) (b : AddressValue) → (own_at g b && nat_lt g.advertisement (length advertisements)) ≡ own_at g b
  with-all g b =
      by_bool ((own_at g b && nat_lt g.advertisement (length advertisements)) ≡ own_at g b) (own_at g b)
      (λ stands.
      let less = is-below g.advertisement (length advertisements) (below (slice_get advertisements g.advertisement) g b refl stands) in
      and_from (own_at g b) (nat_lt g.advertisement (length advertisements)) stands less ∙ sym stands)
      (λ none. ap (λ m. m && nat_lt g.advertisement (length advertisements)) none ∙ sym none)

  pub put-all : (old new : Entries) → IsPutUpTo (length advertisements) old new → IsPutByAll advertisements flags a old new
  put-all old new so_far g b = so_far g b ∙ ap (λ m. cond (same_address a b && m) (is_set flags g.advertisement) (has old g b)) (with-all g b)

-- ---- one address, by a view
module _ (v : ViewValue) (node : List ℕ) (both : Bool) where
  abbrev advertisements : List Advertisement
  advertisements = map advertisement_of (bgp_of v)

  -- what doesn't stand where it may doesn't stand
  stands-not : (entries : Entries) → StandRight both advertisements entries → (g : Aggregate) (b : AddressValue) → may_stand both advertisements g b ≡ false
      → has entries g b ≡ false
  stands-not entries right g b none = false_from_ne_true (has entries g b) (λ stands. false≢true (sym none ∙ right g b stands))

  by-choice : (m flag was : Bool) → (m ≡ false → was ≡ false) → cond m flag was ≡ (m && flag)
  by-choice true flag was none = refl
  by-choice false flag was none = none refl

  -- the aggregate is the address's own
  abbrev own_by : Aggregate → AddressValue → Bool
  own_by g b = is_own g b (slice_get advertisements g.advertisement)

  pub touched-counted : (a : AddressValue) (flags : List Bool) (old new : Entries) → counts both a.family ≡ true → flags ≡ choice_at v node a
      → StandRight both advertisements old
      → IsPutByAll advertisements flags a old new → IsTouched v node both a old new
  touched-counted a flags old new counted chosen right put g b =
      by_bool (has new g b ≡ cond (same_address a b) (contributes v node both g b) (has old g b)) (same_address a b)
      (λ own.
      let same : a ≡ b = same_address-is a b own in
      let flag : is_set flags g.advertisement ≡ is_set (choice_at v node b) g.advertisement =
      ap (λ fs. is_set fs g.advertisement) (chosen ∙ ap (choice_at v node) same) in
      let counts_too : counts both b.family ≡ true = ap (λ (c : AddressValue). counts both c.family) (sym same) ∙ counted in
      put g b
      ∙ (λ i. cond (own i && own_by g b) (flag i) (has old g b))
      ∙ (λ i. cond (sym counts_too i && own_by g b) (is_set (choice_at v node b) g.advertisement) (has old g b))
      ∙ by-choice (may_stand both advertisements g b) (is_set (choice_at v node b) g.advertisement) (has old g b) (stands-not old right g b)
      ∙ (λ i. cond (sym own i) (contributes v node both g b) (has old g b)))
      (λ other.
      put g b
      ∙ (λ i. cond (other i && own_by g b) (is_set flags g.advertisement) (has old g b))
      ∙ (λ i. cond (sym other i) (contributes v node both g b) (has old g b)))

  pub touched-uncounted : (a : AddressValue) (entries : Entries) → counts both a.family ≡ false → StandRight both advertisements entries
      → IsTouched v node both a entries entries
  touched-uncounted a entries uncounted right g b =
      by_bool (has entries g b ≡ cond (same_address a b) (contributes v node both g b) (has entries g b)) (same_address a b)
      (λ own.
      let same : a ≡ b = same_address-is a b own in
      let none : may_stand both advertisements g b ≡ false =
      ap (λ t. t && own_by g b) (ap (λ (c : AddressValue). counts both c.family) (sym same) ∙ uncounted) in
      stands-not entries right g b none
      ∙ sym (ap (λ t. t && is_set (choice_at v node b) g.advertisement) none)
      ∙ (λ i. cond (sym own i) (contributes v node both g b) (has entries g b)))
      (λ other. λ i. cond (sym other i) (contributes v node both g b) (has entries g b))

  may-by : (s : Bool) (g : Aggregate) (b : AddressValue) (was : Bool) → (was ≡ true → may_stand both advertisements g b ≡ true)
      → cond s (contributes v node both g b) was ≡ true → may_stand both advertisements g b ≡ true
  may-by true g b was right e = (and_parts (may_stand both advertisements g b) (is_set (choice_at v node b) g.advertisement) e).0
  may-by false g b was right e = right e

  pub stand-after : (a : AddressValue) (old new : Entries) → StandRight both advertisements old → IsTouched v node both a old new
      → StandRight both advertisements new
  stand-after a old new right touched g b stands = may-by (same_address a b) g b (has old g b) (right g b) (sym (touched g b) ∙ stands)

  -- ---- one after the other
  pub touched-none : (addresses : List AddressValue) (entries : Entries) → AreTouched v node both (take 0 addresses) entries entries
  touched-none addresses entries g b = refl

  -- `s`, it is touched now; `t`, it was before
  touched_by : (t s : Bool) (now was : Bool) → cond s now (cond t now was) ≡ cond (t || s) now was
  touched_by true true now was = refl
  touched_by true false now was = refl
  touched_by false true now was = refl
  touched_by false false now was = refl

  pub touched-more : (addresses : List AddressValue) (i : ℕ) (a : AddressValue) → i < length addresses → get_or addresses i a ≡ a
      → (old now new : Entries) → AreTouched v node both (take i addresses) old now → IsTouched v node both a now new
      → AreTouched v node both (take (i + 1) addresses) old new
  touched-more addresses i a below at old now new so_far here g b =
      let more : has_address (take (i + 1) addresses) b ≡ (has_address (take i addresses) b || same_address b a) =
      list_any_more (same_address b) addresses i a below ∙ ap (λ c. has_address (take i addresses) b || same_address b c) at in
      here g b
      ∙ ap (λ s. cond s (contributes v node both g b) (has now g b)) (same_address-flip a b)
      ∙ ap (λ x. cond (same_address b a) (contributes v node both g b) x) (so_far g b)
      ∙ touched_by (has_address (take i addresses) b) (same_address b a) (contributes v node both g b) (has old g b)
      ∙ ap (λ t. cond t (contributes v node both g b) (has old g b)) (sym more)

  -- ---- all
  all_by : (t : Bool) (now was : Bool) → (t ≡ false → was ≡ now) → cond t now was ≡ now
  all_by true now was same = refl
  all_by false now was same = same refl

  pub touched-all : (addresses : List AddressValue) (old new : Entries)
      → ((g : Aggregate) (b : AddressValue) → ¬ (Contains addresses b) → has old g b ≡ contributes v node both g b)
      → AreTouched v node both addresses old new → (g : Aggregate) (b : AddressValue) → has new g b ≡ contributes v node both g b
  touched-all addresses old new others touched g b =
      touched g b
      ∙ all_by (has_address addresses b) (contributes v node both g b) (has old g b)
      (λ none. others g b (λ there. false≢true (sym none ∙ has_address-from addresses b there)))

  -- an address that no service records contributes to nothing
  announced-recorded : (a : AddressValue) → announced_from v a node ≡ true → Contains (recorded_addresses v) a
  announced-recorded a e =
      let found = in-any (λ (s : Service). has_address s.holding.addresses a && can_announce v s node) (objects_of v.held.services) e in
      let recorded = (and_parts (has_address found.0.holding.addresses a) (can_announce v found.0 node) found.2).0 in
      has-recorded_addresses v a (any-in (λ (s : Service). has_address s.holding.addresses a) (objects_of v.held.services) found.0 found.1 recorded)

  pub unrecorded-none : (g : Aggregate) (a : AddressValue) → ¬ (Contains (recorded_addresses v) a) → false ≡ contributes v node both g a
  unrecorded-none g a none =
      let silent : announced_from v a node ≡ false = false_from_ne_true (announced_from v a node) (λ e. none (announced-recorded a e)) in
      let flag : is_set (choice_at v node a) g.advertisement ≡ false =
      ap (λ b. is_set (cond b (choice_of (node_labels v node) (bgp_of v) (pool_with (pools_of v) a)) []) g.advertisement) silent in
      sym (ap (λ f. may_stand both advertisements g a && f) flag ∙ and-none (may_stand both advertisements g a))
    where
      and-none : (m : Bool) → (m && false) ≡ false
      and-none true = refl
      and-none false = refl

-- ---- views that differ elsewhere
pub same-held : (u v : ViewValue) (node : List ℕ) (addresses : List AddressValue) → DiffersAt u v node addresses
    → kept_config_for u node ≡ kept_config_for v node
same-held u v node addresses differs = λ i. record {
  advertisements = map advertisement_of (bgp_in (differs.config i));
  choices = map (choice_by (differs.labels i) (bgp_in (differs.config i))) (pools_in (differs.config i));
  peers = map (peer_by (differs.labels i) (bgp_in (differs.config i))) (peers_in (differs.config i));
}

pub same-elsewhere : (u v : ViewValue) (node : List ℕ) (both : Bool) (addresses : List AddressValue) → DiffersAt u v node addresses
    → (g : Aggregate) (a : AddressValue) → ¬ (Contains addresses a)
    → contributes u node both g a ≡ contributes v node both g a
same-elsewhere u v node both addresses differs g a other = λ i.
    may_stand both (map advertisement_of (bgp_in (differs.config i))) g a
    && is_set (cond (differs.announced a other i) (choice_of (differs.labels i) (bgp_in (differs.config i)) (pool_with (pools_in (differs.config i)) a)) [])
    g.advertisement
