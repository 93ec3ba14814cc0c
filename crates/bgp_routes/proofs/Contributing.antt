-- What contributes by the held configuration and the addresses that stand is what contributes by the view.
use Rattle.std.proofs.Common.{◌≡◌, ℕ, zero, suc, Bool, true, false, cond, List, [], ◌∷◌, map, Option, Some}
use Rattle.std.proofs.Common.{None, unwrap_or, inl, inr, refl, sym, ap, subst, ◌∙◌}
use Rattle.std.proofs.lemmas.Bool.{and_from, and_parts, false≢true}
use Rattle.std.proofs.lemmas.Option.{slice_get-map}
use Rattle.std.specs.List.{slice_get}
use Rattle.std.specs.Option.{option_map}
use Rattle.ip_ranges.specs.Values.{AddressValue, PrefixValue}
use Rattle.mlb_base.specs.Items.{IsIn}
use Rattle.pool_config.specs.declared.compiled.CompiledBgp.{CompiledBgp}
use Rattle.pool_config.specs.declared.compiled.CompiledPeer.{CompiledPeer}
use Rattle.pool_config.specs.declared.compiled.CompiledPool.{CompiledPool}
use Rattle.pool_config.specs.Choice.{chooses, selects}
use Rattle.pool_config.specs.ConfigValue.{ConfigValue}
use Rattle.pool_config.specs.PoolOf.{pool_with}
use Rattle.pool_config.proofs.Tests.{chooses-Decides, selects-Decides}
use Rattle.speaker_view.specs.Endpoints.{announced_from, node_labels}
use Rattle.speaker_view.specs.ViewValue.{ViewValue}
use Rattle.speaker_view.proofs.Serving.{announced_from-Decides}
use Rattle.bgp_updates.specs.declared.route.Terms.{Terms}
use Rattle.bgp_routes.specs.declared.contributors.Aggregate.{Aggregate}
use Rattle.bgp_routes.specs.declared.kept_config.Advertisement.{Advertisement}
use Rattle.bgp_routes.specs.Contribution.{Counts, IsContribution, contribution}
use Rattle.bgp_routes.specs.Contributors.{aggregate_of, contributes, is_own, may_stand}
use Rattle.bgp_routes.specs.KeptConfig.{advertisement_of, choice_at, choice_of, receives, is_chosen, is_set, peer_by, pools_in, pools_of, prefix_of}
use Rattle.bgp_routes.specs.Parts.{bgp_in, bgp_of}
use Rattle.bgp_routes.specs.Placed.{place_cmp, place_of}
use Rattle.bgp_routes.specs.Routes.{counts, is_for}
use Rattle.bgp_routes.proofs.Listing.{counts-Decides, for-Decides}
use Rattle.bgp_routes.proofs.Placed.{place_cmp-exact, place_cmp-total}
use Rattle.bgp_routes.proofs.Standing.{at-itself, at-same}

-- ---- items at places
pub in-at : {A : Type 0} (xs : List A) (x : A) → IsIn xs x → (n : ℕ) × (slice_get xs n ≡ Some x)
in-at [] x none = absurd none
in-at (y ∷ xs) x (inl here) = (zero, ap Some here)
in-at (y ∷ xs) x (inr later) = let rest = in-at xs x later in (suc rest.0, rest.1)

pub at-in : {A : Type 0} (xs : List A) (x : A) (n : ℕ) → slice_get xs n ≡ Some x → IsIn xs x
at-in [] x n e = absurd (let wrong : None ≡ Some x = e in cc)
at-in (y ∷ xs) x zero e = inl (let own : Some y ≡ Some x = e in cc)
at-in (y ∷ xs) x (suc n) e = inr (at-in xs x n e)

pub map-at : {A B : Type 0} (f : A → B) (xs : List A) (n : ℕ) (y : B) → slice_get (map f xs) n ≡ Some y → (x : A) × (slice_get xs n ≡ Some x) × (f x ≡ y)
map-at f [] n y e = absurd (let wrong : None ≡ Some y = e in cc)
map-at f (x ∷ xs) zero y e = (x, refl, (let own : Some (f x) ≡ Some y = e in cc))
map-at f (x ∷ xs) (suc n) y e = map-at f xs n y e

pub at-map : {A B : Type 0} (f : A → B) (xs : List A) (n : ℕ) (x : A) → slice_get xs n ≡ Some x → slice_get (map f xs) n ≡ Some (f x)
at-map f xs n x e = slice_get-map f xs n ∙ ap (option_map f) e

-- a flag of a list that is made of items
flag-at : {A : Type 0} (f : A → Bool) (xs : List A) (n : ℕ) (x : A) → slice_get xs n ≡ Some x → is_set (map f xs) n ≡ f x
flag-at f xs n x e = ap (λ (o : Option Bool). unwrap_or o false) (at-map f xs n x e)

-- ---- prefixes at places
pub same-prefix-at : (p q : PrefixValue) → place_of p ≡ place_of q → p ≡ q
same-prefix-at p q same = λ i. record { family = (same i).first.family; number = (same i).first.number; length = (same i).length }

module _ (v : ViewValue) (node : List ℕ) (both : Bool) where
  abbrev labels : List (List ℕ × List ℕ)
  labels = node_labels v node

  abbrev bgp : List CompiledBgp
  bgp = bgp_of v

  -- ---- what stands
  standing-counts : (g : Aggregate) (a : AddressValue) → may_stand both (map advertisement_of bgp) g a ≡ true → Counts both a.family
  standing-counts g a e =
      (counts-Decides both a.family).0 (and_parts (counts both a.family) (is_own g a (slice_get (map advertisement_of bgp) g.advertisement)) e).0

  pub standing-place : (g : Aggregate) (a : AddressValue) (adv : CompiledBgp) → slice_get bgp g.advertisement ≡ Some adv
      → may_stand both (map advertisement_of bgp) g a ≡ true
      → g.place ≡ place_of (prefix_of (advertisement_of adv) a)
  standing-place g a adv at e =
      let own = (and_parts (counts both a.family) (is_own g a (slice_get (map advertisement_of bgp) g.advertisement)) e).1 in
      at-same place_cmp place_cmp-exact g.place (place_of (prefix_of (advertisement_of adv) a))
      (subst (λ (o : Option Advertisement). is_own g a o ≡ true) (at-map advertisement_of bgp g.advertisement adv at) own)

  -- ---- what contributes is a contribution
  module _ (peer : CompiledPeer) where
    record Chosen (config : Option ConfigValue) (a : AddressValue) (adv : CompiledBgp) : Type 0 where
      pub announced : announced_from v a node ≡ true
      pub pool : CompiledPool
      pub pool_is : pool_with (pools_in config) a ≡ Some pool
      pub is : is_chosen labels pool adv ≡ true

    no-flag : (n : ℕ) → is_set [] n ≡ true → ⊥
    no-flag n e = false≢true e

    chosen-by : (o : Option CompiledPool) (n : ℕ) (adv : CompiledBgp) → slice_get bgp n ≡ Some adv → is_set (choice_of labels bgp o) n ≡ true
        → (pool : CompiledPool) × (o ≡ Some pool) × (is_chosen labels pool adv ≡ true)
    chosen-by None n adv at e = absurd (no-flag n e)
    chosen-by (Some pool) n adv at e = (pool, refl, sym (flag-at (is_chosen labels pool) bgp n adv at) ∙ e)

    chosen-at : (b : Bool) (n : ℕ) (a : AddressValue) (adv : CompiledBgp) → slice_get bgp n ≡ Some adv → announced_from v a node ≡ b
        → is_set (cond b (choice_of labels bgp (pool_with (pools_of v) a)) []) n ≡ true → Chosen v.held.config a adv
    chosen-at true n a adv at announced e =
        let found = chosen-by (pool_with (pools_of v) a) n adv at e in
        record { announced = announced; pool = found.0; pool_is = found.1; is = found.2 }
    chosen-at false n a adv at announced e = absurd (no-flag n e)

    contribution-by : (config : Option ConfigValue) → v.held.config ≡ config → (n : ℕ) (a : AddressValue) (adv : CompiledBgp)
        → slice_get (bgp_in config) n ≡ Some adv → Counts both a.family
        → Chosen config a adv → receives labels peer adv ≡ true → IsContribution v node peer both (contribution peer a adv)
    contribution-by None in_force n a adv at counted chosen heard = absurd (let wrong : None ≡ Some adv = at in cc)
    contribution-by (Some config) in_force n a adv at counted chosen heard =
        let hear = and_parts (selects peer.node_selectors labels) (is_for peer adv) heard in
        let choose = and_parts (chooses adv.pools adv.pool_selectors chosen.pool.name chosen.pool.labels) (selects adv.node_selectors labels) chosen.is in
        record {
          peer_selects = (selects-Decides peer.node_selectors labels).0 hear.0;
          address = a;
          counts = counted;
          announced = (announced_from-Decides v a node).0 chosen.announced;
          advertisement = adv;
          advertised = record {
            config = config;
            there = at-in config.bgp adv n at;
            meant = record {
              in_force = in_force;
              pool = chosen.pool;
              pool_is = chosen.pool_is;
              chosen = (chooses-Decides adv.pools adv.pool_selectors chosen.pool.name chosen.pool.labels).0 choose.0;
              selected = (selects-Decides adv.node_selectors labels).0 choose.1;
            };
            named = (for-Decides v node peer both adv).0 hear.1;
          };
          is = refl;
        }

    pub contributes-listed : (g : Aggregate) (a : AddressValue) (adv : CompiledBgp) → slice_get bgp g.advertisement ≡ Some adv
        → contributes v node both g a ≡ true → receives labels peer adv ≡ true
        → IsContribution v node peer both (contribution peer a adv)
    contributes-listed g a adv at e heard =
        let parts = and_parts (may_stand both (map advertisement_of bgp) g a) (is_set (choice_at v node a) g.advertisement) e in
        contribution-by v.held.config refl g.advertisement a adv at (standing-counts g a parts.0)
        (chosen-at (announced_from v a node) g.advertisement a adv at refl parts.1) heard

    -- ---- a contribution is what contributes
    pub record Contributing (c : PrefixValue × Terms) : Type 0 where
      pub place : ℕ
      pub adv : CompiledBgp
      pub at : slice_get bgp place ≡ Some adv
      pub address : AddressValue
      pub contributes : contributes v node both (aggregate_of place (advertisement_of adv) address) address ≡ true
      pub heard : receives labels peer adv ≡ true
      pub is : c ≡ contribution peer address adv

    chosen-flag : (a : AddressValue) (pool : CompiledPool) (n : ℕ) (adv : CompiledBgp) → announced_from v a node ≡ true → pool_with (pools_of v) a ≡ Some pool
        → slice_get bgp n ≡ Some adv
        → is_chosen labels pool adv ≡ true → is_set (choice_at v node a) n ≡ true
    chosen-flag a pool n adv announced pool_is at chosen =
        ap (λ b. is_set (cond b (choice_of labels bgp (pool_with (pools_of v) a)) []) n) announced
        ∙ ap (λ (o : Option CompiledPool). is_set (choice_of labels bgp o) n) pool_is
        ∙ flag-at (is_chosen labels pool) bgp n adv at ∙ chosen

    pub listed-contributes : (c : PrefixValue × Terms) → IsContribution v node peer both c → Contributing c
    listed-contributes c by =
        let adv = by.advertisement in
        let a = by.address in
        let pool = by.advertised.meant.pool in
        let in_force = by.advertised.meant.in_force in
        let there : IsIn bgp adv = subst (λ (o : Option ConfigValue). IsIn (bgp_in o) adv) (sym in_force) by.advertised.there in
        let found = in-at bgp adv there in
        let n = found.0 in
        let g : Aggregate = aggregate_of n (advertisement_of adv) a in
        let own : is_own g a (slice_get (map advertisement_of bgp) n) ≡ true =
        ap (is_own g a) (at-map advertisement_of bgp n adv found.1) ∙ at-itself place_cmp place_cmp-total (place_of (prefix_of (advertisement_of adv) a)) in
        let stands =
        and_from (counts both a.family) (is_own g a (slice_get (map advertisement_of bgp) n)) ((counts-Decides both a.family).1 by.counts) own in
        let pool_is : pool_with (pools_of v) a ≡ Some pool = ap (λ (o : Option ConfigValue). pool_with (pools_in o) a) in_force ∙ by.advertised.meant.pool_is in
        let chosen : is_chosen labels pool adv ≡ true =
        and_from (chooses adv.pools adv.pool_selectors pool.name pool.labels) (selects adv.node_selectors labels)
        ((chooses-Decides adv.pools adv.pool_selectors pool.name pool.labels).1 by.advertised.meant.chosen)
        ((selects-Decides adv.node_selectors labels).1 by.advertised.meant.selected) in
        let flag = chosen-flag a pool n adv ((announced_from-Decides v a node).1 by.announced) pool_is found.1 chosen in
        record {
          place = n;
          adv = adv;
          at = found.1;
          address = a;
          contributes = and_from (may_stand both (map advertisement_of bgp) g a) (is_set (choice_at v node a) n) stands flag;
          heard = and_from (selects peer.node_selectors labels) (is_for peer adv) ((selects-Decides peer.node_selectors labels).1 by.peer_selects)
              ((for-Decides v node peer both adv).1 by.advertised.named);
          is = by.is;
        }

    -- whether the peer receives an advertisement, by its place
    pub receives-at : (n : ℕ) (adv : CompiledBgp) → slice_get bgp n ≡ Some adv → is_set (peer_by labels bgp peer).receives n ≡ receives labels peer adv
    receives-at n adv at = flag-at (receives labels peer) bgp n adv at
