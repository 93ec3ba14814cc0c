-- What is listed as contributed is exactly what is a contribution.
use Rattle.std.proofs.Common.{◌≡◌, ℕ, Bool, true, false, cond, ◌&&◌, List, [], ◌∷◌, ◌++◌, ◌⊎◌, inl, inr, Option, Some, None, refl, sym, ap, ◌∙◌, subst, Decides}
use Rattle.std.specs.List.{flat_map}
use Rattle.std.proofs.lemmas.Bool.{false≢true}
use Rattle.std.proofs.lemmas.Bool.Decides.{Decides-and, Decides-or}
use Rattle.ip_ranges.specs.declared.family.Family.{Family}
use Rattle.ip_ranges.specs.declared.family.Family.TheVariants.{V4, V6}
use Rattle.ip_ranges.specs.Values.{AddressValue, PrefixValue}
use Rattle.kube_labels.specs.Names.{has_text}
use Rattle.mlb_base.specs.Items.{IsIn, is_nil}
use Rattle.mlb_base.proofs.Lists.{Decides-nil, contains-in, in-contains}
use Rattle.pool_config.specs.declared.compiled.CompiledBgp.{CompiledBgp}
use Rattle.pool_config.specs.declared.compiled.CompiledPeer.{CompiledPeer}
use Rattle.pool_config.specs.declared.compiled.CompiledPool.{CompiledPool}
use Rattle.pool_config.specs.Choice.{Chooses, Selects, chooses, selects}
use Rattle.pool_config.specs.ConfigValue.{ConfigValue}
use Rattle.pool_config.specs.PoolOf.{pool_with}
use Rattle.pool_config.proofs.Tests.{Decides-in, chooses-Decides, selects-Decides}
use Rattle.speaker_view.specs.Endpoints.{can_announce, node_labels}
use Rattle.speaker_view.specs.Held.{objects_of}
use Rattle.speaker_view.specs.ViewValue.{ViewValue}
use Rattle.speaker_view.proofs.Serving.{can_announce-Decides}
use Rattle.bgp_updates.specs.declared.route.Terms.{Terms}
use Rattle.bgp_routes.specs.Contribution.{Counts, IsAdvertisedBy, IsContribution, contribution}
use Rattle.bgp_routes.specs.Laws.{ContributionsAreListed}
use Rattle.bgp_routes.specs.Routes.{advertises, contributions, counts, is_for, of_address, of_config, of_found, of_pool, of_service}

-- ---- items of lists that tests and cases make

pub kept : {A : Type 0} (b : Bool) (x : A) (xs : List A) (c : A) → IsIn (cond b (x ∷ xs) xs) c → ((b ≡ true) × (x ≡ c)) ⊎ IsIn xs c
kept true x xs c (inl is) = inl (refl, is)
kept true x xs c (inr later) = inr later
kept false x xs c there = inr there

pub keep : {A : Type 0} (b : Bool) (x : A) (xs : List A) (c : A) → ((b ≡ true) × (x ≡ c)) ⊎ IsIn xs c → IsIn (cond b (x ∷ xs) xs) c
keep true x xs c (inl own) = inl own.1
keep true x xs c (inr later) = inr later
keep false x xs c (inl own) = absurd (false≢true own.0)
keep false x xs c (inr later) = later

pub passed : {A : Type 0} (b : Bool) (xs : List A) (c : A) → IsIn (cond b xs []) c → (b ≡ true) × IsIn xs c
passed true xs c there = (refl, there)
passed false xs c there = absurd there

pub pass : {A : Type 0} (b : Bool) (xs : List A) (c : A) → b ≡ true → IsIn xs c → IsIn (cond b xs []) c
pass true xs c on there = there
pass false xs c on there = absurd (false≢true on)

in_either : {A : Type 0} (a b : List A) (c : A) → IsIn (a ++ b) c → IsIn a c ⊎ IsIn b c
in_either [] b c there = inr there
in_either (x ∷ a) b c (inl is) = inl (inl is)
in_either (x ∷ a) b c (inr later) = elim (in_either a b c later) [ inl first ↦ inl (inr first) | inr second ↦ inr second ]

in_first : {A : Type 0} (a b : List A) (c : A) → IsIn a c → IsIn (a ++ b) c
in_first [] b c none = absurd none
in_first (x ∷ a) b c (inl is) = inl is
in_first (x ∷ a) b c (inr later) = inr (in_first a b c later)

in_second : {A : Type 0} (a b : List A) (c : A) → IsIn b c → IsIn (a ++ b) c
in_second [] b c there = there
in_second (x ∷ a) b c there = inr (in_second a b c there)

-- the item that something comes from
pub record From {A B : Type 0} (f : A → List B) (xs : List A) (c : B) : Type 0 where
  pub item : A
  pub there : IsIn xs item
  pub own : IsIn (f item) c

pub flat-from : {A B : Type 0} (f : A → List B) (xs : List A) (c : B) → IsIn (flat_map f xs) c → From f xs c
flat-from f [] c none = absurd none
flat-from f (x ∷ xs) c there = elim (in_either (f x) (flat_map f xs) c there) [
  | inl own ↦ record { item = x; there = inl refl; own = own }
  | inr later ↦ (let rest = flat-from f xs c later in record { item = rest.item; there = inr rest.there; own = rest.own })
]

pub flat-in : {A B : Type 0} (f : A → List B) (xs : List A) (x : A) (c : B) → IsIn xs x → IsIn (f x) c → IsIn (flat_map f xs) c
flat-in f [] x c none own = absurd none
flat-in f (y ∷ ys) x c (inl is) own = in_first (f y) (flat_map f ys) c (subst (λ z. IsIn (f z) c) (sym is) own)
flat-in f (y ∷ ys) x c (inr later) own = in_second (f y) (flat_map f ys) c (flat-in f ys x c later own)

-- ---- what contributes
pub counts-Decides : (both : Bool) (f : Family) → Decides (counts both f) (Counts both f)
counts-Decides both V4 = (λ e. inl refl, λ h. refl)
counts-Decides both V6 = (λ e. inr e, λ h. elim h [ inl is ↦ absurd (cc) | inr e ↦ e ])

module _ (v : ViewValue) (node : List ℕ) (peer : CompiledPeer) (both : Bool) where
  pub for-Decides : (adv : CompiledBgp) → Decides (is_for peer adv) ((adv.peers ≡ []) ⊎ IsIn adv.peers peer.name)
  for-Decides adv = Decides-or (is_nil adv.peers) (has_text adv.peers peer.name) (Decides-nil adv.peers) (Decides-in adv.peers peer.name)

  abbrev Advertises : CompiledPool → CompiledBgp → Type 0
  Advertises pool adv =
      (Chooses adv.pools adv.pool_selectors pool.name pool.labels × Selects adv.node_selectors (node_labels v node))
      × ((adv.peers ≡ []) ⊎ IsIn adv.peers peer.name)

  advertises-Decides : (pool : CompiledPool) (adv : CompiledBgp) → Decides (advertises v node peer pool adv) (Advertises pool adv)
  advertises-Decides pool adv =
      Decides-and (chooses adv.pools adv.pool_selectors pool.name pool.labels && selects adv.node_selectors (node_labels v node)) (is_for peer adv)
      (Decides-and (chooses adv.pools adv.pool_selectors pool.name pool.labels) (selects adv.node_selectors (node_labels v node))
      (chooses-Decides adv.pools adv.pool_selectors pool.name pool.labels) (selects-Decides adv.node_selectors (node_labels v node)))
      (for-Decides adv)

  -- an advertisement of these that passes for the pool
  record Passing (address : AddressValue) (pool : CompiledPool) (bgp : List CompiledBgp) (c : PrefixValue × Terms) : Type 0 where
    pub adv : CompiledBgp
    pub there : IsIn bgp adv
    pub passes : Advertises pool adv
    pub is : c ≡ contribution peer address adv

  pool-passing : (address : AddressValue) (pool : CompiledPool) (bgp : List CompiledBgp) (c : PrefixValue × Terms)
      → IsIn (of_pool v node peer address pool bgp) c → Passing address pool bgp c
  pool-passing address pool [] c none = absurd none
  pool-passing address pool (adv ∷ more) c there =
      elim (kept (advertises v node peer pool adv) (contribution peer address adv) (of_pool v node peer address pool more) c there) [
        | inl own ↦ record { adv = adv; there = inl refl; passes = (advertises-Decides pool adv).0 own.0; is = sym own.1 }
        | inr later ↦
            (let rest = pool-passing address pool more c later in record { adv = rest.adv; there = inr rest.there; passes = rest.passes; is = rest.is })
      ]

  passing-pool : (address : AddressValue) (pool : CompiledPool) (bgp : List CompiledBgp) (adv : CompiledBgp) → IsIn bgp adv → Advertises pool adv
      → IsIn (of_pool v node peer address pool bgp) (contribution peer address adv)
  passing-pool address pool [] adv none passes = absurd none
  passing-pool address pool (first ∷ more) adv (inl is) passes =
      keep (advertises v node peer pool first) (contribution peer address first) (of_pool v node peer address pool more) (contribution peer address adv)
      (inl (ap (advertises v node peer pool) is ∙ (advertises-Decides pool adv).1 passes, ap (contribution peer address) is))
  passing-pool address pool (first ∷ more) adv (inr later) passes =
      keep (advertises v node peer pool first) (contribution peer address first) (of_pool v node peer address pool more) (contribution peer address adv)
      (inr (passing-pool address pool more adv later passes))

  -- the pool that was found, and an advertisement that passes for it
  record Found (address : AddressValue) (pools : Option CompiledPool) (bgp : List CompiledBgp) (c : PrefixValue × Terms) : Type 0 where
    pub pool : CompiledPool
    pub pool_is : pools ≡ Some pool
    pub passing : Passing address pool bgp c

  found-passing : (address : AddressValue) (pools : Option CompiledPool) (bgp : List CompiledBgp) (c : PrefixValue × Terms)
      → IsIn (of_found v node peer address pools bgp) c → Found address pools bgp c
  found-passing address None bgp c none = absurd none
  found-passing address (Some pool) bgp c there = record { pool = pool; pool_is = refl; passing = pool-passing address pool bgp c there }

  advertised : (config : ConfigValue) (address : AddressValue) (c : PrefixValue × Terms) → v.held.config ≡ Some config
      → Found address (pool_with config.pools address) config.bgp c
      → (adv : CompiledBgp) × IsAdvertisedBy v node peer address adv × (c ≡ contribution peer address adv)
  advertised config address c in_force found =
      let by = found.passing in (
        by.adv,
        record {
          config = config;
          there = by.there;
          meant = record {
            in_force = in_force;
            pool = found.pool;
            pool_is = found.pool_is;
            chosen = by.passes.0.0;
            selected = by.passes.0.1;
          };
          named = by.passes.1;
        },
        by.is,
      )

  listed-config : (config : ConfigValue) (c : PrefixValue × Terms) → v.held.config ≡ Some config → Selects peer.node_selectors (node_labels v node)
      → IsIn (flat_map (of_service v node peer both config) (objects_of v.held.services)) c → IsContribution v node peer both c
  listed-config config c in_force peer_selects there =
      let of = flat-from (of_service v node peer both config) (objects_of v.held.services) c there in
      let service = of.item in
      let on = passed (can_announce v service node) (flat_map (of_address v node peer both config) service.holding.addresses) c of.own in
      let at = flat-from (of_address v node peer both config) service.holding.addresses c on.1 in
      let address = at.item in
      let counted = passed (counts both address.family) (of_found v node peer address (pool_with config.pools address) config.bgp) c at.own in
      let by = advertised config address c in_force (found-passing address (pool_with config.pools address) config.bgp c counted.1) in
      record {
        peer_selects = peer_selects;
        address = address;
        counts = (counts-Decides both address.family).0 counted.0;
        announced = record {
          service = service;
          held = in-contains (objects_of v.held.services) service of.there;
          recorded = in-contains service.holding.addresses address at.there;
          announces = (can_announce-Decides v service node).0 on.0;
        };
        advertisement = by.0;
        advertised = by.1;
        is = by.2;
      }

  listed-held : (config : Option ConfigValue) (c : PrefixValue × Terms) → v.held.config ≡ config → Selects peer.node_selectors (node_labels v node)
      → IsIn (of_config v node peer both config) c → IsContribution v node peer both c
  listed-held None c in_force peer_selects none = absurd none
  listed-held (Some config) c in_force peer_selects there = listed-config config c in_force peer_selects there

  contribution-listed : (c : PrefixValue × Terms) → IsContribution v node peer both c → IsIn (contributions v node peer both) c
  contribution-listed c by =
      let service = by.announced.service in
      let address = by.address in
      let adv = by.advertisement in
      let config = by.advertised.config in
      let own : IsIn (of_found v node peer address (pool_with config.pools address) config.bgp) (contribution peer address adv) =
      subst (λ found. IsIn (of_found v node peer address found config.bgp) (contribution peer address adv)) (sym by.advertised.meant.pool_is)
      (passing-pool address by.advertised.meant.pool config.bgp adv by.advertised.there
      ((by.advertised.meant.chosen, by.advertised.meant.selected), by.advertised.named)) in
      let of_one = pass (counts both address.family) (of_found v node peer address (pool_with config.pools address) config.bgp) (contribution peer address adv)
      ((counts-Decides both address.family).1 by.counts) own in
      let of_all = pass (can_announce v service node) (flat_map (of_address v node peer both config) service.holding.addresses) (contribution peer address adv)
      ((can_announce-Decides v service node).1 by.announced.announces)
      (flat-in (of_address v node peer both config) service.holding.addresses address (contribution peer address adv)
      (contains-in service.holding.addresses address by.announced.recorded) of_one) in
      let of_config' : IsIn (of_config v node peer both v.held.config) (contribution peer address adv) =
      subst (λ held. IsIn (of_config v node peer both held) (contribution peer address adv)) (sym by.advertised.meant.in_force)
      (flat-in (of_service v node peer both config) (objects_of v.held.services) service (contribution peer address adv)
      (contains-in (objects_of v.held.services) service by.announced.held) of_all) in
      subst (IsIn (contributions v node peer both)) (sym by.is)
      (pass (selects peer.node_selectors (node_labels v node)) (of_config v node peer both v.held.config) (contribution peer address adv)
      ((selects-Decides peer.node_selectors (node_labels v node)).1 by.peer_selects) of_config')

pub contributions-listed : ContributionsAreListed
contributions-listed v node peer both c = (
  λ there.
      let on = passed (selects peer.node_selectors (node_labels v node)) (of_config v node peer both v.held.config) c there in
      listed-held v node peer both v.held.config c refl ((selects-Decides peer.node_selectors (node_labels v node)).0 on.0) on.1,
  λ by. contribution-listed v node peer both c by,
)
