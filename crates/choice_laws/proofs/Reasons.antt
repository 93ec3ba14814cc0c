-- What each reason says, and that nothing could be given then.
use Rattle.std.proofs.Common.{◌≡◌, ◌≢◌, ℕ, true, false, List, [], ◌∷◌, Option, Some, None}
use Rattle.std.proofs.Common.{⊎_elim, refl, sym, ap, ◌∙◌, subst}
use Rattle.std.proofs.lemmas.Bool.{true≢false}
use Rattle.std.specs.List.{Contains}
use Rattle.mlb_base.specs.Cases.{IsFirst, NoneIs}
use Rattle.mlb_base.specs.Items.{IsIn}
use Rattle.mlb_base.proofs.CaseLaws.{case-has, first-holds, first-stands}
use Rattle.mlb_base.proofs.Lists.{contains-in}
use Rattle.ip_ranges.specs.declared.family.Family.{Family}
use Rattle.ip_ranges.specs.Values.{AddressValue}
use Rattle.kube_model.specs.declared.reason.Reason.{Reason}
use Rattle.kube_model.specs.declared.reason.Reason.TheVariants.{RequestUnreadable, RequestFamilies, PoolUnknown, PoolRefused}
use Rattle.kube_model.specs.declared.reason.Reason.TheVariants.{AddressOutside, AddressUnusable, PoolExhausted, NoPool, Exhausted}
use Rattle.kube_model.specs.declared.service.Service.{Service}
use Rattle.kube_model.specs.declared.service.Wanted.{Wanted}
use Rattle.kube_model.specs.declared.service.Wanted.TheVariants.{NotAsked, Unreadable, Asked}
use Rattle.sharing_terms.specs.Terms.{terms_of}
use Rattle.pool_config.specs.ConfigValue.{ConfigValue, IsConfig}
use Rattle.pool_config.specs.PoolOf.{HasAddress}
use Rattle.pool_config.specs.declared.compiled.CompiledPool.{CompiledPool}
use Rattle.pool_config.proofs.OnePool.{address-Decides}
use Rattle.claim_index.specs.Claims.{Holders}
use Rattle.alloc_book.specs.declared.choice.Choice.TheVariants.{Pending}
use Rattle.alloc_book.specs.Asking.{Asker, Offer, asker_of, asked_in, is_asked, offer_of}
use Rattle.alloc_book.specs.Chosen.{named, asked_pools, AsksPool, AsksAddresses, Gives, IsChosenFor}
use Rattle.alloc_book.specs.First.{HasEach, SomeHasEach, AreFull, FitsOption, AllUsable, IsHome}
use Rattle.alloc_book.specs.Usable.{IsUsable}
use Rattle.choice_laws.specs.Laws.{ExhaustedIsFull, NoPoolIsOpen, PendingIsInVain}
use Rattle.choice_laws.specs.Options.{IsOption, AreOfOption, families_of, IsOpenTo, GivesTo, HasUsable, AreAsWanted, CouldHave}
use Rattle.choice_laws.proofs.Options.{has-at, none-at, option-in, fits-option, has-each}
use Rattle.choice_laws.proofs.Pools.{pool-only, serves-it, named-it, asked-in, eligible-in}

-- ---- what each reason says
module _ (has : Holders) (o : Offer) (q : Asker) where
  abbrev Says : Reason → Type 0
  Says RequestUnreadable = q.wanted ≡ Unreadable
  Says RequestFamilies = AsksAddresses q × ¬ (FitsOption q (asked_in q.wanted))
  Says PoolUnknown = AsksPool q × (named o.pools q.pool_asked ≡ None)
  Says PoolRefused = AsksPool q × ((pool : CompiledPool) × (named o.pools q.pool_asked ≡ Some pool) × (o.serves pool ≡ false))
  Says AddressOutside = AsksAddresses q × NoneIs (IsHome o q) o.pools
  Says AddressUnusable =
      AsksAddresses q × ((pool : CompiledPool) × IsFirst (IsHome o q) o.pools pool × ¬ (AllUsable has q pool (asked_in q.wanted)))
  Says PoolExhausted = (¬ (AsksAddresses q)) × AsksPool q × AreFull has q (asked_pools o q)
  Says NoPool = (¬ (AsksAddresses q)) × (¬ (AsksPool q)) × (o.eligible ≡ [])
  Says Exhausted = (¬ (AsksAddresses q)) × (¬ (AsksPool q)) × AreFull has q o.eligible

  said : (r s : Reason) → Pending s ≡ Pending r → Says r → Says s
  said r s e says = subst Says (cc) says

  said_full : (pools : List CompiledPool) (r s : Reason) → Gives has q pools r (Pending s) → (AreFull has q pools → Says r) → Says s
  said_full pools r s gives says = ⊎_elim (λ new. let is = new.2 in absurd (cc)) (λ full. said r s full.1 (says full.0)) gives

  pending-says : (class : Option (List ℕ)) (service : Service) (s : Reason) → IsChosenFor has o class service q (Pending s) → Says s
  pending-says class service s =
      case-has _ _ _ _ (λ _ is. absurd (cc)) (λ _.
      case-has _ _ _ _ (λ _ is. absurd (cc)) (λ _.
      case-has _ _ _ _ (λ w is. said RequestUnreadable s is w) (λ _.
      case-has _ _ _ _ (λ w is. said RequestFamilies s is w) (λ _.
      case-has _ _ _ _ (λ w is. said PoolUnknown s is w) (λ _.
      case-has _ _ _ _ (λ w is. said PoolRefused s is w) (λ _.
      case-has _ _ _ _ (λ _ kept. let is = kept.2 in absurd (cc)) (λ _.
      case-has _ _ _ _ (λ w is. said AddressOutside s is w) (λ _.
      case-has _ _ _ _ (λ w is. said AddressUnusable s is w) (λ _.
      case-has _ _ _ _ (λ _ home. let is = home.3 in absurd (cc)) (λ not_asked.
      case-has _ _ _ _ (λ w gives. said_full (asked_pools o q) PoolExhausted s gives (λ full. (not_asked, w, full))) (λ no_pool.
      case-has _ _ _ _ (λ w is. said NoPool s is (not_asked, no_pool, w)) (λ _ gives.
      said_full o.eligible Exhausted s gives (λ full. (not_asked, no_pool, full))))))))))))))

-- ---- what is wanted
pub no-pool-asked : (text : List ℕ) → ¬ (text ≢ []) → text ≡ []
no-pool-asked [] none = refl
no-pool-asked (c ∷ text) none = absurd (none (λ e. absurd (cc)))

module _ (service : Service) (pool : CompiledPool) (addresses : List AddressValue) where
  wanted-readable : (wanted : Wanted) → AreAsWanted wanted service pool addresses → ¬ (wanted ≡ Unreadable)
  wanted-readable NotAsked are e = absurd (cc)
  wanted-readable Unreadable are e = absurd are
  wanted-readable (Asked named) are e = absurd (cc)

  wanted-asked : (wanted : Wanted) → AreAsWanted wanted service pool addresses → is_asked wanted ≡ true
      → (addresses ≡ asked_in wanted) × AreOfOption service (asked_in wanted)
  wanted-asked NotAsked are asked = absurd (true≢false (sym asked))
  wanted-asked Unreadable are asked = absurd are
  wanted-asked (Asked named) are asked = are

  wanted-free : (wanted : Wanted) → AreAsWanted wanted service pool addresses → ¬ (is_asked wanted ≡ true)
      → IsOption service (families_of addresses) × GivesTo service pool
  wanted-free NotAsked are free = are
  wanted-free Unreadable are free = absurd are
  wanted-free (Asked named) are free = absurd (free refl)

-- ---- nothing could be given
module _ (has : Holders) (config : ConfigValue) (labels : List (List ℕ × List ℕ)) (service : Service) (is : IsConfig config) where
  abbrev o : Offer
  o = offer_of config.pools service labels

  abbrev q : Asker
  q = asker_of service

  -- of pools that are full none has a usable address of each family of an option
  none-given : (pools : List CompiledPool) → AreFull has q pools → (families : List Family) → IsOption service families → (pool : CompiledPool)
      → IsIn pools pool → ¬ (HasUsable has service pool families)
  none-given pools full families option pool there usable =
      none-at (SomeHasEach has q pools) q.options families full (option-in service families option)
      (has-at (HasEach has q families) pools pool there (has-each has service pool families usable))

  full-asked : Says has o q PoolExhausted → (families : List Family) → IsOption service families → (pool : CompiledPool)
      → IsOpenTo config.pools labels service pool → ¬ (HasUsable has service pool families)
  full-asked says families option pool opens =
      none-given (asked_pools o q) says.2 families option pool (asked-in config labels service is pool opens says.1)

  full-unasked : Says has o q Exhausted → (families : List Family) → IsOption service families → (pool : CompiledPool)
      → IsOpenTo config.pools labels service pool → GivesTo service pool → ¬ (HasUsable has service pool families)
  full-unasked says families option pool opens gives =
      none-given o.eligible says.2 families option pool
      (eligible-in config labels service is pool opens (no-pool-asked service.pool_asked says.1) gives)

  not-open : Says has o q NoPool → (pool : CompiledPool) → IsOpenTo config.pools labels service pool → ¬ (GivesTo service pool)
  not-open says pool opens gives =
      subst (λ (pools : List CompiledPool). IsIn pools pool) says.2
      (eligible-in config labels service is pool opens (no-pool-asked service.pool_asked says.1) gives)

  module _ (pool : CompiledPool) (addresses : List AddressValue) (could : CouldHave has config.pools labels service pool addresses) where
    has-it : (a : AddressValue) → Contains addresses a → HasAddress a pool
    has-it a there = (address-Decides a pool).0 (could.usable a there).in_pool

    -- the addresses asked for are these, and lie in this pool
    home : addresses ≡ asked_in service.wanted → IsHome o q pool
    home same = record {
      is_open = (serves-it config labels service is pool could.is_open, could.is_open.asked);
      in_pool = λ a there. (could.usable a (subst (λ (as' : List AddressValue). Contains as' a) (sym same) there)).in_pool;
    }

    -- and this pool alone has them
    all-there : (p : CompiledPool) → IsFirst (IsHome o q) config.pools p → addresses ≡ asked_in service.wanted → AllUsable has q p (asked_in service.wanted)
    all-there p first same a there =
        let stands = subst (λ (as' : List AddressValue). Contains as' a) (sym same) there in
        let here : HasAddress a p = (address-Decides a p).0 ((first-holds (IsHome o q) config.pools p first).in_pool a there) in
        let one : pool ≡ p = pool-only config.pools is.apart a pool p could.is_open.stands (first-stands (IsHome o q) config.pools p first) (has-it a stands)
        here in
        subst (λ (z : CompiledPool). IsUsable has service.key (terms_of service) z a) one (could.usable a stands)

    free : ¬ (AsksAddresses q) → (families : List Family) × IsOption service families × HasUsable has service pool families × GivesTo service pool
    free not_asked =
        let are = wanted-free service pool addresses service.wanted could.wanted not_asked in
        (families_of addresses, are.0, (addresses, refl, could.usable), are.1)

    vain : (reason : Reason) → Says has o q reason → ⊥
    vain RequestUnreadable says = wanted-readable service pool addresses service.wanted could.wanted says
    vain RequestFamilies says =
        says.1 (fits-option service (asked_in service.wanted) (wanted-asked service pool addresses service.wanted could.wanted says.0).1)
    vain PoolUnknown says =
        let found = named-it config labels service is pool could.is_open says.0 in
        let none = says.1 in
        absurd (cc)
    vain PoolRefused says =
        let found = named-it config labels service is pool could.is_open says.0 in
        let other = says.1.1 in
        let one : says.1.0 ≡ pool = cc in
        true≢false (sym (serves-it config labels service is pool could.is_open) ∙ ap o.serves (sym one) ∙ says.1.2)
    vain AddressOutside says =
        none-at (IsHome o q) config.pools pool says.1 (contains-in config.pools pool could.is_open.stands)
        (home (wanted-asked service pool addresses service.wanted could.wanted says.0).0)
    vain AddressUnusable says =
        says.1.2 (all-there says.1.0 says.1.1 (wanted-asked service pool addresses service.wanted could.wanted says.0).0)
    vain PoolExhausted says = let given = free says.0 in full-asked says given.0 given.1 pool could.is_open given.2
    vain NoPool says = let given = free says.0 in not-open says pool could.is_open given.3
    vain Exhausted says = let given = free says.0 in full-unasked says given.0 given.1 pool could.is_open given.3 given.2

pub pending-in-vain : PendingIsInVain
pending-in-vain has config labels class service reason is chosen pool addresses could =
    vain has config labels service is pool addresses could reason
    (pending-says has (offer_of config.pools service labels) (asker_of service) class service reason chosen)

pub exhausted-full : ExhaustedIsFull
exhausted-full has config labels class service reason is full chosen families option pool opens gives =
    let says = pending-says has (offer_of config.pools service labels) (asker_of service) class service reason chosen in
    ⊎_elim
    (λ unasked. full-unasked has config labels service is
    (subst (Says has (offer_of config.pools service labels) (asker_of service)) unasked says) families option pool opens gives)
    (λ asked. full-asked has config labels service is (subst (Says has (offer_of config.pools service labels) (asker_of service)) asked says) families option
    pool opens)
    full

pub no-pool-open : NoPoolIsOpen
no-pool-open has config labels class service is chosen =
    let says = pending-says has (offer_of config.pools service labels) (asker_of service) class service NoPool chosen in
    (no-pool-asked service.pool_asked says.1, λ pool opens gives. not-open has config labels service is says pool opens (λ _. gives))
