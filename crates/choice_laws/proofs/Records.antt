-- What is kept, and what a new record is.
use Rattle.std.proofs.Common.{◌≡◌, ℕ, zero, suc, Bool, true, false, List, [], ◌∷◌, Option, Some, AllPairs, arith}
use Rattle.std.proofs.Common.{◌⊎◌, inl, inr, ⊎_elim, refl, sym, ap, ◌∙◌, subst}
use Rattle.std.proofs.lemmas.Bool.{true≢false}
use Rattle.std.specs.Bool.{Decides}
use Rattle.std.specs.List.{Contains}
use Rattle.mlb_base.specs.Cases.{IsFirst}
use Rattle.mlb_base.specs.Items.{IsIn}
use Rattle.mlb_base.proofs.Among.{contains-cons}
use Rattle.mlb_base.proofs.CaseLaws.{case-has, fails, first-holds, first-stands}
use Rattle.mlb_base.proofs.Lists.{contains-in, in-contains}
use Rattle.ip_ranges.specs.declared.family.Family.{Family}
use Rattle.ip_ranges.specs.Values.{AddressValue}
use Rattle.kube_model.specs.declared.record.Record.{Record}
use Rattle.kube_model.specs.declared.reason.Reason.{Reason}
use Rattle.kube_model.specs.declared.service.Service.{Service}
use Rattle.kube_model.specs.declared.service.Wanted.{Wanted}
use Rattle.kube_model.specs.declared.service.Wanted.TheVariants.{NotAsked, Unreadable, Asked}
use Rattle.pool_config.specs.ConfigValue.{ConfigValue, IsConfig}
use Rattle.pool_config.specs.declared.compiled.CompiledPool.{CompiledPool}
use Rattle.pool_choice.specs.Eligible.{StandsBefore, eligible}
use Rattle.pool_choice.proofs.EligibleLaws.{eligible-are}
use Rattle.claim_index.specs.Claims.{Holders}
use Rattle.alloc_book.specs.declared.choice.Choice.{Choice}
use Rattle.alloc_book.specs.declared.choice.Choice.TheVariants.{Keep, New}
use Rattle.alloc_book.specs.Asking.{Asker, Offer, options_of, asker_of, asked_in, is_asked, offer_of}
use Rattle.alloc_book.specs.Choose.{fits_option}
use Rattle.alloc_book.specs.Chosen.{named, asked_pools, AsksPool, AsksAddresses, Gives, IsChosenFor}
use Rattle.alloc_book.specs.First.{HasEach, SomeHasEach, IsNew, FitsOption, AllUsable, AreSame, IsKept, IsHome, record_in}
use Rattle.alloc_book.specs.Granted.{IsGranted}
use Rattle.alloc_book.specs.Least.{IsLeast}
use Rattle.alloc_book.proofs.ChooseLaws.{fits_option-is}
use Rattle.alloc_book.proofs.ChosenLaws.{chosen_for-granted}
use Rattle.choice_laws.specs.Laws.{KeptIsWhole, WholeIsKept, NewIsOfTheFirstOption, NewIsOfTheFirstPool, NewCouldBeHad}
use Rattle.choice_laws.specs.Options.{Prefers, IsOption, AreOfOption, families_of, IsOpenTo, GivesTo, HasUsable, NoneHasUsable, AreAsWanted, CouldHave}
use Rattle.choice_laws.specs.Options.{AreAsAsked, MayStay}
use Rattle.choice_laws.proofs.Options.{has-at, some-first, options-are, prefers-or-not, fits-option, option-fits, option-from, has-each, zip-families}
use Rattle.choice_laws.proofs.Pools.{serves-it, named-it, named-only, asked-in, eligible-in, is-open, asked-open, eligible-open}
use Rattle.choice_laws.proofs.Reasons.{no-pool-asked}

-- ---- the cases of the table that give a record
abbrev IsUnfit : Asker → Type 0
IsUnfit q = AsksAddresses q × ¬ (FitsOption q (asked_in q.wanted))

abbrev IsRefused : Offer → Asker → Type 0
IsRefused o q = AsksPool q × ((pool : CompiledPool) × (named o.pools q.pool_asked ≡ Some pool) × (o.serves pool ≡ false))

module _ (has : Holders) (o : Offer) (q : Asker) where
  abbrev IsKeptBy : Record → Type 0
  IsKeptBy r =
      (¬ (q.wanted ≡ Unreadable)) × (¬ (IsUnfit q)) × ((pool : CompiledPool) × IsFirst (IsKept has o q) o.pools pool × (r ≡ record_in pool q q.recorded))

  not-kept : (pools : List CompiledPool) (reason : Reason) (r : Record) → Gives has q pools reason (Keep r) → ⊥
  not-kept pools reason r gives = ⊎_elim (λ new. let is = new.2 in absurd (cc)) (λ full. let is = full.1 in absurd (cc)) gives

  kept-by : (class : Option (List ℕ)) (service : Service) (r : Record) → IsChosenFor has o class service q (Keep r) → IsKeptBy r
  kept-by class service r =
      case-has _ _ _ _ (λ _ is. absurd (cc)) (λ _.
      case-has _ _ _ _ (λ _ is. absurd (cc)) (λ _.
      case-has _ _ _ _ (λ _ is. absurd (cc)) (λ readable.
      case-has _ _ _ _ (λ _ is. absurd (cc)) (λ fit.
      case-has _ _ _ _ (λ _ is. absurd (cc)) (λ _.
      case-has _ _ _ _ (λ _ is. absurd (cc)) (λ _.
      case-has _ _ _ _ (λ _ kept. let same = kept.2 in (readable, fit, (kept.0, kept.1, cc))) (λ _.
      case-has _ _ _ _ (λ _ is. absurd (cc)) (λ _.
      case-has _ _ _ _ (λ _ is. absurd (cc)) (λ _.
      case-has _ _ _ _ (λ _ home. let is = home.3 in absurd (cc)) (λ _.
      case-has _ _ _ _ (λ _ gives. absurd (not-kept (asked_pools o q) _ r gives)) (λ _.
      case-has _ _ _ _ (λ _ is. absurd (cc)) (λ _ gives.
      absurd (not-kept o.eligible _ r gives)))))))))))))

  -- by the addresses that are asked for, of the pool that is asked for, or of those that are eligible
  abbrev IsNewBy : Record → Type 0
  IsNewBy r =
      (AsksAddresses q
      × ((pool : CompiledPool) × IsFirst (IsHome o q) o.pools pool × AllUsable has q pool (asked_in q.wanted) × (r ≡ record_in pool q (asked_in q.wanted))))
      ⊎ ((¬ (AsksAddresses q)) × ((AsksPool q × IsNew has q (asked_pools o q) r) ⊎ ((¬ (AsksPool q)) × IsNew has q o.eligible r)))

  abbrev IsNewSo : Record → Type 0
  IsNewSo r = (¬ (q.wanted ≡ Unreadable)) × (¬ (IsUnfit q)) × (¬ (IsRefused o q)) × IsNewBy r

  new-given : (pools : List CompiledPool) (reason : Reason) (r : Record) → Gives has q pools reason (New r) → IsNew has q pools r
  new-given pools reason r gives =
      ⊎_elim
      (λ new. let same = new.2 in let is : new.0 ≡ r = cc in subst (IsNew has q pools) is new.1)
      (λ full. let is = full.1 in absurd (cc))
      gives

  new-so : (class : Option (List ℕ)) (service : Service) (r : Record) → IsChosenFor has o class service q (New r) → IsNewSo r
  new-so class service r =
      case-has _ _ _ _ (λ _ is. absurd (cc)) (λ _.
      case-has _ _ _ _ (λ _ is. absurd (cc)) (λ _.
      case-has _ _ _ _ (λ _ is. absurd (cc)) (λ readable.
      case-has _ _ _ _ (λ _ is. absurd (cc)) (λ fit.
      case-has _ _ _ _ (λ _ is. absurd (cc)) (λ _.
      case-has _ _ _ _ (λ _ is. absurd (cc)) (λ served.
      case-has _ _ _ _ (λ _ kept. let is = kept.2 in absurd (cc)) (λ _.
      case-has _ _ _ _ (λ _ is. absurd (cc)) (λ _.
      case-has _ _ _ _ (λ _ is. absurd (cc)) (λ _.
      case-has _ _ _ _ (λ asks home. let same = home.3 in (readable, fit, served, inl (asks, (home.0, home.1, home.2, cc)))) (λ free.
      case-has _ _ _ _ (λ asks gives. (readable, fit, served, inr (free, inl (asks, new-given (asked_pools o q) _ r gives)))) (λ none.
      case-has _ _ _ _ (λ _ is. absurd (cc)) (λ _ gives.
      (readable, fit, served, inr (free, inr (none, new-given o.eligible _ r gives)))))))))))))))

-- ---- what is asked for
stable : {P : Type 0} (b : Bool) → Decides b P → ¬ (¬ P) → P
stable true d not_not = d.0 refl
stable false d not_not = absurd (not_not (fails false d refl))

asked-fits : (service : Service) → ¬ (IsUnfit (asker_of service)) → is_asked service.wanted ≡ true → AreOfOption service (asked_in service.wanted)
asked-fits service fit asked =
    let q : Asker = asker_of service in
    option-fits service (asked_in service.wanted)
    (stable (fits_option q (asked_in service.wanted)) (fits_option-is q (asked_in service.wanted)) (λ unfit. fit (asked, unfit)))

module _ (service : Service) (addresses : List AddressValue) where
  stays-readable : (wanted : Wanted) → AreAsAsked wanted service addresses → ¬ (wanted ≡ Unreadable)
  stays-readable NotAsked are e = absurd (cc)
  stays-readable Unreadable are e = absurd are
  stays-readable (Asked named) are e = absurd (cc)

  stays-asked : (wanted : Wanted) → AreAsAsked wanted service addresses → is_asked wanted ≡ true
      → AreOfOption service (asked_in wanted) × AreSame addresses (asked_in wanted)
  stays-asked NotAsked are asked = absurd (true≢false (sym asked))
  stays-asked Unreadable are asked = absurd are
  stays-asked (Asked named) are asked = are

  asked-stays : (wanted : Wanted) → ¬ (wanted ≡ Unreadable) → (is_asked wanted ≡ true → AreOfOption service (asked_in wanted))
      → (is_asked wanted ≡ true → AreSame addresses (asked_in wanted)) → AreAsAsked wanted service addresses
  asked-stays NotAsked readable of same = tt
  asked-stays Unreadable readable of same = absurd (readable refl)
  asked-stays (Asked named) readable of same = (of refl, same refl)

  asked-wanted : (wanted : Wanted) (pool : CompiledPool) → is_asked wanted ≡ true → AreOfOption service (asked_in wanted) → addresses ≡ asked_in wanted
      → AreAsWanted wanted service pool addresses
  asked-wanted NotAsked pool asked of same = absurd (true≢false (sym asked))
  asked-wanted Unreadable pool asked of same = absurd (true≢false (sym asked))
  asked-wanted (Asked named) pool asked of same = (same, of)

  free-wanted : (wanted : Wanted) (pool : CompiledPool) → ¬ (wanted ≡ Unreadable) → ¬ (is_asked wanted ≡ true) → IsOption service (families_of addresses)
      → GivesTo service pool → AreAsWanted wanted service pool addresses
  free-wanted NotAsked pool readable free option gives = (option, gives)
  free-wanted Unreadable pool readable free option gives = absurd (readable refl)
  free-wanted (Asked named) pool readable free option gives = absurd (free refl)

-- ---- what is kept may stay
pub kept-whole : KeptIsWhole
kept-whole has config labels class service r chosen =
    let o : Offer = offer_of config.pools service labels in
    let q : Asker = asker_of service in
    let by = kept-by has o q class service r chosen in
    let pool = by.2.0 in
    let kept : IsKept has o q pool = first-holds (IsKept has o q) config.pools pool by.2.1 in (
      ap (λ (s : Record). s.addresses) by.2.2,
      (
        pool,
        record {
          is_open = is-open config labels service pool (first-stands (IsKept has o q) config.pools pool by.2.1) kept.is_open.0 kept.is_open.1;
          fits = option-fits service service.holding.addresses kept.fits;
          as_asked = asked-stays service service.holding.addresses service.wanted by.0 (asked-fits service by.1) kept.as_asked;
          usable = kept.usable;
        },
        ap (λ (s : Record). s.pool) by.2.2,
      ),
    )

-- ---- what may stay is kept
module _ (has : Holders) (config : ConfigValue) (labels : List (List ℕ × List ℕ)) (service : Service) (is : IsConfig config) (pool : CompiledPool)
    (stays : MayStay has config.pools labels service pool) where
  abbrev offered : Offer
  offered = offer_of config.pools service labels

  abbrev asker : Asker
  asker = asker_of service

  is-kept : IsKept has offered asker pool
  is-kept = record {
    is_open = (serves-it config labels service is pool stays.is_open, stays.is_open.asked);
    fits = fits-option service service.holding.addresses stays.fits;
    usable = stays.usable;
    as_asked = λ asked. (stays-asked service service.holding.addresses service.wanted stays.as_asked asked).1;
  }

  not-refused : ¬ (IsRefused offered asker)
  not-refused refused =
      let found = named-it config labels service is pool stays.is_open refused.0 in
      let other = refused.1.1 in
      let one : refused.1.0 ≡ pool = cc in
      true≢false (sym (serves-it config labels service is pool stays.is_open) ∙ ap offered.serves (sym one) ∙ refused.1.2)

  kept-so : (class : Option (List ℕ)) → service.balancer ≡ true → service.class ≡ class → (c : Choice) → IsChosenFor has offered class service asker c
      → (r : Record) × (c ≡ Keep r) × (r.addresses ≡ service.holding.addresses)
  kept-so class balancer of_class c =
      case-has _ _ _ _ (λ w _. absurd (w.1 of_class)) (λ _.
      case-has _ _ _ _ (λ w _. absurd (true≢false (sym balancer ∙ w))) (λ _.
      case-has _ _ _ _ (λ w _. absurd (stays-readable service service.holding.addresses service.wanted stays.as_asked w)) (λ _.
      case-has _ _ _ _
      (λ w _. absurd (w.1 (fits-option service (asked_in service.wanted)
      (stays-asked service service.holding.addresses service.wanted stays.as_asked w.0).0))) (λ _.
      case-has _ _ _ _
      (λ w _. let found = named-it config labels service is pool stays.is_open w.0 in let none = w.1 in absurd (cc)) (λ _.
      case-has _ _ _ _ (λ w _. absurd (not-refused w)) (λ _.
      case-has _ _ _ _ (λ _ kept. (record_in kept.0 asker service.holding.addresses, kept.2, refl)) (λ none _.
      absurd (some-first (IsKept has offered asker) config.pools pool (contains-in config.pools pool stays.is_open.stands) is-kept none))))))))

pub whole-kept : WholeIsKept
whole-kept has config labels class service pool is stays balancer of_class c chosen =
    kept-so has config labels service is pool stays class balancer of_class c chosen

-- ---- a new record is of the first option
abbrev IsOfTheFirst : Holders → ConfigValue → List (List ℕ × List ℕ) → Service → List Family → Type 0
IsOfTheFirst has config labels service families =
    (families ≡ service.families)
    ⊎ ((f g : Family) × Prefers service f g × NoneHasUsable has config.pools labels service (f ∷ g ∷ [])
    × ((families ≡ f ∷ []) ⊎ ((families ≡ g ∷ []) × NoneHasUsable has config.pools labels service (f ∷ []))))

module _ (has : Holders) (config : ConfigValue) (labels : List (List ℕ × List ℕ)) (service : Service) (r : Record) (pools : List CompiledPool)
    (among : (pool : CompiledPool) → IsOpenTo config.pools labels service pool → GivesTo service pool → IsIn pools pool) where
  abbrev q : Asker
  q = asker_of service

  none-usable : (families : List Family) → ¬ (SomeHasEach has q pools families) → NoneHasUsable has config.pools labels service families
  none-usable families none pool opens gives usable =
      none (has-at (HasEach has q families) pools pool (among pool opens gives) (has-each has service pool families usable))

  first-alone : (families : List Family) → IsFirst (SomeHasEach has q pools) (service.families ∷ []) families → IsOfTheFirst has config labels service families
  first-alone families first = ⊎_elim (λ here. inl here.1) (λ there. absurd there.1) first

  first-two : (f g : Family) → Prefers service f g → (families : List Family)
      → IsFirst (SomeHasEach has q pools) ((f ∷ g ∷ []) ∷ (f ∷ []) ∷ (g ∷ []) ∷ []) families → IsOfTheFirst has config labels service families
  first-two f g prefers families first =
      ⊎_elim
      (λ here. inl (here.1 ∙ sym prefers.1))
      (λ there. inr (
        f,
        g,
        prefers,
        none-usable (f ∷ g ∷ []) there.0,
        ⊎_elim
            (λ here. inl here.1)
            (λ last. inr (⊎_elim (λ here. (here.1, none-usable (f ∷ []) last.0)) (λ end. absurd end.1) last.1))
            there.1,
      ))
      first

  first-of : (families : List Family) → IsFirst (SomeHasEach has q pools) (options_of service) families → IsOfTheFirst has config labels service families
  first-of families first =
      ⊎_elim
      (λ two. first-two two.0 two.1 two.2 families
      (subst (λ (options : List (List Family)). IsFirst (SomeHasEach has q pools) options families) (options-are.preferred service two.0 two.1 two.2) first))
      (λ none. first-alone families
      (subst (λ (options : List (List Family)). IsFirst (SomeHasEach has q pools) options families) (options-are.others service none) first))
      (prefers-or-not service)

-- the families of a new record that isn't asked for are those of its option
new-families : (has : Holders) (service : Service) (r : Record) (pools : List CompiledPool) (new : IsNew has (asker_of service) pools r)
    → families_of r.addresses ≡ new.0
new-families has service r pools new =
    let q : Asker = asker_of service in
    zip-families (IsLeast has q.key q.terms new.2.0) (λ f a is. is.0.0) new.0 r.addresses new.2.2

new-of-first : (has : Holders) (config : ConfigValue) (labels : List (List ℕ × List ℕ)) (service : Service) (r : Record) (pools : List CompiledPool)
    (among : (pool : CompiledPool) → IsOpenTo config.pools labels service pool → GivesTo service pool → IsIn pools pool)
    → IsNew has (asker_of service) pools r → IsOfTheFirst has config labels service (families_of r.addresses)
new-of-first has config labels service r pools among new =
    subst (IsOfTheFirst has config labels service) (sym (new-families has service r pools new))
    (first-of has config labels service r pools among new.0 new.1)

new-of-first-by : (has : Holders) (config : ConfigValue) (labels : List (List ℕ × List ℕ)) (service : Service) (r : Record) → IsConfig config
    → ¬ (is_asked service.wanted ≡ true) → IsNewBy has (offer_of config.pools service labels) (asker_of service) r
    → IsOfTheFirst has config labels service (families_of r.addresses)
new-of-first-by has config labels service r is free (inl asked) = absurd (free asked.0)
new-of-first-by has config labels service r is free (inr (_, inl by_name)) =
    new-of-first has config labels service r (asked_pools (offer_of config.pools service labels) (asker_of service))
    (λ pool opens gives. asked-in config labels service is pool opens by_name.0) by_name.1
new-of-first-by has config labels service r is free (inr (_, inr none)) =
    new-of-first has config labels service r (eligible service labels config.pools)
    (λ pool opens gives. eligible-in config labels service is pool opens (no-pool-asked service.pool_asked none.0) gives) none.1

pub new-of-the-first : NewIsOfTheFirstOption
new-of-the-first has config labels class service r is wanted chosen =
    new-of-first-by has config labels service r is (λ asked. true≢false (sym asked ∙ ap is_asked wanted))
    (new-so has (offer_of config.pools service labels) (asker_of service) class service r chosen).3

-- ---- its pool is the first
head-before : {X : Type 0} (R : X → X → Type 0) (z : X) (zs : List X) → AllPairs R (z ∷ zs) → (y : X) → Contains zs y → R z y
head-before R z zs pairs y there = subst (R z) there.2 (pairs zero (suc there.0) y (omega arith) (omega (arith, there.1)))

-- the first item that something holds of stands before the others that it holds of
first-before : {X : Type 0} (R : X → X → Type 0) (P : X → Type 0) (xs : List X) → AllPairs R xs → (x y : X) → IsFirst P xs x → Contains xs y → P y
    → (x ≡ y) ⊎ R x y
first-before R P [] pairs x y first there p = absurd first
first-before {X} R P (z ∷ zs) pairs x y first there p =
    ⊎_elim
    (λ here. ⊎_elim
    (λ same. inl (here.1 ∙ same))
    (λ later. inr (subst (λ (w : X). R w y) (sym here.1) (head-before R z zs pairs y later)))
    (contains-cons z zs y there))
    (λ behind. ⊎_elim
    (λ same. absurd (behind.0 (subst P (sym same) p)))
    (λ later. first-before R P zs (λ i j d below within. pairs (suc i) (suc j) d (omega arith) (omega arith)) x y behind.1 later p)
    (contains-cons z zs y there))
    first

module _ (has : Holders) (config : ConfigValue) (labels : List (List ℕ × List ℕ)) (service : Service) (r : Record) (is : IsConfig config)
    (other : CompiledPool) (opens : IsOpenTo config.pools labels service other) (gives : GivesTo service other)
    (usable : HasUsable has service other (families_of r.addresses)) where
  abbrev offer : Offer
  offer = offer_of config.pools service labels

  abbrev who : Asker
  who = asker_of service

  -- the pool of the record's name is the one of which it is
  abbrev IsBefore : CompiledPool → Type 0
  IsBefore pool = (pool ≡ other) ⊎ StandsBefore pool other

  of-name : (pool found : CompiledPool) → Contains config.pools pool → Contains config.pools found → r.pool ≡ pool.name → r.pool ≡ found.name
      → IsBefore found → IsBefore pool
  of-name pool found stands there by by_too before = subst IsBefore (named-only config is found pool there stands (sym by_too ∙ by)) before

  before-asked : (pool : CompiledPool) → Contains config.pools pool → r.pool ≡ pool.name → IsNew has who (asked_pools offer who) r → AsksPool who
      → ¬ (IsRefused offer who) → IsBefore pool
  before-asked pool stands by new asks served =
      let there = first-stands (HasEach has who new.0) (asked_pools offer who) new.2.0 new.2.1 in
      let found = (asked-open config labels service new.2.0 asks served there).0 in
      of-name pool new.2.0 stands found.stands by (ap (λ (s : Record). s.pool) new.2.3)
      (inl (named-only config is new.2.0 other found.stands opens.stands (found.asked asks ∙ sym (opens.asked asks))))

  before-eligible : (pool : CompiledPool) → Contains config.pools pool → r.pool ≡ pool.name → IsNew has who offer.eligible r → ¬ (AsksPool who)
      → IsBefore pool
  before-eligible pool stands by new none =
      let there = first-stands (HasEach has who new.0) offer.eligible new.2.0 new.2.1 in
      let each = has-each has service other new.0
      (subst (HasUsable has service other) (new-families has service r offer.eligible new) usable) in
      of-name pool new.2.0 stands (eligible-open config labels service new.2.0 is none there).0.stands by (ap (λ (s : Record). s.pool) new.2.3)
      (first-before StandsBefore (HasEach has who new.0) offer.eligible (eligible-are service labels config.pools is.pools).ordered new.2.0 other new.2.1
      (in-contains offer.eligible other (eligible-in config labels service is other opens (no-pool-asked service.pool_asked none) gives)) each)

  before-so : (pool : CompiledPool) → Contains config.pools pool → r.pool ≡ pool.name → ¬ (is_asked service.wanted ≡ true) → ¬ (IsRefused offer who)
      → IsNewBy has offer who r → IsBefore pool
  before-so pool stands by free served (inl asked) = absurd (free asked.0)
  before-so pool stands by free served (inr (_, inl by_name)) = before-asked pool stands by by_name.1 by_name.0 served
  before-so pool stands by free served (inr (_, inr none)) = before-eligible pool stands by none.1 none.0

pub new-of-the-first-pool : NewIsOfTheFirstPool
new-of-the-first-pool has config labels class service r is wanted chosen pool other stands by opens gives usable =
    let so = new-so has (offer_of config.pools service labels) (asker_of service) class service r chosen in
    before-so has config labels service r is other opens gives usable pool stands by (λ asked. true≢false (sym asked ∙ ap is_asked wanted)) so.2 so.3

-- ---- a new record could be had
module _ (has : Holders) (config : ConfigValue) (labels : List (List ℕ × List ℕ)) (service : Service) (r : Record) (is : IsConfig config) where
  abbrev o : Offer
  o = offer_of config.pools service labels

  abbrev asks : Asker
  asks = asker_of service

  abbrev CouldBeHad : Type 0
  CouldBeHad = (pool : CompiledPool) × CouldHave has config.pools labels service pool r.addresses × (r.pool ≡ pool.name)

  granted-stands : (g : IsGranted has o asks r) → Contains config.pools g.pool
  granted-stands g = ⊎_elim (λ there. there) (λ there. (((eligible-are service labels config.pools is.pools).exact g.pool).0 there).0) g.stands

  free-had : (pools : List CompiledPool)
      → ((pool : CompiledPool) → Contains pools pool → IsOpenTo config.pools labels service pool × GivesTo service pool) → IsNew has asks pools r
      → IsGranted has o asks r → ¬ (service.wanted ≡ Unreadable) → ¬ (AsksAddresses asks) → CouldBeHad
  free-had pools are new g readable free =
      let least = new.2 in
      let pool = least.0 in
      let opens = are pool (first-stands (HasEach has asks new.0) pools pool least.1) in
      let one : g.pool ≡ pool = named-only config is g.pool pool (granted-stands g) opens.0.stands
      (sym (ap (λ (s : Record). s.pool) g.is) ∙ ap (λ (s : Record). s.pool) least.3) in
      let option : IsOption service new.0 = option-from service new.0
      (contains-in (options_of service) new.0 (first-stands (SomeHasEach has asks pools) (options_of service) new.0 new.1)) in (
        pool,
        record {
          is_open = opens.0;
          wanted = free-wanted service r.addresses service.wanted pool readable free
              (subst (IsOption service) (sym (new-families has service r pools new)) option) opens.1;
          usable = subst (λ (p : CompiledPool). AllUsable has asks p r.addresses) one g.usable;
        },
        ap (λ (s : Record). s.pool) least.3,
      )

  asked-had : ¬ (IsUnfit asks) → AsksAddresses asks
      → (pool : CompiledPool) × IsFirst (IsHome o asks) config.pools pool × AllUsable has asks pool (asked_in service.wanted)
      × (r ≡ record_in pool asks (asked_in service.wanted)) → CouldBeHad
  asked-had fit asked home =
      let pool = home.0 in
      let in_it : IsHome o asks pool = first-holds (IsHome o asks) config.pools pool home.1 in
      let same : r.addresses ≡ asked_in service.wanted = ap (λ (s : Record). s.addresses) home.3 in (
        pool,
        record {
          is_open = is-open config labels service pool (first-stands (IsHome o asks) config.pools pool home.1) in_it.is_open.0 in_it.is_open.1;
          wanted = asked-wanted service r.addresses service.wanted pool asked (asked-fits service fit asked) same;
          usable = subst (λ (addresses : List AddressValue). AllUsable has asks pool addresses) (sym same) home.2;
        },
        ap (λ (s : Record). s.pool) home.3,
      )

  had : IsGranted has o asks r → IsNewSo has o asks r → CouldBeHad
  had g so =
      ⊎_elim
      (λ asked. asked-had so.1 asked.0 asked.1)
      (λ free.
      ⊎_elim
      (λ by_name. free-had (asked_pools o asks) (λ pool there. asked-open config labels service pool by_name.0 so.2 there) by_name.1 g so.0 free.0)
      (λ none. free-had o.eligible (λ pool there. eligible-open config labels service pool is none.0 there) none.1 g so.0 free.0)
      free.1)
      so.3

pub new-could-be-had : NewCouldBeHad
new-could-be-had has config labels class service r is chosen =
    let o : Offer = offer_of config.pools service labels in
    let q : Asker = asker_of service in
    had has config labels service r is (chosen_for-granted has o q class service r (New r) (inr refl) chosen) (new-so has o q class service r chosen)
