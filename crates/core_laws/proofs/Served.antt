-- Whatever record is chosen has one address of each family of some option, of one pool that serves the service.
use Rattle.std.proofs.Common.{◌≡◌, ◌≢◌, ℕ, suc, Bool, true, false, cond, List, [], ◌∷◌, length, filter}
use Rattle.std.proofs.Common.{Option, Some, None, ◌⊎◌, inl, inr, ⊎_elim, refl, sym, ap, subst, ◌∙◌}
use Rattle.std.proofs.lemmas.Slice.Eq.{bytes_eq-Decides}
use Rattle.std.specs.List.{Contains, AllZip}
use Rattle.std.specs.Option.{option_to_list}
use Rattle.std.specs.Str.{bytes_eq}
use Rattle.std.proofs.lemmas.Bool.{true_from_ne_false}
use Rattle.ip_ranges.specs.declared.family.Family.{Family}
use Rattle.ip_ranges.specs.Values.{AddressValue, same_family}
use Rattle.kube_model.specs.declared.reason.Reason.{Reason}
use Rattle.kube_model.specs.declared.reason.Reason.TheVariants.{RequestUnreadable, RequestFamilies, PoolUnknown, PoolRefused}
use Rattle.kube_model.specs.declared.reason.Reason.TheVariants.{AddressOutside, AddressUnusable, PoolExhausted, NoPool, Exhausted}
use Rattle.kube_model.specs.declared.record.Record.{Record}
use Rattle.kube_model.specs.declared.service.Service.{Service}
use Rattle.pool_config.specs.declared.compiled.CompiledPool.{CompiledPool}
use Rattle.mlb_base.proofs.Among.{contains-none, contains-cons, contains-first, contains-later}
use Rattle.alloc_book.specs.declared.choice.Choice.{Choice}
use Rattle.alloc_book.specs.declared.choice.Choice.TheVariants.{Pending, Keep, New}
use Rattle.alloc_book.specs.Asking.{Asker, Offer, asker_of, asked_in}
use Rattle.claim_index.specs.Claims.{Holders}
use Rattle.alloc_book.specs.Chosen.{named, asked_pools, AsksAddresses, AsksPool, Gives, IsChosenFor}
use Rattle.mlb_base.specs.Cases.{IsFirst}
use Rattle.mlb_base.specs.Items.{Has}
use Rattle.alloc_book.specs.First.{HasEach, SomeHasEach, AllUsable, IsOneOfEach, FitsOption, IsNew, IsKept, IsHome, record_in}
use Rattle.alloc_book.specs.Choose.{fits_option}
use Rattle.alloc_book.specs.Granted.{IsFor}
use Rattle.alloc_book.specs.Least.{IsLeast}
use Rattle.alloc_book.specs.Usable.{IsUsable}
use Rattle.mlb_base.proofs.CaseLaws.{case-has, first-holds, first-stands}
use Rattle.alloc_book.proofs.ChooseLaws.{fits_option-is}
use Rattle.core_laws.specs.Served.{IsServed, AreOffered, ChosenIsServed}
use Rattle.core_laws.proofs.Classes.{by-test}

-- ---- one of each family of an option
fits-stable : (q : Asker) (addresses : List AddressValue) → ¬ (¬ (FitsOption q addresses)) → FitsOption q addresses
fits-stable q addresses twice = by-test (fits_option q addresses) (fits_option-is q addresses) twice

first-is : {X : Type 0} (P Q : X → Type 0) (xs : List X) (x : X) → IsFirst P xs x → Q x → Has Q xs
first-is P Q [] x first is = absurd first
first-is P Q (z ∷ zs) x first is = ⊎_elim (λ here. inl (subst Q here.1 is)) (λ there. inr (first-is P Q zs x there.1 is)) first

count-by : (b : Bool) (a : AddressValue) (f : Family) (xs : List AddressValue) (fs : List Family) → length xs ≡ length fs
    → length (cond b (a ∷ xs) xs) ≡ length (cond b (f ∷ fs) fs)
count-by true a f xs fs e = ap suc e
count-by false a f xs fs e = e

each-zip : (R : Family → AddressValue → Type 0) (families : List Family) (addresses : List AddressValue)
    → ((f : Family) (a : AddressValue) → R f a → a.family ≡ f) → AllZip R families addresses → IsOneOfEach families addresses
each-zip R [] [] of zip family = refl
each-zip R [] (a ∷ addresses) of zip family = absurd zip
each-zip R (f ∷ families) [] of zip family = absurd zip
each-zip R (f ∷ families) (a ∷ addresses) of zip family =
    ap (λ x. length (cond (same_family x family) (a ∷ filter (λ (y : AddressValue). same_family y.family family) addresses)
    (filter (λ (y : AddressValue). same_family y.family family) addresses))) (of f a zip.0)
    ∙ count-by (same_family f family) a f _ _ (each-zip R families addresses of zip.1 family)

all-zip : (R : Family → AddressValue → Type 0) (Q : AddressValue → Type 0) (families : List Family) (addresses : List AddressValue)
    → ((f : Family) (a : AddressValue) → R f a → Q a) → AllZip R families addresses
    → (a : AddressValue) → Contains addresses a → Q a
all-zip R Q [] [] of zip a there = absurd (contains-none a there)
all-zip R Q [] (x ∷ addresses) of zip a there = absurd zip
all-zip R Q (f ∷ families) [] of zip a there = absurd zip
all-zip R Q (f ∷ families) (x ∷ addresses) of zip a there =
    ⊎_elim (λ here. subst Q here (of f x zip.0)) (λ later. all-zip R Q families addresses of zip.1 a later) (contains-cons x addresses a there)

-- ---- the pool that is asked for
named-by : (b : Bool) (name : List ℕ) (p : CompiledPool) (pools : List CompiledPool) (found : Option CompiledPool) (pool : CompiledPool)
    → b ≡ bytes_eq p.name name
    → (found ≡ Some pool → Contains pools pool × (pool.name ≡ name)) → cond b (Some p) found ≡ Some pool → Contains (p ∷ pools) pool × (pool.name ≡ name)
named-by true name p pools found pool b ih e =
    let is : p ≡ pool = cc in
    (subst (Contains (p ∷ pools)) is (contains-first p pools), ap (λ (x : CompiledPool). x.name) (sym is) ∙ (bytes_eq-Decides p.name name).0 (sym b))
named-by false name p pools found pool b ih e = let rest = ih e in (contains-later p pools pool rest.0, rest.1)

named-from : (pools : List CompiledPool) (name : List ℕ) (pool : CompiledPool) → named pools name ≡ Some pool → Contains pools pool × (pool.name ≡ name)
named-from [] name pool e = absurd (cc)
named-from (p ∷ pools) name pool e = named-by (bytes_eq p.name name) name p pools (named pools name) pool refl (named-from pools name pool) e

only-first : (P : CompiledPool → Type 0) (found : Option CompiledPool) (pool : CompiledPool) → IsFirst P (option_to_list found) pool → found ≡ Some pool
only-first P None pool first = absurd first
only-first P (Some p) pool first = ⊎_elim (λ here. ap (λ (x : CompiledPool). Some x) (sym here.1)) (λ there. absurd there.1) first

module _ (has : Holders) (o : Offer) (q : Asker) where
  for-pending : (r : Record) (reason : Reason) (c : Choice) → c ≡ Pending reason → IsFor r c → ⊥
  for-pending r reason c is for = ⊎_elim (λ kept. absurd (cc)) (λ new. absurd (cc)) for

  served-kept : (r : Record) (c : Choice) → (pool : CompiledPool) × IsFirst (IsKept has o q) o.pools pool × (c ≡ Keep (record_in pool q q.recorded)) → IsFor r c
      → IsServed has o q r
  served-kept r c k for =
      let kept : IsKept has o q k.0 = first-holds (IsKept has o q) o.pools k.0 k.1 in
      let is = k.2 in
      let made : IsServed has o q (record_in k.0 q q.recorded) = record {
        pool = k.0;
        stands = first-stands (IsKept has o q) o.pools k.0 k.1;
        serves = kept.is_open.0;
        fits = kept.fits;
        usable = kept.usable;
        as_asked = kept.as_asked;
        from_asked = kept.is_open.1;
        is = refl;
      } in
      ⊎_elim (λ same. subst (IsServed has o q) (cc) made) (λ new. absurd (cc)) for

  served-home : (r : Record) (c : Choice) → AsksAddresses q → ¬ (AsksAddresses q × ¬ (FitsOption q (asked_in q.wanted)))
      → (pool : CompiledPool) × IsFirst (IsHome o q) o.pools pool × AllUsable has q pool (asked_in q.wanted) × (c ≡ New (record_in pool q (asked_in q.wanted)))
      → IsFor r c → IsServed has o q r
  served-home r c asked four k for =
      let home : IsHome o q k.0 = first-holds (IsHome o q) o.pools k.0 k.1 in
      let is = k.3 in
      let made : IsServed has o q (record_in k.0 q (asked_in q.wanted)) = record {
        pool = k.0;
        stands = first-stands (IsHome o q) o.pools k.0 k.1;
        serves = home.is_open.0;
        fits = fits-stable q (asked_in q.wanted) (λ n. four (asked, n));
        usable = k.2;
        as_asked = λ _. (λ a there. there, λ a there. there);
        from_asked = home.is_open.1;
        is = refl;
      } in
      ⊎_elim (λ kept. absurd (cc)) (λ new. subst (IsServed has o q) (cc) made) for

  fits-new : (pools : List CompiledPool) (r : Record) → IsNew has q pools r → FitsOption q r.addresses
  fits-new pools r new =
      first-is (SomeHasEach has q pools) (λ (fs : List Family). IsOneOfEach fs r.addresses) q.options new.0 new.1
      (each-zip (IsLeast has q.key q.terms new.2.0) new.0 r.addresses (λ f a l. l.0.0) new.2.2)

  served-new : (pools : List CompiledPool) (reason : Reason) (r : Record) (c : Choice) → ¬ (AsksAddresses q)
      → ((families : List Family) (pool : CompiledPool) → IsFirst (HasEach has q families) pools pool
      → Contains o.pools pool × (o.serves pool ≡ true) × (q.pool_asked ≢ [] → pool.name ≡ q.pool_asked))
      → Gives has q pools reason c → IsFor r c → IsServed has o q r
  served-new pools reason r c unasked offered gives for =
      ⊎_elim
      (λ given.
      let families = given.1.0 in
      let least = given.1.2 in
      let pool = least.0 in
      let zip = least.2 in
      let is = given.2 in
      let from = offered families pool least.1 in
      let made : IsServed has o q given.0 = record {
        pool = pool;
        stands = from.0;
        serves = from.1;
        fits = fits-new pools given.0 given.1;
        usable = all-zip (IsLeast has q.key q.terms pool) (IsUsable has q.key q.terms pool) families given.0.addresses (λ f a l. l.0.1) zip;
        as_asked = λ asked. absurd (unasked asked);
        from_asked = from.2;
        is = least.3;
      } in
      ⊎_elim (λ kept. absurd (cc)) (λ new. subst (IsServed has o q) (cc) made) for)
      (λ full. absurd (for-pending r reason c full.1 for))
      gives

  -- where a record is chosen, it is by one of four cases
  by-case : {P : Type 0} (class : Option (List ℕ)) (service : Service) (r : Record) (c : Choice)
      → ((pool : CompiledPool) × IsFirst (IsKept has o q) o.pools pool × (c ≡ Keep (record_in pool q q.recorded)) → P)
      → (¬ (AsksAddresses q × ¬ (FitsOption q (asked_in q.wanted))) → AsksAddresses q
      → (pool : CompiledPool) × IsFirst (IsHome o q) o.pools pool × AllUsable has q pool (asked_in q.wanted) × (c ≡ New (record_in pool q (asked_in q.wanted)))
      → P)
      → (¬ (AsksAddresses q) → ¬ (AsksPool q × ((pool : CompiledPool) × (named o.pools q.pool_asked ≡ Some pool) × (o.serves pool ≡ false))) → AsksPool q
      → Gives has q (asked_pools o q) PoolExhausted c → P)
      → (¬ (AsksAddresses q) → ¬ (AsksPool q) → Gives has q o.eligible Exhausted c → P)
      → IsFor r c → IsChosenFor has o class service q c → P
  by-case class service r c kept home asked eligible for =
      case-has _ _ _ _ (λ _ is. absurd (⊎_elim (λ k. absurd (cc)) (λ n. absurd (cc)) for)) (λ _.
      case-has _ _ _ _ (λ _ is. absurd (⊎_elim (λ k. absurd (cc)) (λ n. absurd (cc)) for)) (λ _.
      case-has _ _ _ _ (λ _ is. absurd (for-pending r RequestUnreadable c is for)) (λ _.
      case-has _ _ _ _ (λ _ is. absurd (for-pending r RequestFamilies c is for)) (λ four.
      case-has _ _ _ _ (λ _ is. absurd (for-pending r PoolUnknown c is for)) (λ _.
      case-has _ _ _ _ (λ _ is. absurd (for-pending r PoolRefused c is for)) (λ six.
      case-has _ _ _ _ (λ _ is. kept is) (λ _.
      case-has _ _ _ _ (λ _ is. absurd (for-pending r AddressOutside c is for)) (λ _.
      case-has _ _ _ _ (λ _ is. absurd (for-pending r AddressUnusable c is for)) (λ _.
      case-has _ _ _ _ (λ asks is. home four asks is) (λ unasked.
      case-has _ _ _ _ (λ asks gives. asked unasked six asks gives) (λ unasked_pool.
      case-has _ _ _ _ (λ _ is. absurd (for-pending r NoPool c is for)) (λ _ gives. eligible unasked unasked_pool gives))))))))))))

  served-for : AreOffered o → (class : Option (List ℕ)) (service : Service) (r : Record) (c : Choice) → IsFor r c → IsChosenFor has o class service q c
      → IsServed has o q r
  served-for offered class service r c for =
      by-case class service r c
      (λ kept. served-kept r c kept for)
      (λ four asked home. served-home r c asked four home for)
      (λ unasked six asks gives. served-new (asked_pools o q) PoolExhausted r c unasked
      (λ families pool first.
      let found : named o.pools q.pool_asked ≡ Some pool = only-first (HasEach has q families) (named o.pools q.pool_asked) pool first in
      let from = named-from o.pools q.pool_asked pool found in
      (from.0, true_from_ne_false (o.serves pool) (λ refused. six (asks, (pool, found, refused))), λ _. from.1))
      gives for)
      (λ unasked unasked_pool gives. served-new o.eligible Exhausted r c unasked
      (λ families pool first. let from = offered pool (first-stands (HasEach has q families) o.eligible pool first) in
      (from.0, from.1, λ asks. absurd (unasked_pool asks)))
      gives for)
      for

  -- whatever the pools are, it fits
  fits-as : (r x : Record) (c : Choice) → (c ≡ Keep x) ⊎ (c ≡ New x) → IsFor r c → FitsOption q x.addresses → FitsOption q r.addresses
  fits-as r x c is for fits =
      let same : x ≡ r = ⊎_elim (λ k. ⊎_elim (λ l. cc) (λ l. absurd (cc)) for) (λ n. ⊎_elim (λ l. absurd (cc)) (λ l. cc) for) is in
      subst (λ (y : Record). FitsOption q y.addresses) same fits

  fits-given : (pools : List CompiledPool) (reason : Reason) (r : Record) (c : Choice) → Gives has q pools reason c → IsFor r c → FitsOption q r.addresses
  fits-given pools reason r c gives for =
      ⊎_elim (λ given. fits-as r given.0 c (inr given.2) for (fits-new pools given.0 given.1)) (λ full. absurd (for-pending r reason c full.1 for)) gives

  fits-for : (class : Option (List ℕ)) (service : Service) (r : Record) (c : Choice) → IsFor r c → IsChosenFor has o class service q c
      → FitsOption q r.addresses
  fits-for class service r c for =
      by-case class service r c
      (λ kept. let is : IsKept has o q kept.0 = first-holds (IsKept has o q) o.pools kept.0 kept.1 in
      fits-as r (record_in kept.0 q q.recorded) c (inl kept.2) for is.fits)
      (λ four asked home. fits-as r (record_in home.0 q (asked_in q.wanted)) c (inr home.3) for (fits-stable q (asked_in q.wanted) (λ n. four (asked, n))))
      (λ _ _ _ gives. fits-given (asked_pools o q) PoolExhausted r c gives for)
      (λ _ _ gives. fits-given o.eligible Exhausted r c gives for)
      for

pub chosen-fits : (has : Holders) (o : Offer) (class : Option (List ℕ)) (service : Service) (r : Record) (c : Choice) → IsFor r c
    → IsChosenFor has o class service (asker_of service) c
    → FitsOption (asker_of service) r.addresses
chosen-fits has o class service r c for chosen = fits-for has o (asker_of service) class service r c for chosen

pub chosen_is_served : ChosenIsServed
chosen_is_served has o class service r c offered for chosen = served-for has o (asker_of service) offered class service r c for chosen
