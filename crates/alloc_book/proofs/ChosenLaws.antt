-- One thing at most is chosen; what is chosen may be used; what is pending stays so where no claim is lost.
use Rattle.std.proofs.Common.{◌≡◌, ℕ, Bool, true, false, cond, List, [], ◌∷◌, Option, Some, ◌⊎◌, inl, inr, refl, sym, ap, ◌∙◌, subst, ⊎_elim}
use Rattle.std.specs.List.{Contains, AllZip}
use Rattle.ip_ranges.specs.declared.family.Family.{Family}
use Rattle.ip_ranges.specs.Values.{AddressValue}
use Rattle.kube_model.specs.declared.reason.Reason.{Reason}
use Rattle.kube_model.specs.declared.reason.Reason.TheVariants.{RequestUnreadable, RequestFamilies, PoolUnknown, PoolRefused}
use Rattle.kube_model.specs.declared.reason.Reason.TheVariants.{AddressOutside, AddressUnusable, PoolExhausted, NoPool, Exhausted}
use Rattle.kube_model.specs.declared.record.Record.{Record}
use Rattle.kube_model.specs.declared.service.Service.{Service}
use Rattle.mlb_base.proofs.Among.{contains-none, contains-cons, contains-first, contains-later}
use Rattle.alloc_book.specs.declared.choice.Choice.{Choice}
use Rattle.alloc_book.specs.declared.choice.Choice.TheVariants.{Foreign, Clear, Pending, Keep, New}
use Rattle.pool_config.specs.declared.compiled.CompiledPool.{CompiledPool}
use Rattle.alloc_book.specs.Asking.{Asker, Offer, asked_in}
use Rattle.claim_index.specs.Claims.{Holders}
use Rattle.mlb_base.specs.Cases.{IsFirst}
use Rattle.alloc_book.specs.Chosen.{named, asked_pools, Gives, IsChosenFor}
use Rattle.alloc_book.specs.First.{HasEach, SomeHasEach, IsLeastOfEach, record_in, IsNew, AllUsable, IsKept, IsHome}
use Rattle.alloc_book.specs.Granted.{IsGranted, IsFor}
use Rattle.alloc_book.specs.Least.{IsLeast}
use Rattle.alloc_book.specs.Usable.{IsUsable}
use Rattle.mlb_base.proofs.CaseLaws.{IsOnly, only-is, only-case, case-has, first-only, first-none, first-holds, first-stands}
use Rattle.alloc_book.proofs.LeastLaws.{least-only}
use Rattle.std.specs.Option.{option_to_list}
use Rattle.std.specs.Str.{bytes_eq}

zip-only : {X Y : Type 0} (R : X → Y → Type 0) (xs : List X) → ((x : X) → IsOnly (R x)) → IsOnly (AllZip R xs)
zip-only R [] one [] [] p q = refl
zip-only R [] one [] (z ∷ zs) p q = absurd q
zip-only R [] one (y ∷ ys) zs p q = absurd p
zip-only R (x ∷ xs) one [] zs p q = absurd p
zip-only R (x ∷ xs) one (y ∷ ys) [] p q = absurd q
zip-only {X} {Y} R (x ∷ xs) one (y ∷ ys) (z ∷ zs) p q =
    let first : Y → List Y = λ a. a ∷ ys in
    let rest : List Y → List Y = λ more. z ∷ more in
    ap first (one x y z p.0 q.0) ∙ ap rest (zip-only R xs one ys zs p.1 q.1)

pub zip-map : {X Y : Type 0} (R S : X → Y → Type 0) (xs : List X) (ys : List Y) → ((x : X) (y : Y) → R x y → S x y) → AllZip R xs ys → AllZip S xs ys
zip-map R S [] [] f p = tt
zip-map R S [] (y ∷ ys) f p = p
zip-map R S (x ∷ xs) [] f p = p
zip-map R S (x ∷ xs) (y ∷ ys) f p = (f x y p.0, zip-map R S xs ys f p.1)

zip-each : {X Y : Type 0} (R : X → Y → Type 0) (Q : Y → Type 0) (xs : List X) (ys : List Y) → ((x : X) (y : Y) → R x y → Q y) → AllZip R xs ys → (y : Y)
    → Contains ys y → Q y
zip-each R Q [] [] f p y there = absurd (contains-none y there)
zip-each R Q [] (z ∷ zs) f p y there = absurd p
zip-each R Q (x ∷ xs) [] f p y there = absurd p
zip-each R Q (x ∷ xs) (z ∷ zs) f p y there =
    ⊎_elim (λ same. subst Q same (f x z p.0)) (λ later. zip-each R Q xs zs f p.1 y later) (contains-cons z zs y there)

named_by : (b : Bool) (p : CompiledPool) (pools : List CompiledPool) (pool : CompiledPool) (found : Option CompiledPool)
    → (Contains (option_to_list found) pool → Contains pools pool) → Contains (option_to_list (cond b (Some p) found)) pool → Contains (p ∷ pools) pool
named_by true p pools pool found ih there =
    ⊎_elim (λ same. subst (Contains (p ∷ pools)) same (contains-first p pools)) (λ none. absurd (contains-none pool none)) (contains-cons p [] pool there)
named_by false p pools pool found ih there = contains-later p pools pool (ih there)

named-stands : (name : List ℕ) (pools : List CompiledPool) (pool : CompiledPool) → Contains (option_to_list (named pools name)) pool → Contains pools pool
named-stands name [] pool there = absurd (contains-none pool there)
named-stands name (p ∷ pools) pool there = named_by (bytes_eq p.name name) p pools pool (named pools name) (named-stands name pools pool) there

module _ (has : Holders) (o : Offer) (q : Asker) where
  least-of_each-only : (pools : List CompiledPool) (families : List Family) → IsOnly (IsLeastOfEach has q pools families)
  least-of_each-only pools families r s here there =
      let pool : here.0 ≡ there.0 = first-only (HasEach has q families) pools here.0 there.0 here.1 there.1 in
      let moved : AllZip (IsLeast has q.key q.terms there.0) families r.addresses =
      subst (λ (p : CompiledPool). AllZip (IsLeast has q.key q.terms p) families r.addresses) pool here.2 in
      let addresses : r.addresses ≡ s.addresses = zip-only (IsLeast has q.key q.terms there.0) families
      (λ family a b. least-only has q.key q.terms there.0 family a b) r.addresses s.addresses moved there.2 in
      let by_pool : CompiledPool → Record = λ p. record_in p q r.addresses in
      let by_addresses : List AddressValue → Record = λ as'. record_in there.0 q as' in
      here.3 ∙ ap by_pool pool ∙ ap by_addresses addresses ∙ sym there.3

  new-only : (pools : List CompiledPool) → IsOnly (IsNew has q pools)
  new-only pools r s here there =
      let same : here.0 ≡ there.0 = first-only (SomeHasEach has q pools) q.options here.0 there.0 here.1 there.1 in
      least-of_each-only pools there.0 r s (subst (λ (families : List Family). IsLeastOfEach has q pools families r) same here.2) there.2

  gives-only : (pools : List CompiledPool) (reason : Reason) → IsOnly (Gives has q pools reason)
  gives-only pools reason x y p p' =
      ⊎_elim
      (λ here. ⊎_elim
      (λ there. here.2 ∙ ap New (new-only pools here.0 there.0 here.1 there.1) ∙ sym there.2)
      (λ there. absurd (first-none (SomeHasEach has q pools) q.options here.1.0 here.1.1 there.0))
      p')
      (λ here. ⊎_elim
      (λ there. absurd (first-none (SomeHasEach has q pools) q.options there.1.0 there.1.1 here.0))
      (λ there. here.1 ∙ sym there.1)
      p')
      p

  kept-only : IsOnly (λ (c : Choice). (pool : CompiledPool) × IsFirst (IsKept has o q) o.pools pool × (c ≡ Keep (record_in pool q q.recorded)))
  kept-only x y here there =
      let answer : CompiledPool → Choice = λ pool. Keep (record_in pool q q.recorded) in
      here.2 ∙ ap answer (first-only (IsKept has o q) o.pools here.0 there.0 here.1 there.1) ∙ sym there.2

  home-only : IsOnly (λ (c : Choice). (pool : CompiledPool) × IsFirst (IsHome o q) o.pools pool × AllUsable has q pool (asked_in q.wanted)
      × (c ≡ New (record_in pool q (asked_in q.wanted))))
  home-only x y here there =
      let answer : CompiledPool → Choice = λ pool. New (record_in pool q (asked_in q.wanted)) in
      here.3 ∙ ap answer (first-only (IsHome o q) o.pools here.0 there.0 here.1 there.1) ∙ sym there.3

  -- one thing at most is chosen
  pub chosen_for-only : (class : Option (List ℕ)) (service : Service) → IsOnly (IsChosenFor has o class service q)
  chosen_for-only class service =
      only-case _ (λ c. c ≡ Foreign) _ (only-is Foreign)
      (only-case _ (λ c. c ≡ Clear) _ (only-is Clear)
      (only-case _ (λ c. c ≡ Pending RequestUnreadable) _ (only-is (Pending RequestUnreadable))
      (only-case _ (λ c. c ≡ Pending RequestFamilies) _ (only-is (Pending RequestFamilies))
      (only-case _ (λ c. c ≡ Pending PoolUnknown) _ (only-is (Pending PoolUnknown))
      (only-case _ (λ c. c ≡ Pending PoolRefused) _ (only-is (Pending PoolRefused))
      (only-case _ (λ c. (pool : CompiledPool) × IsFirst (IsKept has o q) o.pools pool × (c ≡ Keep (record_in pool q q.recorded))) _ kept-only
      (only-case _ (λ c. c ≡ Pending AddressOutside) _ (only-is (Pending AddressOutside))
      (only-case _ (λ c. c ≡ Pending AddressUnusable) _ (only-is (Pending AddressUnusable))
      (only-case _ (λ c. (pool : CompiledPool) × IsFirst (IsHome o q) o.pools pool × AllUsable has q pool (asked_in q.wanted)
      × (c ≡ New (record_in pool q (asked_in q.wanted)))) _ home-only
      (only-case _ (Gives has q (asked_pools o q) PoolExhausted) _ (gives-only (asked_pools o q) PoolExhausted)
      (only-case _ (λ c. c ≡ Pending NoPool) _ (only-is (Pending NoPool))
      (gives-only o.eligible Exhausted))))))))))))

  is_for-pending : (r : Record) (reason : Reason) (c : Choice) → c ≡ Pending reason → IsFor r c → ⊥
  is_for-pending r reason c is for = ⊎_elim (λ kept. absurd (cc)) (λ new. absurd (cc)) for

  granted-with : (pool : CompiledPool) (addresses : List AddressValue) (r : Record) → Contains o.pools pool ⊎ Contains o.eligible pool
      → AllUsable has q pool addresses → record_in pool q addresses ≡ r → IsGranted has o q r
  granted-with pool addresses r there usable is =
      subst (IsGranted has o q) is (record { pool = pool; stands = there; usable = usable; is = refl })

  granted-kept : (r : Record) (c : Choice) → (pool : CompiledPool) × IsFirst (IsKept has o q) o.pools pool × (c ≡ Keep (record_in pool q q.recorded))
      → IsFor r c → IsGranted has o q r
  granted-kept r c k for =
      let kept : IsKept has o q k.0 = first-holds (IsKept has o q) o.pools k.0 k.1 in
      let is = k.2 in
      ⊎_elim
      (λ same. granted-with k.0 q.recorded r (inl (first-stands (IsKept has o q) o.pools k.0 k.1)) kept.usable (cc))
      (λ new. absurd (cc))
      for

  granted-home : (r : Record) (c : Choice) → (pool : CompiledPool) × IsFirst (IsHome o q) o.pools pool × AllUsable has q pool (asked_in q.wanted)
      × (c ≡ New (record_in pool q (asked_in q.wanted))) → IsFor r c → IsGranted has o q r
  granted-home r c k for =
      let is = k.3 in
      ⊎_elim
      (λ kept. absurd (cc))
      (λ same. granted-with k.0 (asked_in q.wanted) r (inl (first-stands (IsHome o q) o.pools k.0 k.1)) k.2 (cc))
      for

  granted-new : (pools : List CompiledPool) (reason : Reason) (r : Record) (c : Choice) → ((pool : CompiledPool) → Contains pools pool
      → Contains o.pools pool ⊎ Contains o.eligible pool) → Gives has q pools reason c → IsFor r c → IsGranted has o q r
  granted-new pools reason r c among gives for =
      ⊎_elim
      (λ given.
      let is = given.2 in
      let families = given.1.0 in
      let least = given.1.2 in
      let pool = least.0 in
      let usable : AllUsable has q pool given.0.addresses =
      zip-each (IsLeast has q.key q.terms pool) (IsUsable has q.key q.terms pool) families given.0.addresses (λ family a l. l.0.1) least.2 in
      ⊎_elim
      (λ kept. absurd (cc))
      (λ same. granted-with pool given.0.addresses r (among pool (first-stands (HasEach has q families) pools pool least.1)) usable (sym least.3 ∙ (cc)))
      for)
      (λ full. absurd (is_for-pending r reason c full.1 for))
      gives

  -- what is chosen may be used
  pub chosen_for-granted : (class : Option (List ℕ)) (service : Service) (r : Record) (c : Choice) → IsFor r c → IsChosenFor has o class service q c
      → IsGranted has o q r
  chosen_for-granted class service r c for =
      case-has _ _ _ _ (λ _ is. absurd (⊎_elim (λ k. absurd (cc)) (λ n. absurd (cc)) for)) (λ _.
      case-has _ _ _ _ (λ _ is. absurd (⊎_elim (λ k. absurd (cc)) (λ n. absurd (cc)) for)) (λ _.
      case-has _ _ _ _ (λ _ is. absurd (is_for-pending r RequestUnreadable c is for)) (λ _.
      case-has _ _ _ _ (λ _ is. absurd (is_for-pending r RequestFamilies c is for)) (λ _.
      case-has _ _ _ _ (λ _ is. absurd (is_for-pending r PoolUnknown c is for)) (λ _.
      case-has _ _ _ _ (λ _ is. absurd (is_for-pending r PoolRefused c is for)) (λ _.
      case-has _ _ _ _ (λ _ kept. granted-kept r c kept for) (λ _.
      case-has _ _ _ _ (λ _ is. absurd (is_for-pending r AddressOutside c is for)) (λ _.
      case-has _ _ _ _ (λ _ is. absurd (is_for-pending r AddressUnusable c is for)) (λ _.
      case-has _ _ _ _ (λ _ home. granted-home r c home for) (λ _.
      case-has _ _ _ _ (λ _ gives. granted-new (asked_pools o q) PoolExhausted r c (λ pool there. inl (named-stands q.pool_asked o.pools pool there)) gives for)
      (λ _.
      case-has _ _ _ _ (λ _ is. absurd (is_for-pending r NoPool c is for)) (λ _ gives.
      granted-new o.eligible Exhausted r c (λ pool there. inr there) gives for))))))))))))
