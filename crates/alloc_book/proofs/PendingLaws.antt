-- What is pending stays pending where nothing is left that wasn't left before; and equal holders make equal choices.
use Rattle.std.proofs.Common.{◌≡◌, ℕ, List, [], ◌∷◌, Option, inl, inr, refl, subst, ⊎_elim}
use Rattle.ip_ranges.specs.declared.family.Family.{Family}
use Rattle.ip_ranges.specs.Values.{AddressValue}
use Rattle.kube_model.specs.declared.key.Key.{Key}
use Rattle.kube_model.specs.declared.reason.Reason.{Reason}
use Rattle.kube_model.specs.declared.reason.Reason.TheVariants.{AddressUnusable, PoolExhausted, Exhausted}
use Rattle.kube_model.specs.declared.service.Service.{Service}
use Rattle.sharing_terms.specs.declared.terms.Terms.{Terms}
use Rattle.alloc_book.specs.declared.choice.Choice.{Choice}
use Rattle.alloc_book.specs.declared.choice.Choice.TheVariants.{Pending, New}
use Rattle.pool_config.specs.declared.compiled.CompiledPool.{CompiledPool}
use Rattle.alloc_book.specs.Asking.{Asker, Offer, asked_in}
use Rattle.claim_index.specs.Claims.{Holders}
use Rattle.mlb_base.specs.Cases.{Case, IsFirst, NoneIs}
use Rattle.alloc_book.specs.Chosen.{asked_pools, AsksAddresses, Gives, IsChosenFor, IsChosen}
use Rattle.mlb_base.specs.Items.{Has}
use Rattle.alloc_book.specs.First.{HasEach, SomeHasEach, record_in, AreFull, AllUsable, IsKept, IsHome}
use Rattle.alloc_book.specs.Granted.{IsTighter, HaveMore}
use Rattle.alloc_book.specs.Usable.{IsUsable, IsUsableOf}
use Rattle.mlb_base.proofs.CaseLaws.{first-none, none-fewer}
use Rattle.alloc_book.proofs.ChosenLaws.{zip-map}

-- a case that holds as before, or doesn't as before
case-on : (W V A B R S : Type 0) → (W → V) → (¬ W → ¬ V) → (W → A → B) → (R → S) → Case W A R → Case V B S
case-on W V A B R S holds fails answer rest c =
    ⊎_elim (λ here. inl (holds here.0, answer here.0 here.1)) (λ there. inr (fails there.0, rest there.1)) c

-- a case that can't have been the one
case-off : (W V A B R S : Type 0) → (A → ⊥) → (¬ W → ¬ V) → (R → S) → Case W A R → Case V B S
case-off W V A B R S never fails rest c =
    ⊎_elim (λ here. absurd (never here.1)) (λ there. inr (fails there.0, rest there.1)) c

same : (W A R S : Type 0) → (R → S) → Case W A R → Case W A S
same W A R S rest c = case-on W W A A R S (λ w. w) (λ n. n) (λ w a. a) rest c

no-first : {X : Type 0} (P : X → Type 0) (xs : List X) → ¬ ((x : X) × IsFirst P xs x) → NoneIs P xs
no-first P [] none = tt
no-first P (z ∷ zs) none =
    let not_here : ¬ (P z) = λ p. none (z, inl (p, refl)) in
    (not_here, no-first P zs (λ found. none (found.0, inr (not_here, found.1))))

-- what holds of more is so of some item where what holds of fewer is
has-more : {X : Type 0} (P Q : X → Type 0) (xs : List X) → ((x : X) → P x → Q x) → Has P xs → Has Q xs
has-more P Q [] more has = has
has-more P Q (z ∷ zs) more has = ⊎_elim (λ here. inl (more z here)) (λ later. inr (has-more P Q zs more later)) has

module _ (before after : Holders) (o : Offer) (q : Asker) (tighter : IsTighter q.key q.terms before after) where
  usable_before : (pool : CompiledPool) (a : AddressValue) → IsUsable after q.key q.terms pool a → IsUsable before q.key q.terms pool a
  usable_before pool a u = record { in_pool = u.in_pool; not_avoided = u.not_avoided; left = tighter a u.left }

  all_before : (pool : CompiledPool) (addresses : List AddressValue) → AllUsable after q pool addresses → AllUsable before q pool addresses
  all_before pool addresses all a there = usable_before pool a (all a there)

  kept_before : (pool : CompiledPool) → IsKept after o q pool → IsKept before o q pool
  kept_before pool k = record { is_open = k.is_open; fits = k.fits; usable = all_before pool q.recorded k.usable; as_asked = k.as_asked }

  each_before : (families : List Family) (pool : CompiledPool) → HasEach after q families pool → HasEach before q families pool
  each_before families pool h = (
    h.0,
    zip-map (IsUsableOf after q.key q.terms pool) (IsUsableOf before q.key q.terms pool) families h.0 (λ family a u. (u.0, usable_before pool a u.1))
        h.1,
  )

  some_before : (pools : List CompiledPool) (families : List Family) → SomeHasEach after q pools families → SomeHasEach before q pools families
  some_before pools families some = has-more (HasEach after q families) (HasEach before q families) pools (each_before families) some

  full_after : (pools : List CompiledPool) → AreFull before q pools → AreFull after q pools
  full_after pools full = none-fewer (SomeHasEach before q pools) (SomeHasEach after q pools) q.options (some_before pools) full

  not_kept_after : ¬ ((pool : CompiledPool) × IsFirst (IsKept before o q) o.pools pool) → ¬ ((pool : CompiledPool) × IsFirst (IsKept after o q) o.pools pool)
  not_kept_after none found =
      first-none (IsKept after o q) o.pools found.0 found.1
      (none-fewer (IsKept before o q) (IsKept after o q) o.pools kept_before (no-first (IsKept before o q) o.pools none))

  gives_after : (pools : List CompiledPool) (reason r : Reason) → Gives before q pools reason (Pending r) → Gives after q pools reason (Pending r)
  gives_after pools reason r gives =
      ⊎_elim (λ given. let is = given.2 in absurd (cc)) (λ full. inr (full_after pools full.0, full.1)) gives

  unusable_after : AsksAddresses q × ((pool : CompiledPool) × IsFirst (IsHome o q) o.pools pool × ¬ (AllUsable before q pool (asked_in q.wanted)))
      → AsksAddresses q × ((pool : CompiledPool) × IsFirst (IsHome o q) o.pools pool × ¬ (AllUsable after q pool (asked_in q.wanted)))
  unusable_after u = (u.0, (u.1.0, u.1.1, λ all. u.1.2 (all_before u.1.0 (asked_in q.wanted) all)))

  -- cases 9 and 10: an address may come to be unusable, but then it was chosen before
  nine_ten : (r : Reason) (R S : Type 0) → (R → S)
      → Case (AsksAddresses q × ((pool : CompiledPool) × IsFirst (IsHome o q) o.pools pool × ¬ (AllUsable before q pool (asked_in q.wanted))))
      (Pending r ≡ Pending AddressUnusable)
      (Case (AsksAddresses q) ((pool : CompiledPool) × IsFirst (IsHome o q) o.pools pool × AllUsable before q pool (asked_in q.wanted)
      × (Pending r ≡ New (record_in pool q (asked_in q.wanted)))) R)
      → Case (AsksAddresses q × ((pool : CompiledPool) × IsFirst (IsHome o q) o.pools pool × ¬ (AllUsable after q pool (asked_in q.wanted))))
      (Pending r ≡ Pending AddressUnusable)
      (Case (AsksAddresses q) ((pool : CompiledPool) × IsFirst (IsHome o q) o.pools pool × AllUsable after q pool (asked_in q.wanted)
      × (Pending r ≡ New (record_in pool q (asked_in q.wanted)))) S)
  nine_ten r R S rest c =
      ⊎_elim
      (λ here. inl (unusable_after here.0, here.1))
      (λ there. ⊎_elim
      (λ home. let is = home.1.3 in absurd (cc))
      (λ more. inr (λ w. more.0 w.0, inr (more.0, rest more.1)))
      there.1)
      c

  -- what is pending stays so, for the same reason
  pub pending_for-stays : (class : Option (List ℕ)) (service : Service) (r : Reason) → IsChosenFor before o class service q (Pending r)
      → IsChosenFor after o class service q (Pending r)
  pending_for-stays class service r =
      same _ _ _ _ (same _ _ _ _ (same _ _ _ _ (same _ _ _ _ (same _ _ _ _ (same _ _ _ _
      (case-off _ _ _ _ _ _ (λ kept. let is = kept.2 in absurd (cc)) not_kept_after
      (same _ _ _ _
      (nine_ten r _ _
      (case-on _ _ _ _ _ _ (λ w. w) (λ n. n) (λ _ gives. gives_after (asked_pools o q) PoolExhausted r gives)
      (same _ _ _ _ (λ gives. gives_after o.eligible Exhausted r gives)))))))))))

pub more-tighter : (key : Key) (terms : Terms) (before after : Holders) → HaveMore key before after → IsTighter key terms before after
more-tighter key terms before after more a left other apart r there has = left other apart r (more other apart r there) has

-- holders that are equal key by key are equal, and so whatever is said of them
pub holders-same : (has has' : Holders) → ((key : Key) → has key ≡ has' key) → has ≡ has'
holders-same has has' each = λ i key. each key i

pub chosen-by : (has has' : Holders) (o : Offer) (class : Option (List ℕ)) (service : Service) (c : Choice) → ((key : Key) → has key ≡ has' key)
    → IsChosen has o class service c → IsChosen has' o class service c
chosen-by has has' o class service c each = subst (λ h. IsChosen h o class service c) (holders-same has has' each)
