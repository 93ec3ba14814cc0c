-- What the search for a new record finds, and what it leaves out.
use Rattle.std.proofs.Common.{◌≡◌, List, [], ◌∷◌, Option, Some, None, option_map, inl, inr, refl, sym, subst, ⊎_elim}
use Rattle.std.specs.List.{AllZip}
use Rattle.ip_ranges.specs.declared.family.Family.{Family}
use Rattle.ip_ranges.specs.Values.{AddressValue}
use Rattle.kube_model.specs.declared.reason.Reason.{Reason}
use Rattle.kube_model.specs.declared.record.Record.{Record}
use Rattle.pool_config.specs.declared.compiled.CompiledPool.{CompiledPool}
use Rattle.alloc_book.specs.Asking.{Asker}
use Rattle.alloc_book.specs.Chosen.{Gives}
use Rattle.alloc_book.specs.Choose.{new_or}
use Rattle.claim_index.specs.Claims.{ClaimValue, holders}
use Rattle.mlb_base.specs.Cases.{IsFirst, NoneIs}
use Rattle.mlb_base.specs.Items.{Has}
use Rattle.alloc_book.specs.First.{HasEach, SomeHasEach, IsLeastOfEach, record_in}
use Rattle.alloc_book.specs.Least.{IsLeast}
use Rattle.alloc_book.specs.Search.{least_usable, least_each, both, first_pool, first_of, first_option, or_else}
use Rattle.alloc_book.specs.Usable.{IsUsableOf}
use Rattle.alloc_book.proofs.ChosenLaws.{zip-map}
use Rattle.alloc_book.proofs.LeastLaws.{least_usable-is, least_usable-none}

-- what is the first of a list is among it
first-has : {X : Type 0} (P : X → Type 0) (xs : List X) (x : X) → IsFirst P xs x → Has P xs
first-has P [] x p = absurd p
first-has P (z ∷ zs) x p = ⊎_elim (λ here. inl here.0) (λ there. inr (first-has P zs x there.1)) p

none-has : {X : Type 0} (P : X → Type 0) (xs : List X) → NoneIs P xs → Has P xs → ⊥
none-has P [] none has = has
none-has P (z ∷ zs) none has = ⊎_elim (λ here. none.0 here) (λ later. none-has P zs none.1 later) has

module _ (claims : List ClaimValue) (q : Asker) where
  both_found : (here : Option AddressValue) (rest : Option (List AddressValue)) (pool : CompiledPool) (family : Family) (families : List Family)
      (addresses : List AddressValue)
      → here ≡ least_usable claims q.key q.terms pool family
      → ((more : List AddressValue) → rest ≡ Some more → AllZip (IsLeast (holders claims) q.key q.terms pool) families more)
      → both here rest ≡ Some addresses → AllZip (IsLeast (holders claims) q.key q.terms pool) (family ∷ families) addresses
  both_found None rest pool family families addresses is ih e = absurd (cc)
  both_found (Some a) None pool family families addresses is ih e = absurd (cc)
  both_found (Some a) (Some more) pool family families addresses is ih e =
      let all : (a ∷ more) ≡ addresses = cc in
      subst (AllZip (IsLeast (holders claims) q.key q.terms pool) (family ∷ families)) all (
        least_usable-is claims q.key q.terms pool family (Some a) is,
        ih more refl,
      )

  least_each-found : (families : List Family) (pool : CompiledPool) (addresses : List AddressValue)
      → least_each claims q.key q.terms pool families ≡ Some addresses → AllZip (IsLeast (holders claims) q.key q.terms pool) families addresses
  least_each-found [] pool [] e = tt
  least_each-found [] pool (a ∷ addresses) e = absurd (cc)
  least_each-found (family ∷ families) pool addresses e =
      both_found (least_usable claims q.key q.terms pool family) (least_each claims q.key q.terms pool families) pool family families addresses refl
      (λ more is. least_each-found families pool more is) e

  none_found : (here : Option AddressValue) (rest : Option (List AddressValue)) (pool : CompiledPool) (family : Family) (families : List Family)
      (addresses : List AddressValue)
      → here ≡ least_usable claims q.key q.terms pool family
      → (rest ≡ None → (more : List AddressValue) → ¬ (AllZip (IsUsableOf (holders claims) q.key q.terms pool) families more))
      → both here rest ≡ None → ¬ (AllZip (IsUsableOf (holders claims) q.key q.terms pool) (family ∷ families) addresses)
  none_found here rest pool family families [] is ih e = λ z. z
  none_found None rest pool family families (b ∷ addresses) is ih e = λ z. least_usable-none claims q.key q.terms pool family None is b z.0
  none_found (Some a) None pool family families (b ∷ addresses) is ih e = λ z. ih refl addresses z.1
  none_found (Some a) (Some more) pool family families (b ∷ addresses) is ih e = absurd (cc)

  least_each-none : (families : List Family) (pool : CompiledPool) (addresses : List AddressValue) → least_each claims q.key q.terms pool families ≡ None
      → ¬ (AllZip (IsUsableOf (holders claims) q.key q.terms pool) families addresses)
  least_each-none [] pool addresses e = absurd (cc)
  least_each-none (family ∷ families) pool addresses e =
      none_found (least_usable claims q.key q.terms pool family) (least_each claims q.key q.terms pool families) pool family families addresses refl
      (λ is more. least_each-none families pool more is) e

  least-usables : (families : List Family) (pool : CompiledPool) (addresses : List AddressValue)
      → AllZip (IsLeast (holders claims) q.key q.terms pool) families addresses → HasEach (holders claims) q families pool
  least-usables families pool addresses z = (
    addresses,
    zip-map (IsLeast (holders claims) q.key q.terms pool) (IsUsableOf (holders claims) q.key q.terms pool) families addresses
        (λ family a least. least.0) z,
  )

  found_in : (families : List Family) (found : Option (List AddressValue)) (pool : CompiledPool) (pools : List CompiledPool) (rest : Option Record) (r : Record)
      → found ≡ least_each claims q.key q.terms pool families → (rest ≡ Some r → IsLeastOfEach (holders claims) q pools families r)
      → or_else (option_map (record_in pool q) found) rest ≡ Some r → IsLeastOfEach (holders claims) q (pool ∷ pools) families r
  found_in families (Some addresses) pool pools rest r is ih e =
      let it : record_in pool q addresses ≡ r = cc in
      let least = least_each-found families pool addresses (sym is) in
      subst (IsLeastOfEach (holders claims) q (pool ∷ pools) families) it (pool, inl (least-usables families pool addresses least, refl), least, refl)
  found_in families None pool pools rest r is ih e =
      let later = ih e in
      (later.0, inr (λ each. least_each-none families pool each.0 (sym is) each.1, later.1), later.2, later.3)

  first_pool-found : (families : List Family) (pools : List CompiledPool) (r : Record) → first_pool claims q families pools ≡ Some r
      → IsLeastOfEach (holders claims) q pools families r
  first_pool-found families [] r e = absurd (cc)
  first_pool-found families (pool ∷ pools) r e =
      found_in families (least_each claims q.key q.terms pool families) pool pools (first_pool claims q families pools) r refl
      (first_pool-found families pools r) e

  none_in : (families : List Family) (found : Option (List AddressValue)) (pool : CompiledPool) (pools : List CompiledPool) (rest : Option Record)
      → found ≡ least_each claims q.key q.terms pool families → (rest ≡ None → NoneIs (HasEach (holders claims) q families) pools)
      → or_else (option_map (record_in pool q) found) rest ≡ None → NoneIs (HasEach (holders claims) q families) (pool ∷ pools)
  none_in families (Some addresses) pool pools rest is ih e = absurd (cc)
  none_in families None pool pools rest is ih e = (λ each. least_each-none families pool each.0 (sym is) each.1, ih e)

  first_pool-none : (families : List Family) (pools : List CompiledPool) → first_pool claims q families pools ≡ None
      → NoneIs (HasEach (holders claims) q families) pools
  first_pool-none families [] e = tt
  first_pool-none families (pool ∷ pools) e =
      none_in families (least_each claims q.key q.terms pool families) pool pools (first_pool claims q families pools) refl (first_pool-none families pools) e

  -- the first of the options for which a pool has one of each
  module _ (pools : List CompiledPool) where
    abbrev IsFound : List (List Family) → Record → Type 0
    IsFound options r =
        (families : List Family) × IsFirst (SomeHasEach (holders claims) q pools) options families × IsLeastOfEach (holders claims) q pools families r

    option_found : (families : List Family) (found : Option Record) (options : List (List Family)) (rest : Option Record) (r : Record)
        → found ≡ first_pool claims q families pools → (rest ≡ Some r → IsFound options r) → or_else found rest ≡ Some r → IsFound (families ∷ options) r
    option_found families (Some s) options rest r is ih e =
        let it : s ≡ r = cc in
        let least = first_pool-found families pools s (sym is) in (
          families,
          inl (first-has (HasEach (holders claims) q families) pools least.0 least.1, refl),
          subst (IsLeastOfEach (holders claims) q pools families) it least,
        )
    option_found families None options rest r is ih e =
        let later = ih e in
        (later.0, inr (none-has (HasEach (holders claims) q families) pools (first_pool-none families pools (sym is)), later.1), later.2)

    first_of-found : (options : List (List Family)) (r : Record) → first_of claims q pools options ≡ Some r → IsFound options r
    first_of-found [] r e = absurd (cc)
    first_of-found (families ∷ options) r e =
        option_found families (first_pool claims q families pools) options (first_of claims q pools options) r refl (first_of-found options r) e

    option_none : (families : List Family) (found : Option Record) (options : List (List Family)) (rest : Option Record)
        → found ≡ first_pool claims q families pools → (rest ≡ None → NoneIs (SomeHasEach (holders claims) q pools) options)
        → or_else found rest ≡ None → NoneIs (SomeHasEach (holders claims) q pools) (families ∷ options)
    option_none families (Some s) options rest is ih e = absurd (cc)
    option_none families None options rest is ih e = (none-has (HasEach (holders claims) q families) pools (first_pool-none families pools (sym is)), ih e)

    first_of-none : (options : List (List Family)) → first_of claims q pools options ≡ None → NoneIs (SomeHasEach (holders claims) q pools) options
    first_of-none [] e = tt
    first_of-none (families ∷ options) e =
        option_none families (first_pool claims q families pools) options (first_of claims q pools options) refl (first_of-none options) e

    gives_by : (found : Option Record) (reason : Reason) → found ≡ first_option claims q pools → Gives (holders claims) q pools reason (new_or reason found)
    gives_by (Some r) reason is = inl (r, first_of-found q.options r (sym is), refl)
    gives_by None reason is = inr (first_of-none q.options (sym is), refl)

  pub gives-is : (pools : List CompiledPool) (reason : Reason) → Gives (holders claims) q pools reason (new_or reason (first_option claims q pools))
  gives-is pools reason = gives_by pools (first_option claims q pools) reason refl
