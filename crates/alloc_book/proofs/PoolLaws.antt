-- The pool that has one of some addresses is the only one in which all of them may lie.
use Rattle.std.proofs.Common.{◌≡◌, Bool, true, false, cond, ◌&&◌, List, [], ◌∷◌, Option, Some, None, find}
use Rattle.std.proofs.Common.{slice_get, inl, inr, ◌⊎◌, ⊎_elim, refl, sym, ap, ◌∙◌, subst}
use Rattle.std.proofs.lemmas.Bool.{and_parts, true≢false}
use Rattle.std.proofs.lemmas.Option.{slice_get_within, get_or_from_slice_get}
use Rattle.std.proofs.lemmas.List.Elements.{Contains-get_or}
use Rattle.std.specs.List.{Contains, list_all}
use Rattle.ip_ranges.specs.Values.{AddressValue}
use Rattle.mlb_base.specs.Items.{IsIn}
use Rattle.mlb_base.proofs.Among.{all-contains}
use Rattle.pool_config.specs.declared.compiled.CompiledPool.{CompiledPool}
use Rattle.pool_config.specs.PoolOf.{HasAddress}
use Rattle.pool_config.proofs.OnePool.{address-Decides}
use Rattle.alloc_book.specs.Asking.{Asker, Offer, asked_in}
use Rattle.alloc_book.specs.Choose.{is_kept, is_home, is_open, fits_option, all_usable}
use Rattle.claim_index.specs.Claims.{ClaimValue}
use Rattle.alloc_book.specs.Search.{usable}
use Rattle.claim_index.specs.Reading.{leaves}
use Rattle.alloc_book.specs.Usable.{is_in}

-- ---- the only one that passes
module _ {X : Type 0} (test : X → Bool) where
  -- where one passes, it is this one
  abbrev pub IsOnly : Option X → List X → Type 0
  IsOnly one xs = (x : X) → IsIn xs x → test x ≡ true → one ≡ Some x

  none-by : (y : X) (ys : List X) (b : Bool) → test y ≡ b → IsOnly None (y ∷ ys) → find test ys ≡ None → cond b (Some y) (find test ys) ≡ None
  none-by y ys true e only rest = let wrong : None ≡ Some y = only y (inl refl) e in absurd (cc)
  none-by y ys false e only rest = rest

  pub find-none : (xs : List X) → IsOnly None xs → find test xs ≡ None
  find-none [] only = refl
  find-none (y ∷ ys) only = none-by y ys (test y) refl only (find-none ys (λ x there passes. only x (inr there) passes))

  pub find-fails : (z : X) (xs : List X) → test z ≡ false → IsOnly (Some z) xs → find test xs ≡ None
  find-fails z xs fails only = find-none xs (λ x there passes.
      let same : Some z ≡ Some x = only x there passes in
      let is : z ≡ x = cc in
      absurd (true≢false (sym passes ∙ ap test (sym is) ∙ fails)))

  here-by : (z y : X) (ys : List X) (b : Bool) → test y ≡ b → test z ≡ true → (y ≡ z) ⊎ IsIn ys z → IsOnly (Some z) (y ∷ ys)
      → (IsIn ys z → find test ys ≡ Some z)
      → cond b (Some y) (find test ys) ≡ Some z
  here-by z y ys true e passes there only rest = sym (only y (inl refl) e)
  here-by z y ys false e passes there only rest =
      ⊎_elim (λ (same : y ≡ z). absurd (true≢false (sym passes ∙ ap test (sym same) ∙ e))) (λ later. rest later) there

  pub find-here : (z : X) (xs : List X) → test z ≡ true → IsIn xs z → IsOnly (Some z) xs → find test xs ≡ Some z
  find-here z [] passes there only = absurd there
  find-here z (y ∷ ys) passes there only =
      here-by z y ys (test y) refl passes there only (λ later. find-here z ys passes later (λ x among passes_too. only x (inr among) passes_too))

-- ---- the first address
first-in : (addresses : List AddressValue) (a : AddressValue) → Some a ≡ slice_get addresses 0 → Contains addresses a
first-in addresses a e =
    subst (Contains addresses) (get_or_from_slice_get addresses 0 a a (sym e)) (Contains-get_or addresses 0 a (slice_get_within addresses 0 a (sym e)))

-- a pool in which the recorded addresses may stay has each of them
kept-has : (claims : List ClaimValue) (o : Offer) (q : Asker) (pool : CompiledPool) (a : AddressValue) → Contains q.recorded a → is_kept claims o q pool ≡ true
    → HasAddress a pool
kept-has claims o q pool a there kept =
    let three = and_parts (is_open o q pool && fits_option q q.recorded && all_usable claims q pool q.recorded) _ kept in
    let all = (and_parts (is_open o q pool && fits_option q q.recorded) (all_usable claims q pool q.recorded) three.0).1 in
    let used = all-contains (usable claims q.key q.terms pool) q.recorded a all there in
    let two = and_parts (is_in pool a && _) (list_all (leaves q.key q.terms a) claims) used in
    (address-Decides a pool).0 (and_parts (is_in pool a) _ two.0).0

home-has : (o : Offer) (q : Asker) (pool : CompiledPool) (a : AddressValue) → Contains (asked_in q.wanted) a → is_home o q pool ≡ true → HasAddress a pool
home-has o q pool a there home =
    let all = (and_parts (is_open o q pool) (list_all (is_in pool) (asked_in q.wanted)) home).1 in
    (address-Decides a pool).0 (all-contains (is_in pool) (asked_in q.wanted) a all there)

module _ (pools : List CompiledPool) (a : AddressValue) (one : Option CompiledPool)
    (only : (pool : CompiledPool) → IsIn pools pool → HasAddress a pool → one ≡ Some pool) where
  pub only-kept : (claims : List ClaimValue) (o : Offer) (q : Asker) → Some a ≡ slice_get q.recorded 0 → IsOnly (is_kept claims o q) one pools
  only-kept claims o q first pool there kept = only pool there (kept-has claims o q pool a (first-in q.recorded a first) kept)

  pub only-home : (o : Offer) (q : Asker) → Some a ≡ slice_get (asked_in q.wanted) 0 → IsOnly (is_home o q) one pools
  only-home o q first pool there home = only pool there (home-has o q pool a (first-in (asked_in q.wanted) a first) home)
