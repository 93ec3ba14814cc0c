-- Entries that are sorted are the places of the pools that are sorted.
use Rattle.std.proofs.Common.{◌≡◌, ℕ, ◌+◌, ◌<◌, ◌≤◌, Bool, true, false, cond, length, List, [], ◌∷◌, ◌++◌, map, filter, slice_get}
use Rattle.std.proofs.Common.{Option, Some, Less, Equal, refl, sym, ap, ◌∙◌, subst, arith, append_assoc, length-append}
use Rattle.std.specs.Cmp.{nat_cmp_is}
use Rattle.std.specs.List.{AllByRecursion, AllZip}
use Rattle.std.specs.List.Sorted.{IsStrictlySortedBy}
use Rattle.std.specs.Ordering.{nat_cmp, is_lt}
use Rattle.mlb_base.proofs.Orders.{both_equal}
use Rattle.kube_labels.specs.Names.{name_cmp}
use Rattle.kube_model.specs.declared.service.Service.{Service}
use Rattle.pool_config.specs.declared.compiled.CompiledPool.{CompiledPool}
use Rattle.pool_choice.specs.declared.choice.RankedPool.{RankedPool}
use Rattle.pool_choice.specs.Eligible.{is_offered, ranked_from, ranked_cmp}
use Rattle.pool_choice.specs.Rank.{rank_of, rank_cmp, pool_cmp}
use Rattle.pool_choice.specs.Sorted.{placed, sorted}
use Rattle.pool_choice.proofs.SortLaws.{AreApart, all-map, all-sorted}

-- names ascend along the pools
abbrev pub NamesAscend : List CompiledPool → Type 0
NamesAscend [] = Unit {0}
NamesAscend (p ∷ pools) = AllByRecursion (λ q. name_cmp p.name q.name ≡ Less) pools × NamesAscend pools

names-all : (p : CompiledPool) (pools : List CompiledPool) → AllByRecursion (λ n. name_cmp p.name n ≡ Less) (map (λ q. q.name) pools)
    → AllByRecursion (λ q. name_cmp p.name q.name ≡ Less) pools
names-all p [] all = tt
names-all p (q ∷ pools) all = (all.0, names-all p pools all.1)

pub names-ascend : (pools : List CompiledPool) → IsStrictlySortedBy name_cmp (map (λ p. p.name) pools) → NamesAscend pools
unfolding IsStrictlySortedBy
names-ascend [] up = tt
names-ascend (p ∷ pools) up = (names-all p pools up.0, names-ascend pools up.1)

module _ (service : Service) (labels : List (List ℕ × List ℕ)) where
  offered_all_by : (b : Bool) (P : CompiledPool → Type 0) (p : CompiledPool) (less : List CompiledPool) → P p → AllByRecursion P less
      → AllByRecursion P (cond b (p ∷ less) less)
  offered_all_by true P p less here rest = (here, rest)
  offered_all_by false P p less here rest = rest

  offered-all : (P : CompiledPool → Type 0) (pools : List CompiledPool) → AllByRecursion P pools → AllByRecursion P (filter (is_offered service labels) pools)
  offered-all P [] all = tt
  offered-all P (p ∷ pools) all = offered_all_by (is_offered service labels p) P p (filter (is_offered service labels) pools) all.0 (offered-all P pools all.1)

  offered_ascend_by : (b : Bool) (p : CompiledPool) (less : List CompiledPool) → AllByRecursion (λ q. name_cmp p.name q.name ≡ Less) less → NamesAscend less
      → NamesAscend (cond b (p ∷ less) less)
  offered_ascend_by true p less all up = (all, up)
  offered_ascend_by false p less all up = up

  -- so they do along those that are offered
  pub offered-ascend : (pools : List CompiledPool) → NamesAscend pools → NamesAscend (filter (is_offered service labels) pools)
  offered-ascend [] up = tt
  offered-ascend (p ∷ pools) up =
      offered_ascend_by (is_offered service labels p) p (filter (is_offered service labels) pools) (offered-all (λ q. name_cmp p.name q.name ≡ Less) pools up.0)
      (offered-ascend pools up.1)

  from_by : (b : Bool) (e : RankedPool) (n : ℕ) (less : List RankedPool) → n ≤ e.place → AllByRecursion (λ f. n ≤ f.place) less
      → AllByRecursion (λ f. n ≤ f.place) (cond b (e ∷ less) less)
  from_by true e n less here rest = (here, rest)
  from_by false e n less here rest = rest

  ranked-from : (pools : List CompiledPool) (n m : ℕ) → n ≤ m → AllByRecursion (λ f. n ≤ f.place) (ranked_from service labels m pools)
  ranked-from [] n m le = tt
  ranked-from (p ∷ pools) n m le =
      from_by (is_offered service labels p) (record { rank = rank_of p; place = m }) n (ranked_from service labels (m + 1) pools) le
      (ranked-from pools n (m + 1) (omega arith))

  tied_by : (e f : RankedPool) → e.place < f.place → ranked_cmp e f ≡ Equal → ⊥
  tied_by e f lt tied =
      let places = (both_equal (rank_cmp e.rank f.rank) (nat_cmp e.place f.place) tied).1 in
      let less : Less ≡ nat_cmp e.place f.place = nat_cmp_is e.place f.place Less lt in
      cc

  apart_by : (b : Bool) (e : RankedPool) (less : List RankedPool) → AllByRecursion (λ f. e.place < f.place) less → AreApart ranked_cmp less
      → AreApart ranked_cmp (cond b (e ∷ less) less)
  apart_by true e less above rest = (
    all-map (λ (f : RankedPool). e.place < f.place) (λ f. ranked_cmp e f ≡ Equal → ⊥) less
        (λ f lt. tied_by e f lt) above,
    rest,
  )
  apart_by false e less above rest = rest

  -- no two ranked pools are tied
  pub ranked-apart : (pools : List CompiledPool) (m : ℕ) → AreApart ranked_cmp (ranked_from service labels m pools)
  ranked-apart [] m = tt
  ranked-apart (p ∷ pools) m =
      apart_by (is_offered service labels p) (record { rank = rank_of p; place = m }) (ranked_from service labels (m + 1) pools)
      (all-map (λ (f : RankedPool). m + 1 ≤ f.place) (λ f. m < f.place) (ranked_from service labels (m + 1) pools) (λ f le. omega (arith, le))
      (ranked-from pools (m + 1) (m + 1) (omega arith)))
      (ranked-apart pools (m + 1))

-- ---- an entry is that of a pool
module _ (pools : List CompiledPool) where
  abbrev pub IsOf : RankedPool → CompiledPool → Type 0
  IsOf e p = (slice_get pools e.place ≡ Some p) × (e.rank ≡ rank_of p)

  -- where places and names go the same way, ranked pools and pools are compared alike
  same-less : (e f : RankedPool) (p q : CompiledPool) → e.rank ≡ rank_of p → f.rank ≡ rank_of q → e.place < f.place → name_cmp p.name q.name ≡ Less
      → ranked_cmp e f ≡ pool_cmp p q
  same-less e f p q r s lt names =
      let places : nat_cmp e.place f.place ≡ Less = sym (nat_cmp_is e.place f.place Less lt) in
      rw (r, s, places, names) refl

  placed_by : (b : Bool) (e f : RankedPool) (p q : CompiledPool) (es : List RankedPool) (ps : List CompiledPool) → IsOf e p → IsOf f q → AllZip IsOf es ps
      → AllZip IsOf (placed ranked_cmp e es) (placed pool_cmp p ps)
      → AllZip IsOf (cond b (e ∷ f ∷ es) (f ∷ placed ranked_cmp e es)) (cond b (p ∷ q ∷ ps) (q ∷ placed pool_cmp p ps))
  placed_by true e f p q es ps is next all ih = (is, (next, all))
  placed_by false e f p q es ps is next all ih = (next, ih)

  placed-zip : (e : RankedPool) (p : CompiledPool) (es : List RankedPool) (ps : List CompiledPool) → IsOf e p → AllByRecursion (λ f. e.place < f.place) es
      → AllByRecursion (λ q. name_cmp p.name q.name ≡ Less) ps
      → AllZip IsOf es ps → AllZip IsOf (placed ranked_cmp e es) (placed pool_cmp p ps)
  placed-zip e p [] [] is above names all = (is, tt)
  placed-zip e p [] (q ∷ ps) is above names all = absurd all
  placed-zip e p (f ∷ es) [] is above names all = absurd all
  placed-zip e p (f ∷ es) (q ∷ ps) is above names all =
      let same : is_lt (pool_cmp p q) ≡ is_lt (ranked_cmp e f) = ap is_lt (sym (same-less e f p q is.1 all.0.1 above.0 names.0)) in
      rw same (placed_by (is_lt (ranked_cmp e f)) e f p q es ps is all.0 all.1 (placed-zip e p es ps is above.1 names.1 all.1))

  PlacesAscend : List RankedPool → Type 0
  PlacesAscend [] = Unit {0}
  PlacesAscend (e ∷ es) = AllByRecursion (λ f. e.place < f.place) es × PlacesAscend es

  sorted-zip : (es : List RankedPool) (ps : List CompiledPool) → PlacesAscend es → NamesAscend ps → AllZip IsOf es ps
      → AllZip IsOf (sorted ranked_cmp es) (sorted pool_cmp ps)
  unfolding PlacesAscend
  sorted-zip [] [] up names all = tt
  sorted-zip [] (q ∷ ps) up names all = absurd all
  sorted-zip (f ∷ es) [] up names all = absurd all
  sorted-zip (e ∷ es) (p ∷ ps) up names all =
      placed-zip e p (sorted ranked_cmp es) (sorted pool_cmp ps) all.0 (all-sorted ranked_cmp (λ f. e.place < f.place) es up.0)
      (all-sorted pool_cmp (λ q. name_cmp p.name q.name ≡ Less) ps names.0)
      (sorted-zip es ps up.1 names.1 all.1)

  places_by : (b : Bool) (e : RankedPool) (less : List RankedPool) → AllByRecursion (λ f. e.place < f.place) less → PlacesAscend less
      → PlacesAscend (cond b (e ∷ less) less)
  unfolding PlacesAscend
  places_by true e less above rest = (above, rest)
  places_by false e less above rest = rest

  places-ascend : (service : Service) (labels : List (List ℕ × List ℕ)) (ps : List CompiledPool) (m : ℕ) → PlacesAscend (ranked_from service labels m ps)
  unfolding PlacesAscend
  places-ascend service labels [] m = tt
  places-ascend service labels (p ∷ ps) m =
      places_by (is_offered service labels p) (record { rank = rank_of p; place = m }) (ranked_from service labels (m + 1) ps)
      (all-map (λ (f : RankedPool). m + 1 ≤ f.place) (λ f. m < f.place) (ranked_from service labels (m + 1) ps) (λ f le. omega (arith, le))
      (ranked-from service labels ps (m + 1) (m + 1) (omega arith)))
      (places-ascend service labels ps (m + 1))

  got-at : (front : List CompiledPool) (p : CompiledPool) (rest : List CompiledPool) → slice_get (front ++ p ∷ rest) (length front) ≡ Some p
  got-at [] p rest = refl
  got-at (q ∷ front) p rest = got-at front p rest

  zip_by : (b : Bool) (e : RankedPool) (p : CompiledPool) (es : List RankedPool) (ps : List CompiledPool) → IsOf e p → AllZip IsOf es ps
      → AllZip IsOf (cond b (e ∷ es) es) (cond b (p ∷ ps) ps)
  zip_by true e p es ps is all = (is, all)
  zip_by false e p es ps is all = all

  ranked-zip : (service : Service) (labels : List (List ℕ × List ℕ)) (front ps : List CompiledPool) (m : ℕ) → front ++ ps ≡ pools → length front ≡ m
      → AllZip IsOf (ranked_from service labels m ps) (filter (is_offered service labels) ps)
  ranked-zip service labels front [] m split count = tt
  ranked-zip service labels front (p ∷ ps) m split count =
      let got : slice_get pools m ≡ Some p =
      subst (λ n. slice_get pools n ≡ Some p) count (subst (λ (xs : List CompiledPool). slice_get xs (length front) ≡ Some p) split (got-at front p ps)) in
      let longer : length (front ++ p ∷ []) ≡ m + 1 = length-append front (p ∷ []) ∙ omega (arith, count) in
      zip_by (is_offered service labels p) (record { rank = rank_of p; place = m }) p (ranked_from service labels (m + 1) ps)
      (filter (is_offered service labels) ps) (got, refl)
      (ranked-zip service labels (front ++ p ∷ []) ps (m + 1) (append_assoc front (p ∷ []) ps ∙ split) longer)

  zip-got : (es : List RankedPool) (ps : List CompiledPool) → AllZip IsOf es ps → map (slice_get pools) (map (λ e. e.place) es) ≡ map (λ p. Some p) ps
  zip-got [] [] all = refl
  zip-got [] (q ∷ ps) all = absurd all
  zip-got (f ∷ es) [] all = absurd all
  zip-got (e ∷ es) (p ∷ ps) all =
      let first : Option CompiledPool → List (Option CompiledPool) = λ o. o ∷ map (slice_get pools) (map (λ (f : RankedPool). f.place) es) in
      let rest : List (Option CompiledPool) → List (Option CompiledPool) = λ os. Some p ∷ os in
      ap first all.0.0 ∙ ap rest (zip-got es ps all.1)

  -- at the places of the sorted ranked pools are the sorted pools
  pub places-got : (service : Service) (labels : List (List ℕ × List ℕ)) → IsStrictlySortedBy name_cmp (map (λ p. p.name) pools)
      → map (slice_get pools) (map (λ e. e.place) (sorted ranked_cmp (ranked_from service labels 0 pools)))
      ≡ map (λ p. Some p) (sorted pool_cmp (filter (is_offered service labels) pools))
  places-got service labels up =
      zip-got (sorted ranked_cmp (ranked_from service labels 0 pools)) (sorted pool_cmp (filter (is_offered service labels) pools))
      (sorted-zip (ranked_from service labels 0 pools) (filter (is_offered service labels) pools) (places-ascend service labels pools 0)
      (offered-ascend service labels pools (names-ascend pools up))
      (ranked-zip service labels [] pools 0 refl refl))
