-- What a search among objects in order finds, and what an edit there makes of the list.
use Rattle.std.proofs.Common.{◌≡◌, ℕ, zero, suc, ◌+◌, ◌<◌, false, List, [], ◌∷◌, length, get_or, set, Some, None}
use Rattle.std.proofs.Common.{Result, Ok, Err, IfOk, IfErr, Less, Equal, Greater, refl, ap, subst, ◌∙◌, arith}
use Rattle.std.specs.Cmp.{tied_itself}
use Rattle.std.specs.List.{AllByRecursion, insert, remove}
use Rattle.std.specs.List.Sorted.{IsStrictlySortedBy, IsSearchInRange, IsBinarySearchResult, IsSortedBy}
use Rattle.std.specs.Ordering.{ordering_reverse, is_lt}
use Rattle.std.proofs.lemmas.List.Sorted.{searchable_from_sorted}
use Rattle.status_store.specs.declared.stored.Stored.{Stored}
use Rattle.status_store.specs.Places.{Place, place_of, place_cmp}
use Rattle.status_store.specs.Objects.{places_of, IsAscending, stored_at, with_stored, without_stored, IsAt, IsGapFor}
use Rattle.status_store.proofs.PlaceLaws.{place_cmp-total, place_cmp-exact}

-- what holds of each place holds of that of each object
at_place : (P : Place → Type 0) (objects : List Stored) (at : ℕ) (d : Stored) → AllByRecursion P (places_of objects) → at < length objects
    → P (place_of (get_or objects at d).object)
at_place P [] at d all lt = absurd (omega arith)
at_place P (held ∷ more) zero d all lt = all.0
at_place P (held ∷ more) (suc at) d all lt = at_place P more at d all.1 (omega arith)

flip_less : (a b : Place) → place_cmp a b ≡ Less → place_cmp b a ≡ Greater
flip_less a b e = place_cmp-total.antisymm b a ∙ ap ordering_reverse e

flip_greater : (a b : Place) → place_cmp a b ≡ Greater → place_cmp b a ≡ Less
flip_greater a b e = place_cmp-total.antisymm b a ∙ ap ordering_reverse e

-- each object is below the next
next_above : (objects : List Stored) (k : ℕ) (d : Stored) → IsAscending objects → suc k < length objects
    → place_cmp (place_of (get_or objects k d).object) (place_of (get_or objects (suc k) d).object) ≡ Less
unfolding IsStrictlySortedBy
next_above [] k d s lt = absurd (omega arith)
next_above (held ∷ more) zero d s lt = at_place (λ y. place_cmp (place_of held.object) y ≡ Less) more zero d s.0 (omega arith)
next_above (held ∷ more) (suc k) d s lt = next_above more k d s.1 (omega arith)

not_below : (a b : Place) → place_cmp a b ≡ Less → is_lt (place_cmp b a) ≡ false
not_below a b e = ap is_lt (flip_less a b e)

pub searched : (objects : List Stored) (place : Place) (r : Result ℕ ℕ) → IsAscending objects → IsSearchInRange r (length objects)
    → IsBinarySearchResult (λ held. place_cmp (place_of held.object) place) objects r → IfOk r (IsAt objects place) × IfErr r (IsGapFor objects place)
searched objects place (Ok at) s in_range found =
    (record { in_range = in_range; there = λ d. place_cmp-exact (place_of (get_or objects at d).object) place (found d) }, tt)
searched objects place (Err at) s in_range parted =
    let sorted : IsSortedBy (λ a b. is_lt (place_cmp (place_of a.object) (place_of b.object))) objects =
    λ k d low high.
    let less = next_above objects k d s (omega arith) in
    not_below (place_of (get_or objects k d).object) (place_of (get_or objects (k + 1) d).object)
    (subst (λ (j : ℕ). place_cmp (place_of (get_or objects k d).object) (place_of (get_or objects j d).object) ≡ Less) {x = suc k} (omega arith) less) in
    let point = parted (searchable_from_sorted place_cmp-total (λ (held : Stored). place_of held.object) objects place sorted) in
    (tt, record { in_range = in_range; below = point.0; above = point.1 })

-- ---- the object stands there

at_tail : (held : Stored) (more : List Stored) (place : Place) (at : ℕ) → IsAt (held ∷ more) place (suc at) → IsAt more place at
at_tail held more place at is_at = record { in_range = omega (arith, is_at.in_range); there = is_at.there }

-- the objects ahead of it are below it
ahead : (held : Stored) (more : List Stored) (place : Place) (at : ℕ) → IsAscending (held ∷ more) → IsAt (held ∷ more) place (suc at)
    → place_cmp place (place_of held.object) ≡ Greater
unfolding IsStrictlySortedBy
ahead held more place at s is_at =
    let less = at_place (λ y. place_cmp (place_of held.object) y ≡ Less) more at held s.0 (omega (arith, is_at.in_range)) in
    flip_less (place_of held.object) place (subst (λ (y : Place). place_cmp (place_of held.object) y ≡ Less) (is_at.there held) less)

tail-ascends : (held : Stored) (more : List Stored) → IsAscending (held ∷ more) → IsAscending more
unfolding IsStrictlySortedBy
tail-ascends held more s = s.1

equal : (held : Stored) (more : List Stored) (place : Place) → IsAt (held ∷ more) place zero → place_cmp place (place_of held.object) ≡ Equal
equal held more place is_at = ap (λ (p : Place). place_cmp place p) (is_at.there held) ∙ tied_itself place_cmp-total place

pub with_stored-at : (objects : List Stored) (place : Place) (at : ℕ) (added : Stored) → IsAscending objects → IsAt objects place at
    → place_of added.object ≡ place
    → with_stored added objects ≡ set objects at added
with_stored-at [] place at added s is_at same = absurd (omega (arith, is_at.in_range))
with_stored-at (held ∷ more) place zero added s is_at same =
    let e : place_cmp (place_of added.object) (place_of held.object) ≡ Equal =
    ap (λ (p : Place). place_cmp p (place_of held.object)) same ∙ equal held more place is_at in
    rw e refl
with_stored-at (held ∷ more) place (suc at) added s is_at same =
    let e : place_cmp (place_of added.object) (place_of held.object) ≡ Greater =
    ap (λ (p : Place). place_cmp p (place_of held.object)) same ∙ ahead held more place at s is_at in
    rw e (ap (λ (l : List Stored). held ∷ l) (with_stored-at more place at added (tail-ascends held more s) (at_tail held more place at is_at) same))

pub without_stored-at : (objects : List Stored) (place : Place) (at : ℕ) → IsAscending objects → IsAt objects place at
    → without_stored place objects ≡ remove objects at
without_stored-at [] place at s is_at = absurd (omega (arith, is_at.in_range))
without_stored-at (held ∷ more) place zero s is_at = rw (equal held more place is_at) refl
without_stored-at (held ∷ more) place (suc at) s is_at =
    rw (ahead held more place at s is_at)
    (ap (λ (l : List Stored). held ∷ l) (without_stored-at more place at (tail-ascends held more s) (at_tail held more place at is_at)))

pub stored_at-at : (objects : List Stored) (place : Place) (at : ℕ) (d : Stored) → IsAscending objects → IsAt objects place at
    → stored_at objects place ≡ Some (get_or objects at d)
stored_at-at [] place at d s is_at = absurd (omega (arith, is_at.in_range))
stored_at-at (held ∷ more) place zero d s is_at = rw (equal held more place is_at) refl
stored_at-at (held ∷ more) place (suc at) d s is_at =
    rw (ahead held more place at s is_at) (stored_at-at more place at d (tail-ascends held more s) (at_tail held more place at is_at))

-- ---- it would stand there

gap_tail : (held : Stored) (more : List Stored) (place : Place) (at : ℕ) → IsGapFor (held ∷ more) place (suc at) → IsGapFor more place at
gap_tail held more place at gap = record {
  in_range = omega (arith, gap.in_range);
  below = λ k d low high. gap.below (suc k) d (omega arith) (omega arith);
  above = λ k d low high. gap.above (suc k) d (omega arith) (omega arith);
}

below_head : (held : Stored) (more : List Stored) (place : Place) (at : ℕ) → IsGapFor (held ∷ more) place (suc at)
    → place_cmp place (place_of held.object) ≡ Greater
below_head held more place at gap = flip_less (place_of held.object) place (gap.below zero held (omega arith) (omega arith))

above_head : (held : Stored) (more : List Stored) (place : Place) → IsGapFor (held ∷ more) place zero → place_cmp place (place_of held.object) ≡ Less
above_head held more place gap = flip_greater (place_of held.object) place (gap.above zero held (omega arith) (omega arith))

pub with_stored-gap : (objects : List Stored) (place : Place) (at : ℕ) (added : Stored) → IsGapFor objects place at → place_of added.object ≡ place
    → with_stored added objects ≡ insert objects at added
with_stored-gap [] place zero added gap same = refl
with_stored-gap [] place (suc at) added gap same = refl
with_stored-gap (held ∷ more) place zero added gap same =
    let e : place_cmp (place_of added.object) (place_of held.object) ≡ Less =
    ap (λ (p : Place). place_cmp p (place_of held.object)) same ∙ above_head held more place gap in
    rw e refl
with_stored-gap (held ∷ more) place (suc at) added gap same =
    let e : place_cmp (place_of added.object) (place_of held.object) ≡ Greater =
    ap (λ (p : Place). place_cmp p (place_of held.object)) same ∙ below_head held more place at gap in
    rw e (ap (λ (l : List Stored). held ∷ l) (with_stored-gap more place at added (gap_tail held more place at gap) same))

gap_rest : (held : Stored) (more : List Stored) (place : Place) → IsGapFor (held ∷ more) place zero → IsGapFor more place zero
gap_rest held more place gap = record {
  in_range = omega arith;
  below = λ k d low high. absurd (omega arith);
  above = λ k d low high. gap.above (suc k) d (omega arith) (omega arith);
}

pub stored_at-gap : (objects : List Stored) (place : Place) (at : ℕ) → IsGapFor objects place at → stored_at objects place ≡ None
stored_at-gap [] place at gap = refl
stored_at-gap (held ∷ more) place zero gap = rw (above_head held more place gap) (stored_at-gap more place zero (gap_rest held more place gap))
stored_at-gap (held ∷ more) place (suc at) gap = rw (below_head held more place at gap) (stored_at-gap more place at (gap_tail held more place at gap))

pub without_stored-gap : (objects : List Stored) (place : Place) (at : ℕ) → IsGapFor objects place at → without_stored place objects ≡ objects
without_stored-gap [] place at gap = refl
without_stored-gap (held ∷ more) place zero gap =
    rw (above_head held more place gap) (ap (λ (l : List Stored). held ∷ l) (without_stored-gap more place zero (gap_rest held more place gap)))
without_stored-gap (held ∷ more) place (suc at) gap =
    rw (below_head held more place at gap) (ap (λ (l : List Stored). held ∷ l) (without_stored-gap more place at (gap_tail held more place at gap)))
