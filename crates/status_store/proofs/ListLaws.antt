-- Lists of stored objects as lists of entries by place: what is found where one object was put in or left out, and that they still
-- ascend.
use Rattle.std.proofs.Common.{◌≡◌, ℕ, ◌≤◌, Bool, true, false, cond, List, [], ◌∷◌, Option, Some, None}
use Rattle.std.proofs.Common.{Ordering, Less, Equal, Greater, is_eq, refl, sym, ap, subst, ◌∙◌, arith}
use Rattle.std.specs.BTreeMap.{insert_entry, is_at}
use Rattle.std.specs.Cmp.{Equal-is, eq_by_cmp_equiv}
use Rattle.std.specs.List.Sorted.{IsStrictlySortedBy}
use Rattle.std.specs.Map.{lookup, remove_entry, keys_of}
use Rattle.std.specs.Ordering.{match_ordering}
use Rattle.std.proofs.lemmas.Map.{lookup-remove_entry}
use Rattle.std.proofs.lemmas.Map.Keys.{IsDistinct-from_sorted}
use Rattle.std.specs.List.{AllByRecursion}
use Rattle.mlb_base.proofs.Entries.{lookup-insert_entry, ascending-insert_entry, ascending-remove_entry}
use Rattle.status_store.specs.declared.stored.Stored.{Stored}
use Rattle.status_store.specs.Places.{Place, place_of, place_cmp}
use Rattle.status_store.specs.Objects.{places_of, IsAscending, AreCounted, is_of, stored_at, with_stored, without_stored}
use Rattle.status_store.proofs.PlaceLaws.{place_cmp-total, place_cmp-exact}

-- the objects, each under its place
abbrev entries_of : List Stored → List (Place × Stored)
entries_of [] = []
entries_of (held ∷ more) = (place_of held.object, held) ∷ entries_of more

places-entries : (objects : List Stored) → keys_of (entries_of objects) ≡ places_of objects
places-entries [] = refl
places-entries (held ∷ more) = ap (λ (ps : List Place). place_of held.object ∷ ps) (places-entries more)

lookup-entries : (objects : List Stored) (place : Place) → lookup (is_at (place_cmp place)) (entries_of objects) ≡ stored_at objects place
lookup-entries [] place = refl
lookup-entries (held ∷ more) place = ap (λ (found : Option Stored). cond (is_of place held) (Some held) found) (lookup-entries more place)

with_by : (r : Ordering) (added held : Stored) (more : List Stored) → place_cmp (place_of added.object) (place_of held.object) ≡ r
    → entries_of (with_stored added more) ≡ insert_entry place_cmp (entries_of more) (place_of added.object) added
    → entries_of (match_ordering r (added ∷ held ∷ more) (added ∷ more) (held ∷ with_stored added more))
    ≡ match_ordering r ((place_of added.object, added) ∷ (place_of held.object, held) ∷ entries_of more)
    ((place_of held.object, added) ∷ entries_of more) ((place_of held.object, held) ∷ insert_entry place_cmp (entries_of more) (place_of added.object) added)
with_by Less added held more p ih = refl
with_by Equal added held more p ih =
    ap (λ (place : Place). (place, added) ∷ entries_of more) (place_cmp-exact (place_of added.object) (place_of held.object) p)
with_by Greater added held more p ih = ap (λ (es : List (Place × Stored)). (place_of held.object, held) ∷ es) ih

entries_of-with_stored : (objects : List Stored) (added : Stored)
    → entries_of (with_stored added objects) ≡ insert_entry place_cmp (entries_of objects) (place_of added.object) added
entries_of-with_stored [] added = refl
entries_of-with_stored (held ∷ more) added =
    with_by (place_cmp (place_of added.object) (place_of held.object)) added held more refl (entries_of-with_stored more added)

without_by : (b : Bool) (place : Place) (held : Stored) (more : List Stored)
    → entries_of (without_stored place more) ≡ remove_entry (is_at (place_cmp place)) (entries_of more)
    → entries_of (cond b more (held ∷ without_stored place more))
    ≡ cond b (entries_of more) ((place_of held.object, held) ∷ remove_entry (is_at (place_cmp place)) (entries_of more))
without_by true place held more ih = refl
without_by false place held more ih = ap (λ (es : List (Place × Stored)). (place_of held.object, held) ∷ es) ih

entries_of-without_stored : (objects : List Stored) (place : Place)
    → entries_of (without_stored place objects) ≡ remove_entry (is_at (place_cmp place)) (entries_of objects)
entries_of-without_stored [] place = refl
entries_of-without_stored (held ∷ more) place =
    without_by (is_of place held) place held more (entries_of-without_stored more place)

entries-ascend : (objects : List Stored) → IsAscending objects → IsStrictlySortedBy place_cmp (keys_of (entries_of objects))
entries-ascend objects s = subst (IsStrictlySortedBy place_cmp) (sym (places-entries objects)) s

entries-ascended : (objects : List Stored) → IsStrictlySortedBy place_cmp (keys_of (entries_of objects)) → IsAscending objects
entries-ascended objects s = subst (IsStrictlySortedBy place_cmp) (places-entries objects) s

pub ascending-with_stored : (objects : List Stored) (added : Stored) → IsAscending objects → IsAscending (with_stored added objects)
ascending-with_stored objects added s =
    entries-ascended (with_stored added objects)
    (rw (entries_of-with_stored objects added)
    (ascending-insert_entry place_cmp-total (entries_of objects) (place_of added.object) added (entries-ascend objects s)))

pub ascending-without_stored : (objects : List Stored) (place : Place) → IsAscending objects → IsAscending (without_stored place objects)
ascending-without_stored objects place s =
    entries-ascended (without_stored place objects)
    (rw (entries_of-without_stored objects place) (ascending-remove_entry place_cmp (is_at (place_cmp place)) (entries_of objects) (entries-ascend objects s)))

-- what is stored at a place where an object was put in
pub stored_at-with_stored : (objects : List Stored) (added : Stored) (place : Place)
    → stored_at (with_stored added objects) place ≡ cond (is_of place added) (Some added) (stored_at objects place)
stored_at-with_stored objects added place =
    sym (lookup-entries (with_stored added objects) place)
    ∙ ap (λ (es : List (Place × Stored)). lookup (is_at (place_cmp place)) es) (entries_of-with_stored objects added)
    ∙ lookup-insert_entry place_cmp-total (entries_of objects) (place_of added.object) place added
    ∙ ap (λ (found : Option Stored). cond (is_of place added) (Some added) found) (lookup-entries objects place)

tied : (k x y : Place) → is_eq (place_cmp k x) ≡ true → is_eq (place_cmp k y) ≡ is_eq (place_cmp x y)
tied k x y e = ap is_eq (place_cmp-total.congr k x y ((Equal-is (place_cmp k x)).0 e))

-- what is stored at a place where what was stored at one was left out
pub stored_at-without_stored : (objects : List Stored) (place other : Place) → IsAscending objects
    → stored_at (without_stored place objects) other ≡ cond (is_eq (place_cmp place other)) None (stored_at objects other)
stored_at-without_stored objects place other s =
    sym (lookup-entries (without_stored place objects) other)
    ∙ ap (λ (es : List (Place × Stored)). lookup (is_at (place_cmp other)) es) (entries_of-without_stored objects place)
    ∙ lookup-remove_entry (eq_by_cmp_equiv place_cmp-total) (is_at (place_cmp place)) (tied place) other (entries_of objects)
    (IsDistinct-from_sorted place_cmp (keys_of (entries_of objects)) (entries-ascend objects s))
    ∙ ap (λ (found : Option Stored). cond (is_eq (place_cmp place other)) None found) (lookup-entries objects other)

-- ---- what holds of each of them
module _ (P : Stored → Type 0) where
  all_with_by : (r : Ordering) (added held : Stored) (more : List Stored) → P added → AllByRecursion P (held ∷ more) → AllByRecursion P (with_stored added more)
      → AllByRecursion P (match_ordering r (added ∷ held ∷ more) (added ∷ more) (held ∷ with_stored added more))
  all_with_by Less added held more new all ih = (new, all)
  all_with_by Equal added held more new all ih = (new, all.1)
  all_with_by Greater added held more new all ih = (all.0, ih)

  pub all-with_stored : (objects : List Stored) (added : Stored) → P added → AllByRecursion P objects → AllByRecursion P (with_stored added objects)
  all-with_stored [] added new all = (new, tt)
  all-with_stored (held ∷ more) added new all =
      all_with_by (place_cmp (place_of added.object) (place_of held.object)) added held more new all (all-with_stored more added new all.1)

  all_without_by : (b : Bool) (place : Place) (held : Stored) (more : List Stored) → AllByRecursion P (held ∷ more)
      → AllByRecursion P (without_stored place more)
      → AllByRecursion P (cond b more (held ∷ without_stored place more))
  all_without_by true place held more all ih = all.1
  all_without_by false place held more all ih = (all.0, ih)

  pub all-without_stored : (objects : List Stored) (place : Place) → AllByRecursion P objects → AllByRecursion P (without_stored place objects)
  all-without_stored [] place all = tt
  all-without_stored (held ∷ more) place all = all_without_by (is_of place held) place held more all (all-without_stored more place all.1)

-- ---- versions
pub counted-less : (m n : ℕ) (objects : List Stored) → m ≤ n → AreCounted m objects → AreCounted n objects
counted-less m n [] le all = tt
counted-less m n (held ∷ more) le all = ((all.0.0, omega (arith, all.0.1)), counted-less m n more le all.1)

pub counted-with_stored : (n : ℕ) (objects : List Stored) (added : Stored) → (1 ≤ added.version) × (added.version ≤ n)
    → AreCounted n objects → AreCounted n (with_stored added objects)
counted-with_stored n = all-with_stored (λ (held : Stored). (1 ≤ held.version) × (held.version ≤ n))

pub counted-without_stored : (n : ℕ) (objects : List Stored) (place : Place) → AreCounted n objects → AreCounted n (without_stored place objects)
counted-without_stored n = all-without_stored (λ (held : Stored). (1 ≤ held.version) × (held.version ≤ n))
