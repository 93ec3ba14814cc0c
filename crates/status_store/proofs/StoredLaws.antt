-- What is stored at a place, as a relation and as a look-up.
use Rattle.std.proofs.Common.{◌≡◌, ◌≢◌, Bool, true, false, cond, List, [], ◌∷◌, Option, Some, None, is_eq, Less, refl, sym, ap, subst, ◌∙◌, ⊎_elim}
use Rattle.std.specs.Cmp.{Equal-is, tied_itself}
use Rattle.std.specs.List.{AllByRecursion, Contains}
use Rattle.std.specs.List.Sorted.{IsStrictlySortedBy}
use Rattle.std.specs.Ordering.{ordering_reverse}
use Rattle.mlb_base.proofs.Among.{contains-none, contains-cons, contains-first, contains-later}
use Rattle.status_store.specs.declared.stored.Stored.{Stored}
use Rattle.status_store.specs.Places.{Place, place_of, place_cmp}
use Rattle.status_store.specs.Objects.{IsStored, IsAbsent, SameElsewhere, places_of, IsAscending, is_of, stored_at, with_stored, without_stored}
use Rattle.status_store.proofs.PlaceLaws.{place_cmp-total, place_cmp-exact}
use Rattle.status_store.proofs.ListLaws.{stored_at-with_stored, stored_at-without_stored, ascending-with_stored, ascending-without_stored}

pub is_of-is : (place : Place) (held : Stored) → is_of place held ≡ true → place_of held.object ≡ place
is_of-is place held e = sym (place_cmp-exact place (place_of held.object) ((Equal-is (place_cmp place (place_of held.object))).0 e))

pub is_of-by : (place : Place) (held : Stored) → place_of held.object ≡ place → is_of place held ≡ true
is_of-by place held e = ap is_eq (ap (λ (p : Place). place_cmp place p) e ∙ tied_itself place_cmp-total place)

found_by : (b : Bool) (place : Place) (first : Stored) (more : List Stored) (held : Stored) → b ≡ is_of place first
    → (stored_at more place ≡ Some held → IsStored more place held)
    → cond b (Some first) (stored_at more place) ≡ Some held → IsStored (first ∷ more) place held
found_by true place first more held is ih e =
    let same : first ≡ held = cc in
    subst (λ (h : Stored). IsStored (first ∷ more) place h) same (contains-first first more, is_of-is place first (sym is))
found_by false place first more held is ih e = let later = ih e in (contains-later first more held later.0, later.1)

pub found-stored : (objects : List Stored) (place : Place) (held : Stored) → stored_at objects place ≡ Some held → IsStored objects place held
found-stored [] place held e = absurd (cc)
found-stored (first ∷ more) place held e = found_by (is_of place first) place first more held refl (found-stored more place held) e

-- what holds of each place holds of that of an object in the list
at_member : (P : Place → Type 0) (objects : List Stored) (held : Stored) → AllByRecursion P (places_of objects) → Contains objects held
    → P (place_of held.object)
at_member P [] held all found = absurd (contains-none held found)
at_member P (first ∷ more) held all found =
    ⊎_elim (λ same. subst (λ (h : Stored). P (place_of h.object)) same all.0) (λ later. at_member P more held all.1 later) (contains-cons first more held found)

pub stored-found : (objects : List Stored) (place : Place) (held : Stored) → IsAscending objects → IsStored objects place held
    → stored_at objects place ≡ Some held
unfolding IsStrictlySortedBy
stored-found [] place held s stored = absurd (contains-none held stored.0)
stored-found (first ∷ more) place held s stored =
    ⊎_elim
    (λ same. let here : is_of place first ≡ true = is_of-by place first (ap (λ (h : Stored). place_of h.object) same ∙ stored.1) in
    rw here (ap (λ (h : Stored). Some h) same))
    (λ later.
    let less : place_cmp (place_of first.object) (place_of held.object) ≡ Less =
    at_member (λ y. place_cmp (place_of first.object) y ≡ Less) more held s.0 later in
    let less' : place_cmp (place_of first.object) place ≡ Less = subst (λ (p : Place). place_cmp (place_of first.object) p ≡ Less) stored.1 less in
    let other : is_of place first ≡ false = ap is_eq (place_cmp-total.antisymm place (place_of first.object) ∙ ap ordering_reverse less') in
    rw other (stored-found more place held s.1 (later, stored.1)))
    (contains-cons first more held stored.0)

absent_by : (found : Option Stored) (objects : List Stored) (place : Place) → IsAscending objects → found ≡ stored_at objects place → IsAbsent objects place
    → stored_at objects place ≡ None
absent_by None objects place s is absent = sym is
absent_by (Some held) objects place s is absent = absurd (absent held (found-stored objects place held (sym is)))

pub absent-found : (objects : List Stored) (place : Place) → IsAscending objects → IsAbsent objects place → stored_at objects place ≡ None
absent-found objects place s absent = absent_by (stored_at objects place) objects place s refl absent

pub found-absent : (objects : List Stored) (place : Place) → IsAscending objects → stored_at objects place ≡ None → IsAbsent objects place
found-absent objects place s e held stored =
    let some : stored_at objects place ≡ Some held = stored-found objects place held s stored in
    absurd (cc)

-- lists that answer the same at each other place
pub elsewhere-by : (place : Place) (old new : List Stored) → IsAscending old → IsAscending new
    → ((other : Place) → other ≢ place → stored_at new other ≡ stored_at old other) → SameElsewhere place old new
elsewhere-by place old new s t same other apart held = (
  λ stored. found-stored old other held (sym (same other apart) ∙ stored-found new other held t stored),
  λ stored. found-stored new other held (same other apart ∙ stored-found old other held s stored),
)

pub elsewhere-itself : (place : Place) (objects : List Stored) → SameElsewhere place objects objects
elsewhere-itself place objects other apart held = (λ stored. stored, λ stored. stored)

apart_by : (b : Bool) (place other : Place) → other ≢ place → b ≡ is_eq (place_cmp other place) → b ≡ false
apart_by true place other apart e = absurd (apart (place_cmp-exact other place ((Equal-is (place_cmp other place)).0 (sym e))))
apart_by false place other apart e = refl

pub elsewhere-with_stored : (objects : List Stored) (added : Stored) → IsAscending objects
    → SameElsewhere (place_of added.object) objects (with_stored added objects)
elsewhere-with_stored objects added s =
    elsewhere-by (place_of added.object) objects (with_stored added objects) s (ascending-with_stored objects added s)
    (λ other apart. stored_at-with_stored objects added other
    ∙ ap (λ (b : Bool). cond b (Some added) (stored_at objects other)) (apart_by (is_of other added) (place_of added.object) other apart refl))

pub elsewhere-without_stored : (objects : List Stored) (place : Place) → IsAscending objects → SameElsewhere place objects (without_stored place objects)
elsewhere-without_stored objects place s =
    elsewhere-by place objects (without_stored place objects) s (ascending-without_stored objects place s)
    (λ other apart. stored_at-without_stored objects place other s
    ∙ ap (λ (b : Bool). cond b None (stored_at objects other)) (apart_by (is_eq (place_cmp place other)) other place (λ same. apart (sym same)) refl))

pub stored-with_stored : (objects : List Stored) (added : Stored) → IsStored (with_stored added objects) (place_of added.object) added
stored-with_stored objects added =
    found-stored (with_stored added objects) (place_of added.object) added
    (stored_at-with_stored objects added (place_of added.object)
    ∙ ap (λ (b : Bool). cond b (Some added) (stored_at objects (place_of added.object))) (is_of-by (place_of added.object) added refl))

pub absent-without_stored : (objects : List Stored) (place : Place) → IsAscending objects → IsAbsent (without_stored place objects) place
absent-without_stored objects place s =
    found-absent (without_stored place objects) place (ascending-without_stored objects place s)
    (stored_at-without_stored objects place place s
    ∙ ap (λ (b : Bool). cond b None (stored_at objects place)) (ap is_eq (tied_itself place_cmp-total place)))
