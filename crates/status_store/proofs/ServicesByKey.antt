-- What the services of a store give, at most one each, stands by key.
use Rattle.std.proofs.Common.{◌≡◌, List, [], ◌∷◌, ◌++◌, flat_map, Less, ◌⊎◌, ⊎_elim, sym, subst}
use Rattle.std.specs.List.{AllByRecursion}
use Rattle.std.specs.List.Sorted.{IsStrictlySortedBy}
use Rattle.kube_model.specs.declared.key.Key.{Key}
use Rattle.kube_model.specs.declared.object.Object.{Object}
use Rattle.kube_model.specs.Keys.{key_cmp}
use Rattle.status_store.specs.declared.stored.Stored.{Stored}
use Rattle.status_store.specs.Objects.{IsAscending, places_of}
use Rattle.status_store.specs.Places.{Place, place_of, place_cmp, service_at}

module _ {X : Type 0} (key : X → Key) where
  -- the key is below each of these
  abbrev pub IsBelow : Key → List X → Type 0
  IsBelow k items = AllByRecursion (λ (x : X). key_cmp k (key x) ≡ Less) items

  -- they ascend by key
  abbrev pub AreByKey : List X → Type 0
  AreByKey [] = Unit {0}
  AreByKey (x ∷ more) = IsBelow (key x) more × AreByKey more

  -- an object gives nothing, or one item by the key of the service that it is
  abbrev pub GivesOne : (Object → List X) → Type 0
  GivesOne given = (object : Object) → (given object ≡ []) ⊎ ((x : X) × (given object ≡ x ∷ []) × (place_of object ≡ service_at (key x)))

module _ {X : Type 0} (key : X → Key) (given : Object → List X) (one : GivesOne key given) where
  abbrev all_given : List Stored → List X
  all_given stored = flat_map (λ (held : Stored). given held.object) stored

  below_by : (k : Key) (object : Object) (rest : List X) → place_cmp (service_at k) (place_of object) ≡ Less → IsBelow key k rest
      → IsBelow key k (given object ++ rest)
  below_by k object rest first others =
      ⊎_elim
      (λ none. subst (λ (xs : List X). IsBelow key k (xs ++ rest)) (sym none) others)
      (λ found.
      let less : key_cmp k (key found.0) ≡ Less = subst (λ (place : Place). place_cmp (service_at k) place ≡ Less) found.2 first in
      subst (λ (xs : List X). IsBelow key k (xs ++ rest)) (sym found.1) (less, others))
      (one object)

  below : (k : Key) (stored : List Stored) → AllByRecursion (λ (place : Place). place_cmp (service_at k) place ≡ Less) (places_of stored)
      → IsBelow key k (all_given stored)
  below k [] all = tt
  below k (held ∷ more) all = below_by k held.object (all_given more) all.0 (below k more all.1)

  by_key_by : (object : Object) (more : List Stored) → AllByRecursion (λ (place : Place). place_cmp (place_of object) place ≡ Less) (places_of more)
      → AreByKey key (all_given more)
      → AreByKey key (given object ++ all_given more)
  by_key_by object more all others =
      ⊎_elim
      (λ none. subst (λ (xs : List X). AreByKey key (xs ++ all_given more)) (sym none) others)
      (λ found.
      let above = subst (λ (own : Place). AllByRecursion (λ (place : Place). place_cmp own place ≡ Less) (places_of more)) found.2 all in
      subst (λ (xs : List X). AreByKey key (xs ++ all_given more)) (sym found.1) (below (key found.0) more above, others))
      (one object)

  pub by_key : (stored : List Stored) → IsAscending stored → AreByKey key (flat_map (λ (held : Stored). given held.object) stored)
  unfolding IsStrictlySortedBy
  by_key [] s = tt
  by_key (held ∷ more) s = by_key_by held.object more s.0 (by_key more s.1)
