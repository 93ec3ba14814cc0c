-- Sets, as lists of keys that ascend: what is among them once a key is put in, and that they still ascend.
use Rattle.std.proofs.Common.{◌≡◌, List, [], ◌∷◌, ◌⊎◌, inl, inr, Ordering, Less, Equal, Greater, refl, sym, ◌∙◌, ap, Decides}
use Rattle.std.proofs.lemmas.Map.Lookups.{CmpEqualImpliesEq}
use Rattle.std.specs.Ordering.{match_ordering, ordering_reverse}
use Rattle.std.specs.List.{AllByRecursion, list_any}
use Rattle.std.specs.List.Sorted.{IsStrictlySortedBy}
use Rattle.std.specs.BTreeMap.{is_at}
use Rattle.std.specs.BTreeSet.{insert_key}
use Rattle.std.specs.Cmp.{IsTotalOrder, Equal-is}
use Rattle.mlb_base.specs.Items.{IsIn}
use Rattle.mlb_base.proofs.Lists.{Decides-has}
use Rattle.pool_config.specs.KeySets.{keys_with}

itself_by : (r : Ordering) → r ≡ ordering_reverse r → r ≡ Equal
itself_by Less e = absurd (let h : Less ≡ Greater = e in cc)
itself_by Equal e = refl
itself_by Greater e = absurd (let h : Greater ≡ Less = e in cc)

module _ {K : Type 0} {R : K → K → Ordering} (o : IsTotalOrder R) (exact : CmpEqualImpliesEq R) where
  itself : (k : K) → R k k ≡ Equal
  itself k = itself_by (R k k) (o.antisymm k k)

  at-Decides : (k x : K) → Decides (is_at (R k) x) (x ≡ k)
  at-Decides k x = (
    λ e. sym (exact k x ((Equal-is (R k x)).0 e)),
    λ same. rw same ((Equal-is (R k k)).1 (itself k)),
  )

  -- whether a key is held
  pub held-Decides : (held : List K) (k : K) → Decides (list_any (is_at (R k)) held) (IsIn held k)
  held-Decides held k = Decides-has (is_at (R k)) (λ x. x ≡ k) (at-Decides k) held

  -- what is among the keys with one more
  in_insert_by : (r : Ordering) (k x : K) (xs : List K) (q : K) → (IsIn (insert_key R xs k) q → (k ≡ q) ⊎ IsIn xs q)
      → IsIn (match_ordering r (k ∷ x ∷ xs) (x ∷ xs) (x ∷ insert_key R xs k)) q → (k ≡ q) ⊎ IsIn (x ∷ xs) q
  in_insert_by Less k x xs q rest (inl here) = inl here
  in_insert_by Less k x xs q rest (inr later) = inr later
  in_insert_by Equal k x xs q rest h = inr h
  in_insert_by Greater k x xs q rest (inl here) = inr (inl here)
  in_insert_by Greater k x xs q rest (inr later) = elim (rest later) [ inl new ↦ inl new | inr old ↦ inr (inr old) ]

  pub in_insert : (held : List K) (k q : K) → IsIn (insert_key R held k) q → (k ≡ q) ⊎ IsIn held q
  in_insert [] k q (inl here) = inl here
  in_insert [] k q (inr none) = absurd none
  in_insert (x ∷ xs) k q h = in_insert_by (R k x) k x xs q (in_insert xs k q) h

  insert_in_by : (r : Ordering) (k x : K) (xs : List K) (q : K) → R k x ≡ r → ((k ≡ q) ⊎ IsIn xs q → IsIn (insert_key R xs k) q)
      → (k ≡ q) ⊎ IsIn (x ∷ xs) q → IsIn (match_ordering r (k ∷ x ∷ xs) (x ∷ xs) (x ∷ insert_key R xs k)) q
  insert_in_by Less k x xs q e rest (inl new) = inl new
  insert_in_by Less k x xs q e rest (inr old) = inr old
  insert_in_by Equal k x xs q e rest (inl new) = inl (sym (exact k x e) ∙ new)
  insert_in_by Equal k x xs q e rest (inr old) = old
  insert_in_by Greater k x xs q e rest (inl new) = inr (rest (inl new))
  insert_in_by Greater k x xs q e rest (inr (inl here)) = inl here
  insert_in_by Greater k x xs q e rest (inr (inr later)) = inr (rest (inr later))

  pub insert_in : (held : List K) (k q : K) → (k ≡ q) ⊎ IsIn held q → IsIn (insert_key R held k) q
  insert_in [] k q (inl here) = inl here
  insert_in [] k q (inr none) = absurd none
  insert_in (x ∷ xs) k q h = insert_in_by (R k x) k x xs q refl (insert_in xs k q) h

  -- the keys still ascend
  all_above : (k d : K) → R k d ≡ Less → (ks : List K) → AllByRecursion (λ y. R d y ≡ Less) ks → AllByRecursion (λ y. R k y ≡ Less) ks
  all_above k d below [] all = tt
  all_above k d below (y ∷ ks) all = (o.trans k d y below all.0, all_above k d below ks all.1)

  all_inserted_by : (r : Ordering) (P : K → Type 0) (x : K) (xs : List K) (k : K) → AllByRecursion P (insert_key R xs k) → AllByRecursion P (x ∷ xs) → P k
      → AllByRecursion P (match_ordering r (k ∷ x ∷ xs) (x ∷ xs) (x ∷ insert_key R xs k))
  all_inserted_by Less P x xs k rest all new = (new, all)
  all_inserted_by Equal P x xs k rest all new = all
  all_inserted_by Greater P x xs k rest all new = (all.0, rest)

  all_inserted : (P : K → Type 0) (ks : List K) (k : K) → AllByRecursion P ks → P k → AllByRecursion P (insert_key R ks k)
  all_inserted P [] k all new = (new, tt)
  all_inserted P (x ∷ xs) k all new = all_inserted_by (R k x) P x xs k (all_inserted P xs k all.1 new) all new

  ascending_by : (r : Ordering) (x : K) (xs : List K) (k : K) → R k x ≡ r → IsStrictlySortedBy R (insert_key R xs k) → IsStrictlySortedBy R (x ∷ xs)
      → IsStrictlySortedBy R (match_ordering r (k ∷ x ∷ xs) (x ∷ xs) (x ∷ insert_key R xs k))
  unfolding IsStrictlySortedBy
  ascending_by Less x xs k e rest s = ((e, all_above k x e xs s.0), s)
  ascending_by Equal x xs k e rest s = s
  ascending_by Greater x xs k e rest s =
      let above : R x k ≡ Less = o.antisymm x k ∙ ap ordering_reverse e in
      (all_inserted (λ y. R x y ≡ Less) xs k s.0 above, rest)

  pub ascending-insert_key : (ks : List K) (k : K) → IsStrictlySortedBy R ks → IsStrictlySortedBy R (insert_key R ks k)
  unfolding IsStrictlySortedBy
  ascending-insert_key [] k s = (tt, tt)
  ascending-insert_key (x ∷ xs) k s = ascending_by (R k x) x xs k refl (ascending-insert_key xs k s.1) s

  -- a key isn't among those above it
  pub not_among : (k : K) (ks : List K) → AllByRecursion (λ y. R k y ≡ Less) ks → ¬ IsIn ks k
  not_among k [] all h = h
  not_among k (x ∷ xs) all (inl here) =
      let same : R k x ≡ Equal = rw here (itself k) in
      absurd (let h : Less ≡ Equal = sym all.0 ∙ same in cc)
  not_among k (x ∷ xs) all (inr later) = not_among k xs all.1 later

  -- the same over several keys
  pub in_keys : (held keys : List K) (q : K) → IsIn (keys_with R held keys) q → IsIn held q ⊎ IsIn keys q
  in_keys held [] q h = inl h
  in_keys held (k ∷ ks) q h = elim (in_keys (insert_key R held k) ks q h) [
    | inl before ↦ elim (in_insert held k q before) [ inl new ↦ inr (inl new) | inr old ↦ inl old ]
    | inr later ↦ inr (inr later)
  ]

  pub keys_in : (held keys : List K) (q : K) → IsIn held q ⊎ IsIn keys q → IsIn (keys_with R held keys) q
  keys_in held [] q (inl old) = old
  keys_in held [] q (inr none) = absurd none
  keys_in held (k ∷ ks) q (inl old) = keys_in (insert_key R held k) ks q (inl (insert_in held k q (inr old)))
  keys_in held (k ∷ ks) q (inr (inl here)) = keys_in (insert_key R held k) ks q (inl (insert_in held k q (inl here)))
  keys_in held (k ∷ ks) q (inr (inr later)) = keys_in (insert_key R held k) ks q (inr later)

  pub ascending-keys_with : (held keys : List K) → IsStrictlySortedBy R held → IsStrictlySortedBy R (keys_with R held keys)
  ascending-keys_with held [] s = s
  ascending-keys_with held (k ∷ ks) s = ascending-keys_with (insert_key R held k) ks (ascending-insert_key held k s)
