-- How many entries there are after a change.
use Rattle.std.proofs.Common.{◌≡◌, ℕ, suc, ◌≤◌, Bool, true, false, cond, not, List, [], ◌∷◌, length, Option}
use Rattle.std.proofs.Common.{Some, None, is_some, Ordering, Less, Equal, Greater, refl, arith}
use Rattle.std.specs.Ordering.{match_ordering}
use Rattle.std.specs.List.Sorted.{IsStrictlySortedBy}
use Rattle.std.specs.Map.{lookup, remove_entry, keys_of}
use Rattle.std.specs.BTreeMap.{insert_entry, is_at}
use Rattle.std.specs.Cmp.{IsTotalOrder}
use Rattle.std.proofs.lemmas.List.{length-map}
use Rattle.std.proofs.lemmas.List.Filters.{length-filter_both}
use Rattle.std.proofs.lemmas.Map.{lookup-none, length-set_value}
use Rattle.std.proofs.lemmas.Map.Entries.{none_below_head}
use Rattle.std.proofs.lemmas.Map.Keys.{sorted_tail}
use Rattle.versioned_map.specs.declared.map.Versioned.{Versioned}
use Rattle.versioned_map.specs.Objects.{held_at, at_version, is_listed, expired, listed, amended, amended_at}

one_more : (there : Bool) (n : ℕ) → suc (cond there n (suc n)) ≡ cond there (suc n) (suc (suc n))
one_more true n = refl
one_more false n = refl

module _ {K X : Type 0} {R : K → K → Ordering} (o : IsTotalOrder R) where
  inserted_by : (r : Ordering) (e : K × X) (es : List (K × X)) (k : K) (v : X) → R k e.0 ≡ r → IsStrictlySortedBy R (keys_of (e ∷ es))
      → length (insert_entry R es k v) ≡ cond (is_some (lookup (is_at (R k)) es)) (length es) (suc (length es))
      → length (match_ordering r ((k, v) ∷ e ∷ es) ((e.0, v) ∷ es) (e ∷ insert_entry R es k v))
      ≡ cond (is_some (lookup (is_at (R k)) (e ∷ es))) (length (e ∷ es)) (suc (length (e ∷ es)))
  inserted_by Less e es k v p s ih =
      let none : lookup (is_at (R k)) (e ∷ es) ≡ None = lookup-none (is_at (R k)) (e ∷ es) (none_below_head o k e es s p) in
      rw none refl
  inserted_by Equal e es k v p s ih = rw p refl
  inserted_by Greater e es k v p s ih = rw (p, ih) (one_more (is_some (lookup (is_at (R k)) es)) (length es))

  -- one more, unless the key is there
  pub length-insert_entry : (es : List (K × X)) (k : K) (v : X) → IsStrictlySortedBy R (keys_of es)
      → length (insert_entry R es k v) ≡ cond (is_some (lookup (is_at (R k)) es)) (length es) (suc (length es))
  length-insert_entry [] k v s = refl
  length-insert_entry (e ∷ es) k v s = inserted_by (R k e.0) e es k v refl s (length-insert_entry es k v (sorted_tail R e.0 (keys_of es) s))

removed_by : {X : Type 0} → (b : Bool) (x : X) (xs less : List X) → length less ≤ length xs → length (cond b xs (x ∷ less)) ≤ length (x ∷ xs)
removed_by true x xs less ih = omega arith
removed_by false x xs less ih = omega (arith, ih)

module _ {K X : Type 0} where
  pub length-remove_entry : (test : K → Bool) (es : List (K × X)) → length (remove_entry test es) ≤ length es
  length-remove_entry test [] = omega arith
  length-remove_entry test (e ∷ es) = removed_by (test e.0) e es (remove_entry test es) (length-remove_entry test es)

module _ {K T : Type 0} where
  pub length-listed : (entries : List (K × Versioned T)) → length (listed entries) ≤ length entries
  length-listed entries =
      let both = length-filter_both is_listed (λ (e : K × Versioned T). not (is_listed e)) (λ e. refl) entries in
      omega (arith, both)

  pub length-expired : (entries : List (K × Versioned T)) → length (expired entries) ≡ length entries
  length-expired entries = length-map entries (λ (e : K × Versioned T). (e.0, at_version 0 e.1))

  amended_by : (cmp : K → K → Ordering) (found : Option (Versioned T)) (entries : List (K × Versioned T)) (k : K) (version : ℕ) (change : T → T)
      → length (amended_at cmp entries k version change found) ≡ length entries
  amended_by cmp None entries k version change = refl
  amended_by cmp (Some held) entries k version change = length-set_value (is_at (cmp k)) entries (record { version = version; object = change held.object })

  pub length-amended : (cmp : K → K → Ordering) (entries : List (K × Versioned T)) (k : K) (version : ℕ) (change : T → T)
      → length (amended cmp entries k version change) ≡ length entries
  length-amended cmp entries k version change = amended_by cmp (held_at cmp entries k) entries k version change
