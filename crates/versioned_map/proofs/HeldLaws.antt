-- What is held under a key where the entries have changed, and that their keys still ascend.
use Rattle.std.proofs.Common.{◌≡◌, ℕ, Bool, true, false, cond, leb, eqb, not, List, Option, Some, None, option_map, Ordering, is_eq, refl, ap}
use Rattle.std.specs.Option.{IsSome}
use Rattle.std.specs.List.Sorted.{IsStrictlySortedBy}
use Rattle.std.specs.Map.{lookup, remove_entry, keys_of}
use Rattle.std.specs.BTreeMap.{insert_entry, is_at}
use Rattle.std.specs.Cmp.{IsTotalOrder, Equal-is, eq_by_cmp_equiv}
use Rattle.std.proofs.lemmas.Map.{lookup-remove_entry, lookup-set_value, keys-set_value}
use Rattle.std.proofs.lemmas.Map.Entries.{lookup-filter-values, option_filter}
use Rattle.std.proofs.lemmas.Map.Keys.{IsDistinct-from_sorted}
use Rattle.std.proofs.lemmas.Map.Made.{lookup-map_values, keys_of-map_values}
use Rattle.mlb_base.proofs.Entries.{lookup-insert_entry, ascending-insert_entry, ascending-filter}
use Rattle.versioned_map.specs.declared.map.Versioned.{Versioned}
use Rattle.versioned_map.specs.Objects.{held_at, version_at, at_version, shown, expired, listed, amended, amended_at}

module _ {K : Type 0} {cmp : K → K → Ordering} (o : IsTotalOrder cmp) where
  -- a key in place of one that it is tied with
  tied : (k x y : K) → is_eq (cmp k x) ≡ true → is_eq (cmp k y) ≡ is_eq (cmp x y)
  tied k x y e = ap is_eq (o.congr k x y ((Equal-is (cmp k x)).0 e))

module _ {K T : Type 0} {cmp : K → K → Ordering} (o : IsTotalOrder cmp) where
  shown_by : (old : Bool) (entries : List (K × Versioned T)) (k key : K) (version : ℕ) (object : T)
      → held_at cmp (cond old entries (insert_entry cmp entries k (record { version = version; object = object }))) key
      ≡ cond old (held_at cmp entries key) (cond (is_eq (cmp key k)) (Some (record { version = version; object = object })) (held_at cmp entries key))
  shown_by true entries k key version object = refl
  shown_by false entries k key version object = lookup-insert_entry o entries k key (record { version = version; object = object })

  -- an object was shown
  pub held_at-shown : (entries : List (K × Versioned T)) (k key : K) (version : ℕ) (object : T)
      → held_at cmp (shown cmp entries k version object) key
      ≡ cond (leb version (version_at cmp entries k)) (held_at cmp entries key)
      (cond (is_eq (cmp key k)) (Some (record { version = version; object = object })) (held_at cmp entries key))
  held_at-shown entries k key version object = shown_by (leb version (version_at cmp entries k)) entries k key version object

  -- a key was removed
  pub held_at-removed : (entries : List (K × Versioned T)) (gone key : K) → IsStrictlySortedBy cmp (keys_of entries)
      → held_at cmp (remove_entry (is_at (cmp gone)) entries) key ≡ cond (is_eq (cmp gone key)) None (held_at cmp entries key)
  held_at-removed entries gone key s =
      lookup-remove_entry (eq_by_cmp_equiv o) (is_at (cmp gone)) (tied o gone) key entries (IsDistinct-from_sorted cmp (keys_of entries) s)

  -- a list has ended
  pub held_at-listed : (entries : List (K × Versioned T)) (key : K) → IsStrictlySortedBy cmp (keys_of entries)
      → held_at cmp (listed entries) key ≡ option_filter (λ held. not (eqb held.version 0)) (held_at cmp entries key)
  held_at-listed entries key s =
      lookup-filter-values (eq_by_cmp_equiv o) (λ (held : Versioned T). not (eqb held.version 0)) key entries (IsDistinct-from_sorted cmp (keys_of entries) s)

  -- what is held under a key was changed
  pub held_at-amended : (entries : List (K × Versioned T)) (k key : K) (version : ℕ) (change : T → T) (held : Versioned T) → held_at cmp entries k ≡ Some held
      → held_at cmp (amended_at cmp entries k version change (Some held)) key
      ≡ cond (is_eq (cmp k key)) (Some (record { version = version; object = change held.object })) (held_at cmp entries key)
  held_at-amended entries k key version change held found =
      let there : IsSome (lookup (is_at (cmp k)) entries) = rw found refl in
      lookup-set_value (eq_by_cmp_equiv o) (is_at (cmp k)) (tied o k) key (record { version = version; object = change held.object }) entries there

  shown_ascend : (old : Bool) (x y : List (K × Versioned T)) → IsStrictlySortedBy cmp (keys_of x) → IsStrictlySortedBy cmp (keys_of y)
      → IsStrictlySortedBy cmp (keys_of (cond old x y))
  shown_ascend true x y p q = p
  shown_ascend false x y p q = q

  pub ascending-shown : (entries : List (K × Versioned T)) (k : K) (version : ℕ) (object : T) → IsStrictlySortedBy cmp (keys_of entries)
      → IsStrictlySortedBy cmp (keys_of (shown cmp entries k version object))
  ascending-shown entries k version object s =
      shown_ascend (leb version (version_at cmp entries k)) entries (insert_entry cmp entries k (record { version = version; object = object })) s
      (ascending-insert_entry o entries k (record { version = version; object = object }) s)

-- watches have expired
pub held_at-expired : {K T : Type 0} (cmp : K → K → Ordering) (entries : List (K × Versioned T)) (key : K)
    → held_at cmp (expired entries) key ≡ option_map (at_version 0) (held_at cmp entries key)
held_at-expired cmp entries key = lookup-map_values (at_version 0) (is_at (cmp key)) entries

module _ {K T : Type 0} (cmp : K → K → Ordering) (entries : List (K × Versioned T)) where
  pub ascending-expired : IsStrictlySortedBy cmp (keys_of entries) → IsStrictlySortedBy cmp (keys_of (expired entries))
  ascending-expired s = rw (keys_of-map_values (at_version 0) entries) s

  pub ascending-listed : IsStrictlySortedBy cmp (keys_of entries) → IsStrictlySortedBy cmp (keys_of (listed entries))
  ascending-listed s = ascending-filter cmp (λ (e : K × Versioned T). not (eqb e.1.version 0)) entries s

  amended_ascend : (found : Option (Versioned T)) (k : K) (version : ℕ) (change : T → T) → IsStrictlySortedBy cmp (keys_of entries)
      → IsStrictlySortedBy cmp (keys_of (amended_at cmp entries k version change found))
  amended_ascend None k version change s = s
  amended_ascend (Some held) k version change s = rw (keys-set_value (is_at (cmp k)) entries (record { version = version; object = change held.object })) s

  pub ascending-amended : (k : K) (version : ℕ) (change : T → T) → IsStrictlySortedBy cmp (keys_of entries)
      → IsStrictlySortedBy cmp (keys_of (amended cmp entries k version change))
  ascending-amended k version change s = amended_ascend (held_at cmp entries k) k version change s
