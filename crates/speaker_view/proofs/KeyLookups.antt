-- A test of the held objects, asked key by key.
use Rattle.std.proofs.Common.{◌≡◌, Bool, true, false, cond, ◌||◌, List, [], ◌∷◌, Option, Some, None, option_map, Ordering, is_eq, refl, sym, ap, ◌∙◌, inl, inr}
use Rattle.std.proofs.lemmas.Bool.{or_cases, or_left, or_right, true≢false}
use Rattle.std.proofs.lemmas.Map.{lookup-none}
use Rattle.std.proofs.lemmas.Map.Entries.{none_past_head}
use Rattle.std.proofs.lemmas.Map.Keys.{IsDistinct-from_sorted, sorted_tail}
use Rattle.std.proofs.lemmas.Map.Lookups.{CmpEqualImpliesEq}
use Rattle.std.specs.BTreeMap.{is_at}
use Rattle.std.specs.Cmp.{IsTotalOrder, Equal-is, eq_by_cmp_equiv, tied_itself, both_ways}
use Rattle.std.specs.List.{list_any}
use Rattle.std.specs.List.Sorted.{IsStrictlySortedBy}
use Rattle.std.specs.Map.{keys_of}
use Rattle.mlb_base.proofs.Among.{any-found, any-contains}
use Rattle.versioned_map.specs.declared.map.Versioned.{Versioned}
use Rattle.versioned_map.specs.Objects.{held_at, object_at}
use Rattle.speaker_view.specs.Held.{objects_of}
use Rattle.speaker_view.specs.Index.{passes}

module _ {K T : Type 0} {cmp : K → K → Ordering} (o : IsTotalOrder cmp) (exact : CmpEqualImpliesEq cmp) (test : T → Bool) where
  -- ---- where it passes at the object of a key, it passes at one of the objects
  at-by : (b : Bool) (e : K × Versioned T) (es : List (K × Versioned T)) (found : Option (Versioned T))
      → passes test (option_map (λ h. h.object) (cond b (Some e.1) found)) ≡ true
      → (passes test (option_map (λ h. h.object) found) ≡ true → list_any test (objects_of es) ≡ true)
      → (test e.1.object || list_any test (objects_of es)) ≡ true
  at-by true e es found here later = or_left (test e.1.object) (list_any test (objects_of es)) here
  at-by false e es found here later = or_right (test e.1.object) (list_any test (objects_of es)) (later here)

  any-at : (entries : List (K × Versioned T)) (key : K) → passes test (object_at cmp entries key) ≡ true → list_any test (objects_of entries) ≡ true
  any-at [] key e = absurd (true≢false (sym e))
  any-at (d ∷ es) key e = at-by (is_at (cmp key) d.0) d es (held_at cmp es key) e (any-at es key)

  -- ---- where it passes at one of the objects, it passes at the object of a key
  -- An object passes, and this is its key.
  pub record Passing (entries : List (K × Versioned T)) : Type 0 where
    pub key : K
    pub object : T
    pub held : object_at cmp entries key ≡ Some object
    pub passed : test object ≡ true

  pub past : (e : K × Versioned T) (es : List (K × Versioned T)) (key : K) → IsStrictlySortedBy cmp (keys_of (e ∷ es)) → is_eq (cmp key e.0) ≡ true
      → held_at cmp es key ≡ None
  past e es key s same = lookup-none (is_at (cmp key)) es (none_past_head (eq_by_cmp_equiv o) key e es (IsDistinct-from_sorted cmp (keys_of (e ∷ es)) s) same)

  pub later-by : (b : Bool) (e : K × Versioned T) (found : Option (Versioned T)) (object : T) → (b ≡ true → found ≡ None)
      → option_map (λ h. h.object) found ≡ Some object
      → option_map (λ h. h.object) (cond b (Some e.1) found) ≡ Some object
  later-by true e found object none is =
      let wrong : option_map (λ (h : Versioned T). h.object) None ≡ Some object = ap (option_map (λ h. h.object)) (sym (none refl)) ∙ is in
      absurd (cc)
  later-by false e found object none is = is

  passing-first : (e : K × Versioned T) (es : List (K × Versioned T)) → test e.1.object ≡ true → Passing (e ∷ es)
  passing-first e es here = record {
    key = e.0;
    object = e.1.object;
    held = rw (tied_itself o e.0) refl;
    passed = here;
  }

  passing-later : (e : K × Versioned T) (es : List (K × Versioned T)) → IsStrictlySortedBy cmp (keys_of (e ∷ es)) → Passing es → Passing (e ∷ es)
  passing-later e es s p = record {
    key = p.key;
    object = p.object;
    held = later-by (is_at (cmp p.key) e.0) e (held_at cmp es p.key) p.object (past e es p.key s) p.held;
    passed = p.passed;
  }

  pub passing : (entries : List (K × Versioned T)) → IsStrictlySortedBy cmp (keys_of entries) → list_any test (objects_of entries) ≡ true → Passing entries
  passing [] s e = absurd (true≢false (sym e))
  passing (d ∷ es) s e = elim (or_cases (test d.1.object) (list_any test (objects_of es)) e) [
    | inl here ↦ passing-first d es here
    | inr later ↦ passing-later d es s (passing es (sorted_tail cmp d.0 (keys_of es) s) later)
  ]

  -- ---- so it is asked of the objects of some keys, where each object that passes has one of these keys
  pub any-keys : (entries : List (K × Versioned T)) (keys : List K) → IsStrictlySortedBy cmp (keys_of entries)
      → ((key : K) (object : T) → object_at cmp entries key ≡ Some object → test object ≡ true → list_any (is_at (cmp key)) keys ≡ true)
      → list_any (λ key. passes test (object_at cmp entries key)) keys ≡ list_any test (objects_of entries)
  any-keys entries keys s among =
      let at : K → Bool = λ key. passes test (object_at cmp entries key) in
      both_ways (list_any at keys) (list_any test (objects_of entries))
      (λ e. let found = any-found at keys e in any-at entries found.0 found.2)
      (λ e.
      let p = passing entries s e in
      let found = any-found (is_at (cmp p.key)) keys (among p.key p.object p.held p.passed) in
      let same : p.key ≡ found.0 = exact p.key found.0 ((Equal-is (cmp p.key found.0)).0 found.2) in
      let there : object_at cmp entries found.0 ≡ Some p.object = ap (object_at cmp entries) (sym same) ∙ p.held in
      any-contains at keys found.0 found.1 (ap (passes test) there ∙ p.passed))
