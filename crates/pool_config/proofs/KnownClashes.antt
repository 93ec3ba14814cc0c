-- An advertisement that clashes with another one is known to.
use Rattle.std.proofs.Common.{◌≡◌, ℕ, zero, suc, ◌+◌, ◌<◌, ◌≤◌, Bool, true, false, ◌&&◌, ◌==◌, not, cond, List, [], ◌∷◌, ◌++◌, inl, inr, map}
use Rattle.std.proofs.Common.{find, length, get_or, Option, Some, None, Ordering, Less, Equal, Greater, refl, sym, ◌∙◌, ap, subst, arith}
use Rattle.std.proofs.lemmas.Bool.{or_parts, cases_Bool, cases_lt, true≢false, false≢true, eqb-true, eq-eqb}
use Rattle.std.proofs.lemmas.Map.Lookups.{exact_unsigned}
use Rattle.std.specs.BTreeMap.{BTreeMap, get, is_at, UpdatesBy}
use Rattle.std.specs.List.{AllByRecursion, list_any}
use Rattle.std.specs.Option.{option_map}
use Rattle.std.specs.Ordering.{nat_cmp, is_eq}
use Rattle.ip_ranges.specs.declared.family.Family.{Family}
use Rattle.ip_ranges.specs.declared.family.Family.TheVariants.{V4, V6}
use Rattle.ip_ranges.specs.Values.{SpanValue}
use Rattle.mlb_base.specs.Items.{ItemAt}
use Rattle.pool_config.specs.declared.compiled.CompiledBgp.{CompiledBgp}
use Rattle.pool_config.specs.declared.compiled.CompiledPool.{CompiledPool}
use Rattle.pool_config.specs.declared.preferences.Preferences.{Preferences}
use Rattle.pool_config.specs.declared.preferences.PoolPreferences.{PoolPreferences}
use Rattle.pool_config.specs.Faults.{length_for}
use Rattle.pool_config.specs.Search.{chooses_pool, clash, first_pair, has_equal_length}
use Rattle.pool_config.specs.Preferences.{joined, IsKnownAs, Knows, is_several, are_several, KnowsEach}
use Rattle.pool_config.specs.Preferences.{KnowsPool, Notes, of_family, clashes_at, clashes_anywhere}
use Rattle.pool_config.proofs.ItemLaws.{item_bound}
use Rattle.pool_config.specs.Clashing.{clashing_from, first_clashing}

-- ---- what is known of a length
pub joined-known : (held : Option (Option ℕ)) (preference : ℕ) → IsKnownAs (Some (joined held preference)) preference
joined-known None preference = refl
joined-known (Some None) preference = tt
joined-known (Some (Some known)) preference = go (known == preference) where
  go : (b : Bool) → IsKnownAs (Some (cond b (Some preference) None)) preference
  go true = refl
  go false = tt

pub joined-keeps : (held : Option (Option ℕ)) (preference p : ℕ) → IsKnownAs held p → IsKnownAs (Some (joined held preference)) p
joined-keeps None preference p none = absurd none
joined-keeps (Some None) preference p several = tt
joined-keeps (Some (Some known)) preference p is = go (known == preference) refl where
  go : (b : Bool) → (known == preference) ≡ b → IsKnownAs (Some (cond b (Some preference) None)) p
  go true same = let one : known ≡ preference = eqb-true known preference same in omega arith
  go false other = tt

pub kept-known : (old new : BTreeMap ℕ (Option ℕ)) (length preference : ℕ)
    → UpdatesBy nat_cmp (nat_cmp length) old new (Some (joined (get nat_cmp old length) preference))
    → (l p : ℕ) → IsKnownAs (get nat_cmp old l) p → IsKnownAs (get nat_cmp new l) p
kept-known old new length preference updates l p known = go (is_at (nat_cmp length) l) refl
  where
    go : (b : Bool) → is_at (nat_cmp length) l ≡ b → IsKnownAs (get nat_cmp new l) p
    go false other = subst (λ (h : Option (Option ℕ)). IsKnownAs h p) (sym (updates.2 l other)) known
    go true same =
        let one : length ≡ l = exact_unsigned length l (is_equal (nat_cmp length l) same) in
        let here : IsKnownAs (get nat_cmp old length) p = subst (λ (k : ℕ). IsKnownAs (get nat_cmp old k) p) (sym one) known in
        let joins : IsKnownAs (Some (joined (get nat_cmp old length) preference)) p = joined-keeps (get nat_cmp old length) preference p here in
        subst (λ (k : ℕ). IsKnownAs (get nat_cmp new k) p) one (subst (λ (h : Option (Option ℕ)). IsKnownAs h p) (sym updates.1) joins)
      where
        is_equal : (r : Ordering) → is_eq r ≡ true → r ≡ Equal
        is_equal Less e = absurd (false≢true e)
        is_equal Equal e = refl
        is_equal Greater e = absurd (false≢true e)

-- ---- what is known after so many advertisements
abbrev pub KnowsBelow : Family → ℕ → CompiledPool → List CompiledBgp → Preferences → Type 0
KnowsBelow family n pool bgp held =
    (k : ℕ) (adv : CompiledBgp) → k < n → ItemAt bgp k adv → chooses_pool adv pool ≡ true → Knows held (length_for adv family) adv.local_pref

item-is : {A : Type 0} (xs : List A) (i : ℕ) (x d : A) → ItemAt xs i x → get_or xs i d ≡ x
item-is [] i x d none = absurd none
item-is (y ∷ ys) zero x d stands = stands
item-is (y ∷ ys) (suc i) x d stands = item-is ys i x d stands

pub knows-none : (family : Family) (pool : CompiledPool) (bgp : List CompiledBgp) (held : Preferences) → KnowsBelow family 0 pool bgp held
knows-none family pool bgp held k adv below stands chosen = absurd (omega arith)

pub knows-more : (family : Family) (pool : CompiledPool) (bgp : List CompiledBgp) (i : ℕ) (adv : CompiledBgp) (old new : Preferences) → adv ≡ get_or bgp i adv
    → Notes family pool adv old new
    → KnowsBelow family i pool bgp old → KnowsBelow family (i + 1) pool bgp new
knows-more family pool bgp i adv old new is notes known k a below stands chosen = elim (cases_lt k i) [
  | inl before ↦ notes.0 _ _ (known k a before stands chosen)
  | inr behind ↦
      let place : k ≡ i = omega arith in
      let same : adv ≡ a = is ∙ item-is bgp i a adv (subst (λ (n : ℕ). ItemAt bgp n a) place stands) in
      subst (λ (b : CompiledBgp). chooses_pool b pool ≡ true → Knows new (length_for b family) b.local_pref) same notes.1 chosen
]

pub knows-each : (family : Family) (pool : CompiledPool) (bgp : List CompiledBgp) (i : ℕ) (held : Preferences) → length bgp ≤ i
    → KnowsBelow family i pool bgp held → KnowsEach family pool bgp held
knows-each family pool bgp i held end known k adv stands chosen = let bound = item_bound bgp k adv stands in known k adv (omega arith) stands chosen

module _ (bgp : List CompiledBgp) where
  -- two that are known of a length that has one preference have that one
  one-preference : (h : Option (Option ℕ)) (p q : ℕ) → is_several h ≡ false → IsKnownAs h p → IsKnownAs h q → p ≡ q
  one-preference None p q one none other = absurd none
  one-preference (Some None) p q several left right = absurd (true≢false several)
  one-preference (Some (Some known)) p q one left right = sym left ∙ right

  module _ (a b : CompiledBgp) (i j : ℕ) (a-there : ItemAt bgp i a) (b-there : ItemAt bgp j b) (differ : (a.local_pref == b.local_pref) ≡ false) where
    other-lengths : (held : PoolPreferences) → KnowsPool bgp held → chooses_pool a held.pool.now ≡ true → chooses_pool b held.pool.now ≡ true
        → (family : Family)
        → of_family family (are_several held.v4 a.length) (are_several held.v6 a.length_v6) ≡ false → (length_for a family == length_for b family) ≡ false
    other-lengths held knows first second V4 one = elim (cases_Bool (a.length == b.length)) [
      | inl same ↦
          let equal : a.length ≡ b.length = eqb-true a.length b.length same in
          let left : Knows held.v4 a.length a.local_pref = knows.0 i a a-there first in
          let right : Knows held.v4 a.length b.local_pref = subst (λ (l : ℕ). Knows held.v4 l b.local_pref) (sym equal) (knows.0 j b b-there second) in
          let prefs : a.local_pref ≡ b.local_pref = one-preference _ _ _ one left right in
          absurd (true≢false (sym (eq-eqb a.local_pref b.local_pref prefs) ∙ differ))
      | inr other ↦ other
    ]
    other-lengths held knows first second V6 one = elim (cases_Bool (a.length_v6 == b.length_v6)) [
      | inl same ↦
          let equal : a.length_v6 ≡ b.length_v6 = eqb-true a.length_v6 b.length_v6 same in
          let left : Knows held.v6 a.length_v6 a.local_pref = knows.1 i a a-there first in
          let right : Knows held.v6 a.length_v6 b.local_pref = subst (λ (l : ℕ). Knows held.v6 l b.local_pref) (sym equal) (knows.1 j b b-there second) in
          let prefs : a.local_pref ≡ b.local_pref = one-preference _ _ _ one left right in
          absurd (true≢false (sym (eq-eqb a.local_pref b.local_pref prefs) ∙ differ))
      | inr other ↦ other
    ]

    at-spans : (held : PoolPreferences) → KnowsPool bgp held → chooses_pool a held.pool.now ≡ true → chooses_pool b held.pool.now ≡ true
        → (spans : List SpanValue)
        → list_any (λ (span : SpanValue). of_family span.family (are_several held.v4 a.length) (are_several held.v6 a.length_v6)) spans ≡ false
        → list_any (has_equal_length a b) spans ≡ false
    at-spans held knows first second [] none = refl
    at-spans held knows first second (s ∷ ss) none =
        let (here, later) = or_parts _ _ none in
        rw (other-lengths held knows first second s.family here) (at-spans held knows first second ss later)

    at-pool : (held : PoolPreferences) → KnowsPool bgp held → clashes_at a held ≡ false
        → ((chooses_pool a held.pool.now && chooses_pool b held.pool.now) && list_any (has_equal_length a b) held.pool.now.spans) ≡ false
    at-pool held knows none = go (chooses_pool a held.pool.now) (chooses_pool b held.pool.now) refl refl none
      where
        go : (x y : Bool) → chooses_pool a held.pool.now ≡ x → chooses_pool b held.pool.now ≡ y
            → (x && list_any (λ (span : SpanValue). of_family span.family (are_several held.v4 a.length) (are_several held.v6 a.length_v6)) held.pool.now.spans)
            ≡ false
            → ((x && y) && list_any (has_equal_length a b) held.pool.now.spans) ≡ false
        go false y first second nowhere = refl
        go true false first second nowhere = refl
        go true true first second nowhere = at-spans held knows first second held.pool.now.spans nowhere

    at-pools : (known : List PoolPreferences) → AllByRecursion (KnowsPool bgp) known → clashes_anywhere known a ≡ false
        → list_any (λ (p : CompiledPool). (chooses_pool a p && chooses_pool b p) && list_any (has_equal_length a b) p.spans)
        (map (λ (held : PoolPreferences). held.pool.now) known) ≡ false
    at-pools [] all none = refl
    at-pools (held ∷ known) all none =
        let (here, later) = or_parts _ _ none in
        rw (at-pool held all.0 here) (at-pools known all.1 later)

  module _ (known : List PoolPreferences) (pools : List CompiledPool) (are : map (λ (held : PoolPreferences). held.pool.now) known ≡ pools)
      (all : AllByRecursion (KnowsPool bgp) known) where
    no-clash : (a b : CompiledBgp) (i j : ℕ) → ItemAt bgp i a → ItemAt bgp j b → clashes_anywhere known a ≡ false → clash pools a b ≡ false
    no-clash a b i j a-there b-there none = go (a.local_pref == b.local_pref) refl
      where
        go : (same : Bool) → (a.local_pref == b.local_pref) ≡ same
            → (not same && list_any (λ (p : CompiledPool). (chooses_pool a p && chooses_pool b p) && list_any (has_equal_length a b) p.spans) pools) ≡ false
        go true same = refl
        go false differ = rw (← are) (at-pools a b i j a-there b-there differ known all none)

    -- the advertisements after a place of the list
    none-behind : (a : CompiledBgp) (i : ℕ) → ItemAt bgp i a → clashes_anywhere known a ≡ false → (behind : List CompiledBgp)
        → ((k : ℕ) (b : CompiledBgp) → ItemAt behind k b → (j : ℕ) × ItemAt bgp j b)
        → find (clash pools a) behind ≡ None
    none-behind a i there none [] within = refl
    none-behind a i there none (b ∷ behind) within =
        let (j, at) = within 0 b refl in
        rw (no-clash a b i j there at none) (none-behind a i there none behind (λ k c stands. within (suc k) c stands))

    from-is : (a : CompiledBgp) (i : ℕ) → ItemAt bgp i a → (behind : List CompiledBgp)
        → ((k : ℕ) (b : CompiledBgp) → ItemAt behind k b → (j : ℕ) × ItemAt bgp j b)
        → clashing_from known pools a behind ≡ option_map (λ (other : CompiledBgp). other.name) (find (clash pools a) behind)
    unfolding clashing_from
    from-is a i there behind within = go (clashes_anywhere known a) refl
      where
        go : (b : Bool) → clashes_anywhere known a ≡ b
            → cond b (option_map (λ (other : CompiledBgp). other.name) (find (clash pools a) behind)) None
            ≡ option_map (λ (other : CompiledBgp). other.name) (find (clash pools a) behind)
        go true e = refl
        go false e = ap (option_map (λ (other : CompiledBgp). other.name)) (sym (none-behind a i there e behind within))

    first-among : (xs : List CompiledBgp) → ((k : ℕ) (b : CompiledBgp) → ItemAt xs k b → (j : ℕ) × ItemAt bgp j b)
        → first_clashing known pools xs ≡ first_pair (λ adv. adv.name) (clash pools) xs
    first-among [] within = refl
    first-among (a ∷ behind) within =
        let (i, there) = within 0 a refl in
        let later : (k : ℕ) (b : CompiledBgp) → ItemAt behind k b → (j : ℕ) × ItemAt bgp j b = λ k b stands. within (suc k) b stands in
        rw (from-is a i there behind later, first-among behind later) refl

    pub first-is : first_clashing known pools bgp ≡ first_pair (λ adv. adv.name) (clash pools) bgp
    first-is = first-among bgp (λ k b stands. (k, stands))

-- ---- one more pool
pub all_push : {A : Type 0} (P : A → Type 0) (xs : List A) (x : A) → AllByRecursion P xs → P x → AllByRecursion P (xs ++ x ∷ [])
all_push P [] x all own = (own, tt)
all_push P (y ∷ ys) x all own = (all.0, all_push P ys x all.1 own)
