-- What the claims under the numbers of a key or of an address say of all claims.
use Rattle.std.proofs.Common.{◌≡◌, ℕ, ◌<◌, ◌≤◌, ◌==◌, Bool, true, false, cond, not, ◌&&◌, ◌||◌, List, [], ◌∷◌, ◌++◌, filter}
use Rattle.std.proofs.Common.{length, suc, Option, Some, Less, refl, sym, ap, ◌∙◌, subst, arith, ⊎_elim}
use Rattle.std.specs.Bool.{MatchBool}
use Rattle.std.specs.List.{Contains, AllByRecursion, AllWithin, HoldsAt, list_any, list_all}
use Rattle.std.specs.List.Sorted.{IsStrictlySortedBy}
use Rattle.std.specs.Map.{lookup, keys_of, values_of}
use Rattle.std.specs.Ordering.{nat_cmp}
use Rattle.std.proofs.lemmas.Bool.Decides.{nat_tests}
use Rattle.std.proofs.lemmas.Bool.{eq-eqb, or_parts, true≢false}
use Rattle.ip_ranges.specs.declared.family.Family.{Family}
use Rattle.ip_ranges.specs.Values.{AddressValue, has_address, is_buggy}
use Rattle.kube_model.specs.declared.key.Key.{Key}
use Rattle.kube_model.specs.declared.record.Record.{Record}
use Rattle.kube_model.specs.Keys.{same_key}
use Rattle.mlb_base.specs.Items.{is_nil}
use Rattle.mlb_base.proofs.Among.{contains-none, contains-cons}
use Rattle.sharing_terms.specs.declared.terms.Terms.{Terms}
use Rattle.sharing_terms.specs.Sharing.{may_share}
use Rattle.address_holders.specs.declared.slot.NumberedSlot.{NumberedSlot}
use Rattle.claim_index.specs.Slots.{Slot, Any, occupies}
use Rattle.claim_index.specs.Claims.{ClaimValue, has_claims, loses, claims_it}
use Rattle.address_holders.specs.Holders.{AddressHoldersValue, claims_having, address_of, is_held_in, is_open_in}
use Rattle.claim_index.specs.Index.{numbers_of, numbered, numbers_at, is_taken, is_open}
use Rattle.claim_index.specs.Reading.{is_claim_under, gives_way, is_of, yields, leaves}

-- ---- numbers and tests
pub below-apart : (n m : ℕ) → nat_cmp n m ≡ Less → (n == m) ≡ false
below-apart n m less = grind (arith, nat_tests)

pub or-true : (b : Bool) → (b || true) ≡ true
or-true true = refl
or-true false = refl

or-swap : (x y z : Bool) → (x || (y || z)) ≡ ((y || x) || z)
or-swap true true z = refl
or-swap true false z = refl
or-swap false true z = refl
or-swap false false z = refl

false-from : (b : Bool) → (b ≡ true → ⊥) → b ≡ false
false-from true none = absurd (none refl)
false-from false none = refl

-- ---- where something was asked of some number
module _ (P : Type 0) where
  first-asked : (xs : List ℕ) → AllWithin (λ _. P) xs 0 (length xs) → is_nil xs ≡ false → P
  first-asked [] all some = absurd (cc)
  first-asked (x ∷ xs) all some = all 0 0 (omega arith) (omega arith)

  pub asked-any : (r : Bool) (xs : List ℕ) → MatchBool r ((k : ℕ) × (k < length xs) × HoldsAt (λ _. P) xs k) (AllWithin (λ _. P) xs 0 (length xs))
      → is_nil xs ≡ false → P
  asked-any true xs found some = found.2 0
  asked-any false xs found some = first-asked xs found some

  pub asked-all : (r : Bool) (xs : List ℕ) → MatchBool r (AllWithin (λ _. P) xs 0 (length xs)) ((k : ℕ) × (k < length xs) × HoldsAt (λ _. P) xs k)
      → is_nil xs ≡ false → P
  asked-all true xs found some = first-asked xs found some
  asked-all false xs found some = found.2 0

-- once all of some numbers were passed
pub some-passed : (xs : List ℕ) (i : ℕ) → length xs ≤ i → is_nil xs ≡ false → 0 < i
some-passed [] i passed some = absurd (true≢false some)
some-passed (x ∷ xs) i passed some = omega (arith, passed)

-- ---- numbers stand where claims do
nil-of-by : (b : Bool) (p : ℕ × ClaimValue) (kept : List (ℕ × ClaimValue)) (h : Bool) → is_nil (keys_of kept) ≡ not h
    → is_nil (keys_of (cond b (p ∷ kept) kept)) ≡ not (b || h)
nil-of-by true p kept h ih = refl
nil-of-by false p kept h ih = ih

pub nil-of : (key : Key) (items : List (ℕ × ClaimValue)) → is_nil (numbers_of key items) ≡ not (has_claims key (values_of items))
nil-of key [] = refl
nil-of key (p ∷ items) = nil-of-by (same_key p.1.key key) p (filter (λ p. same_key p.1.key key) items) (has_claims key (values_of items)) (nil-of key items)

module _ (a : AddressValue) where
  nil-once : (has : Bool) (n : ℕ) (rest : List ℕ) (h : Bool) → is_nil rest ≡ not h → is_nil (cond has (n ∷ []) [] ++ rest) ≡ not (has || h)
  nil-once true n rest h ih = refl
  nil-once false n rest h ih = ih

  nil-listed : (occupied : Bool) (n : ℕ) (addresses : List AddressValue) (rest : List ℕ) (h : Bool) → is_nil rest ≡ not h
      → is_nil (cond occupied (numbered n addresses a) [] ++ rest) ≡ not (occupied && has_address addresses a || h)
  nil-listed true n addresses rest h ih = nil-once (has_address addresses a) n rest h ih
  nil-listed false n addresses rest h ih = ih

  pub nil-at : (slot : Slot) (items : List (ℕ × ClaimValue)) → is_nil (numbers_at slot a items) ≡ not (is_taken slot (values_of items) a)
  nil-at slot [] = refl
  nil-at slot (p ∷ items) =
      nil-listed (occupies slot p.1) p.0 p.1.holding.addresses (numbers_at slot a items) (is_taken slot (values_of items) a) (nil-at slot items)

-- ---- what is found under the numbers
abbrev pub under : List (ℕ × ClaimValue) → ℕ → Option ClaimValue
under items n = lookup (λ m. m == n) items

-- under the number of each claim that passes is found that claim
abbrev pub AreFound : (ClaimValue → Bool) → (ℕ → Option ClaimValue) → List (ℕ × ClaimValue) → Type 0
AreFound passes find items = AllByRecursion (λ p. passes p.1 ≡ true → find p.0 ≡ Some p.1) items

module _ (passes : ClaimValue → Bool) where
  found-behind : (n : ℕ) (c : ClaimValue) (items rest : List (ℕ × ClaimValue)) → AllByRecursion (λ m. nat_cmp n m ≡ Less) (keys_of rest)
      → AreFound passes (under items) rest → AreFound passes (under ((n, c) ∷ items)) rest
  found-behind n c items [] above found = tt
  found-behind n c items (p ∷ rest) above found = (λ e. rw (below-apart n p.0 above.0) (found.0 e), found-behind n c items rest above.1 found.1)

  found-sorted : (items : List (ℕ × ClaimValue)) → IsStrictlySortedBy nat_cmp (keys_of items) → AreFound passes (under items) items
  unfolding IsStrictlySortedBy
  found-sorted [] sorted = tt
  found-sorted (p ∷ rest) sorted = (λ e. rw (eq-eqb p.0 p.0 refl) refl, found-behind p.0 p.1 rest rest sorted.0 (found-sorted rest sorted.1))

  found-none : (find : ℕ → Option ClaimValue) (items : List (ℕ × ClaimValue)) → list_any passes (values_of items) ≡ false → AreFound passes find items
  found-none find [] none = tt
  found-none find (p ∷ items) none =
      let parts = or_parts (passes p.1) (list_any passes (values_of items)) none in
      (λ e. absurd (true≢false (sym e ∙ parts.0)), found-none find items parts.1)

  found-by : (b : Bool) (items : List (ℕ × ClaimValue)) → list_any passes (values_of items) ≡ b → (not b ≡ false → IsStrictlySortedBy nat_cmp (keys_of items))
      → AreFound passes (under items) items
  found-by true items is sorted = found-sorted items (sorted refl)
  found-by false items is sorted = found-none (under items) items is

  -- the numbers ascend where some is asked of
  found : (numbers : List ℕ) (items : List (ℕ × ClaimValue)) → is_nil numbers ≡ not (list_any passes (values_of items))
      → (is_nil numbers ≡ false → IsStrictlySortedBy nat_cmp (keys_of items)) → AreFound passes (under items) items
  found numbers items nil sorted = found-by (list_any passes (values_of items)) items refl (λ e. sorted (nil ∙ e))

-- a claim is found by its number
found-at : (find : ℕ → Option ClaimValue) (items : List (ℕ × ClaimValue)) (p : ℕ × ClaimValue) → AreFound (λ _. true) find items → Contains items p
    → find p.0 ≡ Some p.1
found-at find [] p found there = absurd (contains-none p there)
found-at find (q ∷ items) p found there =
    ⊎_elim (λ (same : q ≡ p). subst (λ (r : ℕ × ClaimValue). find r.0 ≡ Some r.1) same (found.0 refl)) (λ later. found-at find items p found.1 later)
    (contains-cons q items p there)

pub found-of : (items : List (ℕ × ClaimValue)) (p : ℕ × ClaimValue) → IsStrictlySortedBy nat_cmp (keys_of items) → Contains items p → under items p.0 ≡ Some p.1
found-of items p sorted there = found-at (under items) items p (found-sorted (λ _. true) items sorted) there

-- ---- a test over the numbers
module _ (find : ℕ → Option ClaimValue) (test : Option ClaimValue → Bool) where
  any-of-by : (b : Bool) (p : ℕ × ClaimValue) (kept : List (ℕ × ClaimValue)) (rest : Bool) → (b ≡ true → find p.0 ≡ Some p.1)
      → list_any (λ n. test (find n)) (keys_of kept) ≡ rest
      → list_any (λ n. test (find n)) (keys_of (cond b (p ∷ kept) kept)) ≡ ((b && test (Some p.1)) || rest)
  any-of-by true p kept rest is ih = rw (is refl, ih) refl
  any-of-by false p kept rest is ih = ih

  count-one : (b : Bool) (n : ℕ) (p : ℕ × ClaimValue) (numbers : List ℕ) (kept : List (ℕ × ClaimValue)) → length numbers ≡ length kept
      → length (cond b (n ∷ numbers) numbers) ≡ length (cond b (p ∷ kept) kept)
  count-one true n p numbers kept ih = ap (λ (k : ℕ). suc k) ih
  count-one false n p numbers kept ih = ih

  count-of-by : (b : Bool) (p : ℕ × ClaimValue) (of_key rest : List (ℕ × ClaimValue)) → (b ≡ true → find p.0 ≡ Some p.1)
      → length (filter (λ n. test (find n)) (keys_of of_key)) ≡ length rest
      → length (filter (λ n. test (find n)) (keys_of (cond b (p ∷ of_key) of_key))) ≡ length (cond (b && test (Some p.1)) (p ∷ rest) rest)
  count-of-by true p of_key rest is ih =
      ap (λ (o : Option ClaimValue). length (cond (test o) (p.0 ∷ filter (λ n. test (find n)) (keys_of of_key)) (filter (λ n. test (find n)) (keys_of of_key))))
      (is refl)
      ∙ count-one (test (Some p.1)) p.0 p (filter (λ n. test (find n)) (keys_of of_key)) rest ih
  count-of-by false p of_key rest is ih = ih

  count-of : (key : Key) (items : List (ℕ × ClaimValue)) → AreFound (λ c. same_key c.key key) find items
      → length (filter (λ n. test (find n)) (numbers_of key items)) ≡ length (filter (λ p. same_key p.1.key key && test (Some p.1)) items)
  count-of key [] found = refl
  count-of key (p ∷ items) found =
      count-of-by (same_key p.1.key key) p (filter (λ p. same_key p.1.key key) items) (filter (λ p. same_key p.1.key key && test (Some p.1)) items) found.0
      (count-of key items found.1)

  any-of : (key : Key) (items : List (ℕ × ClaimValue)) → AreFound (λ c. same_key c.key key) find items
      → list_any (λ n. test (find n)) (numbers_of key items) ≡ list_any (λ c. same_key c.key key && test (Some c)) (values_of items)
  any-of key [] found = refl
  any-of key (p ∷ items) found =
      any-of-by (same_key p.1.key key) p (filter (λ p. same_key p.1.key key) items) (list_any (λ c. same_key c.key key && test (Some c)) (values_of items))
      found.0 (any-of key items found.1)

  module _ (a : AddressValue) where
    all-once : (has : Bool) (n : ℕ) (c : ClaimValue) (rest : List ℕ) → (has ≡ true → find n ≡ Some c)
        → list_all (λ n. test (find n)) (cond has (n ∷ []) [] ++ rest) ≡ ((not has || test (Some c)) && list_all (λ n. test (find n)) rest)
    all-once true n c rest is = rw (is refl) refl
    all-once false n c rest is = refl

    all-listed : (occupied : Bool) (n : ℕ) (c : ClaimValue) (addresses : List AddressValue) (rest : List ℕ)
        → (occupied && has_address addresses a ≡ true → find n ≡ Some c)
        → list_all (λ n. test (find n)) (cond occupied (numbered n addresses a) [] ++ rest)
        ≡ ((not (occupied && has_address addresses a) || test (Some c)) && list_all (λ n. test (find n)) rest)
    all-listed true n c addresses rest is = all-once (has_address addresses a) n c rest is
    all-listed false n c addresses rest is = refl

    all-at : (slot : Slot) (items : List (ℕ × ClaimValue)) → AreFound (λ c. occupies slot c && has_address c.holding.addresses a) find items
        → list_all (λ n. test (find n)) (numbers_at slot a items)
        ≡ list_all (λ c. not (occupies slot c && has_address c.holding.addresses a) || test (Some c)) (values_of items)
    all-at slot [] found = refl
    all-at slot (p ∷ items) found =
        all-listed (occupies slot p.1) p.0 p.1 p.1.holding.addresses (numbers_at slot a items) found.0
        ∙ ap (λ x. (not (occupies slot p.1 && has_address p.1.holding.addresses a) || test (Some p.1)) && x) (all-at slot items found.1)

-- ---- what is asked of the claims of a key, and of those that have an address
module _ (items : List (ℕ × ClaimValue)) (numbers : List ℕ) (sorted : is_nil numbers ≡ false → IsStrictlySortedBy nat_cmp (keys_of items)) where
  module _ (key : Key) (are : numbers ≡ numbers_of key items) where
    pub any-is : (test : Option ClaimValue → Bool)
        → list_any (λ n. test (under items n)) numbers ≡ list_any (λ c. same_key c.key key && test (Some c)) (values_of items)
    any-is test =
        ap (list_any (λ n. test (under items n))) are
        ∙ any-of (under items) test key items (found (λ c. same_key c.key key) numbers items (ap is_nil are ∙ nil-of key items) sorted)

    pub count-is : (test : Option ClaimValue → Bool)
        → length (filter (λ n. test (under items n)) numbers) ≡ length (filter (λ p. same_key p.1.key key && test (Some p.1)) items)
    count-is test =
        ap (λ (ns : List ℕ). length (filter (λ n. test (under items n)) ns)) are
        ∙ count-of (under items) test key items (found (λ c. same_key c.key key) numbers items (ap is_nil are ∙ nil-of key items) sorted)

    pub loses-is : (holding : Record) (terms : Terms)
        → list_any (λ n. not (is_claim_under holding terms (under items n))) numbers ≡ loses key holding terms (values_of items)
    loses-is holding terms = any-is (λ o. not (is_claim_under holding terms o))

    pub claims_it-is : (holding : Record) (terms : Terms)
        → list_any (λ n. is_claim_under holding terms (under items n)) numbers ≡ claims_it key holding terms (values_of items)
    claims_it-is holding terms = any-is (is_claim_under holding terms)

  module _ (slot : Slot) (a : AddressValue) (are : numbers ≡ numbers_at slot a items) where
    all-is : (test : Option ClaimValue → Bool) → list_all (λ n. test (under items n)) numbers
        ≡ list_all (λ c. not (occupies slot c && has_address c.holding.addresses a) || test (Some c)) (values_of items)
    all-is test =
        ap (list_all (λ n. test (under items n))) are
        ∙ all-at (under items) test a slot items
        (found (λ c. occupies slot c && has_address c.holding.addresses a) numbers items (ap is_nil are ∙ nil-at a slot items) sorted)

    -- each claim in the slot is of the key
    pub yields-is : (key : Key) → list_all (λ n. is_of key (under items n)) numbers ≡ list_all (yields key slot a) (values_of items)
    yields-is key = all-is (is_of key)

  pub all_leave-is : (a : AddressValue) (key : Key) (terms : Terms) → numbers ≡ numbers_at Any a items
      → list_all (λ n. gives_way key terms (under items n)) numbers ≡ list_all (leaves key terms a) (values_of items)
  all_leave-is a key terms are = all-is Any a are (gives_way key terms) ∙ leaves-each (values_of items)
    where
      leaves-each : (claims : List ClaimValue)
          → list_all (λ c. not (has_address c.holding.addresses a) || gives_way key terms (Some c)) claims ≡ list_all (leaves key terms a) claims
      leaves-each [] = refl
      leaves-each (c ∷ claims) =
          ap (λ x. x && list_all (λ c. not (has_address c.holding.addresses a) || gives_way key terms (Some c)) claims)
          (or-swap (not (has_address c.holding.addresses a)) (same_key c.key key) (may_share terms c.terms))
          ∙ ap (λ x. leaves key terms a c && x) (leaves-each claims)

not-not : (b : Bool) → not (not b) ≡ b
not-not true = refl
not-not false = refl

-- ---- an address is held in a slot where a claim there has it
pub held-is : (items : List (ℕ × ClaimValue)) (h : AddressHoldersValue) (listed : NumberedSlot) (slot : Slot)
    → claims_having h listed ≡ (λ a. numbers_at slot a items) → (a : AddressValue) → is_held_in h listed a ≡ is_taken slot (values_of items) a
held-is items h listed slot are a =
    ap (λ (f : AddressValue → List ℕ). not (is_nil (f a))) are
    ∙ ap not (nil-at a slot items)
    ∙ not-not (is_taken slot (values_of items) a)

-- ---- a key has a claim where it has a number
empty-is : (xs : List ℕ) → (length xs == 0) ≡ is_nil xs
empty-is [] = refl
empty-is (x ∷ xs) = grind (arith, nat_tests)

pub has_claims-is : (key : Key) (items : List (ℕ × ClaimValue)) (numbers : List ℕ) → numbers ≡ numbers_of key items
    → not (length numbers == 0) ≡ has_claims key (values_of items)
has_claims-is key items numbers are = ap not (empty-is numbers ∙ ap is_nil are ∙ nil-of key items) ∙ not-not (has_claims key (values_of items))

-- ---- an address has no claim where it has no number
pub unclaimed-is : (avoiding : Bool) (items : List (ℕ × ClaimValue)) (h : AddressHoldersValue) (listed : NumberedSlot) (slot : Slot)
    → claims_having h listed ≡ (λ a. numbers_at slot a items) → (family : Family)
    → ◌≡◌ {A = ℕ → Bool} (λ m. is_open_in avoiding h listed (address_of family m)) (λ m. is_open avoiding slot (values_of items) (address_of family m))
unclaimed-is avoiding items h listed slot are family =
    λ i m. not (avoiding && is_buggy (address_of family m))
    && (ap (λ (f : AddressValue → List ℕ). is_nil (f (address_of family m))) are ∙ nil-at (address_of family m) slot items) i
