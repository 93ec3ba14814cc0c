-- What is left of a claim in the index once it was removed.
use Rattle.std.proofs.Common.{◌≡◌, ℕ, ◌+◌, ◌<◌, ◌==◌, Bool, true, false, cond, not, ◌||◌, List, [], ◌∷◌, ◌++◌, filter, take}
use Rattle.std.proofs.Common.{length, get_or, Option, Some, None, Less, refl, sym, ap, ◌∙◌, subst, ⊎_elim, ◌⊎◌, inr}
use Rattle.std.proofs.lemmas.Bool.{true≢false, cases_Bool, eq-eqb, eqb-true}
use Rattle.std.proofs.lemmas.Bool.Decides.{same_from_decides}
use Rattle.std.proofs.lemmas.List.{take_more}
use Rattle.std.proofs.lemmas.List.Elements.{filter-append}
use Rattle.std.proofs.lemmas.List.Folds.{list_any-append}
use Rattle.std.proofs.lemmas.List.Kept.{IsStrictlySortedBy-filter}
use Rattle.std.proofs.lemmas.Option.{same_Some}
use Rattle.std.proofs.lemmas.Map.Keys.{sorted_head, sorted_tail}
use Rattle.std.specs.BTreeMap.{is_at}
use Rattle.std.specs.List.{Contains, AllByRecursion}
use Rattle.std.specs.List.Sorted.{IsStrictlySortedBy}
use Rattle.std.specs.Map.{lookup, keys_of, values_of}
use Rattle.std.specs.Ordering.{nat_cmp}
use Rattle.ip_ranges.specs.Values.{AddressValue, has_address, same_address}
use Rattle.ip_ranges.proofs.AddressLaws.{same_address-is, same_address-itself}
use Rattle.kube_model.specs.declared.key.Key.{Key}
use Rattle.kube_model.specs.Keys.{key_cmp, same_key}
use Rattle.kube_model.proofs.KeyLaws.{is_eq-key_cmp}
use Rattle.mlb_base.proofs.Among.{contains-none, contains-cons, contains-first, contains-later}
use Rattle.numbered_items.specs.Index.{IndexValue, numbers_under}
use Rattle.claim_index.specs.Claims.{AreAssigned, ClaimValue}
use Rattle.claim_index.specs.GroupNumbers.{GroupsValue}
use Rattle.address_holders.specs.Holders.{AddressHoldersValue}
use Rattle.claim_index.specs.ListedClaims.{claims_in}
use Rattle.claim_index.specs.Index.{numbers_of, numbered, numbered_at, numbers_at, HaveSharingGroups, IsIndexed}
use Rattle.claim_index.specs.Slots.{Slot}
use Rattle.claim_index.specs.Slots.{occupies}
use Rattle.claim_index.specs.Removal.{all_but, left_at}
use Rattle.claim_index.proofs.IndexReading.{below-apart}

-- ---- lists
module _ {X : Type 0} (test : X → Bool) where
  once-by : (b : Bool) (x : X) (rest : List X) → test x ≡ b → filter test rest ≡ rest → filter test (cond b (x ∷ rest) rest) ≡ cond b (x ∷ rest) rest
  once-by true x rest e ih = rw e (ap (λ (l : List X). x ∷ l) ih)
  once-by false x rest e ih = ih

  -- filtering twice is filtering once
  pub filter-once : (xs : List X) → filter test (filter test xs) ≡ filter test xs
  filter-once [] = refl
  filter-once (x ∷ xs) = once-by (test x) x (filter test xs) refl (filter-once xs)

-- ---- addresses one at a time
same_address-flip : (a b : AddressValue) → same_address a b ≡ same_address b a
same_address-flip a b =
    same_from_decides (same_address a b) (same_address b a) (same_address-is a b, λ (e : a ≡ b). subst (λ x. same_address a x ≡ true) e (same_address-itself a))
    (λ e. sym (same_address-is b a e), λ (e : a ≡ b). subst (λ x. same_address x a ≡ true) e (same_address-itself a))

left-by : (had here : Bool) (n : ℕ) (numbers : List ℕ) → cond here (all_but n (cond had (all_but n numbers) numbers)) (cond had (all_but n numbers) numbers)
    ≡ cond (had || (here || false)) (all_but n numbers) numbers
left-by true true n numbers = filter-once (λ m. not (m == n)) numbers
left-by true false n numbers = refl
left-by false true n numbers = refl
left-by false false n numbers = refl

-- one address more
left-more : (n : ℕ) (xs : List AddressValue) (x : AddressValue) (numbers : AddressValue → List ℕ)
    → (λ (a : AddressValue). cond (same_address x a) (all_but n (left_at n xs numbers a)) (left_at n xs numbers a)) ≡ left_at n (xs ++ x ∷ []) numbers
left-more n xs x numbers = λ i a. at a i
  where
    at : (a : AddressValue) → cond (same_address x a) (all_but n (left_at n xs numbers a)) (left_at n xs numbers a) ≡ left_at n (xs ++ x ∷ []) numbers a
    at a =
        rw (list_any-append (same_address a) xs (x ∷ []), same_address-flip x a)
        (left-by (has_address xs a) (same_address a x) n (numbers a))

pub left-next : (n : ℕ) (xs : List AddressValue) (i : ℕ) (x : AddressValue) (numbers so_far : AddressValue → List ℕ) → i < length xs → x ≡ get_or xs i x
    → so_far ≡ left_at n (take i xs) numbers
    → (λ (a : AddressValue). cond (same_address x a) (all_but n (so_far a)) (so_far a)) ≡ left_at n (take (i + 1) xs) numbers
left-next n xs i x numbers so_far within is e =
    ap taken e
    ∙ left-more n (take i xs) x numbers
    ∙ ap (λ (l : List AddressValue). left_at n l numbers) (sym (take_more xs i x within ∙ ap (λ (y : AddressValue). take i xs ++ y ∷ []) (sym is)))
  where
    taken : (AddressValue → List ℕ) → AddressValue → List ℕ
    taken f a = cond (same_address x a) (all_but n (f a)) (f a)

-- ---- numbers that ascend
above : (n : ℕ) (items : List (ℕ × ClaimValue)) → AllByRecursion (λ m. nat_cmp n m ≡ Less) (keys_of items) → (p : ℕ × ClaimValue) → Contains items p
    → nat_cmp n p.0 ≡ Less
above n [] all p there = absurd (contains-none p there)
above n (q ∷ items) all p there =
    ⊎_elim (λ (same : q ≡ p). subst (λ (r : ℕ × ClaimValue). nat_cmp n r.0 ≡ Less) same all.0) (λ later. above n items all.1 p later)
    (contains-cons q items p there)

-- each claim is found by its number
abbrev pub AreFound : List (ℕ × ClaimValue) → Type 0
AreFound items = (p : ℕ × ClaimValue) → Contains items p → lookup (λ n. n == p.0) items ≡ Some p.1

are-found : (items : List (ℕ × ClaimValue)) → IsStrictlySortedBy nat_cmp (keys_of items) → AreFound items
are-found [] sorted p there = absurd (contains-none p there)
are-found (q ∷ items) sorted p there =
    ⊎_elim
    (λ (same : q ≡ p). subst (λ (r : ℕ × ClaimValue). lookup (λ n. n == r.0) (q ∷ items) ≡ Some r.1) same (rw (eq-eqb q.0 q.0 refl) refl))
    (λ later.
    let apart = below-apart q.0 p.0 (above q.0 items (sorted_head nat_cmp q.0 (keys_of items) sorted) p later) in
    rw apart (are-found items (sorted_tail nat_cmp q.0 (keys_of items) sorted) p later))
    (contains-cons q items p there)

-- a claim of this number is this one
abbrev pub IsOnly : ℕ → ClaimValue → List (ℕ × ClaimValue) → Type 0
IsOnly n c items = (p : ℕ × ClaimValue) → Contains items p → (p.0 == n) ≡ true → p.1 ≡ c

is-only : (n : ℕ) (c : ClaimValue) (items : List (ℕ × ClaimValue)) → AreFound items → lookup (λ m. m == n) items ≡ Some c → IsOnly n c items
is-only n c items found e p there same =
    same_Some p.1 c (sym (found p there) ∙ ap (λ (k : ℕ). lookup (λ m. m == k) items) (eqb-true p.0 n same) ∙ e)

only-tail : (n : ℕ) (c : ClaimValue) (q : ℕ × ClaimValue) (items : List (ℕ × ClaimValue)) → IsOnly n c (q ∷ items) → IsOnly n c items
only-tail n c q items only p there same = only p (contains-later q items p there) same

-- ---- the claims without one
abbrev pub without : ℕ → List (ℕ × ClaimValue) → List (ℕ × ClaimValue)
without n items = filter (λ p. not (p.0 == n)) items

keys-by : (b : Bool) (p : ℕ × ClaimValue) (rest : List (ℕ × ClaimValue)) (others : List ℕ) → keys_of rest ≡ others
    → keys_of (cond b (p ∷ rest) rest) ≡ cond b (p.0 ∷ others) others
keys-by true p rest others ih = ap (λ (l : List ℕ). p.0 ∷ l) ih
keys-by false p rest others ih = ih

keys-without : (n : ℕ) (items : List (ℕ × ClaimValue)) → keys_of (without n items) ≡ all_but n (keys_of items)
keys-without n [] = refl
keys-without n (p ∷ items) = keys-by (not (p.0 == n)) p (without n items) (all_but n (keys_of items)) (keys-without n items)

ascending-without : (n : ℕ) (items : List (ℕ × ClaimValue)) → IsStrictlySortedBy nat_cmp (keys_of items)
    → IsStrictlySortedBy nat_cmp (keys_of (without n items))
ascending-without n items sorted =
    subst (IsStrictlySortedBy nat_cmp) (sym (keys-without n items)) (IsStrictlySortedBy-filter nat_cmp (λ m. not (m == n)) (keys_of items) sorted)

among-by : (b : Bool) (p : ℕ × ClaimValue) (rest : List (ℕ × ClaimValue)) (c : ClaimValue) → Contains (values_of (cond b (p ∷ rest) rest)) c
    → (p.1 ≡ c) ⊎ Contains (values_of rest) c
among-by true p rest c there = contains-cons p.1 (values_of rest) c there
among-by false p rest c there = inr there

among : (n : ℕ) (items : List (ℕ × ClaimValue)) (c : ClaimValue) → Contains (values_of (without n items)) c → Contains (values_of items) c
among n [] c there = absurd (contains-none c there)
among n (p ∷ items) c there =
    ⊎_elim
    (λ (same : p.1 ≡ c). subst (Contains (p.1 ∷ values_of items)) same (contains-first p.1 (values_of items)))
    (λ later. contains-later p.1 (values_of items) c (among n items c later))
    (among-by (not (p.0 == n)) p (without n items) c there)

assigned-without : (n : ℕ) (items : List (ℕ × ClaimValue)) → AreAssigned (values_of items) → AreAssigned (values_of (without n items))
assigned-without n items all c there = all c (among n items c there)

groups-without : (n : ℕ) (items : List (ℕ × ClaimValue)) → HaveSharingGroups (values_of items) → HaveSharingGroups (values_of (without n items))
groups-without n items all c there = all c (among n items c there)

-- ---- the numbers of each key
of-by : (of_key here : Bool) (n : ℕ) (p : ℕ × ClaimValue) (rest : List (ℕ × ClaimValue)) (key : Key) → same_key p.1.key key ≡ of_key → (p.0 == n) ≡ here
    → numbers_of key (without n rest) ≡ all_but n (numbers_of key rest)
    → numbers_of key (cond (not here) (p ∷ without n rest) (without n rest))
    ≡ all_but n (keys_of (cond of_key (p ∷ filter (λ q. same_key q.1.key key) rest) (filter (λ q. same_key q.1.key key) rest)))
of-by true true n p rest key s t ih = rw t ih
of-by true false n p rest key s t ih = rw (s, t) (ap (λ (l : List ℕ). p.0 ∷ l) ih)
of-by false true n p rest key s t ih = ih
of-by false false n p rest key s t ih = rw s ih

of-without : (n : ℕ) (items : List (ℕ × ClaimValue)) (key : Key) → numbers_of key (without n items) ≡ all_but n (numbers_of key items)
of-without n [] key = refl
of-without n (p ∷ items) key = of-by (same_key p.1.key key) (p.0 == n) n p items key refl refl (of-without n items key)

never : (b : Bool) → (b ≡ true → ⊥) → b ≡ false
never b refuted = ⊎_elim (λ (e : b ≡ true). absurd (refuted e)) (λ e. e) (cases_Bool b)

other-by : (of_key : Bool) (n : ℕ) (p : ℕ × ClaimValue) (rest : List (ℕ × ClaimValue)) → (of_key ≡ true → (p.0 == n) ≡ false)
    → all_but n (keys_of rest) ≡ keys_of rest
    → all_but n (keys_of (cond of_key (p ∷ rest) rest)) ≡ keys_of (cond of_key (p ∷ rest) rest)
other-by true n p rest apart ih = rw (apart refl) (ap (λ (l : List ℕ). p.0 ∷ l) ih)
other-by false n p rest apart ih = ih

-- no claim of another key has the number
of-others : (n : ℕ) (c : ClaimValue) (items : List (ℕ × ClaimValue)) (key : Key) → IsOnly n c items → same_key c.key key ≡ false
    → all_but n (numbers_of key items) ≡ numbers_of key items
of-others n c [] key only other = refl
of-others n c (p ∷ items) key only other =
    other-by (same_key p.1.key key) n p (filter (λ q. same_key q.1.key key) items)
    (λ of_key. never (p.0 == n)
    (λ same. true≢false (sym of_key ∙ ap (λ (x : ClaimValue). same_key x.key key) (only p (contains-first p items) same) ∙ other)))
    (of-others n c items key (only-tail n c p items only) other)

of-left : (b : Bool) (n : ℕ) (c : ClaimValue) (items : List (ℕ × ClaimValue)) (key : Key) → IsOnly n c items → same_key c.key key ≡ b
    → cond b (all_but n (numbers_of key items)) (numbers_of key items) ≡ numbers_of key (without n items)
of-left true n c items key only e = sym (of-without n items key)
of-left false n c items key only e = sym (of-without n items key ∙ of-others n c items key only e)

keys-left : (n : ℕ) (c : ClaimValue) (items : List (ℕ × ClaimValue)) (before after : IndexValue Key) → IsOnly n c items
    → numbers_under key_cmp before ≡ (λ key. numbers_of key items)
    → numbers_under key_cmp after ≡ (λ key. cond (is_at (key_cmp c.key) key) (all_but n (numbers_under key_cmp before key)) (numbers_under key_cmp before key))
    → numbers_under key_cmp after ≡ (λ key. numbers_of key (without n items))
keys-left n c items before after only e change = change ∙ (λ i key. at key i)
  where
    at : (key : Key)
        → cond (is_at (key_cmp c.key) key) (all_but n (numbers_under key_cmp before key)) (numbers_under key_cmp before key) ≡ numbers_of key (without n items)
    at key =
        ap (λ (f : Key → List ℕ). cond (is_at (key_cmp c.key) key) (all_but n (f key)) (f key)) e
        ∙ of-left (is_at (key_cmp c.key) key) n c items key only (sym (is_eq-key_cmp c.key key))

-- ---- the numbers at each address
here-by : (b has : Bool) (n m : ℕ) → (m == n) ≡ b → all_but n (cond has (m ∷ []) []) ≡ cond (not b) (cond has (m ∷ []) []) []
here-by true true n m e = rw e refl
here-by false true n m e = rw e refl
here-by true false n m e = refl
here-by false false n m e = refl

at-by : (b : Bool) (n : ℕ) (slot : Slot) (a : AddressValue) (p : ℕ × ClaimValue) (rest : List (ℕ × ClaimValue)) (numbers : List ℕ)
    → numbers_at slot a rest ≡ numbers
    → numbers_at slot a (cond (not b) (p ∷ rest) rest) ≡ cond (not b) (numbered_at slot a p) [] ++ numbers
at-by true n slot a p rest numbers ih = ih
at-by false n slot a p rest numbers ih = ap (λ (l : List ℕ). numbered_at slot a p ++ l) ih

-- the number of a claim is taken out of its list
here-at : (occupied : Bool) (n m : ℕ) (xs : List AddressValue) (a : AddressValue)
    → all_but n (cond occupied (numbered m xs a) []) ≡ cond (not (m == n)) (cond occupied (numbered m xs a) []) []
here-at true n m xs a = here-by (m == n) (has_address xs a) n m refl
here-at false n m xs a = nothing-left (not (m == n))
  where
    nothing-left : (b : Bool) → ◌≡◌ {A = List ℕ} [] (cond b [] [])
    nothing-left true = refl
    nothing-left false = refl

at-without : (n : ℕ) (slot : Slot) (items : List (ℕ × ClaimValue)) (a : AddressValue)
    → numbers_at slot a (without n items) ≡ all_but n (numbers_at slot a items)
at-without n slot [] a = refl
at-without n slot (p ∷ items) a =
    at-by (p.0 == n) n slot a p (without n items) (all_but n (numbers_at slot a items)) (at-without n slot items a)
    ∙ ap (λ (l : List ℕ). l ++ all_but n (numbers_at slot a items)) (sym (here-at (occupies slot p.1) n p.0 p.1.holding.addresses a))
    ∙ sym (filter-append (λ m. not (m == n)) (numbered_at slot a p) (numbers_at slot a items))

pub or-none : (x y : Bool) → (x || y) ≡ false → (x ≡ false) × (y ≡ false)
or-none true y e = absurd (true≢false e)
or-none false y e = (refl, e)

elsewhere-by : (b has : Bool) (n m : ℕ) → (m == n) ≡ b → (b ≡ true → has ≡ false) → all_but n (cond has (m ∷ []) []) ≡ cond has (m ∷ []) []
elsewhere-by true has n m e none = rw (none refl) refl
elsewhere-by false has n m e none = here-by false has n m e

elsewhere-at : (occupied b : Bool) (n m : ℕ) (xs : List AddressValue) (a : AddressValue) → (m == n) ≡ b
    → (b ≡ true → occupied ≡ true → has_address xs a ≡ false)
    → all_but n (cond occupied (numbered m xs a) []) ≡ cond occupied (numbered m xs a) []
elsewhere-at true b n m xs a e none = elsewhere-by b (has_address xs a) n m e (λ same. none same refl)
elsewhere-at false b n m xs a e none = refl

-- no claim has the number in a slot at an address where the claim of the number isn't listed
at-others : (n : ℕ) (slot : Slot) (c : ClaimValue) (items : List (ℕ × ClaimValue)) (a : AddressValue) → IsOnly n c items
    → (occupies slot c ≡ true → has_address c.holding.addresses a ≡ false)
    → all_but n (numbers_at slot a items) ≡ numbers_at slot a items
at-others n slot c [] a only other = refl
at-others n slot c (p ∷ items) a only other =
    let here : all_but n (numbered_at slot a p) ≡ numbered_at slot a p =
    elsewhere-at (occupies slot p.1) (p.0 == n) n p.0 p.1.holding.addresses a refl
    (λ same occupied. let is : p.1 ≡ c = only p (contains-first p items) same in
    ap (λ (x : ClaimValue). has_address x.holding.addresses a) is ∙ other (ap (λ (x : ClaimValue). occupies slot x) (sym is) ∙ occupied)) in
    filter-append (λ m. not (m == n)) (numbered_at slot a p) (numbers_at slot a items)
    ∙ ap (λ (l : List ℕ). l ++ all_but n (numbers_at slot a items)) here
    ∙ ap (λ (l : List ℕ). numbered_at slot a p ++ l) (at-others n slot c items a (only-tail n c p items only) other)

at-left : (b : Bool) (n : ℕ) (slot : Slot) (c : ClaimValue) (items : List (ℕ × ClaimValue)) (a : AddressValue) → IsOnly n c items
    → has_address c.holding.addresses a ≡ b
    → cond b (all_but n (numbers_at slot a items)) (numbers_at slot a items) ≡ numbers_at slot a (without n items)
at-left true n slot c items a only e = sym (at-without n slot items a)
at-left false n slot c items a only e = sym (at-without n slot items a ∙ at-others n slot c items a only (λ occupied. e))

-- the numbers in a slot, by whether the claim was listed there
slot-left : (b : Bool) (n : ℕ) (slot : Slot) (c : ClaimValue) (items : List (ℕ × ClaimValue)) → IsOnly n c items → occupies slot c ≡ b
    → cond b (left_at n c.holding.addresses (λ a. numbers_at slot a items)) (λ a. numbers_at slot a items) ≡ (λ a. numbers_at slot a (without n items))
slot-left true n slot c items only e = λ i a. at-left (has_address c.holding.addresses a) n slot c items a only refl i
slot-left false n slot c items only e =
    λ i a. sym (at-without n slot items a ∙ at-others n slot c items a only (λ occupied. absurd (true≢false (sym occupied ∙ e)))) i

holders-left : (groups : GroupsValue) (n : ℕ) (c : ClaimValue) (items : List (ℕ × ClaimValue)) (before after : AddressHoldersValue) → IsOnly n c items
    → ((slot : Slot) → claims_in groups before slot ≡ (λ a. numbers_at slot a items))
    → ((slot : Slot)
    → claims_in groups after slot ≡ cond (occupies slot c) (left_at n c.holding.addresses (claims_in groups before slot)) (claims_in groups before slot))
    → (slot : Slot) → claims_in groups after slot ≡ (λ a. numbers_at slot a (without n items))
holders-left groups n c items before after only e change slot =
    change slot
    ∙ ap (λ (f : AddressValue → List ℕ). cond (occupies slot c) (left_at n c.holding.addresses f) f) (e slot)
    ∙ slot-left (occupies slot c) n slot c items only refl

-- ---- the index without a claim
none-by : (b : Bool) (c : ClaimValue) (found : Option ClaimValue) → cond b (Some c) found ≡ None → b ≡ false
none-by true c found e = absurd (cc)
none-by false c found e = refl

without-none : (n : ℕ) (items : List (ℕ × ClaimValue)) → lookup (λ m. m == n) items ≡ None → without n items ≡ items
without-none n [] e = refl
without-none n (p ∷ items) e =
    let apart = none-by (p.0 == n) p.1 (lookup (λ m. m == n) items) e in
    rw apart (ap (λ (l : List (ℕ × ClaimValue)). p ∷ l)
    (without-none n items (ap (λ (b : Bool). cond b (Some p.1) (lookup (λ m. m == n) items)) (sym apart) ∙ e)))

-- the claim of the number went, from the claims and from what they are found by
module _ (n : ℕ) (items less : List (ℕ × ClaimValue)) (is : less ≡ without n items) (sorted : IsStrictlySortedBy nat_cmp (keys_of items)) where
  pub removed-ascending : IsStrictlySortedBy nat_cmp (keys_of less)
  removed-ascending = subst (λ (l : List (ℕ × ClaimValue)). IsStrictlySortedBy nat_cmp (keys_of l)) (sym is) (ascending-without n items sorted)

  pub removed-assigned : AreAssigned (values_of items) → AreAssigned (values_of less)
  removed-assigned all = subst (λ (l : List (ℕ × ClaimValue)). AreAssigned (values_of l)) (sym is) (assigned-without n items all)

  pub removed-groups : HaveSharingGroups (values_of items) → HaveSharingGroups (values_of less)
  removed-groups all = subst (λ (l : List (ℕ × ClaimValue)). HaveSharingGroups (values_of l)) (sym is) (groups-without n items all)

  module _ (c : ClaimValue) (found : Some c ≡ lookup (λ m. m == n) items) where
    only : IsOnly n c items
    only = is-only n c items (are-found items sorted) (sym found)

    pub removed-keys : (key : Key) (before after : IndexValue Key) → key ≡ c.key
        → numbers_under key_cmp before ≡ (λ k. numbers_of k items)
        → numbers_under key_cmp after ≡ (λ k. cond (is_at (key_cmp key) k) (all_but n (numbers_under key_cmp before k)) (numbers_under key_cmp before k))
        → numbers_under key_cmp after ≡ (λ k. numbers_of k less)
    removed-keys key before after same e change =
        subst (λ (l : List (ℕ × ClaimValue)). numbers_under key_cmp after ≡ (λ k. numbers_of k l)) (sym is)
        (keys-left n c items before after only e
        (subst (λ (q : Key). numbers_under key_cmp after
        ≡ (λ k. cond (is_at (key_cmp q) k) (all_but n (numbers_under key_cmp before k)) (numbers_under key_cmp before k))) same change))

    pub removed-holders : (groups : GroupsValue) (before after : AddressHoldersValue)
        → ((slot : Slot) → claims_in groups before slot ≡ (λ a. numbers_at slot a items))
        → ((slot : Slot)
        → claims_in groups after slot ≡ cond (occupies slot c) (left_at n c.holding.addresses (claims_in groups before slot)) (claims_in groups before slot))
        → (slot : Slot) → claims_in groups after slot ≡ (λ a. numbers_at slot a less)
    removed-holders groups before after e change =
        subst (λ (l : List (ℕ × ClaimValue)). (slot : Slot) → claims_in groups after slot ≡ (λ a. numbers_at slot a l)) (sym is)
        (holders-left groups n c items before after only e change)

-- where no claim has the number all stays
pub indexed-still : (n : ℕ) (items less : List (ℕ × ClaimValue)) (by_key : IndexValue Key) (groups : GroupsValue) (h : AddressHoldersValue)
    → less ≡ without n items → None ≡ lookup (λ m. m == n) items → IsIndexed items by_key groups h → IsIndexed less by_key groups h
indexed-still n items less by_key groups h is none indexed =
    subst (λ (l : List (ℕ × ClaimValue)). IsIndexed l by_key groups h) (sym (is ∙ without-none n items (sym none))) indexed
