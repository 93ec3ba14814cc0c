-- The items of the slots of a numbered list that was changed.
use Rattle.std.proofs.Common.{◌≡◌, ℕ, ◌+◌, ◌<◌, ◌≤◌, ◌^◌, ◌==◌, Bool, true, false, cond, not, ◌&&◌, List, [], ◌∷◌, ◌++◌, filter, Option}
use Rattle.std.proofs.Common.{Some, None, is_some, Ordering, Less, Equal, Greater, is_eq, refl, sym, ap, subst, arith, All, nat_lt}
use Rattle.std.specs.Ordering.{nat_cmp, match_ordering, is_le}
use Rattle.std.specs.Option.{option_flatten}
use Rattle.std.specs.List.{AllByRecursion, find}
use Rattle.std.specs.List.Sorted.{IsStrictlySortedBy}
use Rattle.std.specs.Map.{lookup, remove_entry, set_value, keys_of}
use Rattle.std.specs.BTreeMap.{insert_entry, is_at}
use Rattle.std.specs.BTreeMap.Range.{entries_between}
use Rattle.std.specs.declared.ops.Bound.TheVariants.{Included, Unbounded}
use Rattle.std.proofs.lemmas.Bool.Decides.{nat_tests}
use Rattle.std.proofs.lemmas.List.Elements.{All-nil, All-cons}
use Rattle.std.proofs.lemmas.Map.{NonePasses, lookup-none}
use Rattle.mlb_base.proofs.Orders.{less_is, less_apart}
use Rattle.numbered_items.specs.Numbered.{item_of, items_of, IsSlot}

-- ---- numbers
at-is : (q n : ℕ) → is_eq (nat_cmp q n) ≡ (n == q)
at-is q n = grind (arith, nat_tests)

at-here : (q n : ℕ) → is_eq (nat_cmp q n) ≡ true → q ≡ n
at-here q n e = grind (arith, nat_tests)

not-here : (q n : ℕ) → is_eq (nat_cmp q n) ≡ false → n ≡ q → ⊥
not-here q n e same = grind (arith, nat_tests)

given-apart : (n next number : ℕ) → n < next → next ≤ number → (n == number) ≡ false
given-apart n next number below from = grind (arith, nat_tests)

from-is : (number n : ℕ) → (is_le (nat_cmp number n) && true) ≡ not (nat_lt n number)
from-is number n = grind (arith, nat_tests)

-- ---- the items of slots
module _ {X : Type 0} where
  -- the item of the first slot
  abbrev pub first_item : List (ℕ × Option X) → Option (ℕ × X)
  first_item [] = None
  first_item (s ∷ slots) = item_of s

  filter-none : (test : ℕ → Bool) (items : List (ℕ × X)) → NonePasses test items → filter (λ p. not (test p.0)) items ≡ items
  filter-none test [] none = refl
  filter-none test (p ∷ items) none = rw none.0 (ap (λ (l : List (ℕ × X)). p ∷ l) (filter-none test items none.1))

  all-items-by : (P : ℕ → Type 0) (n : ℕ) (slot : Option X) (slots : List (ℕ × Option X)) → P n → AllByRecursion P (keys_of (items_of slots))
      → AllByRecursion P (keys_of (items_of ((n, slot) ∷ slots)))
  all-items-by P n None slots first rest = rest
  all-items-by P n (Some x) slots first rest = (first, rest)

  all-items : (P : ℕ → Type 0) (slots : List (ℕ × Option X)) → AllByRecursion P (keys_of slots) → AllByRecursion P (keys_of (items_of slots))
  all-items P [] all = tt
  all-items P (s ∷ slots) all = all-items-by P s.0 s.1 slots all.0 (all-items P slots all.1)

  ascending-by : (n : ℕ) (slot : Option X) (slots : List (ℕ × Option X)) → AllByRecursion (λ m. nat_cmp n m ≡ Less) (keys_of slots)
      → IsStrictlySortedBy nat_cmp (keys_of (items_of slots))
      → IsStrictlySortedBy nat_cmp (keys_of (items_of ((n, slot) ∷ slots)))
  unfolding IsStrictlySortedBy
  ascending-by n None slots above rest = rest
  ascending-by n (Some x) slots above rest = (all-items (λ m. nat_cmp n m ≡ Less) slots above, rest)

  pub ascending-items : (slots : List (ℕ × Option X)) → IsStrictlySortedBy nat_cmp (keys_of slots) → IsStrictlySortedBy nat_cmp (keys_of (items_of slots))
  unfolding IsStrictlySortedBy
  ascending-items [] s = tt
  ascending-items (s ∷ slots) sorted = ascending-by s.0 s.1 slots sorted.0 (ascending-items slots sorted.1)

  -- no item after a slot has its number
  apart-behind-by : (n m : ℕ) (slot : Option X) (slots : List (ℕ × Option X)) → nat_cmp n m ≡ Less → NonePasses (λ k. k == n) (items_of slots)
      → NonePasses (λ k. k == n) (items_of ((m, slot) ∷ slots))
  apart-behind-by n m None slots less rest = rest
  apart-behind-by n m (Some x) slots less rest = (less_apart n m less, rest)

  apart-behind : (n : ℕ) (slots : List (ℕ × Option X)) → AllByRecursion (λ m. nat_cmp n m ≡ Less) (keys_of slots) → NonePasses (λ k. k == n) (items_of slots)
  apart-behind n [] above = tt
  apart-behind n (s ∷ slots) above = apart-behind-by n s.0 s.1 slots above.0 (apart-behind n slots above.1)

  -- ---- a slot was removed
  removed-by : (here : Bool) (number n : ℕ) (slot : Option X) (slots less : List (ℕ × Option X)) → (n == number) ≡ here
      → (here ≡ true → NonePasses (λ k. k == number) (items_of slots))
      → items_of less ≡ filter (λ p. not (p.0 == number)) (items_of slots)
      → items_of (cond here slots ((n, slot) ∷ less)) ≡ filter (λ p. not (p.0 == number)) (items_of ((n, slot) ∷ slots))
  removed-by true number n None slots less e apart ih = sym (filter-none (λ k. k == number) (items_of slots) (apart refl))
  removed-by true number n (Some x) slots less e apart ih = rw e (sym (filter-none (λ k. k == number) (items_of slots) (apart refl)))
  removed-by false number n None slots less e apart ih = ih
  removed-by false number n (Some x) slots less e apart ih = rw e (ap (λ (l : List (ℕ × X)). (n, x) ∷ l) ih)

  apart-here : (number n : ℕ) (slots : List (ℕ × Option X)) → AllByRecursion (λ m. nat_cmp n m ≡ Less) (keys_of slots) → is_eq (nat_cmp number n) ≡ true
      → NonePasses (λ k. k == number) (items_of slots)
  apart-here number n slots above e = subst (λ (q : ℕ). NonePasses (λ k. k == q) (items_of slots)) (sym (at-here number n e)) (apart-behind n slots above)

  pub items-removed : (number : ℕ) (slots : List (ℕ × Option X)) → IsStrictlySortedBy nat_cmp (keys_of slots)
      → items_of (remove_entry (is_at (nat_cmp number)) slots) ≡ filter (λ p. not (p.0 == number)) (items_of slots)
  unfolding IsStrictlySortedBy
  items-removed number [] s = refl
  items-removed number (s ∷ slots) sorted =
      removed-by (is_eq (nat_cmp number s.0)) number s.0 s.1 slots (remove_entry (is_at (nat_cmp number)) slots) (sym (at-is number s.0))
      (apart-here number s.0 slots sorted.0)
      (items-removed number slots sorted.1)

  all-removed-by : (b : Bool) (P : ℕ × Option X → Type 0) (s : ℕ × Option X) (slots less : List (ℕ × Option X)) → P s → AllByRecursion P slots
      → AllByRecursion P less
      → AllByRecursion P (cond b slots (s ∷ less))
  all-removed-by true P s slots less first rest ih = rest
  all-removed-by false P s slots less first rest ih = (first, ih)

  all-removed : (P : ℕ × Option X → Type 0) (test : ℕ → Bool) (slots : List (ℕ × Option X)) → AllByRecursion P slots
      → AllByRecursion P (remove_entry test slots)
  all-removed P test [] all = tt
  all-removed P test (s ∷ slots) all = all-removed-by (test s.0) P s slots (remove_entry test slots) all.0 all.1 (all-removed P test slots all.1)

  all-filtered-by : (b : Bool) (P : ℕ × Option X → Type 0) (s : ℕ × Option X) (less : List (ℕ × Option X)) → P s → AllByRecursion P less
      → AllByRecursion P (cond b (s ∷ less) less)
  all-filtered-by true P s less first ih = (first, ih)
  all-filtered-by false P s less first ih = ih

  all-filtered : (P : ℕ × Option X → Type 0) (test : ℕ × Option X → Bool) (slots : List (ℕ × Option X)) → AllByRecursion P slots
      → AllByRecursion P (filter test slots)
  all-filtered P test [] all = tt
  all-filtered P test (s ∷ slots) all = all-filtered-by (test s) P s (filter test slots) all.0 (all-filtered P test slots all.1)

-- ---- the slots up to the next number
module _ {X : Type 0} (next : ℕ) where
  abbrev pub AllSlots : List (ℕ × Option X) → Type 0
  AllSlots slots = AllByRecursion (λ slot. IsSlot next slot.0 slot.1) slots

  within : (n : ℕ) (slot : Option X) → IsSlot next n slot → n ≤ next
  within n None is = omega (arith, is.0)
  within n (Some x) is = omega (arith, is)

  -- the slot for the next number is the last
  last-slot : (slots : List (ℕ × Option X)) → AllByRecursion (λ m. nat_cmp next m ≡ Less) (keys_of slots) → AllSlots slots → slots ≡ []
  last-slot [] above all = refl
  last-slot (s ∷ slots) above all =
      let above : next < s.0 = less_is next s.0 above.0 in
      let below : s.0 ≤ next = within s.0 s.1 all.0 in
      absurd (omega (arith, above, below))

  -- no item has a number that wasn't given
  apart-by : (number n : ℕ) (slot : Option X) (slots : List (ℕ × Option X)) → next ≤ number → IsSlot next n slot
      → NonePasses (λ k. k == number) (items_of slots) → NonePasses (λ k. k == number) (items_of ((n, slot) ∷ slots))
  apart-by number n None slots from is rest = rest
  apart-by number n (Some x) slots from is rest = (given-apart n next number is from, rest)

  apart : (number : ℕ) (slots : List (ℕ × Option X)) → next ≤ number → AllSlots slots → NonePasses (λ k. k == number) (items_of slots)
  apart number [] from all = tt
  apart number (s ∷ slots) from all = apart-by number s.0 s.1 slots from all.0 (apart number slots from all.1)

  pub lookup-not_given : (number : ℕ) (slots : List (ℕ × Option X)) → next ≤ number → AllSlots slots → lookup (λ n. n == number) (items_of slots) ≡ None
  lookup-not_given number slots from all = lookup-none (λ n. n == number) (items_of slots) (apart number slots from all)

  pub filter-not_given : (number : ℕ) (slots : List (ℕ × Option X)) → next ≤ number → AllSlots slots
      → filter (λ p. not (p.0 == number)) (items_of slots) ≡ items_of slots
  filter-not_given number slots from all = filter-none (λ n. n == number) (items_of slots) (apart number slots from all)

  fresh-by : (n : ℕ) (slot : Option X) (slots : List (ℕ × Option X)) → IsSlot next n slot → All (λ p. p.0 < next) (items_of slots)
      → All (λ p. p.0 < next) (items_of ((n, slot) ∷ slots))
  fresh-by n None slots is rest = rest
  fresh-by n (Some x) slots is rest = All-cons (λ p. p.0 < next) (n, x) (items_of slots) is rest

  pub fresh : (slots : List (ℕ × Option X)) → AllSlots slots → All (λ p. p.0 < next) (items_of slots)
  fresh [] all = All-nil (λ p. p.0 < next)
  fresh (s ∷ slots) all = fresh-by s.0 s.1 slots all.0 (fresh slots all.1)

  -- ---- a look-up
  found-by : (here : Bool) (number n : ℕ) (slot : Option X) (slots : List (ℕ × Option X)) → (n == number) ≡ here → (here ≡ true → number ≡ n)
      → IsSlot next n slot → AllSlots slots
      → lookup (λ k. k == number) (items_of slots) ≡ option_flatten (lookup (is_at (nat_cmp number)) slots)
      → lookup (λ k. k == number) (items_of ((n, slot) ∷ slots)) ≡ option_flatten (cond here (Some slot) (lookup (is_at (nat_cmp number)) slots))
  found-by true number n None slots e same is all ih = lookup-not_given number slots (let same = same refl in omega (arith, same, is.0)) all
  found-by true number n (Some x) slots e same is all ih = rw e refl
  found-by false number n None slots e same is all ih = ih
  found-by false number n (Some x) slots e same is all ih = rw e ih

  pub lookup-items : (number : ℕ) (slots : List (ℕ × Option X)) → AllSlots slots
      → lookup (λ k. k == number) (items_of slots) ≡ option_flatten (lookup (is_at (nat_cmp number)) slots)
  lookup-items number [] all = refl
  lookup-items number (s ∷ slots) all =
      found-by (is_eq (nat_cmp number s.0)) number s.0 s.1 slots (sym (at-is number s.0)) (at-here number s.0) all.0 all.1 (lookup-items number slots all.1)

  pub slots-removed : (test : ℕ → Bool) (slots : List (ℕ × Option X)) → AllSlots slots → AllSlots (remove_entry test slots)
  slots-removed test slots all = all-removed (λ slot. IsSlot next slot.0 slot.1) test slots all

  -- ---- the slot for the next number came
  items-reserved-by : (r : Ordering) (n : ℕ) (slot : Option X) (slots more : List (ℕ × Option X)) → nat_cmp next n ≡ r → IsSlot next n slot
      → items_of more ≡ items_of slots
      → items_of (match_ordering r ((next, None) ∷ (n, slot) ∷ slots) ((n, None) ∷ slots) ((n, slot) ∷ more)) ≡ items_of ((n, slot) ∷ slots)
  items-reserved-by Less n slot slots more e is ih = refl
  items-reserved-by Equal n None slots more e is ih = refl
  items-reserved-by Equal n (Some x) slots more e is ih = absurd (let same : next ≡ n = at-here next n (ap is_eq e) in omega (arith, same, is))
  items-reserved-by Greater n None slots more e is ih = ih
  items-reserved-by Greater n (Some x) slots more e is ih = ap (λ (l : List (ℕ × X)). (n, x) ∷ l) ih

  pub items-reserved : (slots : List (ℕ × Option X)) → AllSlots slots → items_of (insert_entry nat_cmp slots next None) ≡ items_of slots
  items-reserved [] all = refl
  items-reserved (s ∷ slots) all =
      items-reserved-by (nat_cmp next s.0) s.0 s.1 slots (insert_entry nat_cmp slots next None) refl all.0 (items-reserved slots all.1)

  slots-reserved-by : (r : Ordering) (n : ℕ) (slot : Option X) (slots more : List (ℕ × Option X)) → nat_cmp next n ≡ r → next + 1 < 2 ^ 64 → IsSlot next n slot
      → AllSlots slots → AllSlots more
      → AllSlots (match_ordering r ((next, None) ∷ (n, slot) ∷ slots) ((n, None) ∷ slots) ((n, slot) ∷ more))
  slots-reserved-by Less n slot slots more e one is all ih = ((refl, one), (is, all))
  slots-reserved-by Equal n slot slots more e one is all ih = ((sym (at-here next n (ap is_eq e)), one), all)
  slots-reserved-by Greater n slot slots more e one is all ih = (is, ih)

  pub slots-reserved : (slots : List (ℕ × Option X)) → next + 1 < 2 ^ 64 → AllSlots slots → AllSlots (insert_entry nat_cmp slots next None)
  slots-reserved [] one all = ((refl, one), tt)
  slots-reserved (s ∷ slots) one all =
      slots-reserved-by (nat_cmp next s.0) s.0 s.1 slots (insert_entry nat_cmp slots next None) refl one all.0 all.1 (slots-reserved slots one all.1)

  -- ---- an item was put into the slot for the next number
  one-more-by : (here : Bool) (n : ℕ) (slot : Option X) (found : Option (Option X)) → (here ≡ true → next ≡ n) → IsSlot next n slot
      → is_some (cond here (Some slot) found) ≡ true
      → (is_some found ≡ true → next + 1 < 2 ^ 64) → next + 1 < 2 ^ 64
  one-more-by true n None found same is some ih = is.1
  one-more-by true n (Some x) found same is some ih = absurd (let same = same refl in omega (arith, same, is))
  one-more-by false n slot found same is some ih = ih some

  pub one-more : (slots : List (ℕ × Option X)) → AllSlots slots → is_some (lookup (is_at (nat_cmp next)) slots) ≡ true → next + 1 < 2 ^ 64
  one-more [] all some = absurd (cc)
  one-more (s ∷ slots) all some =
      one-more-by (is_eq (nat_cmp next s.0)) s.0 s.1 (lookup (is_at (nat_cmp next)) slots) (at-here next s.0) all.0 some (one-more slots all.1)

  items-pushed-by : (here : Bool) (n : ℕ) (slot : Option X) (slots filled : List (ℕ × Option X)) (item : X) (found : Option (Option X))
      → (here ≡ true → next ≡ n) → (here ≡ true → slots ≡ []) → IsSlot next n slot
      → is_some (cond here (Some slot) found) ≡ true → (is_some found ≡ true → items_of filled ≡ items_of slots ++ (next, item) ∷ [])
      → items_of (cond here ((n, Some item) ∷ slots) ((n, slot) ∷ filled)) ≡ items_of ((n, slot) ∷ slots) ++ (next, item) ∷ []
  items-pushed-by true n None slots filled item found same last is some ih = rw (last refl, same refl) refl
  items-pushed-by true n (Some x) slots filled item found same last is some ih = absurd (let same = same refl in omega (arith, same, is))
  items-pushed-by false n None slots filled item found same last is some ih = ih some
  items-pushed-by false n (Some x) slots filled item found same last is some ih = ap (λ (l : List (ℕ × X)). (n, x) ∷ l) (ih some)

  last-here : (n : ℕ) (slots : List (ℕ × Option X)) → AllByRecursion (λ m. nat_cmp n m ≡ Less) (keys_of slots) → AllSlots slots → is_eq (nat_cmp next n) ≡ true
      → slots ≡ []
  last-here n slots above all e =
      last-slot slots (subst (λ (q : ℕ). AllByRecursion (λ m. nat_cmp q m ≡ Less) (keys_of slots)) (sym (at-here next n e)) above) all

  pub items-pushed : (slots : List (ℕ × Option X)) (item : X) → IsStrictlySortedBy nat_cmp (keys_of slots) → AllSlots slots
      → is_some (lookup (is_at (nat_cmp next)) slots) ≡ true
      → items_of (set_value (is_at (nat_cmp next)) slots (Some item)) ≡ items_of slots ++ (next, item) ∷ []
  unfolding IsStrictlySortedBy
  items-pushed [] item s all some = absurd (cc)
  items-pushed (s ∷ slots) item sorted all some =
      items-pushed-by (is_eq (nat_cmp next s.0)) s.0 s.1 slots (set_value (is_at (nat_cmp next)) slots (Some item)) item (lookup (is_at (nat_cmp next)) slots)
      (at-here next s.0) (last-here s.0 slots sorted.0 all.1) all.0 some (items-pushed slots item sorted.1 all.1)

  -- ---- the first item from a number on
  first-by : (passes : Bool) (number n : ℕ) (slot : Option X) (slots rest : List (ℕ × Option X)) → not (nat_lt n number) ≡ passes → (n ≡ next → slots ≡ [])
      → IsSlot next n slot
      → find (λ p. not (nat_lt p.0 number)) (items_of slots) ≡ first_item rest
      → find (λ p. not (nat_lt p.0 number)) (items_of ((n, slot) ∷ slots)) ≡ first_item (cond passes ((n, slot) ∷ rest) rest)
  first-by true number n None slots rest e last is ih = rw (last is.0) refl
  first-by true number n (Some x) slots rest e last is ih = rw e refl
  first-by false number n None slots rest e last is ih = ih
  first-by false number n (Some x) slots rest e last is ih = rw e ih

  last-at : (n : ℕ) (slots : List (ℕ × Option X)) → AllByRecursion (λ m. nat_cmp n m ≡ Less) (keys_of slots) → AllSlots slots → n ≡ next → slots ≡ []
  last-at n slots above all e = last-slot slots (subst (λ (q : ℕ). AllByRecursion (λ m. nat_cmp q m ≡ Less) (keys_of slots)) e above) all

  pub first-from : (number : ℕ) (slots : List (ℕ × Option X)) → IsStrictlySortedBy nat_cmp (keys_of slots) → AllSlots slots
      → find (λ p. not (nat_lt p.0 number)) (items_of slots) ≡ first_item (entries_between nat_cmp (Included number) Unbounded slots)
  unfolding IsStrictlySortedBy
  first-from number [] s all = refl
  first-from number (s ∷ slots) sorted all =
      first-by (is_le (nat_cmp number s.0) && true) number s.0 s.1 slots (entries_between nat_cmp (Included number) Unbounded slots) (sym (from-is number s.0))
      (last-at s.0 slots sorted.0 all.1) all.0 (first-from number slots sorted.1 all.1)

  pub first-given : (number : ℕ) (slots : List (ℕ × Option X)) (n : ℕ) (slot : Option X) (x : X) (rest : List (ℕ × Option X)) → AllSlots slots
      → entries_between nat_cmp (Included number) Unbounded slots ≡ (n, slot) ∷ rest → slot ≡ Some x → n < next
  first-given number slots n slot x rest all e some =
      let between = subst AllSlots e (all-filtered (λ slot. IsSlot next slot.0 slot.1) _ slots all) in
      subst (IsSlot next n) some between.0

-- the next number was given
module _ {X : Type 0} (next : ℕ) where
  given : (n : ℕ) (slot : Option X) → IsSlot next n slot → (n ≡ next → ⊥) → IsSlot (next + 1) n slot
  given n None is other = absurd (other is.0)
  given n (Some x) is other = let below : n < next = is in omega (arith, below)

  slots-pushed-by : (here : Bool) (n : ℕ) (slot : Option X) (slots filled : List (ℕ × Option X)) (item : X) (found : Option (Option X))
      → (here ≡ true → next ≡ n) → (here ≡ false → n ≡ next → ⊥) → (here ≡ true → slots ≡ []) → IsSlot next n slot
      → is_some (cond here (Some slot) found) ≡ true → (is_some found ≡ true → AllSlots (next + 1) filled)
      → AllSlots (next + 1) (cond here ((n, Some item) ∷ slots) ((n, slot) ∷ filled))
  slots-pushed-by true n slot slots filled item found same other last is some ih =
      let same : next ≡ n = same refl in
      let below : n < next + 1 = omega (arith, same) in
      rw (last refl) (below, tt)
  slots-pushed-by false n slot slots filled item found same other last is some ih = (given n slot is (other refl), ih some)

  pub slots-pushed : (slots : List (ℕ × Option X)) (item : X) → IsStrictlySortedBy nat_cmp (keys_of slots) → AllSlots next slots
      → is_some (lookup (is_at (nat_cmp next)) slots) ≡ true
      → AllSlots (next + 1) (set_value (is_at (nat_cmp next)) slots (Some item))
  unfolding IsStrictlySortedBy
  slots-pushed [] item s all some = absurd (cc)
  slots-pushed (s ∷ slots) item sorted all some =
      slots-pushed-by (is_eq (nat_cmp next s.0)) s.0 s.1 slots (set_value (is_at (nat_cmp next)) slots (Some item)) item (lookup (is_at (nat_cmp next)) slots)
      (at-here next s.0) (not-here next s.0) (last-here next s.0 slots sorted.0 all.1) all.0 some (slots-pushed slots item sorted.1 all.1)
