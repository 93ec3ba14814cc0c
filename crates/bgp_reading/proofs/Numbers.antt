-- Communities: how many they are, and that those which ascend stay as they are.
use Rattle.std.proofs.Common.{◌≡◌, ℕ, suc, ◌+◌, ◌-◌, ◌*◌, ◌<◌, ◌≤◌, true, false, cond, List, [], ◌∷◌, ◌++◌, length, take, drop, slice_index, Option}
use Rattle.std.proofs.Common.{Some, None, Ordering, Less, Equal, Greater, refl, sym, ◌∙◌, ap, arith, append_assoc, length-drop, length-take}
use Rattle.std.proofs.lemmas.List.{append-nil, take_all}
use Rattle.std.specs.Cmp.{IsTotalOrder}
use Rattle.std.specs.Ordering.{match_ordering, nat_cmp, ordering_reverse}
use Rattle.std.specs.List.{AllByRecursion}
use Rattle.std.specs.List.Sorted.{IsStrictlySortedBy}
use Rattle.std.specs.BTreeSet.{insert_key}
use Rattle.ip_ranges.specs.declared.family.Family.{Family}
use Rattle.ip_ranges.specs.declared.family.Family.TheVariants.{V4, V6}
use Rattle.large_numbers.specs.Large.{large_cmp}
use Rattle.large_numbers.specs.declared.numbers.LargeCommunity.{LargeCommunity}
use Rattle.pool_config.specs.KeySets.{keys_with}
use Rattle.bgp_reading.specs.Places.{ascending_in, behind_at, behind_hop, behind_path, behind_preference, behind_size, by_threes, communities_in}
use Rattle.bgp_reading.specs.Places.{is_extended, is_of_type, large_in, larges_in, number_at, numbers_in, optional_in, own_in, value_at, value_size}

module _ {K : Type 0} (cmp : K → K → Ordering) where
  -- ---- how many
  length-insert_by : (r : Ordering) (k x : K) (xs : List K) → length (insert_key cmp xs k) ≤ suc (length xs)
      → length (match_ordering r (k ∷ x ∷ xs) (x ∷ xs) (x ∷ insert_key cmp xs k)) ≤ suc (suc (length xs))
  length-insert_by Less k x xs few = omega arith
  length-insert_by Equal k x xs few = omega arith
  length-insert_by Greater k x xs few = omega (arith, few)

  length-insert_key : (xs : List K) (k : K) → length (insert_key cmp xs k) ≤ suc (length xs)
  length-insert_key [] k = omega arith
  length-insert_key (x ∷ xs) k = length-insert_by (cmp k x) k x xs (length-insert_key xs k)

  pub length-keys_with : (held more : List K) → length (keys_with cmp held more) ≤ length held + length more
  length-keys_with held [] = omega arith
  length-keys_with held (k ∷ more) = omega (arith, length-keys_with (insert_key cmp held k) more, length-insert_key held k)

  -- ---- what holds of each
  all-insert_by : (r : Ordering) (P : K → Type 0) (k x : K) (xs : List K) → P k → P x → AllByRecursion P xs → AllByRecursion P (insert_key cmp xs k)
      → AllByRecursion P (match_ordering r (k ∷ x ∷ xs) (x ∷ xs) (x ∷ insert_key cmp xs k))
  all-insert_by Less P k x xs new first all rest = (new, (first, all))
  all-insert_by Equal P k x xs new first all rest = (first, all)
  all-insert_by Greater P k x xs new first all rest = (first, rest)

  all-insert_key : (P : K → Type 0) (xs : List K) (k : K) → AllByRecursion P xs → P k → AllByRecursion P (insert_key cmp xs k)
  all-insert_key P [] k all new = (new, tt)
  all-insert_key P (x ∷ xs) k all new = all-insert_by (cmp k x) P k x xs new all.0 all.1 (all-insert_key P xs k all.1 new)

  pub all-keys_with : (P : K → Type 0) (held more : List K) → AllByRecursion P held → AllByRecursion P more → AllByRecursion P (keys_with cmp held more)
  all-keys_with P held [] all others = all
  all-keys_with P held (k ∷ more) all others = all-keys_with P (insert_key cmp held k) more (all-insert_key P held k all others.0) others.1

module _ {K : Type 0} {cmp : K → K → Ordering} (total : IsTotalOrder cmp) where
  -- a key above all is put at the end
  insert_key-last : (held : List K) (k : K) (more : List K) → IsStrictlySortedBy cmp (held ++ k ∷ more) → insert_key cmp held k ≡ held ++ k ∷ []
  unfolding IsStrictlySortedBy
  insert_key-last [] k more ascending = refl
  insert_key-last (x ∷ held) k more ascending =
      let above : cmp x k ≡ Less = among held k more (λ y. cmp x y ≡ Less) ascending.0 in
      let below : cmp k x ≡ Greater = total.antisymm k x ∙ ap ordering_reverse above in
      rw below (ap (λ ks. x ∷ ks) (insert_key-last held k more ascending.1))
    where
      among : (held : List K) (k : K) (more : List K) (P : K → Type 0) → AllByRecursion P (held ++ k ∷ more) → P k
      among [] k more P all = all.0
      among (x ∷ held) k more P all = among held k more P all.1

  pub keys_with-ascending : (held more : List K) → IsStrictlySortedBy cmp (held ++ more) → keys_with cmp held more ≡ held ++ more
  keys_with-ascending held [] ascending = sym (append-nil held)
  keys_with-ascending held (k ∷ more) ascending =
      let split : (held ++ k ∷ []) ++ more ≡ held ++ k ∷ more = append_assoc held (k ∷ []) more in
      rw (insert_key-last held k more ascending) (keys_with-ascending (held ++ k ∷ []) more (rw split ascending) ∙ split)

length-numbers_in : (bytes : List ℕ) → 4 * length (numbers_in bytes) ≤ length bytes
length-numbers_in [] = omega arith
length-numbers_in (a ∷ []) = omega arith
length-numbers_in (a ∷ b ∷ []) = omega arith
length-numbers_in (a ∷ b ∷ c ∷ []) = omega arith
length-numbers_in (a ∷ b ∷ c ∷ d ∷ rest) = omega (arith, length-numbers_in rest)

-- each number takes four octets
length-ascending_in : (bytes : List ℕ) → 4 * length (ascending_in bytes) ≤ length bytes
length-ascending_in bytes = omega (arith, length-keys_with nat_cmp [] (numbers_in bytes), length-numbers_in bytes)

length-by_threes : (numbers : List ℕ) → 3 * length (by_threes numbers) ≤ length numbers
length-by_threes [] = omega arith
length-by_threes (a ∷ []) = omega arith
length-by_threes (a ∷ b ∷ []) = omega arith
length-by_threes (a ∷ b ∷ c ∷ rest) = omega (arith, length-by_threes rest)

-- each large community takes twelve
length-larges_in : (bytes : List ℕ) → 12 * length (larges_in bytes) ≤ length bytes
length-larges_in bytes =
    omega (arith, length-keys_with large_cmp [] (by_threes (numbers_in bytes)), length-by_threes (numbers_in bytes), length-numbers_in bytes)

-- ---- attributes lie within what they are read in
length-behind_size : (rest : List ℕ) → length (behind_size rest) ≤ length rest
length-behind_size rest = elim (is_extended rest) as (λ v. length (cond v (drop 4 rest) (drop 3 rest)) ≤ length rest) [
  | true ↦ omega (arith, length-drop 4 rest)
  | false ↦ omega (arith, length-drop 3 rest)
]

length-value_at : (kind : ℕ) (rest : List ℕ) → length (value_at kind rest) ≤ length rest
unfolding value_at
length-value_at kind rest = elim (is_of_type kind rest) as (λ v. length (cond v (take (value_size rest) (behind_size rest)) []) ≤ length rest) [
  | true ↦ omega (arith, length-take (value_size rest) (behind_size rest), length-behind_size rest)
  | false ↦ omega arith
]

length-behind_at : (kind : ℕ) (rest : List ℕ) → length (behind_at kind rest) ≤ length rest
unfolding behind_at
length-behind_at kind rest = elim (is_of_type kind rest) as (λ v. length (cond v (drop (value_size rest) (behind_size rest)) rest) ≤ length rest) [
  | true ↦ omega (arith, length-drop (value_size rest) (behind_size rest), length-behind_size rest)
  | false ↦ omega arith
]

length-behind_hop : (family : Family) (path : List ℕ) → length (behind_hop family path) ≤ length path
length-behind_hop V4 path = omega (arith, length-drop 7 path)
length-behind_hop V6 path = omega arith

length-behind_preference : (own : Option ℕ) (rest : List ℕ) → length (behind_preference own rest) ≤ length rest
length-behind_preference None rest = omega (arith, length-drop 7 rest)
length-behind_preference (Some own) rest = omega arith

length-optional_in : (family : Family) (attributes : List ℕ) → length (optional_in family attributes) ≤ length attributes
length-optional_in family attributes =
    let place : ℕ = 7 + slice_index attributes 6 in
    let path = behind_path attributes in
    omega (arith, length-behind_preference (own_in attributes) (behind_hop family path), length-behind_hop family path, length-drop place attributes)

pub few-communities : (family : Family) (attributes : List ℕ) → 4 * length (communities_in (optional_in family attributes)) ≤ length attributes
few-communities family attributes =
    let rest = optional_in family attributes in
    omega (arith, length-ascending_in (value_at 8 rest), length-value_at 8 rest, length-optional_in family attributes)

pub few-large : (family : Family) (attributes : List ℕ) → 12 * length (large_in (optional_in family attributes)) ≤ length attributes
few-large family attributes =
    let rest = optional_in family attributes in
    let behind = behind_at 14 (behind_at 8 rest) in
    omega (
      arith,
      length-larges_in (value_at 32 behind),
      length-value_at 32 behind,
      length-behind_at 14 (behind_at 8 rest),
      length-behind_at 8 rest,
      length-optional_in family attributes,
    )

-- ---- one more
pub numbers-next : (held bytes : List ℕ) → 4 ≤ length bytes
    → keys_with nat_cmp (insert_key nat_cmp held (number_at 0 bytes)) (numbers_in (take (length bytes - 4) (drop 4 bytes)))
    ≡ keys_with nat_cmp held (numbers_in bytes)
numbers-next held [] some = absurd (omega arith)
numbers-next held (a ∷ []) some = absurd (omega arith)
numbers-next held (a ∷ b ∷ []) some = absurd (omega arith)
numbers-next held (a ∷ b ∷ c ∷ []) some = absurd (omega arith)
numbers-next held (a ∷ b ∷ c ∷ d ∷ rest) some = rw (take_all (length (a ∷ b ∷ c ∷ d ∷ rest) - 4) rest (omega arith)) refl

-- twelve octets are three numbers
abbrev pub large_at : List ℕ → LargeCommunity
large_at bytes = record { global = number_at 0 bytes; first = number_at 4 bytes; second = number_at 8 bytes }

first-large : (bytes : List ℕ) → 12 ≤ length bytes → by_threes (numbers_in bytes) ≡ large_at bytes ∷ by_threes (numbers_in (drop 12 bytes))
first-large [] some = absurd (omega arith)
first-large (a ∷ []) some = absurd (omega arith)
first-large (a ∷ b ∷ []) some = absurd (omega arith)
first-large (a ∷ b ∷ c ∷ []) some = absurd (omega arith)
first-large (a ∷ b ∷ c ∷ d ∷ []) some = absurd (omega arith)
first-large (a ∷ b ∷ c ∷ d ∷ e ∷ []) some = absurd (omega arith)
first-large (a ∷ b ∷ c ∷ d ∷ e ∷ f ∷ []) some = absurd (omega arith)
first-large (a ∷ b ∷ c ∷ d ∷ e ∷ f ∷ g ∷ []) some = absurd (omega arith)
first-large (a ∷ b ∷ c ∷ d ∷ e ∷ f ∷ g ∷ h ∷ []) some = absurd (omega arith)
first-large (a ∷ b ∷ c ∷ d ∷ e ∷ f ∷ g ∷ h ∷ i ∷ []) some = absurd (omega arith)
first-large (a ∷ b ∷ c ∷ d ∷ e ∷ f ∷ g ∷ h ∷ i ∷ j ∷ []) some = absurd (omega arith)
first-large (a ∷ b ∷ c ∷ d ∷ e ∷ f ∷ g ∷ h ∷ i ∷ j ∷ k ∷ []) some = absurd (omega arith)
first-large (a ∷ b ∷ c ∷ d ∷ e ∷ f ∷ g ∷ h ∷ i ∷ j ∷ k ∷ l ∷ rest) some = refl

pub larges-next : (held : List LargeCommunity) (bytes : List ℕ) → 12 ≤ length bytes
    → keys_with large_cmp (insert_key large_cmp held (large_at bytes)) (by_threes (numbers_in (drop 12 bytes)))
    ≡ keys_with large_cmp held (by_threes (numbers_in bytes))
larges-next held bytes some = rw (first-large bytes some) refl

-- fewer than twelve octets are none
pub larges-end : (bytes : List ℕ) → length bytes < 12 → by_threes (numbers_in bytes) ≡ []
larges-end bytes few = none (numbers_in bytes) (omega (arith, length-numbers_in bytes)) where
  none : (numbers : List ℕ) → length numbers < 3 → by_threes numbers ≡ []
  none [] few = refl
  none (a ∷ []) few = refl
  none (a ∷ b ∷ []) few = refl
  none (a ∷ b ∷ c ∷ rest) few = absurd (omega arith)
