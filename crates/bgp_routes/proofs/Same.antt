-- Equal lists that ascend are united already.
use Rattle.std.proofs.Common.{◌≡◌, ℕ, ◌+◌, ◌≤◌, Bool, true, ◌==◌, nat_le, List, [], ◌∷◌, Less, Ordering, Result, Ok, Err, inr, ⊎_elim, sym, ◌∙◌, ap, arith}
use Rattle.std.proofs.lemmas.Bool.Decides.{nat_tests}
use Rattle.std.proofs.lemmas.Cmp.{nat_cmp_total}
use Rattle.std.proofs.lemmas.Map.Lookups.{CmpEqualImpliesEq, exact_unsigned}
use Rattle.std.proofs.lemmas.Slice.Eq.{bytes_eq-Decides}
use Rattle.std.specs.Prelude.{IfOk}
use Rattle.std.specs.Cmp.{IsTotalOrder}
use Rattle.std.specs.Cmp.Lexicographic.{pointwise}
use Rattle.std.specs.List.{AllByRecursion}
use Rattle.std.specs.List.Sorted.{IsStrictlySortedBy}
use Rattle.std.specs.Ordering.{nat_cmp}
use Rattle.std.specs.Str.{bytes_eq}
use Rattle.std.proofs.lemmas.Bool.{and_parts}
use Rattle.std.proofs.Math.Bool.{and_assoc}
use Rattle.large_numbers.specs.Large.{large_cmp}
use Rattle.large_numbers.specs.contracts.numbers.LargeCommunityPartialEq.TheImpl as derived
use Rattle.large_numbers.specs.declared.numbers.LargeCommunity.{LargeCommunity}
use Rattle.mlb_base.specs.Items.{IsIn}
use Rattle.pool_config.proofs.CommunitySets.{large_cmp-exact, large_cmp-total}
use Rattle.bgp_updates.specs.Received.{same_large}
use Rattle.bgp_updates.proofs.ReceivedLaws.{same_larges-Decides}
use Rattle.bgp_routes.specs.Uniting.{are_same, ascend_from, united}
use Rattle.bgp_routes.proofs.Determined.{same-keys-ascending}
use Rattle.bgp_routes.proofs.Elements.{in_united, united_in}
use Rattle.bgp_routes.proofs.Few.{united-ascend}

-- ---- numbers that ascend by the test
abbrev AreFrom : ℕ → List ℕ → Type 0
AreFrom low numbers = AllByRecursion (λ n. low ≤ n) numbers

higher : (low m : ℕ) (numbers : List ℕ) → low ≤ m → AreFrom m numbers → AreFrom low numbers
higher low m [] le all = tt
higher low m (n ∷ numbers) le all = (omega (arith, all.0, le), higher low m numbers le all.1)

below : (m : ℕ) (numbers : List ℕ) → AreFrom (m + 1) numbers → AllByRecursion (λ n. nat_cmp m n ≡ Less) numbers
below m [] all = tt
below m (n ∷ numbers) all = (less m n all.0, below m numbers all.1) where
  less : (a b : ℕ) → a + 1 ≤ b → nat_cmp a b ≡ Less
  less a b lt = grind (arith, nat_tests)

at-least : (low n : ℕ) → nat_le low n ≡ true → low ≤ n
at-least low n le = grind (arith, nat_tests)

from : (low : ℕ) (numbers : List ℕ) → ascend_from low numbers ≡ true → AreFrom low numbers
from low [] ascend = tt
from low (n ∷ numbers) ascend =
    let parts = and_parts (nat_le low n) (ascend_from (n + 1) numbers) ascend in
    let first = at-least low n parts.0 in
    (first, higher low (n + 1) numbers (omega (arith, first)) (from (n + 1) numbers parts.1))

sorted : (low : ℕ) (numbers : List ℕ) → ascend_from low numbers ≡ true → IsStrictlySortedBy nat_cmp numbers
unfolding IsStrictlySortedBy
sorted low [] ascend = tt
sorted low (n ∷ numbers) ascend =
    let parts = and_parts (nat_le low n) (ascend_from (n + 1) numbers) ascend in
    (below n numbers (from (n + 1) numbers parts.1), sorted (n + 1) numbers parts.1)

-- ---- united with itself
module _ {K : Type 0} {R : K → K → Ordering} (o : IsTotalOrder R) (exact : CmpEqualImpliesEq R) where
  from-either : (a : List K) (k : K) → IsIn (united R a a) k → IsIn a k
  from-either a k there = ⊎_elim (λ one. one) (λ other. other) (in_united o exact a a k there)

  united-self : (a : List K) → IsStrictlySortedBy R a → united R a a ≡ a
  united-self a ascend =
      same-keys-ascending o (united R a a) a (united-ascend o exact a a) ascend (from-either a) (λ k among. united_in o exact a a k (inr among))

pub united_same : (a b : List ℕ) → are_same a b ≡ true → united nat_cmp a b ≡ a
united_same a b same =
    let parts = and_parts (bytes_eq a b) (ascend_from 0 a) same in
    let one : a ≡ b = (bytes_eq-Decides a b).0 parts.0 in
    ap (united nat_cmp a) (sym one) ∙ united-self nat_cmp_total exact_unsigned a (sorted 0 a parts.1)

-- ---- large communities that the code finds equal
large-eq : (c d : LargeCommunity) → derived.eq-value.it c d ≡ same_large c d
large-eq c d = sym (and_assoc (c.global == d.global) (c.first == d.first) (c.second == d.second))

larges-eq : (a b : List LargeCommunity) → pointwise derived.eq-value.it a b ≡ pointwise same_large a b
larges-eq a b = ap (λ (E : LargeCommunity → LargeCommunity → Bool). pointwise E a b) (λ i c d. large-eq c d i)

-- a copy of those that are equal to others is what is united of both
pub copy-united : {E : Type 0} (a b : List LargeCommunity) (copy : Result (List LargeCommunity) E) → pointwise derived.eq-value.it a b ≡ true
    → IsStrictlySortedBy large_cmp a
    → IfOk copy (λ c. c ≡ a) → IfOk copy (λ c. c ≡ united large_cmp a b)
copy-united a b (Err e) same ascend is = tt
copy-united a b (Ok c) same ascend is =
    let one : a ≡ b = (same_larges-Decides a b).0 (sym (larges-eq a b) ∙ same) in
    is ∙ sym (ap (united large_cmp a) (sym one) ∙ united-self large_cmp-total large_cmp-exact a ascend)
