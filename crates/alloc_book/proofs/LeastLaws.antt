-- What the search for the least address finds, and what it leaves out; the least is the only one.
use Rattle.std.proofs.Common.{◌≡◌, ℕ, ◌+◌, ◌-◌, ◌<◌, ◌≤◌, suc, zero, Bool, true, false, cond, leb, ◌&&◌, ◌||◌, List, [], ◌∷◌, Option, Some, None}
use Rattle.std.proofs.Common.{option_map, IfSome, IfNone, ◌⊎◌, inl, inr, refl, sym, ap, ◌∙◌, subst, arith, ⊎_elim, eq-or-lt_of_le, leb-true, true≢false}
use Rattle.std.proofs.lemmas.Bool.{and_parts, and_from, le-leb, cases_order}
use Rattle.std.specs.List.{list_any}
use Rattle.ip_ranges.specs.declared.family.Family.{Family}
use Rattle.ip_ranges.specs.Values.{AddressValue, SpanValue, same_family, holds, Holds}
use Rattle.kube_model.specs.declared.key.Key.{Key}
use Rattle.sharing_terms.specs.declared.terms.Terms.{Terms}
use Rattle.pool_config.specs.declared.compiled.CompiledPool.{CompiledPool}
use Rattle.claim_index.specs.Claims.{Holders, ClaimValue, holders}
use Rattle.alloc_book.specs.Least.{StandsBefore, IsLeast}
use Rattle.alloc_book.specs.Search.{usable, numbered, least_between, least_in, least_of, least_usable, or_else}
use Rattle.address_holders.specs.Holders.{address_of}
use Rattle.alloc_book.specs.Usable.{IsUsableOf}
use Rattle.ip_ranges.proofs.AddressLaws.{same_family-is, same_family-itself}
use Rattle.alloc_book.proofs.UsableLaws.{usable-is, usable-from}

-- the number passes, is one of so many from low on, and none of them that is less passes
pub record IsLeastOf (test : ℕ → Bool) (low count n : ℕ) : Type 0 where
  pub passes : test n ≡ true
  pub from : low ≤ n
  pub below : n < low + count
  pub least : (m : ℕ) → low ≤ m → m < n → test m ≡ false

later-least : (test : ℕ → Bool) (low count n : ℕ) → test low ≡ false → IsLeastOf test (low + 1) count n → IsLeastOf test low (suc count) n
later-least test low count n fails later =
    record {
      passes = later.passes;
      from = omega (arith, later.from);
      below = omega (arith, later.below);
      least = λ m from below. ⊎_elim (λ same. subst (λ k. test k ≡ false) same fails) (λ more. later.least m (omega (arith, more)) below) (eq-or-lt_of_le from);
    }

first-least : (test : ℕ → Bool) (low count n : ℕ) → test low ≡ true → low ≡ n → IsLeastOf test low (suc count) n
first-least test low count n passes same =
    record {
      passes = subst (λ k. test k ≡ true) same passes;
      from = omega (arith, same);
      below = omega (arith, same);
      least = λ m from below. absurd (omega (arith, same, from, below));
    }

found_here : (b : Bool) (test : ℕ → Bool) (low count n : ℕ) (rest : Option ℕ) → b ≡ test low → (rest ≡ Some n → IsLeastOf test (low + 1) count n)
    → cond b (Some low) rest ≡ Some n → IsLeastOf test low (suc count) n
found_here true test low count n rest s ih e = first-least test low count n (sym s) (cc)
found_here false test low count n rest s ih e = later-least test low count n (sym s) (ih e)

pub least_between-found : (test : ℕ → Bool) (count low n : ℕ) → least_between test low count ≡ Some n → IsLeastOf test low count n
least_between-found test zero low n e = absurd (cc)
least_between-found test (suc count) low n e = found_here (test low) test low count n _ refl (least_between-found test count (low + 1) n) e

none_here : (b : Bool) (test : ℕ → Bool) (low count m : ℕ) (rest : Option ℕ) → b ≡ test low → (rest ≡ None → low + 1 ≤ m → test m ≡ false)
    → cond b (Some low) rest ≡ None → low ≤ m → test m ≡ false
none_here true test low count m rest s ih e from = absurd (cc)
none_here false test low count m rest s ih e from =
    ⊎_elim (λ same. subst (λ k. test k ≡ false) same (sym s)) (λ more. ih e (omega (arith, more))) (eq-or-lt_of_le from)

pub least_between-none : (test : ℕ → Bool) (count low m : ℕ) → least_between test low count ≡ None → low ≤ m → m < low + count → test m ≡ false
least_between-none test zero low m e from below = absurd (omega (arith, from, below))
least_between-none test (suc count) low m e from below =
    none_here (test low) test low count m _ refl (λ rest more. least_between-none test count (low + 1) m rest more (omega (arith, below))) e from

pub holds-Holds : (span : SpanValue) (a : AddressValue) → holds span a ≡ true → Holds span a
holds-Holds span a e =
    let bounds = and_parts (same_family span.family a.family && leb span.low a.number) (leb a.number span.high) e in
    let lower = and_parts (same_family span.family a.family) (leb span.low a.number) bounds.0 in
    (same_family-is span.family a.family lower.0, leb-true span.low a.number lower.1, leb-true a.number span.high bounds.1)

-- the address passes, lies in the range and is of the family, and no lesser one of the range and the family passes
pub record IsLeastIn (test : AddressValue → Bool) (family : Family) (span : SpanValue) (a : AddressValue) : Type 0 where
  pub of_family : a.family ≡ family
  pub passes : test a ≡ true
  pub held : Holds span a
  pub least : (b : AddressValue) → b.family ≡ family → Holds span b → test b ≡ true → b.number < a.number → ⊥

pub numbered-is : (test : AddressValue → Bool) (family : Family) (b : AddressValue) → b.family ≡ family → test b ≡ true → numbered test family b.number ≡ true
numbered-is test family b of_family passes = subst (λ f. test (record { family = f; number = b.number }) ≡ true) of_family passes

found_in : (test : AddressValue → Bool) (family : Family) (span : SpanValue) (a : AddressValue) (found : Option ℕ)
    → span.family ≡ family
    → ((n : ℕ) → found ≡ Some n → IsLeastOf (numbered test family) span.low (span.high + 1 - span.low) n)
    → option_map (address_of family) found ≡ Some a
    → IsLeastIn test family span a
found_in test family span a None same each e = absurd (cc)
found_in test family span a (Some n) same each e =
    let is : record { family = family; number = n } ≡ a = cc in
    let first = each n refl in
    subst (IsLeastIn test family span) is (record {
      of_family = refl;
      passes = first.passes;
      held = (same, first.from, omega (arith, first.from, first.below));
      least = λ b of_family held passes less. true≢false (sym (numbered-is test family b of_family passes) ∙ first.least b.number held.1 less);
    })

of_the_family : (b : Bool) (test : AddressValue → Bool) (family : Family) (span : SpanValue) (a : AddressValue) (found : Option AddressValue)
    → b ≡ same_family span.family family
    → (span.family ≡ family → found ≡ Some a → IsLeastIn test family span a)
    → cond b found None ≡ Some a
    → IsLeastIn test family span a
of_the_family true test family span a found s then_is e = then_is (same_family-is span.family family (sym s)) e
of_the_family false test family span a found s then_is e = absurd (cc)

pub least_in-found : (test : AddressValue → Bool) (family : Family) (span : SpanValue) (a : AddressValue) → least_in test family span ≡ Some a
    → IsLeastIn test family span a
least_in-found test family span a e =
    of_the_family (same_family span.family family) test family span a _ refl
    (λ same found. found_in test family span a (least_between (numbered test family) span.low (span.high + 1 - span.low)) same
    (least_between-found (numbered test family) (span.high + 1 - span.low) span.low) found)
    e

none_of : (test : AddressValue → Bool) (family : Family) (span : SpanValue) (b : AddressValue) (found : Option ℕ)
    → (found ≡ None → numbered test family b.number ≡ false)
    → option_map (address_of family) found ≡ None
    → numbered test family b.number ≡ false
none_of test family span b None fails e = fails refl
none_of test family span b (Some n) fails e = absurd (cc)

none_of_family : (t : Bool) (test : AddressValue → Bool) (family : Family) (b : AddressValue) (found : Option AddressValue)
    → t ≡ true
    → (found ≡ None → numbered test family b.number ≡ false)
    → cond t found None ≡ None
    → numbered test family b.number ≡ false
none_of_family true test family b found s fails e = fails e
none_of_family false test family b found s fails e = absurd (cc)

pub least_in-none : (test : AddressValue → Bool) (family : Family) (span : SpanValue) → least_in test family span ≡ None
    → (b : AddressValue) → b.family ≡ family → Holds span b → test b ≡ true → ⊥
least_in-none test family span e b of_family held passes =
    let same : same_family span.family family ≡ true = subst (λ f. same_family span.family f ≡ true) (held.0 ∙ of_family) (same_family-itself span.family) in
    let from = held.1 in
    let upto = held.2 in
    let fails = none_of_family (same_family span.family family) test family b _ same
    (none_of test family span b (least_between (numbered test family) span.low (span.high + 1 - span.low))
    (λ none. least_between-none (numbered test family) (span.high + 1 - span.low) span.low b.number none from (omega (arith, from, upto))))
    e in
    true≢false (sym (numbered-is test family b of_family passes) ∙ fails)

-- the address passes and is of the family, and no such address stands before it
pub record IsFirstOf (test : AddressValue → Bool) (family : Family) (spans : List SpanValue) (a : AddressValue) : Type 0 where
  pub of_family : a.family ≡ family
  pub passes : test a ≡ true
  pub first : (b : AddressValue) → b.family ≡ family → test b ≡ true → ¬ (StandsBefore spans b a)

first_here : (test : AddressValue → Bool) (family : Family) (span : SpanValue) (spans : List SpanValue) (a : AddressValue)
    → IsLeastIn test family span a → IsFirstOf test family (span ∷ spans) a
first_here test family span spans a here =
    record {
      of_family = here.of_family;
      passes = here.passes;
      first = λ b of_family passes before.
          ⊎_elim (λ ahead. here.least b of_family ahead.0 passes (ahead.1 here.held)) (λ behind. behind.0 here.held) before;
    }

first_later : (test : AddressValue → Bool) (family : Family) (span : SpanValue) (spans : List SpanValue) (a : AddressValue)
    → least_in test family span ≡ None → IsFirstOf test family spans a → IsFirstOf test family (span ∷ spans) a
first_later test family span spans a none later =
    record {
      of_family = later.of_family;
      passes = later.passes;
      first = λ b of_family passes before.
          ⊎_elim (λ ahead. least_in-none test family span none b of_family ahead.0 passes) (λ behind. later.first b of_family passes behind.1) before;
    }

first_of : (here : Option AddressValue) (test : AddressValue → Bool) (family : Family) (span : SpanValue) (spans : List SpanValue) (rest : Option AddressValue)
    (a : AddressValue)
    → here ≡ least_in test family span
    → (rest ≡ Some a → IsFirstOf test family spans a)
    → or_else here rest ≡ Some a
    → IsFirstOf test family (span ∷ spans) a
first_of (Some b) test family span spans rest a s ih e = first_here test family span spans a (least_in-found test family span a (sym s ∙ e))
first_of None test family span spans rest a s ih e = first_later test family span spans a (sym s) (ih e)

pub least_of-found : (test : AddressValue → Bool) (family : Family) (spans : List SpanValue) (a : AddressValue) → least_of test family spans ≡ Some a
    → IsFirstOf test family spans a
least_of-found test family [] a e = absurd (cc)
least_of-found test family (span ∷ spans) a e =
    first_of (least_in test family span) test family span spans _ a refl (least_of-found test family spans a) e

or-cases : (P : Type 0) (a b : Bool) → (a ≡ true → P) → (b ≡ true → P) → (a || b) ≡ true → P
or-cases P true b left right e = left refl
or-cases P false b left right e = right e

none_left : (here rest : Option AddressValue) → or_else here rest ≡ None → (here ≡ None) × (rest ≡ None)
none_left None rest e = (refl, e)
none_left (Some a) rest e = absurd (cc)

pub least_of-none : (test : AddressValue → Bool) (family : Family) (spans : List SpanValue) → least_of test family spans ≡ None
    → (b : AddressValue) → b.family ≡ family → test b ≡ true → list_any (λ span. holds span b) spans ≡ true → ⊥
least_of-none test family [] e b of_family passes held = absurd (cc)
least_of-none test family (span ∷ spans) e b of_family passes held =
    let none = none_left (least_in test family span) (least_of test family spans) e in
    or-cases ⊥ (holds span b) _
    (λ here. least_in-none test family span none.0 b of_family (holds-Holds span b here) passes)
    (λ later. least_of-none test family spans none.1 b of_family passes later)
    held

-- what is found is the least that may be used
pub least_usable-is : (claims : List ClaimValue) (key : Key) (terms : Terms) (pool : CompiledPool) (family : Family) (found : Option AddressValue)
    → found ≡ least_usable claims key terms pool family → IfSome found (IsLeast (holders claims) key terms pool family)
least_usable-is claims key terms pool family None e = tt
least_usable-is claims key terms pool family (Some a) e =
    let first = least_of-found (usable claims key terms pool) family pool.spans a (sym e) in (
      (first.of_family, usable-is claims key terms pool a first.passes),
      λ b is_usable. first.first b is_usable.0 (usable-from claims key terms pool b is_usable.1),
    )

-- where nothing is found there is none that may be used
pub least_usable-none : (claims : List ClaimValue) (key : Key) (terms : Terms) (pool : CompiledPool) (family : Family) (found : Option AddressValue)
    → found ≡ least_usable claims key terms pool family → IfNone found ((a : AddressValue) → ¬ (IsUsableOf (holders claims) key terms pool family a))
least_usable-none claims key terms pool family None e =
    λ a is_usable. least_of-none (usable claims key terms pool) family pool.spans (sym e) a is_usable.0 (usable-from claims key terms pool a is_usable.1)
    is_usable.1.in_pool
least_usable-none claims key terms pool family (Some a) e = tt

pub holds-from : (span : SpanValue) (a : AddressValue) → Holds span a → holds span a ≡ true
holds-from span a h =
    and_from (same_family span.family a.family && leb span.low a.number) (leb a.number span.high)
    (and_from (same_family span.family a.family) (leb span.low a.number) (subst (λ f. same_family span.family f ≡ true) h.0 (same_family-itself span.family))
    (le-leb span.low a.number h.1))
    (le-leb a.number span.high h.2)

-- one of the two stands before the other, or they are one
abbrev pub AreOrdered : List SpanValue → AddressValue → AddressValue → Type 0
AreOrdered spans a b = (a ≡ b) ⊎ (StandsBefore spans a b ⊎ StandsBefore spans b a)

same_number : (a b : AddressValue) → a.family ≡ b.family → a.number ≡ b.number → a ≡ b
same_number a b families numbers =
    let family : Family → AddressValue = λ f. record { family = f; number = a.number } in
    let number : ℕ → AddressValue = λ n. record { family = b.family; number = n } in
    ap family families ∙ ap number numbers

not_held : (span : SpanValue) (a : AddressValue) → holds span a ≡ false → ¬ (Holds span a)
not_held span a e h = true≢false (sym (holds-from span a h) ∙ e)

ordered_by : (x y : Bool) (span : SpanValue) (spans : List SpanValue) (a b : AddressValue) → x ≡ holds span a → y ≡ holds span b → a.family ≡ b.family
    → (x ≡ false → y ≡ false → AreOrdered spans a b)
    → AreOrdered (span ∷ spans) a b
ordered_by true true span spans a b s t families ih =
    ⊎_elim
    (λ same. inl (same_number a b families same))
    (λ apart. ⊎_elim
    (λ less. inr (inl (inl (holds-Holds span a (sym s), λ _. less))))
    (λ more. inr (inr (inl (holds-Holds span b (sym t), λ _. more))))
    apart)
    (cases_order a.number b.number)
ordered_by true false span spans a b s t families ih =
    inr (inl (inl (holds-Holds span a (sym s), λ held. absurd (not_held span b (sym t) held))))
ordered_by false true span spans a b s t families ih =
    inr (inr (inl (holds-Holds span b (sym t), λ held. absurd (not_held span a (sym s) held))))
ordered_by false false span spans a b s t families ih =
    ⊎_elim
    (λ same. inl same)
    (λ apart. ⊎_elim
    (λ less. inr (inl (inr (not_held span b (sym t), less))))
    (λ more. inr (inr (inr (not_held span a (sym s), more))))
    apart)
    (ih refl refl)

or_rest : (x : Bool) (rest : Bool) → x ≡ false → (x || rest) ≡ true → rest ≡ true
or_rest true rest s e = absurd (true≢false s)
or_rest false rest s e = e

-- of two addresses of one family that lie in the ranges one stands before the other, or they are one
pub stands-ordered : (spans : List SpanValue) (a b : AddressValue) → a.family ≡ b.family → list_any (λ span. holds span a) spans ≡ true
    → list_any (λ span. holds span b) spans ≡ true → AreOrdered spans a b
stands-ordered [] a b families here there = absurd (true≢false (sym here))
stands-ordered (span ∷ spans) a b families here there =
    ordered_by (holds span a) (holds span b) span spans a b refl refl families
    (λ none nothing. stands-ordered spans a b families (or_rest (holds span a) _ none here) (or_rest (holds span b) _ nothing there))

-- there is one least
pub least-only : (has : Holders) (key : Key) (terms : Terms) (pool : CompiledPool) (family : Family) (a b : AddressValue) → IsLeast has key terms pool family a
    → IsLeast has key terms pool family b → a ≡ b
least-only has key terms pool family a b here there =
    ⊎_elim
    (λ same. same)
    (λ apart. ⊎_elim
    (λ less. absurd (there.1 a here.0 less))
    (λ more. absurd (here.1 b there.0 more))
    apart)
    (stands-ordered pool.spans a b (here.0.0 ∙ sym there.0.0) here.0.1.in_pool there.0.1.in_pool)
