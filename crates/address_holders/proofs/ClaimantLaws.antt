-- The runs of held numbers say where the lists of claims aren't empty, after each change of them.
use Rattle.std.proofs.Common.{◌≡◌, ℕ, Bool, true, false, cond, not, ◌&&◌, ◌||◌, ◌==◌, List, [], ◌∷◌, ◌++◌}
use Rattle.std.proofs.Common.{filter, length, Option, refl, sym, ap, ◌∙◌, subst, IfSome, IfNone, arith}
use Rattle.std.proofs.lemmas.Bool.{eqb-true, true≢false}
use Rattle.std.proofs.lemmas.List.{nil_from_length}
use Rattle.std.proofs.lemmas.Bool.Decides.{nat_tests}
use Rattle.std.specs.Ordering.{nat_cmp}
use Rattle.std.specs.BTreeMap.{is_at}
use Rattle.mlb_base.specs.Items.{is_nil}
use Rattle.number_sets.specs.Blocks.{is_edge, is_open}
use Rattle.number_sets.specs.Least.{IsLeastIn, NonePasses}
use Rattle.number_sets.specs.Runs.{RunsValue, has}
use Rattle.numbered_items.specs.Index.{IndexValue, numbers_under}

-- the numbers that are held are those under which a claim is listed
abbrev AreListed : RunsValue → IndexValue ℕ → Type 0
AreListed runs claims = has runs ≡ (λ n. not (is_nil (numbers_under nat_cmp claims n)))

-- the claim is listed under the number too, or no more
abbrev with_claim : ℕ → ℕ → (ℕ → List ℕ) → ℕ → List ℕ
with_claim number claim listed n = cond (is_at (nat_cmp number) n) (listed n ++ claim ∷ []) (listed n)

abbrev without_claim : ℕ → ℕ → (ℕ → List ℕ) → ℕ → List ℕ
without_claim number claim listed n = cond (is_at (nat_cmp number) n) (filter (λ c. not (c == claim)) (listed n)) (listed n)

-- ---- a key that a comparison finds equal

at-number : (number n : ℕ) → is_at (nat_cmp number) n ≡ (number == n)
at-number number n = grind (arith, nat_tests)

pub number-flip : (number n : ℕ) → (number == n) ≡ (n == number)
number-flip number n = grind (arith, nat_tests)

-- ---- lists of claims by number

pub claim-added : (number claim : ℕ) (old new : ℕ → List ℕ) → new ≡ with_claim number claim old → new ≡ (λ n. cond (number == n) (old n ++ claim ∷ []) (old n))
claim-added number claim old new is = is ∙ (λ i n. cond (at-number number n i) (old n ++ claim ∷ []) (old n))

pub claim-dropped : (number claim : ℕ) (old new : ℕ → List ℕ) → new ≡ without_claim number claim old
    → new ≡ (λ n. cond (number == n) (filter (λ c. not (c == claim)) (old n)) (old n))
claim-dropped number claim old new is = is ∙ (λ i n. cond (at-number number n i) (filter (λ c. not (c == claim)) (old n)) (old n))

-- ---- the runs beside the lists

pub none-listed : (runs : RunsValue) (claims : IndexValue ℕ) → has runs ≡ (λ n. false) → numbers_under nat_cmp claims ≡ (λ n. []) → AreListed runs claims
none-listed runs claims held listed = held ∙ (λ i n. not (is_nil (sym listed i n)))

pub same-listed : (before after : RunsValue) (old new : IndexValue ℕ) → has after ≡ has before → numbers_under nat_cmp new ≡ numbers_under nat_cmp old
    → AreListed before old → AreListed after new
same-listed before after old new held listed are = held ∙ are ∙ (λ i n. not (is_nil (sym listed i n)))

added_by : (here : Bool) (ns : List ℕ) (claim : ℕ) → (here || not (is_nil ns)) ≡ not (is_nil (cond here (ns ++ claim ∷ []) ns))
added_by true [] claim = refl
added_by true (n ∷ ns) claim = refl
added_by false ns claim = refl

pub added-listed : (before after : RunsValue) (old new : IndexValue ℕ) (number claim : ℕ) → has after ≡ (λ n. (n == number) || has before n)
    → numbers_under nat_cmp new ≡ with_claim number claim (numbers_under nat_cmp old) → AreListed before old → AreListed after new
added-listed before after old new number claim held listed are = λ i n. at n i
  where
    at : (n : ℕ) → has after n ≡ not (is_nil (numbers_under nat_cmp new n))
    at n =
        let ns = numbers_under nat_cmp old n in
        ap (λ f. f n) held
        ∙ ap (λ b. (n == number) || b) (ap (λ f. f n) are)
        ∙ added_by (n == number) ns claim
        ∙ ap (λ b. not (is_nil (cond b (ns ++ claim ∷ []) ns))) (sym (at-number number n ∙ number-flip number n))
        ∙ ap (λ f. not (is_nil (f n))) (sym listed)

-- what is listed under the number after a claim was taken out is what was left
left-at : (old new : IndexValue ℕ) (number claim : ℕ) → numbers_under nat_cmp new ≡ without_claim number claim (numbers_under nat_cmp old)
    → (n : ℕ) → (n == number) ≡ true → filter (λ c. not (c == claim)) (numbers_under nat_cmp old n) ≡ numbers_under nat_cmp new number
left-at old new number claim listed n here =
    let left : ℕ → List ℕ = λ m. filter (λ c. not (c == claim)) (numbers_under nat_cmp old m) in
    let itself : is_at (nat_cmp number) number ≡ true = grind (arith, nat_tests) in
    ap left (eqb-true n number here)
    ∙ ap (λ b. cond b (left number) (numbers_under nat_cmp old number)) (sym itself)
    ∙ ap (λ f. f number) (sym listed)

emptied_by : (here : Bool) (ns left : List ℕ) → (here ≡ true → left ≡ []) → (not here && not (is_nil ns)) ≡ not (is_nil (cond here left ns))
emptied_by true ns left empty = sym (ap (λ (ms : List ℕ). not (is_nil ms)) (empty refl))
emptied_by false ns left empty = refl

left_by : (here : Bool) (ns : List ℕ) (test : ℕ → Bool) → (here ≡ true → is_nil (filter test ns) ≡ false)
    → not (is_nil ns) ≡ not (is_nil (cond here (filter test ns) ns))
left_by true [] test some = absurd (true≢false (some refl))
left_by true (n ∷ ns) test some = sym (ap not (some refl))
left_by false ns test some = refl

not_nil : (ns : List ℕ) → (length ns == 0) ≡ false → is_nil ns ≡ false
not_nil [] some = absurd (true≢false some)
not_nil (n ∷ ns) some = refl

-- the last claim was taken out, and the number too
pub emptied-listed : (before after : RunsValue) (old new : IndexValue ℕ) (number claim : ℕ) → has after ≡ (λ n. not (n == number) && has before n)
    → numbers_under nat_cmp new ≡ without_claim number claim (numbers_under nat_cmp old) → (length (numbers_under nat_cmp new number) == 0) ≡ true
    → AreListed before old → AreListed after new
emptied-listed before after old new number claim held listed empty are = λ i n. at n i
  where
    at : (n : ℕ) → has after n ≡ not (is_nil (numbers_under nat_cmp new n))
    at n =
        let ns = numbers_under nat_cmp old n in
        let left = filter (λ c. not (c == claim)) ns in
        let none : numbers_under nat_cmp new number ≡ [] = nil_from_length (numbers_under nat_cmp new number) (eqb-true _ 0 empty) in
        ap (λ f. f n) held
        ∙ ap (λ b. not (n == number) && b) (ap (λ f. f n) are)
        ∙ emptied_by (n == number) ns left (λ here. left-at old new number claim listed n here ∙ none)
        ∙ ap (λ b. not (is_nil (cond b left ns))) (sym (at-number number n ∙ number-flip number n))
        ∙ ap (λ f. not (is_nil (f n))) (sym listed)

-- a claim was taken out, and others are left
pub left-listed : (runs : RunsValue) (old new : IndexValue ℕ) (number claim : ℕ)
    → numbers_under nat_cmp new ≡ without_claim number claim (numbers_under nat_cmp old) → (length (numbers_under nat_cmp new number) == 0) ≡ false
    → AreListed runs old → AreListed runs new
left-listed runs old new number claim listed some are = λ i n. at n i
  where
    at : (n : ℕ) → has runs n ≡ not (is_nil (numbers_under nat_cmp new n))
    at n =
        let ns = numbers_under nat_cmp old n in
        let left = filter (λ c. not (c == claim)) ns in
        let filled : is_nil (numbers_under nat_cmp new number) ≡ false = not_nil (numbers_under nat_cmp new number) some in
        ap (λ f. f n) are
        ∙ left_by (n == number) ns (λ c. not (c == claim)) (λ here. ap (λ (ms : List ℕ). is_nil ms) (left-at old new number claim listed n here) ∙ filled)
        ∙ ap (λ b. not (is_nil (cond b left ns))) (sym (at-number number n ∙ number-flip number n))
        ∙ ap (λ f. not (is_nil (f n))) (sym listed)

-- ---- the least number that no claim has

twice : (b : Bool) → not (not b) ≡ b
twice true = refl
twice false = refl

unclaimed : (inside : Bool) (runs : RunsValue) (claims : IndexValue ℕ) → AreListed runs claims
    → ◌≡◌ {A = ℕ → Bool} (is_open inside runs) (λ n. not (inside && is_edge n) && is_nil (numbers_under nat_cmp claims n))
unclaimed inside runs claims are = λ i n. not (inside && is_edge n) && (ap (λ f. not (f n)) are ∙ twice (is_nil (numbers_under nat_cmp claims n))) i

pub least-unclaimed : (inside : Bool) (runs : RunsValue) (claims : IndexValue ℕ) (found : Option ℕ) (low high : ℕ) → AreListed runs claims
    → IfSome found (λ n. IsLeastIn (is_open inside runs) low high n)
    → IfSome found (λ n. IsLeastIn (λ m. not (inside && is_edge m) && is_nil (numbers_under nat_cmp claims m)) low high n)
least-unclaimed inside runs claims found low high are least =
    subst (λ (test : ℕ → Bool). IfSome found (λ n. IsLeastIn test low high n)) (unclaimed inside runs claims are) least

pub none-unclaimed : (inside : Bool) (runs : RunsValue) (claims : IndexValue ℕ) (found : Option ℕ) (low high : ℕ) → AreListed runs claims
    → IfNone found (NonePasses (is_open inside runs) low high)
    → IfNone found (NonePasses (λ m. not (inside && is_edge m) && is_nil (numbers_under nat_cmp claims m)) low high)
none-unclaimed inside runs claims found low high are none =
    subst (λ (test : ℕ → Bool). IfNone found (NonePasses test low high)) (unclaimed inside runs claims are) none

-- ---- the least number that a claim has
held : (runs : RunsValue) (claims : IndexValue ℕ) → AreListed runs claims → ◌≡◌ {A = ℕ → Bool} (has runs) (λ n. not (is_nil (numbers_under nat_cmp claims n)))
held runs claims are = are

pub least-held : (runs : RunsValue) (claims : IndexValue ℕ) (found : Option ℕ) (low high : ℕ) → AreListed runs claims
    → IfSome found (λ n. IsLeastIn (has runs) low high n) → IfSome found (λ n. IsLeastIn (λ m. not (is_nil (numbers_under nat_cmp claims m))) low high n)
least-held runs claims found low high are least = subst (λ (test : ℕ → Bool). IfSome found (λ n. IsLeastIn test low high n)) (held runs claims are) least

pub none-held : (runs : RunsValue) (claims : IndexValue ℕ) (found : Option ℕ) (low high : ℕ) → AreListed runs claims
    → IfNone found (NonePasses (has runs) low high) → IfNone found (NonePasses (λ m. not (is_nil (numbers_under nat_cmp claims m))) low high)
none-held runs claims found low high are none = subst (λ (test : ℕ → Bool). IfNone found (NonePasses test low high)) (held runs claims are) none

-- where no number is held, no claim is listed
nil-from : (ns : List ℕ) → false ≡ not (is_nil ns) → ns ≡ []
nil-from [] e = refl
nil-from (n ∷ ns) e = absurd (true≢false (sym e))

pub none-left : (runs : RunsValue) (claims : IndexValue ℕ) → AreListed runs claims → has runs ≡ (λ n. false) → numbers_under nat_cmp claims ≡ (λ n. [])
none-left runs claims are none =
    λ i n. nil-from (numbers_under nat_cmp claims n) (ap (λ (f : ℕ → Bool). f n) (sym none) ∙ ap (λ (f : ℕ → Bool). f n) are) i

pub none-held-there : (runs : RunsValue) (claims : IndexValue ℕ) → AreListed runs claims → numbers_under nat_cmp claims ≡ (λ n. []) → has runs ≡ (λ n. false)
none-held-there runs claims are none = are ∙ (λ i n. not (is_nil (none i n)))

-- ---- what one list of claims has beyond another
module _ (runs fewer : RunsValue) (claims others : IndexValue ℕ) (are : AreListed runs claims) (others_are : AreListed fewer others) where
  abbrev listed : IndexValue ℕ → ℕ → Bool
  listed c n = not (is_nil (numbers_under nat_cmp c n))

  pub runs-within : ((n : ℕ) → listed others n ≡ true → listed claims n ≡ true) → (n : ℕ) → has fewer n ≡ true → has runs n ≡ true
  runs-within each n here =
      ap (λ (f : ℕ → Bool). f n) (held runs claims are) ∙ each n (sym (ap (λ (f : ℕ → Bool). f n) (held fewer others others_are)) ∙ here)

  beyond-is : ◌≡◌ {A = ℕ → Bool} (λ n. has runs n && not (has fewer n)) (λ n. listed claims n && not (listed others n))
  beyond-is = λ i n. held runs claims are i n && not (held fewer others others_are i n)

  pub least-beyond : (found : Option ℕ) (low high : ℕ) → IfSome found (λ n. IsLeastIn (λ m. has runs m && not (has fewer m)) low high n)
      → IfSome found (λ n. IsLeastIn (λ m. listed claims m && not (listed others m)) low high n)
  least-beyond found low high least = subst (λ (test : ℕ → Bool). IfSome found (λ n. IsLeastIn test low high n)) beyond-is least

  pub none-beyond : (found : Option ℕ) (low high : ℕ) → IfNone found (NonePasses (λ m. has runs m && not (has fewer m)) low high)
      → IfNone found (NonePasses (λ m. listed claims m && not (listed others m)) low high)
  none-beyond found low high none = subst (λ (test : ℕ → Bool). IfNone found (NonePasses test low high)) beyond-is none
