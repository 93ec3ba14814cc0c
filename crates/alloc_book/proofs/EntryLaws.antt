-- Entries that are ignored.
use Rattle.std.proofs.Common.{◌≡◌, ℕ, ◌+◌, ◌<◌, ◌≤◌, zero, suc, Bool, true, false, List, [], ◌∷◌, ◌++◌, drop, drop-cons, length}
use Rattle.std.proofs.Common.{cond, find, is_some, Option, Some, None, IfSome, inl, inr, refl, sym, ap, ◌∙◌, subst, arith, ⊎_elim, add-one, true≢false}
use Rattle.std.proofs.lemmas.Bool.{cases_lt}
use Rattle.std.proofs.lemmas.List.{drop_all}
use Rattle.std.proofs.lemmas.Option.{slice_get-map, slice_get_within, get_or_from_slice_get}
use Rattle.std.specs.List.{Contains}
use Rattle.std.specs.Option.{option_map}
use Rattle.std.specs.Prelude.{slice_get}
use Rattle.ip_ranges.specs.declared.family.Family.{Family}
use Rattle.ip_ranges.specs.Values.{AddressValue, SpanValue}
use Rattle.mlb_base.specs.Items.{is_nil}
use Rattle.mlb_base.proofs.Among.{contains-none, contains-cons, contains-first, contains-later}
use Rattle.number_sets.specs.Least.{NonePasses}
use Rattle.pool_config.specs.declared.compiled.CompiledPool.{CompiledPool}
use Rattle.claim_index.specs.Claims.{ClaimValue}
use Rattle.full_entries.specs.declared.entries.Entry.{Entry}
use Rattle.full_entries.specs.Entries.{AreThose, entries_in, entries_of, entry_of}
use Rattle.full_entries.specs.Full.{IsFull}
use Rattle.full_entries.specs.Places.{HasAddress}
use Rattle.alloc_book.specs.Candidates.{is_free}
use Rattle.alloc_book.specs.Search.{numbered, least_in, least_of, or_else}
use Rattle.alloc_book.specs.Searching.{AreAmong, StandAt}

-- places in lists that are joined
get-left : {X : Type 0} (xs ys : List X) (k : ℕ) (x : X) → slice_get xs k ≡ Some x → slice_get (xs ++ ys) k ≡ Some x
get-left [] ys k x e = absurd (cc)
get-left (y ∷ xs) ys zero x e = e
get-left (y ∷ xs) ys (suc k) x e = get-left xs ys k x e

get-right : {X : Type 0} (xs ys : List X) (i k : ℕ) → i ≡ length xs + k → slice_get (xs ++ ys) i ≡ slice_get ys k
get-right [] ys i k e = let same : i ≡ k = omega (arith, e) in ap (slice_get ys) same
get-right (x ∷ xs) ys zero k e = absurd (omega (arith, e))
get-right (x ∷ xs) ys (suc i) k e = get-right xs ys i k (omega (arith, e))

-- what stands at a place is among the items
pub contained : {X : Type 0} (xs : List X) (k : ℕ) (x : X) → Some x ≡ slice_get xs k → Contains xs x
contained xs k x at = (k, slice_get_within xs k x (sym at), get_or_from_slice_get xs k x x (sym at))

-- what a search finds is among the items
found-by : {X : Type 0} (b : Bool) (test : X → Bool) (y : X) (ys : List X) (x : X) → (find test ys ≡ Some x → Contains ys x)
    → cond b (Some y) (find test ys) ≡ Some x → Contains (y ∷ ys) x
found-by true test y ys x later e = let is : y ≡ x = cc in subst (Contains (y ∷ ys)) is (contains-first y ys)
found-by false test y ys x later e = contains-later y ys x (later e)

pub found-contained : {X : Type 0} (test : X → Bool) (xs : List X) (x : X) → find test xs ≡ Some x → Contains xs x
found-contained test [] x e = absurd (cc)
found-contained test (y ∷ ys) x e = found-by (test y) test y ys x (found-contained test ys x) e

-- no number
pub none-is : {X : Type 0} (o : Option X) (b : Bool) → b ≡ is_some o → b ≡ false → o ≡ None
none-is None b is none = refl
none-is (Some x) b is none = absurd (true≢false (sym is ∙ none))

-- the entries of each of the pools stand among those of all
stand : (pools : List CompiledPool) (pool : CompiledPool) → Contains pools pool → (place : ℕ) × StandAt (entries_of pools) pool place
stand [] pool there = absurd (contains-none pool there)
stand (p ∷ pools) pool there =
    ⊎_elim
    (λ (same : p ≡ pool). subst (λ (q : CompiledPool). (place : ℕ) × StandAt (entries_of (p ∷ pools)) q place) same (
      0,
      λ k e at. let here : 0 + k ≡ k = omega arith in
          ap (slice_get (entries_in p ++ entries_of pools)) here ∙ get-left (entries_in p) (entries_of pools) k e at,
    ))
    (λ later. let rest = stand pools pool later in (
      length (entries_in p) + rest.0,
      λ k e at. get-right (entries_in p) (entries_of pools) (length (entries_in p) + rest.0 + k) (rest.0 + k) (omega arith) ∙ rest.1 k e at,
    ))
    (contains-cons p pools pool there)

pub among : (pools : List CompiledPool) (entries : List Entry) (pool : CompiledPool) → AreThose pools entries → Contains pools pool → AreAmong entries pool
among pools entries pool (inl none) there = inl none
among pools entries pool (inr those) there =
    let at = stand pools pool there in inr (at.0, subst (λ (es : List Entry). StandAt es pool at.0) (sym those) at.1)

-- the entry of a span of the pool
entry-at : (pool : CompiledPool) (k : ℕ) (span : SpanValue) → slice_get pool.spans k ≡ Some span
    → slice_get (entries_in pool) k ≡ Some (entry_of pool.avoid_buggy span)
entry-at pool k span at = slice_get-map (entry_of pool.avoid_buggy) pool.spans k ∙ ap (option_map (entry_of pool.avoid_buggy)) at

-- the place of the first one is found by its first address
pub place-found : (entries : List Entry) (pool : CompiledPool) (span : SpanValue) (found : Option ℕ) → AreAmong entries pool → is_nil entries ≡ false
    → slice_get pool.spans 0 ≡ Some span → span.low ≤ span.high
    → ((i : ℕ) (e : Entry) → slice_get entries i ≡ Some e → HasAddress (record { family = span.family; number = span.low }) e → found ≡ Some i)
    → IfSome found (StandAt entries pool)
place-found entries pool span found (inl none) some first rises finds =
    let nil : is_nil entries ≡ true = ap (λ (es : List Entry). is_nil es) none in absurd (true≢false (sym nil ∙ some))
place-found entries pool span found (inr (place, stands)) some first rises finds =
    let there = stands 0 (entry_of pool.avoid_buggy span) (entry-at pool 0 span first) in
    let least : span.low ≤ span.low = omega arith in
    let is : found ≡ Some (place + 0) = finds (place + 0) (entry_of pool.avoid_buggy span) there (refl, least, rises) in
    let same : place ≡ place + 0 = omega arith in
    subst (λ (o : Option ℕ). IfSome o (StandAt entries pool)) (sym is) (subst (StandAt entries pool) same stands)

-- entries that are known to be full have no free address
pub full-at : (claims : List ClaimValue) (entries : List Entry) (pool : CompiledPool) (first place last : ℕ) → StandAt entries pool first
    → ((i : ℕ) (e : Entry) → place ≤ i → i < last → slice_get entries i ≡ Some e → IsFull claims e) → (k : ℕ) (span : SpanValue)
    → place ≤ first + k → first + k < last → slice_get pool.spans k ≡ Some span
    → NonePasses (numbered (is_free claims pool) span.family) span.low span.high
full-at claims entries pool first place last stands full k span from upto at =
    let e = entry_of pool.avoid_buggy span in full (first + k) e from upto (stands k e (entry-at pool k span at))

-- past the end nothing is left
past-all : {X : Type 0} (xs : List X) (at : ℕ) → None ≡ slice_get xs at → drop at xs ≡ []
past-all [] at past = drop_all at [] (omega arith)
past-all (x ∷ xs) zero past = absurd (cc)
past-all (x ∷ xs) (suc at) past = past-all xs at past

first-of : {X : Type 0} (first rest : Option X) → is_some first ≡ true → or_else first rest ≡ first
first-of None rest some = absurd (true≢false (sym some))
first-of (Some x) rest some = refl

-- spans are gone through, and some are ignored
module _ (test : AddressValue → Bool) (family : Family) where
  pub skipped : (spans : List SpanValue) (from upto : ℕ) → from ≤ upto
      → ((k : ℕ) (span : SpanValue) → from ≤ k → k < upto → slice_get spans k ≡ Some span → least_in test family span ≡ None)
      → least_of test family (drop upto spans) ≡ least_of test family (drop from spans)
  skipped [] from upto more none =
      let here : drop upto [] ≡ [] = drop_all upto [] (omega arith) in
      let there : drop from [] ≡ [] = drop_all from [] (omega arith) in
      ap (least_of test family) (here ∙ sym there)
  skipped (span ∷ spans) zero zero more none = refl
  skipped (span ∷ spans) (suc from) zero more none = absurd (omega (arith, more))
  skipped (span ∷ spans) zero (suc upto) more none =
      let nothing : least_in test family span ≡ None = none 0 span (omega arith) (omega arith) refl in
      let later = skipped spans 0 upto (omega arith) (λ k s from below at. none (suc k) s (omega arith) (omega (arith, below)) at) in
      later ∙ sym (ap (λ o. or_else o (least_of test family spans)) nothing)
  skipped (span ∷ spans) (suc from) (suc upto) more none =
      skipped spans from upto (omega (arith, more)) (λ k s begun below at. none (suc k) s (omega (arith, begun)) (omega (arith, below)) at)

  -- a span without an address is passed, and those after it that are ignored
  pub passed-on : (spans : List SpanValue) (at : ℕ) (first : SpanValue) (next : ℕ) → slice_get spans at ≡ Some first → least_in test family first ≡ None
      → at + 1 ≤ next
      → ((k : ℕ) (span : SpanValue) → at + 1 ≤ k → k < next → slice_get spans k ≡ Some span → least_in test family span ≡ None)
      → least_of test family (drop next spans) ≡ least_of test family (drop at spans)
  passed-on spans at first next there none within passed =
      skipped spans at next (omega (arith, within)) (λ k span from below here.
      ⊎_elim (λ behind. passed k span (omega (arith, behind)) below here)
      (λ upto.
      let same : at ≡ k = omega (arith, upto, from) in
      let one : Some first ≡ Some span = sym there ∙ ap (slice_get spans) same ∙ here in
      let is : first ≡ span = cc in
      subst (λ (s : SpanValue). least_in test family s ≡ None) is none)
      (cases_lt at k))

  -- a span and those after it
  pub listed-at : (spans : List SpanValue) (at : ℕ) (span : SpanValue) → slice_get spans at ≡ Some span
      → least_of test family (drop at spans) ≡ or_else (least_in test family span) (least_of test family (drop (at + 1) spans))
  listed-at spans at span there =
      let within = slice_get_within spans at span there in
      let item = get_or_from_slice_get spans at span span there in
      ap (least_of test family) (drop-cons spans at span within)
      ∙ ap (λ (s : SpanValue). or_else (least_in test family s) (least_of test family (drop (suc at) spans))) item
      ∙ ap (λ (k : ℕ). or_else (least_in test family span) (least_of test family (drop k spans))) (sym (add-one at))

  -- where the first one has an address it is the least
  pub listed-least : (spans : List SpanValue) (at : ℕ) (span : SpanValue) → slice_get spans at ≡ Some span → is_some (least_in test family span) ≡ true
      → least_of test family (drop at spans) ≡ least_in test family span
  listed-least spans at span there some =
      listed-at spans at span there ∙ first-of (least_in test family span) (least_of test family (drop (at + 1) spans)) some

  -- after all of them there is none
  pub listed-none : (spans : List SpanValue) (at : ℕ) → None ≡ slice_get spans at → None ≡ least_of test family (drop at spans)
  listed-none spans at past = sym (ap (least_of test family) (past-all spans at past))
