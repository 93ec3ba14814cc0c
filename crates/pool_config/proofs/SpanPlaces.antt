-- What a search among the spans in order finds is the pool that has the address.
use Rattle.std.proofs.Common.{◌≡◌, ℕ, zero, suc, ◌+◌, ◌-◌, ◌<◌, ◌≤◌, Bool, true, false, List, [], ◌∷◌, ◌++◌, ◌⊎◌, inl, inr, map}
use Rattle.std.proofs.Common.{cond, length, get_or, Option, Some, None, refl, sym, ◌∙◌, ap, subst, arith, IfSome, IfNone, Contains}
use Rattle.std.proofs.lemmas.Bool.{cases_order, cases_lt, leb-true, le-leb, true≢false}
use Rattle.std.proofs.lemmas.List.Sorted.{Contains-permutation, IsPermutation-refl, IsPermutation-sym}
use Rattle.std.specs.Prelude.{nat_le}
use Rattle.std.specs.List.{filter_map}
use Rattle.std.specs.List.Sorted.{IsPartitionPoint, IsNonDecreasingBy}
use Rattle.ip_ranges.specs.declared.family.Family.{Family}
use Rattle.ip_ranges.specs.declared.family.Family.TheVariants.{V4, V6}
use Rattle.ip_ranges.specs.Values.{AddressValue, SpanValue, Holds, same_family}
use Rattle.ip_ranges.proofs.AddressLaws.{same_family-is, same_family-itself}
use Rattle.mlb_base.specs.Items.{ItemAt, Has, IsIn}
use Rattle.mlb_base.proofs.Lists.{in-contains}
use Rattle.pool_config.specs.declared.compiled.CompiledPool.{CompiledPool}
use Rattle.pool_config.specs.declared.span_index.PlacedSpan.{PlacedSpan}
use Rattle.pool_config.specs.declared.span_index.SpanIndex.{SpanIndex}
use Rattle.pool_config.specs.ConfigValue.{AreApart, Overlaps, placed_spans}
use Rattle.pool_config.specs.PoolOf.{HasAddress, pool_of}
use Rattle.pool_config.specs.SpanIndex.{placed_in, spans_in, IsHolder, AreCut, index_of, HasSpansOf, IsIndexOf}
use Rattle.pool_config.proofs.ItemLaws.{has_left, has_right, has_map, in_list, at_has, in_filter_map, filter_map_in, same_item}
use Rattle.pool_config.proofs.OnePool.{Placed, item_left, item_right, holder_found, holder_only}

-- ---- a search by binary search
module _ (xs : List PlacedSpan) (n i : ℕ)
    (point : IsPartitionPoint (λ (s : PlacedSpan). nat_le s.low n ≡ true) (λ (s : PlacedSpan). nat_le s.low n ≡ false) xs i) where
  -- a span that has the number is among those that have begun
  begun : (s : PlacedSpan) (there : Contains xs s) → s.low ≤ n → there.0 < i
  begun s there low = elim (cases_lt there.0 i) [
    | inl before ↦ before
    | inr behind ↦
        let late : nat_le (get_or xs there.0 s).low n ≡ false = point.1 there.0 s behind there.1 in
        let early : nat_le s.low n ≡ true = le-leb s.low n low in
        let same : nat_le (get_or xs there.0 s).low n ≡ nat_le s.low n = ap (λ (t : PlacedSpan). nat_le t.low n) there.2 in
        absurd (true≢false (sym early ∙ (sym same ∙ late)))
  ]

  pub none-begun : i ≡ 0 → AreCut xs n
  none-begun front s there within = let first = begun s there within.0 in absurd (omega arith)

  -- the last of these
  module _ (last : PlacedSpan) (some : 0 < i) (bound : i ≤ length xs) (at : get_or xs (i - 1) last ≡ last) where
    last-low : last.low ≤ n
    last-low = leb-true last.low n (ap (λ (t : PlacedSpan). nat_le t.low n) (sym at) ∙ point.0 (i - 1) last (omega arith) (omega arith))

    last-there : Contains xs last
    last-there = (i - 1, omega arith, at)

    pub last-holds : n ≤ last.high → IsHolder xs n last.pool
    last-holds high = (last, last-there, refl, (last-low, high))

    pub last-cuts : IsNonDecreasingBy (λ (t : PlacedSpan). t.low) xs → last.high < n → AreCut xs n
    last-cuts ascend ended s there within =
        let before = begun s there within.0 in
        let from_s : get_or xs there.0 s ≡ s = there.2 in
        let rises : (get_or xs there.0 last).low ≤ (get_or xs (i - 1) last).low = ascend there.0 (i - 1) last (omega arith) (omega arith) in
        let here : get_or xs there.0 last ≡ s = get_or-any xs there.0 last s there.1 ∙ from_s in
        let low : s.low ≤ last.low =
        subst (λ (t : PlacedSpan). s.low ≤ t.low) at (subst (λ (t : PlacedSpan). t.low ≤ (get_or xs (i - 1) last).low) here rises) in
        (last, last-there, low, last-low, ended)
      where
        get_or-any : (ys : List PlacedSpan) (k : ℕ) (d e : PlacedSpan) → k < length ys → get_or ys k d ≡ get_or ys k e
        get_or-any [] k d e below = absurd (omega arith)
        get_or-any (y ∷ ys) zero d e below = refl
        get_or-any (y ∷ ys) (suc k) d e below = get_or-any ys k d e (omega arith)

-- ---- the spans in the index are those of the pools
contains-in : {A : Type 0} (xs : List A) (x : A) (k : ℕ) → k < length xs → get_or xs k x ≡ x → IsIn xs x
contains-in [] x k below e = absurd (omega arith)
contains-in (y ∷ ys) x zero below e = inl e
contains-in (y ∷ ys) x (suc k) below e = inr (contains-in ys x k (omega arith) e)

has-cases : {A : Type 0} (P : A → Type 0) (xs ys : List A) → Has P (xs ++ ys) → Has P xs ⊎ Has P ys
has-cases P [] ys h = inr h
has-cases P (x ∷ xs) ys (inl here) = inl (inl here)
has-cases P (x ∷ xs) ys (inr later) = elim (has-cases P xs ys later) [
  | inl front ↦ inl (inr front)
  | inr back ↦ inr back
]

abbrev span_from : Family → PlacedSpan → SpanValue
span_from family s = record { family = family; low = s.low; high = s.high }

placed-is : (family : Family) (place : ℕ) (u : SpanValue) (s : PlacedSpan) → placed_in family place u ≡ Some s → (u ≡ span_from family s) × (s.pool ≡ place)
placed-is family place u s e = go (same_family u.family family) refl e
  where
    placed : PlacedSpan
    placed = record { low = u.low; high = u.high; pool = place }

    of_family : Family → SpanValue
    of_family f = record { family = f; low = u.low; high = u.high }

    go : (b : Bool) → same_family u.family family ≡ b → cond b (Some placed) None ≡ Some s → (u ≡ span_from family s) × (s.pool ≡ place)
    go false other found = absurd (let wrong : None ≡ Some s = found in cc)
    go true same found =
        let is : placed ≡ s = cc in
        let family_is : u.family ≡ family = same_family-is u.family family same in
        (ap of_family family_is ∙ ap (span_from family) is, ap (λ (t : PlacedSpan). t.pool) (sym is))

-- a span of the index is one of the pool at its place
listed : (family : Family) (pools : List CompiledPool) (place : ℕ) (s : PlacedSpan) → IsIn (spans_in family place pools) s
    → (i : ℕ) × (p : CompiledPool) × (s.pool ≡ place + i) × ItemAt pools i p × IsIn p.spans (span_from family s)
listed family [] place s none = absurd none
listed family (p ∷ ps) place s there = elim (has-cases (λ t. t ≡ s) (filter_map (placed_in family place) p.spans) (spans_in family (place + 1) ps) there) [
  | inl here ↦
      let (k, u, stands, e) = in_list (λ u. placed_in family place u ≡ Some s) p.spans (in_filter_map (placed_in family place) p.spans s here) in
      let (is, pool) = placed-is family place u s e in
      (0, p, omega arith, refl, at_has (λ t. t ≡ span_from family s) p.spans k u stands is)
  | inr later ↦
      let (i, q, pool, stands, has) = listed family ps (place + 1) s later in
      (suc i, q, omega arith, stands, has)
]

-- each span of a pool is in the index
lists : (family : Family) (pools : List CompiledPool) (place i m : ℕ) (p : CompiledPool) (u : SpanValue) → m ≡ place + i → ItemAt pools i p → IsIn p.spans u
    → u.family ≡ family
    → IsIn (spans_in family place pools) (record { low = u.low; high = u.high; pool = m })
lists family [] place i m p u is none there same = absurd none
lists family (q ∷ ps) place zero m p u is stands there same =
    let at : m ≡ place = omega arith in
    let s : PlacedSpan = record { low = u.low; high = u.high; pool = m } in
    let here : IsIn q.spans u = subst (λ (p : CompiledPool). IsIn p.spans u) (sym stands) there in
    has_left (λ t. t ≡ s) (filter_map (placed_in family place) q.spans) (spans_in family (place + 1) ps)
    (filter_map_in (placed_in family place) q.spans s (has_map (λ t. t ≡ u) (λ t. placed_in family place t ≡ Some s) (λ t e. rw (e, at) passes) q.spans here))
  where
    passes : placed_in family place u ≡ Some (record { low = u.low; high = u.high; pool = place })
    passes = rw (same, same_family-itself family) refl
lists family (q ∷ ps) place (suc i) m p u is stands there same =
    let s : PlacedSpan = record { low = u.low; high = u.high; pool = m } in
    has_right (λ t. t ≡ s) (filter_map (placed_in family place) q.spans) (spans_in family (place + 1) ps)
    (lists family ps (place + 1) i m p u (omega arith) stands there same)

-- ---- spans that share an address are one
placed-at : (pools : List CompiledPool) (i : ℕ) (p : CompiledPool) (u : SpanValue) → ItemAt pools i p → IsIn p.spans u
    → (m : ℕ) × (x : Placed) × ItemAt (placed_spans pools) m x × (x.1 ≡ u)
placed-at [] i p u none there = absurd none
placed-at (q ∷ ps) zero p u stands there =
    let here : IsIn q.spans u = subst (λ (p : CompiledPool). IsIn p.spans u) (sym stands) there in
    let (k, at) = in-own q.spans here in
    (k, (q.name, u), item_left (map (λ t. (q.name, t)) q.spans) (placed_spans ps) k (q.name, u) at, refl)
  where
    in-own : (spans : List SpanValue) → IsIn spans u → (k : ℕ) × ItemAt {A = Placed} (map (λ t. (q.name, t)) spans) k (q.name, u)
    in-own [] none = absurd none
    in-own (t ∷ ts) (inl here) = (0, ap (λ (s : SpanValue). (q.name, s)) here)
    in-own (t ∷ ts) (inr later) = let (k, at) = in-own ts later in (suc k, at)
placed-at (q ∷ ps) (suc i) p u stands there =
    let (m, x, at, is) = placed-at ps i p u stands there in
    let (k, behind, here) = item_right (map (λ t. (q.name, t)) q.spans) (placed_spans ps) m x at in
    (k, x, here, is)

one-span : (spans : List Placed) → AreApart spans → (i j : ℕ) (x y : Placed) → ItemAt spans i x → ItemAt spans j y → Overlaps x.1 y.1 → x.1 ≡ y.1
one-span spans apart i j x y first second meet = elim (cases_order i j) [
  | inl same ↦ ap (λ (z : Placed). z.1) (same_item spans j x y (subst (λ (k : ℕ). ItemAt spans k x) same first) second)
  | inr (inl below) ↦ absurd (apart i j x y below first second meet)
  | inr (inr above) ↦ absurd (apart j i y x above second first (meet.0, meet.2, meet.1))
]

-- ---- so what is found is the pool
module _ (pools : List CompiledPool) (index : SpanIndex) (apart : AreApart (placed_spans pools)) (of : IsIndexOf pools index) (a : AddressValue) where
  abbrev spans : List PlacedSpan
  spans = (index_of a.family index).spans.items

  in-pool : (s : PlacedSpan) → Contains spans s → (p : CompiledPool) × ItemAt pools s.pool p × IsIn p.spans (span_from a.family s)
  in-pool s there =
      let (k, below, at) =
      Contains-permutation spans (spans_in a.family 0 pools) s (IsPermutation-sym (spans_in a.family 0 pools) spans (of.same a.family)) there in
      let (i, p, place, stands, has) = listed a.family pools 0 s (contains-in (spans_in a.family 0 pools) s k below at) in
      let same : i ≡ s.pool = omega arith in
      (p, subst (λ (k : ℕ). ItemAt pools k p) same stands, has)

  holder-is : (place : ℕ) → IsHolder spans a.number place → pool_of pools a ≡ Some place
  holder-is place (s, there, at, within) =
      let (p, stands, has) = in-pool s there in
      let (k, u, stood, is) = in_list (λ u. u ≡ span_from a.family s) p.spans has in
      let holds : Holds (span_from a.family s) a = (refl, within.0, within.1) in
      let address : HasAddress a p = at_has (λ t. Holds t a) p.spans k u stood (subst (λ (t : SpanValue). Holds t a) (sym is) holds) in
      holder_only pools apart a place p (subst (λ (k : ℕ). ItemAt pools k p) at stands) address

  none-is : AreCut spans a.number → (r : Option ℕ) → pool_of pools a ≡ r
      → IfSome r (λ place. (pool : CompiledPool) × ItemAt pools place pool × HasAddress a pool) → None ≡ r
  none-is cut None is found = refl
  none-is cut (Some place) is (p, stands, has) =
      let (k, u, stood, holds) = in_list (λ t. Holds t a) p.spans has in
      let (family, low, high) = holds in
      let inside : IsIn p.spans u = at_has (λ t. t ≡ u) p.spans k u stood refl in
      let s : PlacedSpan = record { low = u.low; high = u.high; pool = place } in
      let there : Contains spans s = Contains-permutation (spans_in a.family 0 pools) spans s (of.same a.family)
      (in-contains (spans_in a.family 0 pools) s (lists a.family pools 0 place place p u (omega arith) stands inside family)) in
      let (t, t_there, above, t_low, ended) = cut s there (low, high) in
      let (q, q_stands, q_has) = in-pool t t_there in
      let (i, x, x_at, x_is) = placed-at pools place p u stands inside in
      let (j, y, y_at, y_is) = placed-at pools t.pool q (span_from a.family t) q_stands q_has in
      let rises : t.low ≤ t.high = subst (λ (v : SpanValue). v.low ≤ v.high) y_is (of.rise j y y_at) in
      let b : AddressValue = record { family = a.family; number = t.low } in
      let in_u : Holds u b = (family, above, omega arith) in
      let in_t : Holds (span_from a.family t) b = (refl, omega arith, rises) in
      let meet : Overlaps x.1 y.1 = (b, subst (λ (v : SpanValue). Holds v b) (sym x_is) in_u, subst (λ (v : SpanValue). Holds v b) (sym y_is) in_t) in
      let one : u ≡ span_from a.family t = sym x_is ∙ (one-span (placed_spans pools) apart i j x y x_at y_at meet ∙ y_is) in
      let ends : u.high ≡ t.high = ap (λ (v : SpanValue). v.high) one in
      absurd (omega arith)

  pub found-is : (r : Option ℕ) → IfSome r (IsHolder spans a.number) → IfNone r (AreCut spans a.number) → r ≡ pool_of pools a
  found-is None found none = none-is none (pool_of pools a) refl (holder_found pools a)
  found-is (Some place) found none = sym (holder-is place found)

-- ---- without pools
pub none-are : (index : SpanIndex) → index.v4.spans.items ≡ [] → index.v6.spans.items ≡ [] → IsIndexOf [] index
none-are index v4 v6 = record { same = same; rise = λ i span none. absurd none }
  where
    same : HasSpansOf [] index
    same V4 = rw v4 (IsPermutation-refl [])
    same V6 = rw v6 (IsPermutation-refl [])
