-- Spans that share an address, and the test of it on spans that are read of entries.
use Rattle.std.proofs.Common.{◌≡◌, ℕ, zero, suc, ◌+◌, ◌≤◌, Bool, true, false, List, [], ◌∷◌, ◌++◌, length, map}
use Rattle.std.proofs.Common.{cond, not, Option, Some, None, Result, Ok, Err, max, refl, sym, ◌∙◌, subst, arith}
use Rattle.std.proofs.lemmas.Bool.{and_parts, and_from, leb-true, le-leb, ltb-false}
use Rattle.std.specs.List.{AllByRecursion, cons_option}
use Rattle.std.specs.Prelude.{nat_lt}
use Rattle.std.specs.Result.{result_ok}
use Rattle.ip_ranges.specs.declared.fault.RangeFault.{RangeFault}
use Rattle.ip_ranges.specs.declared.fault.RangeFault.TheVariants.{Mapped, MixedFamilies, Backwards}
use Rattle.ip_ranges.specs.Values.{AddressValue, SpanValue, Holds, overlaps, same_family, meets_mapped, masked, span_of, width_of}
use Rattle.std.specs.Net.Reader.{read_octet, whole_value}
use Rattle.std.specs.List.{position_or_len, before_first, after_first}
use Rattle.ip_ranges.specs.AddressText.{address_of}
use Rattle.ip_ranges.specs.EntryText.{entry_of, written_span, range_of, prefix_of, span_between, length_within, trimmed, is_dash, is_slash}
use Rattle.ip_ranges.proofs.EntryLemmas.{entry_of-err, entry_of-mapped, entry_of-ok}
use Rattle.ip_ranges.proofs.AddressLaws.{same_family-is, same_family-itself}
use Rattle.kube_model.specs.declared.pool.Pool.{Pool}
use Rattle.mlb_base.specs.Items.{ItemAt}
use Rattle.mlb_base.proofs.Bools.{Decides-itself}
use Rattle.pool_config.specs.declared.compiled.CompiledPool.{CompiledPool}
use Rattle.pool_config.specs.ConfigValue.{Overlaps, placed_spans}
use Rattle.pool_config.specs.Faults.{FaultyPair, key_of}
use Rattle.pool_config.specs.Lists.{compiled_pool, spans_of}
use Rattle.pool_config.specs.Search.{first_pair, meet}
use Rattle.pool_config.proofs.Firsts.{Finds, finds_pair}

-- an address in both is found by the test
pub overlaps-from : (s t : SpanValue) (a : AddressValue) → Holds s a → Holds t a → overlaps s t ≡ true
overlaps-from s t a h k =
    let (sf, sl, sh) = h in
    let (tf, tl, th) = k in
    let same : s.family ≡ t.family = sf ∙ sym tf in
    and_from _ _ (rw same (same_family-itself t.family)) (and_from _ _ (le-leb s.low t.high (omega arith)) (le-leb t.low s.high (omega arith)))

-- the low number isn't above the high one
abbrev pub Rises : SpanValue → Type 0
Rises s = s.low ≤ s.high

overlaps-is : (s t : SpanValue) → Rises s → Rises t → overlaps s t ≡ true → Overlaps s t
overlaps-is s t rises rises' e =
    let (family, both) = and_parts _ _ e in
    let (front, back) = and_parts _ _ both in
    let same : s.family ≡ t.family = same_family-is s.family t.family family in
    let reaches : s.low ≤ t.high = leb-true _ _ front in
    let within : t.low ≤ s.high = leb-true _ _ back in
    (record { family = s.family; number = max s.low t.low }, (refl, omega arith, omega arith), (sym same, omega arith, omega arith))

-- what is read of an entry rises
abbrev bind : {A B E : Type 0} → Result A E → (A → Result B E) → Result B E
bind (Ok x) f = f x
bind (Err e) f = Err e

bound : {A B E : Type 0} (r : Result A E) (f : A → Result B E) (y : B) → bind r f ≡ Ok y → (x : A) × (f x ≡ Ok y)
bound (Ok x) f y e = (x, e)
bound (Err z) f y e = absurd (let h : Err z ≡ Ok y = e in cc)

between_rises : (low high : AddressValue) (s : SpanValue) → span_between low high ≡ Ok s → Rises s
between_rises low high s e = go (same_family low.family high.family) (nat_lt high.number low.number) refl e
  where
    go : (b c : Bool) → nat_lt high.number low.number ≡ c
        → cond (not b) (Err MixedFamilies) (cond c (Err Backwards) (Ok (record { family = low.family; low = low.number; high = high.number }))) ≡ Ok s → Rises s
    go false c is found = absurd (let h : Err MixedFamilies ≡ Ok s = found in cc)
    go true true is found = absurd (let h : Err Backwards ≡ Ok s = found in cc)
    go true false is found =
        let above : low.number ≤ high.number = ltb-false high.number low.number is in
        let same : record { family = low.family; low = low.number; high = high.number } ≡ s = cc in
        rw (← same) above

range_rises : (low_text high_text : List ℕ) (s : SpanValue) → range_of low_text high_text ≡ Ok s → Rises s
range_rises low_text high_text s e =
    let f : AddressValue → Result SpanValue RangeFault = λ low. bind (address_of (trimmed high_text)) (λ high. span_between low high) in
    let h : bind (address_of (trimmed low_text)) f ≡ Ok s = e in
    let (low, rest) = bound (address_of (trimmed low_text)) f s h in
    let (high, last) = bound (address_of (trimmed high_text)) (λ high. span_between low high) s rest in
    between_rises low high s last

le_add : (a b : ℕ) → a ≤ a + b
le_add a b = omega arith

prefix_rises : (address_text length_text : List ℕ) (s : SpanValue) → prefix_of address_text length_text ≡ Ok s → Rises s
prefix_rises address_text length_text s e =
    let g : AddressValue → ℕ → Result SpanValue RangeFault = λ address length. Ok (span_of (masked address length)) in
    let f : AddressValue → Result SpanValue RangeFault =
    λ address. bind (length_within (width_of address.family) (whole_value (read_octet length_text))) (g address) in
    let h : bind (address_of address_text) f ≡ Ok s = e in
    let (address, rest) = bound (address_of address_text) f s h in
    let (length, last) = bound (length_within (width_of address.family) (whole_value (read_octet length_text))) (g address) s rest in
    let whole : ◌≡◌ {A = Result SpanValue RangeFault} (Ok (span_of (masked address length))) (Ok s) = last in
    let same : span_of (masked address length) ≡ s = cc in
    let rises : Rises (span_of (masked address length)) = le_add _ _ in
    rw (← same) rises

written_rises : (text : List ℕ) (s : SpanValue) → written_span text ≡ Ok s → Rises s
written_rises text s e = go (nat_lt (position_or_len is_dash text) (length text)) e
  where
    go : (b : Bool) → cond b (range_of (before_first is_dash text) (after_first is_dash text))
        (prefix_of (before_first is_slash text) (after_first is_slash text)) ≡ Ok s → Rises s
    go true found = range_rises (before_first is_dash text) (after_first is_dash text) s found
    go false found = prefix_rises (before_first is_slash text) (after_first is_slash text) s found

entry_rises : (text : List ℕ) (s : SpanValue) → entry_of text ≡ Ok s → Rises s
entry_rises text s e = go (written_span text) refl
  where
    unmapped : (x : SpanValue) → written_span text ≡ Ok x → (b : Bool) → meets_mapped x ≡ b → Rises s
    unmapped x is true m = absurd (let h : Err Mapped ≡ Ok s = entry_of-mapped text x (sym is) m ∙ e in cc)
    unmapped x is false m =
        let whole : ◌≡◌ {A = Result SpanValue RangeFault} (Ok x) (Ok s) = entry_of-ok text x (sym is) m ∙ e in
        let same : x ≡ s = cc in
        let rises : Rises x = written_rises text x is in
        rw (← same) rises

    go : (r : Result SpanValue RangeFault) → written_span text ≡ r → Rises s
    go (Ok x) is = unmapped x is (meets_mapped x) refl
    go (Err f) is = absurd (let h : Err f ≡ Ok s = entry_of-err text f (sym is) ∙ e in cc)

all_rise : (entries : List (List ℕ)) → AllByRecursion Rises (spans_of entries)
all_rise [] = tt
all_rise (t ∷ ts) = go (entry_of t) refl (all_rise ts)
  where
    go : (r : Result SpanValue RangeFault) → entry_of t ≡ r → AllByRecursion Rises (spans_of ts)
        → AllByRecursion Rises (cons_option (result_ok r) (spans_of ts))
    go (Ok s) e rest = (entry_rises t s e, rest)
    go (Err f) e rest = rest

-- and so do those of all pools
abbrev Placed : Type 0
Placed = List ℕ × SpanValue

abbrev PlacedRises : Placed → Type 0
PlacedRises e = Rises e.1

put_behind : (name : List ℕ) (spans : List SpanValue) (rest : List Placed) → AllByRecursion Rises spans → AllByRecursion PlacedRises rest
    → AllByRecursion PlacedRises (map (λ s. (name, s)) spans ++ rest)
put_behind name [] rest all later = later
put_behind name (s ∷ ss) rest all later = (all.0, put_behind name ss rest all.1 later)

all_placed_rise : (pools : List (List ℕ × Pool)) → AllByRecursion PlacedRises (placed_spans (map compiled_pool pools))
all_placed_rise [] = tt
all_placed_rise (e ∷ es) = put_behind e.0 (spans_of e.1.entries) (placed_spans (map compiled_pool es)) (all_rise e.1.entries) (all_placed_rise es)

rises_at : (xs : List Placed) → AllByRecursion PlacedRises xs → (i : ℕ) (x : Placed) → ItemAt xs i x → PlacedRises x
rises_at [] all i x stands = absurd stands
rises_at (y ∷ ys) all zero x stands = let P : Placed → Type 0 = PlacedRises in subst P stands all.0
rises_at (y ∷ ys) all (suc i) x stands = rises_at ys all.1 i x stands

pub pools_rise : (entries : List (List ℕ × Pool)) (pools : List CompiledPool) → pools ≡ map compiled_pool entries → (i : ℕ) (x : Placed)
    → ItemAt (placed_spans pools) i x → PlacedRises x
pools_rise entries pools made i x stands =
    rises_at (placed_spans (map compiled_pool entries)) (all_placed_rise entries) i x
    (subst (λ (ps : List CompiledPool). ItemAt (placed_spans ps) i x) made stands)

-- what finds one fault finds another that is as good
finds_like : (F G : ℕ → ℕ → List ℕ → Type 0) → ((i j : ℕ) (n : List ℕ) → F i j n → G i j n) → ((i j : ℕ) (n : List ℕ) → G i j n → F i j n)
    → (r : Option (List ℕ))
    → Finds F r → Finds G r
finds_like F G to from None none = λ i j n g. none i j n (from i j n g)
finds_like F G to from (Some name) f =
    record { first = f.first; second = f.second; here = to f.first f.second name f.here; least = λ i j n g before. f.least i j n (from i j n g) before }

-- the first two entries that overlap
pub finds_overlap : (pools : List (List ℕ × Pool))
    → Finds (FaultyPair key_of (λ a b. Overlaps a.1 b.1) (placed_spans (map compiled_pool pools)))
    (first_pair key_of meet (placed_spans (map compiled_pool pools)))
finds_overlap pools =
    finds_like (FaultyPair key_of Meet spans) (FaultyPair key_of Share spans) to from (first_pair key_of meet spans)
    (finds_pair key_of meet Meet (λ a b. Decides-itself (meet a b)) spans)
  where
    spans : List Placed
    spans = placed_spans (map compiled_pool pools)

    Meet : Placed → Placed → Type 0
    Meet a b = meet a b ≡ true

    Share : Placed → Placed → Type 0
    Share a b = Overlaps a.1 b.1

    rises : (i : ℕ) (x : Placed) → ItemAt spans i x → PlacedRises x
    rises i x stands = rises_at spans (all_placed_rise pools) i x stands

    to : (i j : ℕ) (n : List ℕ) → FaultyPair key_of Meet spans i j n → FaultyPair key_of Share spans i j n
    to i j n h = record {
      one = h.one;
      other = h.other;
      ordered = h.ordered;
      one_stands = h.one_stands;
      other_stands = h.other_stands;
      faulty = overlaps-is h.one.1 h.other.1 (rises i h.one h.one_stands) (rises j h.other h.other_stands) h.faulty;
      named = h.named;
    }

    from : (i j : ℕ) (n : List ℕ) → FaultyPair key_of Share spans i j n → FaultyPair key_of Meet spans i j n
    from i j n h =
        let (x, in_one, in_other) = h.faulty in
        record {
          one = h.one;
          other = h.other;
          ordered = h.ordered;
          one_stands = h.one_stands;
          other_stands = h.other_stands;
          faulty = overlaps-from h.one.1 h.other.1 x in_one in_other;
          named = h.named;
        }
