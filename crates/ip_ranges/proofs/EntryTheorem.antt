-- An entry is read as what it is.
use Rattle.std.proofs.Common.{◌≡◌, ◌≢◌, ℕ, zero, suc, ◌+◌, ◌<◌, ◌≤◌, ◌⊎◌, ◌↔◌, max, Bool, true, false, cond, eqb, leb}
use Rattle.std.proofs.Common.{ltb, not, List, [], ◌∷◌, ◌++◌, length, take, drop, Option, Some, None, Result, Ok, Err}
use Rattle.std.proofs.Common.{refl, sym, ap, ◌∙◌, subst, arith, inl, inr, lt-ltb, le-ltb, le-leb, leb-true, length-append}
use Rattle.std.proofs.lemmas.Bool.{cases_eq, false_from_ne_true, ne_eqb, and_parts, and_from, false≢true}
use Rattle.std.proofs.lemmas.Bool.Decides.{nat_tests}
use Rattle.std.proofs.lemmas.List.{take_at, take_all, drop_all}
use Rattle.std.specs.List.{position_or_len, before_first, after_first}
use Rattle.std.specs.Net.Reader.{read_octet, whole_value}
use Rattle.ip_ranges.specs.declared.family.Family.{Family}
use Rattle.ip_ranges.specs.declared.family.Family.TheVariants.{V4, V6}
use Rattle.ip_ranges.specs.declared.fault.RangeFault.{RangeFault}
use Rattle.ip_ranges.specs.declared.fault.RangeFault.TheVariants.{NotAddress, BadLength, Backwards, MixedFamilies, Mapped}
use Rattle.ip_ranges.specs.Values.{AddressValue, SpanValue, Holds, IsMapped, first_mapped, last_mapped, meets_mapped, same_family, width_of, masked, span_of}
use Rattle.ip_ranges.specs.AddressText.{address_of}
use Rattle.ip_ranges.specs.EntryText.{entry_of, written_span, range_of, prefix_of, span_between, length_within, trimmed, is_dash, is_slash, span_unmapped}
use Rattle.ip_ranges.specs.Entry.{HasNo, SplitsAt, Reads, IsRangeOf, IsLength, IsPrefixOf, HasParts, IsWritten, IsEntry}
use Rattle.ip_ranges.proofs.AddressLaws.{same_family-is, same_family-itself}
use Rattle.ip_ranges.proofs.DecimalLemmas.{octet_whole, whole_octet}
use Rattle.ip_ranges.proofs.SpelledLemmas.{address_of-ok, address_of-mapped, address_of-not_address, address_of-faults}

-- The text of an address.
no_other : (fault : RangeFault) → (fault ≡ NotAddress) ⊎ (fault ≡ Mapped) → fault ≢ BadLength × (fault ≢ Backwards × fault ≢ MixedFamilies)
no_other fault (inl same) = (λ e. cc, (λ e. cc, λ e. cc))
no_other fault (inr same) = (λ e. cc, (λ e. cc, λ e. cc))

reads_of : (text : List ℕ) (r : Result AddressValue RangeFault) → address_of text ≡ r → Reads text r
reads_of text (Ok a) e = (address_of-ok text a).0 e
reads_of text (Err NotAddress) e = (address_of-not_address text).0 e
reads_of text (Err Mapped) e = (address_of-mapped text).0 e
reads_of text (Err BadLength) e = (no_other BadLength (rw e at (address_of-faults text))).0 refl
reads_of text (Err Backwards) e = (no_other Backwards (rw e at (address_of-faults text))).1.0 refl
reads_of text (Err MixedFamilies) e = (no_other MixedFamilies (rw e at (address_of-faults text))).1.1 refl

reads_gives : (text : List ℕ) (r : Result AddressValue RangeFault) → Reads text r → address_of text ≡ r
reads_gives text (Ok a) h = (address_of-ok text a).1 h
reads_gives text (Err NotAddress) h = (address_of-not_address text).1 h
reads_gives text (Err Mapped) h = (address_of-mapped text).1 h
reads_gives text (Err BadLength) h = absurd h
reads_gives text (Err Backwards) h = absurd h
reads_gives text (Err MixedFamilies) h = absurd h

-- A range.
abbrev between_by : Bool → Bool → AddressValue → AddressValue → Result SpanValue RangeFault
between_by same below a b =
    cond (not same) (Err MixedFamilies) (cond below (Err Backwards) (Ok (record { family = a.family; low = a.number; high = b.number })))

between_is : (low high : List ℕ) (same below : Bool) (a b : AddressValue) → same_family a.family b.family ≡ same → ltb b.number a.number ≡ below
    → Reads low (Ok a) → Reads high (Ok b)
    → IsRangeOf low high (between_by same below a b)
between_is low high false below a b s l ra rb = (a, b, ra, rb, λ e. false≢true (sym s ∙ ap (same_family a.family) (sym e) ∙ same_family-itself a.family))
between_is low high true true a b s l ra rb = (a, b, ra, rb, same_family-is _ _ s, grind (arith, nat_tests))
between_is low high true false a b s l ra rb = (a, b, ra, rb, same_family-is _ _ s, grind (arith, nat_tests), refl)

abbrev range_by : Result AddressValue RangeFault → Result AddressValue RangeFault → Result SpanValue RangeFault
range_by (Ok a) (Ok b) = span_between a b
range_by (Ok a) (Err fault) = Err fault
range_by (Err fault) y = Err fault

range_is : (low high : List ℕ) (x y : Result AddressValue RangeFault) → Reads low x → Reads high y → IsRangeOf low high (range_by x y)
range_is low high (Ok a) (Ok b) rx ry = between_is low high (same_family a.family b.family) (ltb b.number a.number) a b refl refl rx ry
range_is low high (Ok a) (Err NotAddress) rx ry = inr (a, rx, ry)
range_is low high (Ok a) (Err Mapped) rx ry = inr (a, rx, ry)
range_is low high (Ok a) (Err BadLength) rx ry = absurd ry
range_is low high (Ok a) (Err Backwards) rx ry = absurd ry
range_is low high (Ok a) (Err MixedFamilies) rx ry = absurd ry
range_is low high (Err NotAddress) y rx ry = inl rx
range_is low high (Err Mapped) y rx ry = inl rx
range_is low high (Err BadLength) y rx ry = absurd rx
range_is low high (Err Backwards) y rx ry = absurd rx
range_is low high (Err MixedFamilies) y rx ry = absurd rx

range_of-err : (low high : List ℕ) (fault : RangeFault) → address_of (trimmed low) ≡ Err fault → range_of low high ≡ Err fault
range_of-err low high fault e = rw e refl

range_of-by : (low high : List ℕ) (x y : Result AddressValue RangeFault) → address_of (trimmed low) ≡ x → address_of (trimmed high) ≡ y
    → range_of low high ≡ range_by x y
range_of-by low high (Ok a) (Ok b) ex ey = rw (ex, ey) refl
range_of-by low high (Ok a) (Err fault) ex ey = rw (ex, ey) refl
range_of-by low high (Err fault) y ex ey = rw ex refl

range_sound : (low high : List ℕ) → IsRangeOf (trimmed low) (trimmed high) (range_of low high)
range_sound low high =
    let x = address_of (trimmed low) in
    let y = address_of (trimmed high) in
    rw (range_of-by low high x y refl refl) (range_is (trimmed low) (trimmed high) x y (reads_of (trimmed low) x refl) (reads_of (trimmed high) y refl))

between_mixed : (a b : AddressValue) → a.family ≢ b.family → span_between a b ≡ Err MixedFamilies
between_mixed a b differ =
    let no : same_family a.family b.family ≡ false = false_from_ne_true _ (λ e. differ (same_family-is _ _ e)) in
    rw no refl

between_back : (a b : AddressValue) → a.family ≡ b.family → b.number < a.number → span_between a b ≡ Err Backwards
between_back a b same below =
    let one : same_family a.family b.family ≡ true = rw (← same) (same_family-itself a.family) in
    rw (one, lt-ltb b.number a.number below) refl

between_ok : (a b : AddressValue) → a.family ≡ b.family → a.number ≤ b.number
    → span_between a b ≡ Ok (record { family = a.family; low = a.number; high = b.number })
between_ok a b same le =
    let one : same_family a.family b.family ≡ true = rw (← same) (same_family-itself a.family) in
    rw (one, le-ltb b.number a.number le) refl

range_fault : (low high : List ℕ) (fault : RangeFault) → Reads (trimmed low) (Err fault)
    ⊎ ((a : AddressValue) × Reads (trimmed low) (Ok a) × Reads (trimmed high) (Err fault)) → range_of low high ≡ Err fault
range_fault low high fault (inl h) = range_of-err low high fault (reads_gives (trimmed low) (Err fault) h)
range_fault low high fault (inr (a, ra, rb)) = range_of-by low high (Ok a) (Err fault) (reads_gives _ (Ok a) ra) (reads_gives (trimmed high) (Err fault) rb)

range_gives : (low high : List ℕ) (r : Result SpanValue RangeFault) → IsRangeOf (trimmed low) (trimmed high) r → range_of low high ≡ r
range_gives low high (Ok s) (a, b, ra, rb, same, le, is) =
    range_of-by low high (Ok a) (Ok b) (reads_gives _ (Ok a) ra) (reads_gives _ (Ok b) rb) ∙ between_ok a b same le ∙ ap (λ (t : SpanValue). Ok t) (sym is)
range_gives low high (Err MixedFamilies) (a, b, ra, rb, differ) =
    range_of-by low high (Ok a) (Ok b) (reads_gives _ (Ok a) ra) (reads_gives _ (Ok b) rb) ∙ between_mixed a b differ
range_gives low high (Err Backwards) (a, b, ra, rb, same, below) =
    range_of-by low high (Ok a) (Ok b) (reads_gives _ (Ok a) ra) (reads_gives _ (Ok b) rb) ∙ between_back a b same below
range_gives low high (Err NotAddress) h = range_fault low high NotAddress h
range_gives low high (Err Mapped) h = range_fault low high Mapped h
range_gives low high (Err BadLength) h = range_fault low high BadLength h

-- A prefix.
abbrev LengthIs : Family → List ℕ → Result ℕ RangeFault → Type 0
LengthIs f text (Ok n) = IsLength f text n
LengthIs f text (Err BadLength) = (n : ℕ) → ¬ IsLength f text n
LengthIs f text (Err _) = ⊥

narrow : (f : Family) → width_of f < 256
narrow V4 = omega arith
narrow V6 = omega arith

number_of : (f : Family) (text : List ℕ) (n : ℕ) → IsLength f text n → whole_value (read_octet text) ≡ Some n
number_of f text n h = let small = narrow f in rw h.0 (whole_octet n (omega (arith, h.1)))

length_by : (f : Family) (text : List ℕ) (n : ℕ) (within : Bool) → whole_value (read_octet text) ≡ Some n → leb n (width_of f) ≡ within
    → LengthIs f text (cond within (Ok n) (Err BadLength))
length_by f text n true e w = ((octet_whole text n e).1, leb-true n (width_of f) w)
length_by f text n false e w =
    λ m h. let same : m ≡ n = cc (number_of f text m h, e) in false≢true (sym w ∙ le-leb n (width_of f) (subst (λ (k : ℕ). k ≤ width_of f) same h.1))

length_is : (f : Family) (text : List ℕ) (o : Option ℕ) → whole_value (read_octet text) ≡ o → LengthIs f text (length_within (width_of f) o)
length_is f text None e = λ n h. let none : Some n ≡ None = sym (number_of f text n h) ∙ e in absurd (cc)
length_is f text (Some n) e = length_by f text n (leb n (width_of f)) e refl

abbrev prefix_by : AddressValue → Result ℕ RangeFault → Result SpanValue RangeFault
prefix_by a (Ok n) = Ok (span_of (masked a n))
prefix_by a (Err fault) = Err fault

prefix_is : (address length : List ℕ) (a : AddressValue) (n : Result ℕ RangeFault) → Reads address (Ok a) → LengthIs a.family length n
    → IsPrefixOf address length (prefix_by a n)
prefix_is address length a (Ok n) ra rn = (a, n, ra, rn, refl)
prefix_is address length a (Err BadLength) ra rn = (a, ra, rn)
prefix_is address length a (Err NotAddress) ra rn = absurd rn
prefix_is address length a (Err Mapped) ra rn = absurd rn
prefix_is address length a (Err Backwards) ra rn = absurd rn
prefix_is address length a (Err MixedFamilies) ra rn = absurd rn

prefix_of-by : (address length : List ℕ) (a : AddressValue) (n : Result ℕ RangeFault) → address_of address ≡ Ok a
    → length_within (width_of a.family) (whole_value (read_octet length)) ≡ n
    → prefix_of address length ≡ prefix_by a n
prefix_of-by address length a (Ok n) ea en = rw (ea, en) refl
prefix_of-by address length a (Err fault) ea en = rw (ea, en) refl

prefix_of-err : (address length : List ℕ) (fault : RangeFault) → address_of address ≡ Err fault → prefix_of address length ≡ Err fault
prefix_of-err address length fault e = rw e refl

prefix_from : (address length : List ℕ) (x : Result AddressValue RangeFault) → address_of address ≡ x → Reads address x
    → IsPrefixOf address length (prefix_of address length)
prefix_from address length (Ok a) e ra =
    let n = length_within (width_of a.family) (whole_value (read_octet length)) in
    rw (prefix_of-by address length a n e refl) (prefix_is address length a n ra (length_is a.family length (whole_value (read_octet length)) refl))
prefix_from address length (Err NotAddress) e ra = rw (prefix_of-err address length NotAddress e) ra
prefix_from address length (Err Mapped) e ra = rw (prefix_of-err address length Mapped e) ra
prefix_from address length (Err BadLength) e ra = absurd ra
prefix_from address length (Err Backwards) e ra = absurd ra
prefix_from address length (Err MixedFamilies) e ra = absurd ra

prefix_sound : (address length : List ℕ) → IsPrefixOf address length (prefix_of address length)
prefix_sound address length = prefix_from address length (address_of address) refl (reads_of address (address_of address) refl)

length_bad : (f : Family) (text : List ℕ) (o : Option ℕ) → whole_value (read_octet text) ≡ o → ((n : ℕ) → ¬ IsLength f text n)
    → length_within (width_of f) o ≡ Err BadLength
length_bad f text None e none = refl
length_bad f text (Some n) e none = length_bad_by f text n (leb n (width_of f)) e none refl
  where
    length_bad_by : (f : Family) (text : List ℕ) (n : ℕ) (within : Bool) → whole_value (read_octet text) ≡ Some n → ((n : ℕ) → ¬ IsLength f text n)
        → leb n (width_of f) ≡ within
        → cond within (Ok n) (Err BadLength) ≡ Err BadLength
    length_bad_by f text n true e none w = absurd (none n ((octet_whole text n e).1, leb-true n (width_of f) w))
    length_bad_by f text n false e none w = refl

length_ok : (f : Family) (text : List ℕ) (n : ℕ) → IsLength f text n → length_within (width_of f) (whole_value (read_octet text)) ≡ Ok n
length_ok f text n h = rw (number_of f text n h, le-leb n (width_of f) h.1) refl

prefix_gives : (address length : List ℕ) (r : Result SpanValue RangeFault) → IsPrefixOf address length r → prefix_of address length ≡ r
prefix_gives address length (Ok s) (a, n, ra, rn, is) =
    prefix_of-by address length a (Ok n) (reads_gives address (Ok a) ra) (length_ok a.family length n rn) ∙ ap (λ (t : SpanValue). Ok t) (sym is)
prefix_gives address length (Err BadLength) (a, ra, none) =
    prefix_of-by address length a (Err BadLength) (reads_gives address (Ok a) ra) (length_bad a.family length (whole_value (read_octet length)) refl none)
prefix_gives address length (Err NotAddress) h = prefix_of-err address length NotAddress (reads_gives address (Err NotAddress) h)
prefix_gives address length (Err Mapped) h = prefix_of-err address length Mapped (reads_gives address (Err Mapped) h)
prefix_gives address length (Err Backwards) h = absurd h
prefix_gives address length (Err MixedFamilies) h = absurd h

-- The first dash and the first slash.
abbrev is_byte : ℕ → ℕ → Bool
is_byte byte c = eqb c byte

tail_has_no : (byte x : ℕ) (xs : List ℕ) → HasNo byte (x ∷ xs) → HasNo byte xs
tail_has_no byte x xs none k below = none (suc k) (omega arith)

place_of : (byte : ℕ) (before behind : List ℕ) → HasNo byte before → position_or_len (is_byte byte) (before ++ byte ∷ behind) ≡ length before
place_of byte [] behind none = let itself : eqb byte byte ≡ true = grind (arith, nat_tests) in rw itself refl
place_of byte (x ∷ xs) behind none =
    rw (ne_eqb x byte (none 0 (omega arith)), place_of byte xs behind (tail_has_no byte x xs none)) (omega arith)

no_place : (byte : ℕ) (text : List ℕ) → HasNo byte text → position_or_len (is_byte byte) text ≡ length text
no_place byte [] none = refl
no_place byte (x ∷ xs) none = rw (ne_eqb x byte (none 0 (omega arith)), no_place byte xs (tail_has_no byte x xs none)) (omega arith)

before_it : (byte : ℕ) (before behind : List ℕ) → take (length before) (before ++ byte ∷ behind) ≡ before
before_it byte before behind = take_at before (byte ∷ behind) (length before) refl

behind_it : (byte : ℕ) (before behind : List ℕ) → drop (length before + 1) (before ++ byte ∷ behind) ≡ behind
behind_it byte [] behind = refl
behind_it byte (x ∷ xs) behind = let more : length (x ∷ xs) + 1 ≡ suc (length xs + 1) = omega arith in rw more (behind_it byte xs behind)

with_first : (byte x : ℕ) (xs : List ℕ) → x ≢ byte → HasNo byte xs → HasNo byte (x ∷ xs)
with_first byte x xs other none zero below same = other same
with_first byte x xs other none (suc k) below same = none k (omega arith) same

split_or_none : (byte : ℕ) (text : List ℕ) → ((before behind : List ℕ) × SplitsAt byte text before behind) ⊎ HasNo byte text
split_or_none byte [] = inr (λ k below same. omega arith)
split_or_none byte (x ∷ xs) =
    elim (cases_eq x byte) [
      | inl here ↦ inl ([], xs, record { joined = ap (λ (c : ℕ). c ∷ xs) here; first = λ k below same. omega arith })
      | inr other ↦ elim (split_or_none byte xs) [
        | inl (before, behind, s) ↦
            inl (x ∷ before, behind, record { joined = ap (λ (t : List ℕ). x ∷ t) s.joined; first = with_first byte x before other s.first })
        | inr none ↦ inr (with_first byte x xs other none)
      ]
    ]

dash_joined : (before behind : List ℕ) → HasNo 45 before → written_span (before ++ 45 ∷ behind) ≡ range_of before behind
dash_joined before behind first =
    let place : position_or_len is_dash (before ++ 45 ∷ behind) ≡ length before = place_of 45 before behind first in
    let under : ltb (length before) (length (before ++ 45 ∷ behind)) ≡ true = lt-ltb _ _ (omega (arith, length-append before (45 ∷ behind))) in
    rw (place, under, before_it 45 before behind, behind_it 45 before behind) refl

dash_at : (text before behind : List ℕ) → SplitsAt 45 text before behind → written_span text ≡ range_of before behind
dash_at text before behind s = ap written_span s.joined ∙ dash_joined before behind s.first

no_dash : (text : List ℕ) → HasNo 45 text → written_span text ≡ prefix_of (before_first is_slash text) (after_first is_slash text)
no_dash text none =
    let place : position_or_len is_dash text ≡ length text = no_place 45 text none in
    rw (place, le-ltb (length text) (length text) (omega arith)) refl

slash_joined : (before behind : List ℕ) → HasNo 47 before
    → (before_first is_slash (before ++ 47 ∷ behind) ≡ before) × (after_first is_slash (before ++ 47 ∷ behind) ≡ behind)
slash_joined before behind first =
    let place : position_or_len is_slash (before ++ 47 ∷ behind) ≡ length before = place_of 47 before behind first in
    (rw place (before_it 47 before behind), rw place (behind_it 47 before behind))

parts_are : (text address length' : List ℕ) → HasParts text address length'
    → prefix_of (before_first is_slash text) (after_first is_slash text) ≡ prefix_of address length'
parts_are text address length' (inl s) =
    let both = slash_joined address length' s.first in
    ap (λ (t : List ℕ). prefix_of (before_first is_slash t) (after_first is_slash t)) s.joined
    ∙ ap (λ (t : List ℕ). prefix_of t (after_first is_slash (address ++ 47 ∷ length'))) both.0 ∙ ap (prefix_of address) both.1
parts_are text address length' (inr (none, whole, missing)) =
    let place : position_or_len is_slash text ≡ length text = no_place 47 text none in
    rw (place, take_all (length text) text (omega arith), drop_all (length text + 1) text (omega arith), whole, missing) refl

parts_there : (text : List ℕ) → (address length' : List ℕ) × HasParts text address length'
parts_there text =
    elim (split_or_none 47 text) [
      | inl (address, length', s) ↦ (address, length', inl s)
      | inr none ↦ (text, [], inr (none, refl, refl))
    ]

written_sound : (text : List ℕ) → IsWritten text (written_span text)
written_sound text =
    elim (split_or_none 45 text) [
      | inl (low, high, s) ↦ inl (low, high, s, subst (IsRangeOf (trimmed low) (trimmed high)) (sym (dash_at text low high s)) (range_sound low high))
      | inr none ↦
          let p = parts_there text in
          inr (none, (p.0, p.1, p.2, subst (IsPrefixOf p.0 p.1) (sym (no_dash text none ∙ parts_are text p.0 p.1 p.2)) (prefix_sound p.0 p.1)))
    ]

written_gives : (text : List ℕ) (r : Result SpanValue RangeFault) → IsWritten text r → written_span text ≡ r
written_gives text r (inl (low, high, s, is)) = dash_at text low high s ∙ range_gives low high r is
written_gives text r (inr (none, (address, length', parts, is))) = no_dash text none ∙ parts_are text address length' parts ∙ prefix_gives address length' r is

-- An IPv4-mapped address in a span.
ordered : (text : List ℕ) (s : SpanValue) → IsWritten text (Ok s) → s.low ≤ s.high
ordered text s (inl (low, high, split, (a, b, ra, rb, same, le, is))) = rw is le
ordered text s (inr (none, (address, length', parts, (a, n, ra, rn, is)))) = rw is (omega arith)

meets_some : (s : SpanValue) → s.low ≤ s.high → meets_mapped s ≡ true → (a : AddressValue) × Holds s a × IsMapped a
meets_some s le meets =
    let both = and_parts (same_family s.family V6) _ meets in
    let ends = and_parts (leb s.low last_mapped) (leb first_mapped s.high) both.1 in
    let low : s.low ≤ last_mapped = leb-true _ _ ends.0 in
    let high : first_mapped ≤ s.high = leb-true _ _ ends.1 in
    (record { family = s.family; number = max s.low first_mapped }, (refl, omega arith, omega arith), (same_family-is _ _ both.0, omega arith, omega arith))

some_meets : (s : SpanValue) (a : AddressValue) → Holds s a → IsMapped a → meets_mapped s ≡ true
some_meets s a holds mapped =
    let same : same_family s.family V6 ≡ true = rw (holds.0, mapped.0) refl in
    and_from (same_family s.family V6) _ same
    (and_from (leb s.low last_mapped) (leb first_mapped s.high) (le-leb s.low last_mapped (omega (arith, holds, mapped)))
    (le-leb first_mapped s.high (omega (arith, holds, mapped))))

-- The entry.
abbrev entry_by : Result SpanValue RangeFault → Result SpanValue RangeFault
entry_by (Ok s) = span_unmapped s
entry_by (Err fault) = Err fault

entry_of-by : (text : List ℕ) (w : Result SpanValue RangeFault) → written_span text ≡ w → entry_of text ≡ entry_by w
unfolding entry_of
entry_of-by text (Ok s) e = rw e refl
entry_of-by text (Err fault) e = rw e refl

entry_ok : (text : List ℕ) (s : SpanValue) (meets : Bool) → meets_mapped s ≡ meets → IsWritten text (Ok s) → IsEntry text (cond meets (Err Mapped) (Ok s))
entry_ok text s true m w = inr (s, w, meets_some s (ordered text s w) m)
entry_ok text s false m w = (w, λ a holds mapped. false≢true (sym m ∙ some_meets s a holds mapped))

entry_from : (text : List ℕ) (w : Result SpanValue RangeFault) → IsWritten text w → IsEntry text (entry_by w)
entry_from text (Ok s) w = entry_ok text s (meets_mapped s) refl w
entry_from text (Err NotAddress) w = w
entry_from text (Err BadLength) w = w
entry_from text (Err Backwards) w = w
entry_from text (Err MixedFamilies) w = w
entry_from text (Err Mapped) w = inl w

entry_sound : (text : List ℕ) → IsEntry text (entry_of text)
entry_sound text = subst (IsEntry text) (sym (entry_of-by text (written_span text) refl)) (entry_from text (written_span text) (written_sound text))

free_not_met : (text : List ℕ) (s : SpanValue) (meets : Bool) → meets_mapped s ≡ meets → IsWritten text (Ok s) → ((a : AddressValue) → Holds s a → ¬ IsMapped a)
    → cond meets (Err Mapped) (Ok s) ≡ Ok s
free_not_met text s true m w free = let some = meets_some s (ordered text s w) m in absurd (free some.0 some.1 some.2)
free_not_met text s false m w free = refl

entry_gives : (text : List ℕ) (r : Result SpanValue RangeFault) → IsEntry text r → entry_of text ≡ r
entry_gives text (Ok s) (w, free) = entry_of-by text (Ok s) (written_gives text (Ok s) w) ∙ free_not_met text s (meets_mapped s) refl w free
entry_gives text (Err Mapped) (inl w) = entry_of-by text (Err Mapped) (written_gives text (Err Mapped) w)
entry_gives text (Err Mapped) (inr (s, w, (a, holds, mapped))) =
    entry_of-by text (Ok s) (written_gives text (Ok s) w) ∙ rw (some_meets s a holds mapped) refl
entry_gives text (Err NotAddress) w = entry_of-by text (Err NotAddress) (written_gives text (Err NotAddress) w)
entry_gives text (Err BadLength) w = entry_of-by text (Err BadLength) (written_gives text (Err BadLength) w)
entry_gives text (Err Backwards) w = entry_of-by text (Err Backwards) (written_gives text (Err Backwards) w)
entry_gives text (Err MixedFamilies) w = entry_of-by text (Err MixedFamilies) (written_gives text (Err MixedFamilies) w)

-- what an entry is read as is what it is, and nothing else
pub entry_of-exact : (text : List ℕ) (r : Result SpanValue RangeFault) → (entry_of text ≡ r) ↔ IsEntry text r
entry_of-exact text r = (λ e. subst (IsEntry text) e (entry_sound text), λ is. entry_gives text r is)
