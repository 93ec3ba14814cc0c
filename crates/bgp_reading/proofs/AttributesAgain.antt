-- Path attributes that are written are read again.
use Rattle.std.proofs.Common.{◌≡◌, ℕ, true, false, cond, nat_le, ◌==◌, ◌+◌, ◌/◌, ◌%◌, ◌<◌, ◌≤◌, ◌^◌, List, [], ◌∷◌, ◌++◌, length, take}
use Rattle.std.proofs.Common.{drop, slice_index, Option, Some, None, IfSome, is_some, is_none, refl, ◌∙◌, ap, subst, arith, length-append}
use Rattle.std.proofs.lemmas.Nat.{from_be_bytes-to_be_bytes_2, from_be_bytes-to_be_bytes_4}
use Rattle.std.proofs.lemmas.Bool.{eq-eqb, ne_eqb}
use Rattle.std.proofs.lemmas.List.{append-nil, take_at, drop_at}
use Rattle.std.specs.Cmp.{nat_cmp_total}
use Rattle.std.specs.Int.{w16, w32, w128, from_be_bytes, to_be_bytes}
use Rattle.std.specs.List.{AllByRecursion}
use Rattle.std.specs.List.Sorted.{IsStrictlySortedBy}
use Rattle.std.specs.Ordering.{nat_cmp}
use Rattle.ip_ranges.specs.declared.family.Family.{Family}
use Rattle.ip_ranges.specs.declared.family.Family.TheVariants.{V4, V6}
use Rattle.large_numbers.specs.Large.{large_cmp}
use Rattle.large_numbers.specs.declared.numbers.LargeCommunity.{LargeCommunity}
use Rattle.bgp_updates.specs.declared.route.Terms.{Terms}
use Rattle.bgp_updates.specs.declared.route.Peering.{Peering}
use Rattle.bgp_updates.specs.Message.{attribute, communities_attribute, communities_bytes, front_of, hop_attribute, large_attribute}
use Rattle.bgp_updates.specs.Message.{larges_bytes, optional_attribute, path_attribute, preference_attribute, reach_attribute}
use Rattle.bgp_reading.specs.Places.{ascending_in, behind_at, behind_hop, behind_path, behind_size, by_threes, communities_in}
use Rattle.bgp_reading.specs.Places.{is_of_type, large_in, larges_in, next_hop_in, numbers_in, optional_in, own_in}
use Rattle.bgp_reading.specs.Places.{preference_in, reach_in, sender_in, short_at, terms_in, value_at, value_size, wide_in}
use Rattle.bgp_reading.specs.Update.{AreValues, IsLarge, IsTold}
use Rattle.pool_config.proofs.CommunitySets.{large_cmp-total}
use Rattle.bgp_reading.proofs.Numbers.{keys_with-ascending}
use Rattle.bgp_reading.proofs.Wide.{wide-again}

-- ---- one attribute
-- flags without that of the extended length
record AreFlags (flags : ℕ) : Type 0 where
  plain : (flags / 16 % 2 == 1) ≡ false
  extended : ((flags + 0x10) / 16 % 2 == 1) ≡ true

optional : AreFlags 0x80
optional = record { plain = refl; extended = refl }

transitive : AreFlags 0xc0
transitive = record { plain = refl; extended = refl }

pub type-attribute : (flags kind : ℕ) (value rest : List ℕ) → slice_index (attribute flags kind value ++ rest) 1 ≡ kind
type-attribute flags kind value rest =
    elim (nat_le (length value) 255) as (λ v. slice_index
    (cond v ((flags ∷ kind ∷ length value ∷ []) ++ value) (((flags + 0x10) ∷ kind ∷ []) ++ to_be_bytes w16 (length value) ++ value) ++ rest) 1 ≡ kind) [
      | true ↦ refl
      | false ↦ refl
    ]

other-type : (flags kind other : ℕ) (value rest : List ℕ) → (kind == other) ≡ false → is_of_type other (attribute flags kind value ++ rest) ≡ false
other-type flags kind other value rest differ = ap (λ k. k == other) (type-attribute flags kind value rest) ∙ differ

cut : (value rest : List ℕ) (size : ℕ) → size ≡ length value → (take size (value ++ rest) ≡ value) × (drop size (value ++ rest) ≡ rest)
cut value rest size is =
    (ap (λ n. take n (value ++ rest)) is ∙ take_at value rest (length value) refl, ap (λ n. drop n (value ++ rest)) is ∙ drop_at value rest (length value) refl)

-- an attribute's value, and what follows it
abbrev IsCut : ℕ → List ℕ → List ℕ → List ℕ → Type 0
IsCut kind bytes value rest = (value_at kind bytes ≡ value) × (behind_at kind bytes ≡ rest)

cut-by : (kind : ℕ) (bytes value rest : List ℕ) (size : ℕ) → is_of_type kind bytes ≡ true → value_size bytes ≡ size → behind_size bytes ≡ value ++ rest
    → size ≡ length value → IsCut kind bytes value rest
unfolding value_at behind_at
cut-by kind bytes value rest size own is_size behind is =
    let both = cut value rest size is in
    rw (own, is_size, behind) both

plain-cut : (flags kind : ℕ) (value rest : List ℕ) → AreFlags flags → IsCut kind (flags ∷ kind ∷ length value ∷ (value ++ rest)) value rest
plain-cut flags kind value rest are =
    let bytes : List ℕ = flags ∷ kind ∷ length value ∷ (value ++ rest) in
    cut-by kind bytes value rest (length value) (eq-eqb kind kind refl)
    (ap (λ b. cond b (short_at 2 bytes) (slice_index bytes 2)) are.plain) (ap (λ b. cond b (drop 4 bytes) (drop 3 bytes)) are.plain) refl

extended-cut : (flags kind : ℕ) (value rest : List ℕ) → AreFlags flags → length value < 2 ^ 16
    → IsCut kind ((flags + 0x10) ∷ kind ∷ (to_be_bytes w16 (length value) ++ (value ++ rest))) value rest
extended-cut flags kind value rest are short =
    let bytes : List ℕ = (flags + 0x10) ∷ kind ∷ (to_be_bytes w16 (length value) ++ (value ++ rest)) in
    cut-by kind bytes value rest (short_at 2 bytes) (eq-eqb kind kind refl)
    (ap (λ b. cond b (short_at 2 bytes) (slice_index bytes 2)) are.extended) (ap (λ b. cond b (drop 4 bytes) (drop 3 bytes)) are.extended)
    (from_be_bytes-to_be_bytes_2 (length value) short)

attribute-cut : (flags kind : ℕ) (value rest : List ℕ) → AreFlags flags → length value < 2 ^ 16 → IsCut kind (attribute flags kind value ++ rest) value rest
attribute-cut flags kind value rest are short =
    elim (nat_le (length value) 255) as (λ v. IsCut kind
    (cond v ((flags ∷ kind ∷ length value ∷ []) ++ value) (((flags + 0x10) ∷ kind ∷ []) ++ to_be_bytes w16 (length value) ++ value) ++ rest) value rest) [
      | true ↦ plain-cut flags kind value rest are
      | false ↦ extended-cut flags kind value rest are short
    ]

-- no attribute of the type
absent : (kind : ℕ) (rest : List ℕ) → is_of_type kind rest ≡ false → IsCut kind rest [] rest
unfolding value_at behind_at
absent kind rest other = rw other (refl, refl)

optional-cut : (flags kind : ℕ) (value rest : List ℕ) → AreFlags flags → length value < 2 ^ 16 → is_of_type kind rest ≡ false
    → IsCut kind (optional_attribute flags kind value ++ rest) value rest
optional-cut flags kind [] rest are short other = absent kind rest other
optional-cut flags kind (b ∷ value) rest are short other =
    let some : (length (b ∷ value) == 0) ≡ false = ne_eqb (length (b ∷ value)) 0 (λ none. omega (arith, none)) in
    rw some (attribute-cut flags kind (b ∷ value) rest are short)

optional-other : (flags kind other : ℕ) (value rest : List ℕ) → (kind == other) ≡ false → is_of_type other rest ≡ false
    → is_of_type other (optional_attribute flags kind value ++ rest) ≡ false
optional-other flags kind other [] rest differ absent = absent
optional-other flags kind other (b ∷ value) rest differ absent =
    let some : (length (b ∷ value) == 0) ≡ false = ne_eqb (length (b ∷ value)) 0 (λ none. omega (arith, none)) in
    rw some (other-type flags kind other (b ∷ value) rest differ)

-- the same at the end
at-end : (P : List ℕ → Type 0) (xs : List ℕ) → P (xs ++ []) → P xs
at-end P xs there = subst P (append-nil xs) there

pub attribute-alone : (kind : ℕ) (value : List ℕ) → length value < 2 ^ 16 → value_at kind (attribute 0x80 kind value) ≡ value
attribute-alone kind value short =
    at-end (λ bytes. value_at kind bytes ≡ value) (attribute 0x80 kind value) (attribute-cut 0x80 kind value [] optional short).0

-- the value is no longer than the attribute
pub value-within : (flags kind : ℕ) (value : List ℕ) → length value ≤ length (attribute flags kind value)
value-within flags kind value =
    elim (nat_le (length value) 255) as (λ v. length value
    ≤ length (cond v ((flags ∷ kind ∷ length value ∷ []) ++ value) (((flags + 0x10) ∷ kind ∷ []) ++ to_be_bytes w16 (length value) ++ value))) [
      | true ↦ omega arith
      | false ↦ omega arith
    ]

optional-within : (flags kind : ℕ) (value : List ℕ) → length value ≤ length (optional_attribute flags kind value)
optional-within flags kind [] = omega arith
optional-within flags kind (b ∷ value) =
    let some : (length (b ∷ value) == 0) ≡ false = ne_eqb (length (b ∷ value)) 0 (λ none. omega (arith, none)) in
    rw some (value-within flags kind (b ∷ value))

-- ---- communities
numbers_again : (numbers : List ℕ) → AllByRecursion (λ n. n < 2 ^ 32) numbers → numbers_in (communities_bytes numbers) ≡ numbers
numbers_again [] all = refl
numbers_again (n ∷ rest) all =
    rw (numbers_again rest all.1) (ap (λ m. m ∷ rest) (from_be_bytes-to_be_bytes_4 n all.0))

ascending_again : (numbers : List ℕ) → AllByRecursion (λ n. n < 2 ^ 32) numbers → IsStrictlySortedBy nat_cmp numbers
    → ascending_in (communities_bytes numbers) ≡ numbers
ascending_again numbers all ascending = rw (numbers_again numbers all) (keys_with-ascending nat_cmp_total [] numbers ascending)

threes_again : (numbers : List LargeCommunity) → AllByRecursion IsLarge numbers → by_threes (numbers_in (larges_bytes numbers)) ≡ numbers
threes_again [] all = refl
threes_again (c ∷ rest) all =
    let with_global : ℕ → List LargeCommunity → List LargeCommunity =
    λ n more. record { global = n; first = from_be_bytes w32 (to_be_bytes w32 c.first); second = from_be_bytes w32 (to_be_bytes w32 c.second) } ∷ more in
    let with_first : ℕ → List LargeCommunity = λ n. record { global = c.global; first = n; second = from_be_bytes w32 (to_be_bytes w32 c.second) } ∷ rest in
    let with_second : ℕ → List LargeCommunity = λ n. record { global = c.global; first = c.first; second = n } ∷ rest in
    ap (with_global (from_be_bytes w32 (to_be_bytes w32 c.global))) (threes_again rest all.1)
    ∙ ap (λ n. with_global n rest) (from_be_bytes-to_be_bytes_4 c.global all.0.global)
    ∙ ap with_first (from_be_bytes-to_be_bytes_4 c.first all.0.first)
    ∙ ap with_second (from_be_bytes-to_be_bytes_4 c.second all.0.second)

larges_again : (numbers : List LargeCommunity) → AllByRecursion IsLarge numbers → IsStrictlySortedBy large_cmp numbers
    → larges_in (larges_bytes numbers) ≡ numbers
larges_again numbers all ascending = rw (threes_again numbers all) (keys_with-ascending large_cmp-total [] numbers ascending)

-- ---- what follows COMMUNITIES: MP_REACH_NLRI in IPv6, and LARGE_COMMUNITY
abbrev pub reach_value : ℕ → List ℕ → List ℕ
reach_value hop prefixes = (0 ∷ 2 ∷ 1 ∷ 16 ∷ []) ++ to_be_bytes w128 hop ++ (0 ∷ []) ++ prefixes

abbrev pub tail_of : Family → Peering → Terms → List ℕ → List ℕ
tail_of V4 sender terms prefixes = large_attribute terms.large
tail_of V6 sender terms prefixes = reach_attribute sender.next_hop_v6 prefixes ++ large_attribute terms.large

-- the attributes of a message that announces
abbrev pub attributes_with : Family → Peering → Terms → List ℕ → List ℕ
attributes_with family sender terms prefixes = front_of family sender terms ++ tail_of family sender terms prefixes

large-other : (other : ℕ) (numbers : List LargeCommunity) → (32 == other) ≡ false → (0 == other) ≡ false → is_of_type other (large_attribute numbers) ≡ false
large-other other numbers differ none =
    at-end (λ bytes. is_of_type other bytes ≡ false) (large_attribute numbers) (optional-other 0xc0 32 other (larges_bytes numbers) [] differ none)

large-cut : (numbers : List LargeCommunity) → length (larges_bytes numbers) < 2 ^ 16 → value_at 32 (large_attribute numbers) ≡ larges_bytes numbers
large-cut numbers short =
    at-end (λ bytes. value_at 32 bytes ≡ larges_bytes numbers) (large_attribute numbers)
    (optional-cut 0xc0 32 (larges_bytes numbers) [] transitive short refl).0

-- it doesn't begin with COMMUNITIES
tail-other : (family : Family) (sender : Peering) (terms : Terms) (prefixes : List ℕ) → is_of_type 8 (tail_of family sender terms prefixes) ≡ false
tail-other V4 sender terms prefixes = large-other 8 terms.large refl refl
tail-other V6 sender terms prefixes = other-type 0x80 14 8 (reach_value sender.next_hop_v6 prefixes) (large_attribute terms.large) refl

-- MP_REACH_NLRI stands in it, in IPv6 alone
reach-cut : (sender : Peering) (terms : Terms) (prefixes : List ℕ) → length (reach_value sender.next_hop_v6 prefixes) < 2 ^ 16
    → IsCut 14 (tail_of V6 sender terms prefixes) (reach_value sender.next_hop_v6 prefixes) (large_attribute terms.large)
reach-cut sender terms prefixes short = attribute-cut 0x80 14 (reach_value sender.next_hop_v6 prefixes) (large_attribute terms.large) optional short

tail-large : (family : Family) (sender : Peering) (terms : Terms) (prefixes : List ℕ) → length (tail_of family sender terms prefixes) < 2 ^ 16
    → behind_at 14 (tail_of family sender terms prefixes) ≡ large_attribute terms.large
tail-large V4 sender terms prefixes short = (absent 14 (large_attribute terms.large) (large-other 14 terms.large refl refl)).1
tail-large V6 sender terms prefixes short =
    let value = reach_value sender.next_hop_v6 prefixes in
    (reach-cut sender terms prefixes (omega (
      arith,
      short,
      value-within 0x80 14 (reach_value sender.next_hop_v6 prefixes),
      length-append (attribute 0x80 14 (reach_value sender.next_hop_v6 prefixes)) (large_attribute terms.large),
    ))).1

length-tail : (family : Family) (sender : Peering) (terms : Terms) (prefixes : List ℕ)
    → length (larges_bytes terms.large) ≤ length (tail_of family sender terms prefixes)
length-tail V4 sender terms prefixes = optional-within 0xc0 32 (larges_bytes terms.large)
length-tail V6 sender terms prefixes =
    omega (
      arith,
      optional-within 0xc0 32 (larges_bytes terms.large),
      length-append (attribute 0x80 14 (reach_value sender.next_hop_v6 prefixes)) (large_attribute terms.large),
    )

-- ---- the attributes that each message has
-- what of the sender a message of the family tells
abbrev pub heard : Family → Peering → Peering
heard V4 sender = record { own = sender.own; next_hop = sender.next_hop; next_hop_v6 = 0 }
heard V6 sender = record { own = sender.own; next_hop = 0; next_hop_v6 = sender.next_hop_v6 }

abbrev hop_heard : Family → ℕ → ℕ
hop_heard V4 hop = hop
hop_heard V6 hop = 0

-- what is read before COMMUNITIES
record IsHeard (family : Family) (own preference : Option ℕ) (hop : ℕ) (communities tail attributes : List ℕ) : Type 0 where
  own_is : own_in attributes ≡ own
  hop_is : next_hop_in family (behind_path attributes) ≡ hop_heard family hop
  preference_is : preference_in (own_in attributes) (behind_hop family (behind_path attributes)) ≡ preference
  rest_is : optional_in family attributes ≡ communities ++ tail

-- the attributes up to LOCAL_PREF
abbrev begun : Family → Option ℕ → ℕ → Option ℕ → List ℕ
begun family own hop preference = (0x40 ∷ 1 ∷ 1 ∷ 2 ∷ []) ++ path_attribute own ++ hop_attribute family hop ++ preference_attribute own preference

heard-by : (family : Family) (own preference : Option ℕ) (hop : ℕ) (communities tail : List ℕ) → is_some preference ≡ is_none own
    → IfSome own (λ n. n < 2 ^ 32) → hop < 2 ^ 32 → IfSome preference (λ n. n < 2 ^ 32)
    → IsHeard family own preference hop communities tail ((begun family own hop preference ++ communities) ++ tail)
heard-by family None None hop communities tail told own_few hop_few few = absurd (cc)
heard-by family (Some own) (Some preference) hop communities tail told own_few hop_few few = absurd (cc)
heard-by V4 None (Some preference) hop communities tail told own_few hop_few few =
    record {
      own_is = refl;
      hop_is = from_be_bytes-to_be_bytes_4 hop hop_few;
      preference_is = ap Some (from_be_bytes-to_be_bytes_4 preference few);
      rest_is = refl;
    }
heard-by V4 (Some own) None hop communities tail told own_few hop_few few =
    record {
      own_is = ap Some (from_be_bytes-to_be_bytes_4 own own_few);
      hop_is = from_be_bytes-to_be_bytes_4 hop hop_few;
      preference_is = refl;
      rest_is = refl;
    }
heard-by V6 None (Some preference) hop communities tail told own_few hop_few few =
    record { own_is = refl; hop_is = refl; preference_is = ap Some (from_be_bytes-to_be_bytes_4 preference few); rest_is = refl }
heard-by V6 (Some own) None hop communities tail told own_few hop_few few =
    record { own_is = ap Some (from_be_bytes-to_be_bytes_4 own own_few); hop_is = refl; preference_is = refl; rest_is = refl }

-- ---- all
-- the attributes, few enough for a message, of values that a sender tells
pub record AreWritten (family : Family) (sender : Peering) (terms : Terms) (prefixes : List ℕ) : Type 0 where
  pub values : AreValues sender terms
  pub told : IsTold sender terms
  pub short : length (attributes_with family sender terms prefixes) ≤ 4096

are-heard : (family : Family) (sender : Peering) (terms : Terms) (prefixes : List ℕ) → AreWritten family sender terms prefixes
    → IsHeard family sender.own terms.preference sender.next_hop (communities_attribute terms.communities) (tail_of family sender terms prefixes)
    (attributes_with family sender terms prefixes)
are-heard family sender terms prefixes are =
    heard-by family sender.own terms.preference sender.next_hop (communities_attribute terms.communities) (tail_of family sender terms prefixes) are.told
    are.values.own are.values.next_hop are.values.preference

length-parts : (family : Family) (sender : Peering) (terms : Terms) (prefixes : List ℕ)
    → length (communities_bytes terms.communities) + length (tail_of family sender terms prefixes) ≤ length (attributes_with family sender terms prefixes)
length-parts family sender terms prefixes =
    let begin = begun family sender.own sender.next_hop terms.preference in
    omega (
      arith,
      length-append (front_of family sender terms) (tail_of family sender terms prefixes),
      length-append (begun family sender.own sender.next_hop terms.preference) (communities_attribute terms.communities),
      optional-within 0xc0 8 (communities_bytes terms.communities),
    )

communities-cut : (family : Family) (sender : Peering) (terms : Terms) (prefixes : List ℕ) → AreWritten family sender terms prefixes
    → IsCut 8 (communities_attribute terms.communities ++ tail_of family sender terms prefixes) (communities_bytes terms.communities)
    (tail_of family sender terms prefixes)
communities-cut family sender terms prefixes are =
    optional-cut 0xc0 8 (communities_bytes terms.communities) (tail_of family sender terms prefixes) transitive
    (omega (arith, are.short, length-parts family sender terms prefixes))
    (tail-other family sender terms prefixes)

communities-read : (family : Family) (sender : Peering) (terms : Terms) (prefixes : List ℕ) → AreWritten family sender terms prefixes
    → communities_in (optional_in family (attributes_with family sender terms prefixes)) ≡ terms.communities
communities-read family sender terms prefixes are =
    ap communities_in (are-heard family sender terms prefixes are).rest_is
    ∙ ap ascending_in (communities-cut family sender terms prefixes are).0
    ∙ ascending_again terms.communities are.values.communities are.values.ascending

large-read : (family : Family) (sender : Peering) (terms : Terms) (prefixes : List ℕ) → AreWritten family sender terms prefixes
    → large_in (optional_in family (attributes_with family sender terms prefixes)) ≡ terms.large
large-read family sender terms prefixes are =
    let few : length (tail_of family sender terms prefixes) ≤ 4096 = omega (arith, are.short, length-parts family sender terms prefixes) in
    ap large_in (are-heard family sender terms prefixes are).rest_is
    ∙ ap (λ rest. larges_in (value_at 32 (behind_at 14 rest))) (communities-cut family sender terms prefixes are).1
    ∙ ap (λ rest. larges_in (value_at 32 rest)) (tail-large family sender terms prefixes (omega (arith, few)))
    ∙ ap larges_in (large-cut terms.large (omega (arith, few, length-tail family sender terms prefixes)))
    ∙ larges_again terms.large are.values.large are.values.large_ascending

pub reach-read : (sender : Peering) (terms : Terms) (prefixes : List ℕ) → AreWritten V6 sender terms prefixes
    → reach_in (optional_in V6 (attributes_with V6 sender terms prefixes)) ≡ reach_value sender.next_hop_v6 prefixes
reach-read sender terms prefixes are =
    let few : length (tail_of V6 sender terms prefixes) ≤ 4096 = omega (arith, are.short, length-parts V6 sender terms prefixes) in
    let short : length (reach_value sender.next_hop_v6 prefixes) < 2 ^ 16 = omega (
      arith,
      few,
      value-within 0x80 14 (reach_value sender.next_hop_v6 prefixes),
      length-append (attribute 0x80 14 (reach_value sender.next_hop_v6 prefixes)) (large_attribute terms.large),
    ) in
    ap reach_in (are-heard V6 sender terms prefixes are).rest_is
    ∙ ap (value_at 14) (communities-cut V6 sender terms prefixes are).1
    ∙ (reach-cut sender terms prefixes short).0

hop-read : (sender : Peering) (terms : Terms) (prefixes : List ℕ) → AreWritten V6 sender terms prefixes
    → wide_in (drop 4 (reach_in (optional_in V6 (attributes_with V6 sender terms prefixes)))) ≡ sender.next_hop_v6
hop-read sender terms prefixes are =
    ap (λ value. wide_in (drop 4 value)) (reach-read sender terms prefixes are) ∙ wide-again sender.next_hop_v6 (0 ∷ prefixes) are.values.next_hop_v6

pub sender-read : (family : Family) (sender : Peering) (terms : Terms) (prefixes : List ℕ) → AreWritten family sender terms prefixes
    → sender_in family (attributes_with family sender terms prefixes) ≡ heard family sender
unfolding sender_in
sender-read V4 sender terms prefixes are =
    let is = are-heard V4 sender terms prefixes are in
    let path = behind_path (attributes_with V4 sender terms prefixes) in
    let with_own : Option ℕ → Peering = λ own. record { own = own; next_hop = next_hop_in V4 path; next_hop_v6 = 0 } in
    let with_hop : ℕ → Peering = λ hop. record { own = sender.own; next_hop = hop; next_hop_v6 = 0 } in
    ap with_own is.own_is ∙ ap with_hop is.hop_is
sender-read V6 sender terms prefixes are =
    let is = are-heard V6 sender terms prefixes are in
    let rest = optional_in V6 (attributes_with V6 sender terms prefixes) in
    let with_own : Option ℕ → Peering = λ own. record { own = own; next_hop = 0; next_hop_v6 = wide_in (drop 4 (reach_in rest)) } in
    let with_hop : ℕ → Peering = λ hop. record { own = sender.own; next_hop = 0; next_hop_v6 = hop } in
    ap with_own is.own_is ∙ ap with_hop (hop-read sender terms prefixes are)

pub terms-read : (family : Family) (sender : Peering) (terms : Terms) (prefixes : List ℕ) → AreWritten family sender terms prefixes
    → terms_in family (attributes_with family sender terms prefixes) ≡ terms
unfolding terms_in
terms-read family sender terms prefixes are =
    let rest = optional_in family (attributes_with family sender terms prefixes) in
    let with_preference : Option ℕ → Terms = λ p. record { preference = p; communities = communities_in rest; large = large_in rest } in
    let with_communities : List ℕ → Terms = λ c. record { preference = terms.preference; communities = c; large = large_in rest } in
    let with_large : List LargeCommunity → Terms = λ l. record { preference = terms.preference; communities = terms.communities; large = l } in
    ap with_preference (are-heard family sender terms prefixes are).preference_is
    ∙ ap with_communities (communities-read family sender terms prefixes are)
    ∙ ap with_large (large-read family sender terms prefixes are)
