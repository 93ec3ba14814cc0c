-- What is read is a message that says it.
use Rattle.std.proofs.Common.{◌≡◌, ℕ, zero, suc, Bool, true, false, ◌==◌, cond, nat_le, ◌+◌, ◌*◌, ◌-◌, ◌/◌, ◌%◌, ◌^◌, ◌<◌, ◌≤◌, ◌⊎◌, inl, inr, List}
use Rattle.std.proofs.Common.{[], ◌∷◌, length, take, drop, slice_index, Option, Some, None, IfSome, is_some, is_none, refl, sym, ◌∙◌, ap, arith, subst}
use Rattle.std.proofs.Math.Nat.{add-mul-mod_self_right, div-add-mod', mod-eq_of_lt}
use lib.Pow.{pow_pos}
use Rattle.std.proofs.lemmas.Bool.{and_parts, cond_both, leb-true}
use Rattle.std.proofs.lemmas.Map.Lookups.{exact_unsigned}
use Rattle.std.proofs.lemmas.Option.{cond_some}
use Rattle.std.proofs.lemmas.Slice.Eq.{bytes_eq-Decides}
use Rattle.std.specs.Cmp.{nat_cmp_total}
use Rattle.std.specs.List.{AllByRecursion}
use Rattle.std.specs.List.Sorted.{IsStrictlySortedBy}
use Rattle.std.specs.Ordering.{nat_cmp}
use Rattle.std.specs.Str.{bytes_eq}
use Rattle.pool_config.specs.KeySets.{keys_with}
use Rattle.pool_config.proofs.KeySets.{ascending-keys_with}
use Rattle.ip_ranges.specs.declared.family.Family.{Family}
use Rattle.ip_ranges.specs.declared.family.Family.TheVariants.{V4, V6}
use Rattle.ip_ranges.specs.Values.{masked, size_at, width_of}
use Rattle.large_numbers.specs.Large.{large_cmp}
use Rattle.large_numbers.specs.declared.numbers.LargeCommunity.{LargeCommunity}
use Rattle.bgp_updates.specs.Message.{announce_message, withdraw_message}
use Rattle.bgp_reading.specs.declared.parts.UpdateParts.{UpdateParts}
use Rattle.bgp_reading.specs.Places.{ascending_in, behind_at, behind_hop, behind_path, behind_preference, by_threes, larges_in}
use Rattle.bgp_reading.specs.Places.{next_hop_in, next_hop_v6_in, number_at, numbers_in, optional_in, own_in, preference_in}
use Rattle.bgp_reading.specs.Places.{prefix_in, prefixes_behind, prefixes_in, reach_in, sender_in, short_at, terms_in, value_at}
use Rattle.bgp_reading.specs.Reading.{announced_family, announced_in, announced_octets, announced_parts, announcement_of}
use Rattle.bgp_reading.specs.Reading.{are_announced, are_prefixes, are_withdrawn, attributes_in, attributes_say, follow}
use Rattle.bgp_reading.specs.Reading.{update_of, withdrawal_of, withdrawn_in, withdrawn_octets, withdrawn_parts}
use Rattle.bgp_reading.specs.Update.{ArePrefixes, AreValues, IsAnnouncement, IsLarge, IsOf, IsTold, IsUpdate, IsWithdrawal}
use Rattle.bgp_reading.proofs.Bytes.{AreOctets, address_in-fits, number_at-fits, numbers_in-fit}
use Rattle.bgp_reading.proofs.Bytes.{octets-behind_at, octets-drop, octets-take, octets-value_at, wide_in-fits}
use Rattle.pool_config.proofs.CommunitySets.{large_cmp-exact, large_cmp-total}
use Rattle.bgp_reading.proofs.Numbers.{all-keys_with}
use Rattle.bgp_reading.proofs.Orders.{follow-ascend}

-- ---- prefixes
below : (n size bound : ℕ) → n < bound → n / size * size < bound
below n size bound fits = omega (arith, fits, div-add-mod' n size)

multiple : (q size : ℕ) → 0 < size → q * size % size ≡ 0
multiple q size some =
    let plain : q * size ≡ 0 + q * size = omega arith in
    ap (λ n. n % size) plain ∙ add-mul-mod_self_right 0 q size ∙ mod-eq_of_lt some

-- an address without its bits past a length
pub masked-is : (family : Family) (n bits : ℕ) → bits ≤ width_of family → n < 2 ^ width_of family
    → IsOf family (masked (record { family = family; number = n }) bits)
masked-is family n bits short fits =
    let size = size_at family bits in
    record { own = refl; is = (short, below n size (2 ^ width_of family) fits, multiple (n / size) size (pow_pos (width_of family - bits))) }

prefix-is : (family : Family) (bits : ℕ) (octets : List ℕ) → bits ≤ width_of family → AreOctets octets → IsOf family (prefix_in family bits octets)
prefix-is V4 bits octets short all = masked-is V4 (number_at 0 octets) bits short (address_in-fits V4 octets all)
prefix-is V6 bits octets short all = masked-is V6 _ bits short (address_in-fits V6 octets all)

behind-are : (family : Family) (left : ℕ) (bytes : List ℕ) → AreOctets bytes → AllByRecursion (IsOf family) (prefixes_behind family left bytes)
behind-are family zero [] all = tt
behind-are family (suc left) [] all = tt
behind-are family (suc left) (octet ∷ rest) all = behind-are family left rest all.1
behind-are family zero (bits ∷ rest) all =
    let k = (bits + 7) / 8 in
    cond_both (nat_le bits (width_of family)) (prefix_in family bits (take k rest) ∷ prefixes_behind family k rest) [] (AllByRecursion (IsOf family))
    (λ short. (prefix-is family bits (take k rest) (leb-true bits (width_of family) short) (octets-take k rest all.1), behind-are family k rest all.1))
    (λ long. tt)

prefixes-mean : (family : Family) (bytes : List ℕ) → AreOctets bytes → are_prefixes (prefixes_in family bytes) ≡ true
    → ArePrefixes family (prefixes_in family bytes)
prefixes-mean family bytes all tests =
    let both = and_parts (nat_le 1 (length (prefixes_in family bytes))) (follow None (prefixes_in family bytes)) tests in
    record {
      some = leb-true 1 (length (prefixes_in family bytes)) both.0;
      of_family = behind-are family 0 bytes all;
      ascend = follow-ascend None (prefixes_in family bytes) both.1;
    }

-- ---- attributes
own-fits : (attributes : List ℕ) (none : Bool) → AreOctets attributes → IfSome (cond none None (Some (number_at 9 attributes))) (λ n. n < 2 ^ 32)
own-fits attributes true all = tt
own-fits attributes false all = number_at-fits 9 attributes all

hop-fits : (family : Family) (path : List ℕ) → AreOctets path → next_hop_in family path < 2 ^ 32
hop-fits V4 path all = number_at-fits 3 path all
hop-fits V6 path all = omega arith

behind_hop-octets : (family : Family) (path : List ℕ) → AreOctets path → AreOctets (behind_hop family path)
behind_hop-octets V4 path all = octets-drop 7 path all
behind_hop-octets V6 path all = all

preference-fits : (own : Option ℕ) (rest : List ℕ) → AreOctets rest → IfSome (preference_in own rest) (λ n. n < 2 ^ 32)
preference-fits None rest all = number_at-fits 3 rest all
preference-fits (Some own) rest all = tt

preference-told : (own : Option ℕ) (rest : List ℕ) → is_some (preference_in own rest) ≡ is_none own
preference-told None rest = refl
preference-told (Some own) rest = refl

behind-octets : (own : Option ℕ) (rest : List ℕ) → AreOctets rest → AreOctets (behind_preference own rest)
behind-octets None rest all = octets-drop 7 rest all
behind-octets (Some own) rest all = all

wide-fits : (family : Family) (rest : List ℕ) → AreOctets rest → next_hop_v6_in family rest < 2 ^ 128
wide-fits V4 rest all = omega arith
wide-fits V6 rest all =
    wide_in-fits (drop 4 (reach_in rest)) (octets-drop 4 (reach_in rest) (octets-value_at 14 (behind_at 8 rest) (octets-behind_at 8 rest all)))

numbers-mean : (bytes : List ℕ) → AreOctets bytes → AllByRecursion (λ n. n < 2 ^ 32) (ascending_in bytes)
numbers-mean bytes all = all-keys_with nat_cmp (λ n. n < 2 ^ 32) [] (numbers_in bytes) tt (numbers_in-fit bytes all)

threes-mean : (numbers : List ℕ) → AllByRecursion (λ n. n < 2 ^ 32) numbers → AllByRecursion IsLarge (by_threes numbers)
threes-mean [] all = tt
threes-mean (a ∷ []) all = tt
threes-mean (a ∷ b ∷ []) all = tt
threes-mean (a ∷ b ∷ c ∷ rest) all = (record { global = all.0; first = all.1.0; second = all.1.1.0 }, threes-mean rest all.1.1.1)

larges-mean : (bytes : List ℕ) → AreOctets bytes → AllByRecursion IsLarge (larges_in bytes)
larges-mean bytes all = all-keys_with large_cmp IsLarge [] (by_threes (numbers_in bytes)) tt (threes-mean (numbers_in bytes) (numbers_in-fit bytes all))

ascending-numbers : (numbers : List ℕ) → IsStrictlySortedBy nat_cmp (keys_with nat_cmp [] numbers)
unfolding IsStrictlySortedBy
ascending-numbers numbers = ascending-keys_with nat_cmp_total exact_unsigned [] numbers tt

ascending-larges : (numbers : List LargeCommunity) → IsStrictlySortedBy large_cmp (keys_with large_cmp [] numbers)
unfolding IsStrictlySortedBy
ascending-larges numbers = ascending-keys_with large_cmp-total large_cmp-exact [] numbers tt

attributes-mean : (family : Family) (attributes : List ℕ) → AreOctets attributes → AreValues (sender_in family attributes) (terms_in family attributes)
    × IsTold (sender_in family attributes) (terms_in family attributes)
unfolding sender_in terms_in
attributes-mean family attributes all =
    let own = own_in attributes in
    let path = behind_path attributes in
    let there : AreOctets path = octets-drop (7 + slice_index attributes 6) attributes all in
    let hop : AreOctets (behind_hop family path) = behind_hop-octets family path there in
    let rest : AreOctets (optional_in family attributes) = behind-octets own (behind_hop family path) hop in
    let last = behind_at 14 (behind_at 8 (optional_in family attributes)) in
    let behind : AreOctets last =
    octets-behind_at 14 (behind_at 8 (optional_in family attributes)) (octets-behind_at 8 (optional_in family attributes) rest) in (
      record {
        own = own-fits attributes (slice_index attributes 6 == 0) all;
        next_hop = hop-fits family path there;
        next_hop_v6 = wide-fits family (optional_in family attributes) rest;
        preference = preference-fits own (behind_hop family path) hop;
        communities = numbers-mean (value_at 8 (optional_in family attributes)) (octets-value_at 8 (optional_in family attributes) rest);
        ascending = ascending-numbers (numbers_in (value_at 8 (optional_in family attributes)));
        large = larges-mean (value_at 32 last) (octets-value_at 32 last behind);
        large_ascending = ascending-larges (by_threes (numbers_in (value_at 32 last)));
      },
      preference-told own (behind_hop family path),
    )

-- ---- messages
passed : (b : Bool) (x : Option UpdateParts) (parts : UpdateParts) → cond b x None ≡ Some parts → (b ≡ true) × (x ≡ Some parts)
passed true x parts h = (refl, h)
passed false x parts h = cc

attributes-octets : (bytes : List ℕ) → AreOctets bytes → AreOctets (attributes_in bytes)
attributes-octets bytes all = octets-take (short_at 21 bytes) (drop 23 bytes) (octets-drop 23 bytes all)

withdrawn-octets : (family : Family) (bytes : List ℕ) → AreOctets bytes → AreOctets (withdrawn_octets family bytes)
withdrawn-octets V4 bytes all = octets-take (short_at 19 bytes) (drop 21 bytes) (octets-drop 21 bytes all)
withdrawn-octets V6 bytes all = octets-drop 3 (value_at 15 (attributes_in bytes)) (octets-value_at 15 (attributes_in bytes) (attributes-octets bytes all))

optional-octets : (family : Family) (attributes : List ℕ) → AreOctets attributes → AreOctets (optional_in family attributes)
optional-octets family attributes all =
    behind-octets (own_in attributes) (behind_hop family (behind_path attributes))
    (behind_hop-octets family (behind_path attributes) (octets-drop (7 + slice_index attributes 6) attributes all))

announced-octets : (family : Family) (bytes : List ℕ) → AreOctets bytes → AreOctets (announced_octets family bytes)
announced-octets V4 bytes all = octets-drop (short_at 21 bytes) (drop 23 bytes) (octets-drop 23 bytes all)
announced-octets V6 bytes all =
    let rest = optional_in V6 (attributes_in bytes) in
    let there : AreOctets rest = optional-octets V6 (attributes_in bytes) (attributes-octets bytes all) in
    octets-drop 21 (reach_in rest) (octets-value_at 14 (behind_at 8 rest) (octets-behind_at 8 rest there))

withdrawal-means : (family : Family) (bytes : List ℕ) (parts : UpdateParts) → AreOctets bytes → withdrawal_of family bytes ≡ Some parts
    → IsWithdrawal family parts bytes
unfolding withdrawal_of are_withdrawn
withdrawal-means family bytes parts all h =
    let prefixes = withdrawn_in family bytes in
    let kept = cond_some (are_withdrawn family bytes prefixes) (withdrawn_parts prefixes) parts h in
    let tests = and_parts (are_prefixes prefixes) (bytes_eq (withdraw_message family prefixes) bytes) kept.0 in
    let octets : bytes ≡ withdraw_message family prefixes = sym ((bytes_eq-Decides (withdraw_message family prefixes) bytes).0 tests.1) in
    let are = prefixes-mean family (withdrawn_octets family bytes) (withdrawn-octets family bytes all) tests.0 in
    subst (λ (q : UpdateParts). IsWithdrawal family q bytes) kept.1
    (record { withdrawn = are; communities = refl; large = refl; preference = refl; announced = refl; octets = octets })

announcement-means : (family : Family) (bytes : List ℕ) (parts : UpdateParts) → AreOctets bytes → announcement_of family bytes ≡ Some parts
    → IsAnnouncement family parts bytes
unfolding announcement_of are_announced
announcement-means family bytes parts all h =
    let sender = sender_in family (attributes_in bytes) in
    let terms = terms_in family (attributes_in bytes) in
    let prefixes = announced_in family bytes in
    let kept = cond_some (are_announced family bytes sender terms prefixes) (announced_parts terms prefixes) parts h in
    let tests = and_parts (are_prefixes prefixes) (bytes_eq (announce_message family sender terms prefixes) bytes) kept.0 in
    let octets : bytes ≡ announce_message family sender terms prefixes =
    sym ((bytes_eq-Decides (announce_message family sender terms prefixes) bytes).0 tests.1) in
    let told = attributes-mean family (attributes_in bytes) (attributes-octets bytes all) in
    let are = prefixes-mean family (announced_octets family bytes) (announced-octets family bytes all) tests.0 in
    subst (λ (q : UpdateParts). IsAnnouncement family q bytes) kept.1
    (record { sender = sender; values = told.0; told = told.1; announced = are; withdrawn = refl; octets = octets })

abbrev IsOfForm : UpdateParts → List ℕ → Type 0
IsOfForm parts bytes = (family : Family) × (IsWithdrawal family parts bytes ⊎ IsAnnouncement family parts bytes)

attributes-mean-form : (bytes : List ℕ) (parts : UpdateParts) (unreach : Bool) → AreOctets bytes
    → cond unreach (withdrawal_of V6 bytes) (announcement_of (announced_family bytes) bytes) ≡ Some parts → IsOfForm parts bytes
attributes-mean-form bytes parts true all h = (V6, inl (withdrawal-means V6 bytes parts all h))
attributes-mean-form bytes parts false all h = (announced_family bytes, inr (announcement-means (announced_family bytes) bytes parts all h))

form-means : (bytes : List ℕ) (parts : UpdateParts) (none : Bool) → AreOctets bytes → cond none (attributes_say bytes) (withdrawal_of V4 bytes) ≡ Some parts
    → IsOfForm parts bytes
form-means bytes parts true all h = attributes-mean-form bytes parts (slice_index bytes 24 == 15) all h
form-means bytes parts false all h = (V4, inl (withdrawal-means V4 bytes parts all h))

pub read-means : (bytes : List ℕ) (parts : UpdateParts) → AreOctets bytes → update_of bytes ≡ Some parts → IsUpdate parts bytes
read-means bytes parts all h =
    let kept = passed (nat_le (length bytes) 4096) (cond (short_at 19 bytes == 0) (attributes_say bytes) (withdrawal_of V4 bytes)) parts h in
    let found = form-means bytes parts (short_at 19 bytes == 0) all kept.1 in
    record { family = found.0; form = found.1; short = leb-true (length bytes) 4096 kept.0 }
