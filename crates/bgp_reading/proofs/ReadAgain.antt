-- A message that is written is read again.
use Rattle.std.proofs.Common.{◌≡◌, ℕ, true, false, ◌==◌, cond, nat_le, ◌<◌, ◌≤◌, ◌^◌, inl, inr, List, [], ◌∷◌, ◌++◌}
use Rattle.std.proofs.Common.{length, drop, slice_index, Option, Some, None, refl, sym, ◌∙◌, ap, arith, subst}
use Rattle.std.proofs.lemmas.Bool.{and_from, cond-true, cond-false, le-leb, ne_eqb}
use Rattle.std.proofs.lemmas.Slice.Eq.{bytes_eq-Decides}
use Rattle.std.specs.Str.{bytes_eq}
use Rattle.ip_ranges.specs.declared.family.Family.{Family}
use Rattle.ip_ranges.specs.declared.family.Family.TheVariants.{V4, V6}
use Rattle.ip_ranges.specs.Values.{PrefixValue}
use Rattle.large_numbers.specs.declared.numbers.LargeCommunity.{LargeCommunity}
use Rattle.bgp_updates.specs.declared.route.Terms.{Terms}
use Rattle.bgp_updates.specs.declared.route.Peering.{Peering}
use Rattle.bgp_updates.specs.Message.{announce_message, message_of, part_bytes, prefixes_bytes, unreach_attribute, withdraw_message}
use Rattle.bgp_updates.proofs.Sizes.{length-message}
use Rattle.bgp_reading.specs.declared.parts.UpdateParts.{UpdateParts}
use Rattle.bgp_reading.specs.Places.{optional_in, prefixes_in, reach_in, sender_in, short_at, terms_in, value_at}
use Rattle.bgp_reading.specs.Reading.{announced_family, announced_in, announced_parts, announcement_by, announcement_of, are_announced, are_prefixes}
use Rattle.bgp_reading.specs.Reading.{are_withdrawn, attributes_in, attributes_say, follow, update_of, withdrawal_of, withdrawn_in, withdrawn_parts}
use Rattle.bgp_reading.specs.Update.{ArePrefixes, AreValues, IsAnnouncement, IsTold, IsUpdate, IsWithdrawal, terms_of}
use Rattle.bgp_reading.proofs.AttributesAgain.{AreWritten, attribute-alone, attributes_with, heard, reach-read}
use Rattle.bgp_reading.proofs.AttributesAgain.{sender-read, terms-read, type-attribute, value-within}
use Rattle.bgp_reading.proofs.Messages.{announce-heard, announce-spelled, attributes-read, behind-read, behind_of}
use Rattle.bgp_reading.proofs.Messages.{family-v4, family-v6, front-at, withdrawn-behind, withdrawn-size}
use Rattle.bgp_reading.proofs.Orders.{ascend-follow}
use Rattle.bgp_reading.proofs.PrefixAgain.{prefixes_again}

tested : (family : Family) (prefixes : List PrefixValue) → ArePrefixes family prefixes → are_prefixes prefixes ≡ true
tested family prefixes are =
    and_from (nat_le 1 (length prefixes)) (follow None prefixes) (le-leb 1 (length prefixes) are.some) (ascend-follow prefixes are.ascend)

-- ---- withdrawn routes
withdrawal-by : (family : Family) (bytes : List ℕ) (prefixes : List PrefixValue) → withdrawn_in family bytes ≡ prefixes → are_prefixes prefixes ≡ true
    → withdraw_message family prefixes ≡ bytes
    → withdrawal_of family bytes ≡ Some (withdrawn_parts prefixes)
unfolding withdrawal_of are_withdrawn
withdrawal-by family bytes prefixes is some spelled =
    let same : bytes_eq (withdraw_message family prefixes) bytes ≡ true = (bytes_eq-Decides (withdraw_message family prefixes) bytes).1 spelled in
    ap (λ ps. cond (are_withdrawn family bytes ps) (Some (withdrawn_parts ps)) None) is
    ∙ cond-true (are_withdrawn family bytes prefixes) (Some (withdrawn_parts prefixes)) None
    (and_from (are_prefixes prefixes) (bytes_eq (withdraw_message family prefixes) bytes) some same)

-- some prefixes have some octets
some-octets : (prefixes : List PrefixValue) → 0 < length prefixes → 0 < length (prefixes_bytes prefixes)
some-octets [] some = absurd (omega arith)
some-octets (p ∷ rest) some = omega arith

pub withdrawn-again : (family : Family) (prefixes : List PrefixValue) → ArePrefixes family prefixes → length (withdraw_message family prefixes) ≤ 4096
    → update_of (withdraw_message family prefixes) ≡ Some (withdrawn_parts prefixes)
unfolding part_bytes
withdrawn-again V4 prefixes are short =
    let w = prefixes_bytes prefixes in
    let message = message_of (prefixes_bytes prefixes) [] [] in
    let fits : length (prefixes_bytes prefixes) ≤ 4073 = omega (arith, short, length-message (prefixes_bytes prefixes) [] []) in
    let size : short_at 19 message ≡ length w = withdrawn-size w [] [] (omega (arith, fits)) in
    let some : (short_at 19 message == 0) ≡ false = ne_eqb (short_at 19 message) 0 (λ none. omega (arith, none, size, some-octets prefixes are.some)) in
    let lies : withdrawn_in V4 message ≡ prefixes =
    ap (prefixes_in V4) (front-at _ w (0 ∷ 0 ∷ []) _ size (withdrawn-behind w)) ∙ prefixes_again V4 prefixes are.of_family in
    cond-true (nat_le (length message) 4096) _ None (le-leb (length message) 4096 short)
    ∙ cond-false (short_at 19 message == 0) _ _ some
    ∙ withdrawal-by V4 message prefixes lies (tested V4 prefixes are) refl
withdrawn-again V6 prefixes are short =
    let w = prefixes_bytes prefixes in
    let value : List ℕ = (0 ∷ 2 ∷ 1 ∷ []) ++ w in
    let a = unreach_attribute w in
    let message = message_of [] (unreach_attribute w) [] in
    let fits : length value < 2 ^ 16 = omega (arith, short, length-message [] (unreach_attribute w) [], value-within 0x80 15 ((0 ∷ 2 ∷ 1 ∷ []) ++ w)) in
    let kind : (slice_index message 24 == 15) ≡ true = ap (λ k. k == 15) (type-attribute 0x80 15 value []) in
    let lies : withdrawn_in V6 message ≡ prefixes =
    ap (λ attributes. prefixes_in V6 (drop 3 (value_at 15 attributes))) (attributes-read a [] short)
    ∙ ap (λ v. prefixes_in V6 (drop 3 v)) (attribute-alone 15 value fits)
    ∙ prefixes_again V6 prefixes are.of_family in
    cond-true (nat_le (length message) 4096) _ None (le-leb (length message) 4096 short)
    ∙ cond-true (slice_index message 24 == 15) _ _ kind
    ∙ withdrawal-by V6 message prefixes lies (tested V6 prefixes are) refl

-- ---- announced routes
announcement-by : (family : Family) (bytes : List ℕ) (sender : Peering) (terms : Terms) (prefixes : List PrefixValue)
    → sender_in family (attributes_in bytes) ≡ sender → terms_in family (attributes_in bytes) ≡ terms → announced_in family bytes ≡ prefixes
    → are_prefixes prefixes ≡ true → announce_message family sender terms prefixes ≡ bytes
    → announcement_of family bytes ≡ Some (announced_parts terms prefixes)
unfolding announcement_of are_announced
announcement-by family bytes sender terms prefixes is_s is_t is_p some spelled =
    let same : bytes_eq (announce_message family sender terms prefixes) bytes ≡ true =
    (bytes_eq-Decides (announce_message family sender terms prefixes) bytes).1 spelled in
    ap (λ s. announcement_by family bytes s (terms_in family (attributes_in bytes)) (announced_in family bytes)) is_s
    ∙ ap (λ t. announcement_by family bytes sender t (announced_in family bytes)) is_t
    ∙ ap (λ ps. announcement_by family bytes sender terms ps) is_p
    ∙ cond-true (are_announced family bytes sender terms prefixes) (Some (announced_parts terms prefixes)) None
    (and_from (are_prefixes prefixes) (bytes_eq (announce_message family sender terms prefixes) bytes) some same)

-- the message's octets
abbrev written : Family → Peering → Terms → List PrefixValue → List ℕ
written family sender terms prefixes =
    message_of [] (attributes_with family sender terms (prefixes_bytes prefixes)) (behind_of family (prefixes_bytes prefixes))

announced-lie : (family : Family) (sender : Peering) (terms : Terms) (prefixes : List PrefixValue) → AreWritten family sender terms (prefixes_bytes prefixes)
    → ArePrefixes family prefixes → length (written family sender terms prefixes) ≤ 4096
    → announced_in family (written family sender terms prefixes) ≡ prefixes
announced-lie V4 sender terms prefixes wr are short =
    let n = prefixes_bytes prefixes in
    ap (prefixes_in V4) (behind-read (attributes_with V4 sender terms n) n short) ∙ prefixes_again V4 prefixes are.of_family
announced-lie V6 sender terms prefixes wr are short =
    let n = prefixes_bytes prefixes in
    ap (λ attributes. prefixes_in V6 (drop 21 (reach_in (optional_in V6 attributes)))) (attributes-read (attributes_with V6 sender terms n) [] short)
    ∙ ap (λ value. prefixes_in V6 (drop 21 value)) (reach-read sender terms n wr)
    ∙ prefixes_again V6 prefixes are.of_family

family-lies : (family : Family) (sender : Peering) (terms : Terms) (prefixes : List PrefixValue) → ArePrefixes family prefixes
    → length (written family sender terms prefixes) ≤ 4096
    → announced_family (written family sender terms prefixes) ≡ family
family-lies V4 sender terms prefixes are short =
    family-v4 (attributes_with V4 sender terms (prefixes_bytes prefixes)) (prefixes_bytes prefixes) short (some-octets prefixes are.some)
family-lies V6 sender terms prefixes are short = family-v6 (attributes_with V6 sender terms (prefixes_bytes prefixes)) short

-- the first attribute is ORIGIN
announced-first : (family : Family) (sender : Peering) (terms : Terms) (prefixes : List PrefixValue) → attributes_say (written family sender terms prefixes)
    ≡ announcement_of (announced_family (written family sender terms prefixes)) (written family sender terms prefixes)
announced-first family sender terms prefixes = refl

pub announced-again : (family : Family) (sender : Peering) (terms : Terms) (prefixes : List PrefixValue) → AreValues sender terms → IsTold sender terms
    → ArePrefixes family prefixes → length (announce_message family sender terms prefixes) ≤ 4096
    → update_of (announce_message family sender terms prefixes) ≡ Some (announced_parts terms prefixes)
announced-again family sender terms prefixes values told are short =
    let n = prefixes_bytes prefixes in
    let a = attributes_with family sender terms n in
    let behind = behind_of family n in
    let message = written family sender terms prefixes in
    let spelled = announce-spelled family sender terms prefixes in
    let few : length message ≤ 4096 = subst (λ (m : List ℕ). length m ≤ 4096) spelled short in
    let wr : AreWritten family sender terms n =
    record { values = values; told = told; short = omega (arith, few, length-message [] (attributes_with family sender terms n) (behind_of family n)) } in
    let front = attributes-read a behind few in
    ap update_of spelled
    ∙ cond-true (nat_le (length message) 4096) _ None (le-leb (length message) 4096 few)
    ∙ announced-first family sender terms prefixes
    ∙ ap (λ f. announcement_of f message) (family-lies family sender terms prefixes are few)
    ∙ announcement-by family message (heard family sender) terms prefixes
    (ap (sender_in family) front ∙ sender-read family sender terms n wr) (ap (terms_in family) front ∙ terms-read family sender terms n wr)
    (announced-lie family sender terms prefixes wr are few)
    (tested family prefixes are) (announce-heard family sender terms prefixes ∙ spelled)

-- ---- either
plain-parts : (parts : UpdateParts) → parts.communities ≡ [] → parts.large ≡ [] → parts.preference ≡ None → parts.announced ≡ []
    → withdrawn_parts parts.withdrawn ≡ parts
plain-parts parts communities large preference announced =
    let with_communities : List ℕ → UpdateParts = λ c. record { withdrawn = parts.withdrawn; communities = c; large = []; preference = None; announced = [] } in
    let with_large : List LargeCommunity → UpdateParts =
    λ l. record { withdrawn = parts.withdrawn; communities = parts.communities; large = l; preference = None; announced = [] } in
    let with_preference : Option ℕ → UpdateParts =
    λ p. record { withdrawn = parts.withdrawn; communities = parts.communities; large = parts.large; preference = p; announced = [] } in
    let with_announced : List PrefixValue → UpdateParts =
    λ n. record { withdrawn = parts.withdrawn; communities = parts.communities; large = parts.large; preference = parts.preference; announced = n } in
    ap with_communities (sym communities) ∙ ap with_large (sym large) ∙ ap with_preference (sym preference) ∙ ap with_announced (sym announced)

group-parts : (parts : UpdateParts) → parts.withdrawn ≡ [] → announced_parts (terms_of parts) parts.announced ≡ parts
group-parts parts withdrawn =
    let with_withdrawn : List PrefixValue → UpdateParts =
    λ w. record { withdrawn = w; communities = parts.communities; large = parts.large; preference = parts.preference; announced = parts.announced } in
    ap with_withdrawn (sym withdrawn)

withdrawal-read : (family : Family) (parts : UpdateParts) (bytes : List ℕ) → IsWithdrawal family parts bytes → length bytes ≤ 4096
    → update_of bytes ≡ Some parts
withdrawal-read family parts bytes is short =
    let few : length (withdraw_message family parts.withdrawn) ≤ 4096 = rw is.octets at short in
    ap update_of is.octets ∙ withdrawn-again family parts.withdrawn is.withdrawn few
    ∙ ap Some (plain-parts parts is.communities is.large is.preference is.announced)

announcement-read : (family : Family) (parts : UpdateParts) (bytes : List ℕ) → IsAnnouncement family parts bytes → length bytes ≤ 4096
    → update_of bytes ≡ Some parts
announcement-read family parts bytes is short =
    let few : length (announce_message family is.sender (terms_of parts) parts.announced) ≤ 4096 = rw is.octets at short in
    ap update_of is.octets ∙ announced-again family is.sender (terms_of parts) parts.announced is.values is.told is.announced few
    ∙ ap Some (group-parts parts is.withdrawn)

pub messages-are-read : (parts : UpdateParts) (bytes : List ℕ) → IsUpdate parts bytes → update_of bytes ≡ Some parts
messages-are-read parts bytes is = elim is.form [
  | inl withdrawal ↦ withdrawal-read is.family parts bytes withdrawal is.short
  | inr announcement ↦ announcement-read is.family parts bytes announcement is.short
]
