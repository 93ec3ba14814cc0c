-- Where the parts of a message lie.
use Rattle.std.proofs.Common.{◌≡◌, ℕ, ◌+◌, ◌<◌, ◌≤◌, ◌^◌, true, false, cond, nat_le, List, [], ◌∷◌, ◌++◌}
use Rattle.std.proofs.Common.{length, take, drop, slice_index, refl, sym, ◌∙◌, ap, arith, append_assoc}
use Rattle.std.proofs.lemmas.Bool.{le-leb, lt-leb}
use Rattle.std.proofs.lemmas.List.{append-nil, take_at, drop_at}
use Rattle.std.proofs.lemmas.Nat.{from_be_bytes-to_be_bytes_2}
use Rattle.ip_ranges.specs.declared.family.Family.{Family}
use Rattle.ip_ranges.specs.declared.family.Family.TheVariants.{V4, V6}
use Rattle.ip_ranges.specs.Values.{PrefixValue}
use Rattle.bgp_updates.specs.declared.route.Terms.{Terms}
use Rattle.bgp_updates.specs.declared.route.Peering.{Peering}
use Rattle.bgp_updates.specs.Message.{announce_message, front_of, large_attribute, message_of, part_bytes}
use Rattle.bgp_updates.specs.Message.{prefixes_bytes, reach_attribute, unreach_attribute, withdraw_message}
use Rattle.bgp_updates.proofs.Sizes.{length-message}
use Rattle.bgp_reading.specs.Places.{short_at}
use Rattle.bgp_reading.specs.Reading.{announced_family, attributes_in}
use Rattle.bgp_reading.proofs.AttributesAgain.{attributes_with, heard}

pub withdrawn-size : (w a n : List ℕ) → length w < 2 ^ 16 → short_at 19 (message_of w a n) ≡ length w
withdrawn-size w a n fits = from_be_bytes-to_be_bytes_2 (length w) fits

pub withdrawn-behind : (w : List ℕ) → drop 21 (message_of w [] []) ≡ w ++ 0 ∷ 0 ∷ []
withdrawn-behind w = append-nil ((w ++ 0 ∷ 0 ∷ []) ++ []) ∙ append-nil (w ++ 0 ∷ 0 ∷ [])

attributes-size : (a n : List ℕ) → length a < 2 ^ 16 → short_at 21 (message_of [] a n) ≡ length a
attributes-size a n fits = from_be_bytes-to_be_bytes_2 (length a) fits

attributes-behind : (a n : List ℕ) → drop 23 (message_of [] a n) ≡ a ++ n
attributes-behind a n = refl

-- the octets of the whole, at 16, whatever follows
pub joined-size : (w a n rest : List ℕ) → length (message_of w a n) ≤ 4096 → short_at 16 (message_of w a n ++ rest) ≡ length (message_of w a n)
joined-size w a n rest short =
    from_be_bytes-to_be_bytes_2 (23 + length w + length a + length n) (omega (arith, short, length-message w a n)) ∙ sym (length-message w a n)

-- what lies in front of the rest, and the rest
pub front-at : (bytes front rest : List ℕ) (size : ℕ) → size ≡ length front → bytes ≡ front ++ rest → take size bytes ≡ front
front-at bytes front rest size is split = ap (λ k. take k bytes) is ∙ ap (λ s. take (length front) s) split ∙ take_at front rest (length front) refl

pub rest-at : (bytes front rest : List ℕ) (size : ℕ) → size ≡ length front → bytes ≡ front ++ rest → drop size bytes ≡ rest
rest-at bytes front rest size is split = ap (λ k. drop k bytes) is ∙ ap (λ s. drop (length front) s) split ∙ drop_at front rest (length front) refl

-- ---- after no withdrawn routes
fits-attributes : (a n : List ℕ) → length (message_of [] a n) ≤ 4096 → length a < 2 ^ 16
fits-attributes a n short = omega (arith, short, length-message [] a n)

pub attributes-read : (a n : List ℕ) → length (message_of [] a n) ≤ 4096 → attributes_in (message_of [] a n) ≡ a
attributes-read a n short =
    front-at (drop 23 (message_of [] a n)) a n (short_at 21 (message_of [] a n)) (attributes-size a n (fits-attributes a n short)) (attributes-behind a n)

pub behind-read : (a n : List ℕ) → length (message_of [] a n) ≤ 4096 → drop (short_at 21 (message_of [] a n)) (drop 23 (message_of [] a n)) ≡ n
behind-read a n short =
    rest-at (drop 23 (message_of [] a n)) a n (short_at 21 (message_of [] a n)) (attributes-size a n (fits-attributes a n short)) (attributes-behind a n)

-- the type of the first attribute
pub first-type : (a n : List ℕ) → slice_index (message_of [] a n) 24 ≡ slice_index (a ++ n) 1
first-type a n = refl

-- octets after the attributes tell the family
pub family-v4 : (a n : List ℕ) → length (message_of [] a n) ≤ 4096 → 0 < length n → announced_family (message_of [] a n) ≡ V4
family-v4 a n short some =
    let size = attributes-size a n (fits-attributes a n short) in
    let more : nat_le (length (message_of [] a n)) (23 + short_at 21 (message_of [] a n)) ≡ false =
    lt-leb (length (message_of [] a n)) (23 + short_at 21 (message_of [] a n)) (omega (arith, size, some, length-message [] a n)) in
    ap (λ b. cond b V6 V4) more

pub family-v6 : (a : List ℕ) → length (message_of [] a []) ≤ 4096 → announced_family (message_of [] a []) ≡ V6
family-v6 a short =
    let size = attributes-size a [] (fits-attributes a [] short) in
    let none : nat_le (length (message_of [] a [])) (23 + short_at 21 (message_of [] a [])) ≡ true =
    le-leb (length (message_of [] a [])) (23 + short_at 21 (message_of [] a [])) (omega (arith, size, length-message [] a [])) in
    ap (λ b. cond b V6 V4) none

-- ---- the messages' parts
-- what stands after the attributes of a message that announces
abbrev pub behind_of : Family → List ℕ → List ℕ
behind_of V4 prefixes = prefixes
behind_of V6 prefixes = []

pub announce-spelled : (family : Family) (sender : Peering) (terms : Terms) (prefixes : List PrefixValue)
    → announce_message family sender terms prefixes
    ≡ message_of [] (attributes_with family sender terms (prefixes_bytes prefixes)) (behind_of family (prefixes_bytes prefixes))
unfolding part_bytes
announce-spelled V4 sender terms prefixes = refl
announce-spelled V6 sender terms prefixes =
    ap (λ a. message_of [] a [])
    (append_assoc (front_of V6 sender terms) (reach_attribute sender.next_hop_v6 (prefixes_bytes prefixes)) (large_attribute terms.large))

-- a message doesn't depend on what it doesn't tell
pub announce-heard : (family : Family) (sender : Peering) (terms : Terms) (prefixes : List PrefixValue)
    → announce_message family (heard family sender) terms prefixes ≡ announce_message family sender terms prefixes
announce-heard V4 sender terms prefixes = refl
announce-heard V6 sender terms prefixes = refl

pub withdraw-spelled_v4 : (prefixes : List PrefixValue) → withdraw_message V4 prefixes ≡ message_of (prefixes_bytes prefixes) [] []
unfolding part_bytes
withdraw-spelled_v4 prefixes = refl

pub withdraw-spelled_v6 : (prefixes : List PrefixValue) → withdraw_message V6 prefixes ≡ message_of [] (unreach_attribute (prefixes_bytes prefixes)) []
unfolding part_bytes
withdraw-spelled_v6 prefixes = refl
