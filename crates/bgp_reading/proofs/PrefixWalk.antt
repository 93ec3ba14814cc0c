-- A walk over prefixes in octets.
use Rattle.std.proofs.Common.{◌≡◌, ℕ, zero, suc, ◌+◌, ◌-◌, ◌/◌, ◌≤◌, List, [], ◌∷◌, ◌++◌, length, get_or, take, drop, refl, sym, ◌∙◌, ap, arith, append_assoc}
use Rattle.std.proofs.lemmas.List.{take_all}
use Rattle.std.proofs.lemmas.Bool.{le-leb}
use Rattle.ip_ranges.specs.declared.family.Family.{Family}
use Rattle.ip_ranges.specs.Values.{PrefixValue, width_of}
use Rattle.bgp_reading.specs.Places.{prefix_in, prefixes_behind, prefixes_in}

-- the octets of a prefix that has begun are ignored
pub prefixes_behind-drop : (family : Family) (left : ℕ) (bytes : List ℕ) → prefixes_behind family left bytes ≡ prefixes_in family (drop left bytes)
prefixes_behind-drop family zero bytes = refl
prefixes_behind-drop family (suc left) [] = refl
prefixes_behind-drop family (suc left) (octet ∷ rest) = prefixes_behind-drop family left rest

-- one prefix more, of octets that aren't none
pub read-next : (family : Family) (front : List PrefixValue) (bytes : List ℕ) → 1 ≤ length bytes → get_or bytes 0 0 ≤ width_of family
    → let octets = (get_or bytes 0 0 + 7) / 8 in
    let body = take (length bytes - 1) (drop 1 bytes) in
    (front ++ prefix_in family (get_or bytes 0 0) (take octets body) ∷ []) ++ prefixes_in family (drop octets body) ≡ front ++ prefixes_in family bytes
read-next family front [] some short = absurd (omega arith)
read-next family front (bits ∷ rest) some short =
    let octets = (bits + 7) / 8 in
    let p : PrefixValue = prefix_in family bits (take octets rest) in
    rw (take_all (length (bits ∷ rest) - 1) rest (omega arith), le-leb bits (width_of family) short) (
    append_assoc front (p ∷ []) (prefixes_in family (drop octets rest))
    ∙ ap (λ ps. front ++ p ∷ ps) (sym (prefixes_behind-drop family octets rest))
    )
