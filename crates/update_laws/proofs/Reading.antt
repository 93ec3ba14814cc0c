-- The attributes that are written, read in general.
use Rattle.std.proofs.Common.{◌≡◌, ℕ, zero, suc, ◌+◌, ◌<◌, ◌≤◌, Bool, true, false, cond, ◌==◌, nat_le, List, [], ◌∷◌, ◌++◌, length}
use Rattle.std.proofs.Common.{Option, Some, None, refl, sym, ◌∙◌, ap, subst, arith, append_assoc, length-append, unwrap_or}
use Rattle.std.proofs.lemmas.Bool.Decides.{nat_tests}
use Rattle.std.proofs.lemmas.List.{take_at, drop_at, append-nil}
use Rattle.std.specs.Int.{w16, w32, w128, to_be_bytes}
use Rattle.std.specs.Option.{option_map}
use Rattle.mlb_base.proofs.Bools.{by_bool}
use Rattle.ip_ranges.specs.declared.family.Family.{Family}
use Rattle.ip_ranges.specs.declared.family.Family.TheVariants.{V4, V6}
use Rattle.ip_ranges.specs.Values.{PrefixValue}
use Rattle.large_numbers.specs.declared.numbers.LargeCommunity.{LargeCommunity}
use Rattle.bgp_updates.specs.declared.route.Terms.{Terms}
use Rattle.bgp_updates.specs.declared.route.Peering.{Peering}
use Rattle.bgp_updates.specs.Between.{AreFew}
use Rattle.bgp_updates.specs.Message.{attribute, communities_attribute, communities_bytes, front_of, hop_attribute, large_attribute, larges_bytes}
use Rattle.bgp_updates.specs.Message.{optional_attribute, path_attribute, preference_attribute, prefixes_bytes, reach_attribute, unreach_attribute}
use Rattle.bgp_updates.proofs.SmallGroups.{length-communities, length-larges}
use Rattle.update_laws.specs.Attributes.{Attribute, attributes_in, attributes_within, is_extended, value_then}
use Rattle.update_laws.specs.Laws.{as_path, attributes_told, communities, large_community, local_pref}
use Rattle.update_laws.specs.Laws.{mp_reach, mp_unreach, next_hop, optional, origin_incomplete}
use Rattle.update_laws.proofs.Parts.{two}

-- ---- an attribute in front
abbrev with_attribute : ℕ → ℕ → List ℕ → List Attribute → List Attribute
with_attribute flags code value more = record { flags = flags; code = code; value = value } ∷ more

long-enough : (value rest : List ℕ) → nat_le (length value) (length (value ++ rest)) ≡ true
long-enough [] rest = grind (arith, nat_tests)
long-enough (v ∷ value) rest = let more = long-enough value rest in grind (arith, nat_tests)

value-front : (read : List ℕ → Option (List Attribute)) (flags code : ℕ) (value rest : List ℕ)
    → value_then read flags code (length value) (value ++ rest) ≡ option_map (with_attribute flags code value) (read rest)
value-front read flags code value rest =
    rw (long-enough value rest, take_at value rest (length value) refl, drop_at value rest (length value) refl) refl

short-step : (most flags code : ℕ) (value rest : List ℕ) → is_extended flags ≡ false
    → attributes_within (suc most) (flags ∷ code ∷ length value ∷ (value ++ rest)) ≡ option_map (with_attribute flags code value) (attributes_within most rest)
short-step most flags code value rest short = rw short (value-front (attributes_within most) flags code value rest)

-- ---- octets that are read as these attributes, in so many steps or more
abbrev pub ReadsAs : ℕ → List ℕ → List Attribute → Type 0
ReadsAs n octets told = (most : ℕ) → n ≤ most → attributes_within most octets ≡ Some told

reads-none : ReadsAs 0 [] []
reads-none zero enough = refl
reads-none (suc most) enough = refl

reads-more : (n : ℕ) (octets : List ℕ) (told : List Attribute) → ReadsAs n octets told → ReadsAs (suc n) octets told
reads-more n octets told reads most enough = reads most (omega (arith, enough))

reads-short : (n flags code : ℕ) (value rest : List ℕ) (told : List Attribute) → is_extended flags ≡ false → ReadsAs n rest told
    → ReadsAs (suc n) (flags ∷ code ∷ length value ∷ (value ++ rest)) (with_attribute flags code value told)
reads-short n flags code value rest told short reads zero enough = absurd (omega (arith, enough))
reads-short n flags code value rest told short reads (suc most) enough =
    short-step most flags code value rest short ∙ ap (option_map (with_attribute flags code value)) (reads most (omega (arith, enough)))

reads-attribute : (n flags code : ℕ) (value rest : List ℕ) (told : List Attribute) → is_extended flags ≡ false → is_extended (flags + 0x10) ≡ true
    → length value < 65536
    → ReadsAs n rest told → ReadsAs (suc n) (attribute flags code value ++ rest) (optional flags code value ∷ told)
reads-attribute n flags code value rest told one two_octets few reads zero enough = absurd (omega (arith, enough))
reads-attribute n flags code value rest told one two_octets few reads (suc most) enough =
    by_bool (attributes_within (suc most) (attribute flags code value ++ rest) ≡ Some (optional flags code value ∷ told)) (nat_le (length value) 255)
    (λ short. rw short (short-step most flags code value rest one ∙ ap (option_map (with_attribute flags code value)) (reads most (omega (arith, enough)))))
    (λ long. rw (long, two_octets) (
    ap (λ k. value_then (attributes_within most) (flags + 0x10) code k (value ++ rest)) (two (length value) few)
    ∙ value-front (attributes_within most) (flags + 0x10) code value rest
    ∙ ap (option_map (with_attribute (flags + 0x10) code value)) (reads most (omega (arith, enough)))))

not_zero : (n : ℕ) → 0 < n → (n == 0) ≡ false
not_zero n some = grind (arith, nat_tests)

reads-optional : (n code : ℕ) (value rest : List ℕ) (told : List Attribute) → 0 < length value → length value < 65536
    → ReadsAs n rest told → ReadsAs (suc n) (optional_attribute 0xc0 code value ++ rest) (optional 0xc0 code value ∷ told)
reads-optional n code value rest told some few reads =
    subst (λ (v : Bool). ReadsAs (suc n) (cond v [] (attribute 0xc0 code value) ++ rest) (optional 0xc0 code value ∷ told)) (sym (not_zero (length value) some))
    (reads-attribute n 0xc0 code value rest told refl refl few reads)

-- ---- communities
reads-communities : (n : ℕ) (numbers : List ℕ) (rest : List ℕ) (told : List Attribute) → length numbers ≤ 512
    → ReadsAs n rest told → ReadsAs (suc n) (communities_attribute numbers ++ rest) (communities numbers ++ told)
reads-communities n [] rest told few reads = reads-more n rest told reads
reads-communities n (number ∷ numbers) rest told few reads =
    let count = length-communities (number ∷ numbers) in
    reads-optional n 8 (communities_bytes (number ∷ numbers)) rest told (omega (arith, count)) (omega (arith, count, few)) reads

reads-larges : (numbers : List LargeCommunity) → length numbers ≤ 128 → ReadsAs 1 (large_attribute numbers) (large_community numbers)
reads-larges [] few = reads-more 0 [] [] reads-none
reads-larges (number ∷ numbers) few =
    let count = length-larges (number ∷ numbers) in
    subst (λ octets. ReadsAs 1 octets (large_community (number ∷ numbers))) (append-nil (large_attribute (number ∷ numbers)))
    (reads-optional 0 32 (larges_bytes (number ∷ numbers)) [] [] (omega (arith, count)) (omega (arith, count, few)) reads-none)

-- ---- the attributes of what announces
reads-preference : (n : ℕ) (own preference : Option ℕ) (rest : List ℕ) (told : List Attribute)
    → ReadsAs n rest told → ReadsAs (suc n) (preference_attribute own preference ++ rest) (local_pref own preference ++ told)
reads-preference n None preference rest told reads = reads-short n 0x40 5 (to_be_bytes w32 (unwrap_or preference 0)) rest told refl reads
reads-preference n (Some own) preference rest told reads = reads-more n rest told reads

-- after ORIGIN and AS_PATH
reads-behind : (n : ℕ) (own : Option ℕ) (rest : List ℕ) (told : List Attribute) → ReadsAs n rest told
    → ReadsAs (suc (suc n)) ((0x40 ∷ 1 ∷ 1 ∷ 2 ∷ []) ++ (path_attribute own ++ rest)) (origin_incomplete ∷ as_path own ∷ told)
reads-behind n None rest told reads =
    reads-short (suc n) 0x40 1 (2 ∷ []) (path_attribute None ++ rest) (as_path None ∷ told) refl (reads-short n 0x40 2 [] rest told refl reads)
reads-behind n (Some own) rest told reads =
    reads-short (suc n) 0x40 1 (2 ∷ []) (path_attribute (Some own) ++ rest) (as_path (Some own) ∷ told) refl
    (reads-short n 0x40 2 (2 ∷ 1 ∷ to_be_bytes w32 own) rest told refl reads)

reads-hop : (n hop : ℕ) (family : Family) (rest : List ℕ) (told : List Attribute)
    → ReadsAs n rest told → ReadsAs (suc n) (hop_attribute family hop ++ rest) (next_hop family hop ++ told)
reads-hop n hop V4 rest told reads = reads-short n 0x40 3 (to_be_bytes w32 hop) rest told refl reads
reads-hop n hop V6 rest told reads = reads-more n rest told reads

-- COMMUNITIES are followed by what is of the family
reads-front : (n : ℕ) (family : Family) (peering : Peering) (terms : Terms) (rest : List ℕ) (told : List Attribute) → length terms.communities ≤ 512
    → ReadsAs n rest told
    → ReadsAs (5 + n) (front_of family peering terms ++ rest)
    (origin_incomplete ∷ as_path peering.own
    ∷ (next_hop family peering.next_hop ++ (local_pref peering.own terms.preference ++ (communities terms.communities ++ told))))
reads-front n family peering terms rest told few reads =
    let origin : List ℕ = 0x40 ∷ 1 ∷ 1 ∷ 2 ∷ [] in
    let path : List ℕ = path_attribute peering.own in
    let hop : List ℕ = hop_attribute family peering.next_hop in
    let preference : List ℕ = preference_attribute peering.own terms.preference in
    let numbers : List ℕ = communities_attribute terms.communities in
    let shape : front_of family peering terms ++ rest ≡ origin ++ (path ++ (hop ++ (preference ++ (numbers ++ rest)))) =
    append_assoc (((origin ++ path) ++ hop) ++ preference) numbers rest
    ∙ append_assoc ((origin ++ path) ++ hop) preference (numbers ++ rest)
    ∙ append_assoc (origin ++ path) hop (preference ++ (numbers ++ rest))
    ∙ append_assoc origin path (hop ++ (preference ++ (numbers ++ rest))) in
    let last : ReadsAs (suc n) (numbers ++ rest) (communities terms.communities ++ told) = reads-communities n terms.communities rest told few reads in
    let third = reads-preference (suc n) peering.own terms.preference (numbers ++ rest) (communities terms.communities ++ told) last in
    let second = reads-hop (suc (suc n)) peering.next_hop family (preference ++ (numbers ++ rest))
    (local_pref peering.own terms.preference ++ (communities terms.communities ++ told)) third in
    let first = reads-behind (suc (suc (suc n))) peering.own (hop ++ (preference ++ (numbers ++ rest)))
    (next_hop family peering.next_hop ++ (local_pref peering.own terms.preference ++ (communities terms.communities ++ told))) second in
    λ most enough. ap (attributes_within most) shape ∙ first most (omega (arith, enough))

-- what is read in so many steps as the octets are is what the octets are
pub read-whole : (n : ℕ) (octets : List ℕ) (told : List Attribute) → ReadsAs n octets told → n ≤ length octets → attributes_in octets ≡ Some told
read-whole n octets told reads enough = reads (length octets) enough

long-front : (family : Family) (peering : Peering) (terms : Terms) → 7 ≤ length (front_of family peering terms)
long-front family peering terms = by_own peering.own terms.preference family peering.next_hop terms.communities
  where
    by_own : (own preference : Option ℕ) (family : Family) (hop : ℕ) (numbers : List ℕ)
        → 7 ≤ length
        ((0x40 ∷ 1 ∷ 1 ∷ 2 ∷ []) ++ path_attribute own ++ hop_attribute family hop ++ preference_attribute own preference ++ communities_attribute numbers)
    by_own None preference family hop numbers = omega arith
    by_own (Some own) preference family hop numbers = omega arith

pub read-v4 : (peering : Peering) (terms : Terms) (withdrawn announced : List PrefixValue) → AreFew terms
    → attributes_in (front_of V4 peering terms ++ large_attribute terms.large) ≡ Some (attributes_told V4 peering withdrawn announced (Some terms))
read-v4 peering terms withdrawn announced few =
    read-whole 6 (front_of V4 peering terms ++ large_attribute terms.large) (attributes_told V4 peering withdrawn announced (Some terms))
    (reads-front 1 V4 peering terms (large_attribute terms.large) (large_community terms.large) few.0 (reads-larges terms.large few.1))
    (omega (arith, long-front V4 peering terms, length-append (front_of V4 peering terms) (large_attribute terms.large)))

pub read-v6 : (peering : Peering) (terms : Terms) (withdrawn announced : List PrefixValue) → AreFew terms → length (prefixes_bytes announced) ≤ 4096
    → attributes_in (front_of V6 peering terms ++ reach_attribute peering.next_hop_v6 (prefixes_bytes announced) ++ large_attribute terms.large)
    ≡ Some (attributes_told V6 peering withdrawn announced (Some terms))
read-v6 peering terms withdrawn announced few small =
    let bytes : List ℕ = prefixes_bytes announced in
    let value : List ℕ = (0 ∷ 2 ∷ 1 ∷ 16 ∷ []) ++ to_be_bytes w128 peering.next_hop_v6 ++ (0 ∷ []) ++ bytes in
    let reach : List ℕ = reach_attribute peering.next_hop_v6 bytes in
    let front : List ℕ = front_of V6 peering terms in
    let large : List ℕ = large_attribute terms.large in
    ap attributes_in (append_assoc front reach large)
    ∙ read-whole 7 (front ++ (reach ++ large)) (attributes_told V6 peering withdrawn announced (Some terms))
    (reads-front 2 V6 peering terms (reach ++ large) (mp_reach V6 peering.next_hop_v6 announced ++ large_community terms.large) few.0
    (reads-attribute 1 0x80 14 value large (large_community terms.large) refl refl (omega (arith, small)) (reads-larges terms.large few.1)))
    (omega (arith, long-front V6 peering terms, length-append front (reach ++ large)))

-- ---- the attribute of what withdraws
long-attribute : (flags code : ℕ) (value : List ℕ) → 1 ≤ length (attribute flags code value)
long-attribute flags code value =
    elim (nat_le (length value) 255)
    as (λ v. 1 ≤ length (cond v ((flags ∷ code ∷ length value ∷ []) ++ value) (((flags + 0x10) ∷ code ∷ []) ++ to_be_bytes w16 (length value) ++ value))) [
      | true ↦ omega arith
      | false ↦ omega arith
    ]

pub read-unreached : (withdrawn : List PrefixValue) → length (prefixes_bytes withdrawn) ≤ 4096
    → attributes_in (unreach_attribute (prefixes_bytes withdrawn)) ≡ Some (mp_unreach V6 withdrawn)
read-unreached withdrawn small =
    let value : List ℕ = (0 ∷ 2 ∷ 1 ∷ []) ++ prefixes_bytes withdrawn in
    let octets : List ℕ = unreach_attribute (prefixes_bytes withdrawn) in
    ap attributes_in (sym (append-nil octets))
    ∙ read-whole 1 (octets ++ []) (mp_unreach V6 withdrawn) (reads-attribute 0 0x80 15 value [] [] refl refl (omega (arith, small)) reads-none)
    (omega (arith, long-attribute 0x80 15 value, length-append octets []))
