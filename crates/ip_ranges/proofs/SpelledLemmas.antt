-- What is read is what is spelled.
use Rattle.std.proofs.Common.{◌≡◌, ℕ, List, [], ◌∷◌, Bool, true, false, Option, Some, None, Ok, Err, length, refl, sym, ap, ◌∙◌}
use Rattle.std.proofs.Common.{subst, append-nil, lit≤, arith, inl, inr, ◌⊎◌, ◌↔◌, ne_eqb, leb, le-leb, leb-true, cond, IfErr}
use Rattle.std.proofs.lemmas.Bool.{and_from, false≢true, and_parts}
use Rattle.std.proofs.lemmas.Option.{none-some, same_Some}
use Rattle.std.specs.Int.{w32, w128, from_be_bytes}
use Rattle.std.specs.Net.Addr.{octets_of}
use Rattle.std.specs.Net.Grammar.{IsDotted, IsColonHex}
use Rattle.std.specs.Net.Reader.{Read, read_ipv4, read_ipv6, whole_value}
use Rattle.std.proofs.NetLemmas.Ipv4.{read_ipv4_sound, read_ipv4_complete}
use Rattle.std.proofs.NetLemmas.Ipv6.{read_ipv6_sound, read_ipv6_complete, EndsGroups-nil, IsDotted-not_colon_hex}
use Rattle.ip_ranges.specs.declared.family.Family.{Family}
use Rattle.ip_ranges.specs.declared.family.Family.TheVariants.{V4, V6}
use Rattle.ip_ranges.specs.declared.fault.RangeFault.TheVariants.{NotAddress, Mapped}
use Rattle.ip_ranges.specs.Values.{AddressValue, IsMapped, meets_mapped, same_family, only, last_mapped}
use Rattle.ip_ranges.specs.AddressText.{IsAddressText, IsSpelled, v4_of, v6_of, either_family, spelled, unmapped, address_of}
use Rattle.ip_ranges.proofs.AddressLaws.{same_family-is}

-- a value that was read with no text left after it
pub whole_some : {A : Type 0} (r : Read A) (x : A) → whole_value r ≡ Some x → r ≡ Some (x, [])
whole_some None x e = absurd (none-some x e)
whole_some (Some (y, [])) x e = ap (λ z. Some (z, [])) (same_Some y x e)
whole_some (Some (y, c ∷ rest)) x e = absurd (none-some x (rw (ne_eqb (length (c ∷ rest)) 0 (omega arith)) at e))

whole_ipv4 : (text octets : List ℕ) → IsDotted text octets → whole_value (read_ipv4 text) ≡ Some octets
whole_ipv4 text octets h = rw (rw append-nil at (read_ipv4_complete text octets [] h (lit≤ tt))) refl

whole_ipv6 : (text groups : List ℕ) → IsColonHex text groups → whole_value (read_ipv6 text) ≡ Some groups
whole_ipv6 text groups h = rw (rw append-nil at (read_ipv6_complete text groups [] h EndsGroups-nil)) refl

ipv4_whole : (text octets : List ℕ) → whole_value (read_ipv4 text) ≡ Some octets → IsDotted text octets
ipv4_whole text octets e =
    let (front, split, h) = read_ipv4_sound text octets [] (whole_some _ octets e) in
    subst (λ t. IsDotted t octets) (sym (split ∙ append-nil front)) h

ipv6_whole : (text groups : List ℕ) → whole_value (read_ipv6 text) ≡ Some groups → IsColonHex text groups
ipv6_whole text groups e =
    let (front, split, h) = read_ipv6_sound text groups [] (whole_some _ groups e) in
    subst (λ t. IsColonHex t groups) (sym (split ∙ append-nil front)) h

-- no text spells addresses of both families
no_ipv4 : (text groups : List ℕ) (o : Option (List ℕ)) → IsColonHex text groups → whole_value (read_ipv4 text) ≡ o → o ≡ None
no_ipv4 text groups None h e = refl
no_ipv4 text groups (Some octets) h e = absurd (IsDotted-not_colon_hex text octets groups (ipv4_whole text octets e) h)

pub spelled_v4 : (text octets : List ℕ) → IsDotted text octets → spelled text ≡ Some (v4_of octets)
unfolding spelled
spelled_v4 text octets h = rw (whole_ipv4 text octets h) refl

pub spelled_v6 : (text groups : List ℕ) → IsColonHex text groups → spelled text ≡ Some (v6_of groups)
unfolding spelled
spelled_v6 text groups h = rw (no_ipv4 text groups _ h refl, whole_ipv6 text groups h) refl

pub spelled_none : (text : List ℕ) → ((octets : List ℕ) → ¬ (IsDotted text octets)) → ((groups : List ℕ) → ¬ (IsColonHex text groups)) → spelled text ≡ None
unfolding spelled
spelled_none text no_dotted no_hex = go _ _ refl refl
  where
    go : (o g : Option (List ℕ)) → whole_value (read_ipv4 text) ≡ o → whole_value (read_ipv6 text) ≡ g → either_family o g ≡ None
    go (Some octets) g e f = absurd (no_dotted octets (ipv4_whole text octets e))
    go None (Some groups) e f = absurd (no_hex groups (ipv6_whole text groups f))
    go None None e f = refl

-- what is spelled is read
complete_in : (text : List ℕ) (family : Family) (n : ℕ) → IsSpelled family text n → spelled text ≡ Some (record { family = family; number = n })
complete_in text V4 n (octets, h, value) = spelled_v4 text octets h ∙ ap (λ m. Some (record { family = V4; number = m })) (sym value)
complete_in text V6 n (groups, h, value) = spelled_v6 text groups h ∙ ap (λ m. Some (record { family = V6; number = m })) (sym value)

pub spelled-complete : (text : List ℕ) (a : AddressValue) → IsAddressText text a → spelled text ≡ Some a
spelled-complete text a h = complete_in text a.family a.number h

-- what is read is spelled
pub spelled-sound : (text : List ℕ) (a : AddressValue) → spelled text ≡ Some a → IsAddressText text a
unfolding spelled
spelled-sound text a e = go _ _ refl refl e
  where
    go : (o g : Option (List ℕ)) → whole_value (read_ipv4 text) ≡ o → whole_value (read_ipv6 text) ≡ g → either_family o g ≡ Some a → IsAddressText text a
    go (Some octets) g e f h = subst (IsAddressText text) (same_Some _ a h) (octets, ipv4_whole text octets e, refl)
    go None (Some groups) e f h = subst (IsAddressText text) (same_Some _ a h) (groups, ipv6_whole text groups f, refl)
    go None None e f h = absurd (none-some a h)

same_family-same : (f g : Family) → f ≡ g → same_family f g ≡ true
same_family-same V4 V4 e = refl
same_family-same V4 V6 e = cc
same_family-same V6 V4 e = cc
same_family-same V6 V6 e = refl

pub IsMapped-meets : (a : AddressValue) → meets_mapped (only a) ≡ true → IsMapped a
IsMapped-meets a e =
    let (six, within) = and_parts (same_family a.family V6) _ e in
    let (low, high) = and_parts (leb a.number last_mapped) _ within in
    (same_family-is a.family V6 six, leb-true _ _ high, leb-true _ _ low)

pub meets-IsMapped : (a : AddressValue) → IsMapped a → meets_mapped (only a) ≡ true
meets-IsMapped a (six, first, last) =
    and_from _ _ (same_family-same a.family V6 six) (and_from _ _ (le-leb _ _ last) (le-leb _ _ first))

-- what `unmapped` gives, and from what
taken : (o : Option AddressValue) (a : AddressValue) → unmapped o ≡ Ok a → (o ≡ Some a) × (¬ (IsMapped a))
taken None a e = absurd (cc)
taken (Some b) a e = go (meets_mapped (only b)) refl e
  where
    go : (m : Bool) → meets_mapped (only b) ≡ m → cond m (Err Mapped) (Ok b) ≡ Ok a → (Some b ≡ Some a) × (¬ (IsMapped a))
    go true is r = absurd (cc)
    go false is r = (cc, λ mapped. let yes = meets-IsMapped a mapped in let same : b ≡ a = cc in false≢true (cc))

takes : (a : AddressValue) → ¬ (IsMapped a) → unmapped (Some a) ≡ Ok a
takes a free = go (meets_mapped (only a)) refl
  where
    go : (m : Bool) → meets_mapped (only a) ≡ m → cond m (Err Mapped) (Ok a) ≡ Ok a
    go true is = absurd (free (IsMapped-meets a is))
    go false is = refl

refuses : (a : AddressValue) → IsMapped a → unmapped (Some a) ≡ Err Mapped
refuses a mapped = rw (meets-IsMapped a mapped) refl

refused : (o : Option AddressValue) → unmapped o ≡ Err Mapped → (a : AddressValue) × (o ≡ Some a) × IsMapped a
refused None e = absurd (cc)
refused (Some a) e = go (meets_mapped (only a)) refl e
  where
    go : (m : Bool) → meets_mapped (only a) ≡ m → cond m (Err Mapped) (Ok a) ≡ Err Mapped → (b : AddressValue) × (Some a ≡ Some b) × IsMapped b
    go true is r = (a, refl, IsMapped-meets a is)
    go false is r = absurd (cc)

nothing : (o : Option AddressValue) → unmapped o ≡ Err NotAddress → o ≡ None
nothing None e = refl
nothing (Some a) e = go (meets_mapped (only a)) refl e
  where
    go : (m : Bool) → meets_mapped (only a) ≡ m → cond m (Err Mapped) (Ok a) ≡ Err NotAddress → Some a ≡ None
    go true is r = absurd (cc)
    go false is r = absurd (cc)

pub address_of-ok : (text : List ℕ) (a : AddressValue) → (address_of text ≡ Ok a) ↔ (IsAddressText text a × (¬ (IsMapped a)))
unfolding address_of
address_of-ok text a = (
  λ e. let (is, free) = taken (spelled text) a e in (spelled-sound text a is, free),
  λ (h, free). ap unmapped (spelled-complete text a h) ∙ takes a free,
)

pub address_of-mapped : (text : List ℕ) → (address_of text ≡ Err Mapped) ↔ ((a : AddressValue) × IsAddressText text a × IsMapped a)
unfolding address_of
address_of-mapped text = (
  λ e. let (a, is, mapped) = refused (spelled text) e in (a, spelled-sound text a is, mapped),
  λ (a, h, mapped). ap unmapped (spelled-complete text a h) ∙ refuses a mapped,
)

unspelled : (text : List ℕ) → ((a : AddressValue) → ¬ (IsAddressText text a)) → spelled text ≡ None
unspelled text none = go _ refl
  where
    go : (o : Option AddressValue) → spelled text ≡ o → o ≡ None
    go None e = refl
    go (Some a) e = absurd (none a (spelled-sound text a e))

pub address_of-not_address : (text : List ℕ) → (address_of text ≡ Err NotAddress) ↔ ((a : AddressValue) → ¬ (IsAddressText text a))
unfolding address_of
address_of-not_address text = (
  λ e a h. none-some a (sym (nothing (spelled text) e) ∙ spelled-complete text a h),
  λ none. ap unmapped (unspelled text none),
)

faults : (o : Option AddressValue) → IfErr (unmapped o) (λ fault. (fault ≡ NotAddress) ⊎ (fault ≡ Mapped))
faults None = inl refl
faults (Some a) = go (meets_mapped (only a))
  where
    go : (m : Bool) → IfErr (cond m (Err Mapped) (Ok a)) (λ fault. (fault ≡ NotAddress) ⊎ (fault ≡ Mapped))
    go true = inr refl
    go false = tt

pub address_of-faults : (text : List ℕ) → IfErr (address_of text) (λ fault. (fault ≡ NotAddress) ⊎ (fault ≡ Mapped))
unfolding address_of
address_of-faults text = faults (spelled text)

pub number_v4 : (n : ℕ) (octets : List ℕ) (o : Option AddressValue) → n ≡ from_be_bytes w32 octets → o ≡ Some (v4_of octets)
    → Some (record { family = V4; number = n }) ≡ o
number_v4 n octets o value is = ap (λ m. Some (record { family = V4; number = m })) value ∙ sym is

pub number_v6 : (n : ℕ) (groups : List ℕ) (o : Option AddressValue) → n ≡ from_be_bytes w128 (octets_of groups) → o ≡ Some (v6_of groups)
    → Some (record { family = V6; number = n }) ≡ o
number_v6 n groups o value is = ap (λ m. Some (record { family = V6; number = m })) value ∙ sym is
