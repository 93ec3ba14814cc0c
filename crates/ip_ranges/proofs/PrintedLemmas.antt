-- The printed text spells the address.
use Rattle.std.proofs.Common.{◌≡◌, ℕ, ◌^◌, ◌<◌, Ok, refl, sym, ap, ◌∙◌}
use Rattle.std.proofs.lemmas.Nat.{from_be_bytes-to_be_bytes_4}
use Rattle.std.specs.Int.{w32, w128, to_be_bytes, from_be_bytes}
use Rattle.std.specs.Net.Addr.{segments_of}
use Rattle.std.proofs.NetLemmas.Texts.{IsDotted-ipv4_text, IsColonHex-hex_groups_text}
use Rattle.ip_ranges.specs.declared.family.Family.{Family}
use Rattle.ip_ranges.specs.declared.family.Family.TheVariants.{V4, V6}
use Rattle.ip_ranges.specs.Values.{AddressValue, IsMapped, IsOfFamily, width_of}
use Rattle.ip_ranges.specs.AddressText.{IsSpelled, address_of, canonical_text, text_in}
use Rattle.ip_ranges.proofs.SpelledLemmas.{address_of-ok}
use Rattle.ip_ranges.proofs.BytesLemmas.{AreBytes-high_first, segments_fit, octets_of-segments_of, from_be_bytes-to_be_bytes_16}

spells : (f : Family) (n : ℕ) → n < 2 ^ width_of f → IsSpelled f (text_in f n) n
spells V4 n fits =
    let bytes = to_be_bytes w32 n in
    (bytes, IsDotted-ipv4_text bytes refl (AreBytes-high_first 4 n), sym (from_be_bytes-to_be_bytes_4 n fits))
spells V6 n fits =
    let bytes = to_be_bytes w128 n in
    let whole = octets_of-segments_of bytes (AreBytes-high_first 16 n) refl in (
      segments_of bytes,
      IsColonHex-hex_groups_text (segments_of bytes) refl (segments_fit bytes (AreBytes-high_first 16 n)),
      sym (ap (from_be_bytes w128) whole ∙ from_be_bytes-to_be_bytes_16 n fits),
    )

-- reading what is printed gives the address back
pub address_of-canonical_text : (a : AddressValue) → IsOfFamily a → ¬ (IsMapped a) → address_of (canonical_text a) ≡ Ok a
unfolding canonical_text
address_of-canonical_text a fits free = (address_of-ok (canonical_text a) a).1 (spells a.family a.number fits, free)

-- the text in a family, as that of the address that the fields show
pub text_in-canonical : (f g : Family) (n : ℕ) (a : AddressValue) → g ≡ f → record { family = g; number = n } ≡ a → text_in f n ≡ canonical_text a
unfolding canonical_text
text_in-canonical f g n a same is = ap (λ h. text_in h n) (sym same) ∙ ap (λ (v : AddressValue). text_in v.family v.number) is
