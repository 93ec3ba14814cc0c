-- What writing again and comparing tells.
use Rattle.std.proofs.Common.{◌≡◌, ℕ, false, ◌<◌, ◌≤◌, List, [], ◌∷◌, ◌++◌, length, ap, arith, length-append}
use Rattle.std.proofs.lemmas.Bool.{false_from_ne_true}
use Rattle.std.proofs.lemmas.Slice.Eq.{bytes_eq-Decides}
use Rattle.std.specs.Str.{bytes_eq}
use Rattle.ip_ranges.specs.Values.{PrefixValue}
use Rattle.bgp_updates.specs.declared.part.Part.{Part}
use Rattle.bgp_updates.specs.declared.part.Part.TheVariants.{Withdrawn, Unreached, Announced, Reached}
use Rattle.bgp_updates.specs.Message.{part_bytes, part_message, prefixes_bytes, reach_attribute, unreach_attribute}
use Rattle.bgp_updates.proofs.Sizes.{length-message}
use Rattle.bgp_reading.proofs.AttributesAgain.{reach_value, value-within}

-- a message has its prefixes' octets
part-within : (part : Part) (prefixes : List ℕ) → length prefixes ≤ length (part_bytes part prefixes)
unfolding part_bytes
part-within Withdrawn prefixes = omega (arith, length-message prefixes [] [])
part-within Unreached prefixes = omega (arith, length-message [] (unreach_attribute prefixes) [], value-within 0x80 15 ((0 ∷ 2 ∷ 1 ∷ []) ++ prefixes))
part-within (Announced attributes) prefixes = omega (arith, length-message [] attributes prefixes)
part-within (Reached front hop back) prefixes =
    omega (
      arith,
      length-message [] (front ++ reach_attribute hop prefixes ++ back) [],
      length-append (front ++ reach_attribute hop prefixes) back,
      length-append front (reach_attribute hop prefixes),
      value-within 0x80 14 (reach_value hop prefixes),
    )

-- so fewer octets aren't the message
pub other-size : (part : Part) (prefixes : List PrefixValue) (bytes : List ℕ) → length bytes < length (prefixes_bytes prefixes)
    → bytes_eq (part_message part prefixes) bytes ≡ false
other-size part prefixes bytes fewer = false_from_ne_true (bytes_eq (part_message part prefixes) bytes) (λ same.
    let is : part_message part prefixes ≡ bytes = (bytes_eq-Decides (part_message part prefixes) bytes).0 same in
    absurd (omega (arith, fewer, ap length is, part-within part (prefixes_bytes prefixes))))
