-- Ones' complement sums against plain ones.
use Rattle.std.proofs.Common.{◌≡◌, ◌≢◌, ◌↔◌, ℕ, zero, suc, ◌+◌, ◌-◌, ◌*◌, ◌/◌, ◌<◌, ◌≤◌, List, [], ◌∷◌}
use Rattle.std.proofs.Common.{◌++◌, length, get_or, take, drop, refl, sym, ◌∙◌, ap, subst, arith}
use Rattle.std.specs.Prelude.{nat_lt, slice_range, true}
use Rattle.std.specs.Int.{w32, bytes_high_first, to_be_bytes}
use Rattle.std.specs.List.{list_all}
use Rattle.std.proofs.lemmas.Bool.{and_parts, ltb-true}
use Rattle.std.proofs.lemmas.List.{length-take, length-drop}
use Rattle.mlb_base.proofs.Lists.{all-take, all-drop, all-append}
use Rattle.ip_ranges.proofs.BytesLemmas.{AreBytes-high_first}
use Rattle.neigh_frames.specs.Checksum.{ones_sum, plus, sum_from, with_pseudo_header}
use Rattle.neigh_frames.specs.Solicitation.{HasRightChecksum}
use Rattle.frame_laws.specs.Sums.{AreOctets, ChecksumsArePlainSums, FramesAreSummed, IsMultiple, message_length, plain_sum, summed}

-- the one sum is the other less so many times 65,535, and 0 only where the other is
record IsReduced (reduced sum : ℕ) : Type 0 where
  times : ℕ
  less : reduced + 65535 * times ≡ sum
  small : reduced ≤ 65535
  zero_of : reduced ≡ 0 → sum ≡ 0

reduced-plus : (reduced sum word : ℕ) → word ≤ 65535 → IsReduced reduced sum → IsReduced (plus reduced word) (sum + word)
reduced-plus reduced sum word fits is = record {
  times = is.times + (reduced + word) / 0x1_0000;
  less = omega (arith, is.less, is.small);
  small = omega (arith, is.small);
  zero_of = λ z. let none : reduced ≡ 0 = omega (arith, is.small) in omega (arith, is.zero_of none, is.small);
}

reduced-sum : (reduced sum : ℕ) (octets : List ℕ) → AreOctets octets → IsReduced reduced sum → IsReduced (sum_from reduced octets) (sum + plain_sum octets)
reduced-sum reduced sum [] all is = record { times = is.times; less = omega (arith, is.less); small = is.small; zero_of = λ z. omega (arith, is.zero_of z) }
reduced-sum reduced sum (last ∷ []) all is = reduced-plus reduced sum (last * 256) (omega (arith, all.0)) is
reduced-sum reduced sum (high ∷ low ∷ rest) all is =
    let more = reduced-sum (plus reduced (high * 256 + low)) (sum + (high * 256 + low)) rest all.1.1
    (reduced-plus reduced sum (high * 256 + low) (omega (arith, all.0, all.1.0)) is) in
    record { times = more.times; less = omega (arith, more.less); small = more.small; zero_of = λ z. omega (arith, more.zero_of z) }

multiple : (reduced sum : ℕ) → IsReduced reduced sum → (reduced ≡ 0xffff) ↔ IsMultiple sum
multiple reduced sum is = (
  λ all. (omega (arith, is.less), λ none. omega (arith, is.less)),
  λ m. let some : reduced ≢ 0 = λ z. m.1 (is.zero_of z) in omega (arith, is.less, is.small, m.0),
)

pub checksums-plain : ChecksumsArePlainSums
checksums-plain octets all =
    let whole : 0 + plain_sum octets ≡ plain_sum octets = omega arith in
    multiple (ones_sum octets) (plain_sum octets)
    (subst (IsReduced (ones_sum octets)) whole (reduced-sum 0 0 octets all (record { times = 0; less = refl; small = omega arith; zero_of = λ z. refl })))

-- ---- parts of a frame
plain-append : (pairs : ℕ) (front back : List ℕ) → length front ≡ pairs + pairs → plain_sum (front ++ back) ≡ plain_sum front + plain_sum back
plain-append pairs [] back even = omega arith
plain-append zero (a ∷ front) back even = absurd (omega arith)
plain-append (suc pairs) (a ∷ []) back even = absurd (omega arith)
plain-append (suc pairs) (a ∷ b ∷ front) back even = omega (arith, plain-append pairs front back (omega arith))

pub octets-literal : (octets : List ℕ) → list_all (λ octet. nat_lt octet 0x100) octets ≡ true → AreOctets octets
octets-literal [] all = tt
octets-literal (x ∷ octets) all =
    let parts = and_parts (nat_lt x 0x100) (list_all (λ octet. nat_lt octet 0x100) octets) all in
    (ltb-true x 0x100 parts.0, octets-literal octets parts.1)

pub octets-append : (front back : List ℕ) → AreOctets front → AreOctets back → AreOctets (front ++ back)
octets-append = all-append (λ (octet : ℕ). octet < 0x100)

pub octets-take : (n : ℕ) (octets : List ℕ) → AreOctets octets → AreOctets (take n octets)
octets-take = all-take (λ (octet : ℕ). octet < 0x100)

pub octets-drop : (n : ℕ) (octets : List ℕ) → AreOctets octets → AreOctets (drop n octets)
octets-drop = all-drop (λ (octet : ℕ). octet < 0x100)

pub octet-at : (n : ℕ) (octets : List ℕ) → AreOctets octets → get_or octets n 0 < 0x100
octet-at n [] all = omega arith
octet-at zero (x ∷ octets) all = all.0
octet-at (suc n) (x ∷ octets) all = octet-at n octets all.1

-- a length below 2^16, in four octets
four : (n : ℕ) → n < 65536 → plain_sum (to_be_bytes w32 n) ≡ n
four n few = omega arith

pub octets-high_first : (k n : ℕ) → AreOctets (bytes_high_first k n)
octets-high_first zero n = tt
octets-high_first (suc k) n = (AreBytes-high_first (suc k) n zero, octets-high_first k n)

module _ (frame : List ℕ) (all : AreOctets frame) (whole : 54 + message_length frame ≤ length frame) where
  abbrev addresses : List ℕ
  addresses = slice_range frame 22 54

  abbrev message : List ℕ
  message = slice_range frame 54 (54 + message_length frame)

  few : message_length frame < 65536
  few = omega (arith, octet-at 18 frame all, octet-at 19 frame all)

  long : length addresses ≡ 32
  long = omega (arith, length-take 32 (drop 22 frame), length-drop 22 frame, whole)

  size : length message ≡ message_length frame
  size = omega (arith, length-take (54 + message_length frame - 54) (drop 54 frame), length-drop 54 frame, whole)

  sums : plain_sum (with_pseudo_header addresses message) ≡ summed frame
  sums =
      plain-append 16 addresses (to_be_bytes w32 (length message) ++ ((0 ∷ 0 ∷ 0 ∷ 58 ∷ []) ++ message)) (omega (arith, long))
      ∙ ap (λ n. plain_sum addresses + n) (plain-append 2 (to_be_bytes w32 (length message)) ((0 ∷ 0 ∷ 0 ∷ 58 ∷ []) ++ message) refl)
      ∙ omega (arith, four (length message) (omega (arith, size, few)), size)

  octets : AreOctets (with_pseudo_header addresses message)
  octets =
      octets-append addresses (to_be_bytes w32 (length message) ++ ((0 ∷ 0 ∷ 0 ∷ 58 ∷ []) ++ message))
      (octets-take 32 (drop 22 frame) (octets-drop 22 frame all))
      (octets-append (to_be_bytes w32 (length message)) ((0 ∷ 0 ∷ 0 ∷ 58 ∷ []) ++ message) (octets-high_first 4 (length message))
      (octets-append (0 ∷ 0 ∷ 0 ∷ 58 ∷ []) message (octets-literal (0 ∷ 0 ∷ 0 ∷ 58 ∷ []) refl)
      (octets-take (54 + message_length frame - 54) (drop 54 frame) (octets-drop 54 frame all))))

  frame-summed : HasRightChecksum frame ↔ IsMultiple (summed frame)
  frame-summed = rw (sym sums) (checksums-plain (with_pseudo_header addresses message) octets)

pub frames-summed : FramesAreSummed
frames-summed frame all whole = frame-summed frame all whole
