-- What is written has a right checksum.
use Rattle.std.proofs.Common.{◌≡◌, ℕ, ◌+◌, ◌<◌, List, [], ◌∷◌, ◌++◌, length, refl, sym, ◌∙◌, ap, subst, arith, append_assoc, length-append}
use Rattle.std.specs.Int.{w16, w32, to_be_bytes}
use Rattle.neigh_frames.specs.Checksum.{ones_sum, with_pseudo_header}
use Rattle.neigh_frames.specs.Solicitation.{HasRightChecksum}
use Rattle.neigh_frames.specs.Advertisement.{advertisement, checksum_of, header, ndp_reply}
use Rattle.neigh_frames.proofs.Carry.{AreBytes, AreBytes-cons, AreBytes-append, AreBytes-literal}
use Rattle.neigh_frames.proofs.Filled.{ones_sum-complemented}
use Rattle.neigh_frames.proofs.Places.{HasRightChecksum-parts}

-- the checksum's place among the parts
regrouped : (a l n x c y t z m : List ℕ) → a ++ (l ++ (n ++ (x ++ c ++ y ++ t ++ z ++ m))) ≡ (a ++ (l ++ (n ++ x))) ++ (c ++ (y ++ (t ++ (z ++ m))))
regrouped a l n x c y t z m = simp append_assoc refl

-- a frame's places among the parts
pub framed : (a b h t d m : List ℕ) → a ++ b ++ h ++ t ++ d ++ m ≡ (a ++ b) ++ (h ++ (t ++ (d ++ m)))
framed a b h t d m = simp append_assoc refl

-- an advertisement of the target, by these flags, from mac to the destination
module _ (mac target destination : List ℕ) (flags : ℕ) (m : length mac ≡ 6) (t : length target ≡ 16) (d : length destination ≡ 16)
    (m_bytes : AreBytes mac) (t_bytes : AreBytes target) (d_bytes : AreBytes destination) (flag : flags < 256) where
  long : (checksum : ℕ) → length (advertisement flags target mac checksum) ≡ 32
  long checksum = omega (arith, length-append (target ++ 2 ∷ 1 ∷ []) mac, length-append target (2 ∷ 1 ∷ []))

  -- what is before and after the checksum
  abbrev before : List ℕ
  before = (target ++ destination) ++ (to_be_bytes w32 32 ++ ((0 ∷ 0 ∷ 0 ∷ 58 ∷ []) ++ (136 ∷ 0 ∷ [])))

  abbrev after : List ℕ
  after = (flags ∷ 0 ∷ 0 ∷ 0 ∷ []) ++ (target ++ ((2 ∷ 1 ∷ []) ++ mac))

  in_parts : (checksum : ℕ)
      → with_pseudo_header (target ++ destination) (advertisement flags target mac checksum) ≡ before ++ (to_be_bytes w16 checksum ++ after)
  in_parts checksum =
      ap (λ (n : ℕ). (target ++ destination) ++ (to_be_bytes w32 n ++ ((0 ∷ 0 ∷ 0 ∷ 58 ∷ []) ++ advertisement flags target mac checksum))) (long checksum)
      ∙ regrouped (target ++ destination) (to_be_bytes w32 32) (0 ∷ 0 ∷ 0 ∷ 58 ∷ []) (136 ∷ 0 ∷ []) (to_be_bytes w16 checksum) (flags ∷ 0 ∷ 0 ∷ 0 ∷ []) target
      (2 ∷ 1 ∷ []) mac

  before-bytes : AreBytes before
  before-bytes =
      AreBytes-append (target ++ destination) (to_be_bytes w32 32 ++ ((0 ∷ 0 ∷ 0 ∷ 58 ∷ []) ++ (136 ∷ 0 ∷ [])))
      (AreBytes-append target destination t_bytes d_bytes) (AreBytes-literal (to_be_bytes w32 32 ++ ((0 ∷ 0 ∷ 0 ∷ 58 ∷ []) ++ (136 ∷ 0 ∷ []))) refl)

  after-bytes : AreBytes after
  after-bytes =
      AreBytes-cons flags (0 ∷ 0 ∷ 0 ∷ (target ++ ((2 ∷ 1 ∷ []) ++ mac))) flag
      (AreBytes-append (0 ∷ 0 ∷ 0 ∷ []) (target ++ ((2 ∷ 1 ∷ []) ++ mac)) (AreBytes-literal (0 ∷ 0 ∷ 0 ∷ []) refl)
      (AreBytes-append target ((2 ∷ 1 ∷ []) ++ mac) t_bytes (AreBytes-append (2 ∷ 1 ∷ []) mac (AreBytes-literal (2 ∷ 1 ∷ []) refl) m_bytes)))

  even : length before ≡ 21 + 21
  even = omega (
    arith,
    length-append (target ++ destination) (to_be_bytes w32 32 ++ ((0 ∷ 0 ∷ 0 ∷ 58 ∷ []) ++ (136 ∷ 0 ∷ []))),
    length-append target destination,
  )

  right : ones_sum (with_pseudo_header (target ++ destination) (advertisement flags target mac (checksum_of flags target destination mac))) ≡ 0xffff
  right = ones_sum-complemented (λ (n : ℕ). with_pseudo_header (target ++ destination) (advertisement flags target mac n)) before after 21 in_parts even
      before-bytes after-bytes

  pub ndp_reply-HasRightChecksum : (hardware : List ℕ) → length hardware ≡ 6 → HasRightChecksum (ndp_reply mac hardware target destination flags)
  ndp_reply-HasRightChecksum hardware h =
      let message : List ℕ = advertisement flags target mac (checksum_of flags target destination mac) in
      subst HasRightChecksum (sym (framed hardware mac header target destination message))
      (HasRightChecksum-parts (hardware ++ mac) target destination message (omega (arith, length-append hardware mac)) t d
      (long (checksum_of flags target destination mac)) right)
