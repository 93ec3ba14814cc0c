-- The parts of a frame by their places.
use Rattle.std.proofs.Common.{◌≡◌, ℕ, ◌+◌, List, ◌++◌, length, get_or, take, drop, refl, sym, ◌∙◌, ap, arith, append_assoc, length-append}
use Rattle.std.specs.Prelude.{slice_range}
use Rattle.std.proofs.lemmas.List.{take_all, get_or-append-add}
use Rattle.std.proofs.Math.Seq.{drop-append-add, take-append_seam}
use Rattle.neigh_frames.specs.Checksum.{ones_sum, with_pseudo_header}
use Rattle.neigh_frames.specs.Advertisement.{header}
use Rattle.neigh_frames.specs.Solicitation.{HasRightChecksum, message_of, payload_length}

-- what follows the first part begins after it
drop-front : (front back : List ℕ) (n k : ℕ) → length front ≡ n → drop (n + k) (front ++ back) ≡ drop k back
drop-front front back n k is = rw (sym is) (drop-append-add front back k)

pub get_or-front : (front back : List ℕ) (n k : ℕ) → length front ≡ n → get_or (front ++ back) (n + k) 0 ≡ get_or back k 0
get_or-front front back n k is = rw (sym is) (get_or-append-add front back k 0)

take-front : (front back : List ℕ) (n : ℕ) → length front ≡ n → take n (front ++ back) ≡ front
take-front front back n is = rw (sym is) (take-append_seam front back)

-- a frame of these parts has a right checksum where the sum over its addresses and its message is right
module _ (head target destination message : List ℕ) (h : length head ≡ 12) (t : length target ≡ 16) (d : length destination ≡ 16)
    (m : length message ≡ 32) where
  abbrev frame : List ℕ
  frame = head ++ (header ++ (target ++ (destination ++ message)))

  payload : payload_length frame ≡ 32
  payload = rw (
    get_or-front head (header ++ (target ++ (destination ++ message))) 12 6 h,
    get_or-front head (header ++ (target ++ (destination ++ message))) 12 7 h,
  ) refl

  addresses : slice_range frame 22 54 ≡ target ++ destination
  addresses =
      ap (take 32) (drop-front head (header ++ (target ++ (destination ++ message))) 12 10 h ∙ sym (append_assoc target destination message))
      ∙ take-front (target ++ destination) message 32 (omega (arith, length-append target destination))

  behind : drop 54 frame ≡ message
  behind =
      drop-front head (header ++ (target ++ (destination ++ message))) 12 42 h
      ∙ drop-front target (destination ++ message) 16 16 t
      ∙ drop-front destination message 16 0 d

  message_is : message_of frame ≡ message
  message_is =
      ap (λ (n : ℕ). slice_range frame 54 (54 + n)) payload
      ∙ ap (take 32) behind
      ∙ take_all 32 message (omega arith)

  pub HasRightChecksum-parts : ones_sum (with_pseudo_header (target ++ destination) message) ≡ 0xffff → HasRightChecksum frame
  HasRightChecksum-parts right = rw (addresses, message_is) right
