-- Where the parts lie in a message that is written.
use Rattle.std.proofs.Common.{◌≡◌, ℕ, ◌+◌, ◌*◌, ◌<◌, List, [], ◌∷◌, ◌++◌, length, take, drop, slice_index, refl, ◌∙◌, ap, arith}
use Rattle.std.proofs.lemmas.List.{append-nil, take_at, drop_at}
use Rattle.std.specs.Int.{w16, to_be_bytes}
use Rattle.bgp_updates.specs.Message.{message_of}
use Rattle.update_laws.specs.Attributes.{announced_octets, attribute_octets, behind_withdrawn, two_octets, withdrawn_octets}

-- a number in two octets, the high one first
pub two : (n : ℕ) → n < 65536 → slice_index (to_be_bytes w16 n) 0 * 0x100 + slice_index (to_be_bytes w16 n) 1 ≡ n
two n few = omega arith

withdraw-rest : (w : List ℕ) → length w < 65536 → behind_withdrawn (message_of w [] []) ≡ 0 ∷ 0 ∷ []
withdraw-rest w few =
    ap (λ k. drop k (((w ++ 0 ∷ 0 ∷ []) ++ []) ++ [])) (two (length w) few)
    ∙ ap (drop (length w)) (append-nil ((w ++ 0 ∷ 0 ∷ []) ++ []) ∙ append-nil (w ++ 0 ∷ 0 ∷ []))
    ∙ drop_at w (0 ∷ 0 ∷ []) (length w) refl

-- what withdraws alone has no attributes and announces nothing
pub withdraw-attributes : (w : List ℕ) → length w < 65536 → attribute_octets (message_of w [] []) ≡ []
unfolding attribute_octets
withdraw-attributes w few = ap (λ rest. take (two_octets rest 0) (drop 2 rest)) (withdraw-rest w few)

pub withdraw-announced : (w : List ℕ) → length w < 65536 → announced_octets (message_of w [] []) ≡ []
unfolding announced_octets
withdraw-announced w few = ap (λ rest. drop (two_octets rest 0) (drop 2 rest)) (withdraw-rest w few)

pub withdraw-withdrawn : (w : List ℕ) → length w < 65536 → withdrawn_octets (message_of w [] []) ≡ w
unfolding withdrawn_octets
withdraw-withdrawn w few =
    ap (λ k. take k (((w ++ 0 ∷ 0 ∷ []) ++ []) ++ [])) (two (length w) few)
    ∙ ap (take (length w)) (append-nil ((w ++ 0 ∷ 0 ∷ []) ++ []) ∙ append-nil (w ++ 0 ∷ 0 ∷ []))
    ∙ take_at w (0 ∷ 0 ∷ []) (length w) refl

-- what withdraws nothing after its own length has its attributes and announces the rest
pub announce-withdrawn : (a n : List ℕ) → withdrawn_octets (message_of [] a n) ≡ []
unfolding withdrawn_octets
announce-withdrawn a n = refl

pub announce-attributes : (a n : List ℕ) → length a < 65536 → attribute_octets (message_of [] a n) ≡ a
unfolding attribute_octets
announce-attributes a n few = ap (λ k. take k (a ++ n)) (two (length a) few) ∙ take_at a n (length a) refl

pub announce-announced : (a n : List ℕ) → length a < 65536 → announced_octets (message_of [] a n) ≡ n
unfolding announced_octets
announce-announced a n few = ap (λ k. drop k (a ++ n)) (two (length a) few) ∙ drop_at a n (length a) refl
