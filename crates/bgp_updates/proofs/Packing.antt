-- Prefixes packed into messages.
use Rattle.std.proofs.Common.{◌≡◌, ℕ, suc, Bool, true, false, leb, ◌+◌, ◌-◌, ◌<◌, ◌≤◌, List, [], ◌∷◌, ◌++◌, length, map}
use Rattle.std.proofs.Common.{take, drop, All, refl, sym, ◌∙◌, ap, arith, length-append, length-take, append_assoc}
use Rattle.std.proofs.lemmas.Bool.{leb-true, leb-false, le-leb, lt-leb}
use Rattle.std.proofs.lemmas.List.{append-nil}
use Rattle.std.proofs.lemmas.List.Elements.{All-tail, All-drop}
use Rattle.ip_ranges.specs.Values.{PrefixValue, width_of}
use Rattle.ip_ranges.proofs.BlockLemmas.{widest}
use Rattle.bgp_updates.specs.declared.part.Part.{Part}
use Rattle.bgp_updates.specs.Message.{Fits, address_bytes, octets, prefix_bytes, prefixes_bytes, fitting}
use Rattle.bgp_updates.specs.Message.{packed, in_messages, part_message, part_messages, part_size, room_of}

-- what is counted, and what fits of the rest
pub record IsCounted (room left count index : ℕ) (prefixes : List PrefixValue) : Type 0 where
  pub counted : count + fitting left (drop index prefixes) ≡ fitting room prefixes
  pub small : count ≤ index

-- the messages, and those of the rest
pub record IsPacked (part : Part) (start messages : List (List ℕ)) (rest prefixes : List PrefixValue) : Type 0 where
  pub packed : messages ++ part_messages part rest ≡ start ++ part_messages part prefixes
  pub short : All Fits rest

pub fitting-fits : (left : ℕ) (p : PrefixValue) (rest : List PrefixValue) → 1 + octets p ≤ left
    → fitting left (p ∷ rest) ≡ suc (fitting (left - (1 + octets p)) rest)
fitting-fits left p rest fits = rw (le-leb (1 + octets p) left fits) refl

pub fitting-full : (left : ℕ) (p : PrefixValue) (rest : List PrefixValue) → left < 1 + octets p → fitting left (p ∷ rest) ≡ 0
fitting-full left p rest full = rw (lt-leb (1 + octets p) left full) refl

pub by_test : (P : Type 0) (a b : ℕ) → (a ≤ b → P) → (b < a → P) → P
by_test P a b within over = decided (leb a b) refl where
  decided : (v : Bool) → leb a b ≡ v → P
  decided true e = within (leb-true a b e)
  decided false e = over (leb-false a b e)

pub fitting-le : (left : ℕ) (prefixes : List PrefixValue) → fitting left prefixes ≤ length prefixes
fitting-le left [] = omega arith
fitting-le left (p ∷ rest) = by_test (fitting left (p ∷ rest) ≤ length (p ∷ rest)) (1 + octets p) left
    (λ fits. rw (fitting-fits left p rest fits) (omega (arith, fitting-le (left - (1 + octets p)) rest)))
    (λ full. rw (fitting-full left p rest full) (omega arith))

pub length-prefix_bytes : (p : PrefixValue) → length (prefix_bytes p) ≤ 1 + octets p
length-prefix_bytes p = omega (arith, length-take (octets p) (address_bytes p.family p.number))

pub fitting-octets : (left : ℕ) (prefixes : List PrefixValue) → length (prefixes_bytes (take (fitting left prefixes) prefixes)) ≤ left
fitting-octets left [] = omega arith
fitting-octets left (p ∷ rest) = by_test (length (prefixes_bytes (take (fitting left (p ∷ rest)) (p ∷ rest))) ≤ left) (1 + octets p) left
    (λ fits. rw (fitting-fits left p rest fits) (omega (
      arith,
      fitting-octets (left - (1 + octets p)) rest,
      length-prefix_bytes p,
      length-append (prefix_bytes p) (prefixes_bytes (take (fitting (left - (1 + octets p)) rest) rest)),
    )))
    (λ full. rw (fitting-full left p rest full) (omega arith))

pub small_octets : (p : PrefixValue) → p.length ≤ width_of p.family → octets p ≤ 16
small_octets p small = omega (arith, widest p.family)

pub fitting-some : (left : ℕ) (prefixes : List PrefixValue) → 33 ≤ left → 0 < length prefixes → All Fits prefixes → 0 < fitting left prefixes
fitting-some left [] room some small = absurd (omega arith)
fitting-some left (p ∷ rest) room some small =
    let first = small_octets p ((small 0 p (omega arith)).0) in
    rw (fitting-fits left p rest (omega arith)) (omega arith)

-- The message under way takes what fits.
pub packed-fitting : (room left : ℕ) (prefixes : List PrefixValue) → 17 ≤ room → All Fits prefixes
    → packed room left prefixes ≡ take (fitting left prefixes) prefixes ∷ in_messages room (drop (fitting left prefixes) prefixes)
unfolding in_messages
packed-fitting room left [] wide small = refl
packed-fitting room left (p ∷ rest) wide small =
    let first = small_octets p ((small 0 p (omega arith)).0) in
    let others = All-tail Fits p rest small in
    by_test (packed room left (p ∷ rest) ≡ take (fitting left (p ∷ rest)) (p ∷ rest) ∷ in_messages room (drop (fitting left (p ∷ rest)) (p ∷ rest)))
    (1 + octets p) left
    (λ fits. rw (le-leb (1 + octets p) left fits, packed-fitting room (left - (1 + octets p)) rest wide others) refl)
    (λ full. rw (lt-leb (1 + octets p) left full, le-leb (1 + octets p) room (omega arith)) refl)

pub in_messages-next : (room : ℕ) (prefixes : List PrefixValue) → 17 ≤ room → 0 < length prefixes → All Fits prefixes
    → in_messages room prefixes ≡ take (fitting room prefixes) prefixes ∷ in_messages room (drop (fitting room prefixes) prefixes)
unfolding in_messages
in_messages-next room [] wide some small = absurd (omega arith)
in_messages-next room (p ∷ rest) wide some small = packed-fitting room room (p ∷ rest) wide small

pub IsPacked-next : (part : Part) (start messages : List (List ℕ)) (rest prefixes : List PrefixValue) (m : List ℕ) (n : ℕ)
    → IsPacked part start messages rest prefixes
    → part_size part ≤ 4000 → 0 < length rest → n ≡ fitting (room_of part) rest → m ≡ part_message part (take n rest)
    → IsPacked part start (messages ++ m ∷ []) (drop n rest) prefixes
IsPacked-next part start messages rest prefixes m n held room some count message = record {
  packed = rw (message, count, append_assoc) (
      sym (ap (λ more. messages ++ map (part_message part) more) (in_messages-next (room_of part) rest (omega arith) some held.short)) ∙ held.packed
      );
  short = All-drop Fits n rest held.short;
}

pub IsPacked-end : (part : Part) (start messages : List (List ℕ)) (rest prefixes : List PrefixValue) → IsPacked part start messages rest prefixes
    → length rest ≡ 0
    → messages ≡ start ++ part_messages part prefixes
unfolding in_messages
IsPacked-end part start messages [] prefixes held none = sym (append-nil messages) ∙ held.packed
IsPacked-end part start messages (p ∷ rest) prefixes held none = absurd (omega arith)
