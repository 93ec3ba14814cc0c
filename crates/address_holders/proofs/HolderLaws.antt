-- Who has the addresses of one family, and of both, after each change.
use Rattle.std.proofs.Common.{◌≡◌, ℕ, Bool, true, false, not, cond, ◌&&◌, ◌==◌, List, [], refl, sym, ap, subst}
use Rattle.ip_ranges.specs.declared.family.Family.{Family}
use Rattle.ip_ranges.specs.declared.family.Family.TheVariants.{V4, V6}
use Rattle.ip_ranges.specs.Values.{AddressValue, same_family, is_buggy}
use Rattle.mlb_base.specs.Items.{is_nil}
use Rattle.address_holders.specs.declared.slot.NumberedSlot.{NumberedSlot}
use Rattle.address_holders.specs.Holders.{HoldersValue, AddressHoldersValue, claims_at, in_slot_at, in_slot, claims_having, address_of, is_open_at, is_open_in}

-- ---- both families

abbrev pub both : HoldersValue → HoldersValue → AddressHoldersValue
both four six = record { v4 = four; v6 = six }

-- what is one for each family and number is one for each address
by-family : {X : Type 0} (f g : Family → ℕ → X) → f V4 ≡ g V4 → f V6 ≡ g V6 → (a : AddressValue) → f a.family a.number ≡ g a.family a.number
by-family {X} f g four six a = each a.family a.number
  where
    each : (family : Family) (n : ℕ) → f family n ≡ g family n
    each V4 n = ap (λ h. h n) four
    each V6 n = ap (λ h. h n) six

-- what is one for both families is one
by-both : {X : Type 0} (f g : Family → X) → f V4 ≡ g V4 → f V6 ≡ g V6 → f ≡ g
by-both {X} f g four six = λ i family. each family i
  where
    each : (family : Family) → f family ≡ g family
    each V4 = four
    each V6 = six

module _ (four six : HoldersValue) where
  pub none-having : (slot : NumberedSlot) → claims_at (in_slot_at four slot) ≡ (λ n. []) → claims_at (in_slot_at six slot) ≡ (λ n. [])
      → claims_having (both four six) slot ≡ (λ a. [])
  none-having slot in_four in_six = λ i a. by-family (λ family. claims_at (in_slot (both four six) slot family)) (λ family n. []) in_four in_six a i

  -- and where no claim has an address, none has one of a family
  pub none-of : (family : Family) (slot : NumberedSlot) → claims_having (both four six) slot ≡ (λ a. [])
      → claims_at (in_slot (both four six) slot family) ≡ (λ n. [])
  none-of family slot none = λ i n. none i (address_of family n)

  module _ (new_four new_six : HoldersValue) where
    pub same-having : (slot : NumberedSlot) → claims_at (in_slot_at new_four slot) ≡ claims_at (in_slot_at four slot)
        → claims_at (in_slot_at new_six slot) ≡ claims_at (in_slot_at six slot)
        → claims_having (both new_four new_six) slot ≡ claims_having (both four six) slot
    same-having slot in_four in_six =
        λ i a. by-family (λ family. claims_at (in_slot (both new_four new_six) slot family)) (λ family. claims_at (in_slot (both four six) slot family)) in_four
        in_six a i

    pub same-slot : (slot : NumberedSlot) → in_slot_at new_four slot ≡ in_slot_at four slot → in_slot_at new_six slot ≡ in_slot_at six slot
        → in_slot (both new_four new_six) slot ≡ in_slot (both four six) slot
    same-slot slot in_four in_six = by-both (in_slot (both new_four new_six) slot) (in_slot (both four six) slot) in_four in_six

-- the list of one address was changed in a slot
abbrev changed_at : (List ℕ → List ℕ) → NumberedSlot → Family → ℕ → AddressHoldersValue → Family → ℕ → List ℕ
changed_at change slot family number h f n =
    cond (same_family family f && (number == n)) (change (claims_at (in_slot h slot f) n)) (claims_at (in_slot h slot f) n)

pub changed-v4 : (change : List ℕ → List ℕ) (slot : NumberedSlot) (four six new : HoldersValue) (family : Family) (number : ℕ) → family ≡ V4
    → claims_at (in_slot_at new slot) ≡ (λ n. cond (number == n) (change (claims_at (in_slot_at four slot) n)) (claims_at (in_slot_at four slot) n))
    → claims_having (both new six) slot ≡ (λ a. changed_at change slot family number (both four six) a.family a.number)
changed-v4 change slot four six new family number is listed =
    subst (λ (f : Family). claims_having (both new six) slot ≡ (λ a. changed_at change slot f number (both four six) a.family a.number)) (sym is)
    (λ i a. by-family (λ f. claims_at (in_slot (both new six) slot f)) (changed_at change slot V4 number (both four six)) listed refl a i)

pub changed-v6 : (change : List ℕ → List ℕ) (slot : NumberedSlot) (four six new : HoldersValue) (family : Family) (number : ℕ) → family ≡ V6
    → claims_at (in_slot_at new slot) ≡ (λ n. cond (number == n) (change (claims_at (in_slot_at six slot) n)) (claims_at (in_slot_at six slot) n))
    → claims_having (both four new) slot ≡ (λ a. changed_at change slot family number (both four six) a.family a.number)
changed-v6 change slot four six new family number is listed =
    subst (λ (f : Family). claims_having (both four new) slot ≡ (λ a. changed_at change slot f number (both four six) a.family a.number)) (sym is)
    (λ i a. by-family (λ f. claims_at (in_slot (both four new) slot f)) (changed_at change slot V6 number (both four six)) refl listed a i)

-- ---- addresses of a family that no claim in the slot has, and that aren't avoided
module _ (avoiding : Bool) (h : AddressHoldersValue) (slot : NumberedSlot) where
  pub unclaimed-v4 : (family : Family) → family ≡ V4
      → ◌≡◌ {A = ℕ → Bool} (is_open_at avoiding (in_slot_at h.v4 slot)) (λ m. is_open_in avoiding h slot (address_of family m))
  unclaimed-v4 family is =
      subst (λ f. ◌≡◌ {A = ℕ → Bool} (is_open_at avoiding (in_slot_at h.v4 slot)) (λ m. is_open_in avoiding h slot (address_of f m))) (sym is) refl

  kept-v6 : (b : Bool) (m : ℕ) → (b && is_buggy (address_of V6 m)) ≡ false
  kept-v6 true m = refl
  kept-v6 false m = refl

  pub unclaimed-v6 : (family : Family) → family ≡ V6
      → ◌≡◌ {A = ℕ → Bool} (is_open_at false (in_slot_at h.v6 slot)) (λ m. is_open_in avoiding h slot (address_of family m))
  unclaimed-v6 family is =
      subst (λ f. ◌≡◌ {A = ℕ → Bool} (is_open_at false (in_slot_at h.v6 slot)) (λ m. is_open_in avoiding h slot (address_of f m))) (sym is)
      (λ i m. not (sym (kept-v6 avoiding m) i) && is_nil (claims_at (in_slot_at h.v6 slot) m))
