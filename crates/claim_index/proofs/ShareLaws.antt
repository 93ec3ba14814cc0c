-- Addresses that claims of a group have, and none of these with a port of the terms.
use Rattle.std.proofs.Common.{◌≡◌, ℕ, ◌+◌, ◌<◌, ◌≤◌, Bool, true, false, not, ◌&&◌, ◌||◌, ◌==◌, List, [], ◌∷◌, length, Some, None}
use Rattle.std.proofs.Common.{take, drop, get_or, refl, sym, ap, ◌∙◌, subst, arith, add-one, ⊎_elim}
use Rattle.std.proofs.lemmas.Bool.{cases_lt, not-true, true≢false}
use Rattle.std.proofs.lemmas.Bool.Decides.{nat_tests}
use Rattle.std.proofs.lemmas.List.{take-append-drop}
use Rattle.std.proofs.lemmas.List.Elements.{Contains-append_left}
use Rattle.std.proofs.lemmas.List.Folds.{list_any-append}
use Rattle.std.proofs.Math.Seq.{take-suc}
use Rattle.std.specs.List.{Contains, list_any}
use Rattle.std.specs.Map.{values_of}
use Rattle.ip_ranges.specs.declared.family.Family.{Family}
use Rattle.ip_ranges.specs.Values.{AddressValue}
use Rattle.kube_model.specs.declared.port.Port.{Port}
use Rattle.mlb_base.specs.Items.{is_nil}
use Rattle.mlb_base.proofs.Among.{any-contains, any-found}
use Rattle.sharing_terms.specs.declared.terms.Terms.{Terms}
use Rattle.address_holders.specs.declared.slot.NumberedSlot.{NumberedSlot}
use Rattle.claim_index.specs.Slots.{OfSharingGroup, OfPort}
use Rattle.claim_index.specs.Claims.{ClaimValue}
use Rattle.claim_index.specs.SharingGroups.{sharing_group_of, HasGroup, HasSharingGroup}
use Rattle.address_holders.specs.Holders.{AddressHoldersValue, claims_having, address_of, is_held_but, is_held_in}
use Rattle.claim_index.specs.Index.{numbers_at, is_taken, is_shared, is_barred, NoneShareable}
use Rattle.claim_index.proofs.GrowthLaws.{or-none}
use Rattle.claim_index.proofs.IndexReading.{held-is, nil-at}
use Rattle.claim_index.proofs.NumberLaws.{barred-shared}

-- the claims in the slot of a port are among those in the slot of the group, by what is listed
pub port-held : (items : List (ℕ × ClaimValue)) (h : AddressHoldersValue) (slot first : NumberedSlot) (group : List ℕ) (port : Port)
    → claims_having h slot ≡ (λ a. numbers_at (OfPort port group) a items) → claims_having h first ≡ (λ a. numbers_at (OfSharingGroup group) a items)
    → (a : AddressValue) → is_held_in h slot a ≡ true → is_held_in h first a ≡ true
port-held items h slot first group port slot_are first_are a held =
    held-is items h first (OfSharingGroup group) first_are a
    ∙ barred-shared (values_of items) group port a (sym (held-is items h slot (OfPort port group) slot_are a) ∙ held)

module _ (claims : List ClaimValue) (t : Terms) (family : Family) where
  abbrev group : List ℕ
  group = sharing_group_of t

  -- a claim of the group has the address, and none with one of the ports does
  abbrev pub is_open_to : List Port → ℕ → Bool
  is_open_to ports n = is_shared group claims (address_of family n) && not (is_barred group ports claims (address_of family n))

  abbrev pub NoneOpen : List Port → ℕ → ℕ → Type 0
  NoneOpen ports low high = (n : ℕ) → low ≤ n → n < high → is_open_to ports n ≡ false

  more-by : (shared before here : Bool) → (shared && not before) ≡ false → (shared && not (before || here)) ≡ false
  more-by false before here none = refl
  more-by true true here none = refl
  more-by true false here none = absurd (cc)

  here-by : (shared before here : Bool) → (shared && not here) ≡ false → (shared && not (before || here)) ≡ false
  here-by false before here none = refl
  here-by true true here none = refl
  here-by true false here none = none

  -- none in the slot of the group, none open
  pub open-first : (low high : ℕ) → ((m : ℕ) → low ≤ m → m < high → is_shared group claims (address_of family m) ≡ false) → NoneOpen [] low high
  open-first low high none m first below = ap (λ b. b && true) (none m first below)

  -- one port more
  open-next : (ports : List Port) (i : ℕ) (x : Port) (low from next : ℕ) → i < length ports → x ≡ get_or ports i x → NoneOpen (take i ports) low from
      → ((m : ℕ) → from ≤ m → m < next
      → (is_shared group claims (address_of family m) && not (is_taken (OfPort x group) claims (address_of family m))) ≡ false)
      → NoneOpen (take (i + 1) ports) low next
  open-next ports i x low from next within is before here n first below =
      let shared = is_shared group claims (address_of family n) in
      let earlier = is_barred group (take i ports) claims (address_of family n) in
      let now = is_taken (OfPort x group) claims (address_of family n) in
      let test : Port → Bool = λ port. is_taken (OfPort port group) claims (address_of family n) in
      let grown : list_any test (take (i + 1) ports) ≡ (earlier || now) =
      ap (λ (xs : List Port). list_any test xs) (ap (λ k. take k ports) (add-one i) ∙ take-suc ports i x within)
      ∙ list_any-append test (take i ports) (get_or ports i x ∷ [])
      ∙ ap (λ b. earlier || b) (or-none (test (get_or ports i x)) ∙ ap test (sym is)) in
      ap (λ b. shared && not b) grown
      ∙ ⊎_elim
      (λ (old : n < from). more-by shared earlier now (before n first old))
      (λ upto. here-by shared earlier now (here n upto below))
      (cases_lt n from)

  any-more : (test : Port → Bool) (xs : List Port) (i : ℕ) → list_any test (take i xs) ≡ true → list_any test xs ≡ true
  any-more test xs i some =
      let found = any-found test (take i xs) some in
      any-contains test xs found.0
      (subst (λ (ys : List Port). Contains ys found.0) (take-append-drop i xs) (Contains-append_left (take i xs) (drop i xs) found.0 found.1)) found.2

  fewer-by : (shared some all : Bool) → (some ≡ true → all ≡ true) → (shared && not some) ≡ false → (shared && not all) ≡ false
  fewer-by false some all each none = refl
  fewer-by true true all each none = ap not (each refl)
  fewer-by true false all each none = absurd (true≢false none)

  -- and where none is open to some of the ports, none is shareable by all of them
  pub open-some : (ports : List Port) (i low high : ℕ) → ports ≡ t.ports → NoneOpen (take i ports) low high → NoneShareable family t claims low high
  open-some ports i low high are none n first below =
      let test : Port → Bool = λ port. is_taken (OfPort port group) claims (address_of family n) in
      ap (λ (ps : List Port). is_shared group claims (address_of family n) && not (list_any test ps)) (sym are)
      ∙ fewer-by (is_shared group claims (address_of family n)) (list_any test (take i ports)) (list_any test ports) (any-more test ports i)
      (none n first below)

-- ---- the same by what is listed
module _ (items : List (ℕ × ClaimValue)) (h : AddressHoldersValue) (slot : NumberedSlot) (group : List ℕ)
    (are : claims_having h slot ≡ (λ a. numbers_at (OfSharingGroup group) a items)) (family : Family) where
  pub none-taken : (low high : ℕ) → ((m : ℕ) → low ≤ m → m < high → is_held_in h slot (address_of family m) ≡ false) → (m : ℕ) → low ≤ m → m < high
      → is_shared group (values_of items) (address_of family m) ≡ false
  none-taken low high none m first below = sym (held-is items h slot (OfSharingGroup group) are (address_of family m)) ∙ none m first below

  none-but : (fewer : NumberedSlot) (port : Port) (low high : ℕ) → claims_having h fewer ≡ (λ a. numbers_at (OfPort port group) a items)
      → ((m : ℕ) → low ≤ m → m < high → is_held_but h slot fewer family m ≡ false) → (m : ℕ) → low ≤ m → m < high
      → (is_shared group (values_of items) (address_of family m) && not (is_taken (OfPort port group) (values_of items) (address_of family m))) ≡ false
  none-but fewer port low high fewer_are none m first below =
      (λ i. sym (held-is items h slot (OfSharingGroup group) are (address_of family m)) i
      && not (sym (held-is items h fewer (OfPort port group) fewer_are (address_of family m)) i))
      ∙ none m first below

-- none is open to one port more, as far as none is listed in the slot of the group and not in that of the port
pub open-beyond : (items : List (ℕ × ClaimValue)) (h : AddressHoldersValue) (slot fewer : NumberedSlot) (t : Terms) (family : Family)
    (ports : List Port) (i : ℕ) (x : Port) (low from next : ℕ)
    → claims_having h slot ≡ (λ a. numbers_at (OfSharingGroup (sharing_group_of t)) a items)
    → claims_having h fewer ≡ (λ a. numbers_at (OfPort x (sharing_group_of t)) a items)
    → i < length ports → x ≡ get_or ports i x → NoneOpen (values_of items) t family (take i ports) low from
    → ((m : ℕ) → from ≤ m → m < next → is_held_but h slot fewer family m ≡ false)
    → NoneOpen (values_of items) t family (take (i + 1) ports) low next
open-beyond items h slot fewer t family ports i x low from next slot_are fewer_are within is before none =
    open-next (values_of items) t family ports i x low from next within is before
    (none-but items h slot (sharing_group_of t) slot_are family fewer x from next fewer_are none)

-- where nothing is listed for the group no claim of it has an address
pub none-listed : (items : List (ℕ × ClaimValue)) (group : List ℕ) → ◌≡◌ {A = AddressValue → List ℕ} (λ a. numbers_at (OfSharingGroup group) a items) (λ a. [])
    → (a : AddressValue) → is_shared group (values_of items) a ≡ false
none-listed items group none a =
    not-true (is_shared group (values_of items) a)
    (sym (nil-at a (OfSharingGroup group) items) ∙ ap (λ (f : AddressValue → List ℕ). is_nil (f a)) none)

-- ---- the group of terms
empty-is : (xs : List ℕ) → (length xs == 0) ≡ is_nil xs
empty-is [] = refl
empty-is (x ∷ xs) = grind (arith, nat_tests)

pub nil-from_empty : (t : Terms) (b : Bool) → b ≡ (length t.key == 0) → is_nil t.key ≡ b
nil-from_empty t b e = sym (e ∙ empty-is t.key)

-- terms without a sharing key have no group
pub none-made : (t : Terms) → is_nil t.key ≡ true → HasGroup t None
none-made t nil = record { group_is = rw nil refl; grouped = λ given. absurd (true≢false (sym nil ∙ given)) }

-- the others have this one
pub one-made : (t : Terms) (group : List ℕ) → is_nil t.key ≡ false → group ≡ sharing_group_of t → HasSharingGroup t → HasGroup t (Some group)
one-made t group given is grouped = record { group_is = rw given (ap (λ (g : List ℕ). Some g) is); grouped = grouped }
