-- Slots by the numbers of their groups hold what those by the groups hold.
use Rattle.std.proofs.Common.{◌≡◌, ℕ, ◌<◌, ◌≤◌, ◌==◌, Bool, true, false, not, ◌&&◌, cond, if◌then◌else◌, List, [], ◌++◌, Option, Some, None}
use Rattle.std.proofs.Common.{refl, sym, ap, ◌∙◌, subst, arith, eqb-true, ⊎_elim, ◌⊎◌, inl, inr}
use Rattle.std.proofs.lemmas.Bool.{and_from, and_parts, eq-eqb, false_from_ne_true, not-true, true≢false}
use Rattle.std.proofs.lemmas.Bool.Decides.{nat_tests, same_from_decides}
use Rattle.std.proofs.lemmas.List.{append-nil}
use Rattle.std.proofs.lemmas.Option.{same_Some}
use Rattle.std.proofs.lemmas.Slice.Eq.{bytes_eq-Decides}
use Rattle.std.specs.Map.{values_of}
use Rattle.std.specs.Option.{option_map, option_and_then}
use Rattle.std.specs.Str.{bytes_eq}
use Rattle.ip_ranges.specs.Values.{AddressValue, has_address}
use Rattle.kube_model.specs.declared.port.Port.{Port}
use Rattle.mlb_base.specs.Items.{is_nil}
use Rattle.mlb_base.proofs.Among.{any-contains, any-found}
use Rattle.mlb_base.proofs.Lists.{Decides-nil}
use Rattle.sharing_terms.specs.declared.terms.Terms.{Terms}
use Rattle.sharing_terms.specs.Sharing.{has_port}
use Rattle.address_holders.specs.declared.slot.NumberedSlot.{NumberedSlot}
use Rattle.address_holders.specs.declared.slot.NumberedSlot.TheVariants as numbered_slots
use Rattle.claim_index.specs.Claims.{ClaimValue}
use Rattle.claim_index.specs.GroupNumbers.{GroupsValue, AreNumbered, AreMore, HasNumber, IsNumbered, number_of, number_for}
use Rattle.address_holders.specs.Holders.{AddressHoldersValue, claims_having}
use Rattle.claim_index.specs.ListedClaims.{AreFewer, IsUnused, claims_in, listed_in}
use Rattle.claim_index.specs.Index.{numbers_at, numbered, is_taken}
use Rattle.claim_index.specs.GroupSlots.{is_number, is_slot_by}
use Rattle.claim_index.specs.Removal.{left_at}
use Rattle.claim_index.specs.SharingGroups.{sharing_group_of}
use Rattle.claim_index.specs.Slots.{Slot, Any, OfSharingGroup, OfPort, is_member, occupies}
use Rattle.claim_index.proofs.IndexReading.{nil-at}

-- ---- the numbers of groups
module _ (groups : GroupsValue) (are : AreNumbered groups) where
  number-by : (found : Option ℕ) (group other : List ℕ) (m : ℕ) → number_of groups group ≡ found → number_of groups other ≡ Some m
      → is_number found m ≡ bytes_eq group other
  number-by None group other m e there =
      sym (false_from_ne_true (bytes_eq group other)
      (λ same. let is : group ≡ other = (bytes_eq-Decides group other).0 same in
      let none : None ≡ Some m = sym e ∙ ap (λ (g : List ℕ). number_of groups g) is ∙ there in absurd (cc)))
  number-by (Some n) group other m e there =
      same_from_decides (n == m) (bytes_eq group other) (
        λ same. (bytes_eq-Decides group other).1 (are.apart group other m (e ∙ ap (λ (k : ℕ). Some k) (eqb-true n m same)) there),
        λ same. let is : group ≡ other = (bytes_eq-Decides group other).0 same in
            subst (λ (k : ℕ). (n == k) ≡ true) (same_Some n m (sym e ∙ ap (λ (g : List ℕ). number_of groups g) is ∙ there)) (eq-eqb n n refl),
      )
      (λ e. e, λ e. e)

  member-by : (keyless : Bool) (group other : List ℕ) (m : ℕ) → number_of groups other ≡ Some m
      → is_number (option_and_then (number_of groups) (if keyless then None else Some group)) m ≡ (not keyless && bytes_eq group other)
  member-by true group other m there = refl
  member-by false group other m there = number-by (number_of groups group) group other m refl there

  -- the number is that of the terms where they are of its group
  pub member-number : (t : Terms) (other : List ℕ) (m : ℕ) → number_of groups other ≡ Some m → is_number (number_for groups t) m ≡ is_member other t
  member-number t other m there = member-by (is_nil t.key) (sharing_group_of t) other m there

  -- they are of no group without a number
  pub not-member : (t : Terms) (other : List ℕ) → HasNumber groups t → number_of groups other ≡ None → is_member other t ≡ false
  not-member t other has none = by (is_nil t.key) refl
    where
      by : (keyless : Bool) → is_nil t.key ≡ keyless → (not keyless && bytes_eq (sharing_group_of t) other) ≡ false
      by true e = refl
      by false e =
          false_from_ne_true (bytes_eq (sharing_group_of t) other) (λ same.
          has e (ap (λ (g : List ℕ). number_of groups g) ((bytes_eq-Decides (sharing_group_of t) other).0 same) ∙ none))

  apart-by : (n k next : ℕ) → k < next → next ≤ n → (k == n) ≡ false
  apart-by n k next below from = grind (arith, nat_tests)

  -- and they have no number that no group had
  pub not-number : (t : Terms) (n : ℕ) → groups.next ≤ n → is_number (number_for groups t) n ≡ false
  not-number t n from = by (is_nil t.key)
    where
      found : (o : Option ℕ) → number_of groups (sharing_group_of t) ≡ o → is_number o n ≡ false
      found None e = refl
      found (Some k) e = apart-by n k groups.next (are.below (sharing_group_of t) k e) from

      by : (keyless : Bool) → is_number (option_and_then (number_of groups) (if keyless then None else Some (sharing_group_of t))) n ≡ false
      by true = refl
      by false = found (number_of groups (sharing_group_of t)) refl

-- terms whose group has this number have a sharing key
pub keyed-number : (groups : GroupsValue) (t : Terms) (n : ℕ) → number_for groups t ≡ Some n
    → (is_nil t.key ≡ false) × (number_of groups (sharing_group_of t) ≡ Some n)
keyed-number groups t n e = by (is_nil t.key) refl e
  where
    by : (keyless : Bool) → is_nil t.key ≡ keyless → option_and_then (number_of groups) (if keyless then None else Some (sharing_group_of t)) ≡ Some n
        → (is_nil t.key ≡ false) × (number_of groups (sharing_group_of t) ≡ Some n)
    by true e none = absurd (cc)
    by false e some = (e, some)

-- ---- what is listed under the number of a group
module _ (groups : GroupsValue) (h : AddressHoldersValue) (group : List ℕ) where
  pub group-listed : (n : ℕ) → number_of groups group ≡ Some n → claims_in groups h (OfSharingGroup group) ≡ claims_having h (numbered_slots.OfSharingGroup n)
  group-listed n e = ap (λ (o : Option ℕ). λ (a : AddressValue). listed_in h (option_map (λ m. numbered_slots.OfSharingGroup m) o) a) e

  pub port-listed : (port : Port) (n : ℕ) → number_of groups group ≡ Some n
      → claims_in groups h (OfPort port group) ≡ claims_having h (numbered_slots.OfPort port n)
  port-listed port n e = ap (λ (o : Option ℕ). λ (a : AddressValue). listed_in h (option_map (λ m. numbered_slots.OfPort port m) o) a) e

  pub group-unlisted : number_of groups group ≡ None → claims_in groups h (OfSharingGroup group) ≡ (λ a. [])
  group-unlisted e = ap (λ (o : Option ℕ). λ (a : AddressValue). listed_in h (option_map (λ m. numbered_slots.OfSharingGroup m) o) a) e

  pub port-unlisted : (port : Port) → number_of groups group ≡ None → claims_in groups h (OfPort port group) ≡ (λ a. [])
  port-unlisted port e = ap (λ (o : Option ℕ). λ (a : AddressValue). listed_in h (option_map (λ m. numbered_slots.OfPort port m) o) a) e

-- ---- the claims of the terms' group
module _ (groups : GroupsValue) (h : AddressHoldersValue) (items : List (ℕ × ClaimValue))
    (holders : (slot : Slot) → claims_in groups h slot ≡ (λ a. numbers_at slot a items)) (t : Terms) where
  pub group-are : (n : ℕ) → number_for groups t ≡ Some n
      → claims_having h (numbered_slots.OfSharingGroup n) ≡ (λ a. numbers_at (OfSharingGroup (sharing_group_of t)) a items)
  group-are n e =
      sym (group-listed groups h (sharing_group_of t) n (keyed-number groups t n e).1) ∙ holders (OfSharingGroup (sharing_group_of t))

  pub port-are : (port : Port) (n : ℕ) → number_for groups t ≡ Some n
      → claims_having h (numbered_slots.OfPort port n) ≡ (λ a. numbers_at (OfPort port (sharing_group_of t)) a items)
  port-are port n e =
      sym (port-listed groups h (sharing_group_of t) port n (keyed-number groups t n e).1) ∙ holders (OfPort port (sharing_group_of t))

  number-there : (o : Option ℕ) (n : ℕ) → is_number o n ≡ true → o ≡ Some n
  number-there None n e = absurd (true≢false (sym e))
  number-there (Some m) n e = ap (λ (k : ℕ). Some k) (eqb-true m n e)

  -- what is listed in a slot of the terms is what is listed there by their group
  pub slot-are : (slot : NumberedSlot) → is_slot_by (number_for groups t) t.ports slot ≡ true
      → (s : Slot) × (claims_having h slot ≡ (λ a. numbers_at s a items))
  slot-are numbered_slots.Any e = (Any, holders Any)
  slot-are (numbered_slots.OfSharingGroup n) e = (OfSharingGroup (sharing_group_of t), group-are n (number-there (number_for groups t) n e))
  slot-are (numbered_slots.OfPort port n) e = (
    OfPort port (sharing_group_of t),
    port-are port n (number-there (number_for groups t) n (and_parts (is_number (number_for groups t) n) (has_port t.ports port) e).0),
  )

-- where the group of terms with a sharing key has no number, none of its claims has an address
pub none-numbered : (groups : GroupsValue) (h : AddressHoldersValue) (items : List (ℕ × ClaimValue))
    → ((slot : Slot) → claims_in groups h slot ≡ (λ a. numbers_at slot a items)) → (t : Terms) → is_nil t.key ≡ false → number_for groups t ≡ None
    → ◌≡◌ {A = AddressValue → List ℕ} (λ a. numbers_at (OfSharingGroup (sharing_group_of t)) a items) (λ a. [])
none-numbered groups h items holders t given none =
    sym (holders (OfSharingGroup (sharing_group_of t)))
    ∙ group-unlisted groups h (sharing_group_of t)
    (ap (λ (b : Bool). option_and_then (number_of groups) (if b then None else Some (sharing_group_of t))) (sym given) ∙ none)

-- ---- a claim more
module _ (groups : GroupsValue) (are : AreNumbered groups) (h after : AddressHoldersValue) (c : ClaimValue) where
  abbrev by_number : NumberedSlot → Bool
  by_number slot = is_slot_by (number_for groups c.terms) c.terms.ports slot

  module _ (more : AddressValue → List ℕ)
      (adds : (slot : NumberedSlot) → claims_having after slot ≡ (λ a. claims_having h slot a ++ (if by_number slot then more a else []))) where
    nothing-by : (b : Bool) → b ≡ false → ◌≡◌ {A = AddressValue → List ℕ} (λ a. []) (λ a. [] ++ (if b then more a else []))
    nothing-by true e = absurd (true≢false e)
    nothing-by false e = refl

    grouped-by : (found : Option ℕ) (f : ℕ → NumberedSlot) (member : Bool) → (found ≡ None → member ≡ false)
        → ((n : ℕ) → found ≡ Some n → by_number (f n) ≡ member)
        → ◌≡◌ {A = AddressValue → List ℕ} (λ a. listed_in after (option_map f found) a)
        (λ a. listed_in h (option_map f found) a ++ (if member then more a else []))
    grouped-by None f member none some = nothing-by member (none refl)
    grouped-by (Some n) f member none some =
        adds (f n) ∙ ap (λ (b : Bool). λ (a : AddressValue). claims_having h (f n) a ++ (if b then more a else [])) (some n refl)

    -- it is listed in the slots that it occupies
    pub added-in : HasNumber groups c.terms → (slot : Slot)
        → claims_in groups after slot ≡ (λ a. claims_in groups h slot a ++ (if occupies slot c then more a else []))
    added-in has Any = adds numbered_slots.Any
    added-in has (OfSharingGroup group) =
        grouped-by (number_of groups group) (λ n. numbered_slots.OfSharingGroup n) (is_member group c.terms) (not-member groups are c.terms group has)
        (λ n e. member-number groups are c.terms group n e)
    added-in has (OfPort port group) =
        grouped-by (number_of groups group) (λ n. numbered_slots.OfPort port n) (is_member group c.terms && has_port c.terms.ports port)
        (λ e. ap (λ (b : Bool). b && has_port c.terms.ports port) (not-member groups are c.terms group has e))
        (λ n e. ap (λ (b : Bool). b && has_port c.terms.ports port) (member-number groups are c.terms group n e))

    unused-by : (slot : NumberedSlot) → by_number slot ≡ false → claims_having h slot ≡ (λ a. []) → claims_having after slot ≡ (λ a. [])
    unused-by slot apart none =
        adds slot ∙ ap (λ (b : Bool). λ (a : AddressValue). claims_having h slot a ++ (if b then more a else [])) apart
        ∙ (λ i a. append-nil (claims_having h slot a) i) ∙ none

    -- numbers that no group had stay unused
    pub added-unused : (n : ℕ) → groups.next ≤ n → IsUnused h n → IsUnused after n
    added-unused n from unused =
        let apart = not-number groups are c.terms n from in
        record {
          group = unused-by (numbered_slots.OfSharingGroup n) apart unused.group;
          ports = λ port. unused-by (numbered_slots.OfPort port n) (ap (λ (b : Bool). b && has_port c.terms.ports port) apart) (unused.ports port);
        }

  -- ---- a claim less
  module _ (number : ℕ) (removes : (slot : NumberedSlot)
      → claims_having after slot ≡ cond (by_number slot) (left_at number c.holding.addresses (claims_having h slot)) (claims_having h slot)) where
    nil-by : (b : Bool) → ◌≡◌ {A = List ℕ} [] (cond b [] [])
    nil-by true = refl
    nil-by false = refl

    left-nothing : (b : Bool) → ◌≡◌ {A = AddressValue → List ℕ} (λ a. []) (cond b (left_at number c.holding.addresses (λ a. [])) (λ a. []))
    left-nothing true = λ i a. nil-by (has_address c.holding.addresses a) i
    left-nothing false = refl

    left-by : (found : Option ℕ) (f : ℕ → NumberedSlot) (member : Bool) → ((n : ℕ) → found ≡ Some n → by_number (f n) ≡ member)
        → ◌≡◌ {A = AddressValue → List ℕ} (λ a. listed_in after (option_map f found) a)
        (cond member (left_at number c.holding.addresses (λ a. listed_in h (option_map f found) a)) (λ a. listed_in h (option_map f found) a))
    left-by None f member some = left-nothing member
    left-by (Some n) f member some =
        removes (f n) ∙ ap (λ (b : Bool). cond b (left_at number c.holding.addresses (claims_having h (f n))) (claims_having h (f n))) (some n refl)

    pub left-in : (slot : Slot)
        → claims_in groups after slot ≡ cond (occupies slot c) (left_at number c.holding.addresses (claims_in groups h slot)) (claims_in groups h slot)
    left-in Any = removes numbered_slots.Any
    left-in (OfSharingGroup group) =
        left-by (number_of groups group) (λ n. numbered_slots.OfSharingGroup n) (is_member group c.terms) (λ n e. member-number groups are c.terms group n e)
    left-in (OfPort port group) =
        left-by (number_of groups group) (λ n. numbered_slots.OfPort port n) (is_member group c.terms && has_port c.terms.ports port)
        (λ n e. ap (λ (b : Bool). b && has_port c.terms.ports port) (member-number groups are c.terms group n e))

    still-by : (slot : NumberedSlot) → by_number slot ≡ false → claims_having h slot ≡ (λ a. []) → claims_having after slot ≡ (λ a. [])
    still-by slot apart none =
        removes slot ∙ ap (λ (b : Bool). cond b (left_at number c.holding.addresses (claims_having h slot)) (claims_having h slot)) apart ∙ none

    pub left-unused : (n : ℕ) → groups.next ≤ n → IsUnused h n → IsUnused after n
    left-unused n from unused =
        let apart = not-number groups are c.terms n from in
        record {
          group = still-by (numbered_slots.OfSharingGroup n) apart unused.group;
          ports = λ port. still-by (numbered_slots.OfPort port n) (ap (λ (b : Bool). b && has_port c.terms.ports port) apart) (unused.ports port);
        }

-- ---- groups more
module _ (before after : GroupsValue) (h kept : AddressHoldersValue) (same : (slot : NumberedSlot) → claims_having kept slot ≡ claims_having h slot)
    (more : AreMore before after) (unused : (n : ℕ) → before.next ≤ n → IsUnused h n) where
  more-by : (group : List ℕ) (f : ℕ → NumberedSlot) → ((n : ℕ) → before.next ≤ n → claims_having h (f n) ≡ (λ a. [])) → IsNumbered before after group
      → ◌≡◌ {A = AddressValue → List ℕ} (λ a. listed_in kept (option_map f (number_of after group)) a)
      (λ a. listed_in h (option_map f (number_of before group)) a)
  more-by group f none numbered =
      kept-by (option_map f (number_of after group))
      ∙ ⊎_elim
      (λ (stays : number_of after group ≡ number_of before group). ap (λ (o : Option ℕ). λ (a : AddressValue). listed_in h (option_map f o) a) stays)
      (λ (new : (number_of before group ≡ None) × ((n : ℕ) × (number_of after group ≡ Some n) × (before.next ≤ n))).
      ap (λ (o : Option ℕ). λ (a : AddressValue). listed_in h (option_map f o) a) new.1.1
      ∙ none new.1.0 new.1.2
      ∙ sym (ap (λ (o : Option ℕ). λ (a : AddressValue). listed_in h (option_map f o) a) new.0))
      numbered
    where
      kept-by : (o : Option NumberedSlot) → ◌≡◌ {A = AddressValue → List ℕ} (λ a. listed_in kept o a) (λ a. listed_in h o a)
      kept-by None = refl
      kept-by (Some slot) = same slot

  -- what is listed in each slot stays
  pub more-in : (slot : Slot) → claims_in after kept slot ≡ claims_in before h slot
  more-in Any = same numbered_slots.Any
  more-in (OfSharingGroup group) = more-by group (λ n. numbered_slots.OfSharingGroup n) (λ n from. (unused n from).group) (more.each group)
  more-in (OfPort port group) = more-by group (λ n. numbered_slots.OfPort port n) (λ n from. (unused n from).ports port) (more.each group)

  pub more-unused : (n : ℕ) → after.next ≤ n → IsUnused kept n
  more-unused n from =
      let was = unused n (omega (arith, more.next, from)) in
      record {
        group = same (numbered_slots.OfSharingGroup n) ∙ was.group;
        ports = λ port. same (numbered_slots.OfPort port n) ∙ was.ports port;
      }

-- ---- groups fewer
-- an address with a claim in the slot of a port has one in that of the group
pub barred-shared : (claims : List ClaimValue) (group : List ℕ) (port : Port) (a : AddressValue) → is_taken (OfPort port group) claims a ≡ true
    → is_taken (OfSharingGroup group) claims a ≡ true
barred-shared claims group port a taken =
    let found = any-found (λ (c : ClaimValue). occupies (OfPort port group) c && has_address c.holding.addresses a) claims taken in
    let c = found.0 in
    let both = and_parts (occupies (OfPort port group) c) (has_address c.holding.addresses a) found.2 in
    let member = and_parts (is_member group c.terms) (has_port c.terms.ports port) both.0 in
    any-contains (λ (d : ClaimValue). occupies (OfSharingGroup group) d && has_address d.holding.addresses a) claims c found.1
    (and_from (is_member group c.terms) (has_address c.holding.addresses a) member.0 both.1)

-- where no claim of the group has the address, none with a port has
port-nil : (items : List (ℕ × ClaimValue)) (group : List ℕ) (port : Port) (a : AddressValue) → numbers_at (OfSharingGroup group) a items ≡ []
    → numbers_at (OfPort port group) a items ≡ []
port-nil items group port a none =
    let unshared : is_taken (OfSharingGroup group) (values_of items) a ≡ false =
    not-true (is_taken (OfSharingGroup group) (values_of items) a) (sym (nil-at a (OfSharingGroup group) items) ∙ ap (λ (ns : List ℕ). is_nil ns) none) in
    let apart : is_taken (OfPort port group) (values_of items) a ≡ false =
    false_from_ne_true (is_taken (OfPort port group) (values_of items) a)
    (λ taken. true≢false (sym (barred-shared (values_of items) group port a taken) ∙ unshared)) in
    (Decides-nil (numbers_at (OfPort port group) a items)).0 (nil-at a (OfPort port group) items ∙ ap not apart)

module _ (before after : GroupsValue) (h : AddressHoldersValue) (items : List (ℕ × ClaimValue)) (fewer : AreFewer h before after)
    (holders : (slot : Slot) → claims_in before h slot ≡ (λ a. numbers_at slot a items)) where
  -- what is listed in each slot stays
  pub fewer-in : (slot : Slot) → claims_in after h slot ≡ (λ a. numbers_at slot a items)
  fewer-in Any = holders Any
  fewer-in (OfSharingGroup group) =
      ⊎_elim
      (λ (stays : number_of after group ≡ number_of before group).
      ap (λ (o : Option ℕ). λ (a : AddressValue). listed_in h (option_map (λ n. numbered_slots.OfSharingGroup n) o) a) stays ∙ holders (OfSharingGroup group))
      (λ (gone : (number_of after group ≡ None) × (claims_in before h (OfSharingGroup group) ≡ (λ a. []))).
      group-unlisted after h group gone.0 ∙ sym gone.1 ∙ holders (OfSharingGroup group))
      (fewer group)
  fewer-in (OfPort port group) =
      ⊎_elim
      (λ (stays : number_of after group ≡ number_of before group).
      ap (λ (o : Option ℕ). λ (a : AddressValue). listed_in h (option_map (λ n. numbered_slots.OfPort port n) o) a) stays ∙ holders (OfPort port group))
      (λ (gone : (number_of after group ≡ None) × (claims_in before h (OfSharingGroup group) ≡ (λ a. []))).
      let none : ◌≡◌ {A = AddressValue → List ℕ} (λ a. numbers_at (OfSharingGroup group) a items) (λ a. []) = sym (holders (OfSharingGroup group)) ∙ gone.1 in
      port-unlisted after h group port gone.0
      ∙ (λ i a. sym (port-nil items group port a (ap (λ (f : AddressValue → List ℕ). f a) none)) i))
      (fewer group)

-- the group whose number nothing is listed under was forgotten
pub fewer-one : (before after : GroupsValue) (h : AddressHoldersValue) (group : List ℕ) (n : ℕ) → number_of before group ≡ Some n
    → claims_having h (numbered_slots.OfSharingGroup n) ≡ (λ a. [])
    → ((g : List ℕ) → number_of after g ≡ cond (bytes_eq group g) None (number_of before g)) → AreFewer h before after
fewer-one before after h group n there none forgets g = by (bytes_eq group g) refl (forgets g)
  where
    by : (b : Bool) → bytes_eq group g ≡ b → number_of after g ≡ cond b None (number_of before g)
        → (number_of after g ≡ number_of before g) ⊎ ((number_of after g ≡ None) × (claims_in before h (OfSharingGroup g) ≡ (λ a. [])))
    by true e gone =
        let is : group ≡ g = (bytes_eq-Decides group g).0 e in
        inr (gone, group-listed before h g n (ap (λ (x : List ℕ). number_of before x) (sym is) ∙ there) ∙ none)
    by false e stays = inl stays
