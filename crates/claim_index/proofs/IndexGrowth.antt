-- An index of claims that gets room, or one claim more.
use Rattle.std.proofs.Common.{◌≡◌, ℕ, ◌+◌, ◌-◌, ◌<◌, ◌≤◌, Bool, true, false, cond, if◌then◌else◌, ◌==◌, ◌||◌, List, [], ◌∷◌, ◌++◌, length, filter, take}
use Rattle.std.proofs.Common.{drop, get_or, suc, Option, Some, None, refl, sym, ap, subst, ◌∙◌, arith, append_assoc, add-one, ⊎_elim, inl, eqb-true, take_all}
use Rattle.std.proofs.lemmas.Bool.{eq-eqb, true≢false}
use Rattle.std.proofs.lemmas.Bool.Decides.{nat_tests, same_from_decides}
use Rattle.std.proofs.lemmas.List.{map-append, append-nil, length-append}
use Rattle.std.proofs.lemmas.List.Elements.{filter-append, Contains-append_cases, Contains-push_cases, Contains-get_or, All-head, All-tail}
use Rattle.std.proofs.lemmas.List.Folds.{list_any-append}
use Rattle.std.proofs.Math.Seq.{take-suc, drop-cons}
use Rattle.std.proofs.lemmas.Option.{slice_get_within, get_or_from_slice_get}
use Rattle.std.specs.BTreeMap.{is_at}
use Rattle.std.specs.List.{All, Contains, slice_get}
use Rattle.std.specs.Option.{option_map_or}
use Rattle.std.specs.Map.{lookup, keys_of, values_of}
use Rattle.ip_ranges.specs.declared.family.Family.{Family}
use Rattle.ip_ranges.specs.Values.{AddressValue, same_address, has_address}
use Rattle.ip_ranges.proofs.AddressLaws.{same_address-is, same_address-itself}
use Rattle.kube_model.specs.declared.key.Key.{Key}
use Rattle.kube_model.specs.Keys.{key_cmp, same_key}
use Rattle.kube_model.specs.Records.{is_assigned}
use Rattle.kube_model.proofs.KeyLaws.{is_eq-key_cmp}
use Rattle.mlb_base.proofs.Among.{contains-none, contains-cons, contains-first, contains-later}
use Rattle.numbered_items.specs.Index.{IndexValue, numbers_under, room_under}
use Rattle.claim_index.specs.Claims.{AreAssigned, ClaimValue}
use Rattle.claim_index.specs.Room.{HasRoomFor}
use Rattle.address_holders.specs.declared.slot.NumberedSlot.{NumberedSlot}
use Rattle.address_holders.specs.declared.slot.NumberedSlot.TheVariants.{OfSharingGroup, OfPort}
use Rattle.claim_index.specs.GroupNumbers.{GroupsValue, AreNumbered, AreMore, HasNumber, number_for}
use Rattle.claim_index.specs.GroupSlots.{is_slot_by, numbered_slot}
use Rattle.claim_index.specs.Slots.{Slot, occupies}
use Rattle.claim_index.specs.SharingGroups.{HasSharingGroup}
use Rattle.address_holders.specs.Holders.{AddressHoldersValue, ClaimantsValue, in_slot, claim_room_at, claims_having}
use Rattle.claim_index.specs.ListedClaims.{HasRoomAt, IsUnused, claims_in, listed_in}
use Rattle.address_holders.specs.Holders.{claim_room, address_room}
use Rattle.claim_index.proofs.NumberLaws.{added-in, added-unused, more-in, more-unused}
use Rattle.claim_index.specs.Index.{IsIndexed, HaveSharingGroups, numbers_of, numbers_at, numbered, numbered_at, ends_with}

same_address-flip : (a b : AddressValue) → same_address a b ≡ same_address b a
same_address-flip a b =
    same_from_decides (same_address a b) (same_address b a) (same_address-is a b, λ e. subst (λ c. same_address a c ≡ true) e (same_address-itself a))
    (λ e. sym (same_address-is b a e), λ e. subst (λ c. same_address c a ≡ true) e (same_address-itself a))

-- ---- the number at the end of a list
ends-by : (n : ℕ) (numbers : List ℕ) (last : Option ℕ) → last ≡ slice_get numbers (length numbers - 1) → option_map_or (λ m. m == n) last false ≡ true
    → Contains numbers n
ends-by n numbers None e ends = absurd (true≢false (sym ends))
ends-by n numbers (Some m) e ends =
    let same : m ≡ n = eqb-true m n ends in
    subst (Contains numbers) (get_or_from_slice_get numbers (length numbers - 1) m 0 (sym e) ∙ same)
    (Contains-get_or numbers (length numbers - 1) 0 (slice_get_within numbers (length numbers - 1) m (sym e)))

pub ends-there : (n : ℕ) (numbers : List ℕ) → ends_with n numbers ≡ true → Contains numbers n
ends-there n numbers ends = ends-by n numbers (slice_get numbers (length numbers - 1)) refl ends

last-put : (n : ℕ) (before : List ℕ) → slice_get (before ++ n ∷ []) (length before) ≡ Some n
last-put n [] = refl
last-put n (m ∷ before) = last-put n before

pub ends-put : (n : ℕ) (before : List ℕ) → ends_with n (before ++ n ∷ []) ≡ true
ends-put n before =
    let at : length (before ++ n ∷ []) - 1 ≡ length before = omega (arith, length-append before (n ∷ [])) in
    ap (λ k. option_map_or (λ m. m == n) (slice_get (before ++ n ∷ []) k) false) at
    ∙ ap (λ o. option_map_or (λ m. m == n) o false) (last-put n before)
    ∙ eq-eqb n n refl

-- ---- room at addresses
pub room-none : (h : AddressHoldersValue) (more : ℕ) (slot : NumberedSlot) → HasRoomAt h more slot []
room-none h more slot = record { by_claims = λ a none. absurd (contains-none a none); by_family = λ a none. absurd (contains-none a none) }

pub taken-more : (addresses : List AddressValue) (i : ℕ) (x : AddressValue) → i < length addresses → x ≡ get_or addresses i x
    → take (i + 1) addresses ≡ take i addresses ++ x ∷ []
taken-more addresses i x within is = ap (λ n. take n addresses) (add-one i) ∙ take-suc addresses i x within ∙ ap (λ y. take i addresses ++ y ∷ []) (sym is)

pub rest-of : (addresses : List AddressValue) (i : ℕ) (x : AddressValue) → i < length addresses → x ≡ get_or addresses i x
    → drop i addresses ≡ x ∷ drop (i + 1) addresses
rest-of addresses i x within is =
    drop-cons addresses i x within ∙ ap (λ y. y ∷ drop (suc i) addresses) (sym is) ∙ ap (λ n. x ∷ drop n addresses) (sym (add-one i))

-- one address more has room, and those before keep theirs
pub room-more : (before after : AddressHoldersValue) (more : ℕ) (slot : NumberedSlot) (addresses : List AddressValue) (i : ℕ) (x : AddressValue)
    → i < length addresses → x ≡ get_or addresses i x → HasRoomAt before more slot (take i addresses)
    → ((a : AddressValue) → claim_room before slot a ≤ claim_room after slot a)
    → ((family : Family) → address_room before slot family ≤ address_room after slot family)
    → 0 < claim_room after slot x → more ≤ address_room after slot x.family → HasRoomAt after more slot (take (i + 1) addresses)
room-more before after more slot addresses i x within is room claims families claim family =
    subst (HasRoomAt after more slot) (sym (taken-more addresses i x within is)) (record {
      by_claims = λ a there. ⊎_elim
          (λ old. omega (arith, room.by_claims a old, claims a))
          (λ same. subst (λ y. 0 < claim_room after slot y) same claim)
          (Contains-push_cases (take i addresses) x a there);
      by_family = λ a there. ⊎_elim
          (λ old. omega (arith, room.by_family a old, families a.family))
          (λ same. subst (λ (y : AddressValue). more ≤ address_room after slot y.family) same family)
          (Contains-push_cases (take i addresses) x a there);
    })

-- the same room
pub room-same : (before after : AddressHoldersValue) (more : ℕ) (slot : NumberedSlot) (addresses : List AddressValue) → in_slot after slot ≡ in_slot before slot
    → HasRoomAt before more slot addresses → HasRoomAt after more slot addresses
room-same before after more slot addresses same room = record {
  by_claims = λ a there. subst (λ (f : Family → ClaimantsValue). 0 < claim_room_at (f a.family) a.number) (sym same) (room.by_claims a there);
  by_family = λ a there. subst (λ (f : Family → ClaimantsValue). more ≤ (f a.family).room) (sym same) (room.by_family a there);
}

-- there is room for the claim
pub room-claim : (room : ℕ) (keys : IndexValue Key) (groups : GroupsValue) (h : AddressHoldersValue) (c : ClaimValue) (key : Key) (group : Option ℕ)
    → 0 < room → 1 ≤ room_under key_cmp keys key → key ≡ c.key → HasNumber groups c.terms → group ≡ number_for groups c.terms
    → ((slot : NumberedSlot) → is_slot_by group c.terms.ports slot ≡ true → HasRoomAt h (length c.holding.addresses) slot c.holding.addresses)
    → HasRoomFor (record { claims = room; keys = keys; groups = groups; holders = h }) c
room-claim room keys groups h c key group claim under same has is at = record {
  claim = claim;
  key = subst (λ (k : Key). 0 < room_under key_cmp keys k) same (omega (arith, under));
  group = has;
  addresses = subst (λ (g : Option ℕ). (slot : NumberedSlot) → is_slot_by g c.terms.ports slot ≡ true
      → HasRoomAt h (length c.holding.addresses) slot c.holding.addresses) is at;
}

-- There is room at the addresses from the index on: for a claim at each of them that doesn't stand ahead of the index, and for so many addresses.
pub record HasRoomFrom (h : AddressHoldersValue) (slot : NumberedSlot) (addresses : List AddressValue) (i : ℕ) : Type 0 where
  pub by_claims : (a : AddressValue) → Contains (drop i addresses) a → has_address (take i addresses) a ≡ false → 0 < claim_room h slot a
  pub by_family : (a : AddressValue) → Contains (drop i addresses) a → length (drop i addresses) ≤ address_room h slot a.family

-- the address at the index, and whether one stands up to it
module _ (addresses : List AddressValue) (i : ℕ) (x : AddressValue) (within : i < length addresses) (is : x ≡ get_or addresses i x) where
  here-first : Contains (drop i addresses) x
  here-first = subst (λ (rest : List AddressValue). Contains rest x) (sym (rest-of addresses i x within is)) (contains-first x (drop (i + 1) addresses))

  later-too : (a : AddressValue) → Contains (drop (i + 1) addresses) a → Contains (drop i addresses) a
  later-too a there =
      subst (λ (rest : List AddressValue). Contains rest a) (sym (rest-of addresses i x within is)) (contains-later x (drop (i + 1) addresses) a there)

  shorter : length (drop i addresses) ≡ length (drop (i + 1) addresses) + 1
  shorter = ap (λ (rest : List AddressValue). length rest) (rest-of addresses i x within is) ∙ omega (arith)

  pub grown : (a : AddressValue) → has_address (take (i + 1) addresses) a ≡ (has_address (take i addresses) a || (same_address x a || false))
  grown a =
      ap (λ (taken : List AddressValue). has_address taken a) (taken-more addresses i x within is)
      ∙ list_any-append (same_address a) (take i addresses) (x ∷ [])
      ∙ ap (λ b. has_address (take i addresses) a || (b || false)) (same_address-flip a x)

  neither : (a : AddressValue) → has_address (take (i + 1) addresses) a ≡ false → (has_address (take i addresses) a ≡ false) × (same_address x a ≡ false)
  neither a apart = parts (has_address (take i addresses) a) (same_address x a) (sym (grown a) ∙ apart)
    where
      parts : (p q : Bool) → (p || (q || false)) ≡ false → (p ≡ false) × (q ≡ false)
      parts true q e = absurd (true≢false e)
      parts false true e = absurd (true≢false e)
      parts false false e = (refl, refl)

  module _ (slot : NumberedSlot) (before : AddressHoldersValue) (room : HasRoomFrom before slot addresses i) where
    pub room-here : has_address (take i addresses) x ≡ false → (0 < claim_room before slot x) × (0 < address_room before slot x.family)
    room-here apart = (room.by_claims x here-first apart, omega (arith, shorter, room.by_family x here-first))

    -- once the claim was listed at that address
    pub room-next : (after : AddressHoldersValue)
        → ((a : AddressValue) → claim_room before slot a ≤ claim_room after slot a + (if same_address x a then 1 else 0))
        → ((family : Family) → address_room before slot family ≤ address_room after slot family + 1) → HasRoomFrom after slot addresses (i + 1)
    room-next after claims families = record {
      by_claims = λ a there apart.
          let two = neither a apart in
          let kept : claim_room before slot a ≤ claim_room after slot a + 0 =
          subst (λ (b : Bool). claim_room before slot a ≤ claim_room after slot a + cond b 1 0) two.1 (claims a) in
          omega (arith, room.by_claims a (later-too a there) two.0, kept);
      by_family = λ a there. omega (arith, shorter, room.by_family a (later-too a there), families a.family);
    }

    -- or stood there already
    pub room-still : HasRoomFrom before slot addresses (i + 1)
    room-still = record {
      by_claims = λ a there apart. room.by_claims a (later-too a there) (neither a apart).0;
      by_family = λ a there. omega (arith, shorter, room.by_family a (later-too a there));
    }

  module _ (number : ℕ) (start before : AddressValue → List ℕ) (listed : (a : AddressValue) → before a ≡ start a ++ numbered number (take i addresses) a) where
    added-by : (had here : Bool) (old : List ℕ) → (here ≡ true → had ≡ false)
        → cond here ((old ++ cond had (number ∷ []) []) ++ number ∷ []) (old ++ cond had (number ∷ []) [])
        ≡ old ++ cond (had || (here || false)) (number ∷ []) []
    added-by true true old apart = absurd (true≢false (apart refl))
    added-by true false old apart = refl
    added-by false true old apart = ap (λ (ns : List ℕ). ns ++ number ∷ []) (append-nil old)
    added-by false false old apart = refl

    -- the number was put at the end of the list of that address, where it wasn't
    pub listed-next : (after : AddressValue → List ℕ) → has_address (take i addresses) x ≡ false
        → after ≡ (λ a. cond (same_address x a) (before a ++ number ∷ []) (before a))
        → (a : AddressValue) → after a ≡ start a ++ numbered number (take (i + 1) addresses) a
    listed-next after apart adds a =
        ap (λ (f : AddressValue → List ℕ). f a) adds
        ∙ ap (λ (ns : List ℕ). cond (same_address x a) (ns ++ number ∷ []) ns) (listed a)
        ∙ added-by (has_address (take i addresses) a) (same_address x a) (start a)
        (λ same. ap (has_address (take i addresses)) (sym (same_address-is x a same)) ∙ apart)
        ∙ ap (λ b. start a ++ cond b (number ∷ []) []) (sym (grown a))

    still-by : (had here : Bool) (old : List ℕ) → (here ≡ true → had ≡ true)
        → old ++ cond had (number ∷ []) [] ≡ old ++ cond (had || (here || false)) (number ∷ []) []
    still-by true here old there = refl
    still-by false true old there = absurd (true≢false (sym (there refl)))
    still-by false false old there = refl

    -- it stood there already
    pub listed-still : has_address (take i addresses) x ≡ true → (a : AddressValue) → before a ≡ start a ++ numbered number (take (i + 1) addresses) a
    listed-still there a =
        listed a
        ∙ still-by (has_address (take i addresses) a) (same_address x a) (start a)
        (λ same. ap (has_address (take i addresses)) (sym (same_address-is x a same)) ∙ there)
        ∙ ap (λ b. start a ++ cond b (number ∷ []) []) (sym (grown a))

    -- the number stands at the end exactly where the address stands ahead of the index
    module _ (fresh : (a : AddressValue) → Contains (start a) number → ⊥) where
      ended-by : (had : Bool) → had ≡ has_address (take i addresses) x → ends_with number (before x) ≡ true → had ≡ true
      ended-by true e ends = refl
      ended-by false e ends =
          let same : before x ≡ start x = listed x ∙ ap (λ b. start x ++ cond b (number ∷ []) []) (sym e) ∙ append-nil (start x) in
          absurd (fresh x (ends-there number (start x) (ap (ends_with number) (sym same) ∙ ends)))

      pub ended : ends_with number (before x) ≡ true → has_address (take i addresses) x ≡ true
      ended ends = sym (sym (ended-by (has_address (take i addresses) x) refl ends))

      open-by : (had : Bool) → had ≡ has_address (take i addresses) x → ends_with number (before x) ≡ false → had ≡ false
      open-by false e ends = refl
      open-by true e ends =
          let same : before x ≡ start x ++ number ∷ [] = listed x ∙ ap (λ b. start x ++ cond b (number ∷ []) []) (sym e) in
          absurd (true≢false (sym (ap (ends_with number) same ∙ ends-put number (start x)) ∙ ends))

      pub not-ended : ends_with number (before x) ≡ false → has_address (take i addresses) x ≡ false
      not-ended ends = open-by (has_address (take i addresses) x) refl ends

-- once no address is left
pub listed-all : (number : ℕ) (start after : AddressValue → List ℕ) (addresses : List AddressValue) (i : ℕ) → length addresses ≤ i
    → ((a : AddressValue) → after a ≡ start a ++ numbered number (take i addresses) a)
    → after ≡ (λ a. start a ++ numbered number addresses a)
listed-all number start after addresses i passed each =
    λ j a. (each a ∙ ap (λ (taken : List AddressValue). start a ++ numbered number taken a) (take_all i addresses passed)) j

-- ---- the index
listed-none : (h : AddressHoldersValue) → ((slot : NumberedSlot) → claims_having h slot ≡ (λ a. [])) → (o : Option NumberedSlot)
    → ◌≡◌ {A = AddressValue → List ℕ} (λ a. listed_in h o a) (λ a. [])
listed-none h no_holders None = refl
listed-none h no_holders (Some slot) = no_holders slot

pub indexed-none : (items : List (ℕ × ClaimValue)) (keys : IndexValue Key) (groups : GroupsValue) (h : AddressHoldersValue)
    → items ≡ [] → numbers_under key_cmp keys ≡ (λ key. []) → ((slot : NumberedSlot) → claims_having h slot ≡ (λ a. [])) → IsIndexed items keys groups h
indexed-none items keys groups h none no_keys no_holders =
    let empty : IsIndexed [] keys groups h = record {
      assigned = λ c there. absurd (contains-none c there);
      keys = no_keys;
      holders = λ slot. listed-none h no_holders (numbered_slot groups slot);
      unused = λ n from. record { group = no_holders (OfSharingGroup n); ports = λ port. no_holders (OfPort port n) };
      groups = λ c there. absurd (contains-none c there);
    } in
    subst (λ (list : List (ℕ × ClaimValue)). IsIndexed list keys groups h) (sym none) empty

pub indexed-kept : (items more : List (ℕ × ClaimValue)) (keys keys_after : IndexValue Key) (groups groups_after : GroupsValue)
    (h h_after : AddressHoldersValue)
    → IsIndexed items keys groups h → more ≡ items → numbers_under key_cmp keys_after ≡ numbers_under key_cmp keys → AreMore groups groups_after
    → ((slot : NumberedSlot) → claims_having h_after slot ≡ claims_having h slot)
    → IsIndexed more keys_after groups_after h_after
indexed-kept items more keys keys_after groups groups_after h h_after indexed same same_keys grown same_holders =
    let kept : IsIndexed items keys_after groups_after h_after = record {
      assigned = indexed.assigned;
      keys = same_keys ∙ indexed.keys;
      holders = λ slot. more-in groups groups_after h h_after same_holders grown indexed.unused slot ∙ indexed.holders slot;
      unused = more-unused groups groups_after h h_after same_holders grown indexed.unused;
      groups = indexed.groups;
    } in
    subst (λ (list : List (ℕ × ClaimValue)). IsIndexed list keys_after groups_after h_after) (sym same) kept

-- the same numbers
pub same-numbers : (groups : GroupsValue) → AreMore groups groups
same-numbers groups = record { each = λ group. inl refl; next = omega arith }

pub found-added : (items : List (ℕ × ClaimValue)) (number : ℕ) (c : ClaimValue) → All (λ p. p.0 < number) items
    → lookup (λ n. n == number) (items ++ (number, c) ∷ []) ≡ Some c
found-added [] number c fresh = ap (λ b. cond b (Some c) None) (eq-eqb number number refl)
found-added (p ∷ items) number c fresh =
    let below : p.0 < number = All-head (λ (p : ℕ × ClaimValue). p.0 < number) p items fresh in
    let other : (p.0 == number) ≡ false = grind (arith, nat_tests, below) in
    ap (λ b. cond b (Some p.1) (lookup (λ n. n == number) (items ++ (number, c) ∷ []))) other
    ∙ found-added items number c (All-tail (λ (p : ℕ × ClaimValue). p.0 < number) p items fresh)

key-by : (b : Bool) (numbers : List ℕ) (number : ℕ) (c : ClaimValue)
    → numbers ++ keys_of (cond b ((number, c) ∷ []) []) ≡ cond b (numbers ++ number ∷ []) numbers
key-by true numbers number c = refl
key-by false numbers number c = append-nil numbers

numbers_of-added : (items : List (ℕ × ClaimValue)) (number : ℕ) (c : ClaimValue) (key : Key)
    → numbers_of key (items ++ (number, c) ∷ []) ≡ cond (same_key c.key key) (numbers_of key items ++ number ∷ []) (numbers_of key items)
numbers_of-added items number c key =
    let test : ℕ × ClaimValue → Bool = λ p. same_key p.1.key key in
    ap keys_of (filter-append test items ((number, c) ∷ []))
    ∙ map-append (λ (p : ℕ × ClaimValue). p.0) (filter test items) (filter test ((number, c) ∷ []))
    ∙ key-by (same_key c.key key) (numbers_of key items) number c

numbers_at-added : (slot : Slot) (items : List (ℕ × ClaimValue)) (number : ℕ) (c : ClaimValue) (a : AddressValue)
    → numbers_at slot a (items ++ (number, c) ∷ []) ≡ numbers_at slot a items ++ numbered_at slot a (number, c)
numbers_at-added slot [] number c a = append-nil (numbered_at slot a (number, c))
numbers_at-added slot (p ∷ items) number c a =
    ap (λ ns. numbered_at slot a p ++ ns) (numbers_at-added slot items number c a)
    ∙ sym (append_assoc (numbered_at slot a p) (numbers_at slot a items) (numbered_at slot a (number, c)))

pub indexed-added : (items more : List (ℕ × ClaimValue)) (number : ℕ) (c : ClaimValue) (keys keys_after : IndexValue Key) (groups : GroupsValue)
    (h h_after : AddressHoldersValue)
    → IsIndexed items keys groups h → more ≡ items ++ (number, c) ∷ [] → is_assigned c.holding ≡ true
    → numbers_under key_cmp keys_after
    ≡ (λ key. cond (is_at (key_cmp c.key) key) (numbers_under key_cmp keys key ++ number ∷ []) (numbers_under key_cmp keys key))
    → ((slot : Slot) → claims_in groups h_after slot ≡ (λ a. claims_in groups h slot a ++ numbered_at slot a (number, c)))
    → ((n : ℕ) → groups.next ≤ n → IsUnused h_after n)
    → HasSharingGroup c.terms
    → IsIndexed more keys_after groups h_after
indexed-added items more number c keys keys_after groups h h_after indexed is assigned adds_key adds_holders unused grouped =
    subst (λ (list : List (ℕ × ClaimValue)). IsIndexed list keys_after groups h_after) (sym is) (record {
      assigned = assigned_all;
      keys = adds_key ∙ (λ i key. key-at key i);
      holders = λ slot. adds_holders slot ∙ (λ i a. address-at slot a i);
      unused = unused;
      groups = groups_all;
    })
  where
    values : values_of (items ++ (number, c) ∷ []) ≡ values_of items ++ c ∷ []
    values = map-append (λ (p : ℕ × ClaimValue). p.1) items ((number, c) ∷ [])

    assigned_all : AreAssigned (values_of (items ++ (number, c) ∷ []))
    assigned_all x there =
        ⊎_elim (λ old. indexed.assigned x old) (λ new. subst (λ (y : ClaimValue). is_assigned y.holding ≡ true) new assigned)
        (Contains-push_cases (values_of items) c x (subst (λ (claims : List ClaimValue). Contains claims x) values there))

    key-at : (key : Key) → cond (is_at (key_cmp c.key) key) (numbers_under key_cmp keys key ++ number ∷ []) (numbers_under key_cmp keys key)
        ≡ numbers_of key (items ++ (number, c) ∷ [])
    key-at key =
        ap (λ b. cond b (numbers_under key_cmp keys key ++ number ∷ []) (numbers_under key_cmp keys key)) (is_eq-key_cmp c.key key)
        ∙ ap (λ (f : Key → List ℕ). cond (same_key c.key key) (f key ++ number ∷ []) (f key)) indexed.keys
        ∙ sym (numbers_of-added items number c key)

    address-at : (slot : Slot) (a : AddressValue) → claims_in groups h slot a ++ numbered_at slot a (number, c) ≡ numbers_at slot a (items ++ (number, c) ∷ [])
    address-at slot a =
        ap (λ (f : AddressValue → List ℕ). f a ++ numbered_at slot a (number, c)) (indexed.holders slot)
        ∙ sym (numbers_at-added slot items number c a)

    groups_all : HaveSharingGroups (values_of (items ++ (number, c) ∷ []))
    groups_all x there =
        ⊎_elim (λ old. indexed.groups x old) (λ new. subst (λ (y : ClaimValue). HasSharingGroup y.terms) new grouped)
        (Contains-push_cases (values_of items) c x (subst (λ (claims : List ClaimValue). Contains claims x) values there))

-- a number that is greater than all isn't listed yet
pub not-listed : (slot : Slot) (a : AddressValue) (items : List (ℕ × ClaimValue)) (number : ℕ) → All (λ p. p.0 < number) items
    → Contains (numbers_at slot a items) number → ⊥
not-listed slot a [] number fresh there = contains-none number there
not-listed slot a (p ∷ items) number fresh there =
    ⊎_elim
    (λ here. below (numbered_at slot a p) (occupies slot p.1) (has_address p.1.holding.addresses a) refl here)
    (λ later. not-listed slot a items number (All-tail (λ (p : ℕ × ClaimValue). p.0 < number) p items fresh) later)
    (Contains-append_cases (numbered_at slot a p) (numbers_at slot a items) number there)
  where
    less : p.0 < number
    less = All-head (λ (p : ℕ × ClaimValue). p.0 < number) p items fresh

    below : (ns : List ℕ) (occupied has : Bool) → ns ≡ cond occupied (cond has (p.0 ∷ []) []) [] → Contains ns number → ⊥
    below ns true true is there =
        ⊎_elim (λ (same : p.0 ≡ number). omega (arith, less, same)) (λ none. contains-none number none)
        (contains-cons p.0 [] number (subst (λ (l : List ℕ). Contains l number) is there))
    below ns true false is there = contains-none number (subst (λ (l : List ℕ). Contains l number) is there)
    below ns false has is there = contains-none number (subst (λ (l : List ℕ). Contains l number) is there)

-- the claim that is found under its number is that one
pub found-is : (items more : List (ℕ × ClaimValue)) (number : ℕ) (c found : ClaimValue)
    → more ≡ items ++ (number, c) ∷ [] → All (λ p. p.0 < number) items → Some found ≡ lookup (λ n. n == number) more → found ≡ c
found-is items more number c found is fresh there =
    let e : Some found ≡ Some c = there ∙ ap (λ (list : List (ℕ × ClaimValue)). lookup (λ n. n == number) list) is ∙ found-added items number c fresh in cc

pub not-lost : (items more : List (ℕ × ClaimValue)) (number : ℕ) (c : ClaimValue)
    → more ≡ items ++ (number, c) ∷ [] → All (λ p. p.0 < number) items → None ≡ lookup (λ n. n == number) more → ⊥
not-lost items more number c is fresh none =
    let e : None ≡ Some c = none ∙ ap (λ (list : List (ℕ × ClaimValue)). lookup (λ n. n == number) list) is ∙ found-added items number c fresh in cc

-- the same, of a key and a claim that are found
pub indexed-pushed : (items more : List (ℕ × ClaimValue)) (number : ℕ) (c found : ClaimValue) (key : Key) (keys keys_after : IndexValue Key)
    (groups : GroupsValue) (h h_after : AddressHoldersValue) (group : Option ℕ)
    → IsIndexed items keys groups h → AreNumbered groups → HasNumber groups c.terms → group ≡ number_for groups found.terms
    → more ≡ items ++ (number, c) ∷ [] → key ≡ c.key → found ≡ c → is_assigned c.holding ≡ true
    → numbers_under key_cmp keys_after ≡ (λ k. cond (is_at (key_cmp key) k) (numbers_under key_cmp keys k ++ number ∷ []) (numbers_under key_cmp keys k))
    → ((slot : NumberedSlot) → claims_having h_after slot
    ≡ (λ a. claims_having h slot a ++ (if is_slot_by group found.terms.ports slot then numbered number found.holding.addresses a else [])))
    → HasSharingGroup found.terms
    → IsIndexed more keys_after groups h_after
indexed-pushed items more number c found key keys keys_after groups h h_after group indexed are has group_is is key_is found_is assigned adds_key adds_holders
    grouped =
    let list_by : Key → Key → List ℕ = λ term k. cond (is_at (key_cmp term) k) (numbers_under key_cmp keys k ++ number ∷ []) (numbers_under key_cmp keys k) in
    let listing : Option ℕ → ClaimValue → NumberedSlot → AddressValue → List ℕ =
    λ g x slot a. claims_having h slot a ++ (if is_slot_by g x.terms.ports slot then numbered number x.holding.addresses a else []) in
    let adds : (slot : NumberedSlot) → claims_having h_after slot ≡ listing (number_for groups c.terms) c slot =
    λ slot. adds_holders slot ∙ ap (λ (g : Option ℕ). listing g found slot) group_is
    ∙ ap (λ (x : ClaimValue). listing (number_for groups x.terms) x slot) found_is in
    indexed-added items more number c keys keys_after groups h h_after indexed is assigned (adds_key ∙ ap list_by key_is)
    (added-in groups are h h_after c (numbered number c.holding.addresses) adds has)
    (λ n from. added-unused groups are h h_after c (numbered number c.holding.addresses) adds n from (indexed.unused n from))
    (subst (λ (x : ClaimValue). HasSharingGroup x.terms) found_is grouped)
