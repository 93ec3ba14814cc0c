-- A claim gets room in its slots, and is listed there, one slot after the other.
use Rattle.std.proofs.Common.{◌≡◌, ℕ, ◌+◌, ◌-◌, ◌<◌, ◌≤◌, zero, suc, Bool, true, false, ◌&&◌, ◌||◌, ◌==◌, if◌then◌else◌, List, [], ◌∷◌, ◌++◌, length, map, take}
use Rattle.std.proofs.Common.{drop, get_or, Option, Some, None, Less, Greater, refl, sym, ap, subst, ◌∙◌, arith, add-one, append-nil, ⊎_elim}
use Rattle.std.proofs.lemmas.Bool.{or_cases, or_parts, or_right, cases_Bool, false_from_ne_true, true≢false}
use Rattle.std.proofs.lemmas.Bool.Decides.{same_from_decides}
use Rattle.std.proofs.lemmas.List.{take_all}
use Rattle.std.proofs.lemmas.Option.{get_or_from_slice_get, slice_get_cases, slice_get_within}
use Rattle.std.proofs.lemmas.List.Elements.{Contains-get_or}
use Rattle.std.proofs.lemmas.List.Folds.{list_any-append}
use Rattle.std.proofs.Math.Seq.{take-suc, drop-cons}
use Rattle.std.specs.Bool.{⊤}
use Rattle.std.specs.List.{AllByRecursion, Contains, list_any, slice_get}
use Rattle.std.specs.List.Sorted.{IsStrictlySortedBy}
use Rattle.std.specs.Option.{option_map}
use Rattle.std.specs.Ordering.{ordering_reverse}
use Rattle.ip_ranges.specs.declared.family.Family.{Family}
use Rattle.ip_ranges.specs.Values.{AddressValue}
use Rattle.kube_model.specs.declared.port.Port.{Port}
use Rattle.kube_model.specs.declared.port.Protocol.TheVariants.{Tcp}
use Rattle.mlb_base.proofs.Among.{contains-first, contains-later, any-contains}
use Rattle.sharing_terms.specs.Ports.{port_cmp, AreAscending}
use Rattle.sharing_terms.specs.Sharing.{same_port}
use Rattle.sharing_terms.proofs.PortSets.{port_cmp-total}
use Rattle.sharing_terms.proofs.SharingLaws.{same_port-is, same_port-itself}
use Rattle.address_holders.specs.declared.slot.NumberedSlot.{NumberedSlot}
use Rattle.address_holders.specs.declared.slot.NumberedSlot.TheVariants.{Any, OfPort, OfSharingGroup}
use Rattle.address_holders.specs.Holders.{AddressHoldersValue, in_slot, claims_at, claims_having, claim_room, address_room}
use Rattle.claim_index.specs.ListedClaims.{HasRoomAt}
use Rattle.address_holders.specs.NumberedSlots.{same_slot}
use Rattle.claim_index.specs.GroupSlots.{is_slot_by, slots_by}
use Rattle.address_holders.proofs.SlotLaws.{same_slot-is, same_slot-itself}
use Rattle.claim_index.proofs.IndexGrowth.{room-same}

-- ---- the slots of a claim, one more at a time

pub or-none : (b : Bool) → (b || false) ≡ b
or-none true = refl
or-none false = refl

-- whether the slot is one of these
abbrev pub among : List NumberedSlot → NumberedSlot → Bool
among slots s = list_any (λ x. same_slot x s) slots

-- none of the slots stands twice
abbrev pub AreApart : List NumberedSlot → Type 0
AreApart [] = ⊤
AreApart (slot ∷ slots) = (list_any (same_slot slot) slots ≡ false) × AreApart slots

not-any : (test : NumberedSlot → Bool) (slots : List NumberedSlot) (i : ℕ) (d : NumberedSlot) → list_any test slots ≡ false → i < length slots
    → test (get_or slots i d) ≡ false
not-any test [] i d none within = absurd (omega (arith, within))
not-any test (x ∷ xs) zero d none within = (or_parts (test x) (list_any test xs) none).0
not-any test (x ∷ xs) (suc i) d none within = not-any test xs i d (or_parts (test x) (list_any test xs) none).1 (omega (arith, within))

-- none of the slots before it is this one
not-before : (slots : List NumberedSlot) (i : ℕ) (d : NumberedSlot) → i < length slots → AreApart slots → among (take i slots) (get_or slots i d) ≡ false
not-before [] i d within apart = absurd (omega (arith, within))
not-before (x ∷ xs) zero d within apart = refl
not-before (x ∷ xs) (suc i) d within apart =
    let later : i < length xs = omega (arith, within) in
    ap (λ b. b || among (take i xs) (get_or xs i d)) (not-any (same_slot x) xs i d apart.0 later) ∙ not-before xs i d later apart.1

-- and none of those after it
behind-by : (slots : List NumberedSlot) (i : ℕ) (d s : NumberedSlot) → i < length slots → AreApart slots → Contains (drop (suc i) slots) s
    → same_slot (get_or slots i d) s ≡ false
behind-by [] i d s within apart there = absurd (omega (arith, within))
behind-by (x ∷ xs) zero d s within apart there =
    false_from_ne_true (same_slot x s) (λ e. true≢false (sym (any-contains (same_slot x) xs s there e) ∙ apart.0))
behind-by (x ∷ xs) (suc i) d s within apart there = behind-by xs i d s (omega (arith, within)) apart.1 there

-- the slot that a walk comes to
module _ (slots : List NumberedSlot) (i : ℕ) (x : NumberedSlot) (at : slice_get slots i ≡ Some x) where
  within : i < length slots
  within = slice_get_within slots i x at

  is : get_or slots i x ≡ x
  is = get_or_from_slice_get slots i x x at

  -- it and those after it
  slots-rest : drop i slots ≡ x ∷ drop (i + 1) slots
  slots-rest = drop-cons slots i x within ∙ (λ j. is j ∷ drop (sym (add-one i) j) slots)

  -- the slots up to it
  pub slots-next : (s : NumberedSlot) → among (take (i + 1) slots) s ≡ (among (take i slots) s || same_slot x s)
  slots-next s =
      ap (λ (xs : List NumberedSlot). among xs s) (ap (λ n. take n slots) (add-one i) ∙ take-suc slots i x within)
      ∙ list_any-append (λ y. same_slot y s) (take i slots) (get_or slots i x ∷ [])
      ∙ ap (λ b. among (take i slots) s || b) (or-none (same_slot (get_or slots i x) s) ∙ ap (λ (y : NumberedSlot). same_slot y s) is)

  pub not-yet : AreApart slots → among (take i slots) x ≡ false
  not-yet apart = ap (λ (y : NumberedSlot). among (take i slots) y) (sym is) ∙ not-before slots i x within apart

  pub contained : Contains slots x
  contained = subst (λ (y : NumberedSlot). Contains slots y) is (Contains-get_or slots i x within)

  not-behind : (s : NumberedSlot) → AreApart slots → Contains (drop (i + 1) slots) s → same_slot x s ≡ false
  not-behind s apart there =
      ap (λ (y : NumberedSlot). same_slot y s) (sym is)
      ∙ behind-by slots i x s within apart (subst (λ n. Contains (drop n slots) s) (add-one i) there)

-- where there is none at the index, the walk came to all
pub slots-past : (slots : List NumberedSlot) (i : ℕ) → slice_get slots i ≡ None → take i slots ≡ slots
slots-past slots i none =
    ⊎_elim (λ some. let at = some.2 in absurd (cc)) (λ past. take_all i slots past.0) (slice_get_cases slots i).1

-- ---- the slots of terms

same_port-flip : (p q : Port) → same_port p q ≡ same_port q p
same_port-flip p q =
    same_from_decides (same_port p q) (same_port q p) (same_port-is p q, λ e. subst (λ r. same_port p r ≡ true) e (same_port-itself p))
    (λ e. sym (same_port-is q p e), λ e. subst (λ r. same_port r p ≡ true) e (same_port-itself p))

abbrev port_slots : ℕ → List Port → List NumberedSlot
port_slots group ports = map (λ port. OfPort port group) ports

no-group : (group other : ℕ) (ports : List Port) → list_any (λ x. same_slot x (OfSharingGroup other)) (port_slots group ports) ≡ false
no-group group other [] = refl
no-group group other (p ∷ ps) = no-group group other ps

and-true : (b : Bool) → (b && true) ≡ b
and-true true = refl
and-true false = refl

and-false : (b : Bool) → (b && false) ≡ false
and-false true = refl
and-false false = refl

port-by : (one : Bool) (ports : List Port) (q : Port) → list_any (λ p. same_port p q && one) ports ≡ (one && list_any (same_port q) ports)
port-by true [] q = refl
port-by false [] q = refl
port-by true (p ∷ ps) q =
    ap (λ b. b || list_any (λ p. same_port p q && true) ps) (and-true (same_port p q) ∙ same_port-flip p q) ∙ ap (λ b. same_port q p || b) (port-by true ps q)
port-by false (p ∷ ps) q = ap (λ b. b || list_any (λ p. same_port p q && false) ps) (and-false (same_port p q)) ∙ port-by false ps q

over-ports : (group other : ℕ) (ports : List Port) (q : Port)
    → list_any (λ x. same_slot x (OfPort q other)) (port_slots group ports) ≡ list_any (λ p. same_port p q && (group == other)) ports
over-ports group other [] q = refl
over-ports group other (p ∷ ps) q = ap (λ b. (same_port p q && (group == other)) || b) (over-ports group other ps q)

-- the slots in which a claim is listed
pub occupied : (group : Option ℕ) (ports : List Port) (s : NumberedSlot) → among (slots_by group ports) s ≡ is_slot_by group ports s
occupied None ports Any = refl
occupied (Some group) ports Any = refl
occupied None ports (OfSharingGroup other) = refl
occupied None ports (OfPort q other) = refl
occupied (Some group) ports (OfSharingGroup other) = ap (λ b. (group == other) || b) (no-group group other ports) ∙ or-none (group == other)
occupied (Some group) ports (OfPort q other) = over-ports group other ports q ∙ port-by (group == other) ports q

pub occupied-each : (group : Option ℕ) (ports : List Port) (s : NumberedSlot) → Contains (slots_by group ports) s → is_slot_by group ports s ≡ true
occupied-each group ports s there =
    sym (occupied group ports s) ∙ any-contains (λ x. same_slot x s) (slots_by group ports) s there (same_slot-itself s)

never-less : (port : Port) → port_cmp port port ≡ Less → ⊥
never-less port less =
    let both : Less ≡ Greater = sym less ∙ port_cmp-total.antisymm port port ∙ ap ordering_reverse less in cc

other-ports : (group : ℕ) (port : Port) (ports : List Port) → AllByRecursion (λ q. port_cmp port q ≡ Less) ports
    → list_any (same_slot (OfPort port group)) (port_slots group ports) ≡ false
other-ports group port [] less = refl
other-ports group port (q ∷ qs) less =
    let apart : same_port port q ≡ false =
    false_from_ne_true (same_port port q) (λ e. never-less port (subst (λ p. port_cmp port p ≡ Less) (sym (same_port-is port q e)) less.0)) in
    ap (λ b. (b && (group == group)) || list_any (same_slot (OfPort port group)) (port_slots group qs)) apart ∙ other-ports group port qs less.1

no-ports : (group : ℕ) (ports : List Port) → list_any (same_slot (OfSharingGroup group)) (port_slots group ports) ≡ false
no-ports group [] = refl
no-ports group (p ∷ ps) = no-ports group ps

not-all : (group : ℕ) (ports : List Port) → list_any (same_slot Any) (port_slots group ports) ≡ false
not-all group [] = refl
not-all group (p ∷ ps) = not-all group ps

ports-apart : (group : ℕ) (ports : List Port) → AreAscending ports → AreApart (port_slots group ports)
unfolding IsStrictlySortedBy
ports-apart group [] up = tt
ports-apart group (p ∷ ps) up = (other-ports group p ps up.0, ports-apart group ps up.1)

-- the slots of ports that ascend are apart
pub slots-apart : (group : Option ℕ) (ports : List Port) → AreAscending ports → AreApart (slots_by group ports)
slots-apart None ports up = (refl, tt)
slots-apart (Some group) ports up = (not-all group ports, (no-ports group ports, ports-apart group ports up))

-- there are no more of them
slots-few : (group : Option ℕ) (ports : List Port) → length (slots_by group ports) ≤ length ports + 2
slots-few None ports = omega arith
slots-few (Some group) ports = omega (arith, many ports)
  where
    many : (ps : List Port) → length (port_slots group ps) ≡ length ps
    many [] = refl
    many (p ∷ ps) = ap (λ n. suc n) (many ps)

pub slots-all : (group : Option ℕ) (ports : List Port) (i : ℕ) → length ports + 2 ≤ i → take i (slots_by group ports) ≡ slots_by group ports
slots-all group ports i passed = take_all i (slots_by group ports) (omega (arith, passed, slots-few group ports))

-- the slot of a port
port-at : (group : ℕ) (ports : List Port) (i : ℕ) → slice_get (port_slots group ports) i ≡ option_map (λ port. OfPort port group) (slice_get ports i)
port-at group [] zero = refl
port-at group [] (suc i) = refl
port-at group (p ∷ ps) zero = refl
port-at group (p ∷ ps) (suc i) = port-at group ps i

pub slot-of_port : (group : Option ℕ) (n : ℕ) (ports : List Port) (i : ℕ) (port : Port) → group ≡ Some n → 2 ≤ i → slice_get ports (i - 2) ≡ Some port
    → slice_get (slots_by group ports) i ≡ Some (OfPort port n)
slot-of_port group n ports i port is behind here =
    let place : i ≡ suc (suc (i - 2)) = omega (arith, behind) in
    (λ j. slice_get (slots_by (is j) ports) (place j)) ∙ port-at n ports (i - 2) ∙ ap (λ (p : Option Port). option_map (λ q. OfPort q n) p) here

-- what is answered for the ports as they are shown
pub slot-shown : (group : Option ℕ) (ports shown : List Port) (i : ℕ) (o : Option NumberedSlot) → shown ≡ ports → o ≡ slice_get (slots_by group shown) i
    → slice_get (slots_by group ports) i ≡ o
slot-shown group ports shown i o are is = ap (λ (ps : List Port). slice_get (slots_by group ps) i) (sym are) ∙ sym is

-- the port that a walk comes to
abbrev pub no_port : Port
no_port = record { protocol = Tcp; port = 0 }

pub port-there : (ports : List Port) (i : ℕ) (d e : Port) → i < length ports → get_or ports i d ≡ get_or ports i e
port-there [] i d e within = absurd (omega (arith, within))
port-there (p ∷ ps) zero d e within = refl
port-there (p ∷ ps) (suc i) d e within = port-there ps i d e (omega (arith, within))

-- ---- room

-- as much room or more
room-kept : (before after : AddressHoldersValue) (more : ℕ) (slot : NumberedSlot) (addresses : List AddressValue)
    → ((a : AddressValue) → claim_room before slot a ≤ claim_room after slot a)
    → ((family : Family) → address_room before slot family ≤ address_room after slot family)
    → HasRoomAt before more slot addresses → HasRoomAt after more slot addresses
room-kept before after more slot addresses claims families room = record {
  by_claims = λ a there. omega (arith, room.by_claims a there, claims a);
  by_family = λ a there. omega (arith, room.by_family a there, families a.family);
}

-- There is room in each of the slots.
abbrev pub HasRoomIn : AddressHoldersValue → ℕ → List AddressValue → (NumberedSlot → Bool) → Type 0
HasRoomIn h more addresses slots = (s : NumberedSlot) → slots s ≡ true → HasRoomAt h more s addresses

-- there is room in one slot more, and those before keep theirs
pub room-next : (before after : AddressHoldersValue) (more : ℕ) (addresses : List AddressValue) (slots grown : NumberedSlot → Bool) (x : NumberedSlot)
    → ((s : NumberedSlot) → grown s ≡ (slots s || same_slot x s))
    → HasRoomIn before more addresses slots
    → ((s : NumberedSlot) (a : AddressValue) → claim_room before s a ≤ claim_room after s a)
    → ((s : NumberedSlot) (family : Family) → address_room before s family ≤ address_room after s family)
    → HasRoomAt after more x addresses
    → HasRoomIn after more addresses grown
room-next before after more addresses slots grown x grows room claims families here s e =
    ⊎_elim
    (λ old. room-kept before after more s addresses (claims s) (families s) (room s old))
    (λ new. subst (λ (t : NumberedSlot). HasRoomAt after more t addresses) (same_slot-is x s new) here)
    (or_cases (slots s) (same_slot x s) (sym (grows s) ∙ e))

-- there is no slot yet
pub room-none : (h : AddressHoldersValue) (more : ℕ) (addresses : List AddressValue) → HasRoomIn h more addresses (among [])
room-none h more addresses s e = absurd (true≢false (sym e))

-- and where there is room in all slots of the claim, there is in each in which it is listed
pub room-all : (h : AddressHoldersValue) (more : ℕ) (addresses : List AddressValue) (group : Option ℕ) (ports : List Port) (slots : List NumberedSlot)
    → slots ≡ slots_by group ports → HasRoomIn h more addresses (among slots) → (s : NumberedSlot) → is_slot_by group ports s ≡ true
    → HasRoomAt h more s addresses
room-all h more addresses group ports slots are room s e =
    room s (ap (λ (xs : List NumberedSlot). among xs s) are ∙ occupied group ports s ∙ e)

-- ---- the lists of claims

-- a slot that stays has the same claims
claims-same : (before after : AddressHoldersValue) (slot : NumberedSlot) → in_slot after slot ≡ in_slot before slot
    → claims_having after slot ≡ claims_having before slot
claims-same before after slot same = λ i a. claims_at (same i a.family) a.number

module _ (more : ℕ) (addresses : List AddressValue) (slots : List NumberedSlot) (i : ℕ) (x : NumberedSlot) (at : slice_get slots i ≡ Some x) where
  -- there is room in the slot that comes next
  pub room-here : (h : AddressHoldersValue) → ((s : NumberedSlot) → Contains (drop i slots) s → HasRoomAt h more s addresses) → HasRoomAt h more x addresses
  room-here h room =
      room x (subst (λ (xs : List NumberedSlot). Contains xs x) (sym (slots-rest slots i x at)) (contains-first x (drop (i + 1) slots)))

  -- and then in those after it
  pub room-behind : (before after : AddressHoldersValue) → AreApart slots
      → ((s : NumberedSlot) → Contains (drop i slots) s → HasRoomAt before more s addresses)
      → ((s : NumberedSlot) → same_slot x s ≡ false → in_slot after s ≡ in_slot before s)
      → (s : NumberedSlot) → Contains (drop (i + 1) slots) s → HasRoomAt after more s addresses
  room-behind before after apart room others s there =
      room-same before after more s addresses (others s (not-behind slots i x at s apart there))
      (room s (subst (λ (xs : List NumberedSlot). Contains xs s) (sym (slots-rest slots i x at)) (contains-later x (drop (i + 1) slots) s there)))

module _ (more : AddressValue → List ℕ) where
  -- what is listed in the slot, and more where it is one of the slots
  abbrev pub with_more : AddressHoldersValue → (NumberedSlot → Bool) → NumberedSlot → AddressValue → List ℕ
  with_more h slots s a = claims_having h s a ++ (if slots s then more a else [])

  -- nothing more yet
  pub listed-none : (h : AddressHoldersValue) (s : NumberedSlot) → claims_having h s ≡ with_more h (among []) s
  listed-none h s = λ j a. sym (append-nil (claims_having h s a)) j

  -- the claim is listed in one slot more
  module _ (old before : AddressHoldersValue) (slots : NumberedSlot → Bool) (x : NumberedSlot)
      (listed : (s : NumberedSlot) → claims_having before s ≡ with_more old slots s)
      (apart : slots x ≡ false) where
    abbrev kept : NumberedSlot → Bool → AddressValue → List ℕ
    kept t b a = claims_having old t a ++ (if b then more a else [])

    same-yet : claims_having before x ≡ claims_having old x
    same-yet = listed x ∙ ap (kept x) apart ∙ (λ j a. append-nil (claims_having old x a) j)

    -- it isn't listed there yet
    pub fresh-next : (n : ℕ) → ((a : AddressValue) → Contains (claims_having old x a) n → ⊥) → (a : AddressValue)
        → Contains (claims_having before x a) n → ⊥
    fresh-next n fresh a there = fresh a (subst (λ (f : AddressValue → List ℕ). Contains (f a) n) same-yet there)

    pub listed-next : (after : AddressHoldersValue) (grown : NumberedSlot → Bool) → ((s : NumberedSlot) → grown s ≡ (slots s || same_slot x s))
        → claims_having after x ≡ (λ a. claims_having before x a ++ more a)
        → ((s : NumberedSlot) → same_slot x s ≡ false → in_slot after s ≡ in_slot before s)
        → (s : NumberedSlot) → claims_having after s ≡ with_more old grown s
    listed-next after grown grows here others s =
        ⊎_elim
        (λ same. subst (λ (t : NumberedSlot). claims_having after t ≡ with_more old grown t) (same_slot-is x s same) at-next)
        (λ differs. claims-same before after s (others s differs) ∙ listed s ∙ ap (kept s) (sym (grows s ∙ ap (λ b. slots s || b) differs ∙ or-none (slots s))))
        (cases_Bool (same_slot x s))
      where
        at-next : claims_having after x ≡ with_more old grown x
        at-next =
            here
            ∙ (λ j a. same-yet j a ++ more a)
            ∙ ap (kept x) (sym (grows x ∙ or_right (slots x) (same_slot x x) (same_slot-itself x)))

  -- once no slot is left
  pub listed-each : (old h : AddressHoldersValue) (group : Option ℕ) (ports : List Port) (slots : List NumberedSlot) → slots ≡ slots_by group ports
      → ((s : NumberedSlot) → claims_having h s ≡ with_more old (among slots) s) → (s : NumberedSlot)
      → claims_having h s ≡ with_more old (is_slot_by group ports) s
  listed-each old h group ports slots is listed s =
      listed s ∙ ap (λ (xs : List NumberedSlot). with_more old (among xs) s) is
      ∙ (λ j a. claims_having old s a ++ (if occupied group ports s j then more a else []))
