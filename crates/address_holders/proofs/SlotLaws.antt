-- The claims in each slot where those of one slot were changed.
use Rattle.std.proofs.Common.{◌≡◌, ℕ, ◌==◌, Bool, true, false, not, ◌&&◌, cond, List, [], filter, Option, Some, None, Ordering, Less, Equal}
use Rattle.std.proofs.Common.{Greater, refl, sym, ap, ◌∙◌, subst, arith, eqb-true}
use Rattle.std.proofs.lemmas.Bool.{and_from, and_parts, eq-eqb, true≢false}
use Rattle.std.proofs.lemmas.Bool.Decides.{nat_tests}
use Rattle.std.specs.Map.{lookup}
use Rattle.std.specs.Ordering.{is_eq, nat_cmp, ordering_then}
use Rattle.std.specs.BTreeMap.{BTreeMap, is_at, Updates, WritesThrough}
use Rattle.std.specs.Option.{IsSome, unwrap_or}
use Rattle.kube_model.specs.declared.port.Port.{Port}
use Rattle.kube_model.specs.declared.port.Protocol.{Protocol}
use Rattle.kube_model.specs.declared.port.Protocol.TheVariants.{Tcp, Udp, Sctp}
use Rattle.sharing_terms.specs.Sharing.{same_port}
use Rattle.sharing_terms.proofs.SharingLaws.{same_port-is, same_port-itself}
use Rattle.address_holders.specs.contracts.slot.NumberedSlotOrd.TheImpl as derived
use Rattle.address_holders.specs.declared.slot.NumberedSlot.{NumberedSlot}
use Rattle.address_holders.specs.declared.slot.NumberedSlot.TheVariants.{Any, OfPort, OfSharingGroup}
use Rattle.address_holders.specs.Holders.{ClaimantsValue, claims_at, is_listed, is_listed_but, no_claimants}
use Rattle.address_holders.specs.NumberedSlots.{same_slot}

-- ---- slots that are one

both-eq : (x y : Ordering) → is_eq (ordering_then x y) ≡ (is_eq x && is_eq y)
both-eq Less y = refl
both-eq Equal y = refl
both-eq Greater y = refl

same-number : (m n : ℕ) → is_eq (nat_cmp m n) ≡ (m == n)
same-number m n = grind (arith, nat_tests)

number-group : (m n g h : ℕ) → is_eq (ordering_then (nat_cmp m n) (nat_cmp g h)) ≡ ((m == n) && (g == h))
number-group m n g h = both-eq (nat_cmp m n) (nat_cmp g h) ∙ (λ i. same-number m n i && same-number g h i)

at-port : (p q : Protocol) (m n g h : ℕ)
    → is_at (derived.cmp-value.it (OfPort (record { protocol = p; port = m }) g)) (OfPort (record { protocol = q; port = n }) h)
    ≡ (same_port (record { protocol = p; port = m }) (record { protocol = q; port = n }) && (g == h))
at-port Tcp Tcp m n g h = number-group m n g h
at-port Tcp Udp m n g h = refl
at-port Tcp Sctp m n g h = refl
at-port Udp Tcp m n g h = refl
at-port Udp Udp m n g h = number-group m n g h
at-port Udp Sctp m n g h = refl
at-port Sctp Tcp m n g h = refl
at-port Sctp Udp m n g h = refl
at-port Sctp Sctp m n g h = number-group m n g h

-- the order that the map goes by finds the slots equal that are one
at-slot : (slot s : NumberedSlot) → is_at (derived.cmp-value.it slot) s ≡ same_slot slot s
at-slot Any Any = refl
at-slot Any (OfSharingGroup h) = refl
at-slot Any (OfPort q h) = refl
at-slot (OfSharingGroup g) Any = refl
at-slot (OfSharingGroup g) (OfSharingGroup h) = same-number g h
at-slot (OfSharingGroup g) (OfPort q h) = refl
at-slot (OfPort p g) Any = refl
at-slot (OfPort p g) (OfSharingGroup h) = refl
at-slot (OfPort p g) (OfPort q h) = at-port p.protocol q.protocol p.port q.port g h

pub same_slot-itself : (slot : NumberedSlot) → same_slot slot slot ≡ true
same_slot-itself Any = refl
same_slot-itself (OfSharingGroup group) = eq-eqb group group refl
same_slot-itself (OfPort port group) =
    and_from (same_port port port) (group == group) (same_port-itself port) (eq-eqb group group refl)

pub same_slot-is : (slot s : NumberedSlot) → same_slot slot s ≡ true → slot ≡ s
same_slot-is Any Any e = refl
same_slot-is Any (OfSharingGroup other) e = absurd (true≢false (sym e))
same_slot-is Any (OfPort port other) e = absurd (true≢false (sym e))
same_slot-is (OfSharingGroup group) Any e = absurd (true≢false (sym e))
same_slot-is (OfSharingGroup group) (OfSharingGroup other) e = ap (λ (g : ℕ). OfSharingGroup g) (eqb-true group other e)
same_slot-is (OfSharingGroup group) (OfPort port other) e = absurd (true≢false (sym e))
same_slot-is (OfPort port group) Any e = absurd (true≢false (sym e))
same_slot-is (OfPort port group) (OfSharingGroup other) e = absurd (true≢false (sym e))
same_slot-is (OfPort port group) (OfPort other_port other) e =
    let parts = and_parts (same_port port other_port) (group == other) e in
    ap (λ (p : Port). OfPort p group) (same_port-is port other_port parts.0)
    ∙ ap (λ (g : ℕ). OfPort other_port g) (eqb-true group other parts.1)

-- ---- entries

-- what a map has in the slot, and no claims where it has nothing
abbrev slot_of : List (NumberedSlot × ClaimantsValue) → NumberedSlot → ClaimantsValue
slot_of entries slot = unwrap_or (lookup (same_slot slot) entries) no_claimants

looked-up : (slot : NumberedSlot) (entries : List (NumberedSlot × ClaimantsValue))
    → lookup (is_at (derived.cmp-value.it slot)) entries ≡ lookup (same_slot slot) entries
looked-up slot entries = ap (λ (test : NumberedSlot → Bool). lookup test entries) (λ i s. at-slot slot s i)

-- ---- one slot changed

-- the slot has these claims after, and each other slot those that it had
abbrev Puts : NumberedSlot → ClaimantsValue → List (NumberedSlot × ClaimantsValue) → List (NumberedSlot × ClaimantsValue) → Type 0
Puts slot new before after = (s : NumberedSlot) → slot_of after s ≡ cond (same_slot slot s) new (slot_of before s)

some-or : (b : Bool) (new : ClaimantsValue) (other : Option ClaimantsValue)
    → unwrap_or (cond b (Some new) other) no_claimants ≡ cond b new (unwrap_or other no_claimants)
some-or true new other = refl
some-or false new other = refl

puts-updated : (slot : NumberedSlot) (m n : BTreeMap NumberedSlot ClaimantsValue) (new : ClaimantsValue) → Updates derived.cmp-value.it m n slot (Some new)
    → Puts slot new m.entries n.entries
puts-updated slot m n new updates s =
    let other = lookup (is_at (derived.cmp-value.it s)) m.entries in
    ap (λ o. unwrap_or o no_claimants) (sym (looked-up s n.entries) ∙ updates.0 s)
    ∙ some-or (is_at (derived.cmp-value.it slot) s) new other
    ∙ ap (λ b. cond b new (unwrap_or other no_claimants)) (at-slot slot s)
    ∙ ap (λ o. cond (same_slot slot s) new (unwrap_or o no_claimants)) (looked-up s m.entries)

module _ (slot : NumberedSlot) (new : ClaimantsValue) (before after : List (NumberedSlot × ClaimantsValue)) (puts : Puts slot new before after) where
  put-now : slot_of after slot ≡ new
  put-now = puts slot ∙ ap (λ b. cond b new (slot_of before slot)) (same_slot-itself slot)

  put-apart : (s : NumberedSlot) → same_slot slot s ≡ false → slot_of after s ≡ slot_of before s
  put-apart s apart = puts s ∙ ap (λ b. cond b new (slot_of before s)) apart

  -- what relates the new claims of the slot to those that it had, and all claims to themselves, relates those of each slot
  module _ (P : ClaimantsValue → ClaimantsValue → Type 0) (itself : (c : ClaimantsValue) → P c c) (changed : P (slot_of before slot) new) where
    put-by : (s : NumberedSlot) (b : Bool) → same_slot slot s ≡ b → P (slot_of before s) (cond b new (slot_of before s))
    put-by s true same = subst (λ t. P (slot_of before t) new) (same_slot-is slot s same) changed
    put-by s false apart = itself (slot_of before s)

    put-each : (s : NumberedSlot) → P (slot_of before s) (slot_of after s)
    put-each s = subst (λ c. P (slot_of before s) c) (sym (puts s)) (put-by s (same_slot slot s) refl)

-- the claims that a map has in the slot
module _ (slot : NumberedSlot) (entries : List (NumberedSlot × ClaimantsValue)) (old : ClaimantsValue)
    (found : Some old ≡ lookup (is_at (derived.cmp-value.it slot)) entries) where
  slot-found : old ≡ slot_of entries slot
  slot-found = ap (λ o. unwrap_or o no_claimants) (found ∙ looked-up slot entries)

  pub of-found : (P : ClaimantsValue → Type 0) → P old → P (slot_of entries slot)
  of-found P h = subst P slot-found h

  pub to-found : (P : ClaimantsValue → Type 0) → P (slot_of entries slot) → P old
  to-found P h = subst P (sym slot-found) h

-- a slot in which the map has nothing
pub slot-absent : (slot : NumberedSlot) (entries : List (NumberedSlot × ClaimantsValue)) → None ≡ lookup (is_at (derived.cmp-value.it slot)) entries
    → slot_of entries slot ≡ no_claimants
slot-absent slot entries none = ap (λ o. unwrap_or o no_claimants) (sym (none ∙ looked-up slot entries))

-- where the slot has nothing, what is listed elsewhere is listed but there
pub unlisted : (claimants : ClaimantsValue) (slot : NumberedSlot) (entries : List (NumberedSlot × ClaimantsValue))
    → None ≡ lookup (is_at (derived.cmp-value.it slot)) entries
    → ◌≡◌ {A = ℕ → Bool} (is_listed claimants) (is_listed_but claimants (slot_of entries slot))
unlisted claimants slot entries none =
    λ i m. (sym (and-true (is_listed claimants m))
    ∙ ap (λ (c : ClaimantsValue). is_listed claimants m && not (is_listed c m)) (sym (slot-absent slot entries none))) i
  where
    and-true : (b : Bool) → (b && true) ≡ b
    and-true true = refl
    and-true false = refl

nil-by : (b : Bool) (test : ℕ → Bool) → ◌≡◌ {A = List ℕ} [] (cond b (filter test []) [])
nil-by true test = refl
nil-by false test = refl

-- nothing is taken out of it
pub absent-filtered : (slot : NumberedSlot) (entries : List (NumberedSlot × ClaimantsValue)) (test : ℕ → Bool) (number : ℕ)
    → None ≡ lookup (is_at (derived.cmp-value.it slot)) entries
    → claims_at (slot_of entries slot) ≡ (λ n. cond (number == n) (filter test (claims_at (slot_of entries slot) n)) (claims_at (slot_of entries slot) n))
absent-filtered slot entries test number none =
    subst (λ (c : ClaimantsValue). claims_at c ≡ (λ n. cond (number == n) (filter test (claims_at c n)) (claims_at c n))) (sym (slot-absent slot entries none))
    (λ i n. nil-by (number == n) test i)

-- the claims of the slot were changed in place
module _ (slot : NumberedSlot) (m n : BTreeMap NumberedSlot ClaimantsValue) (old new : ClaimantsValue)
    (found : Some old ≡ lookup (is_at (derived.cmp-value.it slot)) m.entries)
    (writes : WritesThrough derived.cmp-value.it (derived.cmp-value.it slot) m new n) where
  is-some : (o : Option ClaimantsValue) → Some old ≡ o → IsSome o
  is-some o e = rw (← e) refl

  puts-written : Puts slot new m.entries n.entries
  puts-written = puts-updated slot m n new (writes.3 (is-some (lookup (is_at (derived.cmp-value.it slot)) m.entries) found))

  pub written-now : slot_of n.entries slot ≡ new
  written-now = put-now slot new m.entries n.entries puts-written

  pub written-apart : (s : NumberedSlot) → same_slot slot s ≡ false → slot_of n.entries s ≡ slot_of m.entries s
  written-apart = put-apart slot new m.entries n.entries puts-written

  pub written-each : (P : ClaimantsValue → ClaimantsValue → Type 0) → ((c : ClaimantsValue) → P c c) → P old new → (s : NumberedSlot)
      → P (slot_of m.entries s) (slot_of n.entries s)
  written-each P itself changed = put-each slot new m.entries n.entries puts-written P itself (of-found slot m.entries old found (λ c. P c new) changed)

  -- the list of one address was changed
  pub written-claims : (change : List ℕ → List ℕ) (number : ℕ) → claims_at new ≡ (λ n. cond (number == n) (change (claims_at old n)) (claims_at old n))
      → claims_at (slot_of n.entries slot) ≡ (λ n. cond (number == n) (change (claims_at (slot_of m.entries slot) n)) (claims_at (slot_of m.entries slot) n))
  written-claims change number changed =
      let listed : ClaimantsValue → ℕ → List ℕ = λ c n. cond (number == n) (change (claims_at c n)) (claims_at c n) in
      ap claims_at (put-now slot new m.entries n.entries puts-written) ∙ changed ∙ ap listed (slot-found slot m.entries old found)

-- claims were put into a slot that had none
module _ (slot made : NumberedSlot) (is : made ≡ slot) (m before n : BTreeMap NumberedSlot ClaimantsValue) (new : ClaimantsValue) (same : before ≡ m)
    (none : None ≡ lookup (is_at (derived.cmp-value.it slot)) m.entries)
    (updates : Updates derived.cmp-value.it before n made (Some new)) where
  puts-made : Puts slot new m.entries n.entries
  puts-made =
      subst (λ (map : BTreeMap NumberedSlot ClaimantsValue). Puts slot new map.entries n.entries) same
      (puts-updated slot before n new (subst (λ (s : NumberedSlot). Updates derived.cmp-value.it before n s (Some new)) is updates))

  pub made-now : slot_of n.entries slot ≡ new
  made-now = put-now slot new m.entries n.entries puts-made

  pub made-each : (P : ClaimantsValue → ClaimantsValue → Type 0) → ((c : ClaimantsValue) → P c c) → P no_claimants new → (s : NumberedSlot)
      → P (slot_of m.entries s) (slot_of n.entries s)
  made-each P itself changed =
      put-each slot new m.entries n.entries puts-made P itself
      (subst (λ c. P c new) (ap (λ o. unwrap_or o no_claimants) (none ∙ looked-up slot m.entries)) changed)

-- the slot was taken out
none-or : (b : Bool) (other : Option ClaimantsValue) → unwrap_or (cond b None other) no_claimants ≡ cond b no_claimants (unwrap_or other no_claimants)
none-or true other = refl
none-or false other = refl

pub puts-dropped : (slot : NumberedSlot) (m n : BTreeMap NumberedSlot ClaimantsValue) → Updates derived.cmp-value.it m n slot None → (s : NumberedSlot)
    → slot_of n.entries s ≡ cond (same_slot slot s) no_claimants (slot_of m.entries s)
puts-dropped slot m n updates s =
    let other = lookup (is_at (derived.cmp-value.it s)) m.entries in
    ap (λ o. unwrap_or o no_claimants) (sym (looked-up s n.entries) ∙ updates.0 s)
    ∙ none-or (is_at (derived.cmp-value.it slot) s) other
    ∙ ap (λ b. cond b no_claimants (unwrap_or other no_claimants)) (at-slot slot s)
    ∙ ap (λ o. cond (same_slot slot s) no_claimants (unwrap_or o no_claimants)) (looked-up s m.entries)

module _ (slot : NumberedSlot) (m n : BTreeMap NumberedSlot ClaimantsValue) (updates : Updates derived.cmp-value.it m n slot None) where
  pub dropped-now : slot_of n.entries slot ≡ no_claimants
  dropped-now = put-now slot no_claimants m.entries n.entries (puts-dropped slot m n updates)

  pub dropped-apart : (s : NumberedSlot) → same_slot slot s ≡ false → slot_of n.entries s ≡ slot_of m.entries s
  dropped-apart = put-apart slot no_claimants m.entries n.entries (puts-dropped slot m n updates)
