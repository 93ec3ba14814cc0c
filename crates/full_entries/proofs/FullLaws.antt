-- Which entries stay full, and which are unknown.
use Rattle.std.proofs.Common.{◌≡◌, ℕ, ◌<◌, Bool, true, false, not, ◌&&◌, ◌||◌, List, [], ◌∷◌, ◌++◌, filter, length, Option, Some, None, eqb}
use Rattle.std.proofs.Common.{◌⊎◌, inl, inr, refl, sym, ap, ◌∙◌, subst, ⊎_elim, get_or, true≢false}
use Rattle.std.proofs.lemmas.Bool.{and_parts, or_cases, not-true, not_from_false, cases_Bool, eqb-true, eq-eqb}
use Rattle.std.proofs.lemmas.List.Elements.{Contains-append_left}
use Rattle.std.proofs.lemmas.Option.{slice_get-get_or}
use Rattle.std.specs.List.{Contains}
use Rattle.std.specs.List.Sorted.{IsStrictlySortedBy}
use Rattle.std.specs.Map.{lookup, keys_of, values_of}
use Rattle.std.specs.Ordering.{nat_cmp}
use Rattle.std.specs.Prelude.{slice_get}
use Rattle.ip_ranges.specs.Values.{AddressValue, has_address, is_buggy}
use Rattle.ip_ranges.proofs.AddressLaws.{has_address-is}
use Rattle.mlb_base.proofs.Among.{contains-none, contains-cons, contains-later, contains-first, any-contains, any-found}
use Rattle.mlb_base.proofs.Lists.{filter-keeps}
use Rattle.number_sets.specs.Runs.{has}
use Rattle.claim_index.specs.Claims.{ClaimValue}
use Rattle.address_holders.specs.Holders.{address_of}
use Rattle.claim_index.specs.Index.{is_open, is_taken}
use Rattle.claim_index.specs.Slots.{Any}
use Rattle.claim_index.proofs.IndexReading.{found-of}
use Rattle.full_entries.specs.declared.entries.Entry.{Entry}
use Rattle.full_entries.specs.Full.{IsFull, AreFull}
use Rattle.full_entries.specs.Known.{EntriesValue, AreKnownTo, NoneIsKnown, IsUnknown}
use Rattle.full_entries.specs.Places.{HasAddress}

-- an address isn't open where it is avoided, or taken
either : (b t : Bool) → (not b && not t) ≡ false → (b ≡ true) ⊎ (t ≡ true)
either true t e = inl refl
either false true e = inr refl
either false false e = absurd (true≢false e)

closed : (b t : Bool) → (b ≡ true) ⊎ (t ≡ true) → (not b && not t) ≡ false
closed true t e = refl
closed false true e = refl
closed false false e = ⊎_elim (λ x. absurd (true≢false (sym x))) (λ x. absurd (true≢false (sym x))) e

-- it isn't open where it wasn't, and the claims that have it are still there
still-closed : (avoiding : Bool) (before after : List ClaimValue) (a : AddressValue)
    → ((c : ClaimValue) → Contains before c → has_address c.holding.addresses a ≡ true → Contains after c) → is_open avoiding Any before a ≡ false
    → is_open avoiding Any after a ≡ false
still-closed avoiding before after a stay e =
    closed (avoiding && is_buggy a) (is_taken Any after a)
    (⊎_elim (λ avoided. inl avoided)
    (λ taken.
    let found = any-found (λ (c : ClaimValue). has_address c.holding.addresses a) before taken in
    inr (any-contains (λ (c : ClaimValue). has_address c.holding.addresses a) after found.0 (stay found.0 found.1 found.2) found.2))
    (either (avoiding && is_buggy a) (is_taken Any before a) e))

-- claims and their numbers
item-of : (items : List (ℕ × ClaimValue)) (c : ClaimValue) → Contains (values_of items) c → (p : ℕ × ClaimValue) × Contains items p × (p.1 ≡ c)
item-of [] c there = absurd (contains-none c there)
item-of (p ∷ items) c there =
    ⊎_elim
    (λ (same : p.1 ≡ c). (p, contains-first p items, same))
    (λ later. let rest = item-of items c later in (rest.0, contains-later p items rest.0 rest.1, rest.2))
    (contains-cons p.1 (values_of items) c there)

value-of : (items : List (ℕ × ClaimValue)) (p : ℕ × ClaimValue) → Contains items p → Contains (values_of items) p.1
value-of [] p there = absurd (contains-none p there)
value-of (q ∷ items) p there =
    ⊎_elim
    (λ (same : q ≡ p). subst (λ (r : ℕ × ClaimValue). Contains (values_of (q ∷ items)) r.1) same (contains-first q.1 (values_of items)))
    (λ later. contains-later q.1 (values_of items) p.1 (value-of items p later))
    (contains-cons q items p there)

values-more : (items : List (ℕ × ClaimValue)) (p : ℕ × ClaimValue) (c : ClaimValue) → Contains (values_of items) c → Contains (values_of (items ++ p ∷ [])) c
values-more items p c there =
    let of = item-of items c there in
    subst (Contains (values_of (items ++ p ∷ []))) of.2 (value-of (items ++ p ∷ []) of.0 (Contains-append_left items (p ∷ []) of.0 of.1))

-- where no entry is known to be full, those are full that are
pub none-full : (claims : List ClaimValue) (f : EntriesValue) → NoneIsKnown f → AreFull claims f
none-full claims f none i e known at = absurd (true≢false (sym (none i known)))

-- with a claim more what was full is
pub added-full : (items more : List (ℕ × ClaimValue)) (p : ℕ × ClaimValue) (f : EntriesValue) → more ≡ items ++ p ∷ [] → AreFull (values_of items) f
    → AreFull (values_of more) f
added-full items more p f is full =
    subst (λ (xs : List (ℕ × ClaimValue)). AreFull (values_of xs) f) (sym is)
    (λ i e known at n from upto. still-closed e.avoiding (values_of items) (values_of (items ++ p ∷ [])) (address_of e.family n)
    (λ c there has. values-more items p c there) (full i e known at n from upto))

-- one more is known to be full, and is
pub learned-full : (claims : List ClaimValue) (f g : EntriesValue) (place : ℕ) (e : Entry) → AreFull claims f → Some e ≡ slice_get f.entries place
    → IsFull claims e → g.entries ≡ f.entries → AreKnownTo (λ i. eqb i place || has f.full i) g → AreFull claims g
learned-full claims f g place e full at is same known i d here there =
    let there_before : slice_get f.entries i ≡ Some d = ap (λ (es : List Entry). slice_get es i) (sym same) ∙ there in
    ⊎_elim
    (λ new.
    let equal : i ≡ place = eqb-true i place new in
    let one : Some e ≡ Some d = at ∙ ap (slice_get f.entries) (sym equal) ∙ there_before in
    let one_is : e ≡ d = cc in
    subst (IsFull claims) one_is is)
    (λ old. full i d old there_before)
    (or_cases (eqb i place) (has f.full i) (known i here))

-- without the claim of a number what was full is, but for what isn't known any more
pub left-full : (items : List (ℕ × ClaimValue)) (number : ℕ) (f g : EntriesValue) (left : List (ℕ × ClaimValue))
    → left ≡ filter (λ p. not (eqb p.0 number)) items → AreFull (values_of items) f
    → g.entries ≡ f.entries → AreKnownTo (has f.full) g
    → ((p : ℕ × ClaimValue) → Contains items p → eqb p.0 number ≡ true → (a : AddressValue) → Contains p.1.holding.addresses a → IsUnknown a g)
    → AreFull (values_of left) g
left-full items number f g left is full same fewer gone =
    subst (λ (xs : List (ℕ × ClaimValue)). AreFull (values_of xs) g) (sym is)
    (λ i e known at n from upto.
    let a = address_of e.family n in
    still-closed e.avoiding (values_of items) (values_of (filter (λ p. not (eqb p.0 number)) items)) a
    (λ c there has_it.
    let of = item-of items c there in
    ⊎_elim
    (λ removed. absurd (gone of.0 of.1 removed a
    (subst (λ (d : ClaimValue). Contains d.holding.addresses a) (sym of.2) (has_address-is c.holding.addresses a has_it)) i e known at (refl, from, upto)))
    (λ stays. subst (Contains (values_of (filter (λ p. not (eqb p.0 number)) items))) of.2
    (value-of (filter (λ p. not (eqb p.0 number)) items) of.0
    (filter-keeps (λ p. not (eqb p.0 number)) items of.0 of.1 (not_from_false (eqb of.0.0 number) stays))))
    (cases_Bool (eqb of.0.0 number)))
    (full i e (fewer i known) (ap (λ (es : List Entry). slice_get es i) (sym same) ∙ at) n from upto))

-- the claim under a number is the one that is found
pub found-under : (items : List (ℕ × ClaimValue)) (number : ℕ) (found : Option ClaimValue) (p : ℕ × ClaimValue) → found ≡ lookup (λ n. eqb n number) items
    → IsStrictlySortedBy nat_cmp (keys_of items) → Contains items p → eqb p.0 number ≡ true → found ≡ Some p.1
found-under items number found p is sorted there same =
    is ∙ ap (λ (k : ℕ). lookup (λ n. eqb n k) items) (sym (eqb-true p.0 number same)) ∙ found-of items p sorted there

-- what is forgotten is unknown, and stays so

pub forgotten : (a : AddressValue) (f g : EntriesValue) (place : ℕ) (found : Option ℕ)
    → ((i : ℕ) (e : Entry) → slice_get f.entries i ≡ Some e → HasAddress a e → found ≡ Some i) → found ≡ Some place
    → g.entries ≡ f.entries → AreKnownTo (λ i. not (eqb i place) && has f.full i) g → IsUnknown a g
forgotten a f g place found finds is same known i e here at has_it =
    let was : slice_get f.entries i ≡ Some e = ap (λ (es : List Entry). slice_get es i) (sym same) ∙ at in
    let one : Some place ≡ Some i = sym is ∙ finds i e was has_it in
    let equal : i ≡ place = cc in
    true≢false (sym (eq-eqb i place equal) ∙ not-true (eqb i place) (and_parts (not (eqb i place)) (has f.full i) (known i here)).0)

pub not-found : (a : AddressValue) (f : EntriesValue) (found : Option ℕ)
    → ((i : ℕ) (e : Entry) → slice_get f.entries i ≡ Some e → HasAddress a e → found ≡ Some i) → found ≡ None → IsUnknown a f
not-found a f found finds none i e here at has_it = let one : None ≡ Some i = sym none ∙ finds i e at has_it in absurd (cc)

pub fewer-known : (f g : EntriesValue) (place : ℕ) → AreKnownTo (λ i. not (eqb i place) && has f.full i) g → AreKnownTo (has f.full) g
fewer-known f g place known i here = (and_parts (not (eqb i place)) (has f.full i) (known i here)).1

pub still-unknown : (a : AddressValue) (f g : EntriesValue) → g.entries ≡ f.entries → AreKnownTo (has f.full) g → IsUnknown a f → IsUnknown a g
still-unknown a f g same fewer unknown i e here at = unknown i e (fewer i here) (ap (λ (es : List Entry). slice_get es i) (sym same) ∙ at)

-- the item of a list at a place
pub item-is : {X : Type 0} (xs : List X) (i : ℕ) (d x a : X) → i < length xs → get_or xs i d ≡ x → get_or xs i a ≡ a → x ≡ a
item-is xs i d x a within at here =
    let one : Some x ≡ Some a = ap Some (sym at) ∙ sym (slice_get-get_or xs i d within) ∙ slice_get-get_or xs i a within ∙ ap Some here in cc
