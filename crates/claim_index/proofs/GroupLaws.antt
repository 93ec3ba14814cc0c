-- Claims on one address that are alike in sharing key and backend: they are told by their group, and counted.
use Rattle.std.proofs.Common.{◌≡◌, ℕ, ◌+◌, ◌-◌, ◌==◌, Bool, true, false, cond, not, ◌&&◌, ◌||◌, List, []}
use Rattle.std.proofs.Common.{◌∷◌, ◌++◌, length, filter, Some, refl, sym, ap, ◌∙◌, subst, arith}
use Rattle.std.proofs.lemmas.Bool.{and_parts, and_from, not-true, false_from_ne_true, true≢false}
use Rattle.std.proofs.lemmas.Bool.Decides.{nat_tests, same_from_decides}
use Rattle.std.proofs.lemmas.Map.Made.{Contains-values_of}
use Rattle.std.proofs.lemmas.Option.{same_Some}
use Rattle.std.proofs.lemmas.Slice.Eq.{bytes_eq-Decides}
use Rattle.std.specs.List.{Contains, list_any, list_all}
use Rattle.std.specs.Map.{values_of}
use Rattle.std.specs.Str.{bytes_eq}
use Rattle.ip_ranges.specs.Values.{AddressValue, has_address}
use Rattle.kube_model.specs.declared.key.Key.{Key}
use Rattle.kube_model.specs.declared.port.Port.{Port}
use Rattle.kube_model.specs.Keys.{same_key}
use Rattle.mlb_base.specs.Items.{is_nil}
use Rattle.mlb_base.proofs.Among.{contains-first, contains-later, any-contains, any-found, all-contains, all-from}
use Rattle.sharing_terms.specs.declared.terms.Terms.{Terms}
use Rattle.sharing_terms.specs.declared.terms.Backend.{Backend}
use Rattle.sharing_terms.specs.Marked.{AreTerms}
use Rattle.sharing_terms.specs.Marks.{mark_of}
use Rattle.sharing_terms.specs.Sharing.{has_port, is_alike, may_share}
use Rattle.sharing_terms.specs.Spelled.{recorded_terms}
use Rattle.sharing_terms.proofs.ReadBack.{mark-read}
use Rattle.claim_index.specs.Slots.{Any, OfPort, OfSharingGroup, is_member}
use Rattle.claim_index.specs.Alike.{are_alike}
use Rattle.claim_index.specs.Claims.{ClaimValue}
use Rattle.claim_index.specs.SharingGroups.{sharing_group_of, portless, is_grouped, HasSharingGroup}
use Rattle.claim_index.specs.Index.{numbers_at, HaveSharingGroups}
use Rattle.claim_index.specs.Reading.{yields, belongs, is_odd, leaves}
use Rattle.claim_index.proofs.TermLaws.{backend-same, backend-itself}
use Rattle.claim_index.proofs.IndexReading.{or-true}

-- ---- terms that are alike
-- They have one sharing key, which isn't empty, and one backend.
record AreOne (a b : Terms) : Type 0 where
  key : a.key ≡ b.key
  given : not (is_nil a.key) ≡ true
  backend : a.backend ≡ b.backend

one-from_alike : (a b : Terms) → are_alike a b ≡ true → AreOne a b
one-from_alike a b e =
    let two = and_parts (bytes_eq a.key b.key && not (is_nil a.key)) (is_alike a.backend b.backend) e in
    let one = and_parts (bytes_eq a.key b.key) (not (is_nil a.key)) two.0 in
    record { key = (bytes_eq-Decides a.key b.key).0 one.0; given = one.1; backend = backend-same a.backend b.backend two.1 }

alike-from_one : (a b : Terms) → AreOne a b → are_alike a b ≡ true
alike-from_one a b one =
    and_from (bytes_eq a.key b.key && not (is_nil a.key)) (is_alike a.backend b.backend)
    (and_from (bytes_eq a.key b.key) (not (is_nil a.key)) ((bytes_eq-Decides a.key b.key).1 one.key) one.given)
    (subst (λ (x : Backend). is_alike a.backend x ≡ true) one.backend (backend-itself a.backend))

alike-flip : (a b : Terms) → are_alike a b ≡ true → are_alike b a ≡ true
alike-flip a b e =
    let one = one-from_alike a b e in
    alike-from_one b a (record { key = sym one.key; given = subst (λ (k : List ℕ). not (is_nil k) ≡ true) one.key one.given; backend = sym one.backend })

-- ---- groups
-- terms of one sharing key and one backend are of one group
pub group-same : (a b : Terms) → a.key ≡ b.key → a.backend ≡ b.backend → sharing_group_of a ≡ sharing_group_of b
unfolding sharing_group_of
group-same a b key backend =
    ap (λ (k : List ℕ). mark_of (record { key = k; ports = []; backend = a.backend })) key
    ∙ ap (λ (x : Backend). mark_of (record { key = b.key; ports = []; backend = x })) backend

-- and those of one group have one sharing key and one backend
group-is : (a b : Terms) → AreTerms (portless a) → AreTerms (portless b) → sharing_group_of a ≡ sharing_group_of b → portless a ≡ portless b
unfolding sharing_group_of
group-is a b has_a has_b same =
    same_Some (portless a) (portless b) (sym (mark-read (portless a) has_a) ∙ ap recorded_terms same ∙ mark-read (portless b) has_b)

-- terms that are alike with others are of their group
member-from_alike : (a b : Terms) → are_alike a b ≡ true → is_member (sharing_group_of b) a ≡ true
member-from_alike a b e =
    let one = one-from_alike a b e in
    and_from (not (is_nil a.key)) (is_grouped (sharing_group_of b) a) one.given
    ((bytes_eq-Decides (sharing_group_of a) (sharing_group_of b)).1 (group-same a b one.key one.backend))

member-alike : (a b : Terms) → HasSharingGroup a → HasSharingGroup b → is_nil b.key ≡ false → is_member (sharing_group_of b) a ≡ are_alike a b
member-alike a b has_a has_b given =
    same_from_decides (is_member (sharing_group_of b) a) (are_alike a b) (to, member-from_alike a b) (λ e. e, λ e. e)
  where
    to : is_member (sharing_group_of b) a ≡ true → are_alike a b ≡ true
    to e =
        let parts = and_parts (not (is_nil a.key)) (is_grouped (sharing_group_of b) a) e in
        let one : portless a ≡ portless b =
        group-is a b (has_a (not-true (is_nil a.key) parts.0)) (has_b given) ((bytes_eq-Decides (sharing_group_of a) (sharing_group_of b)).0 parts.1) in
        alike-from_one a b (record { key = ap (λ (t : Terms). t.key) one; given = parts.0; backend = ap (λ (t : Terms). t.backend) one })

-- ---- how many claims on an address aren't alike with the terms
subtracted : (l g o x : ℕ) → l ≡ g + (o + x) → (l - g == o) ≡ (x == 0)
subtracted l g o x is = grind (arith, nat_tests, is)

none-by : {X : Type 0} (b : Bool) (x : X) (kept : List X) (all : Bool) → (length kept == 0) ≡ all → (length (cond (not b) (x ∷ kept) kept) == 0) ≡ (b && all)
none-by true x kept all ih = ih
none-by false x kept all ih = grind (arith, nat_tests)

none-left : {X : Type 0} (test : X → Bool) (xs : List X) → (length (filter (λ x. not (test x)) xs) == 0) ≡ list_all test xs
none-left test [] = grind (arith, nat_tests)
none-left test (x ∷ xs) = none-by (test x) x (filter (λ y. not (test y)) xs) (list_all test xs) (none-left test xs)

module _ (key : Key) (terms : Terms) (a : AddressValue) where
  -- the key's claims that aren't alike, and the others'
  abbrev pub own_odd : List (ℕ × ClaimValue) → List (ℕ × ClaimValue)
  own_odd items = filter (λ p. same_key p.1.key key && is_odd terms a (Some p.1)) items

  abbrev others_odd : List (ℕ × ClaimValue) → List ClaimValue
  others_odd items = filter (λ c. not (belongs key terms a c)) (values_of items)

  count-by : (own has alike : Bool) (p : ℕ × ClaimValue) (all grouped : List ℕ) (odd : List (ℕ × ClaimValue)) (rest : List ClaimValue)
      → length all ≡ length grouped + (length odd + length rest)
      → length (cond has (p.0 ∷ []) [] ++ all)
      ≡ length (cond alike (cond has (p.0 ∷ []) []) [] ++ grouped)
      + (length (cond (own && (has && not alike)) (p ∷ odd) odd) + length (cond (not (not has || (own || alike))) (p.1 ∷ rest) rest))
  count-by true true true p all grouped odd rest ih = omega (arith, ih)
  count-by true true false p all grouped odd rest ih = omega (arith, ih)
  count-by true false true p all grouped odd rest ih = ih
  count-by true false false p all grouped odd rest ih = ih
  count-by false true true p all grouped odd rest ih = omega (arith, ih)
  count-by false true false p all grouped odd rest ih = omega (arith, ih)
  count-by false false true p all grouped odd rest ih = ih
  count-by false false false p all grouped odd rest ih = ih

  counted : (items : List (ℕ × ClaimValue))
      → ((p : ℕ × ClaimValue) → Contains items p → is_member (sharing_group_of terms) p.1.terms ≡ are_alike p.1.terms terms)
      → length (numbers_at Any a items) ≡ length (numbers_at (OfSharingGroup (sharing_group_of terms)) a items) +
      (length (own_odd items) + length (others_odd items))
  counted [] alike = refl
  counted (p ∷ items) alike =
      let has = has_address p.1.holding.addresses a in
      let grouped = numbers_at (OfSharingGroup (sharing_group_of terms)) a items in
      let rest = length (own_odd (p ∷ items)) + length (others_odd (p ∷ items)) in
      count-by (same_key p.1.key key) has (are_alike p.1.terms terms) p (numbers_at Any a items) grouped (own_odd items) (others_odd items)
      (counted items (λ q there. alike q (contains-later p items q there)))
      ∙ ap (λ (b : Bool). length (cond b (cond has (p.0 ∷ []) []) [] ++ grouped) + rest) (sym (alike p (contains-first p items)))

  -- where as many aren't of the group as there are of the key that aren't alike, all others are alike
  pub belong-is : (items : List (ℕ × ClaimValue)) → HaveSharingGroups (values_of items) → HasSharingGroup terms → is_nil terms.key ≡ false
      → (length (numbers_at Any a items) - length (numbers_at (OfSharingGroup (sharing_group_of terms)) a items) == length (own_odd items))
      ≡ list_all (belongs key terms a) (values_of items)
  belong-is items have has given =
      subtracted (length (numbers_at Any a items)) (length (numbers_at (OfSharingGroup (sharing_group_of terms)) a items)) (length (own_odd items))
      (length (others_odd items))
      (counted items (λ p there. member-alike p.1.terms terms (have p.1 (Contains-values_of items p.0 p.1 there)) has given))
      ∙ none-left (belongs key terms a) (values_of items)

-- ---- where the claims of others on an address are alike with the terms, those with a port of theirs decide
not-neither : (b : Bool) → not (b && false) ≡ true
not-neither true = refl
not-neither false = refl

shares-alike : (terms t : Terms) → are_alike t terms ≡ true
    → ((port : Port) → Contains terms.ports port → (not ((is_member (sharing_group_of terms) t && has_port t.ports port) && true) || false) ≡ true)
    → may_share terms t ≡ true
shares-alike terms t alike each =
    let parts = and_parts (bytes_eq terms.key t.key && not (is_nil terms.key)) (is_alike terms.backend t.backend) (alike-flip t terms alike) in
    let none : list_any (has_port t.ports) terms.ports ≡ false =
    false_from_ne_true (list_any (has_port t.ports) terms.ports) (λ some.
    let found = any-found (has_port t.ports) terms.ports some in
    let member = member-from_alike t terms alike in
    true≢false (sym (subst (λ (b : Bool). (not ((b && true) && true) || false) ≡ true) member
    (subst (λ (b : Bool). (not ((is_member (sharing_group_of terms) t && b) && true) || false) ≡ true) found.2 (each found.0 found.1))))) in
    and_from (bytes_eq terms.key t.key && not (is_nil terms.key) && not (list_any (has_port t.ports) terms.ports)) (is_alike terms.backend t.backend)
    (and_from (bytes_eq terms.key t.key && not (is_nil terms.key)) (not (list_any (has_port t.ports) terms.ports)) parts.0 (ap not none))
    parts.1

-- a claim whose terms are alike leaves the address where it yields each port
leaves-each : (own has : Bool) (terms held : Terms) → (not has || (own || are_alike held terms)) ≡ true
    → ((port : Port) → Contains terms.ports port → (not ((is_member (sharing_group_of terms) held && has_port held.ports port) && has) || own) ≡ true)
    → (own || not has || may_share terms held) ≡ true
leaves-each true has terms held alike each = refl
leaves-each false false terms held alike each = refl
leaves-each false true terms held alike each = shares-alike terms held alike each

-- and where it leaves the address it is alike
alike-left : (own has : Bool) (terms held : Terms) → (own || not has || may_share terms held) ≡ true → (not has || (own || are_alike held terms)) ≡ true
alike-left true true terms held left = refl
alike-left true false terms held left = refl
alike-left false false terms held left = refl
alike-left false true terms held left =
    let most = and_parts (bytes_eq terms.key held.key && not (is_nil terms.key) && not (list_any (has_port held.ports) terms.ports))
    (is_alike terms.backend held.backend) left in
    let keys = and_parts (bytes_eq terms.key held.key && not (is_nil terms.key)) (not (list_any (has_port held.ports) terms.ports)) most.0 in
    alike-flip terms held (and_from (bytes_eq terms.key held.key && not (is_nil terms.key)) (is_alike terms.backend held.backend) keys.0 most.1)

-- and where it leaves the address it yields each port
pub yields-left : (own has : Bool) (terms held : Terms) (port : Port) → Contains terms.ports port
    → (own || not has || may_share terms held) ≡ true → (not ((is_member (sharing_group_of terms) held && has_port held.ports port) && has) || own) ≡ true
yields-left true has terms held port there left = or-true (not ((is_member (sharing_group_of terms) held && has_port held.ports port) && has))
yields-left false false terms held port there left = rw not-neither refl
yields-left false true terms held port there left =
    let most = and_parts (bytes_eq terms.key held.key && not (is_nil terms.key) && not (list_any (has_port held.ports) terms.ports))
    (is_alike terms.backend held.backend) left in
    let keys = and_parts (bytes_eq terms.key held.key && not (is_nil terms.key)) (not (list_any (has_port held.ports) terms.ports)) most.0 in
    let apart : has_port held.ports port ≡ false =
    false_from_ne_true (has_port held.ports port)
    (λ some. true≢false
    (sym (any-contains (has_port held.ports) terms.ports port there some) ∙ not-true (list_any (has_port held.ports) terms.ports) keys.1)) in
    ap (λ (b : Bool). not ((is_member (sharing_group_of terms) held && b) && true) || false) apart ∙ without (is_member (sharing_group_of terms) held)
  where
    without : (b : Bool) → (not ((b && false) && true) || false) ≡ true
    without true = refl
    without false = refl

module _ (claims : List ClaimValue) (key : Key) (terms : Terms) (a : AddressValue) where
  -- each claim in the slot of the port is of the key
  abbrev yields_port : Port → Bool
  yields_port port = list_all (yields key (OfPort port (sharing_group_of terms)) a) claims

  leave-to : (list_all (belongs key terms a) claims && list_all yields_port terms.ports) ≡ true → list_all (leaves key terms a) claims ≡ true
  leave-to both =
      let parts = and_parts (list_all (belongs key terms a) claims) (list_all yields_port terms.ports) both in
      all-from (leaves key terms a) claims (λ c there.
      leaves-each (same_key c.key key) (has_address c.holding.addresses a) terms c.terms
      (all-contains (belongs key terms a) claims c parts.0 there)
      (λ port at. all-contains (yields key (OfPort port (sharing_group_of terms)) a) claims c (all-contains yields_port terms.ports port parts.1 at) there))

  leave-back : list_all (leaves key terms a) claims ≡ true → (list_all (belongs key terms a) claims && list_all yields_port terms.ports) ≡ true
  leave-back left =
      and_from (list_all (belongs key terms a) claims) (list_all yields_port terms.ports)
      (all-from (belongs key terms a) claims (λ c there.
      alike-left (same_key c.key key) (has_address c.holding.addresses a) terms c.terms (all-contains (leaves key terms a) claims c left there)))
      (all-from yields_port terms.ports (λ port at.
      all-from (yields key (OfPort port (sharing_group_of terms)) a) claims (λ c there.
      yields-left (same_key c.key key) (has_address c.holding.addresses a) terms c.terms port at (all-contains (leaves key terms a) claims c left there))))

  pub leave-is : (list_all (belongs key terms a) claims && list_all yields_port terms.ports) ≡ list_all (leaves key terms a) claims
  leave-is =
      same_from_decides (list_all (belongs key terms a) claims && list_all yields_port terms.ports) (list_all (leaves key terms a) claims)
      (leave-to, leave-back) (λ e. e, λ e. e)
