-- Sets of ports: their order is the one that a set of the code goes by; they have exactly the ports that were put in, ascending.
use Rattle.std.proofs.Common.{◌≡◌, ℕ, ◌+◌, ◌<◌, length, get_or, drop, drop-cons, add-one, append-nil, append_assoc, List, [], ◌∷◌, ◌++◌, map}
use Rattle.std.proofs.Common.{Ordering, Less, Equal, Greater, Contains, Result, Ok, Err, IfOk, ◌⊎◌, inl, inr, ⊎_elim, ◌∙◌, ap, refl, sym, subst}
use Rattle.std.proofs.lemmas.Map.Lookups.{CmpEqualImpliesEq, exact_unsigned}
use Rattle.std.specs.BTreeMap.{insert_entry}
use Rattle.std.specs.BTreeSet.{insert_key}
use Rattle.std.specs.Cmp.{IsTotalOrder, on_total, then_total, nat_cmp_total}
use Rattle.std.specs.List.{AllByRecursion}
use Rattle.std.specs.List.Sorted.{IsStrictlySortedBy}
use Rattle.std.specs.Map.{keys_of}
use Rattle.std.specs.Ordering.{nat_cmp, ordering_reverse, match_ordering}
use Rattle.mlb_base.proofs.Among.{contains-none, contains-cons, contains-first, contains-later}
use Rattle.mlb_base.proofs.Entries.{ascending-insert_entry}
use Rattle.mlb_base.proofs.Orders.{both_equal}
use Rattle.kube_model.specs.declared.port.Port.{Port}
use Rattle.kube_model.specs.declared.port.Protocol.{Protocol}
use Rattle.kube_model.specs.declared.port.Protocol.TheVariants.{Tcp, Udp, Sctp}
use Rattle.kube_model.specs.contracts.port.PortOrd.TheImpl as derived
use Rattle.sharing_terms.specs.Ports.{rank, port_cmp, AreAscending, ports_with, ports_in, ArePortsOf}

-- ---- the order of ports
by_protocols : (p q : Protocol) (m n : ℕ) → derived.cmp-value.it (record { protocol = p; port = m }) (record { protocol = q; port = n })
    ≡ port_cmp (record { protocol = p; port = m }) (record { protocol = q; port = n })
by_protocols Tcp Tcp m n = refl
by_protocols Tcp Udp m n = refl
by_protocols Tcp Sctp m n = refl
by_protocols Udp Tcp m n = refl
by_protocols Udp Udp m n = refl
by_protocols Udp Sctp m n = refl
by_protocols Sctp Tcp m n = refl
by_protocols Sctp Udp m n = refl
by_protocols Sctp Sctp m n = refl

pub port_cmp-is : derived.cmp-value.it ≡ port_cmp
port_cmp-is = λ i a b. by_protocols a.protocol b.protocol a.port b.port i

pub port_cmp-total : IsTotalOrder port_cmp
port_cmp-total = then_total (on_total (λ (p : Port). rank p.protocol) nat_cmp_total) (on_total (λ (p : Port). p.port) nat_cmp_total)

rank-apart : (p q : Protocol) → rank p ≡ rank q → p ≡ q
rank-apart Tcp Tcp e = refl
rank-apart Tcp Udp e = absurd (cc)
rank-apart Tcp Sctp e = absurd (cc)
rank-apart Udp Tcp e = absurd (cc)
rank-apart Udp Udp e = refl
rank-apart Udp Sctp e = absurd (cc)
rank-apart Sctp Tcp e = absurd (cc)
rank-apart Sctp Udp e = absurd (cc)
rank-apart Sctp Sctp e = refl

pub port_cmp-exact : CmpEqualImpliesEq port_cmp
port_cmp-exact a b e =
    let parts = both_equal (nat_cmp (rank a.protocol) (rank b.protocol)) (nat_cmp a.port b.port) e in
    let protocol : Protocol → Port = λ p. record { protocol = p; port = a.port } in
    let number : ℕ → Port = λ n. record { protocol = b.protocol; port = n } in
    ap protocol (rank-apart a.protocol b.protocol (exact_unsigned (rank a.protocol) (rank b.protocol) parts.0))
    ∙ ap number (exact_unsigned a.port b.port parts.1)

-- ---- lists of keys, each of which stands once
module _ {K : Type 0} where
  keys_of-twice : (ks : List K) → keys_of (map (λ k. (k, k)) ks) ≡ ks
  keys_of-twice [] = refl
  keys_of-twice (k ∷ ks) = ap (λ (rest : List K). k ∷ rest) (keys_of-twice ks)

  below_next : (P : K → Type 0) (kept : List K) (k : K) (rest : List K) → AllByRecursion P (kept ++ k ∷ rest) → P k
  below_next P [] k rest all = all.0
  below_next P (x ∷ kept) k rest all = below_next P kept k rest all.1

module _ {K : Type 0} (R : K → K → Ordering) where
  keys_by : (r : Ordering) (e : K × K) (es : List (K × K)) (k : K) → keys_of (insert_entry R es k k) ≡ insert_key R (keys_of es) k
      → keys_of (match_ordering r ((k, k) ∷ e ∷ es) ((e.0, k) ∷ es) (e ∷ insert_entry R es k k))
      ≡ match_ordering r (k ∷ e.0 ∷ keys_of es) (e.0 ∷ keys_of es) (e.0 ∷ insert_key R (keys_of es) k)
  keys_by Less e es k ih = refl
  keys_by Equal e es k ih = refl
  keys_by Greater e es k ih = ap (λ (ks : List K). e.0 ∷ ks) ih

  keys_of-insert_entry : (es : List (K × K)) (k : K) → keys_of (insert_entry R es k k) ≡ insert_key R (keys_of es) k
  keys_of-insert_entry [] k = refl
  keys_of-insert_entry (e ∷ es) k = keys_by (R k e.0) e es k (keys_of-insert_entry es k)

  ascending-insert_key : IsTotalOrder R → (ks : List K) (k : K) → IsStrictlySortedBy R ks → IsStrictlySortedBy R (insert_key R ks k)
  ascending-insert_key o ks k up =
      let twice = map (λ (x : K). (x, x)) ks in
      let same : keys_of (insert_entry R twice k k) ≡ insert_key R ks k =
      keys_of-insert_entry twice k ∙ ap (λ (xs : List K). insert_key R xs k) (keys_of-twice ks) in
      subst (IsStrictlySortedBy R) same (ascending-insert_entry o twice k k (subst (IsStrictlySortedBy R) (sym (keys_of-twice ks)) up))

  found_by : (r : Ordering) (k y : K) (ys : List K) (x : K) → (Contains (insert_key R ys k) x → (k ≡ x) ⊎ Contains ys x)
      → Contains (match_ordering r (k ∷ y ∷ ys) (y ∷ ys) (y ∷ insert_key R ys k)) x → (k ≡ x) ⊎ Contains (y ∷ ys) x
  found_by Less k y ys x ih there = contains-cons k (y ∷ ys) x there
  found_by Equal k y ys x ih there = inr there
  found_by Greater k y ys x ih there =
      ⊎_elim
      (λ first. inr (subst (Contains (y ∷ ys)) first (contains-first y ys)))
      (λ later. ⊎_elim (λ new. inl new) (λ old. inr (contains-later y ys x old)) (ih later))
      (contains-cons y (insert_key R ys k) x there)

  -- what is in the list with one key more is that key or was there
  contains-insert_key : (ks : List K) (k x : K) → Contains (insert_key R ks k) x → (k ≡ x) ⊎ Contains ks x
  contains-insert_key [] k x there = contains-cons k [] x there
  contains-insert_key (y ∷ ys) k x there = found_by (R k y) k y ys x (contains-insert_key ys k x) there

  kept_by : (r : Ordering) (k y : K) (ys : List K) (x : K) → R k y ≡ r → CmpEqualImpliesEq R → ((k ≡ x) ⊎ Contains ys x → Contains (insert_key R ys k) x)
      → (k ≡ x) ⊎ Contains (y ∷ ys) x → Contains (match_ordering r (k ∷ y ∷ ys) (y ∷ ys) (y ∷ insert_key R ys k)) x
  kept_by Less k y ys x is exact ih there =
      ⊎_elim (λ new. subst (Contains (k ∷ y ∷ ys)) new (contains-first k (y ∷ ys))) (λ old. contains-later k (y ∷ ys) x old) there
  kept_by Equal k y ys x is exact ih there =
      ⊎_elim (λ new. subst (Contains (y ∷ ys)) (sym (exact k y is) ∙ new) (contains-first y ys)) (λ old. old) there
  kept_by Greater k y ys x is exact ih there =
      ⊎_elim
      (λ new. contains-later y (insert_key R ys k) x (ih (inl new)))
      (λ old. ⊎_elim
      (λ first. subst (Contains (y ∷ insert_key R ys k)) first (contains-first y (insert_key R ys k)))
      (λ later. contains-later y (insert_key R ys k) x (ih (inr later)))
      (contains-cons y ys x old))
      there

  -- and the other way round
  insert_key-contains : CmpEqualImpliesEq R → (ks : List K) (k x : K) → (k ≡ x) ⊎ Contains ks x → Contains (insert_key R ks k) x
  insert_key-contains exact [] k x there = ⊎_elim (λ new. subst (Contains (k ∷ [])) new (contains-first k [])) (λ old. absurd (contains-none x old)) there
  insert_key-contains exact (y ∷ ys) k x there = kept_by (R k y) k y ys x refl exact (insert_key-contains exact ys k x) there

  -- the key after all others goes to the end
  insert_key-last : IsTotalOrder R → (kept : List K) (k : K) (rest : List K) → IsStrictlySortedBy R (kept ++ k ∷ rest) → insert_key R kept k ≡ kept ++ k ∷ []
  unfolding IsStrictlySortedBy
  insert_key-last o [] k rest up = refl
  insert_key-last o (x ∷ kept) k rest up =
      let above : R k x ≡ Greater = o.antisymm k x ∙ ap ordering_reverse (below_next (λ y. R x y ≡ Less) kept k rest up.0) in
      rw above (ap (λ (ks : List K). x ∷ ks) (insert_key-last o kept k rest up.1))

-- ---- sets of ports
ports_with-ascend : (kept ports : List Port) → AreAscending kept → AreAscending (ports_with kept ports)
ports_with-ascend kept [] up = up
ports_with-ascend kept (p ∷ ports) up = ports_with-ascend (insert_key port_cmp kept p) ports (ascending-insert_key port_cmp port_cmp-total kept p up)

ports_with-found : (kept ports : List Port) (x : Port) → Contains (ports_with kept ports) x → Contains kept x ⊎ Contains ports x
ports_with-found kept [] x there = inl there
ports_with-found kept (p ∷ ports) x there =
    ⊎_elim
    (λ first. ⊎_elim (λ new. inr (subst (Contains (p ∷ ports)) new (contains-first p ports))) (λ old. inl old) (contains-insert_key port_cmp kept p x first))
    (λ later. inr (contains-later p ports x later))
    (ports_with-found (insert_key port_cmp kept p) ports x there)

ports_with-has : (kept ports : List Port) (x : Port) → Contains kept x ⊎ Contains ports x → Contains (ports_with kept ports) x
ports_with-has kept [] x there = ⊎_elim (λ old. old) (λ none. absurd (contains-none x none)) there
ports_with-has kept (p ∷ ports) x there =
    ports_with-has (insert_key port_cmp kept p) ports x
    (⊎_elim
    (λ old. inl (insert_key-contains port_cmp port_cmp-exact kept p x (inr old)))
    (λ new. ⊎_elim (λ first. inl (insert_key-contains port_cmp port_cmp-exact kept p x (inl first))) (λ later. inr later) (contains-cons p ports x new))
    there)

nothing-ascends : AreAscending []
unfolding IsStrictlySortedBy
nothing-ascends = tt

-- the set of a list has exactly its ports, ascending
pub ports_in-are : (ports : List Port) → ArePortsOf ports (ports_in ports)
ports_in-are ports = (
  ports_with-ascend [] ports nothing-ascends,
  λ port. (
    λ there. ⊎_elim (λ none. absurd (contains-none port none)) (λ given. given) (ports_with-found [] ports port there),
    λ given. ports_with-has [] ports port (inr given),
  ),
)

ports_with-last : (kept ports : List Port) → AreAscending (kept ++ ports) → ports_with kept ports ≡ kept ++ ports
ports_with-last kept [] up = sym (append-nil kept)
ports_with-last kept (p ∷ ports) up =
    let last = insert_key-last port_cmp port_cmp-total kept p ports up in
    let moved : kept ++ p ∷ ports ≡ (kept ++ p ∷ []) ++ ports = sym (append_assoc kept (p ∷ []) ports) in
    ap (λ (k : List Port). ports_with k ports) last ∙ ports_with-last (kept ++ p ∷ []) ports (subst AreAscending moved up) ∙ sym moved

-- the set of a list that ascends is the list
pub ports_in-ascending : (ports : List Port) → AreAscending ports → ports_in ports ≡ ports
ports_in-ascending ports up = ports_with-last [] ports up

-- ---- what the calls answer
pub collected-are : {E : Type 0} (ports : List Port) (answer : Result (List Port) E) → IfOk answer (λ set. set ≡ ports_in ports)
    → IfOk answer (ArePortsOf ports)
collected-are ports (Ok set) is = subst (ArePortsOf ports) (sym is) (ports_in-are ports)
collected-are ports (Err f) is = tt

-- ---- the loops of the code
pub ports_with-next : (kept now ports all : List Port) (i : ℕ) (d : Port) → i < length ports → now ≡ insert_key port_cmp kept (get_or ports i d)
    → ports_with kept (drop i ports) ≡ all → ports_with now (drop (i + 1) ports) ≡ all
ports_with-next kept now ports all i d lt is e =
    let there = rw (drop-cons ports i d lt) at e in
    rw (is, add-one) there

pub ascending-passed : (ports rest all keys : List Port) → ports ++ rest ≡ all → rest ≡ [] → all ≡ keys → AreAscending keys → AreAscending ports
ascending-passed ports rest all keys e none is h =
    let same : ports ≡ keys = sym (append-nil ports) ∙ ap (λ (xs : List Port). ports ++ xs) (sym none) ∙ e ∙ is in
    subst AreAscending (sym same) h
