-- The test of sharing is its relation, which is symmetric.
use Rattle.std.proofs.Common.{◌≡◌, ◌≢◌, ◌↔◌, ℕ, true, false, not, ◌&&◌, eqb, eqb-true, List, [], ◌∷◌, refl, sym, ap, ◌∙◌, subst}
use Rattle.std.proofs.lemmas.Bool.{and_parts, and_from, not-true, not_from_false, eq-eqb, false_from_ne_true, true≢false}
use Rattle.std.proofs.lemmas.Slice.Eq.{bytes_eq-Decides}
use Rattle.std.specs.Cmp.Lexicographic.{pointwise}
use Rattle.std.specs.List.{Contains, list_any}
use Rattle.std.specs.Str.{bytes_eq}
use Rattle.std.specs.Bool.{Decides}
use Rattle.kube_labels.specs.Pairs.{pair_eq}
use Rattle.kube_labels.proofs.PairLaws.{pairs_eq-Decides}
use Rattle.kube_model.specs.declared.port.Port.{Port}
use Rattle.kube_model.specs.declared.port.Protocol.{Protocol}
use Rattle.kube_model.specs.declared.port.Protocol.TheVariants.{Tcp, Udp, Sctp}
use Rattle.sharing_terms.specs.declared.terms.Terms.{Terms}
use Rattle.sharing_terms.specs.declared.terms.Backend.{Backend}
use Rattle.sharing_terms.specs.declared.terms.Backend.TheVariants.{Cluster, Local}
use Rattle.mlb_base.specs.Items.{is_nil}
use Rattle.sharing_terms.specs.Sharing.{MayShare, AreAlike, same_protocol, same_port, has_port, is_alike, may_share}
use Rattle.mlb_base.proofs.Among.{any-contains, any-found}

same_protocol-is : (p q : Protocol) → same_protocol p q ≡ true → p ≡ q
same_protocol-is Tcp Tcp e = refl
same_protocol-is Tcp Udp e = absurd (cc)
same_protocol-is Tcp Sctp e = absurd (cc)
same_protocol-is Udp Tcp e = absurd (cc)
same_protocol-is Udp Udp e = refl
same_protocol-is Udp Sctp e = absurd (cc)
same_protocol-is Sctp Tcp e = absurd (cc)
same_protocol-is Sctp Udp e = absurd (cc)
same_protocol-is Sctp Sctp e = refl

same_protocol-itself : (p : Protocol) → same_protocol p p ≡ true
same_protocol-itself Tcp = refl
same_protocol-itself Udp = refl
same_protocol-itself Sctp = refl

pub same_port-is : (p q : Port) → same_port p q ≡ true → p ≡ q
same_port-is p q e =
    let parts = and_parts (same_protocol p.protocol q.protocol) (eqb p.port q.port) e in
    let protocols : p.protocol ≡ q.protocol = same_protocol-is p.protocol q.protocol parts.0 in
    let numbers : p.port ≡ q.port = eqb-true p.port q.port parts.1 in
    let protocol : Protocol → Port = λ x. record { protocol = x; port = p.port } in
    let number : ℕ → Port = λ n. record { protocol = q.protocol; port = n } in
    ap protocol protocols ∙ ap number numbers

pub same_port-itself : (p : Port) → same_port p p ≡ true
same_port-itself p = and_from (same_protocol p.protocol p.protocol) (eqb p.port p.port) (same_protocol-itself p.protocol) (eq-eqb p.port p.port refl)

has_port-is : (ports : List Port) (p : Port) → has_port ports p ≡ true → Contains ports p
has_port-is ports p e =
    let found = any-found (same_port p) ports e in
    subst (λ q. Contains ports q) (sym (same_port-is p found.0 found.2)) found.1

has_port-from : (ports : List Port) (p : Port) → Contains ports p → has_port ports p ≡ true
has_port-from ports p found = any-contains (same_port p) ports p found (same_port-itself p)

pub alike-is : (a b : Backend) → is_alike a b ≡ true → AreAlike a b
alike-is Cluster Cluster e = tt
alike-is Cluster (Local n s) e = true≢false (sym e)
alike-is (Local n s) Cluster e = true≢false (sym e)
alike-is (Local n s) (Local m t) e =
    let parts = and_parts (bytes_eq n m) (pointwise pair_eq s t) e in
    ((bytes_eq-Decides n m).0 parts.0, (pairs_eq-Decides s t).0 parts.1)

pub alike-from : (a b : Backend) → AreAlike a b → is_alike a b ≡ true
alike-from Cluster Cluster h = refl
alike-from Cluster (Local n s) h = absurd h
alike-from (Local n s) Cluster h = absurd h
alike-from (Local n s) (Local m t) h =
    and_from (bytes_eq n m) (pointwise pair_eq s t) ((bytes_eq-Decides n m).1 h.0) ((pairs_eq-Decides s t).1 h.1)

alike-turned : (a b : Backend) → AreAlike a b → AreAlike b a
alike-turned Cluster Cluster h = tt
alike-turned Cluster (Local n s) h = h
alike-turned (Local n s) Cluster h = h
alike-turned (Local n s) (Local m t) h = (sym h.0, sym h.1)

nothing-is : (xs : List ℕ) → not (is_nil xs) ≡ true → xs ≢ []
nothing-is [] e = λ _. true≢false (sym e)
nothing-is (x ∷ xs) e = λ none. absurd (cc)

nothing-from : (xs : List ℕ) → xs ≢ [] → not (is_nil xs) ≡ true
nothing-from [] given = absurd (given refl)
nothing-from (x ∷ xs) given = refl

pub may_share-is : (a b : Terms) → may_share a b ≡ true → MayShare a b
may_share-is a b e =
    let three = and_parts (bytes_eq a.key b.key && not (is_nil a.key) && not (list_any (has_port b.ports) a.ports)) (is_alike a.backend b.backend) e in
    let two = and_parts (bytes_eq a.key b.key && not (is_nil a.key)) (not (list_any (has_port b.ports) a.ports)) three.0 in
    let one = and_parts (bytes_eq a.key b.key) (not (is_nil a.key)) two.0 in
    record {
      same_key = (bytes_eq-Decides a.key b.key).0 one.0;
      has_key = nothing-is a.key one.1;
      apart = λ port here there.
          true≢false (sym (any-contains (has_port b.ports) a.ports port here (has_port-from b.ports port there))
          ∙ not-true (list_any (has_port b.ports) a.ports) two.1);
      alike = alike-is a.backend b.backend three.1;
    }

pub may_share-from : (a b : Terms) → MayShare a b → may_share a b ≡ true
may_share-from a b h =
    let none : list_any (has_port b.ports) a.ports ≡ false = false_from_ne_true (list_any (has_port b.ports) a.ports)
    (λ some. let found = any-found (has_port b.ports) a.ports some in h.apart found.0 found.1 (has_port-is b.ports found.0 found.2)) in
    and_from (bytes_eq a.key b.key && not (is_nil a.key) && not (list_any (has_port b.ports) a.ports)) (is_alike a.backend b.backend)
    (and_from (bytes_eq a.key b.key && not (is_nil a.key)) (not (list_any (has_port b.ports) a.ports))
    (and_from (bytes_eq a.key b.key) (not (is_nil a.key)) ((bytes_eq-Decides a.key b.key).1 h.same_key) (nothing-from a.key h.has_key))
    (not_from_false (list_any (has_port b.ports) a.ports) none))
    (alike-from a.backend b.backend h.alike)

pub may_share-Decides : (a b : Terms) → Decides (may_share a b) (MayShare a b)
may_share-Decides a b = (may_share-is a b, may_share-from a b)

pub may_share-turned : (a b : Terms) → MayShare a b → MayShare b a
may_share-turned a b h =
    record {
      same_key = sym h.same_key;
      has_key = λ none. h.has_key (h.same_key ∙ none);
      apart = λ port there here. h.apart port here there;
      alike = alike-turned a.backend b.backend h.alike;
    }

pub may_share-symmetric : (a b : Terms) → (MayShare a b) ↔ (MayShare b a)
may_share-symmetric a b = (may_share-turned a b, may_share-turned b a)
