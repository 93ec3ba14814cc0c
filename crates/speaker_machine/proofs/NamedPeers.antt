-- Peers of distinct names, and those of one name with the same AS numbers.
use Rattle.std.proofs.Common.{◌≡◌, ℕ, true, false, ◌&&◌, ◌==◌, List, [], ◌∷◌, map, Option, Some, None}
use Rattle.std.proofs.Common.{Ordering, Less, refl, sym, ap, ◌∙◌, subst, inl, inr, ◌⊎◌}
use Rattle.std.proofs.lemmas.Bool.{and_parts, and_from, eq-eqb, eqb-true, true≢false}
use Rattle.std.proofs.lemmas.Slice.Eq.{bytes_eq-Decides}
use Rattle.std.specs.List.{AllByRecursion, find}
use Rattle.std.specs.List.Sorted.{IsStrictlySortedBy}
use Rattle.std.specs.Ordering.{ordering_reverse}
use Rattle.std.specs.Str.{bytes_eq}
use Rattle.kube_labels.specs.Names.{name_cmp}
use Rattle.kube_labels.proofs.NameLaws.{name_cmp-total}
use Rattle.mlb_base.specs.Items.{Has, IsIn}
use Rattle.mlb_base.proofs.Bools.{by_bool}
use Rattle.pool_config.specs.ConfigValue.{ConfigValue, IsConfig}
use Rattle.pool_config.specs.declared.compiled.CompiledPeer.{CompiledPeer}
use Rattle.speaker_view.specs.ViewValue.{ViewValue}
use Rattle.bgp_routes.specs.Peers.{peers_in, peers_of}
use Rattle.speaker_machine.specs.Updates.{IsSamePeer, IsThere, is_one_peer}

-- ---- distinct names
abbrev pub NamesAscend : List CompiledPeer → Type 0
NamesAscend peers = IsStrictlySortedBy name_cmp (map (λ (p : CompiledPeer). p.name) peers)

-- a configuration's peers have such names
pub names-known : (config : Option ConfigValue) → ((c : ConfigValue) → config ≡ Some c → IsConfig c) → NamesAscend (peers_in config)
unfolding IsStrictlySortedBy
names-known None known = tt
names-known (Some c) known = (known c refl).peers

pub names-head : (p : CompiledPeer) (peers : List CompiledPeer) → NamesAscend (p ∷ peers)
    → AllByRecursion (λ name. name_cmp p.name name ≡ Less) (map (λ (q : CompiledPeer). q.name) peers)
unfolding IsStrictlySortedBy
names-head p peers sorted = sorted.0

pub names-tail : (p : CompiledPeer) (peers : List CompiledPeer) → NamesAscend (p ∷ peers) → NamesAscend peers
unfolding IsStrictlySortedBy
names-tail p peers sorted = sorted.1

not-less : (a b : List ℕ) → name_cmp a b ≡ Less → a ≡ b → ⊥
not-less a b less same =
    let one : name_cmp a a ≡ Less = subst (λ (c : List ℕ). name_cmp a c ≡ Less) (sym same) less in
    let turned = name_cmp-total.antisymm a a in
    absurd (by (name_cmp a a) one turned)
  where
    by : (o : Ordering) → o ≡ Less → o ≡ ordering_reverse o → ⊥
    by o is turn = let wrong : Less ≡ ordering_reverse Less = subst (λ x. x ≡ ordering_reverse x) is turn in cc

pub other-name : (a b : List ℕ) → (a ≡ b → ⊥) → bytes_eq a b ≡ false
other-name a b apart = by_bool (bytes_eq a b ≡ false) (bytes_eq a b) (λ t. absurd (apart ((bytes_eq-Decides a b).0 t))) (λ f. f)

-- a peer further on has another name
pub apart-later : (p other : CompiledPeer) (peers : List CompiledPeer) → NamesAscend (p ∷ peers) → IsIn peers other → p.name ≡ other.name → ⊥
apart-later p other peers sorted there = go peers (names-head p peers sorted) there where
  go : (qs : List CompiledPeer) → AllByRecursion (λ name. name_cmp p.name name ≡ Less) (map (λ (q : CompiledPeer). q.name) qs) → IsIn qs other
      → p.name ≡ other.name → ⊥
  go [] all none same = none
  go (q ∷ qs) all (inl here) same = not-less p.name q.name all.0 (same ∙ ap (λ (x : CompiledPeer). x.name) (sym here))
  go (q ∷ qs) all (inr later) same = go qs all.1 later same

module _ (peer : CompiledPeer) where
  pub one-peer : (other : CompiledPeer) → IsSamePeer peer other → is_one_peer peer other ≡ true
  one-peer other same =
      and_from (bytes_eq other.name peer.name && (other.my_asn == peer.my_asn)) (other.peer_asn == peer.peer_asn)
      (and_from (bytes_eq other.name peer.name) (other.my_asn == peer.my_asn) ((bytes_eq-Decides other.name peer.name).1 same.name)
      (rw same.my_asn (eq-eqb peer.my_asn peer.my_asn refl)))
      (rw same.peer_asn (eq-eqb peer.peer_asn peer.peer_asn refl))

  pub peer-one : (other : CompiledPeer) → is_one_peer peer other ≡ true → IsSamePeer peer other
  peer-one other e =
      let outer = and_parts (bytes_eq other.name peer.name && (other.my_asn == peer.my_asn)) (other.peer_asn == peer.peer_asn) e in
      let inner = and_parts (bytes_eq other.name peer.name) (other.my_asn == peer.my_asn) outer.0 in
      record {
        name = (bytes_eq-Decides other.name peer.name).0 inner.0;
        my_asn = eqb-true other.my_asn peer.my_asn inner.1;
        peer_asn = eqb-true other.peer_asn peer.peer_asn outer.1;
      }

  -- a peer that is there is found, and no other
  pub found : (other : CompiledPeer) (peers : List CompiledPeer) → NamesAscend peers → IsIn peers other → IsSamePeer peer other
      → find (is_one_peer peer) peers ≡ Some other
  found other [] sorted none same = absurd none
  found other (p ∷ peers) sorted (inl here) same =
      let own : is_one_peer peer p ≡ true = one-peer p (subst (IsSamePeer peer) (sym here) same) in
      rw own (ap (λ (x : CompiledPeer). Some x) here)
  found other (p ∷ peers) sorted (inr later) same =
      by_bool (find (is_one_peer peer) (p ∷ peers) ≡ Some other) (is_one_peer peer p)
      (λ t. absurd (apart-later p other peers sorted later ((peer-one p t).name ∙ sym same.name)))
      (λ f. rw f (found other peers (names-tail p peers sorted) later same))

  pub not-found : (peers : List CompiledPeer) → ¬ (Has (IsSamePeer peer) peers) → find (is_one_peer peer) peers ≡ None
  not-found [] none = refl
  not-found (p ∷ peers) none =
      by_bool (find (is_one_peer peer) (p ∷ peers) ≡ None) (is_one_peer peer p)
      (λ t. absurd (none (inl (peer-one p t))))
      (λ f. rw f (not-found peers (λ later. none (inr later))))

  pub has-peer : (peers : List CompiledPeer) → Has (IsSamePeer peer) peers → (other : CompiledPeer) × IsIn peers other × IsSamePeer peer other
  has-peer [] none = absurd none
  has-peer (p ∷ peers) (inl here) = (p, inl refl, here)
  has-peer (p ∷ peers) (inr later) = let (other, there, same) = has-peer peers later in (other, inr there, same)

  pub peer-has : (other : CompiledPeer) (peers : List CompiledPeer) → IsIn peers other → IsSamePeer peer other → Has (IsSamePeer peer) peers
  peer-has other [] none same = none
  peer-has other (p ∷ peers) (inl here) same = inl (subst (IsSamePeer peer) (sym here) same)
  peer-has other (p ∷ peers) (inr later) same = inr (peer-has other peers later same)

  pub decided : (v : ViewValue) → IsThere peer v ⊎ (¬ (IsThere peer v))
  decided v = go (peers_of v) where
    go : (peers : List CompiledPeer) → Has (IsSamePeer peer) peers ⊎ (¬ (Has (IsSamePeer peer) peers))
    go [] = inr (λ none. none)
    go (p ∷ peers) = by_bool (Has (IsSamePeer peer) (p ∷ peers) ⊎ (¬ (Has (IsSamePeer peer) (p ∷ peers)))) (is_one_peer peer p)
        (λ t. inl (inl (peer-one p t)))
        (λ f. elim (go peers) [
          | inl there ↦ inl (inr there)
          | inr none ↦ inr (λ has. elim has [ inl own ↦ absurd (true≢false (sym (one-peer p own) ∙ f)) | inr later ↦ none later ])
        ])
