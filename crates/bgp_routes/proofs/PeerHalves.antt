-- Where the halves of peers by ascending name meet, there a peer stands, if it is among them.
use Rattle.std.proofs.Common.{◌≡◌, ℕ, zero, suc, ◌<◌, Bool, true, false, cond, ◌&&◌, ◌==◌, List, [], ◌∷◌, map, find, length}
use Rattle.std.proofs.Common.{get_or, Option, Some, None, Ordering, Less, Equal, Greater, refl, sym, ap, subst, ◌∙◌, arith}
use Rattle.std.proofs.lemmas.Bool.{and_parts, true≢false, false_from_ne_true}
use Rattle.std.proofs.lemmas.Slice.Eq.{bytes_eq-Decides}
use Rattle.std.specs.Cmp.{tied_itself}
use Rattle.std.specs.List.{AllByRecursion, slice_get}
use Rattle.std.specs.List.Sorted.{IsPartitionPoint, IsPartitionedBy, IsStrictlySortedBy}
use Rattle.std.specs.Option.{option_and_then}
use Rattle.std.specs.Ordering.{is_lt}
use Rattle.std.specs.Str.{bytes_eq}
use Rattle.kube_labels.specs.Names.{name_cmp}
use Rattle.kube_labels.proofs.NameLaws.{name_cmp-total}
use Rattle.pool_config.specs.ConfigValue.{Ascend}
use Rattle.pool_config.specs.declared.compiled.CompiledBgp.{CompiledBgp}
use Rattle.pool_config.specs.declared.compiled.CompiledPeer.{CompiledPeer}
use Rattle.speaker_view.specs.ViewValue.{ViewValue}
use Rattle.bgp_routes.specs.declared.kept_config.KeptPeer.{KeptPeer}
use Rattle.bgp_routes.specs.KeptConfig.{is_before, is_kept_of, peer_by}
use Rattle.bgp_routes.specs.Peers.{peers_of}

abbrev names : List KeptPeer → List (List ℕ)
names peers = map (λ held. held.name) peers

-- each name is before all that follow
abbrev Names : List KeptPeer → Type 0
Names [] = Unit {0}
Names (held ∷ peers) = AllByRecursion (λ n. name_cmp held.name n ≡ Less) (names peers) × Names peers

ascending : (peers : List KeptPeer) → Ascend (names peers) → Names peers
unfolding IsStrictlySortedBy
ascending [] ascend = tt
ascending (held ∷ peers) ascend = (ascend.0, ascending peers ascend.1)

-- what is held has the names of the peers that it is held of
same-names : (labels : List (List ℕ × List ℕ)) (bgp : List CompiledBgp) (peers : List CompiledPeer)
    → map (λ (held : KeptPeer). held.name) (map (peer_by labels bgp) peers) ≡ map (λ (peer : CompiledPeer). peer.name) peers
same-names labels bgp [] = refl
same-names labels bgp (peer ∷ peers) = ap (λ ns. peer.name ∷ ns) (same-names labels bgp peers)

pub names-held : (labels : List (List ℕ × List ℕ)) (bgp : List CompiledBgp) (v : ViewValue) → Ascend (map (λ (peer : CompiledPeer). peer.name) (peers_of v))
    → Ascend (names (map (peer_by labels bgp) (peers_of v)))
names-held labels bgp v ascend = subst Ascend (sym (same-names labels bgp (peers_of v))) ascend

-- ---- halves
less-is : (r : Ordering) → is_lt r ≡ true → r ≡ Less
less-is Less e = refl
less-is Equal e = absurd (true≢false (sym e))
less-is Greater e = absurd (true≢false (sym e))

module _ (peer : CompiledPeer) where
  abbrev pub AreHalves : List KeptPeer → ℕ → Type 0
  AreHalves peers at = IsPartitionPoint (λ held. is_before peer held ≡ true) (λ held. is_before peer held ≡ false) peers at

  before-before : (g h : KeptPeer) → name_cmp g.name h.name ≡ Less → is_before peer h ≡ true → is_before peer g ≡ true
  before-before g h first e = ap is_lt (name_cmp-total.trans g.name h.name peer.name first (less-is (name_cmp h.name peer.name) e))

  less-at : (name : List ℕ) (peers : List KeptPeer) (at : ℕ) (d : KeptPeer) → AllByRecursion (λ n. name_cmp name n ≡ Less) (names peers) → at < length peers
      → name_cmp name (get_or peers at d).name ≡ Less
  less-at name [] at d all lt = absurd (omega arith)
  less-at name (held ∷ peers) zero d all lt = all.0
  less-at name (held ∷ peers) (suc at) d all lt = less-at name peers at d all.1 (omega arith)

  halves : (peers : List KeptPeer) → Names peers → IsPartitionedBy (is_before peer) peers
  halves [] ascend i j d le lt before = absurd (omega arith)
  halves (held ∷ peers) ascend zero zero d le lt before = before
  halves (held ∷ peers) ascend zero (suc j) d le lt before = before-before held (get_or peers j d) (less-at held.name peers j d ascend.0 (omega arith)) before
  halves (held ∷ peers) ascend (suc i) zero d le lt before = absurd (omega arith)
  halves (held ∷ peers) ascend (suc i) (suc j) d le lt before = halves peers ascend.1 i j d (omega arith) (omega arith) before

  pub has-halves : (peers : List KeptPeer) → Ascend (names peers) → IsPartitionedBy (is_before peer) peers
  has-halves peers ascend = halves peers (ascending peers ascend)

  -- a peer that is found has the name
  own-name : (held : KeptPeer) → is_kept_of peer held ≡ true → held.name ≡ peer.name
  own-name held e =
      let parts = and_parts (bytes_eq held.name peer.name && (held.my_asn == peer.my_asn)) (held.peer_asn == peer.peer_asn) e in
      let first = and_parts (bytes_eq held.name peer.name) (held.my_asn == peer.my_asn) parts.0 in
      (bytes_eq-Decides held.name peer.name).0 first.0

  before-other : (held : KeptPeer) → is_before peer held ≡ true → is_kept_of peer held ≡ false
  before-other held before =
      false_from_ne_true (is_kept_of peer held) (λ own.
      let same : name_cmp held.name peer.name ≡ Equal = ap (λ n. name_cmp n peer.name) (own-name held own) ∙ tied_itself name_cmp-total peer.name in
      true≢false (sym before ∙ ap is_lt same))

  none-behind : (head : KeptPeer) (peers : List KeptPeer) → is_before peer head ≡ false → AllByRecursion (λ n. name_cmp head.name n ≡ Less) (names peers)
      → find (is_kept_of peer) peers ≡ None
  none-behind head [] late all = refl
  none-behind head (held ∷ peers) late all =
      let other : is_kept_of peer held ≡ false =
      false_from_ne_true (is_kept_of peer held) (λ own.
      let less : name_cmp head.name peer.name ≡ Less = ap (name_cmp head.name) (sym (own-name held own)) ∙ all.0 in
      true≢false (sym (ap is_lt less) ∙ late)) in
      rw other (none-behind head peers late all.1)

  abbrev held_at : KeptPeer → Option KeptPeer
  held_at held = cond (is_kept_of peer held) (Some held) None

  tail : (held : KeptPeer) (peers : List KeptPeer) (at : ℕ) → AreHalves (held ∷ peers) (suc at) → AreHalves peers at
  tail held peers at meet = (λ k d low high. meet.0 (suc k) d (omega arith) (omega arith), λ k d low high. meet.1 (suc k) d (omega arith) (omega arith))

  found-at : (peers : List KeptPeer) (at : ℕ) → Names peers → AreHalves peers at → find (is_kept_of peer) peers ≡ option_and_then held_at (slice_get peers at)
  found-at [] at ascend meet = refl
  found-at (held ∷ peers) zero ascend meet =
      ap (cond (is_kept_of peer held) (Some held)) (none-behind held peers (meet.1 zero held (omega arith) (omega arith)) ascend.0)
  found-at (held ∷ peers) (suc at) ascend meet =
      rw (before-other held (meet.0 zero held (omega arith) (omega arith))) (found-at peers at ascend.1 (tail held peers at meet))

  -- Where they meet, the peer stands, if it is among them.
  pub found-there : (peers : List KeptPeer) (at : ℕ) (there : KeptPeer) (own : Bool) → Ascend (names peers) → AreHalves peers at
      → slice_get peers at ≡ Some there → is_kept_of peer there ≡ own
      → find (is_kept_of peer) peers ≡ cond own (Some there) None
  found-there peers at there own ascend meet is same =
      found-at peers at (ascending peers ascend) meet ∙ ap (option_and_then held_at) is ∙ ap (λ b. cond b (Some there) None) same

  -- Where they meet at the end, it isn't.
  pub found-past : (peers : List KeptPeer) (at : ℕ) → Ascend (names peers) → AreHalves peers at → slice_get peers at ≡ None
      → find (is_kept_of peer) peers ≡ None
  found-past peers at ascend meet past = found-at peers at (ascending peers ascend) meet ∙ ap (option_and_then held_at) past
