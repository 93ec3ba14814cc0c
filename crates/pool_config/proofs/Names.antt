-- Each object stays under its own name.
use Rattle.std.proofs.Common.{◌≡◌, ℕ, Bool, true, false, cond, List, [], ◌∷◌, Ordering, Less, Equal, Greater, refl, ◌∙◌}
use Rattle.std.specs.BTreeMap.{insert_entry, is_at}
use Rattle.std.specs.Map.{remove_entry}
use Rattle.std.specs.Ordering.{match_ordering}
use Rattle.std.specs.Prelude.{nat_le}
use Rattle.kube_labels.proofs.NameLaws.{name_cmp-exact}
use Rattle.kube_labels.specs.Names.{name_cmp}
use Rattle.kube_model.specs.declared.object.Object.{Object}
use Rattle.kube_model.specs.declared.object.Object.TheVariants as objects
use Rattle.kube_model.specs.declared.object.Kind.{Kind}
use Rattle.kube_model.specs.declared.object.Kind.TheVariants as kinds
use Rattle.versioned_map.specs.declared.map.Versioned.{Versioned}
use Rattle.versioned_map.specs.Objects.{shown, expired, listed, is_listed, version_at}
use Rattle.pool_config.specs.declared.object_set.ObjectSet.{ObjectSet}
use Rattle.pool_config.specs.Laws.{AreNamed, IsNamed, NamesAreKept}
use Rattle.pool_config.specs.Objects.{set_put, set_shown, set_without}

module _ {T : Type 0} (name_of : T → List ℕ) where
  put_by : (r : Ordering) (name : List ℕ) (v : Versioned T) (e : List ℕ × Versioned T) (es : List (List ℕ × Versioned T)) → name_cmp name e.0 ≡ r
      → name_of v.object ≡ name → AreNamed name_of (insert_entry name_cmp es name v) → AreNamed name_of (e ∷ es)
      → AreNamed name_of (match_ordering r ((name, v) ∷ e ∷ es) ((e.0, v) ∷ es) (e ∷ insert_entry name_cmp es name v))
  put_by Less name v e es is new rest all = (new, all)
  put_by Equal name v e es is new rest all = (new ∙ name_cmp-exact name e.0 is, all.1)
  put_by Greater name v e es is new rest all = (all.0, rest)

  put : (es : List (List ℕ × Versioned T)) (name : List ℕ) (v : Versioned T) → name_of v.object ≡ name → AreNamed name_of es
      → AreNamed name_of (insert_entry name_cmp es name v)
  put [] name v new all = (new, tt)
  put (e ∷ es) name v new all = put_by (name_cmp name e.0) name v e es refl new (put es name v new all.1) all

  shown_by : (b : Bool) (es more : List (List ℕ × Versioned T)) → AreNamed name_of es → AreNamed name_of more → AreNamed name_of (cond b es more)
  shown_by true es more held new = held
  shown_by false es more held new = new

  show : (es : List (List ℕ × Versioned T)) (version : ℕ) (object : T) → AreNamed name_of es
      → AreNamed name_of (shown name_cmp es (name_of object) version object)
  show es version object all =
      shown_by (nat_le version (version_at name_cmp es (name_of object))) es _ all
      (put es (name_of object) (record { version = version; object = object }) refl all)

  removed_by : (b : Bool) (e : List ℕ × Versioned T) (es less : List (List ℕ × Versioned T)) → AreNamed name_of less → AreNamed name_of (e ∷ es)
      → AreNamed name_of (cond b es (e ∷ less))
  removed_by true e es less rest all = all.1
  removed_by false e es less rest all = (all.0, rest)

  remove : (test : List ℕ → Bool) (es : List (List ℕ × Versioned T)) → AreNamed name_of es → AreNamed name_of (remove_entry test es)
  remove test [] all = tt
  remove test (e ∷ es) all = removed_by (test e.0) e es (remove_entry test es) (remove test es all.1) all

  expire : (es : List (List ℕ × Versioned T)) → AreNamed name_of es → AreNamed name_of (expired es)
  expire [] all = tt
  expire (e ∷ es) all = (all.0, expire es all.1)

  listed_by : (b : Bool) (e : List ℕ × Versioned T) (less : List (List ℕ × Versioned T)) → name_of e.1.object ≡ e.0 → AreNamed name_of less
      → AreNamed name_of (cond b (e ∷ less) less)
  listed_by true e less here rest = (here, rest)
  listed_by false e less here rest = rest

  list : (es : List (List ℕ × Versioned T)) → AreNamed name_of es → AreNamed name_of (listed es)
  list [] all = tt
  list (e ∷ es) all = listed_by (is_listed e) e (listed es) all.0 (list es all.1)

pub names_are_kept : NamesAreKept
names_are_kept = record {
  empty = (tt, tt, tt, tt, tt);
  set = is_set;
  shown = is_shown;
  removed = is_removed;
  expired = λ s (pools, l2s, bgps, peers, communities). (
    expire (λ p. p.name) s.pools pools,
    expire (λ a. a.name) s.l2s l2s,
    expire (λ a. a.name) s.bgps bgps,
    expire (λ p. p.name) s.peers peers,
    expire (λ c. c.name) s.communities communities,
  );
  listed = λ s (pools, l2s, bgps, peers, communities). (
    list (λ p. p.name) s.pools pools,
    list (λ a. a.name) s.l2s l2s,
    list (λ a. a.name) s.bgps bgps,
    list (λ p. p.name) s.peers peers,
    list (λ c. c.name) s.communities communities,
  );
}
  where
    is_set : (s : ObjectSet) (object : Object) → IsNamed s → IsNamed (set_put s object)
    is_set s (objects.Pool pool) (pools, l2s, bgps, peers, communities) = (put (λ p. p.name) s.pools pool.name _ refl pools, l2s, bgps, peers, communities)
    is_set s (objects.L2 adv) (pools, l2s, bgps, peers, communities) = (pools, put (λ a. a.name) s.l2s adv.name _ refl l2s, bgps, peers, communities)
    is_set s (objects.Bgp adv) (pools, l2s, bgps, peers, communities) = (pools, l2s, put (λ a. a.name) s.bgps adv.name _ refl bgps, peers, communities)
    is_set s (objects.Peer peer) (pools, l2s, bgps, peers, communities) = (pools, l2s, bgps, put (λ p. p.name) s.peers peer.name _ refl peers, communities)
    is_set s (objects.Community community) (pools, l2s, bgps, peers, communities) =
        (pools, l2s, bgps, peers, put (λ c. c.name) s.communities community.name _ refl communities)
    is_set s (objects.Service service) named = named
    is_set s (objects.Namespace namespace) named = named
    is_set s (objects.Node node) named = named
    is_set s (objects.Slice slice) named = named

    is_shown : (s : ObjectSet) (version : ℕ) (object : Object) → IsNamed s → IsNamed (set_shown s version object)
    is_shown s version (objects.Pool pool) (pools, l2s, bgps, peers, communities) =
        (show (λ p. p.name) s.pools version pool pools, l2s, bgps, peers, communities)
    is_shown s version (objects.L2 adv) (pools, l2s, bgps, peers, communities) = (pools, show (λ a. a.name) s.l2s version adv l2s, bgps, peers, communities)
    is_shown s version (objects.Bgp adv) (pools, l2s, bgps, peers, communities) = (pools, l2s, show (λ a. a.name) s.bgps version adv bgps, peers, communities)
    is_shown s version (objects.Peer peer) (pools, l2s, bgps, peers, communities) =
        (pools, l2s, bgps, show (λ p. p.name) s.peers version peer peers, communities)
    is_shown s version (objects.Community community) (pools, l2s, bgps, peers, communities) =
        (pools, l2s, bgps, peers, show (λ c. c.name) s.communities version community communities)
    is_shown s version (objects.Service service) named = named
    is_shown s version (objects.Namespace namespace) named = named
    is_shown s version (objects.Node node) named = named
    is_shown s version (objects.Slice slice) named = named

    is_removed : (s : ObjectSet) (kind : Kind) (name : List ℕ) → IsNamed s → IsNamed (set_without s kind name)
    is_removed s kinds.Pool name (pools, l2s, bgps, peers, communities) =
        (remove (λ p. p.name) (is_at (name_cmp name)) s.pools pools, l2s, bgps, peers, communities)
    is_removed s kinds.L2 name (pools, l2s, bgps, peers, communities) =
        (pools, remove (λ a. a.name) (is_at (name_cmp name)) s.l2s l2s, bgps, peers, communities)
    is_removed s kinds.Bgp name (pools, l2s, bgps, peers, communities) =
        (pools, l2s, remove (λ a. a.name) (is_at (name_cmp name)) s.bgps bgps, peers, communities)
    is_removed s kinds.Peer name (pools, l2s, bgps, peers, communities) =
        (pools, l2s, bgps, remove (λ p. p.name) (is_at (name_cmp name)) s.peers peers, communities)
    is_removed s kinds.Community name (pools, l2s, bgps, peers, communities) =
        (pools, l2s, bgps, peers, remove (λ c. c.name) (is_at (name_cmp name)) s.communities communities)
    is_removed s kinds.Service name named = named
    is_removed s kinds.Namespace name named = named
    is_removed s kinds.Node name named = named
    is_removed s kinds.Slice name named = named
