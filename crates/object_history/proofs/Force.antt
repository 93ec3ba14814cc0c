-- The configuration in force is the one that was last accepted.
use Rattle.std.proofs.Common.{◌≡◌, ◌↔◌, ℕ, ◌<◌, Bool, true, false, cond, leb, not, ◌&&◌, List, [], ◌∷◌, ◌++◌, Option}
use Rattle.std.proofs.Common.{Some, None, Result, Ok, Err, refl, sym, ap, subst, ◌∙◌, arith, leb-true, leb-false}
use Rattle.std.proofs.lemmas.Bool.{and_parts}
use Rattle.std.specs.Cmp.{IsTotalOrder}
use Rattle.std.proofs.lemmas.Map.Lookups.{CmpEqualImpliesEq}
use Rattle.kube_model.specs.declared.bgp.BgpAdv.{BgpAdv}
use Rattle.kube_model.specs.declared.community.CommunityList.{CommunityList}
use Rattle.kube_model.specs.declared.config_fault.ConfigFault.{ConfigFault}
use Rattle.kube_model.specs.declared.event.Event.TheVariants.{Changed, Deleted, ListEnd, Expired, Members, Frame, Ignored}
use Rattle.kube_model.specs.declared.event.ListGroup.{ListGroup}
use Rattle.kube_model.specs.declared.event.ListGroup.TheVariants as groups
use Rattle.kube_model.specs.declared.l2.L2Adv.{L2Adv}
use Rattle.kube_model.specs.declared.object.Object.{Object}
use Rattle.kube_model.specs.declared.object.Object.TheVariants as objects
use Rattle.kube_model.specs.declared.peer.BgpPeer.{BgpPeer}
use Rattle.kube_model.specs.declared.pool.Pool.{Pool}
use Rattle.versioned_map.specs.declared.map.Versioned.{Versioned}
use Rattle.versioned_map.specs.Objects.{held_at, version_at, is_newer}
use Rattle.pool_config.specs.ConfigValue.{ConfigValue}
use Rattle.pool_config.specs.declared.object_set.ObjectSet.{ObjectSet}
use Rattle.pool_config.specs.Compile.{compiled}
use Rattle.pool_config.specs.Objects.{set_shows}
use Rattle.object_history.specs.Kinds.{Resource, pool_resource, l2_resource, bgp_resource, peer_resource, community_resource}
use Rattle.object_history.specs.Kinds.{service_resource, namespace_resource, node_resource, slice_resource}
use Rattle.object_history.specs.Observations.{Observation, Watched, WatchExpired, Written, same_group, is_config_kind}
use Rattle.object_history.specs.Cache.{compiles, objects_after, in_force, cached}
use Rattle.object_history.specs.LookBack.{version_last_shown, version_of, HasEnded, AreAsShown, IsSetAsShown}
use Rattle.object_history.specs.LookBack.{IsNewerConfig, Compiles, IsAccepted, NoneAccepted, IsInForce}
use Rattle.object_history.specs.AsShown.{AllIsAsShown, AllVersionsAreShown}
use Rattle.object_history.proofs.Cached.{held_of, held_at-held_of, as_shown, services-held, pools-held, l2s-held, bgps-held}
use Rattle.object_history.proofs.Cached.{peers-held, communities-held, namespaces-held, nodes-held, slices-held, objects-as_shown}
use Rattle.object_history.proofs.Cached.{same_group-is, config_ended-is, services_ended-is, endpoints_ended-is, ended_both}
use Rattle.kube_labels.proofs.NameLaws.{name_cmp-total, name_cmp-exact}
use Rattle.kube_model.proofs.KeyLaws.{key_cmp-total, key_cmp-exact}
use Rattle.versioned_map.proofs.Unique.{entries-same}

-- ---- the objects as they were last shown are those alone
same_option : {X : Type 0} → (a b : Option X) → ((x : X) → a ≡ Some x → b ≡ Some x) → ((x : X) → b ≡ Some x → a ≡ Some x) → a ≡ b
same_option None None f newest = refl
same_option None (Some y) f newest = newest y refl
same_option (Some x) b f newest = sym (f x refl)

module _ {K T : Type 0} (resource : Resource K T) (o : IsTotalOrder resource.cmp) (exact : CmpEqualImpliesEq resource.cmp) where
  same_shown : (a b : List (K × Versioned T)) (observations : List Observation) → AreAsShown resource a observations → AreAsShown resource b observations
      → a ≡ b
  same_shown a b observations i j =
      entries-same o exact a b i.ascend j.ascend
      (λ key. same_option (held_at resource.cmp a key) (held_at resource.cmp b key) (λ held e. (j.each key held).1 ((i.each key held).0 e))
      (λ held e. (i.each key held).1 ((j.each key held).0 e)))

set_of : (p q : List (List ℕ × Versioned Pool)) (l m : List (List ℕ × Versioned L2Adv)) (b c : List (List ℕ × Versioned BgpAdv))
    (d e : List (List ℕ × Versioned BgpPeer)) (f newest : List (List ℕ × Versioned CommunityList))
    → p ≡ q → l ≡ m → b ≡ c → d ≡ e → f ≡ newest
    → (let x : ObjectSet = record { pools = p; l2s = l; bgps = b; peers = d; communities = f } in
    let y : ObjectSet = record { pools = q; l2s = m; bgps = c; peers = e; communities = newest } in x ≡ y)
set_of p q l m b c d e f newest observation i j k n = cc

same_set : (a b : ObjectSet) (observations : List Observation) → IsSetAsShown a observations → IsSetAsShown b observations → a ≡ b
same_set a b observations i j =
    set_of a.pools b.pools a.l2s b.l2s a.bgps b.bgps a.peers b.peers a.communities b.communities
    (same_shown pool_resource name_cmp-total name_cmp-exact a.pools b.pools observations i.pools j.pools)
    (same_shown l2_resource name_cmp-total name_cmp-exact a.l2s b.l2s observations i.l2s j.l2s)
    (same_shown bgp_resource name_cmp-total name_cmp-exact a.bgps b.bgps observations i.bgps j.bgps)
    (same_shown peer_resource name_cmp-total name_cmp-exact a.peers b.peers observations i.peers j.peers)
    (same_shown community_resource name_cmp-total name_cmp-exact a.communities b.communities observations i.communities j.communities)

-- ---- where the configuration is compiled
module _ {K T : Type 0} (resource : Resource K T) (exact : CmpEqualImpliesEq resource.cmp) (o : IsTotalOrder resource.cmp) where
  version-is : (entries : List (K × Versioned T)) (observations : List Observation) (key : K) → entries ≡ held_of resource observations
      → version_at resource.cmp entries key ≡ version_last_shown resource key observations
  version-is entries observations key e =
      ap (λ (l : List (K × Versioned T)). version_at resource.cmp l key) e ∙ ap (version_of resource key) (held_at-held_of resource o exact observations key)

  newer_by : (old : Bool) (before version : ℕ) → old ≡ leb version before → (not old ≡ true) ↔ (before < version)
  newer_by true before version e = (λ t. absurd (cc), λ less. absurd (omega (arith, less, leb-true version before (sym e))))
  newer_by false before version e = (λ t. leb-false version before (sym e), λ less. refl)

  newer-is : (entries : List (K × Versioned T)) (observations : List Observation) (key : K) (version : ℕ) → entries ≡ held_of resource observations
      → (is_newer resource.cmp entries key version ≡ true) ↔ (version_last_shown resource key observations < version)
  newer-is entries observations key version e = newer_by (leb version (version_at resource.cmp entries key)) (version_last_shown resource key observations)
      version (ap (leb version) (version-is entries observations key e))

both_hold : (a b : Bool) (P Q : Type 0) → (a ≡ true) ↔ P → (b ≡ true) ↔ Q → ((a && b) ≡ true) ↔ (P × Q)
both_hold a b P Q p q = (λ t. let parts = and_parts a b t in (p.0 parts.0, q.0 parts.1), λ w. rw (p.1 w.0, q.1 w.1) refl)

never : (a b : Bool) (Q : Type 0) → a ≡ false → ((a && b) ≡ true) ↔ (⊥ × Q)
never true b Q e = absurd (cc)
never false b Q e = (λ t. absurd (cc), λ w. absurd w.0)

kind_holds : (a b : Bool) (Q : Type 0) → (b ≡ true) ↔ Q → ((a && b) ≡ true) ↔ ((a ≡ true) × Q)
kind_holds a b Q q = both_hold a b (a ≡ true) Q (λ t. t, λ t. t) q

end_compiles : (group : ListGroup) → (same_group group groups.Config ≡ true) ↔ (group ≡ groups.Config)
end_compiles group = (same_group-is group groups.Config, λ e. rw e refl)

never_compiles : (false ≡ true) ↔ ⊥
never_compiles = (λ t. absurd (cc), λ w. absurd w)

module _ (earlier : List Observation) where
  ended : ((cached earlier).config_ended ≡ true) ↔ HasEnded groups.Config earlier
  ended = ended_both (cached earlier).config_ended groups.Config earlier (config_ended-is earlier)

  newer : (version : ℕ) (object : Object) → (set_shows (cached earlier).objects version object ≡ true) ↔ IsNewerConfig earlier version object
  newer version (objects.Pool pool) =
      newer-is pool_resource name_cmp-exact name_cmp-total (cached earlier).objects.pools earlier pool.name version (pools-held earlier)
  newer version (objects.L2 adv) = newer-is l2_resource name_cmp-exact name_cmp-total (cached earlier).objects.l2s earlier adv.name version (l2s-held earlier)
  newer version (objects.Bgp adv) =
      newer-is bgp_resource name_cmp-exact name_cmp-total (cached earlier).objects.bgps earlier adv.name version (bgps-held earlier)
  newer version (objects.Peer peer) =
      newer-is peer_resource name_cmp-exact name_cmp-total (cached earlier).objects.peers earlier peer.name version (peers-held earlier)
  newer version (objects.Community community) =
      newer-is community_resource name_cmp-exact name_cmp-total (cached earlier).objects.communities earlier community.name version (communities-held earlier)
  newer version (objects.Service service) = never_compiles
  newer version (objects.Namespace namespace) = never_compiles
  newer version (objects.Node node) = never_compiles
  newer version (objects.Slice slice) = never_compiles

  pub compiles-is : (observation : Observation)
      → (compiles (cached earlier).objects (cached earlier).config_ended observation ≡ true) ↔ Compiles earlier observation
  compiles-is (Watched (Changed version object)) =
      both_hold (set_shows (cached earlier).objects version object) (cached earlier).config_ended (IsNewerConfig earlier version object)
      (HasEnded groups.Config earlier) (newer version object) ended
  compiles-is (Watched (Deleted kind key)) = kind_holds (is_config_kind kind) (cached earlier).config_ended (HasEnded groups.Config earlier) ended
  compiles-is (Watched (ListEnd group)) = end_compiles group
  compiles-is (Watched Expired) = never_compiles
  compiles-is (Watched (Members names)) = never_compiles
  compiles-is (Watched (Frame interface bytes)) = never_compiles
  compiles-is (Watched Ignored) = never_compiles
  compiles-is (WatchExpired group) = never_compiles
  compiles-is (Written key version holding) = never_compiles

-- ---- the last that was accepted
compiled_now : (observation : Observation) (earlier : List Observation) (config : ConfigValue) → IsAccepted config observation earlier
    → compiled (objects_after observation (cached earlier).objects) ≡ Ok config
compiled_now observation earlier config a =
    let same : a.held ≡ (cached (observation ∷ earlier)).objects =
    same_set a.held (cached (observation ∷ earlier)).objects (observation ∷ earlier) a.shown (objects-as_shown (observation ∷ earlier)) in
    ap compiled (sym same) ∙ a.accepted

-- where none is accepted, the last one stays
stays : (compiles' : Bool) (observation : Observation) (earlier : List Observation) (made : Result ConfigValue ConfigFault) (before : Option ConfigValue)
    → compiles' ≡ compiles (cached earlier).objects (cached earlier).config_ended observation
    → made ≡ compiled (objects_after observation (cached earlier).objects)
    → ((config : ConfigValue) → IsAccepted config observation earlier → ⊥) → cond compiles' (in_force before made) before ≡ before
stays false observation earlier made before c m none = refl
stays true observation earlier (Err fault) before c m none = refl
stays true observation earlier (Ok config) before c m none =
    absurd (none config (record {
      compiles = (compiles-is earlier observation).0 (sym c);
      held = (cached (observation ∷ earlier)).objects;
      shown = objects-as_shown (observation ∷ earlier);
      accepted = sym m;
    }))

config_stays : (observation : Observation) (earlier : List Observation) → ((config : ConfigValue) → IsAccepted config observation earlier → ⊥)
    → (cached (observation ∷ earlier)).config ≡ (cached earlier).config
config_stays observation earlier none =
    stays (compiles (cached earlier).objects (cached earlier).config_ended observation) observation earlier
    (compiled (objects_after observation (cached earlier).objects)) (cached earlier).config refl refl none

config_through : (later : List Observation) (observation : Observation) (earlier : List Observation) (config : ConfigValue)
    → IsAccepted config observation earlier → NoneAccepted later (observation ∷ earlier) → (cached (later ++ observation ∷ earlier)).config ≡ Some config
config_through [] observation earlier config a none =
    let due : compiles (cached earlier).objects (cached earlier).config_ended observation ≡ true = (compiles-is earlier observation).1 a.compiles in
    rw (due, compiled_now observation earlier config a) refl
config_through (newest ∷ later) observation earlier config a none =
    config_stays newest (later ++ observation ∷ earlier) none.0 ∙ config_through later observation earlier config a none.1

force_on : (observation : Observation) (earlier : List Observation) (config : ConfigValue) → ((c : ConfigValue) → IsAccepted c observation earlier → ⊥)
    → IsInForce config earlier → IsInForce config (observation ∷ earlier)
force_on observation earlier config none i =
    record {
      later = observation ∷ i.later;
      observation = i.observation;
      earlier = i.earlier;
      split = ap (λ (l : List Observation). observation ∷ l) i.split;
      accepted = i.accepted;
      lasts = (λ c a. none c (subst (λ (l : List Observation). IsAccepted c observation l) (sym i.split) a), i.lasts);
    }

force_by : (compiles' : Bool) (observation : Observation) (earlier : List Observation) (made : Result ConfigValue ConfigFault) (config : ConfigValue)
    → compiles' ≡ compiles (cached earlier).objects (cached earlier).config_ended observation
    → made ≡ compiled (objects_after observation (cached earlier).objects)
    → ((cached earlier).config ≡ Some config → IsInForce config earlier)
    → cond compiles' (in_force (cached earlier).config made) (cached earlier).config ≡ Some config → IsInForce config (observation ∷ earlier)
force_by false observation earlier made config c m ih e =
    force_on observation earlier config (λ other a. let due : false ≡ true = c ∙ (compiles-is earlier observation).1 a.compiles in absurd (cc)) (ih e)
force_by true observation earlier (Err fault) config c m ih e =
    force_on observation earlier config (λ other a. let made : Err fault ≡ Ok other = m ∙ compiled_now observation earlier other a in absurd (cc)) (ih e)
force_by true observation earlier (Ok made) config c m ih e =
    let same : made ≡ config = cc in
    record {
      later = [];
      observation = observation;
      earlier = earlier;
      split = refl;
      accepted = record {
        compiles = (compiles-is earlier observation).0 (sym c);
        held = (cached (observation ∷ earlier)).objects;
        shown = objects-as_shown (observation ∷ earlier);
        accepted = sym m ∙ ap (λ (x : ConfigValue). Ok x) same;
      };
      lasts = tt;
    }

config-is : (observations : List Observation) (config : ConfigValue) → (cached observations).config ≡ Some config → IsInForce config observations
config-is [] config e = absurd (cc)
config-is (observation ∷ earlier) config e =
    force_by (compiles (cached earlier).objects (cached earlier).config_ended observation) observation earlier
    (compiled (objects_after observation (cached earlier).objects)) config refl refl (config-is earlier config) e

is-config : (observations : List Observation) (config : ConfigValue) → IsInForce config observations → (cached observations).config ≡ Some config
is-config observations config i =
    ap (λ (l : List Observation). (cached l).config) i.split ∙ config_through i.later i.observation i.earlier config i.accepted i.lasts

-- ---- all of it
pub all_is_as_shown : AllIsAsShown
all_is_as_shown observations =
    record {
      services = as_shown service_resource key_cmp-total key_cmp-exact _ observations (services-held observations);
      config_objects = objects-as_shown observations;
      namespaces = as_shown namespace_resource name_cmp-total name_cmp-exact _ observations (namespaces-held observations);
      nodes = as_shown node_resource name_cmp-total name_cmp-exact _ observations (nodes-held observations);
      slices = as_shown slice_resource key_cmp-total key_cmp-exact _ observations (slices-held observations);
      config_ended = ended_both (cached observations).config_ended groups.Config observations (config_ended-is observations);
      services_ended = ended_both (cached observations).services_ended groups.Service observations (services_ended-is observations);
      endpoints_ended = ended_both (cached observations).endpoints_ended groups.Endpoint observations (endpoints_ended-is observations);
      config = λ config. (config-is observations config, is-config observations config);
    }

pub all_versions_are_shown : AllVersionsAreShown
all_versions_are_shown observations =
    record {
      services = λ key. version-is service_resource key_cmp-exact key_cmp-total _ observations key (services-held observations);
      pools = λ key. version-is pool_resource name_cmp-exact name_cmp-total _ observations key (pools-held observations);
      l2s = λ key. version-is l2_resource name_cmp-exact name_cmp-total _ observations key (l2s-held observations);
      bgps = λ key. version-is bgp_resource name_cmp-exact name_cmp-total _ observations key (bgps-held observations);
      peers = λ key. version-is peer_resource name_cmp-exact name_cmp-total _ observations key (peers-held observations);
      communities = λ key. version-is community_resource name_cmp-exact name_cmp-total _ observations key (communities-held observations);
      namespaces = λ key. version-is namespace_resource name_cmp-exact name_cmp-total _ observations key (namespaces-held observations);
      nodes = λ key. version-is node_resource name_cmp-exact name_cmp-total _ observations key (nodes-held observations);
      slices = λ key. version-is slice_resource key_cmp-exact key_cmp-total _ observations key (slices-held observations);
    }
