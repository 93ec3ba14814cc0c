-- The objects that make a configuration, and what happens to them.
use Rattle.std.specs.Prelude.{ℕ, Bool, false, List, [], map}
use Rattle.std.specs.Map.{remove_entry}
use Rattle.std.specs.BTreeMap.{is_at, insert_entry}
use Rattle.kube_labels.specs.Names.{name_cmp}
use Rattle.kube_model.specs.declared.pool.Pool.{Pool}
use Rattle.kube_model.specs.declared.l2.L2Adv.{L2Adv}
use Rattle.kube_model.specs.declared.bgp.BgpAdv.{BgpAdv}
use Rattle.kube_model.specs.declared.peer.BgpPeer.{BgpPeer}
use Rattle.kube_model.specs.declared.community.CommunityList.{CommunityList}
use Rattle.kube_model.specs.declared.object.Object.{Object}
use Rattle.kube_model.specs.declared.object.Object.TheVariants as objects
use Rattle.kube_model.specs.declared.object.Kind.{Kind}
use Rattle.kube_model.specs.declared.object.Kind.TheVariants as kinds
use Rattle.versioned_map.specs.declared.map.Versioned.{Versioned}
use Rattle.versioned_map.specs.Objects.{shown, is_newer, version_at, expired, listed}
use Rattle.pool_config.specs.declared.object_set.ObjectSet.{ObjectSet}

-- the objects of a kind, each under its name
abbrev pub named : {T : Type 0} → List (List ℕ × Versioned T) → List (List ℕ × T)
named entries = map (λ e. (e.0, e.1.object)) entries

-- the objects that make a configuration, of each kind by name, without their versions
pub record Objects : Type 0 where
  pub pools : List (List ℕ × Pool)
  pub l2s : List (List ℕ × L2Adv)
  pub bgps : List (List ℕ × BgpAdv)
  pub peers : List (List ℕ × BgpPeer)
  pub communities : List (List ℕ × CommunityList)

abbrev pub objects_of : ObjectSet → Objects
objects_of s = record {
  pools = named s.pools;
  l2s = named s.l2s;
  bgps = named s.bgps;
  peers = named s.peers;
  communities = named s.communities;
}

abbrev pub no_objects : ObjectSet
no_objects = record { pools = []; l2s = []; bgps = []; peers = []; communities = [] }

-- an object is shown
abbrev pub set_shown : ObjectSet → ℕ → Object → ObjectSet
set_shown s version (objects.Pool pool) = record s { pools = shown name_cmp s.pools pool.name version pool }
set_shown s version (objects.L2 adv) = record s { l2s = shown name_cmp s.l2s adv.name version adv }
set_shown s version (objects.Bgp adv) = record s { bgps = shown name_cmp s.bgps adv.name version adv }
set_shown s version (objects.Peer peer) = record s { peers = shown name_cmp s.peers peer.name version peer }
set_shown s version (objects.Community community) = record s { communities = shown name_cmp s.communities community.name version community }
set_shown s version (objects.Service service) = s
set_shown s version (objects.Namespace namespace) = s
set_shown s version (objects.Node node) = s
set_shown s version (objects.Slice slice) = s

-- an object is put in place of what is held under its name, at the version that was held
abbrev pub put_at : {T : Type 0} → List (List ℕ × Versioned T) → List ℕ → T → List (List ℕ × Versioned T)
put_at entries name object = insert_entry name_cmp entries name (record { version = version_at name_cmp entries name; object = object })

abbrev pub set_put : ObjectSet → Object → ObjectSet
set_put s (objects.Pool pool) = record s { pools = put_at s.pools pool.name pool }
set_put s (objects.L2 adv) = record s { l2s = put_at s.l2s adv.name adv }
set_put s (objects.Bgp adv) = record s { bgps = put_at s.bgps adv.name adv }
set_put s (objects.Peer peer) = record s { peers = put_at s.peers peer.name peer }
set_put s (objects.Community community) = record s { communities = put_at s.communities community.name community }
set_put s (objects.Service service) = s
set_put s (objects.Namespace namespace) = s
set_put s (objects.Node node) = s
set_put s (objects.Slice slice) = s

-- it is newer than what is held
abbrev pub set_shows : ObjectSet → ℕ → Object → Bool
set_shows s version (objects.Pool pool) = is_newer name_cmp s.pools pool.name version
set_shows s version (objects.L2 adv) = is_newer name_cmp s.l2s adv.name version
set_shows s version (objects.Bgp adv) = is_newer name_cmp s.bgps adv.name version
set_shows s version (objects.Peer peer) = is_newer name_cmp s.peers peer.name version
set_shows s version (objects.Community community) = is_newer name_cmp s.communities community.name version
set_shows s version (objects.Service service) = false
set_shows s version (objects.Namespace namespace) = false
set_shows s version (objects.Node node) = false
set_shows s version (objects.Slice slice) = false

abbrev pub set_without : ObjectSet → Kind → List ℕ → ObjectSet
set_without s kinds.Pool name = record s { pools = remove_entry (is_at (name_cmp name)) s.pools }
set_without s kinds.L2 name = record s { l2s = remove_entry (is_at (name_cmp name)) s.l2s }
set_without s kinds.Bgp name = record s { bgps = remove_entry (is_at (name_cmp name)) s.bgps }
set_without s kinds.Peer name = record s { peers = remove_entry (is_at (name_cmp name)) s.peers }
set_without s kinds.Community name = record s { communities = remove_entry (is_at (name_cmp name)) s.communities }
set_without s kinds.Service name = s
set_without s kinds.Namespace name = s
set_without s kinds.Node name = s
set_without s kinds.Slice name = s

abbrev pub set_expired : ObjectSet → ObjectSet
set_expired s = record {
  pools = expired s.pools;
  l2s = expired s.l2s;
  bgps = expired s.bgps;
  peers = expired s.peers;
  communities = expired s.communities;
}

abbrev pub set_listed : ObjectSet → ObjectSet
set_listed s = record {
  pools = listed s.pools;
  l2s = listed s.l2s;
  bgps = listed s.bgps;
  peers = listed s.peers;
  communities = listed s.communities;
}
