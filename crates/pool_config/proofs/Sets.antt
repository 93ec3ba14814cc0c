-- A set puts an object in place, or takes one out, and every other object stays.
use Rattle.std.proofs.Common.{◌≡◌, ℕ, Bool, true, false, List, cond, Option, Some, None, is_eq, refl, ◌∙◌, ap}
use Rattle.std.proofs.lemmas.Cmp.{eq_by_cmp_equiv}
use Rattle.std.proofs.lemmas.Map.{lookup-remove_entry}
use Rattle.std.proofs.lemmas.Map.Keys.{IsDistinct-from_sorted}
use Rattle.std.specs.Cmp.{Equal-is}
use Rattle.std.specs.BTreeMap.{is_at}
use Rattle.std.specs.Map.{lookup, remove_entry, keys_of}
use Rattle.std.specs.Ordering.{eq_by_cmp}
use Rattle.std.specs.Option.{option_map}
use Rattle.kube_model.specs.declared.object.Object.{Object}
use Rattle.kube_model.specs.declared.object.Object.TheVariants as objects
use Rattle.kube_labels.proofs.NameLaws.{name_cmp-total, name_cmp-exact}
use Rattle.kube_model.specs.declared.object.Kind.{Kind}
use Rattle.kube_model.specs.declared.object.Kind.TheVariants as kinds
use Rattle.versioned_map.specs.declared.map.Versioned.{Versioned}
use Rattle.versioned_map.specs.Objects.{version_at}
use Rattle.mlb_base.proofs.Entries.{lookup-insert_entry}
use Rattle.pool_config.specs.declared.object_set.ObjectSet.{ObjectSet}
use Rattle.pool_config.specs.ConfigValue.{Ascend}
use Rattle.pool_config.specs.Laws.{IsPut, IsSet, IsTakenOut, IsRemoved, IsOrdered}
use Rattle.kube_labels.specs.Names.{name_cmp}
use Rattle.pool_config.specs.Objects.{put_at, set_put, set_without}

is_put : {T : Type 0} (entries : List (List ℕ × Versioned T)) (name : List ℕ) (object : T) → IsPut entries name object (put_at entries name object)
is_put {T} entries name object = λ other.
    ap (λ (h : Option (Versioned T)). option_map (λ v. v.object) h)
    (lookup-insert_entry name_cmp-total entries name other (record { version = version_at name_cmp entries name; object = object }))
    ∙ go (is_eq (name_cmp other name)) (lookup (is_at (name_cmp other)) entries)
  where
    go : (b : Bool) (h : Option (Versioned T)) → option_map (λ v. v.object)
        (cond b (Some (record { version = version_at name_cmp entries name; object = object })) h) ≡ cond b (Some object) (option_map (λ v. v.object) h)
    go true h = refl
    go false h = refl

pub sets_put_in_place : (s : ObjectSet) (object : Object) → IsSet s object (set_put s object)
sets_put_in_place s (objects.Pool pool) = (is_put s.pools pool.name pool, refl)
sets_put_in_place s (objects.L2 adv) = (is_put s.l2s adv.name adv, refl)
sets_put_in_place s (objects.Bgp adv) = (is_put s.bgps adv.name adv, refl)
sets_put_in_place s (objects.Peer peer) = (is_put s.peers peer.name peer, refl)
sets_put_in_place s (objects.Community community) = (is_put s.communities community.name community, refl)
sets_put_in_place s (objects.Service service) = refl
sets_put_in_place s (objects.Namespace namespace) = refl
sets_put_in_place s (objects.Node node) = refl
sets_put_in_place s (objects.Slice slice) = refl

-- the same name is found from either side
flipped : (x y : List ℕ) → eq_by_cmp name_cmp x y ≡ eq_by_cmp name_cmp y x
flipped x y = (eq_by_cmp_equiv name_cmp-total).symm x y

is_taken_out : {T : Type 0} (entries : List (List ℕ × Versioned T)) (name : List ℕ) → Ascend (keys_of entries)
    → IsTakenOut entries name (remove_entry (is_at (name_cmp name)) entries)
is_taken_out {T} entries name ascends = λ other.
    ap (λ (h : Option (Versioned T)). option_map (λ v. v.object) h)
    (lookup-remove_entry (eq_by_cmp_equiv name_cmp-total) (is_at (name_cmp name)) one other entries (IsDistinct-from_sorted name_cmp (keys_of entries) ascends))
    ∙ rw (flipped name other) (go (eq_by_cmp name_cmp other name) (lookup (is_at (name_cmp other)) entries))
  where
    one : (x y : List ℕ) → is_at (name_cmp name) x ≡ true → is_at (name_cmp name) y ≡ eq_by_cmp name_cmp x y
    one x y same = let e : name ≡ x = name_cmp-exact name x ((Equal-is (name_cmp name x)).0 same) in rw e refl

    go : (b : Bool) (h : Option (Versioned T)) → option_map (λ v. v.object) (cond b None h) ≡ cond b None (option_map (λ v. v.object) h)
    go true h = refl
    go false h = refl

pub removes_take_out : (s : ObjectSet) (kind : Kind) (name : List ℕ) → IsOrdered s → IsRemoved s kind name (set_without s kind name)
removes_take_out s kinds.Pool name o = (is_taken_out s.pools name o.0, refl)
removes_take_out s kinds.L2 name o = (is_taken_out s.l2s name o.1, refl)
removes_take_out s kinds.Bgp name o = (is_taken_out s.bgps name o.2, refl)
removes_take_out s kinds.Peer name o = (is_taken_out s.peers name o.3, refl)
removes_take_out s kinds.Community name o = (is_taken_out s.communities name o.4, refl)
removes_take_out s kinds.Service name o = refl
removes_take_out s kinds.Namespace name o = refl
removes_take_out s kinds.Node name o = refl
removes_take_out s kinds.Slice name o = refl
