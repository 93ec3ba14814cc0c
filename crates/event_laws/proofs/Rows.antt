-- The first faulty row ends the reading.
use Rattle.std.proofs.Common.{◌≡◌, [], ◌∷◌, ◌++◌, Option, Some, None, Result, Ok, Err, refl, sym, ◌∙◌}
use Rattle.serde_json.specs.Data.{Data}
use Rattle.json_fields.specs.Path.{Path}
use Rattle.json_fields.specs.Reading.{◌>>=◌}
use Rattle.kube_model.specs.declared.object.Kind.{Kind}
use Rattle.kube_model.specs.declared.object.Kind.TheVariants as kinds
use Rattle.kube_events.specs.Fields.{key_of, name_field, namespace_field, version_field, labels_field, pools_field, pool_selectors_field, node_selectors_field}
use Rattle.kube_events.specs.ServiceFields.{annotations_field, balancer_field, class_field, address_field, families_field}
use Rattle.kube_events.specs.ServiceFields.{prefer_dual_field, policy_field, selector_field, ports_field, places_field, service_of}
use Rattle.kube_events.specs.PoolFields.{entries_field, auto_assign_field, avoid_buggy_field, allocation_field, pool_of}
use Rattle.kube_events.specs.L2Fields.{interfaces_field, l2_of}
use Rattle.kube_events.specs.BgpFields.{length_field, length_v6_field, local_pref_field, communities_field, peers_field, bgp_of}
use Rattle.kube_events.specs.PeerFields.{my_asn_field, peer_asn_field, peer_of}
use Rattle.kube_events.specs.CommunityFields.{named_values_field}
use Rattle.kube_events.specs.SliceFields.{endpoints_field, slice_of}
use Rattle.kube_events.specs.ObjectFields.{body_of, stated_object, changed_of, deleted_of}
use Rattle.event_laws.specs.FieldOrder.{fault, Rows, first_of, service_rows, pool_rows, l2_rows, bgp_rows}
use Rattle.event_laws.specs.FieldOrder.{peer_rows, own_rows, FaultIsFirst, StatedFaultIsFirst, DeletedFaultIsFirst}

passed : (xs ys : Rows) → first_of xs ≡ None → first_of (xs ++ ys) ≡ first_of ys
passed [] ys none = refl
passed (None ∷ xs) ys none = passed xs ys none
passed (Some path ∷ xs) ys none = absurd cc

stopped : (xs ys : Rows) (path : Path) → first_of xs ≡ Some path → first_of (xs ++ ys) ≡ Some path
stopped [] ys path at = absurd cc
stopped (None ∷ xs) ys path at = stopped xs ys path at
stopped (Some other ∷ xs) ys path at = at

-- rows, and after them other rows
then_rows : {A B : Type 0} (read : Result A Path) (next : A → Result B Path) (xs ys : Rows)
    → fault read ≡ first_of xs → ((x : A) → fault (next x) ≡ first_of ys) → fault (read >>= next) ≡ first_of (xs ++ ys)
then_rows (Ok x) next xs ys first others = others x ∙ sym (passed xs ys (sym first))
then_rows (Err path) next xs ys first others = sym (stopped xs ys path (sym first))

-- a row, and after it other rows
pub then_row : {A B : Type 0} (read : Result A Path) (next : A → Result B Path) (ys : Rows)
    → ((x : A) → fault (next x) ≡ first_of ys) → fault (read >>= next) ≡ first_of (fault read ∷ ys)
then_row (Ok x) next ys others = others x
then_row (Err path) next ys others = refl

-- rows, and after them what can't fail
ended : {A B : Type 0} (read : Result A Path) (next : A → Result B Path) (row : Option Path)
    → fault read ≡ row → ((x : A) → fault (next x) ≡ None) → fault (read >>= next) ≡ row
ended (Ok x) next row first fine = fine x ∙ first
ended (Err path) next row first fine = first

-- a row before rows whose first fault is the same
under : (row : Option Path) (xs ys : Rows) → first_of xs ≡ first_of ys → first_of (row ∷ xs) ≡ first_of (row ∷ ys)
under None xs ys same = same
under (Some path) xs ys same = refl

-- a row that stood before
twice : (row : Option Path) (rows : Rows) → first_of (row ∷ row ∷ rows) ≡ first_of (row ∷ rows)
twice None rows = refl
twice (Some path) rows = refl

-- a row alone
pub only : (row : Option Path) → row ≡ first_of (row ∷ [])
only None = refl
only (Some path) = refl

-- ---- each kind

service_first : (d : Data) → fault (service_of d) ≡ first_of (service_rows d)
unfolding service_of
service_first d =
    then_row (annotations_field d) _ _ (λ annotations.
    then_row (balancer_field d) _ _ (λ balancer.
    then_row (class_field d) _ _ (λ class.
    then_row (address_field d) _ _ (λ address.
    then_row (families_field d) _ _ (λ families.
    then_row (prefer_dual_field d) _ _ (λ prefer_dual.
    then_row (policy_field d) _ _ (λ policy.
    then_row (selector_field d) _ _ (λ selector.
    then_row (ports_field d) _ _ (λ ports.
    then_row (places_field d) _ [] (λ places. refl))))))))))

pool_first : (d : Data) → fault (pool_of d) ≡ first_of (pool_rows d)
unfolding pool_of
pool_first d =
    then_row (entries_field d) _ _ (λ entries.
    then_row (auto_assign_field d) _ _ (λ auto_assign.
    then_row (avoid_buggy_field d) _ _ (λ avoid_buggy.
    then_row (allocation_field d) _ [] (λ allocation. refl))))

l2_first : (d : Data) → fault (l2_of d) ≡ first_of (l2_rows d)
unfolding l2_of
l2_first d =
    then_row (pools_field d) _ _ (λ pools.
    then_row (pool_selectors_field d) _ _ (λ pool_selectors.
    then_row (node_selectors_field d) _ _ (λ node_selectors.
    then_row (interfaces_field d) _ [] (λ interfaces. refl))))

bgp_first : (d : Data) → fault (bgp_of d) ≡ first_of (bgp_rows d)
unfolding bgp_of
bgp_first d =
    then_row (length_field d) _ _ (λ length.
    then_row (length_v6_field d) _ _ (λ length_v6.
    then_row (local_pref_field d) _ _ (λ local_pref.
    then_row (communities_field d) _ _ (λ communities.
    then_row (pools_field d) _ _ (λ pools.
    then_row (pool_selectors_field d) _ _ (λ pool_selectors.
    then_row (node_selectors_field d) _ _ (λ node_selectors.
    then_row (peers_field d) _ [] (λ peers. refl))))))))

peer_first : (d : Data) → fault (peer_of d) ≡ first_of (peer_rows d)
unfolding peer_of
peer_first d =
    then_row (my_asn_field d) _ _ (λ my_asn.
    then_row (peer_asn_field d) _ _ (λ peer_asn.
    then_row (node_selectors_field d) _ [] (λ node_selectors. refl)))

slice_first : (d : Data) → fault (slice_of d) ≡ first_of (fault (labels_field d) ∷ fault (endpoints_field d) ∷ [])
unfolding slice_of
slice_first d =
    then_row (labels_field d) _ _ (λ labels.
    then_row (endpoints_field d) _ [] (λ endpoints. refl))

-- The labels of an endpoint slice are read once more for its service.
body_first : (kind : Kind) (d : Data) → first_of (fault (labels_field d) ∷ fault (body_of kind d) ∷ []) ≡ first_of (fault (labels_field d) ∷ own_rows kind d)
unfolding body_of
body_first kinds.Service d =
    under (fault (labels_field d)) _ _ (sym (only (fault (body_of kinds.Service d))) ∙ ended (service_of d) _ _ (service_first d) (λ make. refl))
body_first kinds.Pool d = under (fault (labels_field d)) _ _ (sym (only (fault (body_of kinds.Pool d))) ∙ ended (pool_of d) _ _ (pool_first d) (λ make. refl))
body_first kinds.L2 d = under (fault (labels_field d)) _ _ (sym (only (fault (body_of kinds.L2 d))) ∙ ended (l2_of d) _ _ (l2_first d) (λ make. refl))
body_first kinds.Bgp d = under (fault (labels_field d)) _ _ (sym (only (fault (body_of kinds.Bgp d))) ∙ ended (bgp_of d) _ _ (bgp_first d) (λ make. refl))
body_first kinds.Peer d = under (fault (labels_field d)) _ _ (sym (only (fault (body_of kinds.Peer d))) ∙ ended (peer_of d) _ _ (peer_first d) (λ make. refl))
body_first kinds.Community d = under (fault (labels_field d))
    _ _ (sym (only (fault (body_of kinds.Community d))) ∙ ended (named_values_field d) _ _ (only (fault (named_values_field d))) (λ values. refl))
body_first kinds.Namespace d = under (fault (labels_field d)) (None ∷ []) [] refl
body_first kinds.Node d = under (fault (labels_field d)) (None ∷ []) [] refl
body_first kinds.Slice d = under (fault (labels_field d))
    _ _ (sym (only (fault (body_of kinds.Slice d))) ∙ ended (slice_of d) _ _ (slice_first d) (λ make. refl)) ∙ twice (fault (labels_field d)) _

-- ---- objects

key_first : (kind : Kind) (d : Data) → fault (key_of kind d) ≡ first_of (fault (name_field d) ∷ fault (namespace_field kind d) ∷ [])
unfolding key_of
key_first kind d =
    then_row (name_field d) _ _ (λ name.
    then_row (namespace_field kind d) _ [] (λ namespace. refl))

pub fault_is_first : FaultIsFirst
unfolding changed_of
fault_is_first kind d =
    let read : Rows = fault (labels_field d) ∷ fault (body_of kind d) ∷ [] in
    then_rows (key_of kind d) _ (fault (name_field d) ∷ fault (namespace_field kind d) ∷ []) (fault (version_field d) ∷ read) (key_first kind d) (λ key.
    then_row (version_field d) _ read (λ version.
    then_row (labels_field d) _ (fault (body_of kind d) ∷ []) (λ labels.
    then_row (body_of kind d) _ [] (λ make. refl))))
    ∙ under (fault (name_field d)) _ _ (under (fault (namespace_field kind d)) _ _ (under (fault (version_field d)) read _ (body_first kind d)))

pub stated_fault_is_first : StatedFaultIsFirst
unfolding stated_object
stated_fault_is_first kind d =
    then_rows (key_of kind d) _ (fault (name_field d) ∷ fault (namespace_field kind d) ∷ []) (fault (labels_field d) ∷ fault (body_of kind d) ∷ [])
    (key_first kind d) (λ key.
    then_row (labels_field d) _ (fault (body_of kind d) ∷ []) (λ labels.
    then_row (body_of kind d) _ [] (λ make. refl)))
    ∙ under (fault (name_field d)) _ _ (under (fault (namespace_field kind d)) _ _ (body_first kind d))

pub deleted_fault_is_first : DeletedFaultIsFirst
unfolding deleted_of
deleted_fault_is_first kind d =
    then_rows (key_of kind d) _ (fault (name_field d) ∷ fault (namespace_field kind d) ∷ []) (fault (version_field d) ∷ []) (key_first kind d) (λ key.
    then_row (version_field d) _ [] (λ version. refl))
