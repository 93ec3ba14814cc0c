-- Pools are read as they are spelled.
use Rattle.std.proofs.Common.{◌≡◌, List, [], ◌∷◌, true, false, option_map, unwrap_or, Ok, codes, refl, arith}
use Rattle.std.proofs.lemmas.Option.{IfSome_then}
use Rattle.serde_json.specs.Data.{Data, boolean}
use Rattle.json_fields.specs.Reading.{list_at, default_at, object_of, text_of, bool_of, number_in}
use Rattle.kube_model.specs.declared.object.Kind.TheVariants as kinds
use Rattle.kube_model.specs.declared.object.Object.TheVariants as objects
use Rattle.kube_model.specs.SelectorFields.{selector_of}
use Rattle.kube_model.specs.AllocationFields.{allocation_of}
use Rattle.kube_events.specs.ObjectFields.{body_of}
use Rattle.kube_events.specs.PoolFields.{entries_field, auto_assign_field, avoid_buggy_field, allocation_field, pool_of}
use Rattle.event_laws.specs.ObjectLines.{Field, spelled, object_fields, texts_data, number_data, selectors_data, selectors_spelled}
use Rattle.event_laws.specs.PoolLines.{AllocationLine, allocation_data, allocation_spelled, IsAllocation, pool_fields, PoolsAreRead}
use Rattle.event_laws.proofs.Spelled.{own_value, spec_value, head_read, optional_read, default_read, flag_read, number_or_read, texts_read, selectors_read}

allocation_read : (a : AllocationLine) → IsAllocation a → allocation_of (allocation_data a) ≡ Ok (allocation_spelled a)
unfolding allocation_of object_of
allocation_read a in_range =
    let fields : List Field =
    (codes "namespaceSelectors", selectors_data a.namespace_selectors) ∷
    (codes "namespaces", option_map texts_data a.namespaces) ∷
    (codes "priority", option_map number_data a.priority) ∷
    (codes "serviceSelectors", selectors_data a.service_selectors) ∷ [] in
    let d : Data = spelled fields in
    let priority : default_at (number_in 0 2147483647) (codes "priority") 0 d ≡ Ok (unwrap_or a.priority 0) = number_or_read 0 2147483647 (codes "priority") 0 d
    a.priority (own_value (codes "priority") fields refl) (IfSome_then a.priority in_range (λ n h. (omega arith, h))) in
    let namespaces : list_at text_of (codes "namespaces") d ≡ Ok (unwrap_or a.namespaces []) =
    texts_read (codes "namespaces") d a.namespaces (own_value (codes "namespaces") fields refl) in
    let namespace_selectors : list_at selector_of (codes "namespaceSelectors") d ≡ Ok (selectors_spelled a.namespace_selectors) =
    selectors_read (codes "namespaceSelectors") d a.namespace_selectors (own_value (codes "namespaceSelectors") fields refl) in
    let service_selectors : list_at selector_of (codes "serviceSelectors") d ≡ Ok (selectors_spelled a.service_selectors) =
    selectors_read (codes "serviceSelectors") d a.service_selectors (own_value (codes "serviceSelectors") fields refl) in
    rw (priority, namespaces, namespace_selectors, service_selectors) refl

pub pools_are_read : PoolsAreRead
unfolding body_of pool_of
pools_are_read line s n spells is_head in_range =
    let d : Data = spelled (object_fields (codes "IPAddressPool") s.head s.without_spec (pool_fields s)) in
    let entries : entries_field d ≡ Ok (unwrap_or s.entries []) = texts_read (codes "spec.addresses") d s.entries
    (spec_value (codes "spec.addresses") (codes "addresses") (codes "IPAddressPool") s.head s.without_spec (pool_fields s) refl) in
    let auto_assign : auto_assign_field d ≡ Ok (unwrap_or s.auto_assign true) =
    default_read bool_of boolean (codes "spec.autoAssign") true d s.auto_assign (spec_value (codes "spec.autoAssign") (codes "autoAssign")
    (codes "IPAddressPool") s.head s.without_spec (pool_fields s) refl) (λ flag. refl) flag_read in
    let avoid_buggy : avoid_buggy_field d ≡ Ok (unwrap_or s.avoid_buggy false) =
    default_read bool_of boolean (codes "spec.avoidBuggyIPs") false d s.avoid_buggy (spec_value (codes "spec.avoidBuggyIPs") (codes "avoidBuggyIPs")
    (codes "IPAddressPool") s.head s.without_spec (pool_fields s) refl) (λ flag. refl) flag_read in
    let allocation : allocation_field d ≡ Ok (option_map allocation_spelled s.allocation) = optional_read allocation_of allocation_data
    allocation_spelled IsAllocation (codes "spec.serviceAllocation") d s.allocation (spec_value (codes "spec.serviceAllocation") (codes "serviceAllocation")
    (codes "IPAddressPool") s.head s.without_spec (pool_fields s) refl) (λ a. refl) allocation_read in_range in
    head_read kinds.Pool line s.head s.without_spec (pool_fields s) n
    (λ key labels. objects.Pool (record {
      name = key.name;
      labels = labels;
      entries = unwrap_or s.entries [];
      auto_assign = unwrap_or s.auto_assign true;
      avoid_buggy = unwrap_or s.avoid_buggy false;
      allocation = option_map allocation_spelled s.allocation;
    }))
    spells (λ d. refl) is_head (rw (entries, auto_assign, avoid_buggy, allocation) refl)
