-- L2 advertisements are read as they are spelled.
use Rattle.std.proofs.Common.{◌≡◌, [], unwrap_or, Ok, codes, refl}
use Rattle.serde_json.specs.Data.{Data}
use Rattle.kube_model.specs.declared.object.Kind.TheVariants as kinds
use Rattle.kube_model.specs.declared.object.Object.TheVariants as objects
use Rattle.kube_events.specs.ObjectFields.{body_of}
use Rattle.kube_events.specs.Fields.{pools_field, pool_selectors_field, node_selectors_field}
use Rattle.kube_events.specs.L2Fields.{interfaces_field, l2_of}
use Rattle.event_laws.specs.ObjectLines.{spelled, object_fields, selectors_spelled}
use Rattle.event_laws.specs.L2Lines.{l2_fields, L2AdvsAreRead}
use Rattle.event_laws.proofs.Spelled.{spec_value, head_read, texts_read, selectors_read}

pub l2_advs_are_read : L2AdvsAreRead
unfolding body_of l2_of
l2_advs_are_read line s n spells is_head =
    let d : Data = spelled (object_fields (codes "L2Advertisement") s.head s.without_spec (l2_fields s)) in
    let pools : pools_field d ≡ Ok (unwrap_or s.pools []) = texts_read (codes "spec.ipAddressPools") d s.pools
    (spec_value (codes "spec.ipAddressPools") (codes "ipAddressPools") (codes "L2Advertisement") s.head s.without_spec (l2_fields s) refl) in
    let pool_selectors : pool_selectors_field d ≡ Ok (selectors_spelled s.pool_selectors) =
    selectors_read (codes "spec.ipAddressPoolSelectors") d s.pool_selectors (spec_value (codes "spec.ipAddressPoolSelectors")
    (codes "ipAddressPoolSelectors") (codes "L2Advertisement") s.head s.without_spec (l2_fields s) refl) in
    let node_selectors : node_selectors_field d ≡ Ok (selectors_spelled s.node_selectors) = selectors_read (codes "spec.nodeSelectors") d s.node_selectors
    (spec_value (codes "spec.nodeSelectors") (codes "nodeSelectors") (codes "L2Advertisement") s.head s.without_spec (l2_fields s) refl) in
    let interfaces : interfaces_field d ≡ Ok (unwrap_or s.interfaces []) = texts_read (codes "spec.interfaces") d s.interfaces
    (spec_value (codes "spec.interfaces") (codes "interfaces") (codes "L2Advertisement") s.head s.without_spec (l2_fields s) refl) in
    head_read kinds.L2 line s.head s.without_spec (l2_fields s) n
    (λ key labels. objects.L2 (record {
      name = key.name;
      pools = unwrap_or s.pools [];
      pool_selectors = selectors_spelled s.pool_selectors;
      node_selectors = selectors_spelled s.node_selectors;
      interfaces = unwrap_or s.interfaces [];
    }))
    spells (λ d. refl) is_head (rw (pools, pool_selectors, node_selectors, interfaces) refl)
