-- What is read of the own fields of each kind is what its rows tell.
use Rattle.std.proofs.Common.{◌≡◌, ℕ, List, [], ◌∷◌, Bool, true, false, cond, ◌||◌, map, Option, Some, None}
use Rattle.std.proofs.Common.{option_map, Result, Ok, Err, refl, sym, ap, ◌∙◌, bytes_eq, codes}
use Rattle.std.specs.Result.{result_ok}
use Rattle.ip_ranges.specs.Values.{AddressValue}
use Rattle.ip_ranges.specs.AddressText.{address_of}
use Rattle.serde_json.specs.Data.{Data, boolean, string, number, unsigned}
use Rattle.json_fields.specs.Path.{Path}
use Rattle.json_fields.specs.Reading.{optional_at, required_at, text_of, bool_of, number_in}
use Rattle.kube_model.specs.declared.service.Policy.{Policy}
use Rattle.kube_model.specs.declared.service.Policy.TheVariants.{Cluster, Local}
use Rattle.kube_model.specs.Named.{policy_named, policy_of}
use Rattle.kube_model.specs.PortFields.{port_of}
use Rattle.kube_model.specs.AllocationFields.{allocation_of}
use Rattle.kube_model.specs.EndpointFields.{endpoint_of}
use Rattle.kube_events.specs.Named.{address_in}
use Rattle.kube_events.specs.Fields.{labels_field, pools_field, pool_selectors_field, node_selectors_field}
use Rattle.kube_events.specs.ServiceFields.{annotations_field, balancer_field, class_field, address_field, families_field, prefer_dual_field}
use Rattle.kube_events.specs.ServiceFields.{policy_field, selector_field, ports_field, places_field, addresses_in, ingress_of, service_of}
use Rattle.kube_events.specs.PoolFields.{entries_field, auto_assign_field, avoid_buggy_field, allocation_field, pool_of}
use Rattle.kube_events.specs.L2Fields.{interfaces_field, l2_of}
use Rattle.kube_events.specs.BgpFields.{length_field, length_v6_field, local_pref_field, communities_field, peers_field, bgp_of}
use Rattle.kube_events.specs.PeerFields.{my_asn_field, peer_asn_field, peer_of}
use Rattle.kube_events.specs.CommunityFields.{named_value_of, named_values_field}
use Rattle.kube_events.specs.SliceFields.{endpoints_field, slice_of}
use Rattle.field_laws.specs.FieldTypes.{any_text, true_or_false, whole_number, one_text, address_text, an_object, required, optional, no_rows}
use Rattle.field_laws.specs.Told.{Pairs, RowsTold, is_among, if_among, as_put, both, told, row_told, rows_told}
use Rattle.field_laws.specs.Tables.{listed, policies, place_rows, port_rows, allocation_rows, named_value_rows, endpoint_rows}
use Rattle.field_laws.specs.Tables.{service_rows, pool_rows, l2_rows, bgp_rows, peer_rows, community_rows, slice_rows}
use Rattle.field_laws.specs.Objects.{selector_with, port_with, addresses_with, allocation_with, named_value_with, endpoint_with}
use Rattle.field_laws.specs.Events.{is_said, families_with, policy_with, service_with, pool_with, l2_with, bgp_with, peer_with, slice_with}
use Rattle.field_laws.proofs.Places.{Tells, required_row, optional_row, default_row}
use Rattle.field_laws.proofs.Types.{text_tells, truth_tells, number_tells, named_tells, word_tells, map_row, list_row, texts_row, then_row, object_tells}
use Rattle.field_laws.proofs.Texts.{wanted_row, wanted_if_there_row}
use Rattle.field_laws.proofs.Parts.{plain_optional_row, selectors_row, port_tells, allocation_tells, endpoint_tells}
use Rattle.field_laws.proofs.Families.{families_row}

-- ---- parts that kube_events reads

alone : {A : Type 0} (tell : Result A Path) → as_put (λ x. x) tell ≡ as_put (λ (p : A × Unit {0}). p.0) (both tell (Ok tt))
alone (Ok x) = refl
alone (Err path) = refl

address_tells : Tells address_in (told address_text) (λ address. address)
unfolding address_in
address_tells d = named_tells (λ text. result_ok (address_of text)) d

abbrev place_with : RowsTold place_rows → Option AddressValue
place_with (found, end) = found

place_tells : Tells ingress_of (told (an_object place_rows)) place_with
unfolding ingress_of
place_tells d = object_tells d (optional_at address_in (codes "ip") d) place_rows place_with (
    plain_optional_row address_text address_in (codes "ip") address_tells d
    ∙ alone (row_told (optional (codes "ip") address_text) d))

same_addresses : (places : List (RowsTold place_rows)) → addresses_in (map place_with places) ≡ addresses_with places
same_addresses [] = refl
same_addresses ((None, end) ∷ places) = same_addresses places
same_addresses ((Some address, end) ∷ places) = ap (λ (addresses : List AddressValue). address ∷ addresses) (same_addresses places)

named_value_tells : Tells named_value_of (told (an_object named_value_rows)) named_value_with
unfolding named_value_of
named_value_tells d = object_tells d _ named_value_rows named_value_with (
    then_row (required_at text_of (codes "name") d) _ _ _ (λ name. name) _ (required_row text_of any_text (λ text. text) (codes "name") text_tells d) (λ name _.
    then_row (required_at text_of (codes "value") d) _ _ (rows_told no_rows d) (λ value. value)
    _ (required_row text_of any_text (λ text. text) (codes "value") text_tells d) (λ value _. refl)))

policy_by : (a b c : Bool) (text : List ℕ) (policy : Policy) → policy ≡ cond a Cluster (cond b Cluster Local)
    → cond a (Some Cluster) (cond b (Some Cluster) (cond c (Some Local) None)) ≡ option_map (λ it. policy) (cond (a || (b || (c || false))) (Some text) None)
policy_by true b c text policy is = rw is refl
policy_by false true c text policy is = rw is refl
policy_by false false true text policy is = rw is refl
policy_by false false false text policy is = refl

always : (found : Bool) (text : List ℕ)
    → option_map policy_with (cond found (Some text) None) ≡ option_map (λ it. policy_with text) (cond found (Some text) None)
always true text = refl
always false text = refl

policy_names : (text : List ℕ) → policy_named text ≡ option_map policy_with (if_among policies text)
policy_names text =
    policy_by (bytes_eq text (codes "Cluster")) (bytes_eq text (codes "")) (bytes_eq text (codes "Local")) text (policy_with text) refl
    ∙ sym (always (is_among policies text) text)

policy_tells : Tells policy_of (told (one_text policies)) policy_with
unfolding policy_of
policy_tells d = word_tells policy_named policies policy_with policy_names d

-- ---- each kind

pub service_tells : (d : Data) → service_of d ≡ as_put (λ told key labels. service_with key labels told) (rows_told service_rows d)
unfolding service_of
service_tells d =
    then_row (annotations_field d) _ _ _ (λ it. it) _ (map_row (codes "metadata.annotations") d) (λ annotations _.
    then_row (balancer_field d) _ _ _ (λ text. bytes_eq text (codes "LoadBalancer"))
    _ (wanted_row (codes "spec.type") (codes "LoadBalancer") (codes "ClusterIP") refl d) (λ type _.
    then_row (class_field d) _ _ _ (λ it. it) _ (plain_optional_row any_text text_of (codes "spec.loadBalancerClass") text_tells d) (λ class _.
    then_row (address_field d) _ _ _ (λ it. it)
    _ (default_row text_of any_text (λ text. text) (codes "spec.loadBalancerIP") [] (string (codes "")) text_tells refl d) (λ address _.
    then_row (families_field d) _ _ _ families_with _ (families_row (codes "spec.ipFamilies") d) (λ families _.
    then_row (prefer_dual_field d) _ _ _ (λ found. is_said found (codes "PreferDualStack"))
    _ (wanted_if_there_row (codes "spec.ipFamilyPolicy") (codes "PreferDualStack") d) (λ family_policy _.
    then_row (policy_field d) _ _ _ policy_with _ (default_row policy_of (one_text policies) policy_with (codes "spec.externalTrafficPolicy") Cluster
    (string (codes "Cluster")) policy_tells refl d) (λ policy _.
    then_row (selector_field d) _ _ _ (λ it. it) _ (map_row (codes "spec.selector") d) (λ selector _.
    then_row (ports_field d) _ _ _ (map port_with) _ (list_row port_of (an_object port_rows) port_with (codes "spec.ports") port_tells d) (λ ports _.
    then_row (places_field d) _ _ (rows_told no_rows d) (map place_with)
    _ (list_row ingress_of (an_object place_rows) place_with (codes "status.loadBalancer.ingress") place_tells d) (λ places _.
    rw (same_addresses places) refl))))))))))

pub pool_tells : (d : Data) → pool_of d ≡ as_put (λ told key labels. pool_with key labels told) (rows_told pool_rows d)
unfolding pool_of
pool_tells d =
    then_row (entries_field d) _ _ _ (λ it. it) _ (texts_row (codes "spec.addresses") d) (λ entries _.
    then_row (auto_assign_field d) _ _ _ (λ it. it)
    _ (default_row bool_of true_or_false (λ b. b) (codes "spec.autoAssign") true (boolean true) truth_tells refl d) (λ auto_assign _.
    then_row (avoid_buggy_field d) _ _ _ (λ it. it)
    _ (default_row bool_of true_or_false (λ b. b) (codes "spec.avoidBuggyIPs") false (boolean false) truth_tells refl d) (λ avoid_buggy _.
    then_row (allocation_field d) _ _ (rows_told no_rows d) (option_map allocation_with)
    _ (optional_row allocation_of (an_object allocation_rows) allocation_with (codes "spec.serviceAllocation") allocation_tells d) (λ allocation _. refl))))

pub l2_tells : (d : Data) → l2_of d ≡ as_put (λ told key. l2_with key told) (rows_told l2_rows d)
unfolding l2_of
l2_tells d =
    then_row (pools_field d) _ _ _ (λ it. it) _ (texts_row (codes "spec.ipAddressPools") d) (λ pools _.
    then_row (pool_selectors_field d) _ _ _ (map selector_with) _ (selectors_row (codes "spec.ipAddressPoolSelectors") d) (λ pool_selectors _.
    then_row (node_selectors_field d) _ _ _ (map selector_with) _ (selectors_row (codes "spec.nodeSelectors") d) (λ node_selectors _.
    then_row (interfaces_field d) _ _ (rows_told no_rows d) (λ it. it) _ (texts_row (codes "spec.interfaces") d) (λ interfaces _. refl))))

pub bgp_tells : (d : Data) → bgp_of d ≡ as_put (λ told key. bgp_with key told) (rows_told bgp_rows d)
unfolding bgp_of
bgp_tells d =
    then_row (length_field d) _ _ _ (λ it. it) _ (default_row (number_in 1 32) (whole_number 1 32) (λ n. n) (codes "spec.aggregationLength") 32
    (number (unsigned 32)) (number_tells 1 32) refl d) (λ length _.
    then_row (length_v6_field d) _ _ _ (λ it. it) _ (default_row (number_in 0 128) (whole_number 0 128) (λ n. n) (codes "spec.aggregationLengthV6") 128
    (number (unsigned 128)) (number_tells 0 128) refl d) (λ length_v6 _.
    then_row (local_pref_field d) _ _ _ (λ it. it) _ (default_row (number_in 0 4294967295) (whole_number 0 4294967295) (λ n. n) (codes "spec.localPref") 0
    (number (unsigned 0)) (number_tells 0 4294967295) refl d) (λ local_pref _.
    then_row (communities_field d) _ _ _ (λ it. it) _ (texts_row (codes "spec.communities") d) (λ communities _.
    then_row (pools_field d) _ _ _ (λ it. it) _ (texts_row (codes "spec.ipAddressPools") d) (λ pools _.
    then_row (pool_selectors_field d) _ _ _ (map selector_with) _ (selectors_row (codes "spec.ipAddressPoolSelectors") d) (λ pool_selectors _.
    then_row (node_selectors_field d) _ _ _ (map selector_with) _ (selectors_row (codes "spec.nodeSelectors") d) (λ node_selectors _.
    then_row (peers_field d) _ _ (rows_told no_rows d) (λ it. it) _ (texts_row (codes "spec.peers") d) (λ peers _. refl))))))))

asn_tells : (path : Path) (d : Data) → required_at (number_in 1 4294967295) path d ≡ as_put (λ n. n) (row_told (required path (whole_number 1 4294967295)) d)
asn_tells path d = required_row (number_in 1 4294967295) (whole_number 1 4294967295) (λ n. n) path (number_tells 1 4294967295) d

pub peer_tells : (d : Data) → peer_of d ≡ as_put (λ told key. peer_with key told) (rows_told peer_rows d)
unfolding peer_of
peer_tells d =
    then_row (my_asn_field d) _ _ _ (λ it. it) _ (asn_tells (codes "spec.myASN") d) (λ my_asn _.
    then_row (peer_asn_field d) _ _ _ (λ it. it) _ (asn_tells (codes "spec.peerASN") d) (λ peer_asn _.
    then_row (node_selectors_field d) _ _ (rows_told no_rows d) (map selector_with) _ (selectors_row (codes "spec.nodeSelectors") d)
    (λ node_selectors _. refl)))

values_alone : (tell : Result (List (RowsTold named_value_rows)) Path)
    → as_put (map named_value_with) tell ≡ as_put (λ (p : List (RowsTold named_value_rows) × Unit {0}). map named_value_with p.0) (both tell (Ok tt))
values_alone (Ok values) = refl
values_alone (Err path) = refl

pub community_tells : (d : Data) → named_values_field d ≡ as_put (λ told. map named_value_with told.0) (rows_told community_rows d)
community_tells d =
    list_row named_value_of (an_object named_value_rows) named_value_with (codes "spec.communities") named_value_tells d
    ∙ values_alone (row_told (listed (codes "spec.communities") (an_object named_value_rows)) d)

-- The labels have been read before.
pub slice_tells : (d : Data) (labels : Pairs) → labels_field d ≡ Ok labels
    → slice_of d ≡ as_put (λ told key. slice_with key labels told) (rows_told slice_rows d)
unfolding slice_of
slice_tells d labels are = rw are (
    then_row (endpoints_field d) _ _ (rows_told no_rows d) (map endpoint_with)
    _ (list_row endpoint_of (an_object endpoint_rows) endpoint_with (codes "endpoints") endpoint_tells d) (λ endpoints _. refl))
