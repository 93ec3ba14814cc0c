-- The fields of the objects that are read, in the order in which the first faulty one is named: where each stands, of what type it is and within
-- what bounds, and that it is required, may be absent, or what stands for it where it is absent. tests/fields prints these tables.
use Rattle.std.specs.Prelude.{ℕ, List, [], ◌∷◌, true, false, codes}
use Rattle.serde_json.specs.Data.{boolean, number, string, array, object, unsigned, no_items, item, no_members}
use Rattle.json_fields.specs.Path.{Path}
use Rattle.kube_model.specs.declared.object.Kind.{Kind}
use Rattle.kube_model.specs.declared.object.Kind.TheVariants as kinds
use Rattle.field_laws.specs.FieldTypes.{FieldType, any_text, full_text, true_or_false, whole_number, version_text, one_text, two_texts}
use Rattle.field_laws.specs.FieldTypes.{address_text, hex_text, text_map, a_list, an_object, Row, required, optional, defaulted, Rows, no_rows, ◌▸◌}

-- ---- rows of one form

-- a list that is absent is empty
abbrev pub listed : Path → FieldType → Row
listed path each = defaulted path (a_list each) (array no_items)

-- a map of texts that is absent is empty
abbrev pub mapped : Path → Row
mapped path = defaulted path text_map (object no_members)

-- ---- words

abbrev pub protocols : List (List ℕ)
protocols = codes "TCP" ∷ codes "UDP" ∷ codes "SCTP" ∷ []

abbrev pub families : List (List ℕ)
families = codes "IPv4" ∷ codes "IPv6" ∷ []

abbrev pub policies : List (List ℕ)
policies = codes "Cluster" ∷ codes "" ∷ codes "Local" ∷ []

-- ---- parts of objects

abbrev pub expression_rows : Rows
expression_rows =
    required (codes "key") any_text ▸
    required (codes "operator") any_text ▸
    listed (codes "values") any_text ▸
    no_rows

abbrev pub selector_rows : Rows
selector_rows =
    mapped (codes "matchLabels") ▸
    listed (codes "matchExpressions") (an_object expression_rows) ▸
    no_rows

abbrev pub port_rows : Rows
port_rows =
    defaulted (codes "protocol") (one_text protocols) (string (codes "TCP")) ▸
    required (codes "port") (whole_number 1 65535) ▸
    no_rows

abbrev pub place_rows : Rows
place_rows =
    optional (codes "ip") address_text ▸
    no_rows

abbrev pub allocation_rows : Rows
allocation_rows =
    defaulted (codes "priority") (whole_number 0 2147483647) (number (unsigned 0)) ▸
    listed (codes "namespaces") any_text ▸
    listed (codes "namespaceSelectors") (an_object selector_rows) ▸
    listed (codes "serviceSelectors") (an_object selector_rows) ▸
    no_rows

abbrev pub named_value_rows : Rows
named_value_rows =
    required (codes "name") any_text ▸
    required (codes "value") any_text ▸
    no_rows

abbrev pub endpoint_rows : Rows
endpoint_rows =
    optional (codes "nodeName") any_text ▸
    optional (codes "conditions.ready") true_or_false ▸
    optional (codes "conditions.serving") true_or_false ▸
    no_rows

-- ---- each kind, beside its metadata

abbrev pub service_rows : Rows
service_rows =
    mapped (codes "metadata.annotations") ▸
    defaulted (codes "spec.type") any_text (string (codes "ClusterIP")) ▸
    optional (codes "spec.loadBalancerClass") any_text ▸
    defaulted (codes "spec.loadBalancerIP") any_text (string (codes "")) ▸
    defaulted (codes "spec.ipFamilies") (two_texts families) (array (item (string (codes "IPv4")) no_items)) ▸
    optional (codes "spec.ipFamilyPolicy") any_text ▸
    defaulted (codes "spec.externalTrafficPolicy") (one_text policies) (string (codes "Cluster")) ▸
    mapped (codes "spec.selector") ▸
    listed (codes "spec.ports") (an_object port_rows) ▸
    listed (codes "status.loadBalancer.ingress") (an_object place_rows) ▸
    no_rows

abbrev pub pool_rows : Rows
pool_rows =
    listed (codes "spec.addresses") any_text ▸
    defaulted (codes "spec.autoAssign") true_or_false (boolean true) ▸
    defaulted (codes "spec.avoidBuggyIPs") true_or_false (boolean false) ▸
    optional (codes "spec.serviceAllocation") (an_object allocation_rows) ▸
    no_rows

abbrev pub l2_rows : Rows
l2_rows =
    listed (codes "spec.ipAddressPools") any_text ▸
    listed (codes "spec.ipAddressPoolSelectors") (an_object selector_rows) ▸
    listed (codes "spec.nodeSelectors") (an_object selector_rows) ▸
    listed (codes "spec.interfaces") any_text ▸
    no_rows

abbrev pub bgp_rows : Rows
bgp_rows =
    defaulted (codes "spec.aggregationLength") (whole_number 1 32) (number (unsigned 32)) ▸
    defaulted (codes "spec.aggregationLengthV6") (whole_number 0 128) (number (unsigned 128)) ▸
    defaulted (codes "spec.localPref") (whole_number 0 4294967295) (number (unsigned 0)) ▸
    listed (codes "spec.communities") any_text ▸
    listed (codes "spec.ipAddressPools") any_text ▸
    listed (codes "spec.ipAddressPoolSelectors") (an_object selector_rows) ▸
    listed (codes "spec.nodeSelectors") (an_object selector_rows) ▸
    listed (codes "spec.peers") any_text ▸
    no_rows

abbrev pub peer_rows : Rows
peer_rows =
    required (codes "spec.myASN") (whole_number 1 4294967295) ▸
    required (codes "spec.peerASN") (whole_number 1 4294967295) ▸
    listed (codes "spec.nodeSelectors") (an_object selector_rows) ▸
    no_rows

abbrev pub community_rows : Rows
community_rows =
    listed (codes "spec.communities") (an_object named_value_rows) ▸
    no_rows

abbrev pub slice_rows : Rows
slice_rows =
    listed (codes "endpoints") (an_object endpoint_rows) ▸
    no_rows

-- ---- with the metadata

abbrev pub name_row : Row
name_row = required (codes "metadata.name") full_text

abbrev pub namespace_row : Row
namespace_row = required (codes "metadata.namespace") full_text

abbrev pub version_row : Row
version_row = required (codes "metadata.resourceVersion") version_text

abbrev pub labels_row : Row
labels_row = mapped (codes "metadata.labels")

-- the own rows of a kind
abbrev pub own_rows : Kind → Rows
own_rows kinds.Service = service_rows
own_rows kinds.Pool = pool_rows
own_rows kinds.L2 = l2_rows
own_rows kinds.Bgp = bgp_rows
own_rows kinds.Peer = peer_rows
own_rows kinds.Community = community_rows
own_rows kinds.Namespace = no_rows
own_rows kinds.Node = no_rows
own_rows kinds.Slice = slice_rows

-- Services and endpoint slices have a namespace, and no other kind.
abbrev pub keyed : Kind → Rows → Rows
keyed kinds.Service rows = name_row ▸ namespace_row ▸ rows
keyed kinds.Slice rows = name_row ▸ namespace_row ▸ rows
keyed kinds.Pool rows = name_row ▸ rows
keyed kinds.L2 rows = name_row ▸ rows
keyed kinds.Bgp rows = name_row ▸ rows
keyed kinds.Peer rows = name_row ▸ rows
keyed kinds.Community rows = name_row ▸ rows
keyed kinds.Namespace rows = name_row ▸ rows
keyed kinds.Node rows = name_row ▸ rows

-- an object that is there
abbrev pub changed_rows : Kind → Rows
changed_rows kind = keyed kind (version_row ▸ labels_row ▸ own_rows kind)

-- one that is stated, whatever its version
abbrev pub stated_rows : Kind → Rows
stated_rows kind = keyed kind (labels_row ▸ own_rows kind)

-- one that is gone
abbrev pub deleted_rows : Kind → Rows
deleted_rows kind = keyed kind (version_row ▸ no_rows)

-- ---- lines of their own

abbrev pub members_rows : Rows
members_rows = listed (codes "members") any_text ▸ no_rows

abbrev pub frame_rows : Rows
frame_rows = required (codes "interface") any_text ▸ required (codes "bytes") hex_text ▸ no_rows
