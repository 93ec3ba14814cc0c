-- What stands in an object and does nothing.
use Rattle.std.specs.Prelude.{ℕ, List, [], ◌∷◌, ◌++◌, Bool, Option, Some, None, option_and_then, is_some, filter, map, codes}
use Rattle.serde_json.specs.Data.{Data}
use Rattle.serde_json.specs.Find.{get}
use Rattle.json_values.specs.Line.{value_of_line}
use Rattle.json_fields.specs.Path.{Path}
use Rattle.json_fields.specs.Reading.{unless_null}
use Rattle.kube_model.specs.declared.event.Event.{Event}
use Rattle.kube_model.specs.declared.event.Event.TheVariants.{Changed, Deleted, ListEnd, Expired, Members, Frame, Ignored}
use Rattle.kube_model.specs.declared.object.Kind.{Kind}
use Rattle.kube_model.specs.declared.object.Kind.TheVariants as kinds
use Rattle.kube_model.specs.Kinds.{kind_of}

-- The members of a kind's spec in MetalLB's API reference (v1beta1, and v1beta2 of BGPPeer) that no program reads, in byte order.
abbrev pub unread_members : Kind → List (List ℕ)
unread_members kinds.Pool = []
unread_members kinds.L2 = codes "serviceSelectors" ∷ []
unread_members kinds.Bgp = codes "serviceSelectors" ∷ []
unread_members kinds.Peer =
    codes "bfdProfile" ∷ codes "connectTime" ∷ codes "disableMP" ∷ codes "dualStackAddressFamily" ∷ codes "dynamicASN" ∷
    codes "ebgpMultiHop" ∷ codes "enableGracefulRestart" ∷ codes "holdTime" ∷ codes "interface" ∷ codes "keepaliveTime" ∷
    codes "password" ∷ codes "passwordSecret" ∷ codes "peerAddress" ∷ codes "peerPort" ∷ codes "routerID" ∷
    codes "sourceAddress" ∷ codes "vrf" ∷ []
unread_members kinds.Community = []
unread_members kinds.Service = []
unread_members kinds.Namespace = []
unread_members kinds.Node = []
unread_members kinds.Slice = []

-- whether the object's spec has a member of this name; null counts as absent
abbrev pub stands_in_spec : Data → List ℕ → Bool
stands_in_spec shown name = is_some (unless_null (option_and_then (get name) (get (codes "spec") shown)))

abbrev pub spec_path : List ℕ → Path
spec_path name = codes "spec." ++ name

-- the paths of the members of the object's spec that are there and that no program reads
abbrev pub unused_in : Kind → Option Data → List Path
unused_in kind None = []
unused_in kind (Some shown) = map spec_path (filter (stands_in_spec shown) (unread_members kind))

-- the object that a line shows
abbrev pub object_of_line : List ℕ → Option Data
object_of_line line = option_and_then (get (codes "object")) (value_of_line line)

-- what no program reads of the object that is there by the event of the line
abbrev pub unused_of : Event → List ℕ → List Path
unused_of (Changed version shown) line = unused_in (kind_of shown) (object_of_line line)
unused_of (Deleted kind key) line = []
unused_of (ListEnd group) line = []
unused_of Expired line = []
unused_of (Members names) line = []
unused_of (Frame interface bytes) line = []
unused_of Ignored line = []
