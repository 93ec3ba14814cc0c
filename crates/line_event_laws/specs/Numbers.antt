-- The numbers that routes are made of, in the objects that lines show.
use Rattle.std.specs.Prelude.{◌≡◌, ◌≤◌, ◌<◌, ◌^◌, ℕ, List, Ok, ⊤}
use Rattle.std.specs.List.{AllByRecursion}
use Rattle.ip_ranges.specs.Values.{IsOfFamily}
use Rattle.kube_model.specs.declared.bgp.BgpAdv.{BgpAdv}
use Rattle.kube_model.specs.declared.peer.BgpPeer.{BgpPeer}
use Rattle.kube_model.specs.declared.event.Event.{Event}
use Rattle.kube_model.specs.declared.event.Event.TheVariants.{Changed, Deleted, ListEnd, Expired, Members, Frame, Ignored}
use Rattle.kube_model.specs.declared.object.Object.{Object}
use Rattle.kube_model.specs.declared.object.Object.TheVariants as objects
use Rattle.kube_events.specs.Event.{event_of_line}

-- `spec.aggregationLength` is at most 32, `spec.aggregationLengthV6` at most 128, and `spec.localPref` has 32 bits
pub record HasRouteNumbers (adv : BgpAdv) : Type 0 where
  pub length : adv.length ≤ 32
  pub length_v6 : adv.length_v6 ≤ 128
  pub local_pref : adv.local_pref < 2 ^ 32

-- `spec.myASN` has 32 bits
abbrev pub HasAsn : BgpPeer → Type 0
HasAsn peer = peer.my_asn < 2 ^ 32

-- the recorded addresses of a service fit their families, and so it is of an object of any kind
abbrev pub HasNumbers : Object → Type 0
HasNumbers (objects.Service service) = AllByRecursion IsOfFamily service.holding.addresses
HasNumbers (objects.Bgp adv) = HasRouteNumbers adv
HasNumbers (objects.Peer peer) = HasAsn peer
HasNumbers (objects.Pool pool) = ⊤
HasNumbers (objects.L2 adv) = ⊤
HasNumbers (objects.Community community) = ⊤
HasNumbers (objects.Namespace namespace) = ⊤
HasNumbers (objects.Node node) = ⊤
HasNumbers (objects.Slice slice) = ⊤

-- the object that the event shows, if it shows one, has such numbers
abbrev pub ShowsNumbers : Event → Type 0
ShowsNumbers (Changed version object) = HasNumbers object
ShowsNumbers (Deleted kind key) = ⊤
ShowsNumbers (ListEnd group) = ⊤
ShowsNumbers Expired = ⊤
ShowsNumbers (Members names) = ⊤
ShowsNumbers (Frame interface bytes) = ⊤
ShowsNumbers Ignored = ⊤

-- Whatever event a line is read as, an object that it shows has such numbers.
abbrev pub LinesShowNumbers : Type 0
LinesShowNumbers = (line : List ℕ) (event : Event) → event_of_line line ≡ Ok event → ShowsNumbers event
