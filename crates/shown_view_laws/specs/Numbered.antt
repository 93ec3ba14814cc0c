-- The numbers of views that lines lead to.
use Rattle.std.specs.Prelude.{◌≡◌, ◌≤◌, ◌<◌, ◌^◌, ℕ, List, map, Option, Some, Ok}
use Rattle.std.specs.List.{AllByRecursion}
use Rattle.std.specs.List.Sorted.{IsStrictlySortedBy}
use Rattle.std.specs.Map.{keys_of}
use Rattle.bgp_reading.specs.Update.{IsLarge}
use Rattle.ip_ranges.specs.Values.{IsOfFamily}
use Rattle.kube_labels.specs.Names.{name_cmp}
use Rattle.kube_model.specs.declared.event.Event.{Event}
use Rattle.kube_model.specs.declared.service.Service.{Service}
use Rattle.kube_events.specs.Event.{event_of_line}
use Rattle.line_event_laws.specs.Numbers.{HasRouteNumbers, HasAsn}
use Rattle.pool_config.specs.ConfigValue.{ConfigValue}
use Rattle.pool_config.specs.declared.compiled.CompiledBgp.{CompiledBgp}
use Rattle.pool_config.specs.declared.compiled.CompiledPeer.{CompiledPeer}
use Rattle.speaker_view.specs.Held.{objects_of}
use Rattle.speaker_view.specs.View.{view_of}
use Rattle.speaker_view.specs.ViewValue.{ViewValue}

-- the recorded addresses of a service fit their families
abbrev pub HasFittingAddresses : Service → Type 0
HasFittingAddresses service = AllByRecursion IsOfFamily service.holding.addresses

-- a compiled advertisement's length is at most 32, that of IPv6 at most 128; its preference, its communities (RFC 1997) and the three numbers
-- of its large ones (RFC 8092) have 32 bits
pub record HasCompiledNumbers (adv : CompiledBgp) : Type 0 where
  pub length : adv.length ≤ 32
  pub length_v6 : adv.length_v6 ≤ 128
  pub local_pref : adv.local_pref < 2 ^ 32
  pub communities : AllByRecursion (λ n. n < 2 ^ 32) adv.communities
  pub large : AllByRecursion IsLarge adv.large

-- a compiled peer's own AS number has 32 bits
abbrev pub HasCompiledAsn : CompiledPeer → Type 0
HasCompiledAsn peer = peer.my_asn < 2 ^ 32

-- So it is of a configuration; and the names of its peers ascend, so that they are distinct.
pub record IsNumberedConfig (c : ConfigValue) : Type 0 where
  pub bgp : AllByRecursion HasCompiledNumbers c.bgp
  pub peers : AllByRecursion HasCompiledAsn c.peers
  pub names : IsStrictlySortedBy name_cmp (map (λ p. p.name) c.peers)

-- So it is of all that a view holds, and of the configuration in force.
pub record IsNumbered (v : ViewValue) : Type 0 where
  pub services : AllByRecursion HasFittingAddresses (objects_of v.held.services)
  pub advertisements : AllByRecursion HasRouteNumbers (objects_of v.held.objects.bgps)
  pub peers : AllByRecursion HasAsn (objects_of v.held.objects.peers)
  pub names : IsStrictlySortedBy name_cmp (keys_of v.held.objects.peers)
  pub config : (c : ConfigValue) → v.held.config ≡ Some c → IsNumberedConfig c

-- some line is read as the event
abbrev pub IsRead : Event → Type 0
IsRead event = (line : List ℕ) × (event_of_line line ≡ Ok event)

-- After any events that lines are read as, the newest first, a view is such.
abbrev pub ShownViewsAreNumbered : Type 0
ShownViewsAreNumbered = (class : Option (List ℕ)) (events : List Event) → AllByRecursion IsRead events → IsNumbered (view_of class events)
