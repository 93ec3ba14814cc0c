-- The words that stand for reasons, causes, kinds and lanes in lines.
use Rattle.std.specs.Prelude.{ℕ, List, codes}
use Rattle.kube_model.specs.declared.reason.Reason.{Reason}
use Rattle.kube_model.specs.declared.reason.Reason.TheVariants as reasons
use Rattle.kube_model.specs.declared.config_fault.Cause.{Cause}
use Rattle.kube_model.specs.declared.config_fault.Cause.TheVariants as causes
use Rattle.kube_model.specs.declared.object.Kind.{Kind}
use Rattle.kube_model.specs.declared.object.Kind.TheVariants as kinds

abbrev pub reason_text : Reason → List ℕ
reason_text reasons.RequestUnreadable = codes "request-unreadable"
reason_text reasons.RequestFamilies = codes "request-families"
reason_text reasons.PoolUnknown = codes "pool-unknown"
reason_text reasons.PoolRefused = codes "pool-refused"
reason_text reasons.AddressOutside = codes "address-outside"
reason_text reasons.AddressUnusable = codes "address-unusable"
reason_text reasons.PoolExhausted = codes "pool-exhausted"
reason_text reasons.NoPool = codes "no-pool"
reason_text reasons.Exhausted = codes "exhausted"

abbrev pub cause_text : Cause → List ℕ
cause_text causes.Limit = codes "Limit"
cause_text causes.EntryUnreadable = codes "EntryUnreadable"
cause_text causes.EmptyPool = codes "EmptyPool"
cause_text causes.Overlap = codes "Overlap"
cause_text causes.SelectorUnreadable = codes "SelectorUnreadable"
cause_text causes.Aggregation = codes "Aggregation"
cause_text causes.LocalPrefClash = codes "LocalPrefClash"
cause_text causes.CommunityUnknown = codes "CommunityUnknown"
cause_text causes.CommunityUnreadable = codes "CommunityUnreadable"
cause_text causes.CommunityTwice = codes "CommunityTwice"
cause_text causes.PeerUnknown = codes "PeerUnknown"

-- the names that Kubernetes has for the kinds
abbrev pub kind_text : Kind → List ℕ
kind_text kinds.Service = codes "Service"
kind_text kinds.Pool = codes "IPAddressPool"
kind_text kinds.L2 = codes "L2Advertisement"
kind_text kinds.Bgp = codes "BGPAdvertisement"
kind_text kinds.Peer = codes "BGPPeer"
kind_text kinds.Community = codes "Community"
kind_text kinds.Namespace = codes "Namespace"
kind_text kinds.Node = codes "Node"
kind_text kinds.Slice = codes "EndpointSlice"
