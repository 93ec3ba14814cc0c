-- An event that a line is read as shows terms and families.
use Rattle.std.proofs.Common.{ℕ, List}
use Rattle.kube_model.specs.declared.event.Event.TheVariants.{Changed, Deleted, ListEnd}
use Rattle.kube_model.specs.declared.event.ListGroup.{ListGroup}
use Rattle.kube_model.specs.declared.event.ListGroup.TheVariants as groups
use Rattle.kube_model.specs.declared.key.Key.{Key}
use Rattle.kube_model.specs.declared.object.Kind.{Kind}
use Rattle.kube_model.specs.declared.object.Kind.TheVariants as kinds
use Rattle.kube_model.specs.declared.object.Object.TheVariants as objects
use Rattle.line_event_laws.proofs.Events.{HoldsOfOthers, lines_hold}
use Rattle.shown_service_laws.specs.Shown.{ServicesHaveTerms, EventsShowTerms, EventsShowFamilies}
use Rattle.shown_service_laws.proofs.Objects.{ShowsWhole, reads-body_of}

gone : (kind : Kind) (key : Key) → ShowsWhole (Deleted kind key)
gone kinds.Service key = (tt, tt)
gone kinds.Node key = (tt, tt)
gone kinds.Slice key = (tt, tt)
gone kinds.Pool key = (tt, tt)
gone kinds.L2 key = (tt, tt)
gone kinds.Bgp key = (tt, tt)
gone kinds.Peer key = (tt, tt)
gone kinds.Community key = (tt, tt)
gone kinds.Namespace key = (tt, tt)

ended : (group : ListGroup) → ShowsWhole (ListEnd group)
ended groups.Config = (tt, tt)
ended groups.Service = (tt, tt)
ended groups.Endpoint = (tt, tt)

others : HoldsOfOthers ShowsWhole
others = record { deleted = gone; ended = ended; expired = (tt, tt); members = λ names. (tt, tt); frame = λ interface bytes. (tt, tt); ignored = (tt, tt) }

pub events_show_terms : EventsShowTerms
events_show_terms line event e = (lines_hold ShowsWhole reads-body_of others line event e).0

pub events_show_families : EventsShowFamilies
events_show_families line event e = (lines_hold ShowsWhole reads-body_of others line event e).1

pub services_have_terms : ServicesHaveTerms
services_have_terms line version service e = events_show_terms line (Changed version (objects.Service service)) e
