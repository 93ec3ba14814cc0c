-- An object that is read of a value with texts shows terms and families.
use Rattle.std.specs.Bool.{⊤}
use Rattle.json_text_laws.proofs.Readers.{Reads, then_ok, any_ok}
use Rattle.kube_model.specs.declared.event.Event.{Event}
use Rattle.kube_model.specs.declared.object.Kind.{Kind}
use Rattle.kube_model.specs.declared.object.Kind.TheVariants as kinds
use Rattle.kube_events.specs.ServiceFields.{service_of}
use Rattle.kube_events.specs.PoolFields.{pool_of}
use Rattle.kube_events.specs.L2Fields.{l2_of}
use Rattle.kube_events.specs.BgpFields.{bgp_of}
use Rattle.kube_events.specs.PeerFields.{peer_of}
use Rattle.kube_events.specs.CommunityFields.{named_values_field}
use Rattle.kube_events.specs.SliceFields.{slice_of}
use Rattle.kube_events.specs.ObjectFields.{body_of}
use Rattle.core_drive.specs.Sound.{ShowsTerms, ShowsFamilies}
use Rattle.line_event_laws.proofs.Events.{Makes}
use Rattle.shown_service_laws.proofs.Fields.{MakesFields, terms_are, reads-service_of}

-- a service that the event shows has terms that there can be, and families
abbrev pub ShowsWhole : Event → Type 0
ShowsWhole event = ShowsTerms event × ShowsFamilies event

pub reads-body_of : (kind : Kind) → Reads (Makes ShowsWhole) (body_of kind)
unfolding body_of
reads-body_of kinds.Service d h = then_ok MakesFields (Makes ShowsWhole) (service_of d) _ (reads-service_of d h)
    (λ make fields version key labels text. (terms_are (make key labels) (fields key labels text), (fields key labels text).families))
reads-body_of kinds.Pool d h = then_ok (λ _. ⊤) (Makes ShowsWhole) (pool_of d) _ (any_ok (pool_of d)) (λ make _ version key labels text. (tt, tt))
reads-body_of kinds.L2 d h = then_ok (λ _. ⊤) (Makes ShowsWhole) (l2_of d) _ (any_ok (l2_of d)) (λ make _ version key labels text. (tt, tt))
reads-body_of kinds.Bgp d h = then_ok (λ _. ⊤) (Makes ShowsWhole) (bgp_of d) _ (any_ok (bgp_of d)) (λ make _ version key labels text. (tt, tt))
reads-body_of kinds.Peer d h = then_ok (λ _. ⊤) (Makes ShowsWhole) (peer_of d) _ (any_ok (peer_of d)) (λ make _ version key labels text. (tt, tt))
reads-body_of kinds.Community d h =
    then_ok (λ _. ⊤) (Makes ShowsWhole) (named_values_field d) _ (any_ok (named_values_field d)) (λ values _ version key labels text. (tt, tt))
reads-body_of kinds.Namespace d h = λ version key labels text. (tt, tt)
reads-body_of kinds.Node d h = λ version key labels text. (tt, tt)
reads-body_of kinds.Slice d h = then_ok (λ _. ⊤) (Makes ShowsWhole) (slice_of d) _ (any_ok (slice_of d)) (λ make _ version key labels text. (tt, tt))
