-- What the core holds along a run, and which put is in flight.
use Rattle.std.proofs.Common.{◌≡◌, true, List, [], ◌∷◌, Option, Some, None, is_some, refl, sym, ap, subst, ◌∙◌}
use Rattle.kube_model.specs.declared.event.Event.{Event}
use Rattle.kube_model.specs.declared.event.ListGroup.TheVariants as groups
use Rattle.kube_model.specs.declared.event.Event.TheVariants.{Deleted, ListEnd, Expired as ExpiredEvent}
use Rattle.kube_model.specs.declared.object.Kind.TheVariants as kinds
use Rattle.kube_model.specs.declared.put.Put.{Put}
use Rattle.kube_model.specs.declared.reply.PutReply.{PutReply}
use Rattle.kube_model.specs.declared.reply.PutReply.TheVariants.{Ok as StoredReply, Stale, Missing, Unknown}
use Rattle.object_history.specs.Cache.{cached, cached_after}
use Rattle.object_history.specs.Observations.{Observation, Watched, WatchExpired, Written}
use Rattle.core_rules.specs.Core.{State}
use Rattle.core_rules.specs.Take.{effect_of, core_by, core_take, shows}
use Rattle.core_rules.specs.Turn.{put_in}
use Rattle.core_rules.specs.Replied.{replied_to}
use Rattle.core_rules.specs.Run.{Took, Expired, Turned, Heard, core_after, told_by, heard_by, observed, HoldsWhatWasObserved}
use Rattle.core_rules.proofs.Effects.{by_effect}

took-held : (s : State) (earlier : List Observation) → s.held ≡ cached earlier → (event : Event)
    → (core_take s event).held ≡ cached (told_by (effect_of event) event earlier)
took-held s earlier e = by_effect (λ event c. (core_by c s event).held ≡ cached (told_by c event earlier))
    (λ version service. ap (cached_after (Watched (shows version service))) e)
    (λ key. ap (cached_after (Watched (Deleted kinds.Service key))) e)
    (ap (cached_after (Watched (ListEnd groups.Service))) e)
    (λ event c. ap (cached_after (Watched event)) e)
    (ap (cached_after (Watched ExpiredEvent)) e)
    (λ event. e)

pub took-out : (s : State) (event : Event) → (core_take s event).out ≡ s.out
took-out s = by_effect (λ event c. (core_by c s event).out ≡ s.out) (λ version service. refl) (λ key. refl) refl (λ event c. refl) refl (λ event. refl)

heard-held : (out : Option Put) (reply : PutReply) (s : State) (earlier : List Observation) → s.held ≡ cached earlier
    → (replied_to out s reply).held ≡ cached (heard_by out reply earlier)
heard-held None reply s earlier e = e
heard-held (Some put) (StoredReply version) s earlier e = ap (cached_after (Written put.key version put.holding)) e
heard-held (Some put) Stale s earlier e = e
heard-held (Some put) Missing s earlier e = e
heard-held (Some put) Unknown s earlier e = e

pub heard-out : (out : Option Put) (reply : PutReply) (s : State) → is_some out ≡ true → (replied_to out s reply).out ≡ None
heard-out None reply s e = absurd (cc)
heard-out (Some put) (StoredReply version) s e = refl
heard-out (Some put) Stale s e = refl
heard-out (Some put) Missing s e = refl
heard-out (Some put) Unknown s e = refl

pub core_holds_what_was_observed : HoldsWhatWasObserved
core_holds_what_was_observed class [] run = (refl, refl)
core_holds_what_was_observed class (Took event ∷ earlier) run =
    let ih = core_holds_what_was_observed class earlier run.1 in
    (took-held (core_after class earlier) (observed earlier) ih.0 event, took-out (core_after class earlier) event ∙ ih.1)
core_holds_what_was_observed class (Expired group ∷ earlier) run =
    let ih = core_holds_what_was_observed class earlier run.1 in
    (ap (cached_after (WatchExpired group)) ih.0, ih.1)
core_holds_what_was_observed class (Turned turn ∷ earlier) run =
    let ih = core_holds_what_was_observed class earlier run.1 in
    (ih.0, ap put_in (sym run.0.1))
core_holds_what_was_observed class (Heard reply ∷ earlier) run =
    let ih = core_holds_what_was_observed class earlier run.1 in (
      subst (λ out. (replied_to (core_after class earlier).out (core_after class earlier) reply).held ≡ cached (heard_by out reply (observed earlier))) ih.1
          (heard-held (core_after class earlier).out reply (core_after class earlier) (observed earlier) ih.0),
      heard-out (core_after class earlier).out reply (core_after class earlier) run.0,
    )
