-- The watch of all lists expires: that is as if those of both lists had.
use Rattle.std.proofs.Common.{◌≡◌, ℕ, false, List, [], ◌∷◌, Option, Some, None, refl, ap, ◌∙◌}
use Rattle.kube_model.specs.declared.event.Event.{Event}
use Rattle.kube_model.specs.declared.event.Event.TheVariants.{Expired as WatchesExpired}
use Rattle.kube_model.specs.declared.event.ListGroup.{ListGroup}
use Rattle.kube_model.specs.declared.event.ListGroup.TheVariants as groups
use Rattle.kube_model.specs.declared.put.Put.{Put}
use Rattle.kube_model.specs.declared.reply.PutReply.{PutReply}
use Rattle.kube_model.specs.declared.reply.PutReply.TheVariants.{Ok as StoredReply, Stale, Missing, Unknown}
use Rattle.object_history.specs.Cache.{Cached, cached_after}
use Rattle.object_history.specs.Observations.{Watched, WatchExpired}
use Rattle.core_rules.specs.Core.{State}
use Rattle.core_rules.specs.Take.{core_by, core_take}
use Rattle.core_rules.specs.Replied.{replied_to}
use Rattle.core_rules.specs.Run.{TranscriptEntry, Took, Expired, Turned, Heard, core_after}
use Rattle.core_rules.proofs.Effects.{by_effect, config-endpoints}
use Rattle.core_laws.specs.Expired.{ExpiredIsBoth}

-- Nothing is held of endpoints, and their list hasn't ended.
pub record HasNoEndpoints (held : Cached) : Type 0 where
  pub slices : held.slices ≡ []
  pub unended : held.endpoints_ended ≡ false

took-none : (s : State) → HasNoEndpoints s.held → (event : Event) → HasNoEndpoints (core_take s event).held
took-none s none = by_effect (λ event c. HasNoEndpoints (core_by c s event).held)
    (λ version service. record { slices = none.slices; unended = none.unended })
    (λ key. record { slices = none.slices; unended = none.unended })
    (record { slices = none.slices; unended = none.unended })
    (λ event c. let same = config-endpoints event s.held c in record { slices = same.0 ∙ none.slices; unended = same.1 ∙ none.unended })
    (record { slices = rw none.slices refl; unended = refl })
    (λ event. none)

expired-none : (group : ListGroup) (held : Cached) → HasNoEndpoints held → HasNoEndpoints (cached_after (WatchExpired group) held)
expired-none groups.Config held none = record { slices = none.slices; unended = none.unended }
expired-none groups.Service held none = record { slices = none.slices; unended = none.unended }
expired-none groups.Endpoint held none = record { slices = rw none.slices refl; unended = refl }

heard-none : (out : Option Put) (reply : PutReply) (s : State) → HasNoEndpoints s.held → HasNoEndpoints (replied_to out s reply).held
heard-none None reply s none = none
heard-none (Some put) (StoredReply version) s none = record { slices = none.slices; unended = none.unended }
heard-none (Some put) Stale s none = none
heard-none (Some put) Missing s none = none
heard-none (Some put) Unknown s none = none

-- a controller holds nothing of endpoints
pub runs-no_endpoints : (class : Option (List ℕ)) (run : List TranscriptEntry) → HasNoEndpoints (core_after class run).held
runs-no_endpoints class [] = record { slices = refl; unended = refl }
runs-no_endpoints class (Took event ∷ earlier) = took-none (core_after class earlier) (runs-no_endpoints class earlier) event
runs-no_endpoints class (Expired group ∷ earlier) = expired-none group (core_after class earlier).held (runs-no_endpoints class earlier)
runs-no_endpoints class (Turned turn ∷ earlier) = runs-no_endpoints class earlier
runs-no_endpoints class (Heard reply ∷ earlier) = heard-none (core_after class earlier).out reply (core_after class earlier) (runs-no_endpoints class earlier)

held-both : (held : Cached) → HasNoEndpoints held
    → cached_after (Watched WatchesExpired) held ≡ cached_after (WatchExpired groups.Service) (cached_after (WatchExpired groups.Config) held)
held-both held none = rw (none.slices, none.unended) refl

pub expired_is_both : ExpiredIsBoth
expired_is_both class run is =
    let s = core_after class run in
    ap (λ (held : Cached). record s { held = held; queue = [] }) (held-both s.held (runs-no_endpoints class run))
