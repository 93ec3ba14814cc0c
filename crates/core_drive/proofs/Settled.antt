-- Where nothing is left waiting that could be served, each settled service has its own.
use Rattle.std.proofs.Common.{◌≢◌, ℕ, List, [], ◌∷◌, Option}
use Rattle.ip_ranges.specs.declared.family.Family.{Family}
use Rattle.kube_model.specs.Families.{AreFamilies}
use Rattle.object_history.specs.Kinds.{service_resource}
use Rattle.object_history.proofs.Seen.{is-last_shown}
use Rattle.core_rules.specs.Run.{TranscriptEntry as CoreEntry, observed, claims_shown}
use Rattle.core_laws.specs.Quiet.{MeetsRow}
use Rattle.core_laws.specs.QuietShown.{IsQuietAsShown, offer_shown}
use Rattle.core_laws.specs.Shown.{HoldsOfShown}
use Rattle.core_laws.proofs.Keyed.{observed-all, shown-holds}
use Rattle.core_laws.proofs.Settled.{offers_are_for_services, held_are_served, others_are_bare}
use Rattle.core_laws.proofs.Waiting.{waits_in_vain}
use Rattle.core_drive.specs.Drive.{behind}
use Rattle.core_drive.specs.Laws.{DrivesAreSettled}
use Rattle.core_drive.specs.Settled.{AllHaveTheirOwn}
use Rattle.core_drive.specs.Sound.{HasFamilies}
use Rattle.core_drive.proofs.Goes.{drives_are_quiet}

some-family : (families : List Family) → AreFamilies families → families ≢ []
some-family [] are e = are
some-family (f ∷ families) are e = absurd (cc)

settled : (class : Option (List ℕ)) (run : List CoreEntry) → HoldsOfShown HasFamilies run → IsQuietAsShown class run → AllHaveTheirOwn class run
settled class run families quiet ready key held shown free =
    let row : MeetsRow class (offer_shown ready.config (observed run)) (λ k. claims_shown k run) held.object = quiet ready key held shown free in
    let for_service = offers_are_for_services ready.config (observed run) in
    let some : held.object.families ≢ [] =
    some-family held.object.families
    (shown-holds HasFamilies (λ k service holding are. are) (observed run) key held (observed-all HasFamilies (λ k service holding are. are) run families)
    (is-last_shown service_resource key (observed run) held shown)) in
    record {
      served = λ handled recorded.
          held_are_served class (offer_shown ready.config (observed run)) (λ k. claims_shown k run) held.object for_service row handled recorded;
      waits = λ handled none.
          waits_in_vain class (offer_shown ready.config (observed run)) (λ k. claims_shown k run) held.object for_service.same row handled some none;
      bare = λ other. others_are_bare class (offer_shown ready.config (observed run)) (λ k. claims_shown k run) held.object row other;
    }

pub drives_are_settled : DrivesAreSettled
drives_are_settled class told s leads none = settled class (behind told []) leads.families (drives_are_quiet class told s leads none)
