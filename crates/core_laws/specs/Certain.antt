-- What a settled service may have is what it has.
use Rattle.std.specs.Prelude.{◌≡◌, ℕ, true, false, List, Option, Some}
use Rattle.kube_model.specs.declared.key.Key.{Key}
use Rattle.kube_model.specs.declared.service.Service.{Service}
use Rattle.kube_model.specs.Keys.{has_key, key_cmp}
use Rattle.versioned_map.specs.Objects.{is_newer}
use Rattle.claim_index.specs.Claims.{claims_of}
use Rattle.core_rules.specs.Core.{State, is_settled, own_claims, service_of}
use Rattle.core_rules.specs.Run.{TranscriptEntry, core_after, IsRun}
use Rattle.core_rules.specs.Take.{core_take, shows}
use Rattle.core_laws.specs.Quiet.{is_put_of}

-- each settled service has the claim of its record and no other, but the one that is being written
abbrev pub IsCertain : State → Type 0
IsCertain s = (key : Key) (service : Service) → is_settled s key ≡ true → is_put_of s.out key ≡ false → service_of s.held key ≡ Some service
    → claims_of key s.claims ≡ own_claims service

-- So it is in every run: an address that was put is kept from others only while its service is queued, awaits a newer event, or has it.
abbrev pub RunsAreCertain : Type 0
RunsAreCertain = (class : Option (List ℕ)) (run : List TranscriptEntry) → IsRun class run → IsCertain (core_after class run)

-- So it is of a service that an event shows newer than it is held, whatever was put of it, lost or refused before; and it awaits nothing.
abbrev pub NewerEventsSettle : Type 0
NewerEventsSettle =
    (s : State) (version : ℕ) (service : Service) → is_newer key_cmp s.held.services service.key version ≡ true
    → (let after = core_take s (shows version service) in
    (claims_of service.key after.claims ≡ own_claims service) × (has_key after.awaiting service.key ≡ false))
