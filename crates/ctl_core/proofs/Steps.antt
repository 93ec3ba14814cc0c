-- Whether a service is newer than what is held.
use Rattle.std.proofs.Common.{◌≡◌, ℕ, true, false, leb, List, ◌++◌, refl}
use Rattle.kube_model.specs.declared.key.Key.{Key}
use Rattle.kube_model.specs.declared.service.Service.{Service}
use Rattle.versioned_map.specs.Objects.{version_at}
use Rattle.kube_model.specs.Keys.{key_cmp, without}
use Rattle.object_history.specs.Cache.{Cached, cached_after}
use Rattle.object_history.specs.Observations.{Watched}
use Rattle.claim_index.specs.Claims.{ClaimValue, settled}
use Rattle.core_rules.specs.Core.{State}
use Rattle.core_rules.specs.Take.{shows, with_service}
use Rattle.ctl_core.specs.declared.take.Prepared.{Prepared}
use Rattle.ctl_core.specs.Holding.{IsPrepared, held_service}

-- one that isn't is ignored
pub passed-over : (s : State) (version : ℕ) (service : Service) → leb version (version_at key_cmp s.held.services service.key) ≡ true
    → s ≡ with_service s version service
passed-over s version service old = rw old refl

pub held-newer : (s : State) (version : ℕ) (service : Service) → leb version (version_at key_cmp s.held.services service.key) ≡ false
    → held_service s version service ≡ with_service s version service
held-newer s version service old = rw old refl

-- what was prepared was done
pub prepared-held : (s : State) (version : ℕ) (service : Service) (p : Prepared) (held : Cached) (queue awaiting : List Key)
    (reserved claims : List ClaimValue) (key : Key)
    → IsPrepared s service p
    → held ≡ cached_after (Watched (shows version service)) s.held → queue ≡ s.queue ++ p.more.items
    → reserved ≡ s.claims → claims ≡ settled p.claim.key p.claim.holding p.claim.terms reserved
    → key ≡ p.claim.key → awaiting ≡ without key s.awaiting
    → record s { held = held; claims = claims; queue = queue; awaiting = awaiting } ≡ held_service s version service
prepared-held s version service p held queue awaiting reserved claims key prepared held_is queue_is reserved_is claims_is key_is awaiting_is =
    rw (claims_is, reserved_is, awaiting_is, key_is, queue_is, held_is, prepared.more_is, prepared.claim_is) refl
