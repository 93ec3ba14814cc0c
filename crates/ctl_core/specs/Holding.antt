-- A newer service is held.
use Rattle.std.specs.Prelude.{◌≡◌, ℕ, ◌++◌}
use Rattle.kube_model.specs.declared.service.Service.{Service}
use Rattle.object_history.specs.Cache.{cached_after}
use Rattle.object_history.specs.Observations.{Watched}
use Rattle.claim_index.specs.Claims.{settled, loses}
use Rattle.core_rules.specs.Core.{State, is_ready, shown_terms}
use Rattle.kube_model.specs.Keys.{without}
use Rattle.core_rules.specs.Take.{shows, own_and_waiting}
use Rattle.ctl_core.specs.declared.take.Prepared.{Prepared}

-- the service is newer than what is held
abbrev pub held_service : State → ℕ → Service → State
held_service s version service = record s {
  held = cached_after (Watched (shows version service)) s.held;
  claims = settled service.key service.holding (shown_terms service) s.claims;
  awaiting = without service.key s.awaiting;
  queue = s.queue ++ own_and_waiting (is_ready s.held) (loses service.key service.holding (shown_terms service) s.claims) s service.key;
}

-- What there is to do where the service is held: its claim, whether a claim is lost, and the keys that are queued.
pub record IsPrepared (s : State) (service : Service) (p : Prepared) : Type 0 where
  pub claim_is : p.claim ≡ record { key = service.key; holding = service.holding; terms = shown_terms service }
  pub lost_is : p.is_lost ≡ loses service.key service.holding (shown_terms service) s.claims
  pub more_is : p.more.items ≡ own_and_waiting (is_ready s.held) (loses service.key service.holding (shown_terms service) s.claims) s service.key
