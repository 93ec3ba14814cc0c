-- Where a turn makes no put, none is due.
use Rattle.std.proofs.Common.{◌≡◌, ◌≢◌, ℕ, Bool, true, false, cond, ◌||◌, List, [], ◌∷◌, Option, Some, None, is_some, refl, sym, ap, subst, ◌∙◌}
use Rattle.kube_model.specs.declared.key.Key.{Key}
use Rattle.kube_model.specs.declared.reason.Reason.{Reason}
use Rattle.kube_model.specs.declared.service.Service.{Service}
use Rattle.kube_model.specs.Keys.{key_cmp, has_key}
use Rattle.kube_model.proofs.KeyLaws.{same_key-itself}
use Rattle.kube_model.proofs.RecordLaws.{same_record-is}
use Rattle.versioned_map.specs.Objects.{version_at}
use Rattle.core_rules.specs.declared.turn.Turn.TheVariants.{Idle, NoPut, Wants}
use Rattle.core_rules.specs.Core.{State, service_of, own_claims, has_other}
use Rattle.core_rules.specs.Turn.{chosen_at, reason_in, turn_at, turn_of, wanted_record}
use Rattle.core_rules.specs.Run.{core_after}
use Rattle.core_rules.proofs.Claims.{claims_are_shown}
use Rattle.core_laws.specs.Puts.{NoPutsAreRight}
use Rattle.core_laws.specs.Queue.{IsHeld}
use Rattle.core_laws.proofs.Claimed.{kept-alone}
use Rattle.core_laws.proofs.Kept.{kept_at, kept-same}
use Rattle.core_laws.proofs.Puts.{IsDecidedAs, decided, wanted-as}
use Rattle.core_laws.proofs.Queued.{runs-held}

-- The turn of a held service that keeps its record.
record IsSpared (s : State) (key : Key) (pending : Option Reason) : Type 0 where
  pub service : Service
  pub found : service_of s.held key ≡ Some service
  pub kept : kept_at s service ≡ true
  pub reason_is : pending ≡ reason_in (chosen_at s service)

spared-by : (b : Bool) (s : State) (k key : Key) (service : Service) (version : ℕ) (pending : Option Reason) → service_of s.held k ≡ Some service
    → b ≡ kept_at s service
    → NoPut key pending ≡ cond b (NoPut k (reason_in (chosen_at s service)))
    (Wants (record { key = k; version = version; holding = wanted_record service.holding (chosen_at s service) }) (reason_in (chosen_at s service)))
    → IsSpared s key pending
spared-by true s k key service version pending found b e =
    let is : k ≡ key = cc in
    record { service = service; found = subst (λ x. service_of s.held x ≡ Some service) is found; kept = sym b; reason_is = cc }
spared-by false s k key service version pending found b e = absurd (cc)

spared-at : (found : Option Service) (s : State) (k key : Key) (pending : Option Reason) → service_of s.held k ≡ found → is_some found ≡ true
    → NoPut key pending ≡ turn_at s k found → IsSpared s key pending
spared-at None s k key pending f there e = absurd (cc)
spared-at (Some service) s k key pending f there e =
    spared-by (kept_at s service) s k key service (version_at key_cmp s.held.services k) pending f refl e

spared-of : (s : State) (queue : List Key) (key : Key) (pending : Option Reason) → ((k : Key) → has_key queue k ≡ true → IsHeld s k)
    → NoPut key pending ≡ turn_of s queue → IsSpared s key pending
spared-of s [] key pending held e = absurd (cc)
spared-of s (k ∷ rest) key pending held e =
    spared-at (service_of s.held k) s k key pending refl (held k (ap (λ b. b || has_key rest k) (same_key-itself k))) e

no_put-busy : (key : Key) (pending : Option Reason) → NoPut key pending ≢ Idle
no_put-busy key pending e = absurd (cc)

pub no_puts_are_right : NoPutsAreRight
no_puts_are_right class key pending earlier is =
    let s = core_after class earlier in
    let spared : IsSpared s key pending = spared-of s s.queue key pending (runs-held class earlier is.1).queued is.0.1 in
    let d : IsDecidedAs class key pending earlier spared.service =
    decided class (NoPut key pending) earlier is (no_put-busy key pending) key pending spared.service spared.found spared.reason_is in
    record {
      decision = d.right;
      same =
          sym (wanted-as class key pending earlier spared.service d)
          ∙ same_record-is (wanted_record spared.service.holding (chosen_at s spared.service)) spared.service.holding
          (kept-same spared.service.holding (has_other spared.service s.claims) (chosen_at s spared.service) spared.kept)
          ∙ ap (λ (x : Service). x.holding) d.object_is;
      alone =
          sym (claims_are_shown class earlier is.1 key)
          ∙ kept-alone class earlier is.1 key spared.service spared.found spared.kept
          ∙ ap own_claims d.object_is;
    }
