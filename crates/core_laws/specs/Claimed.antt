-- What is held is claimed.
use Rattle.std.specs.Prelude.{◌≡◌, ℕ, true, List, Option, Some}
use Rattle.std.specs.List.{Contains}
use Rattle.kube_model.specs.declared.key.Key.{Key}
use Rattle.kube_model.specs.declared.service.Service.{Service}
use Rattle.kube_model.specs.Records.{is_assigned}
use Rattle.sharing_terms.specs.declared.terms.Terms.{Terms}
use Rattle.sharing_terms.specs.Marked.{IsMarkOf}
use Rattle.sharing_terms.specs.Terms.{terms_of}
use Rattle.claim_index.specs.Claims.{ClaimValue, claims_of}
use Rattle.core_rules.specs.Core.{service_of}
use Rattle.core_rules.specs.Run.{TranscriptEntry, core_after, IsRun}

-- The key has a claim of the service's record. A record with a mark of this controller is claimed under the terms of that mark; one without, as
-- MetalLB leaves it, under the terms of its service as it is held now: its sharing key, its ports and its backend.
pub record IsClaimedAs (claims : List ClaimValue) (key : Key) (service : Service) : Type 0 where
  pub claim : ClaimValue
  pub stands : Contains (claims_of key claims) claim
  pub with_record : claim.holding ≡ service.holding
  pub marked : (t : Terms) → IsMarkOf t service.holding.mark → claim.terms ≡ t
  pub adopted : ((t : Terms) → ¬ (IsMarkOf t service.holding.mark)) → claim.terms ≡ terms_of service

-- so it is of each held service with an address, whatever arrives
abbrev pub ServicesAreClaimed : Type 0
ServicesAreClaimed =
    (class : Option (List ℕ)) (run : List TranscriptEntry) → IsRun class run
    → (key : Key) (service : Service) → service_of (core_after class run).held key ≡ Some service
    → is_assigned service.holding ≡ true → IsClaimedAs (core_after class run).claims key service
