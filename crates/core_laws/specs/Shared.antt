-- Two services that have, or may have, one address: they share it by their terms, or the cluster showed it so. What a put gives is shared by terms alone.
use Rattle.std.specs.Prelude.{◌≡◌, ◌≢◌, ◌⊎◌, ◌<◌, ℕ, suc, Bool, true, false, ◌&&◌, if◌then◌else◌, List, [], ◌∷◌, ◌++◌, Option, Some, None}
use Rattle.std.specs.List.{Contains, list_any}
use Rattle.ip_ranges.specs.Values.{AddressValue}
use Rattle.kube_model.specs.declared.key.Key.{Key}
use Rattle.kube_model.specs.declared.put.Put.{Put}
use Rattle.kube_model.specs.declared.reason.Reason.{Reason}
use Rattle.kube_model.specs.declared.service.Service.{Service}
use Rattle.kube_model.specs.Keys.{same_key}
use Rattle.kube_model.specs.Records.{is_assigned}
use Rattle.sharing_terms.specs.declared.terms.Terms.{Terms}
use Rattle.sharing_terms.specs.Marked.{AreTerms, IsMarkOf}
use Rattle.sharing_terms.specs.Sharing.{MayShare}
use Rattle.sharing_terms.specs.Terms.{terms_of}
use Rattle.versioned_map.specs.declared.map.Versioned.{Versioned}
use Rattle.object_history.specs.Kinds.{service_resource}
use Rattle.object_history.specs.LookBack.{IsLastShown}
use Rattle.claim_index.specs.Claims.{ClaimValue, is_under, claim_of, terms_under}
use Rattle.core_rules.specs.declared.turn.Turn.TheVariants.{Wants}
use Rattle.core_rules.specs.Run.{TranscriptEntry, Took, Expired, Turned, Heard, IsRun, put_out, observed, claims_shown, terms_shown}
use Rattle.core_laws.specs.Puts.{IsRightPut}
use Rattle.core_laws.specs.Shown.{HoldsOfShown}

-- the claim of the record that is being written, where it is the key's
abbrev pub claim_out : Key → Option Put → Terms → List ClaimValue
claim_out key None adopted = []
claim_out key (Some put) adopted = if same_key put.key key then claim_of put.key put.holding (terms_under put.holding adopted) else []

-- the claims that the key has or may have, one of a record that is being written included
abbrev pub may_have : Key → List TranscriptEntry → List ClaimValue
may_have key run = claims_shown key run ++ claim_out key (put_out run) (terms_shown key run)

-- whether the claims are one
abbrev pub same_claim : ClaimValue → ClaimValue → Bool
same_claim a b = same_key a.key b.key && is_under b.holding b.terms a

-- the key has the claim, or may have it
abbrev pub has_claim : Key → ClaimValue → List TranscriptEntry → Bool
has_claim key c run = list_any (same_claim c) (may_have key run)

-- for how many of the newest entries the key has had the claim, or may have had it, without a break
abbrev pub age_of : Key → ClaimValue → List TranscriptEntry → ℕ
age_of key c [] = 0
age_of key c (e ∷ earlier) = if has_claim key c (e ∷ earlier) then suc (age_of key c earlier) else 0

abbrev pub is_event : TranscriptEntry → Bool
is_event (Took event) = true
is_event (Expired group) = false
is_event (Turned turn) = false
is_event (Heard reply) = false

-- the key came to the claim by an event: the cluster showed it
abbrev pub was_shown : Key → ClaimValue → List TranscriptEntry → Bool
was_shown key c [] = false
was_shown key c (e ∷ earlier) = if has_claim key c earlier then was_shown key c earlier else is_event e

-- the terms of both may share: those of their records' marks, and where a record is the mark of none those of its service
abbrev pub ClaimsMayShare : ClaimValue → ClaimValue → Type 0
ClaimsMayShare c d = MayShare c.terms d.terms

-- the key came to its claim later than the other came to its own, and by an event
abbrev pub CameShown : Key → ClaimValue → Key → ClaimValue → List TranscriptEntry → Type 0
CameShown key c other d run = (age_of key c run < age_of other d run) × (was_shown key c run ≡ true)

-- Of two services that have, or may have, one address, both share it by their terms, or the one that came to it later, or came later to
-- its terms, was shown with it so by an event, and given it by no put.
abbrev pub AreSharedOrShown : List TranscriptEntry → Type 0
AreSharedOrShown run =
    (key other : Key) → key ≢ other → (c d : ClaimValue) → Contains (may_have key run) c → Contains (may_have other run) d
    → (a : AddressValue) → Contains c.holding.addresses a → Contains d.holding.addresses a
    → ClaimsMayShare c d ⊎ CameShown key c other d run ⊎ CameShown other d key c run

-- the services that events show have terms that there can be: their texts are texts, and their ports are ports
abbrev pub AllShowTerms : List TranscriptEntry → Type 0
AllShowTerms run = HoldsOfShown (λ key service. AreTerms (terms_of service)) run

-- so it is at each moment of every run
abbrev pub RunsAreShared : Type 0
RunsAreShared = (class : Option (List ℕ)) (run : List TranscriptEntry) → IsRun class run → AllShowTerms run → AreSharedOrShown run

-- The terms share with the service as it is shown: with those of its record's mark, and where the record has no mark of this controller, as MetalLB
-- leaves it, with those of the service itself.
pub record MayShareWith (t : Terms) (service : Service) : Type 0 where
  pub marked : (u : Terms) → IsMarkOf u service.holding.mark → MayShare t u
  pub adopted : ((u : Terms) → ¬ (IsMarkOf u service.holding.mark)) → MayShare t (terms_of service)

-- A put with an address is marked by the terms of its service. Whoever else has, or may have, one of its addresses shares it by these and the terms of
-- its own claim, whoever came first; so each other service that was last shown with one shares it as it was shown.
pub record SharesRightly (put : Put) (service : Service) (earlier : List TranscriptEntry) : Type 0 where
  pub marked : is_assigned put.holding ≡ true → IsMarkOf (terms_of service) put.holding.mark
  pub shares : (other : Key) → other ≢ put.key → (d : ClaimValue) → Contains (may_have other earlier) d → (a : AddressValue)
      → Contains put.holding.addresses a → Contains d.holding.addresses a → MayShare (terms_of service) d.terms
  pub shown : (other : Key) → other ≢ put.key → (held : Versioned Service) → IsLastShown service_resource other held (observed earlier) → (a : AddressValue)
      → Contains put.holding.addresses a → Contains held.object.holding.addresses a → MayShareWith (terms_of service) held.object

-- so it is of each put and the service that it is decided for
abbrev pub PutsShareRightly : Type 0
PutsShareRightly =
    (class : Option (List ℕ)) (put : Put) (pending : Option Reason) (earlier : List TranscriptEntry) → IsRun class (Turned (Wants put pending) ∷ earlier)
    → AllShowTerms earlier → (right : IsRightPut class put pending earlier) → SharesRightly put right.decision.held.object earlier
