-- What is left to a service stays left to it.
use Rattle.std.specs.Prelude.{◌≡◌, ◌≢◌, ℕ, true, false, List, [], ◌∷◌, ◌++◌, Option, ⊤}
use Rattle.std.specs.List.{AllByRecursion, Contains}
use Rattle.ip_ranges.specs.Values.{AddressValue, is_buggy}
use Rattle.kube_model.specs.declared.key.Key.{Key}
use Rattle.kube_model.specs.declared.put.Put.{Put}
use Rattle.kube_model.specs.declared.reason.Reason.{Reason}
use Rattle.kube_model.specs.declared.reply.PutReply.TheVariants.{Ok as StoredReply}
use Rattle.kube_model.specs.declared.service.Service.{Service}
use Rattle.kube_model.specs.Records.{is_assigned}
use Rattle.kube_model.specs.Service.{with_holding}
use Rattle.versioned_map.specs.declared.map.Versioned.{Versioned}
use Rattle.object_history.specs.Kinds.{service_resource}
use Rattle.object_history.specs.LookBack.{IsInForce, IsLastShown}
use Rattle.pool_config.specs.ConfigValue.{ConfigValue}
use Rattle.pool_config.specs.declared.compiled.CompiledPool.{CompiledPool}
use Rattle.alloc_book.specs.Usable.{is_in}
use Rattle.choice_laws.specs.Options.{IsOpenTo, AreOfOption, AreAsAsked}
use Rattle.sharing_terms.specs.declared.terms.Terms.{Terms}
use Rattle.sharing_terms.specs.Sharing.{MayShare}
use Rattle.sharing_terms.specs.Terms.{terms_of}
use Rattle.claim_index.specs.Claims.{ClaimValue}
use Rattle.core_rules.specs.declared.turn.Turn.TheVariants.{Wants}
use Rattle.core_rules.specs.Core.{shown_terms}
use Rattle.core_rules.specs.Take.{Effect, Shows, Drops, EndsServices, Configures, Expires, Nothing, effect_of}
use Rattle.core_rules.specs.Run.{TranscriptEntry, Took, Expired, Turned, Heard, IsRun, observed}
use Rattle.core_laws.specs.Puts.{IsRightPut, labels_shown}
use Rattle.core_laws.specs.Shared.{may_have, AllShowTerms}

-- whoever else has, or may have, one of the addresses shares it by these terms and its own
abbrev pub AreLeft : List TranscriptEntry → Key → Terms → List AddressValue → Type 0
AreLeft run key terms addresses =
    (other : Key) → other ≢ key → (c : ClaimValue) → Contains (may_have other run) c → (a : AddressValue) → Contains addresses a
    → Contains c.holding.addresses a → MayShare terms c.terms

-- the key has all of them, or may have them, under these terms
abbrev pub HasThem : List TranscriptEntry → Key → Terms → List AddressValue → Type 0
HasThem run key terms addresses =
    (c : ClaimValue) × Contains (may_have key run) c × (c.terms ≡ terms) × ((a : AddressValue) → Contains addresses a → Contains c.holding.addresses a)

-- no other service is shown with one of them
abbrev pub NoneIsShown : Key → List AddressValue → Effect → Type 0
NoneIsShown key addresses (Shows version service) =
    service.key ≢ key → (a : AddressValue) → Contains addresses a → ¬ (Contains service.holding.addresses a)
NoneIsShown key addresses (Drops k) = ⊤
NoneIsShown key addresses EndsServices = ⊤
NoneIsShown key addresses Configures = ⊤
NoneIsShown key addresses Expires = ⊤
NoneIsShown key addresses Nothing = ⊤

abbrev pub ShowsNone : Key → List AddressValue → TranscriptEntry → Type 0
ShowsNone key addresses (Took event) = NoneIsShown key addresses (effect_of event)
ShowsNone key addresses (Expired group) = ⊤
ShowsNone key addresses (Turned turn) = ⊤
ShowsNone key addresses (Heard reply) = ⊤

-- before each of the later entries the key has them, and none of the entries shows another service with one of them
abbrev pub HasThemAlong : List TranscriptEntry → List TranscriptEntry → Key → Terms → List AddressValue → Type 0
HasThemAlong [] earlier key terms addresses = ⊤
HasThemAlong (entry ∷ later) earlier key terms addresses =
    HasThem (later ++ earlier) key terms addresses × ShowsNone key addresses entry × HasThemAlong later earlier key terms addresses

-- addresses that are left to a service stay so, as long as it has them and the cluster shows no other service with one of them
abbrev pub LeftStay : Type 0
LeftStay =
    (class : Option (List ℕ)) (later earlier : List TranscriptEntry) → IsRun class (later ++ earlier) → AllShowTerms (later ++ earlier) → (key : Key)
    (terms : Terms) (addresses : List AddressValue)
    → AreLeft earlier key terms addresses → HasThemAlong later earlier key terms addresses → AreLeft (later ++ earlier) key terms addresses

-- those that are put for it are left to it
abbrev pub PutsAreLeft : Type 0
PutsAreLeft =
    (class : Option (List ℕ)) (put : Put) (pending : Option Reason) (earlier : List TranscriptEntry) → IsRun class (Turned (Wants put pending) ∷ earlier)
    → AllShowTerms earlier → (right : IsRightPut class put pending earlier)
    → AreLeft (Turned (Wants put pending) ∷ earlier) put.key (terms_of right.decision.held.object) put.holding.addresses

-- Were they left to it, the service could keep its recorded addresses, as addresses of this pool: all but that.
pub record CouldStay (config : ConfigValue) (labels : List (List ℕ × List ℕ)) (service : Service) (pool : CompiledPool) : Type 0 where
  pub is_open : IsOpenTo config.pools labels service pool
  pub fits : AreOfOption service service.holding.addresses
  pub as_asked : AreAsAsked service.wanted service service.holding.addresses
  pub in_pool : (a : AddressValue) → Contains service.holding.addresses a → is_in pool a ≡ true
  pub not_avoided : (a : AddressValue) → Contains service.holding.addresses a → pool.avoid_buggy ≡ true → is_buggy a ≡ false

-- Where its addresses are left to a service, and it could keep them by the configuration in force and the labels of its namespace, no put changes them.
abbrev pub AddressesStay : Type 0
AddressesStay =
    (class : Option (List ℕ)) (put : Put) (pending : Option Reason) (earlier : List TranscriptEntry) → IsRun class (Turned (Wants put pending) ∷ earlier)
    → (right : IsRightPut class put pending earlier)
    → (let service = right.decision.held.object in
    service.balancer ≡ true → (pool : CompiledPool)
    → CouldStay right.decision.config (labels_shown service.key.namespace (observed earlier)) service pool
    → AreLeft earlier service.key (terms_of service) service.holding.addresses
    → put.holding.addresses ≡ service.holding.addresses)

-- ---- an address stays
-- The service is held as it was last shown, but for its record, which has these addresses, and is marked by the service's terms or is the mark of none; and
-- the configuration in force and the labels of its namespace are these.
pub record IsAsShown (config : ConfigValue) (labels : List (List ℕ × List ℕ)) (service : Service) (run : List TranscriptEntry) : Type 0 where
  pub held : Versioned Service
  pub shown : IsLastShown service_resource service.key held (observed run)
  pub same : held.object ≡ with_holding held.object.holding service
  pub addresses : held.object.holding.addresses ≡ service.holding.addresses
  pub terms : shown_terms held.object ≡ terms_of service
  pub in_force : IsInForce config (observed run)
  pub labels_are : labels_shown service.key.namespace (observed run) ≡ labels

-- so it is before each of the later entries, and none of these shows another service with one of the addresses
abbrev pub StaysAsShown : ConfigValue → List (List ℕ × List ℕ) → Service → List TranscriptEntry → List TranscriptEntry → Type 0
StaysAsShown config labels service [] earlier = ⊤
StaysAsShown config labels service (entry ∷ later) earlier =
    IsAsShown config labels service (later ++ earlier) × ShowsNone service.key service.holding.addresses entry × StaysAsShown config labels service later earlier

-- where the entry is a turn that wants a put of the service, the put has its addresses
abbrev pub LeavesAddresses : Service → TranscriptEntry → Type 0
LeavesAddresses service entry =
    (put : Put) (pending : Option Reason) → entry ≡ Turned (Wants put pending) → put.key ≡ service.key → put.holding.addresses ≡ service.holding.addresses

-- Of a service that was left its addresses, and could keep them: as long as it, the labels of its namespace and the configuration are as they were shown, and
-- no other service is shown with one of its addresses, no put changes them, and they are left to it.
abbrev pub KeepsLeft : List TranscriptEntry → Type 0
KeepsLeft run =
    (config : ConfigValue) (labels : List (List ℕ × List ℕ)) (service : Service) (pool : CompiledPool) (later earlier : List TranscriptEntry)
    → run ≡ later ++ earlier → service.balancer ≡ true → is_assigned service.holding ≡ true → CouldStay config labels service pool
    → AreLeft earlier service.key (terms_of service) service.holding.addresses → StaysAsShown config labels service later earlier
    → AllByRecursion (LeavesAddresses service) later × AreLeft run service.key (terms_of service) service.holding.addresses

-- So it is of a service for which addresses were put, and stored, by what was decided then: nothing else is asked of these.
abbrev pub KeepsPut : Option (List ℕ) → List TranscriptEntry → Type 0
KeepsPut class run =
    (put : Put) (pending : Option Reason) (version : ℕ) (later before : List TranscriptEntry)
    → run ≡ later ++ Heard (StoredReply version) ∷ Turned (Wants put pending) ∷ before → (right : IsRightPut class put pending before)
    → (let service = with_holding put.holding right.decision.held.object in
    service.balancer ≡ true → is_assigned put.holding ≡ true
    → StaysAsShown right.decision.config (labels_shown service.key.namespace (observed before)) service later
    (Heard (StoredReply version) ∷ Turned (Wants put pending) ∷ before)
    → AllByRecursion (LeavesAddresses service) later × AreLeft run service.key (terms_of service) service.holding.addresses)

-- an address stays
pub record KeepsAddresses (class : Option (List ℕ)) (run : List TranscriptEntry) : Type 0 where
  pub left : KeepsLeft run
  pub put : KeepsPut class run

-- so it is in every run of a core that was shown terms that there can be
abbrev pub RunsKeepAddresses : Type 0
RunsKeepAddresses = (class : Option (List ℕ)) (run : List TranscriptEntry) → IsRun class run → AllShowTerms run → KeepsAddresses class run
