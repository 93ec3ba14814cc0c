-- What holds of every choice, whoever has what.
use Rattle.std.specs.Prelude.{◌≡◌, ℕ, List, [], Option, if◌then◌else◌}
use Rattle.ip_ranges.specs.declared.family.Family.{Family}
use Rattle.ip_ranges.specs.Values.{AddressValue}
use Rattle.kube_model.specs.declared.key.Key.{Key}
use Rattle.kube_model.specs.declared.reason.Reason.{Reason}
use Rattle.kube_model.specs.declared.record.Record.{Record}
use Rattle.kube_model.specs.declared.service.Service.{Service}
use Rattle.sharing_terms.specs.declared.terms.Terms.{Terms}
use Rattle.sharing_terms.specs.Marked.{IsMarkOf}
use Rattle.alloc_book.specs.declared.choice.Choice.{Choice}
use Rattle.alloc_book.specs.declared.choice.Choice.TheVariants.{Pending}
use Rattle.pool_config.specs.declared.compiled.CompiledPool.{CompiledPool}
use Rattle.alloc_book.specs.Asking.{Offer, asker_of}
use Rattle.claim_index.specs.Claims.{AreAssigned, ClaimValue, claims_of, holders, others, settled, doubted, claim_of, added, terms_under, Holders}
use Rattle.alloc_book.specs.Book.{HasLost}
use Rattle.alloc_book.specs.Chosen.{IsChosen}
use Rattle.kube_model.specs.Keys.{same_key}
use Rattle.alloc_book.specs.Granted.{IsGranted, IsFor, IsTighter, HaveMore}
use Rattle.alloc_book.specs.Least.{IsLeast}

-- what is chosen may be used
abbrev pub ChosenIsGranted : Type 0
ChosenIsGranted =
    (has : Holders) (o : Offer) (class : Option (List ℕ)) (service : Service) (r : Record) (c : Choice) → IsFor r c → IsChosen has o class service c
    → IsGranted has o (asker_of service) r

-- one thing at most is chosen, and one address is the least
abbrev pub ChosenIsOne : Type 0
ChosenIsOne =
    (has : Holders) (o : Offer) (class : Option (List ℕ)) (service : Service) (c d : Choice) → IsChosen has o class service c → IsChosen has o class service d
    → c ≡ d

abbrev pub LeastIsOne : Type 0
LeastIsOne =
    (has : Holders) (key : Key) (terms : Terms) (pool : CompiledPool) (family : Family) (a b : AddressValue) → IsLeast has key terms pool family a
    → IsLeast has key terms pool family b → a ≡ b

-- what is pending stays so, for the same reason, where nothing is left to the service that wasn't left to it before
abbrev pub PendingStays : Type 0
PendingStays =
    (before after : Holders) (o : Offer) (class : Option (List ℕ)) (service : Service) (reason : Reason)
    → IsTighter service.key (asker_of service).terms before after
    → IsChosen before o class service (Pending reason) → IsChosen after o class service (Pending reason)

-- as where each other key has what it had, and perhaps more
abbrev pub MoreIsTighter : Type 0
MoreIsTighter = (key : Key) (terms : Terms) (before after : Holders) → HaveMore key before after → IsTighter key terms before after

-- it doesn't matter by what it is known who has what
abbrev pub ChosenBySame : Type 0
ChosenBySame =
    (has other : Holders) (o : Offer) (class : Option (List ℕ)) (service : Service) (c : Choice) → ((key : Key) → has key ≡ other key)
    → IsChosen has o class service c → IsChosen other o class service c

-- each key has, by the claims, what the changes of them say
abbrev pub ClaimsAreKeyed : Type 0
ClaimsAreKeyed =
    (claims : List ClaimValue) (key other : Key) (r : Record) (t : Terms)
    → (claims_of other (settled key r t claims) ≡ (if same_key key other then claim_of key r t else claims_of other claims))
    × (claims_of other (doubted key r t claims) ≡ (if same_key key other then added key r t (claims_of other claims) else claims_of other claims))
    × (claims_of other (others key claims) ≡ (if same_key key other then [] else claims_of other claims))

-- neither a doubt nor a settled record by which no claim is lost takes anything from anyone
abbrev pub NothingIsTaken : Type 0
NothingIsTaken =
    (claims : List ClaimValue) (key any : Key) (r : Record) (t : Terms) → AreAssigned claims
    → HaveMore any (holders claims) (holders (doubted key r t claims))
    × (¬ (HasLost claims (settled key r t claims)) → HaveMore any (holders claims) (holders (settled key r t claims)))

-- the terms of a record are those of its mark, and where it is the mark of none the adopted ones
abbrev pub TermsAreRecorded : Type 0
TermsAreRecorded =
    (holding : Record) (adopted : Terms)
    → ((t : Terms) → IsMarkOf t holding.mark → terms_under holding adopted ≡ t)
    × (((t : Terms) → ¬ (IsMarkOf t holding.mark)) → terms_under holding adopted ≡ adopted)
