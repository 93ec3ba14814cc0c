-- No two services are recorded with one address, unless they share it.
use Rattle.std.specs.Prelude.{◌≡◌, ◌≢◌, ⊤}
use Rattle.std.specs.List.{Contains}
use Rattle.ip_ranges.specs.Values.{AddressValue}
use Rattle.kube_model.specs.declared.key.Key.{Key}
use Rattle.kube_model.specs.declared.object.Object.{Object}
use Rattle.kube_model.specs.declared.object.Object.TheVariants as objects
use Rattle.kube_model.specs.declared.record.Record.{Record}
use Rattle.sharing_terms.specs.Marked.{AreTerms, IsMarkOf}
use Rattle.sharing_terms.specs.Terms.{terms_of}
use Rattle.sharing_terms.specs.declared.terms.Terms.{Terms}
use Rattle.sharing_terms.specs.Sharing.{MayShare}
use Rattle.status_store.specs.declared.change.Edit.{Edit}
use Rattle.status_store.specs.declared.change.Edit.TheVariants.{Set, Reset, Delete}
use Rattle.status_store.specs.declared.stored.Stored.{Stored}
use Rattle.status_store.specs.Places.{service_at}
use Rattle.status_store.specs.Objects.{IsStored}
use Rattle.status_store.specs.Changes.{StoreValue, record_of}
use Rattle.world_rules.specs.declared.step.Step.{Step}
use Rattle.world_rules.specs.declared.step.Step.TheVariants.{Edit as Edits, Take, Turn as Turns, Crash, Restart, Expire}

-- this is recorded for the service of the key
abbrev pub IsRecorded : StoreValue → Key → Record → Type 0
IsRecorded store key r = (held : Stored) × IsStored store.objects (service_at key) held × (record_of held.object ≡ r)

-- where both records are marked, the terms of their marks may share
abbrev pub ShareByMarks : Record → Record → Type 0
ShareByMarks r q = (t u : Terms) → IsMarkOf t r.mark → IsMarkOf u q.mark → MayShare t u

-- the record is the mark of no terms
abbrev pub IsUnmarked : Record → Type 0
IsUnmarked r = (t : Terms) → ¬ (IsMarkOf t r.mark)

-- Two services that are recorded with one address share it by the terms of their marks, where both records are marked. Nothing is said
-- of a record that is the mark of no terms.
abbrev pub IsSafe : StoreValue → Type 0
IsSafe store =
    (key other : Key) → key ≢ other → (r q : Record) → IsRecorded store key r → IsRecorded store other q
    → (a : AddressValue) → Contains r.addresses a → Contains q.addresses a → ShareByMarks r q

-- a service that is set has terms that there can be: its texts are texts, and its ports are ports
abbrev pub HasTerms : Object → Type 0
HasTerms (objects.Service service) = AreTerms (terms_of service)
HasTerms (objects.Pool pool) = ⊤
HasTerms (objects.L2 adv) = ⊤
HasTerms (objects.Bgp adv) = ⊤
HasTerms (objects.Peer peer) = ⊤
HasTerms (objects.Community community) = ⊤
HasTerms (objects.Namespace namespace) = ⊤
HasTerms (objects.Node node) = ⊤
HasTerms (objects.Slice slice) = ⊤

abbrev pub SetsTerms : Edit → Type 0
SetsTerms (Set object) = HasTerms object
SetsTerms (Reset object) = HasTerms object
SetsTerms (Delete kind key) = ⊤

abbrev pub StepsTerms : Step → Type 0
StepsTerms (Edits edit) = SetsTerms edit
StepsTerms (Take group) = ⊤
StepsTerms (Turns outcome) = ⊤
StepsTerms (Crash applied) = ⊤
StepsTerms (Restart order) = ⊤
StepsTerms (Expire group order) = ⊤
