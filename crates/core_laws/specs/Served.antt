-- What a service has that has what was chosen for it.
use Rattle.std.specs.Prelude.{◌≡◌, ◌≢◌, ℕ, true, List, [], Option}
use Rattle.std.specs.List.{Contains}
use Rattle.kube_model.specs.declared.record.Record.{Record}
use Rattle.kube_model.specs.declared.service.Service.{Service}
use Rattle.pool_config.specs.declared.compiled.CompiledPool.{CompiledPool}
use Rattle.alloc_book.specs.declared.choice.Choice.{Choice}
use Rattle.alloc_book.specs.Asking.{Asker, Offer, asker_of, asked_in, is_asked}
use Rattle.claim_index.specs.Claims.{Holders}
use Rattle.alloc_book.specs.Chosen.{IsChosen}
use Rattle.alloc_book.specs.First.{AllUsable, AreSame, FitsOption, record_in}
use Rattle.alloc_book.specs.Granted.{IsFor}
use Rattle.object_history.specs.Cache.{Cached}
use Rattle.core_rules.specs.Core.{offer_in}
use Rattle.core_laws.specs.Quiet.{MeetsRow}

-- The record has one address of each family of some option and no others, of one pool that serves the service, that pool's name, and the
-- mark of the service's terms. Asked addresses and an asked pool are those.
pub record IsServed (has : Holders) (o : Offer) (q : Asker) (r : Record) : Type 0 where
  pub pool : CompiledPool
  pub stands : Contains o.pools pool
  pub serves : o.serves pool ≡ true
  pub fits : FitsOption q r.addresses
  pub usable : AllUsable has q pool r.addresses
  pub as_asked : is_asked q.wanted ≡ true → AreSame r.addresses (asked_in q.wanted)
  pub from_asked : q.pool_asked ≢ [] → pool.name ≡ q.pool_asked
  pub is : r ≡ record_in pool q r.addresses

-- the eligible pools are pools of the configuration, and serve the service
abbrev pub AreOffered : Offer → Type 0
AreOffered o = (pool : CompiledPool) → Contains o.eligible pool → Contains o.pools pool × (o.serves pool ≡ true)

-- whatever record is chosen, to be kept or anew, serves
abbrev pub ChosenIsServed : Type 0
ChosenIsServed = (has : Holders) (o : Offer) (class : Option (List ℕ)) (service : Service) (r : Record) (c : Choice) → AreOffered o → IsFor r c
    → IsChosen has o class service c → IsServed has o (asker_of service) r

-- so a row whose choice is a record has such a record
abbrev pub RowsAreServed : Type 0
RowsAreServed = (class : Option (List ℕ)) (held : Cached) (has : Holders) (service : Service) (row : MeetsRow class (offer_in held) has service) (r : Record)
    → IsFor r row.choice
    → IsServed row.chosen_by (offer_in held row.before) (asker_of row.before) service.holding
