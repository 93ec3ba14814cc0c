-- What is chosen for a service: the first case of the table that holds.
use Rattle.std.specs.Prelude.{◌≡◌, ◌≢◌, ◌⊎◌, ℕ, true, false, List, [], Option, Some, None, find}
use Rattle.std.specs.Option.{option_to_list}
use Rattle.std.specs.Str.{bytes_eq}
use Rattle.kube_model.specs.declared.reason.Reason.{Reason}
use Rattle.kube_model.specs.declared.reason.Reason.TheVariants.{RequestUnreadable, RequestFamilies, PoolUnknown, PoolRefused}
use Rattle.kube_model.specs.declared.reason.Reason.TheVariants.{AddressOutside, AddressUnusable, PoolExhausted, NoPool, Exhausted}
use Rattle.kube_model.specs.declared.record.Record.{Record}
use Rattle.kube_model.specs.declared.service.Service.{Service}
use Rattle.kube_model.specs.declared.service.Wanted.TheVariants.{Unreadable}
use Rattle.alloc_book.specs.declared.choice.Choice.{Choice}
use Rattle.alloc_book.specs.declared.choice.Choice.TheVariants.{Foreign, Clear, Pending, Keep, New}
use Rattle.pool_config.specs.declared.compiled.CompiledPool.{CompiledPool}
use Rattle.alloc_book.specs.Asking.{Asker, Offer, asker_of, asked_in, is_asked}
use Rattle.claim_index.specs.Claims.{Holders}
use Rattle.mlb_base.specs.Cases.{Case, IsFirst, NoneIs}
use Rattle.alloc_book.specs.First.{IsNew, AreFull, FitsOption, AllUsable, IsKept, IsHome, record_in}

-- the pool of that name
abbrev pub named : List CompiledPool → List ℕ → Option CompiledPool
named pools name = find (λ pool. bytes_eq pool.name name) pools

-- the pool that is asked for, if it is there
abbrev pub asked_pools : Offer → Asker → List CompiledPool
asked_pools o q = option_to_list (named o.pools q.pool_asked)

abbrev pub AsksPool : Asker → Type 0
AsksPool q = q.pool_asked ≢ []

abbrev pub AsksAddresses : Asker → Type 0
AsksAddresses q = is_asked q.wanted ≡ true

-- the new record, or this reason where the pools are full
abbrev pub Gives : Holders → Asker → List CompiledPool → Reason → Choice → Type 0
Gives has q pools reason c = ((r : Record) × IsNew has q pools r × (c ≡ New r)) ⊎ (AreFull has q pools × (c ≡ Pending reason))

abbrev pub IsChosenFor : Holders → Offer → Option (List ℕ) → Service → Asker → Choice → Type 0
IsChosenFor has o class service q c =
    -- 1: it is of type LoadBalancer, and its class isn't the configured one
    Case ((service.balancer ≡ true) × (service.class ≢ class)) (c ≡ Foreign)
    -- 2: it isn't of that type
    (Case (service.balancer ≡ false) (c ≡ Clear)
    -- 3: the addresses asked for can't be read
    (Case (q.wanted ≡ Unreadable) (c ≡ Pending RequestUnreadable)
    -- 4: they aren't exactly one of each family of some option
    (Case (AsksAddresses q × ¬ (FitsOption q (asked_in q.wanted))) (c ≡ Pending RequestFamilies)
    -- 5: the pool asked for isn't configured
    (Case (AsksPool q × (named o.pools q.pool_asked ≡ None)) (c ≡ Pending PoolUnknown)
    -- 6: it doesn't serve the service
    (Case (AsksPool q × ((pool : CompiledPool) × (named o.pools q.pool_asked ≡ Some pool) × (o.serves pool ≡ false))) (c ≡ Pending PoolRefused)
    -- 7: the recorded addresses may stay
    (Case ((pool : CompiledPool) × IsFirst (IsKept has o q) o.pools pool)
    ((pool : CompiledPool) × IsFirst (IsKept has o q) o.pools pool × (c ≡ Keep (record_in pool q q.recorded)))
    -- 8: no one pool that it may use has all the addresses asked for
    (Case (AsksAddresses q × NoneIs (IsHome o q) o.pools) (c ≡ Pending AddressOutside)
    -- 9: one of them isn't usable
    (Case (AsksAddresses q × ((pool : CompiledPool) × IsFirst (IsHome o q) o.pools pool × ¬ (AllUsable has q pool (asked_in q.wanted))))
    (c ≡ Pending AddressUnusable)
    -- 10: addresses are asked for, all of which may be used
    (Case (AsksAddresses q) ((pool : CompiledPool) × IsFirst (IsHome o q) o.pools pool × AllUsable has q pool (asked_in q.wanted)
    × (c ≡ New (record_in pool q (asked_in q.wanted))))
    -- 11: a pool is asked for
    (Case (AsksPool q) (Gives has q (asked_pools o q) PoolExhausted c)
    -- 12: no pool is eligible
    (Case (o.eligible ≡ []) (c ≡ Pending NoPool)
    -- 13
    (Gives has q o.eligible Exhausted c))))))))))))

abbrev pub IsChosen : Holders → Offer → Option (List ℕ) → Service → Choice → Type 0
IsChosen has o class service c = IsChosenFor has o class service (asker_of service) c
