-- The first of a list that something holds of, and what the first pool gives.
use Rattle.std.specs.Prelude.{◌≡◌, ◌≢◌, true, List, [], filter, length}
use Rattle.std.specs.List.{Contains, AllZip}
use Rattle.ip_ranges.specs.declared.family.Family.{Family}
use Rattle.ip_ranges.specs.Values.{AddressValue, same_family}
use Rattle.kube_model.specs.declared.record.Record.{Record}
use Rattle.sharing_terms.specs.Marks.{mark_of}
use Rattle.pool_config.specs.declared.compiled.CompiledPool.{CompiledPool}
use Rattle.alloc_book.specs.Asking.{Asker, Offer, asked_in, is_asked}
use Rattle.claim_index.specs.Claims.{Holders}
use Rattle.alloc_book.specs.Usable.{IsUsable, IsUsableOf, is_in}
use Rattle.mlb_base.specs.Cases.{IsFirst, NoneIs}
use Rattle.mlb_base.specs.Items.{Has}
use Rattle.alloc_book.specs.Least.{IsLeast}

-- the pool has a usable address of each of the families
abbrev pub HasEach : Holders → Asker → List Family → CompiledPool → Type 0
HasEach has q families pool = (addresses : List AddressValue) × AllZip (IsUsableOf has q.key q.terms pool) families addresses

-- some pool has one of each
abbrev pub SomeHasEach : Holders → Asker → List CompiledPool → List Family → Type 0
SomeHasEach has q pools families = Has (HasEach has q families) pools

-- addresses of a pool, under the asker's terms
abbrev pub record_in : CompiledPool → Asker → List AddressValue → Record
record_in pool q addresses = record { addresses = addresses; pool = pool.name; mark = mark_of q.terms }

-- from the first pool that has a usable address of each of the families, the least of each, in their order
abbrev pub IsLeastOfEach : Holders → Asker → List CompiledPool → List Family → Record → Type 0
IsLeastOfEach has q pools families r =
    (pool : CompiledPool) × IsFirst (HasEach has q families) pools pool × AllZip (IsLeast has q.key q.terms pool) families r.addresses
    × (r ≡ record_in pool q r.addresses)

-- the same for the first option for which some pool has one of each
abbrev pub IsNew : Holders → Asker → List CompiledPool → Record → Type 0
IsNew has q pools r = (families : List Family) × IsFirst (SomeHasEach has q pools) q.options families × IsLeastOfEach has q pools families r

-- for no option some pool has one of each
abbrev pub AreFull : Holders → Asker → List CompiledPool → Type 0
AreFull has q pools = NoneIs (SomeHasEach has q pools) q.options

-- exactly one address of each family, and no others, in any order
abbrev pub IsOneOfEach : List Family → List AddressValue → Type 0
IsOneOfEach families addresses =
    (family : Family) → length (filter (λ a. same_family a.family family) addresses) ≡ length (filter (λ f. same_family f family) families)

-- the addresses are exactly one of each family of some option
abbrev pub FitsOption : Asker → List AddressValue → Type 0
FitsOption q addresses = Has (λ families. IsOneOfEach families addresses) q.options

-- the pool serves the service, and is the one that is asked for, where one is
abbrev pub IsOpen : Offer → Asker → CompiledPool → Type 0
IsOpen o q pool = (o.serves pool ≡ true) × (q.pool_asked ≢ [] → pool.name ≡ q.pool_asked)

-- all of these may be used, from this pool
abbrev pub AllUsable : Holders → Asker → CompiledPool → List AddressValue → Type 0
AllUsable has q pool addresses = (a : AddressValue) → Contains addresses a → IsUsable has q.key q.terms pool a

-- the same addresses, in any order
abbrev pub AreSame : List AddressValue → List AddressValue → Type 0
AreSame xs ys = ((a : AddressValue) → Contains xs a → Contains ys a) × ((a : AddressValue) → Contains ys a → Contains xs a)

-- The recorded addresses may stay as addresses of this pool.
pub record IsKept (has : Holders) (o : Offer) (q : Asker) (pool : CompiledPool) : Type 0 where
  pub is_open : IsOpen o q pool
  pub fits : FitsOption q q.recorded
  pub usable : AllUsable has q pool q.recorded
  pub as_asked : is_asked q.wanted ≡ true → AreSame q.recorded (asked_in q.wanted)

-- The asked addresses lie in this pool, which may be used.
pub record IsHome (o : Offer) (q : Asker) (pool : CompiledPool) : Type 0 where
  pub is_open : IsOpen o q pool
  pub in_pool : (a : AddressValue) → Contains (asked_in q.wanted) a → is_in pool a ≡ true
