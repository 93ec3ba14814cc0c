-- With what a service may be served: of which families, from which pools, with which addresses.
use Rattle.std.specs.Prelude.{◌≡◌, ◌≢◌, ◌⊎◌, ℕ, true, List, [], ◌∷◌, map, ⊤, IsPermutation}
use Rattle.std.specs.List.{Contains}
use Rattle.ip_ranges.specs.declared.family.Family.{Family}
use Rattle.ip_ranges.specs.Values.{AddressValue}
use Rattle.kube_model.specs.declared.service.Service.{Service}
use Rattle.kube_model.specs.declared.service.Wanted.{Wanted}
use Rattle.kube_model.specs.declared.service.Wanted.TheVariants.{NotAsked, Unreadable, Asked}
use Rattle.sharing_terms.specs.Terms.{terms_of}
use Rattle.pool_config.specs.declared.compiled.CompiledPool.{CompiledPool}
use Rattle.pool_choice.specs.Serving.{Serves}
use Rattle.claim_index.specs.Claims.{Holders}
use Rattle.alloc_book.specs.First.{AreSame}
use Rattle.alloc_book.specs.Usable.{IsUsable}

-- the service prefers two families: these, the first of them first
abbrev pub Prefers : Service → Family → Family → Type 0
Prefers service f g = (service.prefer_dual ≡ true) × (service.families ≡ f ∷ g ∷ [])

-- these are all the families of the service; or it prefers two, and this is one of them
abbrev pub IsOption : Service → List Family → Type 0
IsOption service families =
    (families ≡ service.families) ⊎ ((f g : Family) × Prefers service f g × ((families ≡ f ∷ []) ⊎ (families ≡ g ∷ [])))

abbrev pub families_of : List AddressValue → List Family
families_of addresses = map (λ a. a.family) addresses

-- in some order they are one address of each family of an option
abbrev pub AreOfOption : Service → List AddressValue → Type 0
AreOfOption service addresses = (families : List Family) × IsOption service families × IsPermutation (families_of addresses) families

-- the service may use each of these addresses, from this pool
abbrev pub MayUseAll : Holders → Service → CompiledPool → List AddressValue → Type 0
MayUseAll has service pool addresses = (a : AddressValue) → Contains addresses a → IsUsable has service.key (terms_of service) pool a

-- The pool is one of these and serves the service, whose namespace has these labels; where the service asks for a pool, it is that one.
pub record IsOpenTo (pools : List CompiledPool) (labels : List (List ℕ × List ℕ)) (service : Service) (pool : CompiledPool) : Type 0 where
  pub stands : Contains pools pool
  pub serves : Serves service labels pool
  pub asked : service.pool_asked ≢ [] → pool.name ≡ service.pool_asked

-- where the service asks for no pool, this one gives addresses unasked (`spec.autoAssign`)
abbrev pub GivesTo : Service → CompiledPool → Type 0
GivesTo service pool = service.pool_asked ≡ [] → pool.auto_assign ≡ true

-- the pool has addresses, one of each of the families, all of which the service may use
abbrev pub HasUsable : Holders → Service → CompiledPool → List Family → Type 0
HasUsable has service pool families = (addresses : List AddressValue) × (families_of addresses ≡ families) × MayUseAll has service pool addresses

-- none of these pools that is open to the service, and gives to it, has such addresses
abbrev pub NoneHasUsable : Holders → List CompiledPool → List (List ℕ × List ℕ) → Service → List Family → Type 0
NoneHasUsable has pools labels service families =
    (pool : CompiledPool) → IsOpenTo pools labels service pool → GivesTo service pool → ¬ (HasUsable has service pool families)

-- the addresses are what is asked for: those that are named; or, where none are, one of each family of an option, of a pool that gives
abbrev pub AreAsWanted : Wanted → Service → CompiledPool → List AddressValue → Type 0
AreAsWanted NotAsked service pool addresses = IsOption service (families_of addresses) × GivesTo service pool
AreAsWanted Unreadable service pool addresses = ⊥
AreAsWanted (Asked named) service pool addresses = (addresses ≡ named) × AreOfOption service named

-- The service could be given these addresses of this pool.
pub record CouldHave (has : Holders) (pools : List CompiledPool) (labels : List (List ℕ × List ℕ)) (service : Service) (pool : CompiledPool)
    (addresses : List AddressValue) : Type 0 where
  pub is_open : IsOpenTo pools labels service pool
  pub wanted : AreAsWanted service.wanted service pool addresses
  pub usable : MayUseAll has service pool addresses

-- where addresses are named, they are of an option, and these are the same, in any order
abbrev pub AreAsAsked : Wanted → Service → List AddressValue → Type 0
AreAsAsked NotAsked service addresses = ⊤
AreAsAsked Unreadable service addresses = ⊥
AreAsAsked (Asked named) service addresses = AreOfOption service named × AreSame addresses named

-- The recorded addresses may stay, as addresses of this pool: all of them.
pub record MayStay (has : Holders) (pools : List CompiledPool) (labels : List (List ℕ × List ℕ)) (service : Service) (pool : CompiledPool) : Type 0 where
  pub is_open : IsOpenTo pools labels service pool
  pub fits : AreOfOption service service.holding.addresses
  pub as_asked : AreAsAsked service.wanted service service.holding.addresses
  pub usable : MayUseAll has service pool service.holding.addresses
