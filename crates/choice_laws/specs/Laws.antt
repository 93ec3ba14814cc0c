-- What a choice means for a service that may be served by one family of two, in words apart from the table of choices.
use Rattle.std.specs.Prelude.{◌≡◌, ◌⊎◌, ℕ, true, List, [], ◌∷◌, Option}
use Rattle.std.specs.List.{Contains}
use Rattle.ip_ranges.specs.declared.family.Family.{Family}
use Rattle.ip_ranges.specs.Values.{AddressValue}
use Rattle.kube_model.specs.declared.reason.Reason.{Reason}
use Rattle.kube_model.specs.declared.reason.Reason.TheVariants.{PoolExhausted, NoPool, Exhausted}
use Rattle.kube_model.specs.declared.record.Record.{Record}
use Rattle.kube_model.specs.declared.service.Service.{Service}
use Rattle.kube_model.specs.declared.service.Wanted.TheVariants.{NotAsked}
use Rattle.pool_config.specs.ConfigValue.{ConfigValue, IsConfig}
use Rattle.pool_config.specs.declared.compiled.CompiledPool.{CompiledPool}
use Rattle.pool_choice.specs.Eligible.{StandsBefore}
use Rattle.claim_index.specs.Claims.{Holders}
use Rattle.alloc_book.specs.declared.choice.Choice.{Choice}
use Rattle.alloc_book.specs.declared.choice.Choice.TheVariants.{Pending, Keep, New}
use Rattle.alloc_book.specs.Asking.{options_of, offer_of}
use Rattle.alloc_book.specs.Chosen.{IsChosen}
use Rattle.choice_laws.specs.Options.{Prefers, IsOption, IsOpenTo, GivesTo, HasUsable, NoneHasUsable, families_of, CouldHave, MayStay}

-- The options of a service, the first that can be had.
pub record OptionsAre : Type 0 where
  pub preferred : (service : Service) (f g : Family) → Prefers service f g → options_of service ≡ (f ∷ g ∷ []) ∷ (f ∷ []) ∷ (g ∷ []) ∷ []
  pub others : (service : Service) → ((f g : Family) → ¬ (Prefers service f g)) → options_of service ≡ service.families ∷ []

-- this is chosen for the service, of this class, from the pools of a configuration, where its namespace has these labels
abbrev pub IsChosenFrom : Holders → ConfigValue → List (List ℕ × List ℕ) → Option (List ℕ) → Service → Choice → Type 0
IsChosenFrom has config labels class service c = IsChosen has (offer_of config.pools service labels) class service c

-- where the pools are exhausted, or the one asked for is, none that the service may use has a usable address of each family of any option
abbrev pub ExhaustedIsFull : Type 0
ExhaustedIsFull =
    (has : Holders) (config : ConfigValue) (labels : List (List ℕ × List ℕ)) (class : Option (List ℕ)) (service : Service) (reason : Reason)
    → IsConfig config → (reason ≡ Exhausted) ⊎ (reason ≡ PoolExhausted) → IsChosenFrom has config labels class service (Pending reason)
    → (families : List Family) → IsOption service families → NoneHasUsable has config.pools labels service families

-- where no pool is there, none is open to the service and gives addresses unasked
abbrev pub NoPoolIsOpen : Type 0
NoPoolIsOpen =
    (has : Holders) (config : ConfigValue) (labels : List (List ℕ × List ℕ)) (class : Option (List ℕ)) (service : Service) → IsConfig config
    → IsChosenFrom has config labels class service (Pending NoPool)
    → (service.pool_asked ≡ []) × ((pool : CompiledPool) → IsOpenTo config.pools labels service pool → ¬ (pool.auto_assign ≡ true))

-- a service waits, whatever the reason, only where there are no addresses that it could be given
abbrev pub PendingIsInVain : Type 0
PendingIsInVain =
    (has : Holders) (config : ConfigValue) (labels : List (List ℕ × List ℕ)) (class : Option (List ℕ)) (service : Service) (reason : Reason)
    → IsConfig config → IsChosenFrom has config labels class service (Pending reason) → (pool : CompiledPool) (addresses : List AddressValue)
    → ¬ (CouldHave has config.pools labels service pool addresses)

-- what is kept are all the recorded addresses, and they may stay, as addresses of the pool that is named
abbrev pub KeptIsWhole : Type 0
KeptIsWhole =
    (has : Holders) (config : ConfigValue) (labels : List (List ℕ × List ℕ)) (class : Option (List ℕ)) (service : Service) (r : Record)
    → IsChosenFrom has config labels class service (Keep r)
    → (r.addresses ≡ service.holding.addresses) × ((pool : CompiledPool) × MayStay has config.pools labels service pool × (r.pool ≡ pool.name))

-- where they may stay, a handled service keeps them
abbrev pub WholeIsKept : Type 0
WholeIsKept =
    (has : Holders) (config : ConfigValue) (labels : List (List ℕ × List ℕ)) (class : Option (List ℕ)) (service : Service) (pool : CompiledPool)
    → IsConfig config → MayStay has config.pools labels service pool → service.balancer ≡ true → service.class ≡ class
    → (c : Choice) → IsChosenFrom has config labels class service c → (r : Record) × (c ≡ Keep r) × (r.addresses ≡ service.holding.addresses)

-- a new record that isn't asked for is of all families of the service; or, where it prefers two and these can't be had together, of the first, or,
-- where that can't be had either, of the second
abbrev pub NewIsOfTheFirstOption : Type 0
NewIsOfTheFirstOption =
    (has : Holders) (config : ConfigValue) (labels : List (List ℕ × List ℕ)) (class : Option (List ℕ)) (service : Service) (r : Record)
    → IsConfig config → service.wanted ≡ NotAsked → IsChosenFrom has config labels class service (New r)
    → (families_of r.addresses ≡ service.families)
    ⊎ ((f g : Family) × Prefers service f g × NoneHasUsable has config.pools labels service (f ∷ g ∷ [])
    × ((families_of r.addresses ≡ f ∷ []) ⊎ ((families_of r.addresses ≡ g ∷ []) × NoneHasUsable has config.pools labels service (f ∷ []))))

-- its pool stands before each other one that is open to the service, gives to it, and has usable addresses of the same families
abbrev pub NewIsOfTheFirstPool : Type 0
NewIsOfTheFirstPool =
    (has : Holders) (config : ConfigValue) (labels : List (List ℕ × List ℕ)) (class : Option (List ℕ)) (service : Service) (r : Record)
    → IsConfig config → service.wanted ≡ NotAsked → IsChosenFrom has config labels class service (New r) → (pool other : CompiledPool)
    → Contains config.pools pool → r.pool ≡ pool.name → IsOpenTo config.pools labels service other → GivesTo service other
    → HasUsable has service other (families_of r.addresses) → (pool ≡ other) ⊎ StandsBefore pool other

-- a new record has addresses that the service could be given, of the pool that is named
abbrev pub NewCouldBeHad : Type 0
NewCouldBeHad =
    (has : Holders) (config : ConfigValue) (labels : List (List ℕ × List ℕ)) (class : Option (List ℕ)) (service : Service) (r : Record)
    → IsConfig config → IsChosenFrom has config labels class service (New r)
    → (pool : CompiledPool) × CouldHave has config.pools labels service pool r.addresses × (r.pool ≡ pool.name)
