-- Who asks for what, and what is offered.
use Rattle.std.specs.Prelude.{ℕ, List, [], ◌∷◌, map, length, ◌==◌, ◌&&◌, if◌then◌else◌, Bool, true, false}
use Rattle.ip_ranges.specs.declared.family.Family.{Family}
use Rattle.ip_ranges.specs.Values.{AddressValue}
use Rattle.kube_model.specs.declared.key.Key.{Key}
use Rattle.kube_model.specs.declared.service.Service.{Service}
use Rattle.kube_model.specs.declared.service.Wanted.{Wanted}
use Rattle.kube_model.specs.declared.service.Wanted.TheVariants.{NotAsked, Unreadable, Asked}
use Rattle.sharing_terms.specs.declared.terms.Terms.{Terms}
use Rattle.sharing_terms.specs.Terms.{terms_of}
use Rattle.pool_config.specs.declared.compiled.CompiledPool.{CompiledPool}
use Rattle.pool_choice.specs.Eligible.{eligible}
use Rattle.pool_choice.specs.Serving.{serves}

-- Who asks, and for what.
pub record Asker : Type 0 where
  pub key : Key
  pub terms : Terms
  pub options : List (List Family)  -- one address of each family of one of these is wanted, the first that can be had
  pub wanted : Wanted  -- the addresses that are asked for, if some are
  pub pool_asked : List ℕ  -- the pool that is asked for, empty for none
  pub recorded : List AddressValue  -- the addresses that are recorded

-- the families of which one alone will do, where not both can be had
abbrev pub alone_of : Bool → List Family → List Family
alone_of prefers families = if prefers && (length families == 2) then families else []

-- all the families; and where either of two will do, each alone
abbrev pub options_by : Bool → List Family → List (List Family)
options_by prefers families = families ∷ map (λ family. family ∷ []) (alone_of prefers families)

-- the lists of families of which the service wants one, the first that can be had
abbrev pub options_of : Service → List (List Family)
options_of service = options_by service.prefer_dual service.families

-- the service asks, under these terms
abbrev pub asking : Service → Terms → Asker
asking service terms = record {
  key = service.key;
  terms = terms;
  options = options_of service;
  wanted = service.wanted;
  pool_asked = service.pool_asked;
  recorded = service.holding.addresses;
}

-- the service asks, under the terms that it has now
abbrev pub asker_of : Service → Asker
asker_of service = asking service (terms_of service)

-- What there is for one service.
pub record Offer : Type 0 where
  pub pools : List CompiledPool  -- those of the configuration
  pub serves : CompiledPool → Bool  -- whether a pool serves the service
  pub eligible : List CompiledPool  -- those that serve it unasked, in their order

-- the addresses that are asked for
abbrev pub asked_in : Wanted → List AddressValue
asked_in NotAsked = []
asked_in Unreadable = []
asked_in (Asked addresses) = addresses

abbrev pub is_asked : Wanted → Bool
is_asked NotAsked = false
is_asked Unreadable = false
is_asked (Asked addresses) = true

abbrev pub is_unreadable : Wanted → Bool
is_unreadable NotAsked = false
is_unreadable Unreadable = true
is_unreadable (Asked addresses) = false

-- a text that isn't empty
abbrev pub is_given : List ℕ → Bool
is_given [] = false
is_given (c ∷ text) = true

-- these pools, of which these are eligible, for a service whose namespace has these labels
abbrev pub offering : List CompiledPool → List CompiledPool → Service → List (List ℕ × List ℕ) → Offer
offering pools eligible service labels = record { pools = pools; serves = serves service labels; eligible = eligible }

-- the pools of a configuration, for a service whose namespace has these labels
abbrev pub offer_of : List CompiledPool → Service → List (List ℕ × List ℕ) → Offer
offer_of pools service labels = offering pools (eligible service labels pools) service labels
