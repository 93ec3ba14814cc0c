-- What is held of a configuration in force has so few communities.
use Rattle.std.proofs.Common.{◌≡◌, ℕ, ◌≤◌, List, [], ◌∷◌, length, map, Option, Some, None, Ordering, inl, inr, refl, arith}
use Rattle.std.specs.List.{AllByRecursion}
use Rattle.std.specs.List.Sorted.{IsStrictlySortedBy}
use Rattle.std.specs.Ordering.{nat_cmp}
use Rattle.large_numbers.specs.Large.{large_cmp}
use Rattle.mlb_base.specs.Items.{Has, IsIn}
use Rattle.pool_config.specs.ConfigValue.{ConfigValue, HasAtMost, HasFewCommunities}
use Rattle.pool_config.specs.declared.compiled.CompiledBgp.{CompiledBgp}
use Rattle.bgp_routes.specs.declared.kept_config.Advertisement.{Advertisement}
use Rattle.bgp_routes.specs.KeptConfig.{AreAtMost, AreFew, advertisement_of}
use Rattle.bgp_routes.specs.Parts.{bgp_in}
use Rattle.bgp_routes.proofs.Few.{all-from, each-of}

-- communities of a kind that is held as the configuration has it
module _ {K : Type 0} (limit : ℕ) (R : K → K → Ordering) (kind : Advertisement → List K) where
  none-many : (ks : List K) → AllByRecursion (λ k. Has (λ adv. IsIn (kind adv) k) []) ks → length ks ≤ limit
  none-many [] all = omega arith
  none-many (k ∷ ks) all = absurd all.0

  nothing : AreAtMost limit R kind []
  nothing = record { ascend = tt; few = λ ks sorted all. none-many ks all }

  module _ (config : ConfigValue) (known : HasAtMost limit R (λ adv. kind (advertisement_of adv)) config) where
    all-held : (bgp : List CompiledBgp) → AllByRecursion (λ adv. IsStrictlySortedBy R (kind (advertisement_of adv))) bgp
        → AllByRecursion (λ adv. IsStrictlySortedBy R (kind adv)) (map advertisement_of bgp)
    all-held [] all = tt
    all-held (adv ∷ bgp) all = (all.0, all-held bgp all.1)

    held-back : (bgp : List CompiledBgp) (k : K) → Has (λ adv. IsIn (kind adv) k) (map advertisement_of bgp)
        → Has (λ (adv : CompiledBgp). IsIn (kind (advertisement_of adv)) k) bgp
    held-back [] k none = absurd none
    held-back (adv ∷ bgp) k (inl here) = inl here
    held-back (adv ∷ bgp) k (inr later) = inr (held-back bgp k later)

    most-of : AreAtMost limit R kind (map advertisement_of config.bgp)
    most-of = record {
      ascend = all-held config.bgp known.ascend;
      few = λ ks sorted all.
          known.few ks sorted
          (all-from (λ k. Has (λ (adv : CompiledBgp). IsIn (kind (advertisement_of adv)) k) config.bgp) ks (λ k there.
          held-back config.bgp k (each-of (λ j. Has (λ adv. IsIn (kind adv) j) (map advertisement_of config.bgp)) ks k all there)));
    }

pub few-nothing : AreFew []
few-nothing = record { numbers = nothing 512 nat_cmp (λ adv. adv.communities); large = nothing 128 large_cmp (λ adv. adv.large) }

few-of : (config : ConfigValue) → HasFewCommunities config → AreFew (map advertisement_of config.bgp)
few-of config known = record {
  numbers = most-of 512 nat_cmp (λ adv. adv.communities) config known.numbers;
  large = most-of 128 large_cmp (λ adv. adv.large) config known.large;
}

pub few-in : (config : Option ConfigValue) → ((c : ConfigValue) → config ≡ Some c → HasFewCommunities c) → AreFew (map advertisement_of (bgp_in config))
few-in None known = few-nothing
few-in (Some config) known = few-of config (known config refl)
