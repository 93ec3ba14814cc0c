-- A configuration comes into force by being compiled; so every event keeps the limit on communities.
use Rattle.std.proofs.Common.{◌≡◌, ℕ, List, Bool, true, false, cond, Option, Some, None, Result, Ok, Err, refl, sym, subst}
use Rattle.kube_model.specs.declared.config_fault.ConfigFault.{ConfigFault}
use Rattle.kube_model.specs.declared.event.Event.{Event}
use Rattle.object_history.specs.Observations.{Watched}
use Rattle.object_history.specs.Cache.{compiles, in_force, objects_after}
use Rattle.pool_config.specs.Compile.{compiled}
use Rattle.pool_config.specs.ConfigValue.{ConfigValue, HasFewCommunities}
use Rattle.pool_config.proofs.Few.{compiled-few}
use Rattle.pool_config.specs.declared.object_set.ObjectSet.{ObjectSet}
use Rattle.speaker_view.specs.ViewValue.{ViewValue}
use Rattle.speaker_view.specs.View.{fresh, view_after}
use Rattle.bgp_routes.specs.Few.{HasFewInForce}

-- what holds of a configuration that these objects are compiled to, and of the one in force before, holds of the one in force
module _ (P : ConfigValue → Type 0) where
  abbrev InForce : Option ConfigValue → Type 0
  InForce config = (c : ConfigValue) → config ≡ Some c → P c

  forced-force : (s : ObjectSet) (before : Option ConfigValue) (r : Result ConfigValue ConfigFault) → r ≡ compiled s
      → ((c : ConfigValue) → compiled s ≡ Ok c → P c) → InForce before → InForce (in_force before r)
  forced-force s before (Ok config) is made held c e = let same : config ≡ c = cc in subst P same (made config (sym is))
  forced-force s before (Err fault) is made held c e = held c e

  pub kept-force : (b : Bool) (s : ObjectSet) (before : Option ConfigValue) → ((c : ConfigValue) → compiled s ≡ Ok c → P c) → InForce before
      → InForce (cond b (in_force before (compiled s)) before)
  kept-force true s before made held = forced-force s before (compiled s) refl made held
  kept-force false s before made held = held

-- nothing is in force at first
pub fresh-few : (class : Option (List ℕ)) → HasFewInForce (fresh class)
fresh-few class c e = absurd (let none : None ≡ Some c = e in cc)

pub after-few : (event : Event) (v : ViewValue) → HasFewInForce v → HasFewInForce (view_after event v)
after-few event v few =
    let after = objects_after (Watched event) v.held.objects in
    kept-force HasFewCommunities (compiles v.held.objects v.held.config_ended (Watched event)) after v.held.config (compiled-few after) few
