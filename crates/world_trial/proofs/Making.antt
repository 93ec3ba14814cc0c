-- The tests say which steps are made.
use Rattle.std.proofs.Common.{◌≡◌, ◌↔◌, ◌⊎◌, ⊎_elim, Bool, true, false, ◌&&◌, not, List, [], ◌∷◌, Option, Some, None, Result, Ok, Err, refl, sym, ap, ◌∙◌}
use Rattle.std.proofs.lemmas.Bool.{true≢false, and_parts, and_from, eqb-true, eq-eqb}
use Rattle.std.specs.Prelude.{IsErrOf}
use Rattle.kube_model.specs.declared.event.Event.{Event}
use Rattle.core_rules.specs.Core.{State}
use Rattle.status_store.specs.Changes.{IsWellFormed}
use Rattle.world_rules.specs.declared.step.Step.{Step}
use Rattle.world_rules.specs.declared.step.Step.TheVariants.{Edit, Take, Turn, Crash, Restart, Expire}
use Rattle.world_rules.specs.declared.step.StepFault.{StepFault}
use Rattle.world_rules.specs.declared.step.StepFault.TheVariants.{NotEnabled, Limit, NoMemory}
use Rattle.world_rules.specs.World.{WorldValue, IsEnabled, IsLimited, PassesLimit, lane_of, most_versions}
use Rattle.ctl_world.specs.Faults.{IsTake}
use Rattle.ctl_world.specs.Steps.{is_enabled}
use Rattle.ctl_world.proofs.Enabled.{enabled, disabled}
use Rattle.world_trial.specs.Run.{passes_limit, is_limited, is_made}

passes : (core : Option State) (lane : List Event) → (passes_limit core lane ≡ true) ↔ PassesLimit core lane
passes None lane = (λ e. absurd (true≢false (sym e)), λ is. absurd is)
passes (Some s) [] = (λ e. absurd (true≢false (sym e)), λ is. absurd is)
passes (Some s) (event ∷ more) = (λ e. e, λ is. is)

limited : (step : Step) (w : WorldValue) → (is_limited step w ≡ true) ↔ IsLimited step w
limited (Edit edit) w = (eqb-true w.store.counter most_versions, eq-eqb w.store.counter most_versions)
limited (Take group) w = passes w.core (lane_of group w)
limited (Turn outcome) w = (eqb-true w.store.counter most_versions, eq-eqb w.store.counter most_versions)
limited (Crash applied) w = (
  λ e. let parts = and_parts applied _ e in (parts.0, eqb-true w.store.counter most_versions parts.1),
  λ is. and_from applied _ is.0 (eq-eqb w.store.counter most_versions is.1),
)
limited (Restart order) w = (λ e. absurd (true≢false (sym e)), λ is. absurd is)
limited (Expire group order) w = (λ e. absurd (true≢false (sym e)), λ is. absurd is)

both-are : (a b : Bool) → a ≡ true → b ≡ false → a && not b ≡ true
both-are a b is isn't = rw (is, isn't) refl

first-isn't : (a b : Bool) → a ≡ false → a && not b ≡ false
first-isn't a b isn't = rw isn't refl

second-is : (a b : Bool) → b ≡ true → a && not b ≡ false
second-is true b is = rw is refl
second-is false b is = refl

made-by : (a b : Bool) (E L : Type 0) → (a ≡ true → E) → (a ≡ false → ¬ E) → (b ≡ true) ↔ L → (a && not b ≡ true) ↔ (E × ¬ L)
made-by true true E L is isn't l = (λ e. absurd (true≢false (sym e)), λ both. absurd (both.1 (l.0 refl)))
made-by true false E L is isn't l = (λ e. (is refl, λ limit. true≢false (sym (l.1 limit))), λ both. refl)
made-by false b E L is isn't l = (λ e. absurd (true≢false (sym e)), λ both. absurd (isn't refl both.0))

-- a step is made exactly where there is such a step and it passes no limit
pub made-is : (step : Step) (w : WorldValue) → IsWellFormed w.store → (is_made step w ≡ true) ↔ (IsEnabled step w × ¬ (IsLimited step w))
unfolding is_made
made-is step w kept =
    made-by (is_enabled step w) (is_limited step w) (IsEnabled step w) (IsLimited step w) (enabled step w kept) (disabled step w kept) (limited step w)

-- ---- what `step` answers

not-both : (b : Bool) (P : Type 0) → (b ≡ true) ↔ P → ¬ P → b ≡ false
not-both true P is isn't = absurd (isn't (is.0 refl))
not-both false P is isn't = refl

is-not : (b : Bool) (P : Type 0) → (b ≡ true) ↔ P → ¬ (¬ P) → b ≡ true
is-not true P is isn't = refl
is-not false P is isn't = absurd (isn't (λ p. true≢false (sym (is.1 p))))

module _ {T : Type 0} (r : Result T StepFault) (step : Step) (w : WorldValue) (kept : IsWellFormed w.store)
    (not_enabled : IsErrOf r NotEnabled ↔ ¬ (IsEnabled step w)) where
  -- a step that was made is made
  pub made-ok : (done : T) → r ≡ Ok done → (IsEnabled step w × IsLimited step w → IsErrOf r Limit ⊎ (IsErrOf r NoMemory × IsTake step)) → is_made step w ≡ true
  made-ok done ok limits = is-not (is_made step w) _ (made-is step w kept) (λ isn't.
      let there : ¬ (¬ (IsEnabled step w)) = λ none. absurd (ok-not-err ok (not_enabled.1 none)) in
      there (λ is. isn't (is, λ limit. ⊎_elim (λ err. ok-not-err ok err) (λ err. ok-not-err ok err.0) (limits (is, limit)))))
    where
      ok-not-err : {fault : StepFault} → r ≡ Ok done → r ≡ Err fault → ⊥
      ok-not-err e f = cc

  pub refused-absent : (fault : StepFault) → r ≡ Err fault → fault ≡ NotEnabled → is_made step w ≡ false
  refused-absent fault e is = not-both (is_made step w) _ (made-is step w kept) (λ both. not_enabled.0 (e ∙ ap (λ (f : StepFault). Err f) is) both.0)

  pub refused-limit : (IsErrOf r Limit → IsEnabled step w × IsLimited step w) → (fault : StepFault) → r ≡ Err fault → fault ≡ Limit → is_made step w ≡ false
  refused-limit limit fault e is = not-both (is_made step w) _ (made-is step w kept) (λ both. both.1 (limit (e ∙ ap (λ (f : StepFault). Err f) is)).1)
