-- What a step that was made or refused says.
use Rattle.std.proofs.Common.{◌≡◌, true, ◌↔◌, ◌⊎◌, inl, inr, ⊎_elim, Option, Some, None, Result, Ok, Err, refl, sym, ap, subst}
use Rattle.std.specs.Prelude.{OnOk, IfErr, IsErrOf, IfSome}
use Rattle.kube_model.specs.declared.key.Key.{Key}
use Rattle.kube_model.specs.declared.record.Record.{Record}
use Rattle.kube_model.specs.Records.{is_assigned}
use Rattle.core_rules.specs.Core.{State}
use Rattle.core_laws.specs.Quiet.{IsQuiet}
use Rattle.core_laws.proofs.QuietRuns.{runs_are_quiet}
use Rattle.world_rules.specs.declared.step.Step.{Step}
use Rattle.world_rules.specs.declared.step.Step.TheVariants.{Edit as Edits, Take, Turn as Turns, Crash, Restart, Expire}
use Rattle.world_rules.specs.declared.step.StepFault.{StepFault}
use Rattle.world_rules.specs.declared.step.StepFault.TheVariants as faults
use Rattle.world_rules.specs.Good.{IsGood, IsOwn, IsFollowed}
use Rattle.world_rules.specs.Safe.{IsRecorded, IsUnmarked, StepsTerms}
use Rattle.world_rules.specs.World.{WorldValue, world_step, IsEnabled, IsLimited, IsUp}
use Rattle.world_rules.proofs.Own.{steps_are_moves, steps_keep_own}
use Rattle.world_rules.proofs.Unmarked.{unmarked_stay}
use Rattle.world_rules.proofs.Worlds.{steps_keep_good}
use Rattle.ctl_world.specs.Faults.{IsSameOrCrashed, IsAfterWant, IsTake, Leaves}
use Rattle.ctl_world.specs.Steps.{HasNoneOut}

-- ---- a good world

none_out_by : (w : WorldValue) (core : Option State) → IfSome core (IsFollowed w) → HasNoneOut core
none_out_by w None up = tt
none_out_by w (Some s) up = up.none_out

pub good-none_out : (w : WorldValue) → IsGood w → HasNoneOut w.core
good-none_out w good = none_out_by w w.core good.up

quiet_by : (w : WorldValue) (core : Option State) → IfSome core (IsFollowed w) → IfSome core IsQuiet
quiet_by w None up = tt
quiet_by w (Some s) up = subst IsQuiet up.leads (runs_are_quiet w.class up.run up.is)

pub good-quiet : (w : WorldValue) → IsGood w → IfSome w.core IsQuiet
good-quiet w good = quiet_by w w.core good.up

-- ---- what a step leaves

-- The world is as it was, or a step was made that there was.
abbrev IsStepped : WorldValue → WorldValue → Type 0
IsStepped old new = (new ≡ old) ⊎ ((step : Step) × StepsTerms step × IsEnabled step old × (new ≡ world_step step old))

module _ (old new : WorldValue) where
  crashed-step : IsUp old → IsSameOrCrashed old new → IsStepped old new
  crashed-step up either = ⊎_elim (λ same. inl same) (λ crashed. inr (Crash crashed.0, tt, up, crashed.1)) either

  want-step : (step : Step) → IsEnabled step old → IsAfterWant step old new → IsStepped old new
  want-step (Edits edit) there is = inl is
  want-step (Take group) there is = inl is
  want-step (Turns outcome) there either = crashed-step there.0 either
  want-step (Crash applied) there either = crashed-step there either
  want-step (Restart order) there is = inl is
  want-step (Expire group order) there is = inl is

  left-step : (step : Step) (fault : StepFault) → Leaves fault step old new → IsStepped old new
  left-step step faults.NotEnabled left = inl left.1
  left-step step faults.Limit left = inl left.2
  left-step step faults.NoMemory left = want-step step left.0 left.2

  pub stepped : {T : Type 0} (r : Result T StepFault) (step : Step) → StepsTerms step → OnOk r (IsEnabled step old × ¬ (IsLimited step old))
      → OnOk r (new ≡ world_step step old)
      → IfErr r (λ fault. Leaves fault step old new) → IsStepped old new
  stepped (Ok done) step typed there ok err = inr (step, typed, there.0, ok)
  stepped (Err fault) step typed there ok err = left-step step fault err

module _ (old new : WorldValue) (good : IsGood old) (own : IsOwn old) where
  made-kept : (step : Step) → StepsTerms step → IsEnabled step old → new ≡ world_step step old → IsGood new × IsOwn new
  made-kept step typed there is =
      let move = steps_are_moves old step there own in
      (subst IsGood (sym is) (steps_keep_good old (world_step step old) move.0 move.1 good), subst IsOwn (sym is) (steps_keep_own old step typed good own))

  pub stepped-kept : IsStepped old new → IsGood new × IsOwn new
  stepped-kept either =
      ⊎_elim (λ same. (subst IsGood (sym same) good, subst IsOwn (sym same) own)) (λ made. made-kept made.0 made.1 made.2 made.3) either

  pub stepped-unmarked : IsStepped old new → (key : Key) (r : Record) → IsRecorded new.store key r → IsUnmarked r → is_assigned r ≡ true
      → IsRecorded old.store key r
  stepped-unmarked either key r is unmarked has =
      ⊎_elim
      (λ same. subst (λ (w : WorldValue). IsRecorded w.store key r) same is)
      (λ made.
      let move = steps_are_moves old made.0 made.2 own in
      unmarked_stay old (world_step made.0 old) move.0 move.1 good move.2 key r (subst (λ (w : WorldValue). IsRecorded w.store key r) made.3 is) unmarked has)
      either

-- ---- which refusal comes when

-- a step that was made was there
pub passed-is : {T E : Type 0} (P Q : Type 0) (r : Result T E) → P → OnOk r Q → OnOk r (P × Q)
passed-is P Q (Ok done) there ok = (there, ok)
passed-is P Q (Err fault) there ok = tt

module _ (step : Step) (old new : WorldValue) where
  enabled-left : (fault : StepFault) → Leaves fault step old new → ¬ (IsEnabled step old) → fault ≡ faults.NotEnabled
  enabled-left faults.NotEnabled left not = refl
  enabled-left faults.Limit left not = absurd (not left.0)
  enabled-left faults.NoMemory left not = absurd (not left.0)

  limited-left : (fault : StepFault) → Leaves fault step old new → IsEnabled step old × IsLimited step old
      → (fault ≡ faults.Limit) ⊎ ((fault ≡ faults.NoMemory) × IsTake step)
  limited-left faults.NotEnabled left is = absurd (left.0 is.0)
  limited-left faults.Limit left is = inl refl
  limited-left faults.NoMemory left is = inr (refl, left.1 is.1)

module _ {T : Type 0} (step : Step) (old new : WorldValue) where
  not_enabled-by : (r : Result T StepFault) → OnOk r (IsEnabled step old × ¬ (IsLimited step old)) → IfErr r (λ fault. Leaves fault step old new)
      → ¬ (IsEnabled step old) → IsErrOf r faults.NotEnabled
  not_enabled-by (Ok done) ok err not = absurd (not ok.0)
  not_enabled-by (Err fault) ok err not = ap (λ (f : StepFault). Err f) (enabled-left step old new fault err not)

  -- what is left after a refusal of this kind
  pub left-by : (r : Result T StepFault) (fault : StepFault) → IfErr r (λ f. Leaves f step old new) → IsErrOf r fault → Leaves fault step old new
  left-by (Ok done) fault err is = absurd (cc)
  left-by (Err f) fault err is = let same : f ≡ fault = cc in subst (λ (g : StepFault). Leaves g step old new) same err

  pub not_enabled-is : (r : Result T StepFault) → OnOk r (IsEnabled step old × ¬ (IsLimited step old)) → IfErr r (λ fault. Leaves fault step old new)
      → IsErrOf r faults.NotEnabled ↔ ¬ (IsEnabled step old)
  not_enabled-is r ok err = (λ is. (left-by r faults.NotEnabled err is).0, not_enabled-by r ok err)

  pub limit-is : (r : Result T StepFault) → IfErr r (λ fault. Leaves fault step old new) → IsErrOf r faults.Limit → IsEnabled step old × IsLimited step old
  limit-is r err is = let left = left-by r faults.Limit err is in (left.0, left.1)

  pub limited-is : (r : Result T StepFault) → OnOk r (IsEnabled step old × ¬ (IsLimited step old)) → IfErr r (λ fault. Leaves fault step old new)
      → IsEnabled step old × IsLimited step old → IsErrOf r faults.Limit ⊎ (IsErrOf r faults.NoMemory × IsTake step)
  limited-is (Ok done) ok err is = absurd (ok.1 is.1)
  limited-is (Err fault) ok err is =
      ⊎_elim (λ limit. inl (ap (λ (f : StepFault). Err f) limit)) (λ want. inr (ap (λ (f : StepFault). Err f) want.0, want.1))
      (limited-left step old new fault err is)

  pub refused-is : (r : Result T StepFault) → IfErr r (λ fault. Leaves fault step old new) → IsErrOf r faults.NotEnabled ⊎ IsErrOf r faults.Limit → new ≡ old
  refused-is r err either =
      ⊎_elim (λ is. (left-by r faults.NotEnabled err is).1) (λ is. (left-by r faults.Limit err is).2) either

  pub no_memory-is : (r : Result T StepFault) → IfErr r (λ fault. Leaves fault step old new) → IsErrOf r faults.NoMemory → IsAfterWant step old new
  no_memory-is r err is = (left-by r faults.NoMemory err is).2
