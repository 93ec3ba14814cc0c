-- What a step that is refused leaves.
use Rattle.std.specs.Prelude.{◌≡◌, ◌⊎◌, Bool, ⊤}
use Rattle.world_rules.specs.declared.step.Step.{Step}
use Rattle.world_rules.specs.declared.step.Step.TheVariants.{Edit as Edits, Take, Turn as Turns, Crash, Restart, Expire}
use Rattle.world_rules.specs.declared.step.StepFault.{StepFault}
use Rattle.world_rules.specs.declared.step.StepFault.TheVariants as faults
use Rattle.world_rules.specs.World.{WorldValue, IsEnabled, IsLimited, after_crash}

-- the world is as before, or as after a crash: the put that the next turn would want has reached the store, or it hasn't
abbrev pub IsSameOrCrashed : WorldValue → WorldValue → Type 0
IsSameOrCrashed old new = (new ≡ old) ⊎ ((applied : Bool) × (new ≡ after_crash applied old))

-- What running out of memory leaves: after a turn or a crash the controller may have stopped; any other step leaves the world as it was.
abbrev pub IsAfterWant : Step → WorldValue → WorldValue → Type 0
IsAfterWant (Edits edit) old new = new ≡ old
IsAfterWant (Take group) old new = new ≡ old
IsAfterWant (Turns outcome) old new = IsSameOrCrashed old new
IsAfterWant (Crash applied) old new = IsSameOrCrashed old new
IsAfterWant (Restart order) old new = new ≡ old
IsAfterWant (Expire group order) old new = new ≡ old

-- the step takes an event
abbrev pub IsTake : Step → Type 0
IsTake (Edits edit) = ⊥
IsTake (Take group) = ⊤
IsTake (Turns outcome) = ⊥
IsTake (Crash applied) = ⊥
IsTake (Restart order) = ⊥
IsTake (Expire group order) = ⊥

-- when a step is refused so, and what it leaves
abbrev pub Leaves : StepFault → Step → WorldValue → WorldValue → Type 0
Leaves faults.NotEnabled step old new = ¬ (IsEnabled step old) × (new ≡ old)
Leaves faults.Limit step old new = IsEnabled step old × IsLimited step old × (new ≡ old)
Leaves faults.NoMemory step old new = IsEnabled step old × (IsLimited step old → IsTake step) × IsAfterWant step old new
