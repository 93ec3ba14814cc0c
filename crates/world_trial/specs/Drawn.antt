-- The step that a number says.
use Rattle.std.specs.Prelude.{ℕ, ◌/◌, ◌%◌, ◌==◌, nat_lt, Bool, true, false, Option, Some, None, if◌then◌else◌}
use Rattle.kube_model.specs.declared.event.ListGroup.TheVariants as groups
use Rattle.kube_model.specs.declared.object.Kind.TheVariants as kinds
use Rattle.kube_model.specs.declared.object.Object.TheVariants as objects
use Rattle.status_store.specs.declared.change.Edit.{Edit}
use Rattle.status_store.specs.declared.change.Edit.TheVariants.{Set, Delete}
use Rattle.status_store.specs.declared.change.Outcome.TheVariants.{Delivered, Lost}
use Rattle.world_rules.specs.declared.step.Step.{Step}
use Rattle.world_rules.specs.declared.step.ListOrder.TheVariants.{Ascending}
use Rattle.world_rules.specs.declared.step.Step.TheVariants.{Edit as Edits, Take, Turn, Crash, Restart}
use Rattle.world_trial.specs.Services.{numbered, service_of}

-- the service is set, or deleted
abbrev pub edit_of : ℕ → ℕ → ℕ → Edit
edit_of k y z = if nat_lt k 3 then Set (objects.Service (service_of y z)) else Delete kinds.Service (numbered y)

-- two of eight stop the controller, the second with its put applied
abbrev pub crash_of : ℕ → Option Step
crash_of z = if z == 0 then Some (Crash false) else if z == 1 then Some (Crash true) else None

-- what a controller that is up does
abbrev pub step_up : ℕ → ℕ → Option Step
step_up k z =
    if nat_lt k 8 then Some (Take groups.Service)
    else if k == 8 then Some (Take groups.Config)
    else if nat_lt k 14 then Some (Turn Delivered)
    else if k == 14 then Some (Turn (Lost (z % 2 == 0)))
    else crash_of z

-- one that is down is started, or nothing happens
abbrev pub step_down : ℕ → Option Step
step_down k = if nat_lt k 9 then None else Some (Restart Ascending)

-- the service of the number y is edited, in the form z; or the controller does something
abbrev pub step_by : ℕ → ℕ → ℕ → Bool → Option Step
step_by k y z is_up =
    if nat_lt k 4 then Some (Edits (edit_of k y z))
    else if is_up then step_up k z
    else step_down k

-- what a number says, while the controller is up or down
unfoldable pub step_of : ℕ → Bool → Option Step
step_of x is_up = step_by (x % 16) (x / 16 % 48) (x / 1024 % 8) is_up
