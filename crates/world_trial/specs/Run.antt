-- What draws make of a world, and the puts that its turns want.
use Rattle.std.specs.Prelude.{ℕ, ◌+◌, ◌↔◌, IsTrue, Bool, false, ◌&&◌, not, List, [], ◌∷◌, Option, Some, None, is_some, if◌then◌else◌}
use Rattle.kube_model.specs.declared.event.Event.{Event}
use Rattle.core_rules.specs.Core.{State}
use Rattle.core_rules.specs.Take.{limits}
use Rattle.world_rules.specs.declared.step.Step.{Step}
use Rattle.world_rules.specs.declared.step.Step.TheVariants.{Edit, Take, Turn, Crash, Restart, Expire}
use Rattle.world_rules.specs.World.{WorldValue, IsEnabled, IsLimited, lane_of, next_put, world_step}
use Rattle.ctl_world.specs.Steps.{is_enabled, is_used_up}
use Rattle.world_trial.specs.Begun.{first_world}
use Rattle.world_trial.specs.Draws.{draws}
use Rattle.world_trial.specs.Drawn.{step_of}

-- ---- a step

-- whether the first event of the lane would have one more service held than may be
abbrev pub passes_limit : Option State → List Event → Bool
passes_limit None lane = false
passes_limit (Some s) [] = false
passes_limit (Some s) (event ∷ more) = limits s event

-- whether the step would pass a limit
abbrev pub is_limited : Step → WorldValue → Bool
is_limited (Edit edit) w = is_used_up (Edit edit) w
is_limited (Take group) w = passes_limit w.core (lane_of group w)
is_limited (Turn outcome) w = is_used_up (Turn outcome) w
is_limited (Crash applied) w = is_used_up (Crash applied) w
is_limited (Restart order) w = false
is_limited (Expire group order) w = false

-- whether there is such a step, and it passes no limit
unfoldable pub is_made : Step → WorldValue → Bool
is_made step w = is_enabled step w && not (is_limited step w)

-- a step is made exactly where there is such a step, and it passes no limit
abbrev pub MadeExactlyWhereAllowed : WorldValue → Type 0
MadeExactlyWhereAllowed w = (step : Step) → IsTrue (is_made step w) ↔ (IsEnabled step w × ¬ (IsLimited step w))

-- one, where the next turn wants a put
abbrev pub next_puts : WorldValue → ℕ
next_puts w = if is_some (next_put w.core) then 1 else 0

-- the puts that a step wants: a turn's, and that of a crash which is applied
abbrev pub step_puts : Step → WorldValue → ℕ
step_puts (Edit edit) w = 0
step_puts (Take group) w = 0
step_puts (Turn outcome) w = next_puts w
step_puts (Crash applied) w = if applied then next_puts w else 0
step_puts (Restart order) w = 0
step_puts (Expire group order) w = 0

-- ---- draws

-- the world after what was drawn: a step that isn't made changes nothing
abbrev pub after : Option Step → WorldValue → WorldValue
after None w = w
after (Some step) w = if is_made step w then world_step step w else w

-- the puts that it wants, where it is made
abbrev pub puts_in : Option Step → WorldValue → ℕ
puts_in None w = 0
puts_in (Some step) w = if is_made step w then step_puts step w else 0

-- what the number says in this world
abbrev pub step_in : ℕ → WorldValue → Option Step
step_in x w = step_of x (is_some w.core)

unfoldable pub after_draw : ℕ → WorldValue → WorldValue
after_draw x w = after (step_in x w) w

unfoldable pub draw_puts : ℕ → WorldValue → ℕ
draw_puts x w = puts_in (step_in x w) w

-- the world after these draws, the first of which stands first
abbrev pub after_draws : List ℕ → WorldValue → WorldValue
after_draws [] w = w
after_draws (x ∷ xs) w = after_draws xs (after_draw x w)

-- the puts that their turns want
abbrev pub draws_puts : List ℕ → WorldValue → ℕ
draws_puts [] w = 0
draws_puts (x ∷ xs) w = draw_puts x w + draws_puts xs (after_draw x w)

-- ---- a trial

-- the world of a trial after so many steps
abbrev pub trial_world : ℕ → ℕ → WorldValue
trial_world seed n = after_draws (draws seed n) first_world
