use Rattle.std.proofs.Common.{◌≡◌, true, sym, ◌∙◌}
use Rattle.lane_drive.proofs.hearing.look_behind.Goals as goal

pub next_step-requires : goal.next_step-requires
next_step-requires g c =
    let hears : g.M.LaneMachine.rules.hears ≡ true = sym c.hears.ensures ∙ c.if-not-hears.false in
    record { paced = c.requires.paced hears }
