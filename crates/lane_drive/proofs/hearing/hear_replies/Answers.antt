use Rattle.std.proofs.Common.{refl, sym, ◌∙◌}
use Rattle.lane_run.specs.Outside.{outside, source_state}
use Rattle.lane_drive.proofs.Heard.{hears_none, hears_one, hears_more, never}
use Rattle.lane_drive.proofs.hearing.hear_replies.Goals as goal

pub replies-init : goal.replies-init
replies-init g c = record { hears = hears_none g.M.LaneMachine.rules (g.M.LaneMachine.state c.args.replies.now.machine) _; name = refl; still = λ quiet. refl }

pub next_step-requires : goal.next_step-requires
next_step-requires g c = record {
  paced = λ none_held. c.requires.live c.replies.input c.replies.reader c.replies.out c.replies.invariant.name
      (record {
        state = g.M.LaneMachine.state c.replies.replies.machine;
        hears = c.replies.invariant.hears;
        none_held = none_held;
        waits = sym c.replies-test.ensures;
      });
}

pub replies-preserved : goal.replies-preserved
replies-preserved g c =
    let left = g.I.PacedSource.left in
    let name = g.I.PacedSource.name in
    let faults = g.I.PacedSource.faults in
    let written = g.K.Sink.written in
    let failed = g.K.Sink.faults in
    let now = c.replies in
    let new = c.next_step.new in
    let mid = outside now.reader (source_state (left now.input) (name now.input) (faults now.input)) (written now.out) (failed now.out) in
    let after = outside new.reader (source_state (left new.input) (name new.input) (faults new.input)) (written new.out) (failed new.out) in
    let state = g.M.LaneMachine.state now.replies.machine in
    let state' = g.M.LaneMachine.state new.machine.machine in
    record {
      hears = hears_more g.M.LaneMachine.rules _ state state' _ mid after now.invariant.hears
          (hears_one g.M.LaneMachine.rules state state' mid after (sym c.replies-test.ensures) c.in_default.ensures.drives c.next_step.ensures.reads
          c.next_step.ensures.writes);
      name = c.next_step.ensures.name ∙ now.invariant.name;
      still = λ quiet. absurd (never g.M.LaneMachine.rules _ _ _ _ quiet now.invariant.hears (sym c.replies-test.ensures));
    }

-- where no reply was awaited at first, none is
pub returns-clause-quiet : goal.returns-clause-quiet
returns-clause-quiet g c = c.replies.invariant.still

pub returns-in-Some-clause-quiet : goal.returns-in-Some-clause-quiet
returns-in-Some-clause-quiet g c = λ quiet. absurd (never g.M.LaneMachine.rules _ _ _ _ quiet c.replies.invariant.hears (sym c.replies-test.ensures))
