use Rattle.std.proofs.Common.{◌≡◌, true, false, inl, ap}
use Rattle.lane_run.specs.Outside.{outside, source_state}
use Rattle.lane_run.proofs.RanSo.{turned_none}
use Rattle.lane_drive.proofs.Left.{left_behind, left_stands, left_then}
use Rattle.lane_drive.proofs.Sent.{turned_lawful}
use Rattle.lane_drive.proofs.Taken.{answers_in, awaits_in, stopped_in}
use Rattle.lane_drive.proofs.Ways.{asks_behind, ends_undriven, ends_refused, leaves_refused, quiet_then}
use Rattle.lane_drive.proofs.Ways.{ends_unknown, ends_behind, ends_as_lanes, leaves_lanes, leaves_unknown}
use Rattle.lane_drive.proofs.opened.run_opened.Goals as goal

pub run_turned-ran-requires-clause-may : goal.run_turned-ran-requires-clause-may
run_turned-ran-requires-clause-may g c = λ _ _. record {
  live = λ i r o name asks. c.requires.may.live i r o name (
    g.A.Turner.state c.args.first_turner.now,
    g.B.Turner.state c.args.second_turner.now,
    inl (awaits_in g.M.LaneMachine.rules (g.M.LaneMachine.state c.args.driver.now.replies.machine) _ _ c.requires.quiet asks),
  );
  waits = λ items out has.
      c.requires.may.waits items out
      (answers_in g.M.LaneMachine.rules (g.M.LaneMachine.state c.args.driver.now.replies.machine) _ items (g.K.Sink.written out) c.requires.quiet has);
  drops = λ items out has.
      c.requires.may.drops items out
      (stopped_in g.M.LaneMachine.rules (g.M.LaneMachine.state c.args.driver.now.replies.machine) _ items (g.K.Sink.written out) c.requires.quiet has);
}

pub returns-in_default-clause-ended : goal.returns-in_default-clause-ended
returns-in_default-clause-ended g c =
    ends_undriven turned_lawful g.M.LaneMachine.rules (g.M.LaneMachine.state c.args.driver.now.replies.machine) c.requires.quiet
    _ _ _ _ _ _ (ap g.K.Sink.written c.in_default.ensures.undriven.3)
    (turned_none g.A.Turner.Turns g.B.Turner.Turns g.M.Lanes.belongs _ _ _ _ _ _ (ap g.A.Turner.state c.in_default.ensures.unread.2)
    (ap g.B.Turner.state c.in_default.ensures.unread.3))

pub returns-in-Err-clause-ended : goal.returns-in-Err-clause-ended
returns-in-Err-clause-ended g c =
    ends_refused turned_lawful g.M.LaneMachine.rules (g.M.LaneMachine.state c.args.driver.now.replies.machine) c.requires.quiet
    _ _ _ _ _ _ (g.M.LaneMachine.state c.run_turned-ran.new.machine.replies.machine) _ c.in-Ok.ensures.ran c.in-Err.status c.in-Err.is
    (c.are_known.ensures c.if-not-are_known.false)

pub returns-in-Err-clause-unheard : goal.returns-in-Err-clause-unheard
returns-in-Err-clause-unheard g c =
    leaves_refused turned_lawful g.M.LaneMachine.rules (g.M.LaneMachine.state c.args.driver.now.replies.machine) c.requires.quiet
    _ _ _ _ _ _ (g.M.LaneMachine.state c.run_turned-ran.new.machine.replies.machine) _ c.in-Ok.ensures.ran c.in-Err.status c.in-Err.is
    (g.met.M.LaneMachine g.world.𝓛 g.world.𝓜 g.world.𝓡 ((λ s x. x), (λ x. x), (λ x. x), λ x. x)).unheard

pub look_behind-requires : goal.look_behind-requires
look_behind-requires g c =
    let ran = c.run_turned-ran.new in
    let mid = outside ran.reader (source_state (g.I.PacedSource.left ran.input) (g.I.PacedSource.name ran.input) (g.I.PacedSource.faults ran.input))
    (g.K.Sink.written ran.out) (g.K.Sink.faults ran.out) in
    record {
      quiet = quiet_then turned_lawful g.M.LaneMachine.rules (g.M.LaneMachine.state c.args.driver.now.replies.machine) c.requires.quiet _ _ _ _ _ mid
          (g.M.LaneMachine.state c.run_turned-ran.new.machine.replies.machine) _ c.in-Ok.ensures.ran c.in_default-outcome.is;
      paced = λ hears none_held. c.requires.may.live ran.input ran.reader ran.out c.run_turned-ran.ensures.name (
        g.A.Turner.state ran.first_turner,
        g.B.Turner.state ran.second_turner,
        asks_behind turned_lawful g.M.LaneMachine.rules (g.M.LaneMachine.state c.args.driver.now.replies.machine) c.requires.quiet _ _ _ _ _ mid
            (g.M.LaneMachine.state c.run_turned-ran.new.machine.replies.machine) _ c.in-Ok.ensures.ran c.in_default-outcome.is
            (c.are_known.ensures c.if-not-are_known.false) hears none_held,
      );
    }

pub returns-in-Some-clause-ended : goal.returns-in-Some-clause-ended
returns-in-Some-clause-ended g c =
    let ran = c.run_turned-ran.new in
    let mid = outside ran.reader (source_state (g.I.PacedSource.left ran.input) (g.I.PacedSource.name ran.input) (g.I.PacedSource.faults ran.input))
    (g.K.Sink.written ran.out) (g.K.Sink.faults ran.out) in
    ends_behind turned_lawful g.M.LaneMachine.rules (g.M.LaneMachine.state c.args.driver.now.replies.machine) c.requires.quiet _ _ _ _ _ mid
    (g.M.LaneMachine.state c.run_turned-ran.new.machine.replies.machine) _ c.in-Ok.ensures.ran c.in_default-outcome.is
    (c.are_known.ensures c.if-not-are_known.false) _ c.in-Some.status c.in-Some.ensures.some

pub returns-clause-ended : goal.returns-clause-ended
returns-clause-ended g c =
    let ran = c.run_turned-ran.new in
    let mid = outside ran.reader (source_state (g.I.PacedSource.left ran.input) (g.I.PacedSource.name ran.input) (g.I.PacedSource.faults ran.input))
    (g.K.Sink.written ran.out) (g.K.Sink.faults ran.out) in
    rw c.status_of_lanes.ensures (ends_as_lanes turned_lawful g.M.LaneMachine.rules (g.M.LaneMachine.state c.args.driver.now.replies.machine) c.requires.quiet
    _ _ _ _ _ mid (g.M.LaneMachine.state c.run_turned-ran.new.machine.replies.machine) _ c.in-Ok.ensures.ran
    c.in_default-outcome.is (c.are_known.ensures c.if-not-are_known.false) _ c.in_default-look_behind.ensures.none)

pub returns-clause-unheard : goal.returns-clause-unheard
returns-clause-unheard g c =
    let ran = c.run_turned-ran.new in
    let mid = outside ran.reader (source_state (g.I.PacedSource.left ran.input) (g.I.PacedSource.name ran.input) (g.I.PacedSource.faults ran.input))
    (g.K.Sink.written ran.out) (g.K.Sink.faults ran.out) in
    leaves_lanes turned_lawful g.M.LaneMachine.rules (g.M.LaneMachine.state c.args.driver.now.replies.machine) c.requires.quiet _ _ _ _ _ mid
    (g.M.LaneMachine.state c.run_turned-ran.new.machine.replies.machine) _ c.in-Ok.ensures.ran c.in_default-outcome.is
    _ (g.met.M.LaneMachine g.world.𝓛 g.world.𝓜 g.world.𝓡 ((λ s x. x), (λ x. x), (λ x. x), λ x. x)).unheard c.in_default-look_behind.ensures.none

pub returns-then-not-are_known-clause-ended : goal.returns-then-not-are_known-clause-ended
returns-then-not-are_known-clause-ended g c =
    let ran = c.run_turned-ran.new in
    let mid = outside ran.reader (source_state (g.I.PacedSource.left ran.input) (g.I.PacedSource.name ran.input) (g.I.PacedSource.faults ran.input))
    (g.K.Sink.written ran.out) (g.K.Sink.faults ran.out) in
    ends_unknown turned_lawful g.M.LaneMachine.rules (g.M.LaneMachine.state c.args.driver.now.replies.machine) c.requires.quiet _ _ _ _ _ mid
    (g.M.LaneMachine.state c.run_turned-ran.new.machine.replies.machine) _ c.in-Ok.ensures.ran

pub returns-then-not-are_known-clause-unheard : goal.returns-then-not-are_known-clause-unheard
returns-then-not-are_known-clause-unheard g c =
    let ran = c.run_turned-ran.new in
    let mid = outside ran.reader (source_state (g.I.PacedSource.left ran.input) (g.I.PacedSource.name ran.input) (g.I.PacedSource.faults ran.input))
    (g.K.Sink.written ran.out) (g.K.Sink.faults ran.out) in
    leaves_unknown turned_lawful g.M.LaneMachine.rules (g.M.LaneMachine.state c.args.driver.now.replies.machine) c.requires.quiet _ _ _ _ _ mid
    (g.M.LaneMachine.state c.run_turned-ran.new.machine.replies.machine) _ c.in-Ok.ensures.ran
    (g.met.M.LaneMachine g.world.𝓛 g.world.𝓜 g.world.𝓡 ((λ s x. x), (λ x. x), (λ x. x), λ x. x)).unheard

pub returns-in_default-clause-behind : goal.returns-in_default-clause-behind
returns-in_default-clause-behind g c none fresh =
    left_stands turned_lawful g.M.LaneMachine.rules (g.M.LaneMachine.state c.args.driver.now.replies.machine) _ (g.M.LaneMachine.rules.hears ≡ false) none
    _ _ _ _ _ (left_behind turned_lawful g.M.LaneMachine.rules (g.M.LaneMachine.state c.args.driver.now.replies.machine) _ c.requires.quiet
    ((g.met.M.LaneMachine g.world.𝓛 g.world.𝓜 g.world.𝓡 ((λ s x. x), (λ x. x), (λ x. x), λ x. x)).unheard none) _ _ _ _
    (c.run_turned-ran.ensures.behind (λ none'. fresh)))

pub returns-in-Err-clause-behind : goal.returns-in-Err-clause-behind
returns-in-Err-clause-behind g c none fresh =
    left_stands turned_lawful g.M.LaneMachine.rules (g.M.LaneMachine.state c.args.driver.now.replies.machine) _ (g.M.LaneMachine.rules.hears ≡ false) none
    _ _ _ _ _ (left_behind turned_lawful g.M.LaneMachine.rules (g.M.LaneMachine.state c.args.driver.now.replies.machine) _ c.requires.quiet
    ((g.met.M.LaneMachine g.world.𝓛 g.world.𝓜 g.world.𝓡 ((λ s x. x), (λ x. x), (λ x. x), λ x. x)).unheard none) _ _ _ _
    (c.run_turned-ran.ensures.behind (λ none'. fresh)))

pub returns-then-not-are_known-clause-behind : goal.returns-then-not-are_known-clause-behind
returns-then-not-are_known-clause-behind g c none fresh =
    left_stands turned_lawful g.M.LaneMachine.rules (g.M.LaneMachine.state c.args.driver.now.replies.machine) _ (g.M.LaneMachine.rules.hears ≡ false) none
    _ _ _ _ _ (left_behind turned_lawful g.M.LaneMachine.rules (g.M.LaneMachine.state c.args.driver.now.replies.machine) _ c.requires.quiet
    ((g.met.M.LaneMachine g.world.𝓛 g.world.𝓜 g.world.𝓡 ((λ s x. x), (λ x. x), (λ x. x), λ x. x)).unheard none) _ _ _ _
    (c.run_turned-ran.ensures.behind (λ none'. fresh)))

pub returns-in-Some-clause-behind : goal.returns-in-Some-clause-behind
returns-in-Some-clause-behind g c none fresh =
    let hears : g.M.LaneMachine.rules.hears ≡ true = c.in-Some.ensures.some.hears in
    absurd (cc)

pub returns-clause-behind : goal.returns-clause-behind
returns-clause-behind g c none fresh =
    rw (c.look_behind.ensures.unheard none)
    (left_then turned_lawful g.M.LaneMachine.rules (g.M.LaneMachine.state c.args.driver.now.replies.machine) _ _ _ _ _ _ _
    (left_stands turned_lawful g.M.LaneMachine.rules (g.M.LaneMachine.state c.args.driver.now.replies.machine) _ (g.M.LaneMachine.rules.hears ≡ false) none
    _ _ _ _ _ (left_behind turned_lawful g.M.LaneMachine.rules (g.M.LaneMachine.state c.args.driver.now.replies.machine) _ c.requires.quiet
    ((g.met.M.LaneMachine g.world.𝓛 g.world.𝓜 g.world.𝓡 ((λ s x. x), (λ x. x), (λ x. x), λ x. x)).unheard none) _ _ _ _
    (c.run_turned-ran.ensures.behind (λ none'. fresh))))
    c.in_default-look_behind.ensures.none.kept)
