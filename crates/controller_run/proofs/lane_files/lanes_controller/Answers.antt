use Rattle.std.specs.Option.{option_map}
use Rattle.core_rules.specs.Core.{fresh}
use Rattle.std.proofs.Common.{Some, inr, refl, subst}
use Rattle.lane_drive.specs.Asking.{AnswersAll, AsksMore, HasStopped}
use Rattle.lane_drive.specs.Clauses.{OnlyWrites, TakesWhole, unread}
use Rattle.lane_run.specs.Outside.{lane_state, outside, source_state}
use Rattle.controller_run.specs.Lanes.{belongs_to, lane_rules}
use Rattle.controller_run.proofs.LaneExchanging.{lanes_write_safely}
use Rattle.controller_run.proofs.LaneEnds.{ends_unbegun, lanes_can_end, writes_nothing}
use Rattle.controller_run.proofs.RightLanes.{lanes_sound, lanes_quiet}
use Rattle.controller_run.proofs.lane_files.lanes_controller.Goals as goal

-- ---- a run for which there is no memory

pub returns-in_default-clause-ended : goal.returns-in_default-clause-ended
returns-in_default-clause-ended g c = ends_unbegun (fresh (option_map (λ t. t.now) c.args.class)) _ _ _ _ _ _ _ _ _

pub returns-in_default-clause-sound : goal.returns-in_default-clause-sound
returns-in_default-clause-sound g c =
    let class = option_map (λ t. t.now) c.args.class in
    lanes_sound class _ _ _ _ _ (writes_nothing (fresh class) _ _ _ _)

pub returns-in_default-clause-safe : goal.returns-in_default-clause-safe
returns-in_default-clause-safe g c =
    let class = option_map (λ t. t.now) c.args.class in
    lanes_write_safely class _ _ _ _ _ (writes_nothing (fresh class) _ _ _ _)

pub returns-in_default-clause-complete : goal.returns-in_default-clause-complete
returns-in_default-clause-complete g c = λ ready opens reads none none'. inr refl

-- ---- a run

pub run_lane_files-requires-clause-live : goal.run_lane_files-requires-clause-live
run_lane_files-requires-clause-live g c = λ _ _ i r o name more.
    c.requires.live i r o name
    (subst
    (λ s. AsksMore belongs_to lane_rules s
    (lane_state (g.F.WatchedFiles.bytes c.args.files.now c.args.lanes.first.now) (Some c.args.lanes.first.now) 0
    (g.F.WatchedFiles.unfailing c.args.files.now c.args.lanes.first.now))
    (lane_state (g.F.WatchedFiles.bytes c.args.files.now c.args.lanes.second.now) (Some c.args.lanes.second.now) 0
    (g.F.WatchedFiles.unfailing c.args.files.now c.args.lanes.second.now))
    (outside unread (source_state (g.S.PacedSource.left c.args.input.now) (g.S.PacedSource.name c.args.input.now) (g.S.PacedSource.faults c.args.input.now))
    (g.K.Sink.written c.args.out.now) (g.K.Sink.faults c.args.out.now))
    (outside r (source_state (g.S.PacedSource.left i) (g.S.PacedSource.name i) (g.S.PacedSource.faults i)) (g.K.Sink.written o) (g.K.Sink.faults o)))
    c.in-Ok.ensures more)

pub run_lane_files-requires-clause-waits : goal.run_lane_files-requires-clause-waits
run_lane_files-requires-clause-waits g c = λ _ _ items out answers.
    c.requires.waits items out
    (subst
    (λ s. AnswersAll lane_rules s
    (outside unread (source_state (g.S.PacedSource.left c.args.input.now) (g.S.PacedSource.name c.args.input.now) (g.S.PacedSource.faults c.args.input.now))
    (g.K.Sink.written c.args.out.now) (g.K.Sink.faults c.args.out.now)) items (g.K.Sink.written out))
    c.in-Ok.ensures answers)

pub run_lane_files-requires-clause-drops : goal.run_lane_files-requires-clause-drops
run_lane_files-requires-clause-drops g c = λ _ _ items out stopped.
    c.requires.drops items out
    (subst
    (λ s. HasStopped lane_rules s
    (outside unread (source_state (g.S.PacedSource.left c.args.input.now) (g.S.PacedSource.name c.args.input.now) (g.S.PacedSource.faults c.args.input.now))
    (g.K.Sink.written c.args.out.now) (g.K.Sink.faults c.args.out.now)) items (g.K.Sink.written out))
    c.in-Ok.ensures stopped)

pub returns-clause-can_end : goal.returns-clause-can_end
returns-clause-can_end g c =
    lanes_can_end c.in-Ok.controller.core _ _ _ _ _ _ _ _ _ _ _ _ c.run_lane_files.result c.run_lane_files.ensures.ended c.run_lane_files.ensures.open_fault

pub returns-clause-quiet : goal.returns-clause-quiet
returns-clause-quiet g c = λ done.
    let class = option_map (λ t. t.now) c.args.class in
    let whole : TakesWhole belongs_to lane_rules (fresh class) (g.F.WatchedFiles.bytes c.args.files.now c.args.lanes.first.now)
    (g.F.WatchedFiles.bytes c.args.files.now c.args.lanes.second.now)
    (g.S.PacedSource.left c.args.input.now) (g.S.PacedSource.left c.run_lane_files.new.input) (g.K.Sink.written c.args.out.now)
    (g.K.Sink.written c.run_lane_files.new.out) = rw c.in-Ok.ensures at (c.run_lane_files.ensures.done done) in
    lanes_quiet class _ _ _ _ _ _ whole

pub returns-clause-sound : goal.returns-clause-sound
returns-clause-sound g c =
    let class = option_map (λ t. t.now) c.args.class in
    let only : OnlyWrites belongs_to lane_rules (fresh class) (g.F.WatchedFiles.bytes c.args.files.now c.args.lanes.first.now)
    (g.F.WatchedFiles.bytes c.args.files.now c.args.lanes.second.now)
    (g.S.PacedSource.left c.args.input.now) (g.K.Sink.written c.args.out.now) (g.K.Sink.written c.run_lane_files.new.out) =
    rw c.in-Ok.ensures at c.run_lane_files.ensures.only in
    lanes_sound class _ _ _ _ _ only

pub returns-clause-safe : goal.returns-clause-safe
returns-clause-safe g c =
    let class = option_map (λ t. t.now) c.args.class in
    let only : OnlyWrites belongs_to lane_rules (fresh class) (g.F.WatchedFiles.bytes c.args.files.now c.args.lanes.first.now)
    (g.F.WatchedFiles.bytes c.args.files.now c.args.lanes.second.now)
    (g.S.PacedSource.left c.args.input.now) (g.K.Sink.written c.args.out.now) (g.K.Sink.written c.run_lane_files.new.out) =
    rw c.in-Ok.ensures at c.run_lane_files.ensures.only in
    lanes_write_safely class _ _ _ _ _ only
