use Rattle.command_options.specs.Options.{texts_of}
use Rattle.controller_run.proofs.Asking.{lanes_no_run, lanes_no_trial, one_lanes}
use Rattle.controller_run.proofs.run.run_controller.Goals as goal

-- ---- when the input may be asked for more

pub lanes_controller-requires-clause-opens : goal.lanes_controller-requires-clause-opens
lanes_controller-requires-clause-opens g c = λ _ _. c.requires.lanes_open _ _ c.in-Some.ensures.some

pub lanes_controller-requires-clause-live : goal.lanes_controller-requires-clause-live
lanes_controller-requires-clause-live g c = λ _ _. c.requires.lanes_live _ _ c.in-Some.ensures.some

pub lanes_controller-requires-clause-waits : goal.lanes_controller-requires-clause-waits
lanes_controller-requires-clause-waits g c = λ _ _. c.requires.lanes_wait _ _ c.in-Some.ensures.some

pub lanes_controller-requires-clause-drops : goal.lanes_controller-requires-clause-drops
lanes_controller-requires-clause-drops g c = λ _ _. c.requires.lanes_drop _ _ c.in-Some.ensures.some

-- ---- words that ask for no run over two lanes

pub returns-in-None-clause-lanes : goal.returns-in-None-clause-lanes
returns-in-None-clause-lanes g c = λ class files say. absurd (c.in-None.ensures.none class files say)

pub returns-in-None-clause-lane_can_end : goal.returns-in-None-clause-lane_can_end
returns-in-None-clause-lane_can_end g c = λ class files say. absurd (c.in-None.ensures.none class files say)

pub returns-in-None-clause-lanes_done : goal.returns-in-None-clause-lanes_done
returns-in-None-clause-lanes_done g c = λ class files say. absurd (c.in-None.ensures.none class files say)

pub returns-in-None-clause-lanes_quiet : goal.returns-in-None-clause-lanes_quiet
returns-in-None-clause-lanes_quiet g c = λ class files say. absurd (c.in-None.ensures.none class files say)

pub returns-in-None-clause-lanes_complete : goal.returns-in-None-clause-lanes_complete
returns-in-None-clause-lanes_complete g c = λ class files say. absurd (c.in-None.ensures.none class files say)

pub returns-in-None-clause-lanes_sound : goal.returns-in-None-clause-lanes_sound
returns-in-None-clause-lanes_sound g c = λ class files say. absurd (c.in-None.ensures.none class files say)

pub returns-in-None-clause-lanes_safe : goal.returns-in-None-clause-lanes_safe
returns-in-None-clause-lanes_safe g c = λ class files say. absurd (c.in-None.ensures.none class files say)

-- ---- a run over two lanes: neither one over one stream nor a trial is asked for

pub returns-in-Some-clause-run : goal.returns-in-Some-clause-run
returns-in-Some-clause-run g c = λ class say. absurd (lanes_no_run (texts_of c.args.words.now) _ _ c.in-Some.ensures.some (class, say))

pub returns-in-Some-clause-only : goal.returns-in-Some-clause-only
returns-in-Some-clause-only g c = λ class say. absurd (lanes_no_run (texts_of c.args.words.now) _ _ c.in-Some.ensures.some (class, say))

pub returns-in-Some-clause-safe : goal.returns-in-Some-clause-safe
returns-in-Some-clause-safe g c = λ class say. absurd (lanes_no_run (texts_of c.args.words.now) _ _ c.in-Some.ensures.some (class, say))

pub returns-in-Some-clause-quiet : goal.returns-in-Some-clause-quiet
returns-in-Some-clause-quiet g c = λ class say. absurd (lanes_no_run (texts_of c.args.words.now) _ _ c.in-Some.ensures.some (class, say))

pub returns-in-Some-clause-trial : goal.returns-in-Some-clause-trial
returns-in-Some-clause-trial g c = λ seed steps ask. absurd (lanes_no_trial (texts_of c.args.words.now) _ _ c.in-Some.ensures.some seed steps ask)

pub returns-in-Some-clause-trial_unread : goal.returns-in-Some-clause-trial_unread
returns-in-Some-clause-trial_unread g c = λ seed steps ask. absurd (lanes_no_trial (texts_of c.args.words.now) _ _ c.in-Some.ensures.some seed steps ask)

-- ---- and the class and the files that are asked for are those of the run

pub returns-in-Some-clause-lanes : goal.returns-in-Some-clause-lanes
returns-in-Some-clause-lanes g c = λ class files say.
    let one = one_lanes (texts_of c.args.words.now) _ class _ files c.in-Some.ensures.some say in
    rw (← one.0, ← one.1) c.lanes_controller.ensures.ended

pub returns-in-Some-clause-lanes_done : goal.returns-in-Some-clause-lanes_done
returns-in-Some-clause-lanes_done g c = λ class files say.
    let one = one_lanes (texts_of c.args.words.now) _ class _ files c.in-Some.ensures.some say in
    rw (← one.0, ← one.1) c.lanes_controller.ensures.done

pub returns-in-Some-clause-lanes_quiet : goal.returns-in-Some-clause-lanes_quiet
returns-in-Some-clause-lanes_quiet g c = λ class files say.
    let one = one_lanes (texts_of c.args.words.now) _ class _ files c.in-Some.ensures.some say in
    rw (← one.0, ← one.1) c.lanes_controller.ensures.quiet

pub returns-in-Some-clause-lanes_sound : goal.returns-in-Some-clause-lanes_sound
returns-in-Some-clause-lanes_sound g c = λ class files say.
    let one = one_lanes (texts_of c.args.words.now) _ class _ files c.in-Some.ensures.some say in
    rw (← one.0, ← one.1) c.lanes_controller.ensures.sound

pub returns-in-Some-clause-lanes_safe : goal.returns-in-Some-clause-lanes_safe
returns-in-Some-clause-lanes_safe g c = λ class files say.
    let one = one_lanes (texts_of c.args.words.now) _ class _ files c.in-Some.ensures.some say in
    rw (← one.1) c.lanes_controller.ensures.safe

pub returns-in-Some-clause-lanes_complete : goal.returns-in-Some-clause-lanes_complete
returns-in-Some-clause-lanes_complete g c = λ class files say.
    let one = one_lanes (texts_of c.args.words.now) _ class _ files c.in-Some.ensures.some say in
    rw (← one.0, ← one.1) c.lanes_controller.ensures.complete

pub returns-in-Some-clause-lane_open_fault : goal.returns-in-Some-clause-lane_open_fault
returns-in-Some-clause-lane_open_fault g c = λ class files say.
    let one = one_lanes (texts_of c.args.words.now) _ class _ files c.in-Some.ensures.some say in
    rw (← one.1) c.lanes_controller.ensures.open_fault

pub returns-in-Some-clause-lane_read_fault : goal.returns-in-Some-clause-lane_read_fault
returns-in-Some-clause-lane_read_fault g c = λ class files say.
    let one = one_lanes (texts_of c.args.words.now) _ class _ files c.in-Some.ensures.some say in
    rw (← one.1) c.lanes_controller.ensures.read_fault

pub returns-in-Some-clause-lane_others : goal.returns-in-Some-clause-lane_others
returns-in-Some-clause-lane_others g c = λ class files say.
    let one = one_lanes (texts_of c.args.words.now) _ class _ files c.in-Some.ensures.some say in
    rw (← one.1) c.lanes_controller.ensures.others
