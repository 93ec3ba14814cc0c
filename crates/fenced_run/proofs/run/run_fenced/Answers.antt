use Rattle.command_options.specs.Options.{texts_of}
use Rattle.fenced_run.specs.Drive.{begun}
use Rattle.fenced_run.specs.Stream.{first_text}
use Rattle.fenced_run.proofs.Rightful.{writes_rightly}
use Rattle.fenced_run.proofs.Running.{nothing_only, owes_only}
use Rattle.fenced_run.proofs.Saying.{one_said}
use Rattle.fenced_run.proofs.run.run_fenced.Goals as goal

pub returns-in_default-begun-clause-only : goal.returns-in_default-begun-clause-only
returns-in_default-begun-clause-only g c = λ name class say.
    let left = g.S.PacedSource.left c.args.input.now in
    let before = g.K.Sink.written c.args.out.now in
    writes_rightly class name left before before (nothing_only (first_text name) (begun class name) left before)

pub run_started-requires : goal.run_started-requires
run_started-requires g c = record { live = rw (c.in-Ok.ensures.core, c.in-Ok.ensures.fence) (c.requires.live _ _ c.in-Some.ensures.said) }

pub returns-clause-run : goal.returns-clause-run
returns-clause-run g c = λ name class say.
    let one = one_said (texts_of c.args.words.now) _ name _ class c.in-Some.ensures.said say in
    rw (← one.0, ← one.1) (rw (c.in-Ok.ensures.core, c.in-Ok.ensures.fence) at c.run_started.ensures.run)

pub returns-clause-only : goal.returns-clause-only
returns-clause-only g c = λ name class say.
    let one = one_said (texts_of c.args.words.now) _ name _ class c.in-Some.ensures.said say in
    writes_rightly class name (g.S.PacedSource.left c.args.input.now) (g.K.Sink.written c.args.out.now) (g.K.Sink.written c.run_started.new.out)
    (owes_only (first_text name) (begun class name) c.run_started.result (g.S.PacedSource.left c.args.input.now)
    (g.S.PacedSource.left c.run_started.new.input) (g.K.Sink.written c.args.out.now) (g.K.Sink.written c.run_started.new.out)
    (rw (← one.0, ← one.1) (rw (c.in-Ok.ensures.core, c.in-Ok.ensures.fence) at c.run_started.ensures.run)))
