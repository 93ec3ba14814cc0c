use Rattle.std.proofs.Common.{refl, ◌∙◌, arith}
use Rattle.mlb_edge.specs.InputLines.{Passes-refl, Passes-append}
use Rattle.line_run.proofs.Answering.{answered}
use Rattle.line_run.proofs.Driven.{begins, goes_on}
use Rattle.line_run.proofs.Endings.{explains_step, only_step}
use Rattle.line_run.proofs.run.drive_lines.Goals as goal

pub lines-init : goal.lines-init
lines-init g c = rw c.requires.fresh (record {
  driven = begins g.M.Machine.rules (g.M.Machine.state c.args.machine.now) (g.S.PacedSource.left c.args.input.now) (g.K.Sink.written c.args.out.now);
  passes = Passes-refl _ (g.S.PacedSource.left c.args.input.now);
  name = refl;
  reads = omega arith;
  writes = omega arith;
})

pub next_step-requires : goal.next_step-requires
next_step-requires g c = record {
  paced = λ none_held. c.requires.live c.lines.input c.lines.reader c.lines.out c.lines.invariant.name
      (answered g.M.Machine.rules (g.M.Machine.state c.args.machine.now) (g.M.Machine.state c.lines.machine) (g.S.PacedSource.left c.args.input.now)
      c.lines.reader (g.S.PacedSource.left c.lines.input) (g.K.Sink.written c.args.out.now) (g.K.Sink.written c.lines.out) c.lines.invariant.driven
      none_held);
}

pub returns-in-Some-clause-explains : goal.returns-in-Some-clause-explains
returns-in-Some-clause-explains g c =
    let i = c.lines.invariant in
    explains_step g.M.Machine.rules g.M.Machine.cause (g.M.Machine.state c.args.machine.now) (g.S.PacedSource.left c.args.input.now) c.lines.reader
    c.next_step.new.reader (g.S.PacedSource.left c.lines.input) _ (g.M.Machine.state c.lines.machine) _ (g.K.Sink.written c.lines.out) _ i.driven
    (Passes-append _ c.lines.reader c.next_step.new.reader _ (g.S.PacedSource.left c.lines.input) _ i.passes c.next_step.ensures.passes)
    (g.met.M.Machine.stops (g.M.Machine.state c.lines.machine)) (g.met.M.Machine.ends (g.M.Machine.state c.lines.machine))
    _ (g.S.PacedSource.faults c.lines.input) _ _ (g.K.Sink.faults c.lines.out) _ i.reads i.writes c.in-Some.status c.in-Some.ensures.ends

pub returns-in-Some-clause-only : goal.returns-in-Some-clause-only
returns-in-Some-clause-only g c =
    let i = c.lines.invariant in
    only_step g.M.Machine.rules g.M.Machine.cause (g.M.Machine.state c.args.machine.now) (g.S.PacedSource.left c.args.input.now) c.lines.reader
    c.next_step.new.reader (g.S.PacedSource.left c.lines.input) _ (g.M.Machine.state c.lines.machine) _ (g.K.Sink.written c.lines.out) _ i.driven
    (Passes-append _ c.lines.reader c.next_step.new.reader _ (g.S.PacedSource.left c.lines.input) _ i.passes c.next_step.ensures.passes)
    (g.met.M.Machine.stops (g.M.Machine.state c.lines.machine)) (g.met.M.Machine.ends (g.M.Machine.state c.lines.machine))
    _ (g.S.PacedSource.faults c.lines.input) _ _ (g.K.Sink.faults c.lines.out) _ i.reads i.writes c.in-Some.status c.in-Some.ensures.ends

pub lines-preserved : goal.lines-preserved
lines-preserved g c =
    let i = c.lines.invariant in
    let d = c.in_default.ensures.drives in
    record {
      driven = goes_on g.M.Machine.rules (g.M.Machine.state c.args.machine.now) (g.S.PacedSource.left c.args.input.now) _ _ (g.M.Machine.state c.lines.machine)
          (g.M.Machine.state c.next_step.new.machine) _ (g.K.Sink.written c.lines.out) _ d.line i.driven d.comes d.takes;
      passes = Passes-append _ c.lines.reader c.next_step.new.reader _ (g.S.PacedSource.left c.lines.input) _ i.passes c.next_step.ensures.passes;
      name = c.next_step.ensures.name ∙ i.name;
      reads = omega (arith, i.reads, c.next_step.ensures.reads);
      writes = omega (arith, i.writes, c.next_step.ensures.writes);
    }
