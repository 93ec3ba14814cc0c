use Rattle.std.proofs.Common.{inl, inr}
use Rattle.mlb_edge.specs.Written.{Grows-none}
use Rattle.line_run.proofs.step.next_step.Goals as goal

pub returns-in-Ok-None-clause-ends : goal.returns-in-Ok-None-clause-ends
returns-in-Ok-None-clause-ends g c = inl (
  record {
    ends = rw c.in-Ok-None.field-0-is at c.in-Ok-None.ensures.end;
    at_end = rw c.in-Ok-None.field-0-is at c.in-Ok-None.ensures.at_end;
    is = c.status_at_end.ensures;
  },
  Grows-none (g.K.Sink.written c.args.out.now),
)

pub returns-in-Err-clause-ends : goal.returns-in-Err-clause-ends
returns-in-Err-clause-ends g c = inr (inl (
  record {
    end = c.in-Err.end;
    is = c.status_of_end.ensures;
    same = c.in-Err.ensures.err;
    long_line = c.in-Err.ensures.line_limit;
    long_input = λ e. c.in-Err.ensures.input_limit (cc);
    failed = λ e. (c.in-Err.ensures.waits (cc), c.in-Err.ensures.read_fault (cc));
  },
  Grows-none (g.K.Sink.written c.args.out.now),
))

pub returns-in-Ok-clause-drives : goal.returns-in-Ok-clause-drives
returns-in-Ok-clause-drives g c = record {
  line = c.in-Ok-Some.line;
  comes = rw c.in-Ok-Some.field-0-is at c.in-Ok-Some.ensures.line;
  takes = c.in-Ok.ensures.ok;
}

pub returns-in-Err-take-clause-ends : goal.returns-in-Err-take-clause-ends
returns-in-Err-take-clause-ends g c = inr (inr (record {
  line = c.in-Ok-Some.line;
  comes = rw c.in-Ok-Some.field-0-is at c.in-Ok-Some.ensures.line;
  refusal = c.in-Err-take.refusal;
  is = c.status_of_refusal.ensures;
  refuses = c.in-Err-take.ensures.err;
}))
