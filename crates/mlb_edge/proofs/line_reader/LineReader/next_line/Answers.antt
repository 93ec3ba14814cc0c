use Rattle.std.proofs.Common.{◌≡◌, [], true, false, Err, inr, take, arith, ap, sym, ◌∙◌, refl, length-drop}
use Rattle.std.proofs.lemmas.Bool.{eqb-true, false≢true}
use Rattle.std.proofs.lemmas.List.{append-nil}
use Rattle.std.proofs.lemmas.Result.{err_from_is_err_and}
use Rattle.mlb_edge.specs.declared.lines.LineEnd.TheVariants.{LineLimit, InputLimit}
use Rattle.mlb_edge.specs.Reading.{Reading}
use Rattle.mlb_edge.specs.Rows.{is_blank}
use Rattle.mlb_edge.specs.InputLines.{to_come, Follows-refl, Passes-refl}
use Rattle.mlb_edge.proofs.ReaderSteps.{line_past, ends_too, ends_long, ends_far, ends_open, ends_whole, same_read, passes_read, Consumes-keeps}
use Rattle.mlb_edge.proofs.ReaderSteps.{none_held, going_past, going_read, same_number, falls, passes_past, limit_not_read, fault_no_limit}
use Rattle.mlb_edge.proofs.ReaderSteps.{same_end, memory_not_read, line_not_input, given_not_err}
use Rattle.mlb_edge.proofs.line_reader.LineReader.next_line.Goals as goal

pub loop-len-preserved-in-Some : goal.loop-len-preserved-in-Some
loop-len-preserved-in-Some g c =
    let i = c.loop-len.invariant in
    let near = rw c.first_row.ensures.same at c.in_ok-check-in-Some.ensures.ok in
    let held : c.held.result.now ≡ c.loop-len.self.held = c.held.ensures ∙ ap (λ (r : Reading). r.held) c.first_row.ensures.same in
    let blank : is_blank (take c.in-Some.len c.loop-len.self.held) ≡ true = rw (← held) (sym c.is_blank.ensures ∙ c.if-not-is_blank.false) in
    rw (c.pass.ensures, c.first_row.ensures.same)
    (going_past g.S.Source.left g.S.Source.name g.S.Source.faults g.S.Source.unfailing c.args.self.now c.loop-len.self c.args.source.now c.loop-len.source
    c.loop-len.is_last c.in-Some.len c.in-Some.size
    i c.in-Some.ensures.row near.0 near.1 blank)

pub loop-len-smaller : goal.loop-len-smaller
loop-len-smaller g c =
    let i = c.loop-len.invariant in
    let read = rw c.first_row.ensures.same at c.in_ok-is_last-in-None-2.ensures.bytes in
    let same = rw c.first_row.ensures.same at c.fill.ensures.same in
    falls c.loop-len.self c.fill.new.self c.loop-len.is_last c.in_ok-is_last-in-None-2.field-0 read.0 c.first_row.ensures.near
    (omega (arith, c.first_row.ensures.bounded)) c.if-is_last.false read.1 read.2 same.0

pub loop-len-preserved : goal.loop-len-preserved
loop-len-preserved g c =
    let i = c.loop-len.invariant in
    let read = rw c.first_row.ensures.same at c.in_ok-is_last-in-None-2.ensures.bytes in
    let same = rw c.first_row.ensures.same at c.fill.ensures.same in
    going_read g.S.Source.left g.S.Source.name g.S.Source.faults g.S.Source.unfailing c.args.self.now c.loop-len.self c.fill.new.self c.args.source.now
    c.loop-len.source c.fill.new.source c.loop-len.is_last _ read.0
    i c.in-None.ensures.none read.3 read.1 same.0 same.1 (λ zero. c.in_ok-is_last-in-None-2.ensures.end (eqb-true _ _ zero)) c.fill.ensures.later
    c.fill.ensures.name c.fill.ensures.unfailing

pub loop-len-init : goal.loop-len-init
loop-len-init g c = record {
  same = Follows-refl (to_come c.args.self.now (g.S.Source.left c.args.source.now));
  passes = Passes-refl c.args.self.now (g.S.Source.left c.args.source.now);
  end = λ no. absurd (false≢true no);
  later = omega arith;
  named = refl;
  safety = refl;
  further = omega arith;
  untouched = λ holds. (refl, refl, holds);
}

-- The first line breaks a limit, and nothing is passed.
pub returns-in_err-check-in-Some : goal.returns-in_err-check-in-Some
returns-in_err-check-in-Some g c =
    let i = c.loop-len.invariant in
    let p = err_from_is_err_and c.from_residual.result c.from_residual.ensures.1 in
    let limit = c.in_err-check-in-Some.ensures in
    rw (p.1, p.2, c.first_row.ensures.same) (record {
      line = tt;
      number = tt;
      near = tt;
      end = tt;
      at_end = tt;
      line_limit = λ number e. let was = rw c.first_row.ensures.same at (limit.line_limit number e) in
          rw was.0 (ends_too _ c.loop-len.self _ _ i.same
          (ends_long c.loop-len.self c.loop-len.is_last c.in-Some.len c.in-Some.size (g.S.Source.left c.loop-len.source) i.end c.in-Some.ensures.row was.1));
      input_limit = λ e. let was = rw c.first_row.ensures.same at (limit.input_limit (ap Err (same_end _ _ e))) in
          ends_too _ c.loop-len.self _ _ i.same
          (ends_far c.loop-len.self c.loop-len.is_last c.in-Some.len c.in-Some.size (g.S.Source.left c.loop-len.source) i.end c.in-Some.ensures.row was.0
          was.1);
      read_fault = λ e. absurd (limit_not_read c.in_err-check-in-Some.field-0.0 limit.fault (same_end _ _ e));
      err = i.same;
      passes = i.passes;
      waits = λ e. absurd (limit_not_read c.in_err-check-in-Some.field-0.0 limit.fault (same_end _ _ e));
      bounded = c.first_row.ensures.bounded;
      unread = λ holds. (i.untouched holds).1;
      later = i.later;
      name = i.named;
      unfailing = i.safety;
      unsafe_read = λ e. absurd (limit_not_read c.in_err-check-in-Some.field-0.0 limit.fault (same_end _ _ e));
    })

-- No memory is left for the line, and nothing is passed.
pub returns-in_err-take-in-Some : goal.returns-in_err-take-in-Some
returns-in_err-take-in-Some g c =
    let i = c.loop-len.invariant in
    let p = err_from_is_err_and c.from_residual-in_err-take-in-Some.result c.from_residual-in_err-take-in-Some.ensures.1 in
    rw (p.1, p.2, c.in_err-take-in-Some.ensures.err, c.first_row.ensures.same) (record {
      line = tt;
      number = tt;
      near = tt;
      end = tt;
      at_end = tt;
      line_limit = λ number e. absurd (fault_no_limit _ (LineLimit number) (inr refl) e tt);
      input_limit = λ e. absurd (fault_no_limit _ InputLimit (inr refl) (same_end _ _ e) tt);
      read_fault = λ e. absurd (memory_not_read (same_end _ _ e));
      err = i.same;
      passes = i.passes;
      waits = λ e. absurd (memory_not_read (same_end _ _ e));
      bounded = c.first_row.ensures.bounded;
      unread = λ holds. (i.untouched holds).1;
      later = i.later;
      name = i.named;
      unfailing = i.safety;
      unsafe_read = λ e. absurd (memory_not_read (same_end _ _ e));
    })

-- The line is given, and passed.
pub returns-then-not-is_blank : goal.returns-then-not-is_blank
returns-then-not-is_blank g c =
    let i = c.loop-len.invariant in
    let row = c.in-Some.ensures.row in
    let near = rw c.first_row.ensures.same at c.in_ok-check-in-Some.ensures.ok in
    let held : c.held.result.now ≡ c.loop-len.self.held = c.held.ensures ∙ ap (λ (r : Reading). r.held) c.first_row.ensures.same in
    let text : is_blank (take c.in-Some.len c.loop-len.self.held) ≡ false = rw (← held) (sym c.is_blank.ensures ∙ c.if-not-is_blank.true) in
    rw (c.in_ok-take-in-Some.ensures.line, c.in_ok-take-in-Some.ensures.ok, c.first_row.ensures.same) (record {
      line = line_past _ c.loop-len.self c.loop-len.is_last c.in-Some.len c.in-Some.size (g.S.Source.left c.loop-len.source) i.same i.end row near.0 near.1
          text;
      number = refl;
      near = (omega (arith, i.further, row.some), near.1);
      end = tt;
      at_end = tt;
      line_limit = tt;
      input_limit = λ e. absurd (given_not_err _ _ e);
      read_fault = λ e. absurd (given_not_err _ _ e);
      err = tt;
      passes = passes_past c.args.self.now c.loop-len.self (g.S.Source.left c.args.source.now) (g.S.Source.left c.loop-len.source) c.in-Some.size i.passes
          row.within;
      waits = λ e. absurd (given_not_err _ _ e);
      bounded = omega (arith, length-drop c.in-Some.size c.loop-len.self.held, c.first_row.ensures.bounded);
      unread = λ holds. (i.untouched holds).1;
      later = i.later;
      name = i.named;
      unfailing = i.safety;
      unsafe_read = λ e. absurd (given_not_err _ _ e);
    })

-- No line is left.
pub returns-in-None : goal.returns-in-None
returns-in-None g c =
    let i = c.loop-len.invariant in
    let nothing : c.loop-len.self.held ≡ [] = c.in-None.ensures.last c.if-is_last.true in
    rw c.first_row.ensures.same (record {
      line = tt;
      number = tt;
      near = tt;
      end = ends_too _ c.loop-len.self _ _ i.same (ends_whole c.loop-len.self (g.S.Source.left c.loop-len.source) nothing (i.end c.if-is_last.true));
      at_end = (nothing, i.end c.if-is_last.true);
      line_limit = tt;
      input_limit = λ e. absurd (given_not_err _ _ e);
      read_fault = λ e. absurd (given_not_err _ _ e);
      err = tt;
      passes = i.passes;
      waits = λ e. absurd (given_not_err _ _ e);
      bounded = c.first_row.ensures.bounded;
      unread = λ holds. (i.untouched holds).1;
      later = i.later;
      name = i.named;
      unfailing = i.safety;
      unsafe_read = λ e. absurd (given_not_err _ _ e);
    })

-- What is held of the line is too long already.
pub returns-in_err-check_open-in-None-2 : goal.returns-in_err-check_open-in-None-2
returns-in_err-check_open-in-None-2 g c =
    let i = c.loop-len.invariant in
    let p = err_from_is_err_and c.from_residual-in_err-check_open-in-None-2.result c.from_residual-in_err-check_open-in-None-2.ensures.1 in
    let was = rw c.first_row.ensures.same at c.in_err-check_open-in-None-2.ensures.line_limit in
    rw (p.1, p.2, was.0, c.first_row.ensures.same) (record {
      line = tt;
      number = tt;
      near = tt;
      end = tt;
      at_end = tt;
      line_limit = λ number e. rw (← same_number _ _ e)
          (ends_too _ c.loop-len.self _ _ i.same (ends_open c.loop-len.self (g.S.Source.left c.loop-len.source) c.in-None.ensures.none was.1));
      input_limit = λ e. absurd (line_not_input _ (same_end _ _ e));
      read_fault = λ e. absurd (limit_not_read _ tt (same_end _ _ e));
      err = i.same;
      passes = i.passes;
      waits = λ e. absurd (limit_not_read _ tt (same_end _ _ e));
      bounded = c.first_row.ensures.bounded;
      unread = λ holds. (i.untouched holds).1;
      later = i.later;
      name = i.named;
      unfailing = i.safety;
      unsafe_read = λ e. absurd (limit_not_read _ tt (same_end _ _ e));
    })

-- The source failed, or no memory is left for its bytes; what is held stays.
pub returns-in_err-is_last-in-None-2 : goal.returns-in_err-is_last-in-None-2
returns-in_err-is_last-in-None-2 g c =
    let i = c.loop-len.invariant in
    let p = err_from_is_err_and c.from_residual-in_err-is_last-in-None-2.result c.from_residual-in_err-is_last-in-None-2.ensures.1 in
    let fault = c.in_err-is_last-in-None-2.ensures in
    let eats = Consumes-keeps _ _ fault.err.1 in
    let held = sym (append-nil c.loop-len.self.held) in
    rw (p.1, p.2, fault.err.0, c.first_row.ensures.same) (record {
      line = tt;
      number = tt;
      near = tt;
      end = tt;
      at_end = tt;
      line_limit = λ number e. absurd (fault_no_limit _ (LineLimit number) fault.fault e tt);
      input_limit = λ e. absurd (fault_no_limit _ InputLimit fault.fault (same_end _ _ e) tt);
      read_fault = λ e. omega (arith, i.later, fault.cause (ap Err (same_end _ _ e)));
      err = same_read _ c.loop-len.self c.loop-len.self _ _ [] i.same eats held refl refl;
      passes = passes_read _ c.loop-len.self c.loop-len.self _ _ _ [] i.passes eats held refl;
      waits = λ e. c.in-None.ensures.none;
      bounded = c.first_row.ensures.bounded;
      unread = λ holds. absurd (none_held c.loop-len.self c.in-None.ensures.none (i.untouched holds).2);
      later = omega (arith, i.later, c.fill.ensures.later);
      name = c.fill.ensures.name ∙ i.named;
      unfailing = c.fill.ensures.unfailing ∙ i.safety;
      unsafe_read = λ e. sym i.safety ∙ fault.unsafe_read (ap Err (same_end _ _ e));
    })
