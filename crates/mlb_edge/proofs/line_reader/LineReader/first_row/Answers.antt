use Rattle.mlb_edge.proofs.RowLemmas.{cuts_at, cuts_last}
use Rattle.mlb_edge.proofs.line_reader.LineReader.first_row.Goals as goal

pub returns-in-Some-clause-row : goal.returns-in-Some-clause-row
returns-in-Some-clause-row c =
    rw (← c.self.view_is, ← c.deref.ensures.value)
    (cuts_at _ c.args.is_last c.in-Some.i c.in-Some.ensures.within c.in-Some.ensures.found c.in-Some.ensures.before)

pub returns-in-None-clause-row : goal.returns-in-None-clause-row
returns-in-None-clause-row c =
    let row = cuts_last _ c.if-len-gt0.true c.in-None.ensures.none in
    rw (← c.self.view_is, ← c.deref.ensures.value, c.if-is_last.true) row

pub returns-in-Some-clause-none : goal.returns-in-Some-clause-none
returns-in-Some-clause-none c = tt

pub returns-in-Some-clause-last : goal.returns-in-Some-clause-last
returns-in-Some-clause-last c = tt

pub returns-in-None-clause-none : goal.returns-in-None-clause-none
returns-in-None-clause-none c = tt

pub returns-in-None-clause-last : goal.returns-in-None-clause-last
returns-in-None-clause-last c = tt

pub returns-in-None-2-clause-row : goal.returns-in-None-2-clause-row
returns-in-None-2-clause-row c = tt
