use Rattle.std.proofs.Common.{sym, ◌∙◌}
use Rattle.std.proofs.lemmas.Result.{err_from_is_err_and}
use Rattle.ip_ranges.proofs.EntryTheorem.{entry_of-exact}
use Rattle.ip_ranges.proofs.EntryLemmas.{entry_of-err, entry_of-mapped, entry_of-ok}
use Rattle.ip_ranges.proofs.entry.parse_entry.Goals as goal

pub returns-in_err-span-clause-value : goal.returns-in_err-span-clause-value
returns-in_err-span-clause-value c =
    let p = err_from_is_err_and c.from_residual.result c.from_residual.ensures.1 in
    rw (p.1, p.2) (entry_of-err _ _ c.in_err-span.ensures.value)

pub returns-then-meets_mapped-clause-value : goal.returns-then-meets_mapped-clause-value
returns-then-meets_mapped-clause-value c =
    entry_of-mapped _ c.in_ok-span.span c.in_ok-span.ensures.value (sym c.meets_mapped.ensures ∙ c.if-meets_mapped.true)

pub returns-clause-value : goal.returns-clause-value
returns-clause-value c =
    entry_of-ok _ c.in_ok-span.span c.in_ok-span.ensures.value (sym c.meets_mapped.ensures ∙ c.if-meets_mapped.false)

pub returns-in_err-span-clause-exact : goal.returns-in_err-span-clause-exact
returns-in_err-span-clause-exact c = rw (returns-in_err-span-clause-value c) (entry_of-exact c.args.text.now)

pub returns-then-meets_mapped-clause-exact : goal.returns-then-meets_mapped-clause-exact
returns-then-meets_mapped-clause-exact c = rw (returns-then-meets_mapped-clause-value c) (entry_of-exact c.args.text.now)

pub returns-clause-exact : goal.returns-clause-exact
returns-clause-exact c = rw (returns-clause-value c) (entry_of-exact c.args.text.now)
