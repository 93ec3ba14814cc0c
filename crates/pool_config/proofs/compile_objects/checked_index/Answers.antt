use Rattle.std.proofs.Common.{◌≡◌, None, refl, sym, ◌∙◌}
use Rattle.pool_config.specs.Objects.{objects_of}
use Rattle.pool_config.specs.Search.{found_among, later_rows}
use Rattle.pool_config.proofs.Stages.{refused_later, accepted_all, apart_unless}
use Rattle.pool_config.proofs.compile_objects.checked_index.Goals as goal

pub returns-in-Some-clause-refused : goal.returns-in-Some-clause-refused
returns-in-Some-clause-refused c = λ fault e. refused_later c.args.objects.now c.requires.checked fault
    (sym c.in_ok-found.ensures ∙ rw (c.in-Some.is, c.refusal.ensures fault e) refl)

pub returns-clause-compiled : goal.returns-clause-compiled
returns-clause-compiled c = accepted_all c.args.objects.now c.requires.checked (sym c.in_ok-found.ensures ∙ rw c.in_default.is refl)

pub returns-clause-apart : goal.returns-clause-apart
returns-clause-apart c =
    let none : found_among (objects_of c.args.objects.now) later_rows ≡ None = sym c.in_ok-found.ensures ∙ rw c.in_default.is refl in
    rw c.requires.pools (apart_unless (objects_of c.args.objects.now) none)
