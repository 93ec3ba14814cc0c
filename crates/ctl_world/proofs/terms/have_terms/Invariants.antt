use Rattle.std.proofs.Common.{drop}
use Rattle.std.specs.List.{AllByRecursion}
use Rattle.world_rules.specs.Safe.{HasTerms}
use Rattle.ctl_world.proofs.terms.have_terms.Given as goal

-- where the objects left have terms, all have
abbrev pub invariant-loop-object : goal.invariant-loop-object
invariant-loop-object l = AllByRecursion HasTerms (drop l.object-index l.objects) → AllByRecursion HasTerms l.objects
