use Rattle.std.proofs.Common.{◌≡◌, ◌+◌, length, take, get_or, sym, ap, subst, ◌∙◌, arith, List, ℕ}
use Rattle.number_sets.specs.RunLists.{AreCountedTo, count_numbers}
use Rattle.number_sets.specs.declared.runs.Run.{Run}
use Rattle.number_sets.proofs.CountLaws.{run-ascends, run-fits, taken-next, counted-taken, counted-put, get-any, length-taken, length-put}
use Rattle.number_sets.proofs.RunLaws.{no_more}
use Rattle.number_sets.proofs.counts.recount.Goals as goal
use Rattle.number_sets.proofs.counts.recount.Goals.{in-Some, in-None}

abbrev none : Run
none = record { first = 0; last = 0 }

pub size_of-requires-clause-ascends : goal.size_of-requires-clause-ascends
size_of-requires-clause-ascends c = run-ascends 0 c.args.runs.now c.in-Some.last none c.requires.apart (omega arith)

pub size_of-requires-clause-fits : goal.size_of-requires-clause-fits
size_of-requires-clause-fits c = omega (arith, run-fits c.args.runs.now c.in-Some.last none (omega arith), c.args.before.now.ok, c.requires.fits)

pub overflow_add-count : goal.overflow_add-count
overflow_add-count c =
    let last = c.in-Some.last in
    let ahead : get_or (take c.args.index c.args.before.now.items) last 0 ≡ count_numbers (take last c.args.runs.now) =
    counted-taken c.args.runs.now c.args.before.now.items c.args.index c.requires.counted last (omega arith) in
    let long = length-taken c.args.before.now.items c.args.index c.requires.there in
    let is : c.index.result.now ≡ count_numbers (take last c.args.runs.now) =
    c.index.ensures ∙ ap (λ (xs : List ℕ). get_or xs last c.index.result.now) c.truncate.ensures.items
    ∙ get-any (take c.args.index c.args.before.now.items) last c.index.result.now 0 (omega (arith, long)) ∙ ahead in
    let fits = run-fits c.args.runs.now last none (omega arith) in
    omega (arith, is, fits, c.size_of.ensures, c.args.before.now.ok, c.requires.fits)

pub loop-place-init : goal.loop-place-init
loop-place-init c =
    record {
      placed = ap (λ (xs : List ℕ). length xs) c.truncate.ensures.items ∙ length-taken c.args.before.now.items c.args.index c.requires.there;
      counts = subst (AreCountedTo c.args.index c.args.runs.now) (sym c.truncate.ensures.items)
          (counted-taken c.args.runs.now c.args.before.now.items c.args.index c.requires.counted);
      sum = elim c.match-checked_sub.branch [
        | in-Some w ↦
            let last = w.in-Some.last in
            let ahead : get_or (take c.args.index c.args.before.now.items) last 0 ≡ count_numbers (take last c.args.runs.now) =
            counted-taken c.args.runs.now c.args.before.now.items c.args.index c.requires.counted last (omega arith) in
            let long = length-taken c.args.before.now.items c.args.index c.requires.there in
            let is : w.index.result.now ≡ count_numbers (take last c.args.runs.now) =
            w.index.ensures ∙ ap (λ (xs : List ℕ). get_or xs last w.index.result.now) c.truncate.ensures.items
            ∙ get-any (take c.args.index c.args.before.now.items) last w.index.result.now 0 (omega (arith, long)) ∙ ahead in
            let next = taken-next c.args.runs.now last none (omega arith) in
            let same : last + 1 ≡ c.args.index = omega arith in
            w.count-is ∙ omega (arith, is, next, w.size_of.ensures) ∙ ap (λ (n : ℕ). count_numbers (take n c.args.runs.now)) same
        | in-None w ↦
            let same : 0 ≡ c.args.index = omega arith in
            w.count-is ∙ ap (λ (n : ℕ). count_numbers (take n c.args.runs.now)) same
      ];
      room = omega arith;
    }

pub append-requires : goal.append-requires
append-requires c = record { room = omega (arith, no_more 0 c.args.runs.now c.requires.apart, c.loop-place.before.ok, c.requires.fits) }

pub size_of-count-requires-clause-ascends : goal.size_of-count-requires-clause-ascends
size_of-count-requires-clause-ascends c = run-ascends 0 c.args.runs.now c.loop-place.place none c.requires.apart c.loop-place-test.true

pub size_of-count-requires-clause-fits : goal.size_of-count-requires-clause-fits
size_of-count-requires-clause-fits c =
    omega (arith, run-fits c.args.runs.now c.loop-place.place none c.loop-place-test.true, c.args.before.now.ok, c.requires.fits)

pub overflow_add-count-in-loop-place : goal.overflow_add-count-in-loop-place
overflow_add-count-in-loop-place c =
    omega (arith, run-fits c.args.runs.now c.loop-place.place none c.loop-place-test.true, c.args.before.now.ok, c.requires.fits, c.size_of-count.ensures)

pub loop-place-preserved : goal.loop-place-preserved
loop-place-preserved c =
    let i = c.loop-place.place in
    let runs = c.args.runs.now in
    let next = taken-next runs i none c.loop-place-test.true in
    record {
      placed = ap (λ (xs : List ℕ). length xs) c.append.ensures.items ∙ length-put c.loop-place.before.items c.loop-place.count
          ∙ ap (λ (n : ℕ). n + 1) c.loop-place.invariant.placed;
      counts = subst (AreCountedTo (i + 1) runs) (sym c.append.ensures.items)
          (counted-put runs c.loop-place.before.items i c.loop-place.count c.loop-place.invariant.placed c.loop-place.invariant.counts
          c.loop-place.invariant.sum);
      sum = omega (arith, next, c.size_of-count.ensures);
      room = omega arith;
    }
