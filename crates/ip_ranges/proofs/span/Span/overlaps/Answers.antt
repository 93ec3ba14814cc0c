use Rattle.std.proofs.Common.{◌≡◌, ◌≤◌, rules, sym, ◌∙◌, leb-true}
use Rattle.std.proofs.lemmas.Bool.{false≢true}
use Rattle.ip_ranges.proofs.SpanLemmas.{shared}
use Rattle.ip_ranges.proofs.span.Span.overlaps.Goals as goal
use Rattle.ip_ranges.proofs.span.Span.overlaps.Goals.{then-eq, else-eq}

pub returns-then-self-other-clause-shared : goal.returns-then-self-other-clause-shared
returns-then-self-other-clause-shared c =
    elim c.if-eq.branch [
      | then-eq w ↦
          let same : c.self.inside.family ≡ c.other.inside.family = search rules in
          let reach : c.self.inside.low ≤ c.other.inside.high = leb-true _ _ (sym w.value-is ∙ c.if-self-other.true) in
          rw (← c.self.view_is, ← c.other.view_is)
          (shared (record { family = c.self.inside.family; low = c.self.inside.low; high = c.self.inside.high })
          (record { family = c.other.inside.family; low = c.other.inside.low; high = c.other.inside.high }) c.self.invariant.0 c.other.invariant.0 same reach)
      | else-eq w ↦ absurd (false≢true (sym w.if-eq.false ∙ sym w.value-is ∙ c.if-self-other.true))
    ]
