use Rattle.std.proofs.Common.{inl, inr, sym, ◌∙◌}
use Rattle.speaker_view.proofs.index.Index.may_serve.Goals as goal

pub returns-then-not-has_slices : goal.returns-then-not-has_slices
returns-then-not-has_slices c e = inl (c.has_slices.ensures c.if-not-has_slices.true)

pub returns : goal.returns
returns c e = inr (sym c.records_at.ensures ∙ e)
