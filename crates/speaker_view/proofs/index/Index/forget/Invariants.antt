use Rattle.speaker_view.specs.Index.{Covers}
use Rattle.speaker_view.proofs.index.Index.forget.Given as goal

abbrev pub invariant-loop-place : goal.invariant-loop-place
invariant-loop-place l = Covers l.self l.cache

abbrev pub invariant-loop-place-2 : goal.invariant-loop-place-2
invariant-loop-place-2 l = Covers l.self l.cache

abbrev pub invariant-loop-place-3 : goal.invariant-loop-place-3
invariant-loop-place-3 l = Covers l.self l.cache
