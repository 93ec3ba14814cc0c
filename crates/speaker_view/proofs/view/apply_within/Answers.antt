use Rattle.std.proofs.Common.{subst, sym}
use Rattle.object_history.specs.Cache.{Cached}
use Rattle.speaker_view.specs.Index.{Covers}
use Rattle.speaker_view.proofs.Applying.{limit-ok, limit-err}
use Rattle.speaker_view.proofs.Covering.{covers_after}
use Rattle.speaker_view.proofs.view.apply_within.Goals as goal

pub returns-in-Ok-clause-limit : goal.returns-in-Ok-clause-limit
returns-in-Ok-clause-limit c = limit-ok c.in-Ok.applied c.in-Ok.applied.note _ c.in-Ok.ensures.limit

pub returns-in-Err-clause-limit : goal.returns-in-Err-clause-limit
returns-in-Err-clause-limit c = limit-err c.in-Err.fault _ c.in-Err.ensures.limit

pub returns-in-Ok-clause-covers : goal.returns-in-Ok-clause-covers
returns-in-Ok-clause-covers c =
    subst (λ (held : Cached). Covers c.args.index.now held) (sym c.in-Ok.ensures.ok)
    (covers_after c.args.index.now c.args.cache.now c.args.event (rw (← c.services.ensures) c.len-ascending.ensures.ascending)
    (rw (← c.slices.ensures) c.len-ascend.ensures.ascending) c.requires.has c.requires.covers)
