use Rattle.speaker_view.proofs.Covering.{covers-less_recorders}
use Rattle.speaker_view.proofs.Indexed.{recorder-taken}
use Rattle.std.proofs.Common.{refl, sym, ◌∙◌}
use Rattle.speaker_view.proofs.index.Index.forget_recorder.Goals as goal

pub returns : goal.returns
returns c =
    covers-less_recorders c.args.self.now _ c.args.cache.now c.requires c.args.address.now c.args.key.now (sym c.records_at.ensures ∙ c.if-records_at.false)
    (recorder-taken c.args.self.now c.remove.new.self c.args.address.now c.args.key.now c.remove.ensures) (λ service key. refl) (λ a key. refl)
