use Rattle.speaker_view.proofs.Covering.{covers-less_slices}
use Rattle.speaker_view.proofs.Indexed.{slice-taken}
use Rattle.std.proofs.Common.{refl, sym, ◌∙◌}
use Rattle.speaker_view.proofs.index.Index.forget_slice.Goals as goal

pub returns : goal.returns
returns c =
    covers-less_slices c.args.self.now _ c.args.cache.now c.requires c.args.service.now c.args.key.now (sym c.is_ready_of.ensures ∙ c.if-is_ready_of.false)
    (slice-taken c.args.self.now c.remove.new.self c.args.service.now c.args.key.now c.remove.ensures) (λ a key. refl) (λ a key. refl)
