use Rattle.std.proofs.Common.{◌≡◌, ap}
use Rattle.speaker_view.specs.View.{fresh}
use Rattle.speaker_run.specs.Responding.{Answering}
use Rattle.speaker_run.proofs.responder.FrameAnswerer.reply.Goals as goal

pub returns-clause-answer : goal.returns-clause-answer
returns-clause-answer g c =
    let opening : c.args.self.now.opening ≡ fresh g.J.Classed.class = cc (ap (λ (a : Answering). a.opening) c.self.view_is) in
    let local : c.args.self.now.local ≡ c.self.inside.local = cc (ap (λ (a : Answering). a.local) c.self.view_is) in
    rw (opening, local) c.reply_by.ensures.answer
