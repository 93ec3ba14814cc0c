use Rattle.std.proofs.Common.{◌≡◌, ◌<◌, ◌^◌, ℕ, List, ◌++◌, length, refl, sym, ap, ◌∙◌, arith}
use Rattle.std.specs.Int.{w64, to_be_bytes}
use Rattle.kube_model.specs.declared.event.Event.TheVariants.{Frame}
use Rattle.speaker_run.specs.ResponderSeen.{octets_of}
use Rattle.speaker_run.proofs.responder.FrameAnswerer.answered.Goals as goal

pub returns-clause-ok : goal.returns-clause-ok
returns-clause-ok g c =
    let number : c.fill.new.octets.items ≡ to_be_bytes w64 (length c.reply.new.self.sight.seen) =
    c.fill.ensures.items ∙ (ap (λ (xs : List ℕ). xs ++ c.octets_of_number.result) c.in-Ok.ensures.items
    ∙ (c.octets_of_number.ensures.octets ∙ ap (to_be_bytes w64) c.in-Some.ensures.seen)) in
    let fits : length c.reply.new.self.sight.seen < 2 ^ 64 = rw (sym c.in-Some.ensures.seen) c.octets_of_number.ensures.fits in
    record {
      same = c.reply.ensures.same;
      later = c.in-Some.ensures.later;
      answer = octets_of c.in-Some.reply.answer;
      answered = rw c.as_slice.ensures at c.in-Some.ensures.answer;
      fits = fits;
      is = ap (λ (bytes : List ℕ). Frame c.args.interface bytes)
          (c.from_vec.ensures ∙ (c.fill_answer.ensures ∙ ap (λ (xs : List ℕ). xs ++ octets_of c.in-Some.reply.answer) number));
    }
