use Rattle.std.proofs.Common.{◌≡◌, ◌≤◌, length, take, drop, refl, sym, ap, ◌∙◌, arith}
use Rattle.std.proofs.lemmas.Result.{err_from_is_err_and}
use Rattle.std.specs.Int.{w64, from_be_bytes}
use Rattle.kube_model.specs.declared.event.Event.TheVariants.{Frame}
use Rattle.lane_run.specs.LaneInputs.{item as item_of}
use Rattle.speaker_machine.specs.Stream.{Received}
use Rattle.speaker_run.specs.Responding.{answer_in, seen_in, shown_of}
use Rattle.speaker_run.specs.Standing.{standing_answer}
use Rattle.speaker_run.proofs.ShownTaken.{answer_halted, answer_taken}
use Rattle.speaker_run.proofs.shown.ShownSpeaker.take_answer.Goals as goal

pub returns-clause-ok : goal.returns-clause-ok
returns-clause-ok g c =
    let r : Received = record { interface = c.args.interface.now; frame = c.args.octets.now } in
    let cases = c.in-Some.ensures.cases in
    let first : c.in-Some.seen.now ≡ take 8 c.args.octets.now = cc in
    let rest : c.in-Some.answer.now ≡ answer_in c.args.octets.now = cc in
    let number : c.from_be_bytes-seen.result ≡ seen_in c.args.octets.now = c.from_be_bytes-seen.ensures ∙ ap (from_be_bytes w64) first in
    let s = c.args.self.now.speaker in
    let stands : c.standing_answer-answer.result.now ≡ standing_answer s (answer_in c.args.octets.now) =
    c.standing_answer-answer.ensures ∙ ap (standing_answer s) rest in
    let few : seen_in c.args.octets.now ≤ length c.args.self.now.writer.published =
    omega (arith, number, c.if-seen-len.false, c.len-2.ensures, ap length c.tell.ensures) in
    answer_taken (shown_of c.args.self.now.speaker c.args.self.now.writer) (item_of c.args.lane c.args.number (Frame r.interface r.frame)) r refl few _ _
    (rw (number, stands) at (rw c.in_ok-write_answered.was at c.write_answered.ensures.ok))

pub returns-in_err-write_answered-clause-err : goal.returns-in_err-write_answered-clause-err
returns-in_err-write_answered-clause-err g c =
    let r : Received = record { interface = c.args.interface.now; frame = c.args.octets.now } in
    let cases = c.in-Some.ensures.cases in
    let first : c.in-Some.seen.now ≡ take 8 c.args.octets.now = cc in
    let rest : c.in-Some.answer.now ≡ answer_in c.args.octets.now = cc in
    let number : c.from_be_bytes-seen.result ≡ seen_in c.args.octets.now = c.from_be_bytes-seen.ensures ∙ ap (from_be_bytes w64) first in
    let s = c.args.self.now.speaker in
    let stands : c.standing_answer-answer.result.now ≡ standing_answer s (answer_in c.args.octets.now) =
    c.standing_answer-answer.ensures ∙ ap (standing_answer s) rest in
    let few : seen_in c.args.octets.now ≤ length c.args.self.now.writer.published =
    omega (arith, number, c.if-seen-len.false, c.len-2.ensures, ap length c.tell.ensures) in
    let p = err_from_is_err_and c.from_residual.result c.from_residual.ensures.1 in
    rw (p.1, p.2)
    (answer_halted (shown_of c.args.self.now.speaker c.args.self.now.writer) (item_of c.args.lane c.args.number (Frame r.interface r.frame)) r refl few
    c.in_err-write_answered.field-0.0 _ _ _ _ (rw (number, stands) at (rw c.in_err-write_answered.was at c.write_answered.ensures.err)))
