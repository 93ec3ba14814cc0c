use Rattle.std.proofs.Common.{◌≡◌, ℕ, ◌==◌, false, List, [], ◌∷◌, length, sym, ◌∙◌}
use Rattle.std.proofs.lemmas.List.{append-nil}
use Rattle.std.specs.List.{flat_map}
use Rattle.kube_lines.specs.OutputLines.{send_text}
use Rattle.line_run.specs.Text.{line_of}
use Rattle.speaker_run.specs.Responding.{sent_answer, shown_text}
use Rattle.speaker_run.proofs.shown.send_answer.Goals as goal

-- the text of an answer
sent-one : (interface answer : List ℕ) → (length answer == 0) ≡ false
    → flat_map shown_text (sent_answer interface answer) ≡ line_of (send_text interface answer)
sent-one interface [] some = absurd (cc)
sent-one interface (octet ∷ answer) some = append-nil (line_of (send_text interface (octet ∷ answer)))

pub returns-clause-err : goal.returns-clause-err
returns-clause-err g c =
    rw (sent-one c.args.interface.now c.args.answer.now (sym c.is_empty.ensures ∙ c.if-is_empty.false)) c.write_sent.ensures.err
