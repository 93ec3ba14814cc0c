use Rattle.std.proofs.Common.{◌≡◌, ◌∙◌, ap, inr, subst}
use Rattle.line_run.proofs.Driven.{only_upto, upto_nothing}
use Rattle.line_run.specs.Answered.{IsAnswered}
use Rattle.line_run.specs.Clauses.{RunOwes}
use Rattle.line_run.specs.RunOutput.{WritesOnly}
use Rattle.speaker_machine.specs.Stream.{IsCause, SpeakerState, speaker_rules}
use Rattle.speaker_laws.specs.Clauses.{begun_by, begun_with}
use Rattle.speaker_laws.proofs.Right.{right_by}
use Rattle.speaker_run.proofs.stream.stream_speaker.Goals as goal

pub run_machine-status-requires : goal.run_machine-status-requires
run_machine-status-requires g c =
    let begun : c.in-Ok.speaker ≡ begun_by c.args.words.now = c.in-Ok.ensures ∙ ap begun_with c.in-Some.ensures.value in
    record {
      live = λ i r o name answered. c.requires.live c.requires.asked i r o name
          (subst (λ s. IsAnswered speaker_rules s (g.S.PacedSource.left c.args.input.now) r (g.S.PacedSource.left i) (g.K.Sink.written c.args.out.now)
          (g.K.Sink.written o)) begun answered);
    }

pub returns-clause-run : goal.returns-clause-run
returns-clause-run g c =
    let begun : c.in-Ok.speaker ≡ begun_by c.args.words.now = c.in-Ok.ensures ∙ ap begun_with c.in-Some.ensures.value in
    λ in_stream known. subst (λ s. RunOwes speaker_rules IsCause s c.run_machine-status.result (g.S.PacedSource.left c.args.input.now)
    (g.S.PacedSource.left c.run_machine-status.new.input)
    (g.K.Sink.written c.args.out.now) (g.K.Sink.written c.run_machine-status.new.out)) begun c.run_machine-status.ensures.run

pub returns-in_default-new-clause-run : goal.returns-in_default-new-clause-run
returns-in_default-new-clause-run g c = λ in_stream known.
    let left = g.S.PacedSource.left c.args.input.now in
    let before = g.K.Sink.written c.args.out.now in
    let start = begun_by c.args.words.now in
    let upto = upto_nothing speaker_rules start left before in
    record {
      done = λ e. absurd (cc);
      no_reply = λ put e. absurd (cc);
      at_end = λ ends. absurd ends;
      bad_line = λ lane number bytes e. absurd (cc);
      bad_reply = λ number bytes e. absurd (cc);
      held_limit = λ what count held e. absurd (cc);
      line_limit = λ count e. absurd (cc);
      input_limit = λ count e. absurd (cc);
      read = λ lane e. absurd (cc);
      part = λ e. absurd (cc);
      no_memory = λ e. upto;
      only = only_upto speaker_rules start left before before upto;
      exact = inr tt;
      complete = λ ready. inr tt;
    }

-- ---- what was written is right
pub returns-clause-only : goal.returns-clause-only
returns-clause-only g c =
    let begun : c.in-Ok.speaker ≡ begun_by c.args.words.now = c.in-Ok.ensures ∙ ap begun_with c.in-Some.ensures.value in
    λ in_stream known.
    let only = subst (λ (s : SpeakerState). WritesOnly speaker_rules s (g.S.PacedSource.left c.args.input.now) (g.K.Sink.written c.args.out.now)
    (g.K.Sink.written c.run_machine-status.new.out)) begun c.run_machine-status.ensures.run.only in
    record { written = only; right = right_by c.args.words.now only.lines }

pub returns-in_default-new-clause-only : goal.returns-in_default-new-clause-only
returns-in_default-new-clause-only g c = λ in_stream known.
    let left = g.S.PacedSource.left c.args.input.now in
    let before = g.K.Sink.written c.args.out.now in
    let start = begun_by c.args.words.now in
    let only = only_upto speaker_rules start left before before (upto_nothing speaker_rules start left before) in
    record { written = only; right = right_by c.args.words.now only.lines }
