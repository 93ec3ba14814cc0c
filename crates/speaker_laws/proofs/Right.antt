-- Each run that words begin is right.
use Rattle.std.proofs.Common.{List}
use Rattle.std.specs.Prelude.{String}
use Rattle.command_options.specs.Options.{texts_of}
use Rattle.speaker_laws.specs.Clauses.{begun_by}
use Rattle.speaker_laws.specs.Right.{RunsAreRight}
use Rattle.speaker_laws.proofs.Answered.{answers_by}
use Rattle.speaker_laws.proofs.Begun.{named-speaks}
use Rattle.speaker_laws.proofs.ChangesTold.{lines_tell_what_changes}
use Rattle.speaker_laws.proofs.Fitting.{routes_written_by, written_by}
use Rattle.speaker_laws.proofs.Heard.{heard_by}
use Rattle.speaker_laws.proofs.Meant.{meant_by}
use Rattle.speaker_laws.proofs.Telling.{told_by}

pub right_by : {Z : Type 0} → (words : List (String Z)) → RunsAreRight words
right_by words lines =
    let texts = texts_of words in
    record {
      named = named-speaks texts;
      so_far = λ earlier later s told split taken. record {
        announced = told_by texts earlier s told taken;
        routes = heard_by texts earlier s told taken;
        announced_written = written_by texts earlier s told taken;
        routes_written = routes_written_by texts earlier s told taken;
      };
      at_each = λ earlier later line s t told entries split taken goes. record {
        changes = lines_tell_what_changes (begun_by words) earlier s told taken line t entries goes;
        sends = meant_by texts earlier s told taken line t entries goes;
        answers = answers_by (begun_by words) (told_by texts) (meant_by texts) earlier s told taken line t entries goes;
      };
    }
