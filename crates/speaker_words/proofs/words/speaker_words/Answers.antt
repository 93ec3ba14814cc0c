use Rattle.command_options.specs.Options.{texts_of}
use Rattle.command_options.proofs.Values.{answer-said, answer-unknown}
use Rattle.speaker_words.specs.Words.{Say}
use Rattle.speaker_words.specs.Reading.{said_in}
use Rattle.speaker_words.specs.Seen.{said_seen}
use Rattle.speaker_words.proofs.NamedWords.{say-read, read-say}
use Rattle.speaker_words.proofs.words.speaker_words.Goals as goal

pub returns-clause-said : goal.returns-clause-said
returns-clause-said c = let words = texts_of c.args.words.now in
    answer-said said_seen Say said_in words (read-say words) c.read_words.result c.read_words.ensures

pub returns-clause-unknown : goal.returns-clause-unknown
returns-clause-unknown c = let words = texts_of c.args.words.now in
    answer-unknown said_seen Say said_in words (say-read words) c.read_words.result c.read_words.ensures
