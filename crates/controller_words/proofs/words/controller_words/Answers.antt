use Rattle.command_options.specs.Options.{texts_of}
use Rattle.command_options.proofs.Values.{answer-said, answer-unknown}
use Rattle.controller_words.specs.Words.{Say}
use Rattle.controller_words.specs.Reading.{asked_in}
use Rattle.controller_words.specs.Seen.{asked_seen}
use Rattle.controller_words.proofs.NamedWords.{say-read, read-say}
use Rattle.controller_words.proofs.words.controller_words.Goals as goal

pub returns-clause-said : goal.returns-clause-said
returns-clause-said c = let words = texts_of c.args.words.now in
    answer-said asked_seen Say asked_in words (read-say words) c.read_words.result c.read_words.ensures

pub returns-clause-unknown : goal.returns-clause-unknown
returns-clause-unknown c = let words = texts_of c.args.words.now in
    answer-unknown asked_seen Say asked_in words (say-read words) c.read_words.result c.read_words.ensures
