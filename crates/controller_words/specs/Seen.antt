-- What the words say as contracts see it.
use Rattle.std.specs.Option.{option_map}
use Rattle.command_options.specs.Lanes.{lane_seen, given_seen as lanes_seen}
use Rattle.controller_words.specs.declared.words.Asked.{Asked}
use Rattle.controller_words.specs.declared.words.Asked.TheVariants.{Run as RunWords, Trial as TrialWords, Lanes as LanesWords}
use Rattle.controller_words.specs.declared.words.AskedSoFar.{AskedSoFar}
use Rattle.controller_words.specs.Reading.{Given}
use Rattle.controller_words.specs.Words.{AskedValue, Run, Trial, Lanes}

abbrev pub given_seen : AskedSoFar → Given
given_seen g = record { class = option_map (λ t. t.now) g.class; seed = g.seed; steps = g.steps; lanes = lanes_seen g.lanes }

abbrev pub asked_seen : Asked → AskedValue
asked_seen (RunWords class) = Run (option_map (λ t. t.now) class)
asked_seen (TrialWords seed steps) = Trial seed steps
asked_seen (LanesWords class files) = Lanes (option_map (λ t. t.now) class) (lane_seen files)
