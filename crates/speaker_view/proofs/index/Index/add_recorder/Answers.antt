use Rattle.speaker_view.proofs.Indexed.{recorder-grows, recorder-has}
use Rattle.speaker_view.proofs.index.Index.add_recorder.Goals as goal

pub returns-clause-grows : goal.returns-clause-grows
returns-clause-grows c =
    recorder-grows c.args.self.now c.insert.new.self c.args.address.now c.in_ok-key.key c.insert.result c.insert.ensures.ok c.insert.ensures.err

pub returns-clause-has : goal.returns-clause-has
returns-clause-has c =
    rw (← c.in_ok-key.ensures) (recorder-has c.args.self.now c.insert.new.self c.args.address.now c.in_ok-key.key c.insert.result c.insert.ensures.ok)
