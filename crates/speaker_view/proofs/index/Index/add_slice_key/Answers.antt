use Rattle.speaker_view.proofs.Indexed.{slice-grows, slice-has}
use Rattle.speaker_view.proofs.index.Index.add_slice_key.Goals as goal

pub returns-clause-grows : goal.returns-clause-grows
returns-clause-grows c =
    slice-grows c.args.self.now c.insert.new.self c.in_ok-service.service c.in_ok-key.key c.insert.result c.insert.ensures.ok c.insert.ensures.err

pub returns-clause-has : goal.returns-clause-has
returns-clause-has c = rw (← c.in_ok-service.ensures, ← c.in_ok-key.ensures)
    (slice-has c.args.self.now c.insert.new.self c.in_ok-service.service c.in_ok-key.key c.insert.result c.insert.ensures.ok)
