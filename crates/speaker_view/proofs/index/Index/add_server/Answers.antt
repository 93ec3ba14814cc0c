use Rattle.speaker_view.proofs.Indexed.{server-grows, server-has}
use Rattle.speaker_view.proofs.index.Index.add_server.Goals as goal

pub returns-clause-grows : goal.returns-clause-grows
returns-clause-grows c =
    server-grows c.args.self.now c.insert.new.self c.args.address.now c.in_ok-key.key c.insert.result c.insert.ensures.ok c.insert.ensures.err

pub returns-clause-has : goal.returns-clause-has
returns-clause-has c =
    rw (← c.in_ok-key.ensures) (server-has c.args.self.now c.insert.new.self c.args.address.now c.in_ok-key.key c.insert.result c.insert.ensures.ok)
