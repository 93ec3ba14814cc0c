use Rattle.std.specs.Option.{option_copied}
use Rattle.speaker_view.proofs.Indexed.{server-at-address}
use Rattle.speaker_view.proofs.index.Index.servers_by_address.Goals as goal

pub returns : goal.returns
returns c = server-at-address c.args.self.now c.args.address.now (option_copied c.keys.result) c.keys.ensures
