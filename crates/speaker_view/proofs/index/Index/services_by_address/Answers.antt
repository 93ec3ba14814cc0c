use Rattle.std.specs.Option.{option_copied}
use Rattle.speaker_view.proofs.Indexed.{under-address}
use Rattle.speaker_view.proofs.index.Index.services_by_address.Goals as goal

pub returns : goal.returns
returns c = under-address c.args.self.now c.args.address.now (option_copied c.keys.result) c.keys.ensures
