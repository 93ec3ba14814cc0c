use Rattle.speaker_view.proofs.Covering.{covers-less_servers}
use Rattle.speaker_view.proofs.Indexed.{server-taken}
use Rattle.std.proofs.Common.{refl}
use Rattle.speaker_view.proofs.index.Index.forget_server.Goals as goal

pub returns : goal.returns
returns c =
    covers-less_servers c.args.self.now _ c.args.cache.now c.requires c.args.address.now c.args.key.now (c.may_serve.ensures c.if-may_serve.false)
    (server-taken c.args.self.now c.remove.new.self c.args.address.now c.args.key.now c.remove.ensures) (λ a key. refl) (λ service key. refl)
