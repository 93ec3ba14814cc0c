use Rattle.speaker_view.proofs.Indexed.{serves-none, serves-some}
use Rattle.speaker_view.proofs.index.Index.serves.Goals as goal

pub returns-in-None : goal.returns-in-None
returns-in-None c =
    serves-none c.args.self.now c.args.cache.now c.requires (rw (← c.slices.ensures) c.len-ascending.ensures.ascending) c.args.key.now c.args.policy
    c.args.node.now c.in-None.ensures

pub returns-in-Some : goal.returns-in-Some
returns-in-Some c =
    serves-some c.args.self.now c.args.cache.now c.requires (rw (← c.slices.ensures) c.len-ascending.ensures.ascending) c.args.key.now c.args.policy
    c.args.node.now
    c.any_serves.result c.in-Some.keys.now c.any_serves.ensures c.in-Some.ensures
