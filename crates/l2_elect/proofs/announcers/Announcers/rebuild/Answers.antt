use Rattle.std.proofs.Common.{List}
use Rattle.l2_elect.proofs.Keeping.{rebuilt-right, then-ok}
use Rattle.l2_elect.proofs.announcers.Announcers.rebuild.Goals as goal

pub returns-clause-ok : goal.returns-clause-ok
returns-clause-ok c =
    then-ok c.make.result (λ made. made c.args.view.now
    (rebuilt-right c.args.view.now c.clear.new.self c.in_ok-addresses.addresses c.in_ok-moves.moves c.clear.ensures c.in_ok-addresses.ensures c.in_ok-moves.ensures))
    c.make.ensures.ok
