use Rattle.std.proofs.Common.{[], ◌∷◌, ◌++◌, refl, ◌∙◌}
use Rattle.lane_mail.proofs.Taking.{Took-nil, Took-append}
use Rattle.lane_run.proofs.paced.AnyPacedWait.drop_rest.Goals as goal

pub loop-init : goal.loop-init
loop-init g c = record { mail = refl; taken = ([], Took-nil c.args.inbox.now c.args.inbox.now (record { first = refl; second = refl })) }

pub loop-preserved : goal.loop-preserved
loop-preserved g c =
    let i = c.loop.invariant in
    let item = c.in-Item.item in
    record {
      mail = c.take.ensures.mail ∙ i.mail;
      taken = (
        i.taken.0 ++ item ∷ [],
        Took-append i.taken.0 (item ∷ []) c.args.inbox.now c.loop.inbox c.take.new.pass i.taken.1 (c.in-Item.ensures.item item refl),
      );
    }
