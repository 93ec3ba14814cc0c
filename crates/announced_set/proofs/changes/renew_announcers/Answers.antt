use Rattle.std.proofs.Common.{List, Result, Ok, Err, OnOk, map, subst, sym, ap, ◌∙◌}
use Rattle.ip_ranges.specs.Values.{AddressValue}
use Rattle.l2_elect.specs.declared.move_list.Move.{Move}
use Rattle.l2_elect.specs.Kept.{AreKeptBut}
use Rattle.announced_set.specs.declared.changes.AddressChanges.{AddressChanges}
use Rattle.announced_set.proofs.Differences.{told-announced, told-withdrawn}
use Rattle.announced_set.proofs.changes.renew_announcers.Goals as goal

always : {A E P : Type 0} (r : Result A E) → P → OnOk r P
always (Ok x) p = p
always (Err e) p = tt

pub returns-clause-announcers : goal.returns-clause-announcers
returns-clause-announcers c = always c.changes_between.result (c.in_ok-make.ensures.ok c.args.view.now c.in_ok-moves.ensures)

pub returns-clause-withdrawn : goal.returns-clause-withdrawn
returns-clause-withdrawn c =
    let w = c.args.view.now in
    let old = c.args.announcers.now in
    let are = c.in_ok-addresses.ensures ∙ ap (map (λ (m : Move). m.address)) c.as_slice.ensures in
    told-withdrawn (λ (x : AddressChanges). x.withdrawn.keys) c.changes_between.result c.args.node.now c.in_ok-addresses.addresses old c.make.new.self w
    (c.in_ok-make.ensures.ok w c.in_ok-moves.ensures)
    (subst (λ (at : List AddressValue). AreKeptBut at old w) (sym are) c.in_ok-moves.ensures.others)
    c.in_ok-before.before.keys c.in_ok-after.after.keys c.in_ok-before.ensures c.in_ok-after.ensures c.changes_between.ensures.withdrawn

pub returns-clause-announced : goal.returns-clause-announced
returns-clause-announced c =
    let w = c.args.view.now in
    let old = c.args.announcers.now in
    let are = c.in_ok-addresses.ensures ∙ ap (map (λ (m : Move). m.address)) c.as_slice.ensures in
    told-announced (λ (x : AddressChanges). x.announced.keys) c.changes_between.result c.args.node.now c.in_ok-addresses.addresses old c.make.new.self w
    (c.in_ok-make.ensures.ok w c.in_ok-moves.ensures)
    (subst (λ (at : List AddressValue). AreKeptBut at old w) (sym are) c.in_ok-moves.ensures.others)
    c.in_ok-before.before.keys c.in_ok-after.after.keys c.in_ok-before.ensures c.in_ok-after.ensures c.changes_between.ensures.announced
