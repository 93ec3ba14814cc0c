use Rattle.std.proofs.Common.{sym, ap, is_some, ◌∙◌}
use Rattle.std.proofs.lemmas.Result.{err_from_is_err_and}
use Rattle.std.specs.BTreeMap.{is_at, get_by}
use Rattle.grouped_keys.proofs.GroupedSets.{key_put, group_put, kept_back}
use Rattle.grouped_keys.proofs.grouped.GroupedKeys.insert.Goals as goal

pub returns-in_err-insert-in-Some-clause-err : goal.returns-in_err-insert-in-Some-clause-err
returns-in_err-insert-in-Some-clause-err g c =
    let p = err_from_is_err_and c.from_residual.result c.from_residual.ensures.1 in
    rw (p.1, ← c.self.view_is)
    (kept_back (is_at (g.G.Ord.cmp c.args.group)) c.self.inside.groups.entries (c.get_mut.follows.lender c.insert.new.self).entries c.in-Some.keys.now
    c.insert.new.self
    (sym c.in-Some.ensures.value) c.in_err-insert-in-Some.ensures.err (c.get_mut.follows.holds c.insert.new.self).0)

pub returns-in_ok-insert-in-Some-clause-ok : goal.returns-in_ok-insert-in-Some-clause-ok
returns-in_ok-insert-in-Some-clause-ok g c =
    rw (← c.self.view_is)
    (key_put g.met.G.Ord.total g.K.Ord.cmp c.self.inside.groups.entries c.args.group c.args.key c.insert.new.self
    (c.get_mut.follows.lender c.insert.new.self).entries
    ((c.get_mut.follows.holds c.insert.new.self).3 (ap is_some (sym c.in-Some.ensures.value))).0 c.in-Some.keys.now (sym c.in-Some.ensures.value)
    c.in_ok-insert-in-Some.ensures.updates.0)

pub returns-in_ok-insert-in-None-clause-ok : goal.returns-in_ok-insert-in-None-clause-ok
returns-in_ok-insert-in-None-clause-ok g c =
    let kept = c.get_mut.follows.holds-at-none in
    rw (← c.self.view_is, ← kept)
    (group_put g.met.G.Ord.total g.K.Ord.cmp c.get_mut.follows.lender-at-none.entries c.args.group c.args.key c.in_ok-keys-in-None.keys
    c.insert-in-None.new.self.entries
    c.in_ok-insert-in-None.ensures.updates.0 (ap (get_by (g.G.Ord.cmp c.args.group)) kept ∙ sym c.in-None.ensures.value) c.in_ok-keys-in-None.ensures)
