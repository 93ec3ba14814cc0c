use Rattle.std.proofs.Common.{◌≡◌, ◌++◌, drop, filter}
use Rattle.std.specs.BTreeSet.{contains}
use Rattle.kube_labels.specs.Names.{name_cmp}
use Rattle.l2_elect.proofs.announcers.members_among.Given as goal

abbrev pub invariant-loop-member : goal.invariant-loop-member
invariant-loop-member l =
    l.members ++ filter (contains name_cmp l.names) (drop l.member-index l.member-items) ≡ filter (contains name_cmp l.names) l.view.members
