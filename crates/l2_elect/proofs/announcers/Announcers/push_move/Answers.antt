use Rattle.std.proofs.Common.{ℕ, List, subst, sym}
use Rattle.l2_elect.specs.Kept.{AreMembersAmong}
use Rattle.l2_elect.proofs.announcers.Announcers.push_move.Goals as goal

pub best_since-best-requires-clause-members : goal.best_since-best-requires-clause-members
best_since-best-requires-clause-members c =
    subst (λ (ms : List (List ℕ)). AreMembersAmong c.args.names.now.keys c.args.view.now ms) (sym c.as_slice.ensures) c.requires.members
