use Rattle.shown_view_laws.proofs.Kept.{shown_views_are_numbered}
use Rattle.shown_view_laws.proofs.laws.shown_views_are_numbered.Goals as goal

pub returns : goal.returns
returns c = shown_views_are_numbered
