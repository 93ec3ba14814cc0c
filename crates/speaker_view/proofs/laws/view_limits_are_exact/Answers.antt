use Rattle.speaker_view.proofs.Shown.{view_limits_are_exact}
use Rattle.speaker_view.proofs.laws.view_limits_are_exact.Goals as goal

pub returns : goal.returns
returns c = view_limits_are_exact
