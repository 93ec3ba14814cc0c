use Rattle.std.proofs.Common.{ap}
use Rattle.speaker_view.specs.ViewValue.{ViewValue}
use Rattle.speaker_view.proofs.Applying.{limit-seen, applied-on_ok}
use Rattle.speaker_view.proofs.view.View.apply.Goals as goal

pub returns-in_default-clause-ok : goal.returns-in_default-clause-ok
returns-in_default-clause-ok c =
    applied-on_ok c.apply_to.result c.args.self.now c.self.inside.class c.self.inside.cache c.apply_to.new.cache c.self.inside.members c.args.event
    c.self.view_is c.in_default.not-Members c.apply_to.ensures.ok

pub returns-in_default-clause-limit : goal.returns-in_default-clause-limit
returns-in_default-clause-limit c =
    limit-seen c.apply_to.result c.args.self.now.held c.self.inside.cache c.args.event (ap (λ (v : ViewValue). v.held) c.self.view_is) c.apply_to.ensures.limit
