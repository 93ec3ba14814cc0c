use Rattle.std.proofs.Common.{sym, ◌∙◌}
use Rattle.sharing_terms.proofs.SharingLaws.{alike-is, alike-from}
use Rattle.sharing_terms.proofs.sharing.is_alike.Goals as goal

pub returns-clause-meaning : goal.returns-clause-meaning
returns-clause-meaning c = (λ e. alike-is c.args.a.now c.args.b.now (sym c.alike.ensures ∙ e), λ h. c.alike.ensures ∙ alike-from c.args.a.now c.args.b.now h)
