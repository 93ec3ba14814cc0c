use Rattle.std.proofs.Common.{sym, ◌∙◌, refl}
use Rattle.std.proofs.lemmas.Bool.{true≢false}
use Rattle.lane_mail.proofs.mail.Mail.look.Goals as goal

pub returns-then-has_all : goal.returns-then-has_all
returns-then-has_all g c = (refl, c.has_all.ensures.0 c.if-has_all.true)

pub returns-in-Some : goal.returns-in-Some
returns-in-Some g c =
    (c.in-Some.ensures.pass, (λ all. true≢false (sym (c.has_all.ensures.1 all) ∙ c.if-has_all.false)), c.in-Some.ensures.few)

pub returns-in-None : goal.returns-in-None
returns-in-None g c = (c.in-None.ensures.pass, λ all. true≢false (sym (c.has_all.ensures.1 all) ∙ c.if-has_all.false))
