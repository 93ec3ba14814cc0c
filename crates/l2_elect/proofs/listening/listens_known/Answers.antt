use Rattle.std.proofs.Common.{ℕ, List, Option, ap, subst, ◌∙◌}
use Rattle.std.specs.Prelude.{◌&&◌}
use Rattle.std.specs.Option.{option_copied}
use Rattle.ip_ranges.specs.Values.{AddressValue}
use Rattle.l2_elect.specs.Election.{is_named}
use Rattle.l2_elect.specs.Kept.{AreKnown}
use Rattle.l2_elect.specs.Listening.{is_listened}
use Rattle.l2_elect.proofs.ListenLaws.{listens-means}
use Rattle.l2_elect.proofs.listening.listens_known.Goals as goal

pub returns-in-Some-clause-value : goal.returns-in-Some-clause-value
returns-in-Some-clause-value c =
    let known = subst (λ (o : Option (List (AddressValue × List ℕ))). AreKnown o c.args.view.now) (ap option_copied c.in-Some.is) c.requires in
    c.listens_as.ensures
    ∙ ap (λ (o : Option (List ℕ)). is_named c.args.node.now o && is_listened c.args.view.now c.args.node.now c.args.interface.now c.args.address.now)
    (c.of.ensures ∙ known.each c.args.address.now)

pub returns-in-Some-clause-meaning : goal.returns-in-Some-clause-meaning
returns-in-Some-clause-meaning c =
    let known = subst (λ (o : Option (List (AddressValue × List ℕ))). AreKnown o c.args.view.now) (ap option_copied c.in-Some.is) c.requires in
    listens-means c.args.view.now c.args.node.now c.args.interface.now c.args.address.now c.listens_as.result
    (c.listens_as.ensures
    ∙ ap (λ (o : Option (List ℕ)). is_named c.args.node.now o && is_listened c.args.view.now c.args.node.now c.args.interface.now c.args.address.now)
    (c.of.ensures ∙ known.each c.args.address.now))
