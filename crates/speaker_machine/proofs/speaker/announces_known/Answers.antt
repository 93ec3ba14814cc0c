use Rattle.std.proofs.Common.{ℕ, List, Option, ap, subst, ◌∙◌}
use Rattle.std.specs.Option.{option_copied}
use Rattle.ip_ranges.specs.Values.{AddressValue}
use Rattle.l2_elect.specs.Election.{is_named}
use Rattle.l2_elect.specs.Kept.{AreKnown}
use Rattle.speaker_machine.proofs.speaker.announces_known.Goals as goal

pub returns-in-Some : goal.returns-in-Some
returns-in-Some c =
    let known = subst (λ (o : Option (List (AddressValue × List ℕ))). AreKnown o c.args.view.now) (ap option_copied c.in-Some.is) c.requires in
    c.is_named.ensures ∙ ap (λ (o : Option (List ℕ)). is_named c.args.node.now o) (c.of.ensures ∙ known.each c.args.address.now)
