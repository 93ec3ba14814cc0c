use Rattle.std.proofs.Common.{ap, ◌∙◌}
use Rattle.bgp_routes.specs.Placed.{united_with}
use Rattle.bgp_routes.specs.Uniting.{with_contribution}
use Rattle.bgp_routes.proofs.Placed.{contribution-placed, stays-placed}
use Rattle.bgp_routes.proofs.uniting.UnitedRoutes.add.Goals as goal

pub invariant_of-self-2 : goal.invariant_of-self-2
invariant_of-self-2 c =
    stays-placed c.self.inside.routes.entries c.insert.new.self.entries c.args.route c.in_ok-joined.joined c.place_of-place.result c.requires c.self.invariant
    (record {
      sorted = c.insert.ensures.was_ordered;
      is_place = c.place_of-place.ensures;
      is_made = c.in_ok-joined.ensures ∙ ap (λ found. united_with found c.args.route) c.get.ensures.value;
      is_after = c.in_ok-_before.ensures.entries;
    })

pub returns : goal.returns
returns c =
    contribution-placed c.self.inside.routes.entries c.insert.new.self.entries c.args.route c.in_ok-joined.joined c.place_of-place.result c.requires
    c.self.invariant (record {
      sorted = c.insert.ensures.was_ordered;
      is_place = c.place_of-place.ensures;
      is_made = c.in_ok-joined.ensures ∙ ap (λ found. united_with found c.args.route) c.get.ensures.value;
      is_after = c.in_ok-_before.ensures.entries;
    })
    ∙ ap (λ routes. with_contribution routes c.args.route) c.self.view_is
