use Rattle.core_laws.proofs.Settled.{offers_are_for_services, held_are_served, others_are_bare}
use Rattle.core_laws.proofs.laws.settled_are_served.Goals as goal

pub returns : goal.returns
returns c = record { offers = offers_are_for_services; held = held_are_served; others = others_are_bare }
