use Rattle.settling_laws.proofs.Staying.{addresses_stay, left_stay, puts_are_left, runs_keep_addresses}
use Rattle.settling_laws.proofs.laws.what_is_left_stays.Goals as goal

pub returns : goal.returns
returns c = record { puts = puts_are_left; stay = left_stay; kept = addresses_stay; along = runs_keep_addresses }
