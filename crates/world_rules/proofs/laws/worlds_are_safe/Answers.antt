use Rattle.world_rules.proofs.Storing.{good-store_of}
use Rattle.world_rules.proofs.Unmarked.{records_are_good, unmarked_stay}
use Rattle.world_rules.proofs.Worlds.{worlds_are_safe, starts_are_good, steps_keep_good}
use Rattle.world_rules.proofs.laws.worlds_are_safe.Goals as goal

pub returns : goal.returns
returns c = record {
  safe = worlds_are_safe;
  starts = starts_are_good;
  new_stores = good-store_of;
  records = records_are_good;
  steps = steps_keep_good;
  unmarked = unmarked_stay;
}
