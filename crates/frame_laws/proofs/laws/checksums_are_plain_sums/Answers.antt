use Rattle.frame_laws.proofs.PlainSums.{checksums-plain, frames-summed}
use Rattle.frame_laws.proofs.laws.checksums_are_plain_sums.Goals as goal

pub returns : goal.returns
returns c = record { sums = checksums-plain; frames = frames-summed }
