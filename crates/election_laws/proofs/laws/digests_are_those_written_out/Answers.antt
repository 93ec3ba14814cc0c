use Rattle.std.proofs.Common.{refl}
use Rattle.sha2.specs.Sha256.{compress, digest_bytes, first_words, hash_after, rounds, schedule, sha256}
use Rattle.l2_elect.specs.Election.{digest_of}
use Rattle.election_laws.proofs.laws.digests_are_those_written_out.Goals as goal

pub returns : goal.returns
unfolding digest_of first_words schedule rounds compress hash_after digest_bytes sha256
returns c = record { four = refl; six = refl; order = refl }
