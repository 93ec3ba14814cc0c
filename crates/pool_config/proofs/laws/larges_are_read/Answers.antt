use Rattle.pool_config.proofs.CommunitySets.{larges_are_read}
use Rattle.pool_config.proofs.LargeTexts.{large_texts_are_read}
use Rattle.pool_config.proofs.laws.larges_are_read.Goals as goal

pub returns : goal.returns
returns c = record { texts = large_texts_are_read; lists = larges_are_read }
