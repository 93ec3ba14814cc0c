use Rattle.choice_laws.proofs.Records.{kept-whole, whole-kept}
use Rattle.choice_laws.proofs.laws.kept_is_whole.Goals as goal

pub returns-clause-whole : goal.returns-clause-whole
returns-clause-whole c = kept-whole

pub returns-clause-kept : goal.returns-clause-kept
returns-clause-kept c = whole-kept
