use Rattle.shown_service_laws.proofs.EventTerms.{services_have_terms}
use Rattle.shown_service_laws.proofs.laws.services_have_terms.Goals as goal

pub returns : goal.returns
returns c = services_have_terms
