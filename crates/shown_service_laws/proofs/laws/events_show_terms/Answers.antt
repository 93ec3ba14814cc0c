use Rattle.shown_service_laws.proofs.EventTerms.{events_show_terms, events_show_families}
use Rattle.shown_service_laws.proofs.laws.events_show_terms.Goals as goal

pub returns-clause-terms : goal.returns-clause-terms
returns-clause-terms c = events_show_terms

pub returns-clause-families : goal.returns-clause-families
returns-clause-families c = events_show_families
