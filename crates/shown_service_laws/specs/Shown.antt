-- The services that lines show.
use Rattle.std.specs.Prelude.{◌≡◌, ℕ, List, Ok}
use Rattle.kube_model.specs.declared.event.Event.{Event}
use Rattle.kube_model.specs.declared.event.Event.TheVariants.{Changed}
use Rattle.kube_model.specs.declared.object.Object.TheVariants as objects
use Rattle.kube_model.specs.declared.service.Service.{Service}
use Rattle.kube_events.specs.Event.{event_of_line}
use Rattle.sharing_terms.specs.Marked.{AreTerms}
use Rattle.sharing_terms.specs.Terms.{terms_of}
use Rattle.core_drive.specs.Sound.{ShowsTerms, ShowsFamilies}

-- The terms of a service that a line shows are terms that there can be.
abbrev pub ServicesHaveTerms : Type 0
ServicesHaveTerms = (line : List ℕ) (version : ℕ) (service : Service) → event_of_line line ≡ Ok (Changed version (objects.Service service))
    → AreTerms (terms_of service)

-- Whatever event a line is read as, a service that it shows has such terms.
abbrev pub EventsShowTerms : Type 0
EventsShowTerms = (line : List ℕ) (event : Event) → event_of_line line ≡ Ok event → ShowsTerms event

-- It wants an address of one family, or of two.
abbrev pub EventsShowFamilies : Type 0
EventsShowFamilies = (line : List ℕ) (event : Event) → event_of_line line ≡ Ok event → ShowsFamilies event
