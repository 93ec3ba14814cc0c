-- That a transcript is sound.
use Rattle.std.specs.Prelude.{◌≡◌, ℕ, List, [], ◌∷◌, ⊤, None, Option}
use Rattle.kube_model.specs.declared.event.Event.{Event}
use Rattle.kube_model.specs.declared.key.Key.{Key}
use Rattle.kube_model.specs.declared.service.Service.{Service}
use Rattle.kube_model.specs.Families.{AreFamilies}
use Rattle.sharing_terms.specs.Marked.{AreTerms}
use Rattle.sharing_terms.specs.Terms.{terms_of}
use Rattle.core_rules.specs.Core.{State}
use Rattle.core_rules.specs.Take.{effect_of}
use Rattle.core_rules.specs.Run.{TranscriptEntry as CoreEntry, IsRun, core_after, observed}
use Rattle.core_laws.specs.Shared.{AllShowTerms}
use Rattle.core_laws.specs.Shown.{OfEffect, HoldsOfShown}
use Rattle.core_laws.specs.Sound.{IsSoundRun}
use Rattle.core_laws.specs.Telling.{IsRightNote}
use Rattle.core_drive.specs.Drive.{TranscriptEntry, Took, ListExpired, Turned, Heard, core_entry, behind}

abbrev pub IsRightTelling : TranscriptEntry → List CoreEntry → Type 0
IsRightTelling (Took event note) earlier = IsRightNote note event (observed earlier)
IsRightTelling (ListExpired group) earlier = ⊤
IsRightTelling (Turned turn) earlier = ⊤
IsRightTelling (Heard reply) earlier = ⊤

-- what is noted of each event is right, by what stands before it
abbrev pub AreNotesRight : List TranscriptEntry → List CoreEntry → Type 0
AreNotesRight [] earlier = ⊤
AreNotesRight (entry ∷ later) earlier = IsRightTelling entry earlier × AreNotesRight later (core_entry entry ∷ earlier)

-- Each moment is right by the transcript before it, and so is each note.
pub record IsSound (class : Option (List ℕ)) (transcript : List TranscriptEntry) : Type 0 where
  pub run : IsSoundRun class (behind transcript [])
  pub notes : AreNotesRight transcript []

-- the service that the event shows, if it shows one, has terms that there can be
abbrev pub ShowsTerms : Event → Type 0
ShowsTerms event = OfEffect (λ key service. AreTerms (terms_of service)) (effect_of event)

-- the service, of whatever key, wants an address of one family, or of two
abbrev pub HasFamilies : Key → Service → Type 0
HasFamilies key service = AreFamilies service.families

-- so does the one that the event shows, if it shows one
abbrev pub ShowsFamilies : Event → Type 0
ShowsFamilies event = OfEffect HasFamilies (effect_of event)

-- What was told is a run of the core that leads to this state, of services as there can be, with right notes; a put is in flight, or nothing is queued.
pub record LeadsTo (class : Option (List ℕ)) (told : List TranscriptEntry) (s : State) : Type 0 where
  pub is : IsRun class (behind told [])
  pub core : core_after class (behind told []) ≡ s
  pub typed : AllShowTerms (behind told [])
  pub families : HoldsOfShown HasFamilies (behind told [])
  pub notes : AreNotesRight told []
  pub idle : s.out ≡ None → s.queue ≡ []
