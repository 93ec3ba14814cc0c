-- Nothing is left waiting that could be served.
use Rattle.std.specs.Prelude.{◌≡◌, ℕ, Bool, true, false, List, Option, Some, None}
use Rattle.kube_model.specs.declared.key.Key.{Key}
use Rattle.kube_model.specs.declared.put.Put.{Put}
use Rattle.kube_model.specs.declared.reason.Reason.{Reason}
use Rattle.kube_model.specs.declared.service.Service.{Service}
use Rattle.kube_model.specs.Service.{with_holding}
use Rattle.alloc_book.specs.declared.choice.Choice.{Choice}
use Rattle.alloc_book.specs.declared.choice.Choice.TheVariants.{Pending}
use Rattle.alloc_book.specs.Asking.{Offer}
use Rattle.alloc_book.specs.Chosen.{IsChosen}
use Rattle.claim_index.specs.Claims.{holders, Holders}
use Rattle.kube_model.specs.Keys.{same_key}
use Rattle.core_rules.specs.Core.{State, service_of, offer_in, is_settled}
use Rattle.core_rules.specs.Turn.{wanted_record}
use Rattle.core_rules.specs.Run.{TranscriptEntry, core_after, IsRun}

-- The service has the record that was chosen for it, by what there is for it now (the configuration in force and the labels of
-- its namespace). Where nothing could be chosen, nothing can be chosen by the claims as they are now either.
pub record MeetsRow (class : Option (List ℕ)) (offer_for : Service → Offer) (has : Holders) (service : Service) : Type 0 where
  pub before : Service
  pub only_record : service ≡ with_holding service.holding before
  pub chosen_by : Holders
  pub choice : Choice
  pub chosen : IsChosen chosen_by (offer_for before) class before choice
  pub holding_is : service.holding ≡ wanted_record before.holding choice
  pub pending_now : (reason : Reason) → choice ≡ Pending reason → IsChosen has (offer_for before) class before (Pending reason)

-- the put is of the key
abbrev pub is_put_of : Option Put → Key → Bool
is_put_of None key = false
is_put_of (Some put) key = same_key put.key key

-- each settled service meets its row, but the one that is being written
abbrev pub IsQuiet : State → Type 0
IsQuiet s = (key : Key) (service : Service) → is_settled s key ≡ true → is_put_of s.out key ≡ false → service_of s.held key ≡ Some service
    → MeetsRow s.class (offer_in s.held) (holders s.claims) service

abbrev pub RunsAreQuiet : Type 0
RunsAreQuiet = (class : Option (List ℕ)) (run : List TranscriptEntry) → IsRun class run → IsQuiet (core_after class run)
