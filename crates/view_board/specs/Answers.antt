-- What a frame is answered with.
use Rattle.std.specs.Prelude.{ℕ, List, Option, Some, None, fold, ⊤}
use Rattle.ip_ranges.specs.Values.{AddressValue}
use Rattle.kube_model.specs.declared.event.Event.{Event}
use Rattle.speaker_view.specs.declared.change.ViewChange.{ViewChange}
use Rattle.speaker_view.specs.View.{fresh, view_after}
use Rattle.speaker_view.specs.ViewValue.{ViewValue}
use Rattle.l2_elect.specs.Kept.{WereKept}
use Rattle.neigh_frames.specs.Arp.{IsArpAnswer}
use Rattle.neigh_frames.specs.Ndp.{IsNdpAnswer}
use Rattle.view_board.specs.declared.answer.Answer.{Answer}
use Rattle.view_board.specs.declared.answer.Answer.TheVariants.{Arp, Ndp, Silent}

-- the view after these events, the oldest first, which announces the services of the class
abbrev pub view_after_all : Option (List ℕ) → List Event → ViewValue
view_after_all class events = fold (λ v event. view_after event v) (fresh class) events

module _ (v : ViewValue) (node interface mac frame : List ℕ) where
  -- ARP (RFC 826) has no answer
  abbrev pub NoArp : Type 0
  NoArp = (bytes : List ℕ) → ¬ (IsArpAnswer v node interface mac frame bytes)

  -- Neighbor Discovery (RFC 4861) has none
  abbrev pub NoNdp : Type 0
  NoNdp = (bytes : List ℕ) → ¬ (IsNdpAnswer v node interface mac frame bytes)

  -- the answer of ARP where it has one, else that of Neighbor Discovery, and silence where neither has one
  abbrev pub IsAnswer : Answer → Type 0
  IsAnswer (Arp bytes) = IsArpAnswer v node interface mac frame bytes
  IsAnswer (Ndp bytes) = NoArp × IsNdpAnswer v node interface mac frame bytes
  IsAnswer Silent = NoArp × NoNdp

-- where announcers were known, they were those of a view before the change
abbrev pub AreRightIfKnown : ViewChange → Option (List (AddressValue × List ℕ)) → ViewValue → Type 0
AreRightIfKnown change None v = ⊤
AreRightIfKnown change (Some entries) v = WereKept change entries v
