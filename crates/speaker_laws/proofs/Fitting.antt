-- The addresses that are told fit their families, so the written lines tell what the entries do.
use Rattle.std.proofs.Common.{◌≡◌, ℕ, List, [], ◌∷◌, inl, inr, refl, sym, subst}
use Rattle.ip_ranges.specs.Values.{AddressValue, IsOfFamily}
use Rattle.l2_elect.specs.Election.{IsAnnouncer}
use Rattle.line_run.specs.Machine.{Goes}
use Rattle.line_run.specs.Run.{AreTaken}
use Rattle.mlb_base.specs.Items.{IsIn}
use Rattle.mlb_base.proofs.Lists.{all-append, contains-in}
use Rattle.mlb_edge.specs.declared.lines.Line.{Line}
use Rattle.speaker_view.specs.Held.{objects_of}
use Rattle.speaker_view.specs.ViewValue.{ViewValue}
use Rattle.speaker_words.specs.Reading.{said_in}
use Rattle.bgp_routes.proofs.Few.{each-of}
use Rattle.shown_view_laws.specs.Numbered.{HasFittingAddresses, IsNumbered}
use Rattle.speaker_machine.specs.declared.transcript.TranscriptEntry.{TranscriptEntry}
use Rattle.speaker_machine.specs.declared.transcript.TranscriptEntry.TheVariants.{Noted, Withdrawn, Announced, Sent, Updated}
use Rattle.speaker_machine.specs.Stream.{SpeakerState, line_step, speaker_rules}
use Rattle.speaker_laws.specs.Clauses.{begun_with}
use Rattle.speaker_laws.specs.Heard.{messages_told}
use Rattle.speaker_laws.specs.Told.{announced_in, withdrawn_in}
use Rattle.speaker_laws.specs.Written.{WritesPeersTheirRoutes, WritesWhatIsAnnounced}
use Rattle.speaker_laws.proofs.ChangesTold.{line-told}
use Rattle.speaker_laws.proofs.Heard.{IsGoodView, begun-good, heard_by, line-good}
use Rattle.speaker_laws.proofs.Telling.{told_by}
use Rattle.speaker_laws.proofs.Written.{AllFit, FitsAt, announced-written, messages-written}

-- what a node announces fits its family
announcer-fits : (v : ViewValue) (a : AddressValue) (node : List ℕ) → IsNumbered v → IsAnnouncer v a node → IsOfFamily a
announcer-fits v a node numbered announcer =
    let recorded = announcer.eligible.recorded in
    let fitting : HasFittingAddresses recorded.service =
    each-of HasFittingAddresses (objects_of v.held.services) recorded.service numbered.services
    (contains-in (objects_of v.held.services) recorded.service recorded.held) in
    each-of IsOfFamily recorded.service.holding.addresses a fitting (contains-in recorded.service.holding.addresses a recorded.recorded)

-- entries whose withdrawn and announced addresses fit
all-fit : (entries : List TranscriptEntry) → ((a : AddressValue) → IsIn (withdrawn_in entries) a → IsOfFamily a)
    → ((a : AddressValue) → IsIn (announced_in entries) a → IsOfFamily a) → AllFit entries
all-fit [] gone come = tt
all-fit (Noted note ∷ entries) gone come = (tt, all-fit entries gone come)
all-fit (Withdrawn b ∷ entries) gone come = (gone b (inl refl), all-fit entries (λ a there. gone a (inr there)) come)
all-fit (Announced b ∷ entries) gone come = (come b (inl refl), all-fit entries gone (λ a there. come a (inr there)))
all-fit (Sent interface frame ∷ entries) gone come = (tt, all-fit entries gone come)
all-fit (Updated peer message ∷ entries) gone come = (tt, all-fit entries gone come)

line-fits : (s t : SpeakerState) (line : Line) (entries : List TranscriptEntry) → line_step s line ≡ Goes t entries → IsNumbered s.view → IsNumbered t.view
    → AllFit entries
line-fits s t line entries goes before after =
    let told = line-told s line t entries goes in
    all-fit entries
    (λ a there. announcer-fits s.view a s.local.node before ((told.withdrawn a).0 there).0)
    (λ a there. announcer-fits t.view a s.local.node after ((told.announced a).0 there).0)

lines-fit : (lines : List Line) (s t : SpeakerState) (told : List TranscriptEntry) → AreTaken speaker_rules lines s t told → IsGoodView s.view → AllFit told
lines-fit [] s t told taken good = subst AllFit (sym taken.1) tt
lines-fit (line ∷ lines) s t told (next, first, rest, goes, others, is) good =
    let next_good = line-good s next line first goes good in
    subst AllFit (sym is)
    (all-append FitsAt first rest (line-fits s next line first goes good.numbered next_good.numbered) (lines-fit lines next t rest others next_good))

-- ---- whatever the words say
pub written_by : (words : List (List ℕ)) → WritesWhatIsAnnounced (begun_with (said_in words))
written_by words lines s told taken a fits =
    let same = announced-written a fits told (lines-fit lines (begun_with (said_in words)) s told taken (begun-good (said_in words))) in
    let is = told_by words lines s told taken a in (
      λ written. is.0 (same.0 written),
      λ announcer. same.1 (is.1 announcer),
    )

pub routes_written_by : (words : List (List ℕ)) → WritesPeersTheirRoutes (begun_with (said_in words))
routes_written_by words lines t all taken hop is peer there told since =
    let heard = (heard_by words lines t all taken hop is peer there).1 told since in
    (messages_told peer.name told, messages-written peer.name told, heard.0, heard.1)
