-- What the items of two lanes lead to is a run of the core, so what is told of them is sound, and a run that is done leaves nothing waiting.
use Rattle.std.proofs.Common.{◌≡◌, ℕ, List, [], ◌∷◌, ◌++◌, Option, None, Ok, refl, sym, subst}
use Rattle.std.proofs.lemmas.List.{append-nil}
use Rattle.std.proofs.lemmas.List.Elements.{filter-append}
use Rattle.std.specs.List.{AllByRecursion}
use Rattle.core_drive.proofs.Goes.{begins_fresh, expiries_go_on}
use Rattle.core_drive.specs.Drive.{TranscriptEntry, expiring}
use Rattle.core_drive.specs.Sound.{LeadsTo}
use Rattle.core_rules.specs.Core.{State, fresh}
use Rattle.kube_events.specs.Event.{event_of_line}
use Rattle.kube_model.specs.declared.event.Event.{Event}
use Rattle.kube_model.specs.declared.event.Event.TheVariants.{Changed, Deleted, ListEnd, Expired, Members, Frame, Ignored}
use Rattle.kube_model.specs.declared.event.ListGroup.TheVariants as groups
use Rattle.lane_drive.proofs.ReadItems.{items_are_read}
use Rattle.lane_drive.specs.Clauses.{OnlyWrites, TakesWhole}
use Rattle.lane_drive.specs.Drive.{Told, AreHeard, AreTaken, IsTaken, entries_of}
use Rattle.lane_drive.specs.Laws.{IsRead}
use Rattle.lane_drive.specs.Stops.{AreBeginnings}
use Rattle.lane_mail.specs.Lanes.{is_lane, items_of}
use Rattle.lane_mail.specs.declared.item.Item.{Item}
use Rattle.lane_mail.specs.declared.lane.Lane.{Lane}
use Rattle.lane_mail.specs.declared.lane.Lane.TheVariants.{First, Second}
use Rattle.lane_run.proofs.Turning.{begins_less}
use Rattle.lane_run.specs.Watched.{Begins, StopsAs}
use Rattle.lane_run.specs.declared.lane_end.LaneEnd.TheVariants.{Done}
use Rattle.line_run.specs.Run.{AreTaken as AreLinesTaken}
use Rattle.controller_run.specs.LaneClauses.{TellsSound, LanesAreWatches, LeavesServed}
use Rattle.controller_run.specs.Lanes.{belongs_to, lane_arrival, lane_group, lane_rules}
use Rattle.controller_run.specs.SoFar.{IsRightSoFar}
use Rattle.controller_run.specs.Stream.{controller_rules}
use Rattle.controller_run.proofs.Rightful.{GoesOn, by_driven, arrival_goes, led_quiet}
use Rattle.controller_run.proofs.SoFar.{joined, led_right, lines_lead}
use Rattle.mlb_base.proofs.Bools.{none_from}
use Rattle.mlb_edge.specs.declared.lines.Line.{Line}

-- of two groups a lane carries the one that it is the watch of
lanes_watch : LanesAreWatches
lanes_watch First groups.Config other = (λ e. refl, λ e. refl)
lanes_watch First groups.Service other = (λ e. absurd (cc), λ e. absurd (cc))
lanes_watch First groups.Endpoint other = absurd (other refl)
lanes_watch Second groups.Config other = (λ e. absurd (cc), λ e. absurd (cc))
lanes_watch Second groups.Service other = (λ e. refl, λ e. refl)
lanes_watch Second groups.Endpoint other = absurd (other refl)

module _ (class : Option (List ℕ)) where
  pub item_goes : (event : Event) (s : State) (lane : Lane) (bytes : List ℕ) → s.out ≡ None → event_of_line bytes ≡ Ok event
      → GoesOn class s (lane_arrival s lane event)
  item_goes Expired s lane bytes none reads next entries told e leads =
      by_driven class (expiring s (lane_group lane)) next entries told e (expiries_go_on class told s (lane_group lane) leads none)
  item_goes (Changed version object) s lane bytes none reads next entries told e leads =
      arrival_goes class s bytes (Changed version object) none reads next entries told e leads
  item_goes (Deleted kind key) s lane bytes none reads next entries told e leads =
      arrival_goes class s bytes (Deleted kind key) none reads next entries told e leads
  item_goes (ListEnd group) s lane bytes none reads next entries told e leads = arrival_goes class s bytes (ListEnd group) none reads next entries told e leads
  item_goes (Members names) s lane bytes none reads next entries told e leads = arrival_goes class s bytes (Members names) none reads next entries told e leads
  item_goes (Frame interface frame) s lane bytes none reads next entries told e leads =
      arrival_goes class s bytes (Frame interface frame) none reads next entries told e leads
  item_goes Ignored s lane bytes none reads next entries told e leads = arrival_goes class s bytes Ignored none reads next entries told e leads

  -- replies that are heard are lines that are taken
  heard_lines : (lines : List Line) (s t : State) (entries : List TranscriptEntry) → AreHeard lane_rules lines s t entries
      → AreLinesTaken controller_rules lines s t entries
  heard_lines [] s t entries heard = heard
  heard_lines (line ∷ lines) s t entries (next, first, rest, waits, hears, more, is) =
      (next, first, rest, hears, heard_lines lines next t rest more, is)

  -- an item that is taken, with the replies after it
  one_leads : (item : Item) (replies : List Line) (s t : State) (entries told : List TranscriptEntry) → IsRead belongs_to item
      → IsTaken lane_rules item replies s t entries
      → LeadsTo class told s → LeadsTo class (told ++ entries) t
  one_leads item replies s t entries told read taken leads =
      let one = item_goes item.event s item.lane read.bytes (none_from s.out taken.quiet) read.read taken.next taken.first told taken.steps leads in
      let heard = heard_lines replies taken.next t taken.rest taken.heard in
      rw taken.entries_are (joined class told taken.first taken.rest t (lines_lead class replies taken.next t taken.rest (told ++ taken.first) heard one))

  -- all that are taken
  taken_leads : (items : List Item) (replies : List Line) (s t : State) (told : List (Told TranscriptEntry)) (earlier : List TranscriptEntry)
      → AllByRecursion (IsRead belongs_to) items
      → AreTaken lane_rules items replies s t told → LeadsTo class earlier s → LeadsTo class (earlier ++ entries_of told) t
  taken_leads [] replies s t told earlier read (none, same, nothing) leads = rw (same, nothing, append-nil earlier) leads
  taken_leads (item ∷ items) replies s t told earlier read (own, behind, next, entries, more, split, taken, rest, is) leads =
      let one = one_leads item own s next entries earlier read.0 taken leads in
      rw is (joined class earlier entries (entries_of more) t (taken_leads items behind next t more (earlier ++ entries) read.1 rest one))

  -- from the start, where the items are beginnings of both lanes
  pub lanes_lead : (first second : Option (List ℕ)) (items : List Item) (replies : List Line) (t : State) (told : List (Told TranscriptEntry))
      → AreBeginnings belongs_to first second items
      → AreTaken lane_rules items replies (fresh class) t told → LeadsTo class (entries_of told) t
  lanes_lead first second items replies t told begin taken =
      taken_leads items replies (fresh class) t told [] (items_are_read belongs_to first second items begin) taken (begins_fresh class)

  -- so what is told of them is right
  any_sound : (first second : Option (List ℕ)) (items : List Item) (replies : List Line) (t : State) (told : List (Told TranscriptEntry))
      → AreBeginnings belongs_to first second items
      → AreTaken lane_rules items replies (fresh class) t told → IsRightSoFar class (entries_of told) t
  any_sound first second items replies t told begin taken = led_right class (entries_of told) t (lanes_lead first second items replies t told begin taken)

  -- beginnings of what is sent are so too
  begin_less : (first second : Option (List ℕ)) (earlier later : List Item) → AreBeginnings belongs_to first second (earlier ++ later)
      → AreBeginnings belongs_to first second earlier
  begin_less first second earlier later begin =
      let of_lane = λ (lane : Lane). filter-append (λ item. is_lane lane item.lane) earlier later in
      record {
        firsts = begins_less belongs_to First first (items_of First (earlier ++ later)) (items_of First earlier) (items_of First later, of_lane First)
            begin.firsts;
        seconds = begins_less belongs_to Second second (items_of Second (earlier ++ later)) (items_of Second earlier) (items_of Second later, of_lane Second)
            begin.seconds;
      }

  pub lanes_sound : (first second replies before after : Option (List ℕ)) → OnlyWrites belongs_to lane_rules (fresh class) first second replies before after
      → TellsSound first second replies before after class
  lanes_sound first second replies before after only =
      let right = any_sound first second only.items only.replies only.state only.told only.begin only.taken in
      record {
        written = only;
        sound = right.sound;
        safe = right.safe;
        settles = right.settles;
        stays = right.stays;
        so_far = λ earlier later heard t told split taken.
            any_sound first second earlier heard t told
            (begin_less first second earlier later (subst (AreBeginnings belongs_to first second) split only.begin)) taken;
        watches = lanes_watch;
      }

  -- all that a lane carries is a beginning of it
  all_begins : (lane : Lane) (left : Option (List ℕ)) (items : List Item) → StopsAs belongs_to lane left items Done → Begins belongs_to lane left items
  all_begins lane left items stops = record { input = record { items = items; end = Done }; is = stops; begins = ([], sym (append-nil items)) }

  pub lanes_quiet : (first second left left' before after : Option (List ℕ))
      → TakesWhole belongs_to lane_rules (fresh class) first second left left' before after
      → LeavesServed first second left left' before after class
  lanes_quiet first second left left' before after whole =
      let begin : AreBeginnings belongs_to first second whole.items =
      record {
        firsts = all_begins First first (items_of First whole.items) whole.firsts;
        seconds = all_begins Second second (items_of Second whole.items) whole.seconds;
      } in
      let led = lanes_lead first second whole.items whole.heard whole.state whole.told begin whole.taken in
      record { whole = whole; quiet = led_quiet class (entries_of whole.told) whole.state led (none_from whole.state.out whole.quiet) }
