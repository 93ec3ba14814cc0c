-- The items of lanes are events of lines.
use Rattle.std.proofs.Common.{◌≡◌, ℕ, Bool, true, false, if◌then◌else◌, List, [], ◌∷◌, ◌++◌, Option, Some, None, Result, Ok, Err, refl, subst}
use Rattle.std.specs.List.{AllByRecursion}
use Rattle.kube_events.specs.Event.{event_of_line}
use Rattle.kube_model.specs.declared.event.Event.{Event}
use Rattle.kube_model.specs.declared.event.EventFault.{EventFault}
use Rattle.lane_mail.specs.declared.item.Item.{Item}
use Rattle.lane_mail.specs.declared.lane.Lane.{Lane}
use Rattle.lane_mail.specs.declared.lane.Lane.TheVariants.{First, Second}
use Rattle.lane_mail.specs.Lanes.{is_lane, items_of}
use Rattle.lane_run.specs.LaneInputs.{item, item_by, item_in, LaneInput, goes_by, lane_input_from, IsInputOf}
use Rattle.lane_run.specs.Watched.{Begins}
use Rattle.mlb_edge.specs.declared.lines.Line.{Line}
use Rattle.mlb_edge.specs.InputLines.{Ending, input_of}
use Rattle.lane_drive.specs.Laws.{IsRead, ItemsAreRead}

-- a beginning of a list has what each of its elements has
all_begin : {T : Type 0} (P : T → Type 0) (xs ys : List T) → AllByRecursion P (xs ++ ys) → AllByRecursion P xs
all_begin P [] ys all = tt
all_begin P (x ∷ xs) ys all = (all.0, all_begin P xs ys all.1)

by_lane : (P : Item → Type 0) (one : Item) (items : List Item) (lane : Lane)
    → (AllByRecursion P (items_of First items) → AllByRecursion P (items_of Second items) → AllByRecursion P items)
    → AllByRecursion P (if is_lane First lane then one ∷ items_of First items else items_of First items)
    → AllByRecursion P (if is_lane Second lane then one ∷ items_of Second items else items_of Second items) → P one × AllByRecursion P items
by_lane P one items First all firsts seconds = (firsts.0, all firsts.1 seconds)
by_lane P one items Second all firsts seconds = (seconds.0, all firsts seconds.1)

-- what each item of either lane has, each item has
pub all_lanes : (P : Item → Type 0) (items : List Item) → AllByRecursion P (items_of First items) → AllByRecursion P (items_of Second items)
    → AllByRecursion P items
all_lanes P [] firsts seconds = tt
all_lanes P (one ∷ items) firsts seconds = by_lane P one items one.lane (all_lanes P items) firsts seconds

module _ (belongs : Lane → Event → Bool) (lane : Lane) where
  event_read : (event : Event) (b : Bool) (number : ℕ) (bytes : List ℕ) (one : Item) → event_of_line bytes ≡ Ok event → belongs lane event ≡ b
      → (if b then Some (item lane number event) else None) ≡ Some one → IsRead belongs one
  event_read event true number bytes one r fits e =
      let it : item lane number event ≡ one = cc in
      subst (IsRead belongs) it (record { bytes = bytes; read = r; fits = fits })
  event_read event false number bytes one r fits e = absurd (cc)

  item_read : (read : Result Event EventFault) (number : ℕ) (bytes : List ℕ) (one : Item) → event_of_line bytes ≡ read
      → item_by belongs lane number read ≡ Some one → IsRead belongs one
  item_read (Err fault) number bytes one r e = absurd (cc)
  item_read (Ok event) number bytes one r e = event_read event (belongs lane event) number bytes one r refl e

  goes_read : (o : Option Item) (line : Line) (rest : LaneInput) → item_in belongs lane line ≡ o → AllByRecursion (IsRead belongs) rest.items
      → AllByRecursion (IsRead belongs) (goes_by o line rest).items
  goes_read None line rest e all = tt
  goes_read (Some one) line rest e all = (item_read (event_of_line line.bytes) line.number line.bytes one refl e, all)

  lines_read : (lines : List Line) (ending : Ending) → AllByRecursion (IsRead belongs) (lane_input_from belongs lane lines ending).items
  lines_read [] ending = tt
  lines_read (line ∷ lines) ending = goes_read (item_in belongs lane line) line (lane_input_from belongs lane lines ending) refl (lines_read lines ending)

  input_read : (left : Option (List ℕ)) (input : LaneInput) → IsInputOf belongs lane left input → AllByRecursion (IsRead belongs) input.items
  input_read None input is = rw is.2 (lines_read is.0 is.1)
  input_read (Some bytes) input is = rw is (lines_read (input_of bytes).lines (input_of bytes).ending)

  pub begins_read : (left : Option (List ℕ)) (items : List Item) → Begins belongs lane left items → AllByRecursion (IsRead belongs) items
  begins_read left items b = all_begin (IsRead belongs) items b.begins.0 (subst (AllByRecursion (IsRead belongs)) b.begins.1 (input_read left b.input b.is))

-- each item that is taken is the event of a line that may come by its lane
pub items_are_read : (belongs : Lane → Event → Bool) → ItemsAreRead belongs
items_are_read belongs first second items b =
    all_lanes (IsRead belongs) items (begins_read belongs First first (items_of First items) b.firsts)
    (begins_read belongs Second second (items_of Second items) b.seconds)
