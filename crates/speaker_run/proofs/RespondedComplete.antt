-- Where the watched objects can be applied, whatever both lanes send is taken, or memory is wanting.
use Rattle.std.proofs.Common.{◌≡◌, ◌⊎◌, ℕ, Bool, true, false, cond, List, [], ◌∷◌, ◌++◌, length, Option, Some, None, refl, sym, ap, ◌∙◌, subst, inl, inr}
use Rattle.std.proofs.lemmas.Bool.{false≢true, true≢false}
use Rattle.std.specs.List.{AllByRecursion}
use Rattle.std.specs.Prelude.{is_none, nat_le}
use Rattle.kube_model.specs.declared.status.Status.TheVariants.{NoMemory}
use Rattle.lane_drive.proofs.AsTheyAre.{begins_in}
use Rattle.lane_drive.proofs.Heard.{both_none}
use Rattle.lane_drive.specs.Complete.{AreSent, TakesFirst, WantsMemory}
use Rattle.lane_drive.specs.Drive.{Told, AreTaken as AreItemsTaken}
use Rattle.lane_mail.specs.Lanes.{is_lane, items_of}
use Rattle.lane_mail.specs.declared.item.Item.{Item}
use Rattle.lane_mail.specs.declared.lane.Lane.TheVariants.{First}
use Rattle.line_run.specs.Machine.{Goes, Stops}
use Rattle.mlb_edge.specs.declared.lines.Line.{Line}
use Rattle.speaker_machine.specs.Lanes.{belongs_to}
use Rattle.speaker_machine.specs.Stream.{SpeakerState, Received, frame_in}
use Rattle.speaker_laws.proofs.Quiet.{item_goes, item_taken}
use Rattle.speaker_run.proofs.RespondedShown.{IsLaned, firsts_begin, items_laned, turned_by}
use Rattle.speaker_run.specs.ResponderClauses.{AreApplicable}
use Rattle.speaker_run.specs.Responding.{Answering, ShownEntry, ShownState, seen_in, shown_rules, shown_step_at, told_answer, unshown}

-- All items are taken.
record Taken (s : ShownState) (items : List Item) : Type 0 where
  state : ShownState
  told : List (Told ShownEntry)
  taken : AreItemsTaken shown_rules items [] s state told

-- The first of them are taken, and for the next one memory is wanting.
record Wants (s : ShownState) (items : List Item) : Type 0 where
  front : List Item
  item : Item
  others : List Item
  items_are : items ≡ front ++ item ∷ others
  state : ShownState
  told : List (Told ShownEntry)
  taken : AreItemsTaken shown_rules front [] s state told
  stops : shown_rules.take state item ≡ Stops NoMemory

-- one item more in front
module _ (item : Item) (items : List Item) (s next : ShownState) (entries : List ShownEntry) (steps : shown_rules.take s item ≡ Goes next entries) where
  one_front : (front : List Item) (t : ShownState) (told : List (Told ShownEntry)) → AreItemsTaken shown_rules front [] next t told
      → AreItemsTaken shown_rules (item ∷ front) [] s t ((record { item = item; entries = entries }) ∷ told)
  one_front front t told taken = ([], [], next, entries, told, refl, item_taken shown_rules (λ u. refl) item s next entries steps, taken, refl)

  one_more : Taken next items ⊎ Wants next items → Taken s (item ∷ items) ⊎ Wants s (item ∷ items)
  one_more (inl all) = inl (record {
    state = all.state;
    told = (record { item = item; entries = entries }) ∷ all.told;
    taken = one_front items all.state all.told all.taken;
  })
  one_more (inr w) = inr (record {
    front = item ∷ w.front;
    item = w.item;
    others = w.others;
    items_are = ap (λ (l : List Item). item ∷ l) w.items_are;
    state = w.state;
    told = (record { item = item; entries = entries }) ∷ w.told;
    taken = one_front w.front w.state w.told w.taken;
    stops = w.stops;
  })

some_there : {A : Type 0} (o : Option A) → is_none o ≡ false → (a : A) × (o ≡ Some a)
some_there None e = absurd (true≢false e)
some_there (Some a) e = (a, refl)

-- an answer is taken, or was given by more events than are published
answer_taken : (item : Item) (items : List Item) (s : ShownState) (answered : Received) → frame_in item.event ≡ Some answered
    → Taken s items ⊎ Wants s items → Taken s (item ∷ items) ⊎ Wants s (item ∷ items)
answer_taken item items s answered is rest = by (nat_le (seen_in answered.frame) (length s.board.published)) refl where
  step : shown_rules.take s item ≡ shown_step_at (Some answered) s item.event
  step = ap (λ (frame : Option Received). shown_step_at frame s item.event) is

  by : (few : Bool) → nat_le (seen_in answered.frame) (length s.board.published) ≡ few → Taken s (item ∷ items) ⊎ Wants s (item ∷ items)
  by true e = one_more item items s s (told_answer s.speaker answered) (step ∙ rw e refl) rest
  by false e =
      inr (record { front = []; item = item; others = items; items_are = refl; state = s; told = []; taken = (refl, refl, refl); stops = step ∙ rw e refl })

-- where the items of the first lane are taken one after the other, those of both are, or memory is wanting
takes : (items behind : List Item) (s t : ShownState) (told : List (Told ShownEntry)) → AllByRecursion IsLaned items
    → AreItemsTaken shown_rules (items_of First items ++ behind) [] s t told → Taken s items ⊎ Wants s items
takes [] behind s t told all taken = inl (record { state = s; told = []; taken = (refl, refl, refl) })
takes (item ∷ items) behind s t told all taken =
    by (is_lane First item.lane) all.0 taken (λ next others taken. takes items behind next t others all.1 taken)
  where
    by : (b : Bool) → is_none (frame_in item.event) ≡ b
        → AreItemsTaken shown_rules (cond b (item ∷ items_of First items) (items_of First items) ++ behind) [] s t told
        → ((next : ShownState) (others : List (Told ShownEntry)) → AreItemsTaken shown_rules (items_of First items ++ behind) [] next t others
        → Taken next items ⊎ Wants next items)
        → Taken s (item ∷ items) ⊎ Wants s (item ∷ items)
    by true none (own, rest, next, entries, more, split, one, others, is) later =
        let no_more : rest ≡ [] = (both_none own rest (sym split)).1 in
        one_more item items s next entries (item_goes shown_rules (λ u. refl) item own s next entries one)
        (later next more (subst (λ (lines : List Line). AreItemsTaken shown_rules (items_of First items ++ behind) lines next t more) no_more others))
    by false frame taken later =
        let it = some_there (frame_in item.event) frame in
        answer_taken item items s it.0 it.1 (later s told taken)

module _ (start : SpeakerState) (first second : Option (List ℕ)) (v w : Answering) where
  pub sent_applicable : (replies : Option (List ℕ)) → AreApplicable start first second
      → AreSent belongs_to shown_rules (unshown start) (turned_by v w) first second replies
  sent_applicable replies ready =
      let e = ready.events in
      record {
        lines = [];
        events = record {
          one = e.one;
          two = e.two;
          first_is = e.first_is;
          second_is = e.second_is;
          first_done = e.first_done;
          second_done = e.second_done;
          heard = λ hears. absurd (false≢true hears);
          unheard = λ none. refl;
        };
        taken = λ items b.
            let front = begins_in belongs_to First first e.one (items_of First items) e.first_is (firsts_begin first second v w items b) in
            let taken : AreItemsTaken shown_rules (items_of First items ++ front.0) [] (unshown start) ready.state ready.told =
            subst (λ (l : List Item). AreItemsTaken shown_rules l [] (unshown start) ready.state ready.told) front.1 ready.taken in
            ends items (takes items front.0 (unshown start) ready.state ready.told (items_laned first second v w items b) taken);
      }
    where
      ends : (items : List Item) → Taken (unshown start) items ⊎ Wants (unshown start) items
          → TakesFirst (turned_by v w) shown_rules (unshown start) first second [] items ⊎ WantsMemory shown_rules (unshown start) [] items
      ends items (inl all) = inl (record {
        heard = [];
        rest = [];
        split = refl;
        state = all.state;
        told = all.told;
        taken = all.taken;
        quiet = refl;
        all = λ one other. refl;
      })
      ends items (inr wants) = inr (record {
        front = wants.front;
        item = wants.item;
        others = wants.others;
        items_are = wants.items_are;
        heard = [];
        rest = [];
        split = refl;
        state = wants.state;
        told = wants.told;
        taken = wants.taken;
        quiet = refl;
        stops = wants.stops;
      })
