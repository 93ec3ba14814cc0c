-- Lines that are items, and the others after them.
use Rattle.std.proofs.Common.{◌≡◌, Bool, List, [], ◌∷◌, ◌++◌, Option, Some, None, refl, ap}
use Rattle.kube_model.specs.declared.event.Event.{Event}
use Rattle.lane_mail.specs.declared.lane.Lane.{Lane}
use Rattle.lane_mail.specs.declared.item.Item.{Item}
use Rattle.mlb_edge.specs.declared.lines.Line.{Line}
use Rattle.mlb_edge.specs.InputLines.{Ending}
use Rattle.lane_run.specs.Laws.{StopsFirst}
use Rattle.lane_run.specs.LaneInputs.{item_in, AreItems, LaneInput, with_items, goes_by, lane_input_from}

some_same : (x y : Item) → Some x ≡ Some y → x ≡ y
some_same x y e = cc

module _ (belongs : Lane → Event → Bool) (lane : Lane) where
  -- one line more
  pub items-push : (lines : List Line) (items : List Item) (line : Line) (item : Item) → AreItems belongs lane lines items
      → item_in belongs lane line ≡ Some item → AreItems belongs lane (lines ++ line ∷ []) (items ++ item ∷ [])
  items-push [] [] line item are is = rw is refl
  items-push [] (i ∷ items) line item are is = absurd (cc)
  items-push (l ∷ lines) [] line item are is = absurd (cc)
  items-push (l ∷ lines) (i ∷ items) line item are is =
      let head : item_in belongs lane l ≡ Some i = cc in
      let tail : AreItems belongs lane lines items = cc in
      let more = items-push lines items line item tail is in
      rw head (ap (λ (t : List (Option Item)). Some i ∷ t) more)

  -- what they carry, and then what the others do
  pub input-behind : (done lines : List Line) (ending : Ending) (items : List Item) → AreItems belongs lane done items
      → lane_input_from belongs lane (done ++ lines) ending ≡ with_items items (lane_input_from belongs lane lines ending)
  input-behind [] lines ending [] are = refl
  input-behind [] lines ending (i ∷ items) are = absurd (cc)
  input-behind (l ∷ done) lines ending [] are = absurd (cc)
  input-behind (l ∷ done) lines ending (i ∷ items) are =
      let head : item_in belongs lane l ≡ Some i = cc in
      let tail : AreItems belongs lane done items = cc in
      rw head (ap (λ (input : LaneInput). with_items (i ∷ []) input) (input-behind done lines ending items tail))

  -- a line more before the others
  stops_by : (line : Line) (lines : List Line) (ending : Ending) (rest : LaneInput) (found : Option Item) → item_in belongs lane line ≡ found
      → StopsFirst belongs lane lines ending rest → StopsFirst belongs lane (line ∷ lines) ending (goes_by found line rest)
  stops_by line lines ending rest None is s = record { taken = []; others = line ∷ lines; split = refl; are = refl; ends = (is, refl) }
  stops_by line lines ending rest (Some item) is s = record {
    taken = line ∷ s.taken;
    others = s.others;
    split = ap (λ (l : List Line). line ∷ l) s.split;
    are = rw is (ap (λ (l : List (Option Item)). Some item ∷ l) s.are);
    ends = s.ends;
  }

  pub stops_first : (lines : List Line) (ending : Ending) → StopsFirst belongs lane lines ending (lane_input_from belongs lane lines ending)
  stops_first [] ending = record { taken = []; others = []; split = refl; are = refl; ends = refl }
  stops_first (line ∷ lines) ending =
      stops_by line lines ending (lane_input_from belongs lane lines ending) (item_in belongs lane line) refl (stops_first lines ending)
