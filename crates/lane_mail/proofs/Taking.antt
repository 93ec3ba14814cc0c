-- What an item that is taken adds to what was taken of its lane.
use Rattle.std.proofs.Common.{◌≡◌, ℕ, ◌+◌, ◌^◌, List, [], ◌∷◌, ◌++◌, length, None, sym, ap, ◌∙◌, append_assoc, length-append, arith}
use Rattle.std.proofs.lemmas.List.{append-nil}
use Rattle.std.proofs.lemmas.List.Elements.{filter-append}
use Rattle.lane_mail.specs.declared.lane.Lane.{Lane}
use Rattle.lane_mail.specs.declared.lane.Lane.TheVariants.{First, Second}
use Rattle.lane_mail.specs.declared.item.Item.{Item}
use Rattle.lane_mail.specs.declared.hand.Hand.{Hand}
use Rattle.lane_mail.specs.Lanes.{is_lane, item_lane, items_of}
use Rattle.lane_mail.specs.Hands.{taker, got_also}
use Rattle.lane_mail.specs.Carried.{Takes}
use Rattle.lane_mail.specs.Values.{Receiver, Took, TookNone}
use Rattle.lane_mail.specs.Inside.{ItemPass, hand_of, IsLaneInbox}
use Rattle.lane_mail.proofs.LaneLists.{is_lane-same, last_in, both_lengths}
use Rattle.lane_mail.proofs.Carrying.{took_of}

-- the items of a lane, of two lists one after the other
pub items_append : (lane : Lane) (items more : List Item) → items_of lane (items ++ more) ≡ items_of lane items ++ items_of lane more
items_append lane items more = filter-append (λ x. is_lane lane (item_lane x)) items more

-- so many more were taken in all
pub took_lengths : (items : List Item) (old new : Receiver) → Took items old new
    → length new.first + length new.second ≡ length old.first + length old.second + length items
took_lengths items old new took = omega (
  arith,
  ap length took.first,
  ap length took.second,
  length-append old.first (items_of First items),
  length-append old.second (items_of Second items),
  both_lengths item_lane items,
)

-- none, and some after others
pub Took-nil : (old new : Receiver) → TookNone old new → Took [] old new
Took-nil old new none = record { first = none.first ∙ sym (append-nil old.first); second = none.second ∙ sym (append-nil old.second) }

pub Took-append : (items more : List Item) (old mid new : Receiver) → Took items old mid → Took more mid new → Took (items ++ more) old new
Took-append items more old mid new took then = record {
  first = then.first
      ∙ (ap (λ l. l ++ items_of First more) took.first
      ∙ (append_assoc old.first (items_of First items) (items_of First more) ∙ ap (λ l. old.first ++ l) (sym (items_append First items more))));
  second = then.second
      ∙ (ap (λ l. l ++ items_of Second more) took.second
      ∙ (append_assoc old.second (items_of Second items) (items_of Second more) ∙ ap (λ l. old.second ++ l) (sym (items_append Second items more))));
}

-- the inbox of a lane once it took an item
pub got_item : (lane : Lane) (count : ℕ) (items items' : ItemPass) (x : Item) → IsLaneInbox lane count items
    → Takes item_lane (2 ^ 61) (hand_of items) x (hand_of items') → items'.me.hand ≡ None → items'.me.spare ≡ None → IsLaneInbox lane (count + 1) items'
got_item lane count items items' x old taken hand spare =
    let got : (hand_of items').got ≡ (hand_of items).got ++ x ∷ [] = ap (λ (h : Hand Item). h.got) taken.got in
    let of : x.lane ≡ lane = took_of item_lane lane (2 ^ 61) (hand_of items) (hand_of items') x old.takes taken in
    record {
      hand = hand;
      spare = spare;
      takes = taken.got ∙ (ap (λ (h : Hand Item). got_also h x) old.takes ∙ ap (taker lane) (sym got));
      only = ap (items_of lane) got
          ∙ (last_in item_lane lane [] (hand_of items).got x (ap (is_lane lane) of ∙ is_lane-same lane)
          ∙ (ap (λ l. l ++ x ∷ []) old.only ∙ sym got));
      counts = omega (arith, old.counts, ap length got, length-append (hand_of items).got (x ∷ []));
    }
