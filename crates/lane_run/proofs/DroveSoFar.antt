-- One item more for a reconciler.
use Rattle.std.proofs.Common.{List, [], ◌∷◌, ◌++◌, refl, sym, ap, ◌∙◌, subst, append_assoc, Err}
use Rattle.kube_model.specs.declared.status.Status.{Status}
use Rattle.lane_mail.specs.declared.lane.Lane.TheVariants.{First, Second}
use Rattle.lane_mail.specs.declared.item.Item.{Item}
use Rattle.lane_mail.specs.Lanes.{items_of}
use Rattle.lane_mail.specs.Values.{Receiver, Took, TookNone}
use Rattle.lane_mail.proofs.Taking.{items_append}
use Rattle.lane_run.specs.Outside.{Outside}
use Rattle.lane_run.specs.Reconciled.{AreDriven, Drove}
use Rattle.lane_run.specs.Together.{HasLanes}

-- Just these items were taken, and drove it one after the other. It stands after them as it may.
pub record DroveSoFar {S : Type 0} (Drives : S → S → Item → Outside → Outside → Type 0) (Stands : List Item → Type 0) (inbox : Receiver) (s t : S)
    (before now : Outside) : Type 0 where
  pub items : List Item
  pub lanes : HasLanes items inbox.first inbox.second
  pub drove : AreDriven Drives items s t before now
  pub stands : Stands items

-- more were taken after these, or none
pub lanes_more : (items more : List Item) (old new : Receiver) → HasLanes items old.first old.second → Took more old new
    → HasLanes (items ++ more) new.first new.second
lanes_more items more old new lanes took = record {
  first = items_append First items more ∙ (ap (λ (l : List Item). l ++ items_of First more) lanes.first ∙ sym took.first);
  second = items_append Second items more ∙ (ap (λ (l : List Item). l ++ items_of Second more) lanes.second ∙ sym took.second);
}

pub lanes_stay : (items : List Item) (old new : Receiver) → HasLanes items old.first old.second → TookNone old new → HasLanes items new.first new.second
lanes_stay items old new lanes none = record { first = lanes.first ∙ sym none.first; second = lanes.second ∙ sym none.second }

module _ {S : Type 0} (Drives : S → S → Item → Outside → Outside → Type 0) where
  pub AreDriven-push : (items : List Item) (item : Item) (s t u : S) (before mid after : Outside) → AreDriven Drives items s t before mid
      → Drives t u item mid after → AreDriven Drives (items ++ item ∷ []) s u before after
  AreDriven-push [] item s t u before mid after are drives =
      (u, after, subst (λ (x : S). Drives x u item before after) are.0 (subst (λ (o : Outside). Drives t u item o after) are.1 drives), (refl, refl))
  AreDriven-push (i ∷ items) item s t u before mid after are drives = (are.0, are.1, are.2, AreDriven-push items item are.0 t u are.1 mid after are.3 drives)

  module _ {U : Type 0} (Refuses : Status → S → Item → Outside → Outside → Type 0) where
    -- an item was refused, and what the lanes sent after it was dropped
    pub drove_up_to : (status : Status) (items rest : List Item) (item : Item) (s t u : S) (before mid after : Outside)
        → AreDriven Drives items s t before mid → Refuses status t item mid after
        → Drove {U = U} Drives Refuses ((items ++ item ∷ []) ++ rest) s u before after (Err status)
    drove_up_to status items rest item s t u before mid after drove refuses = record {
      driven = items;
      behind = item ∷ rest;
      split = append_assoc items (item ∷ []) rest;
      state = t;
      mid = mid;
      drove = drove;
      leaves = (item, rest, refl, refuses);
    }
