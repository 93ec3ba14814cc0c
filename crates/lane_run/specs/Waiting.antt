-- When the next item of the lanes may be waited for, and when what they still send may be dropped.
use Rattle.std.specs.Prelude.{ℕ, List, Option}
use Rattle.lane_mail.specs.declared.item.Item.{Item}
use Rattle.lane_run.specs.Together.{HasLanes}

-- It may be waited for, or dropped, where these were taken of each lane, in some order.
pub record MayWaitNow {R K : Type 0} (may_wait : R → List Item → K → Type 0) (rt : R) (firsts seconds : List Item) (out : K) : Type 0 where
  pub items : List Item
  pub lanes : HasLanes items firsts seconds
  pub may : may_wait rt items out

-- it may be waited for, or dropped, wherever this is so of the items that were taken and of what the sink tells as written
abbrev pub MayBeAwaited : {R K : Type 0} → (R → List Item → K → Type 0) → R → (written : K → Option (List ℕ)) → (List Item → Option (List ℕ) → Type 0) → Type 0
MayBeAwaited {R} {K} may_wait rt written Where = (items : List Item) (out : K) → Where items (written out) → may_wait rt items out
