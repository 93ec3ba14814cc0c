-- What a controller reads of two lanes and of the replies, and writes: whatever world that is seen in, it is safe.
use Rattle.std.specs.Prelude.{◌≡◌, ℕ, List, [], ◌∷◌, ◌++◌, Option, Some, None}
use Rattle.std.specs.List.{flat_map}
use Rattle.kube_lines.specs.ReplyLines.{reply_of}
use Rattle.kube_model.specs.declared.event.Event.{Event}
use Rattle.kube_model.specs.declared.event.Event.TheVariants.{Changed, Deleted, ListEnd, Expired, Members, Frame, Ignored}
use Rattle.kube_model.specs.declared.put.Put.{Put}
use Rattle.kube_model.specs.declared.reply.PutReply.{PutReply}
use Rattle.lane_drive.specs.Stops.{AreBeginnings}
use Rattle.lane_mail.specs.declared.item.Item.{Item}
use Rattle.lane_mail.specs.declared.lane.Lane.{Lane}
use Rattle.line_exchanges.specs.Exchanges.{Exchange, text_written, AreSafe, AreFirstOf}
use Rattle.line_run.specs.Text.{GrowsUpTo}
use Rattle.world_rules.specs.Outside.{Seen, RanOut, Wrote, Answered, seen_event}
use Rattle.controller_run.specs.Lanes.{belongs_to, lane_group}

-- what is read: an event of a lane, or a line of the input
pub data Arrival : Type 0 where
  Came : (item : Item) → Arrival
  Replied : (line : List ℕ) → Arrival

-- what is seen of an event that came by a lane: a watch that has expired is that lane's alone
abbrev pub seen_came : Lane → Event → List Seen
seen_came lane Expired = RanOut (lane_group lane) ∷ []
seen_came lane (Changed version object) = seen_event (Changed version object)
seen_came lane (Deleted kind key) = seen_event (Deleted kind key)
seen_came lane (ListEnd group) = seen_event (ListEnd group)
seen_came lane (Members names) = seen_event (Members names)
seen_came lane (Frame interface bytes) = seen_event (Frame interface bytes)
seen_came lane Ignored = seen_event Ignored

-- Where a put has no reply yet a line of the input is read, which is the reply to it; and else an event of a lane.
abbrev pub IsLaneRead : Option Put → Arrival → List Seen → Type 0
IsLaneRead None (Came item) seen = seen ≡ seen_came item.lane item.event
IsLaneRead None (Replied line) seen = ⊥
IsLaneRead (Some put) (Came item) seen = ⊥
IsLaneRead (Some put) (Replied line) seen = (reply : PutReply) × (reply_of put line ≡ Some reply) × (seen ≡ Answered reply ∷ Wrote put ∷ [])

-- the event, and the line of the input, that it is
abbrev pub item_in : Arrival → List Item
item_in (Came item) = item ∷ []
item_in (Replied line) = []

abbrev pub line_in : Arrival → List (List ℕ)
line_in (Came item) = []
line_in (Replied line) = line ∷ []

-- Whatever came in by two lanes, with the input's lines as the replies: what was written is a beginning of what was written of the first events of
-- both lanes, in some order, and of the first lines of the input, and these exchanges are safe.
pub record LanesWriteSafely (first second replies before after : Option (List ℕ)) : Type 0 where
  pub exchanges : List (Exchange Arrival)
  pub items : AreBeginnings belongs_to first second (flat_map (λ e. item_in e.read) exchanges)
  pub lines : AreFirstOf replies (flat_map (λ e. line_in e.read) exchanges)
  pub wrote : GrowsUpTo before after (text_written exchanges)
  pub safe : AreSafe IsLaneRead None [] exchanges
