-- Items that are turned one after the other.
use Rattle.std.specs.Bool.{⊤}
use Rattle.std.proofs.Common.{◌≡◌, inl, inr, ℕ, Bool, List, [], ◌∷◌, ◌++◌, Option, refl, sym, ap, ◌∙◌, append_assoc}
use Rattle.kube_model.specs.declared.event.Event.{Event}
use Rattle.lane_mail.specs.declared.lane.Lane.{Lane}
use Rattle.lane_mail.specs.declared.item.Item.{Item}
use Rattle.lane_run.specs.declared.lane_end.LaneEnd.{LaneEnd}
use Rattle.lane_run.specs.declared.lane_end.LaneEnd.TheVariants.{Done, ReadFault, LineLimit, InputLimit, BadLine, NoMemory}
use Rattle.lane_run.specs.Turned.{TurnsItem, AreTurned, LeadsOn, IsLeft, BeginsTurned, EndedTurned}
use Rattle.lane_run.specs.Outside.{SourceState}
use Rattle.lane_run.specs.Watched.{Begins, Ended, IsBeginning}

-- a part of a beginning is one
pub begins_less : (belongs : Lane → Event → Bool) (lane : Lane) (left : Option (List ℕ)) (whole part : List Item) → IsBeginning part whole
    → Begins belongs lane left whole → Begins belongs lane left part
begins_less belongs lane left whole part split b = record {
  input = b.input;
  is = b.is;
  begins = (split.0 ++ b.begins.0, b.begins.1 ∙ (ap (λ (l : List Item). l ++ b.begins.0) split.1 ∙ append_assoc part split.0 b.begins.0));
}

module _ {S : Type 0} (Turns : S → S → Event → Event → Type 0) where
  -- one item more
  pub turned_more : (s mid t : S) (items sent : List Item) (item one : Item) → AreTurned Turns s mid items sent → TurnsItem Turns mid t item one
      → AreTurned Turns s t (items ++ item ∷ []) (sent ++ one ∷ [])
  turned_more s mid t [] [] item one done more = (t, rw (sym done) more, refl)
  turned_more s mid t [] (x ∷ sent) item one done more = absurd done
  turned_more s mid t (i ∷ items) [] item one done more = absurd done
  turned_more s mid t (i ∷ items) (x ∷ sent) item one done more = (done.0, done.1, turned_more done.0 mid t items sent item one done.2 more)

  -- the first of what was sent, and what they were sent for; and then the others
  record Fronts (s t : S) (items part behind : List Item) : Type 0 where
    pub front : List Item
    pub split : IsBeginning front items
    pub state : S
    pub turned : AreTurned Turns s state front part
    pub rest : AreTurned Turns state t split.0 behind

  turned_front : (s t : S) (items part behind : List Item) → AreTurned Turns s t items (part ++ behind) → Fronts s t items part behind
  turned_front s t items [] behind done = record { front = []; split = (items, refl); state = s; turned = refl; rest = done }
  turned_front s t [] (x ∷ part) behind done = absurd done
  turned_front s t (i ∷ items) (x ∷ part) behind done =
      let more = turned_front done.0 t items part behind done.2 in
      record {
        front = i ∷ more.front;
        split = (more.split.0, ap (λ (l : List Item). i ∷ l) more.split.1);
        state = more.state;
        turned = (done.0, done.1, more.turned);
        rest = more.rest;
      }

  -- what was sent leads on to the state that is left
  leads_on : (s mid t : S) (items sent : List Item) (end : LaneEnd) → AreTurned Turns s mid items sent → IsLeft Turns mid t end → LeadsOn Turns s t
  leads_on s mid t items sent Done done left = (items, sent, rw left done)
  leads_on s mid t items sent ReadFault done left = (items, sent, rw left done)
  leads_on s mid t items sent (LineLimit number) done left = (items, sent, rw left done)
  leads_on s mid t items sent InputLimit done left = (items, sent, rw left done)
  leads_on s mid t items sent (BadLine number bytes) done left = (items, sent, rw left done)
  leads_on s mid t items sent NoMemory done (inl left) = (items, sent, rw left done)
  leads_on s mid t items sent NoMemory done (inr (item, one, more)) =
      (items ++ item ∷ [], sent ++ one ∷ [], turned_more s mid t items sent item one done more)

  -- a part of what was sent was sent for a beginning of what the lane carries
  pub begins_turned : (belongs : Lane → Event → Bool) (lane : Lane) (before after : SourceState) (s t : S) (part behind : List Item) (end : LaneEnd)
      → EndedTurned Turns belongs lane before after s t (part ++ behind) end → BeginsTurned Turns belongs lane before.left s t part
  begins_turned belongs lane before after s t part behind end e =
      let front = turned_front s e.state e.items part behind e.turned in
      record {
        items = front.front;
        begins = begins_less belongs lane before.left e.items front.front front.split e.ended.begins;
        state = front.state;
        turned = front.turned;
        leads = leads_on front.state e.state t front.split.0 behind end front.rest e.left;
      }

-- where each event is sent as it is, just the items are sent
pub unturned : (s t : ⊤) (items sent : List Item) → AreTurned (λ (s t : ⊤) (event sent : Event). sent ≡ event) s t items sent → sent ≡ items
unturned s t [] [] done = refl
unturned s t [] (x ∷ sent) done = absurd done
unturned s t (i ∷ items) [] done = absurd done
unturned s t (i ∷ items) (x ∷ sent) done =
    let rest = unturned done.0 t items sent done.2 in
    let same : x ≡ i = same_item x i done.1.0 done.1.1 done.1.2 in
    cc
  where
    same_item : (x i : Item) → x.lane ≡ i.lane → x.number ≡ i.number → x.event ≡ i.event → x ≡ i
    same_item x i l n e = rw (l, n, e) refl

module _ (belongs : Lane → Event → Bool) (lane : Lane) where
  pub ended_unturned : (before after : SourceState) (s t : ⊤) (sent : List Item) (end : LaneEnd)
      → EndedTurned (λ (s t : ⊤) (event sent : Event). sent ≡ event) belongs lane before after s t sent end → Ended belongs lane before after sent end
  ended_unturned before after s t sent end e = rw (unturned s e.state e.items sent e.turned) e.ended

  pub begins_unturned : (left : Option (List ℕ)) (s t : ⊤) (sent : List Item)
      → BeginsTurned (λ (s t : ⊤) (event sent : Event). sent ≡ event) belongs lane left s t sent → Begins belongs lane left sent
  begins_unturned left s t sent b = rw (unturned s b.state b.items sent b.turned) b.begins
