-- The end marks that were taken, and what they tell of the items.
use Rattle.std.proofs.Common.{◌≡◌, ℕ, false, List, [], ◌∷◌, ◌++◌, length, Option, Some, None, sym, refl, ap, ◌∙◌, arith}
use Rattle.std.proofs.lemmas.List.{append-nil, nil_from_length, length-append}
use Rattle.std.proofs.lemmas.List.Elements.{filter-append}
use Rattle.crossbeam_queue.specs.Passes.{view}
use Rattle.lane_mail.specs.declared.lane.Lane.{Lane}
use Rattle.lane_mail.specs.declared.lane.Lane.TheVariants.{First, Second}
use Rattle.lane_mail.specs.declared.item.Item.{Item}
use Rattle.lane_mail.specs.declared.mark.Mark.{Mark}
use Rattle.lane_mail.specs.Lanes.{is_lane, of_lane, item_lane, mark_lane, items_of}
use Rattle.lane_mail.specs.declared.hand.Hand.{Hand}
use Rattle.lane_mail.specs.Carried.{Takes}
use Rattle.lane_mail.specs.Values.{EndStays, LaneReceiver}
use Rattle.lane_mail.specs.Inside.{MarkPass, IsInbox, mark, marks_of}
use Rattle.lane_mail.proofs.LaneLists.{is_lane-same, last_in, last_out}
use Rattle.lane_mail.proofs.Carrying.{room_before}

-- no mark of the lane came before
pub none_before : (lane : Lane) (v w : Hand Mark) (x : Mark) (end : Option ℕ) → Takes mark_lane 1 v x w → x.lane ≡ lane
    → of_lane mark_lane lane v.got ≡ marks_of lane end → end ≡ None
none_before lane v w x None taken e is = refl
none_before lane v w x (Some n) taken e is = let room = room_before mark_lane lane 1 v w x taken e in absurd (omega (arith, room, ap length is))

-- the mark that came is all of its lane
pub marked : (lane : Lane) (v w : Hand Mark) (x : Mark) (end : Option ℕ) → Takes mark_lane 1 v x w → x.lane ≡ lane
    → of_lane mark_lane lane v.got ≡ marks_of lane end
    → of_lane mark_lane lane w.got ≡ marks_of lane (Some x.count)
marked lane v w x end taken e is =
    ap (λ y. of_lane mark_lane lane y.got) taken.got
    ∙ (last_in mark_lane lane [] v.got x (ap (is_lane lane) e ∙ is_lane-same lane)
    ∙ (ap (λ l. l ++ x ∷ []) (is ∙ ap (marks_of lane) (none_before lane v w x end taken e is)) ∙ ap (λ (l : Lane). mark l x.count ∷ []) e))

-- the other lane's are as before
pub marked_still : (lane : Lane) (v w : Hand Mark) (x : Mark) (end : Option ℕ) → Takes mark_lane 1 v x w → is_lane lane x.lane ≡ false
    → of_lane mark_lane lane v.got ≡ marks_of lane end
    → of_lane mark_lane lane w.got ≡ marks_of lane end
marked_still lane v w x end taken out is = ap (λ y. of_lane mark_lane lane y.got) taken.got ∙ (last_out mark_lane lane [] v.got x out ∙ is)

-- what the inbox knows of the marks is all that changes when one comes
pub got_mark : (first second : LaneReceiver) (marks marks' : MarkPass) (x : Mark) (end end' now now' : Option ℕ)
    → IsInbox first second marks end end' → Takes mark_lane 1 (view marks) x (view marks')
    → marks'.me.1 ≡ marks.me.1 → of_lane mark_lane First (view marks').got ≡ marks_of First now
    → of_lane mark_lane Second (view marks').got ≡ marks_of Second now' → IsInbox first second marks' now now'
got_mark first second marks marks' x end end' now now' old taken slots firsts seconds = record {
  first_lane = old.first_lane;
  second_lane = old.second_lane;
  few_first = old.few_first;
  few_second = old.few_second;
  slots = slots ∙ old.slots;
  takes_marks = ap (λ (h : Hand Mark). h.takes) taken.got ∙ old.takes_marks;
  first_marked = firsts;
  second_marked = seconds;
}

-- a count that wasn't known may be any
pub stays_none : (old : Option ℕ) (n : ℕ) → old ≡ None → EndStays old (Some n)
stays_none old n none count e = absurd (cc)

-- the mark that was taken is the one that was put
counts_tell : (lane : Lane) (got marks : List Mark) (n m : ℕ) → of_lane mark_lane lane (got ++ marks) ≡ mark lane m ∷ []
    → of_lane mark_lane lane got ≡ mark lane n ∷ [] → n ≡ m
counts_tell lane got marks n m all taken =
    let rest = of_lane mark_lane lane marks in
    let both : mark lane n ∷ rest ≡ mark lane m ∷ [] = ap (λ l. l ++ rest) (sym taken) ∙ (sym (filter-append (λ x. is_lane lane x.lane) got marks) ∙ all) in
    let same : mark lane n ≡ mark lane m = cc in ap (λ (x : Mark). x.count) same

-- where as many were taken as were sent, all were
none_left : {T : Type 0} (lane_of : T → Lane) (lane : Lane) (got items sent : List T) → of_lane lane_of lane (got ++ items) ≡ sent
    → length (of_lane lane_of lane got) ≡ length sent → of_lane lane_of lane got ≡ sent
none_left lane_of lane got items sent all long =
    let parts : of_lane lane_of lane got ++ of_lane lane_of lane items ≡ sent = sym (filter-append (λ x. is_lane lane (lane_of x)) got items) ∙ all in
    let none : of_lane lane_of lane items ≡ [] = nil_from_length (of_lane lane_of lane items)
    (omega (arith, long, ap length parts, length-append (of_lane lane_of lane got) (of_lane lane_of lane items))) in
    sym (append-nil (of_lane lane_of lane got)) ∙ (ap (λ l. of_lane lane_of lane got ++ l) (sym none) ∙ parts)

-- what was taken of the lane is what it sent
pub settles : (lane : Lane) (got items sent : List Item) (got_marks marks : List Mark) (end : Option ℕ)
    → items_of lane (got ++ items) ≡ sent
    → of_lane mark_lane lane (got_marks ++ marks) ≡ mark lane (length sent) ∷ []
    → of_lane mark_lane lane got_marks ≡ marks_of lane end
    → end ≡ Some (length (items_of lane got))
    → items_of lane got ≡ sent
settles lane got items sent got_marks marks end all ended marked is =
    none_left item_lane lane got items sent all
    (counts_tell lane got_marks marks (length (items_of lane got)) (length sent) ended (marked ∙ ap (marks_of lane) is))
