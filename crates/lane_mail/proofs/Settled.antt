-- What the inbox knows of a lane once it has taken in the lane's ended pass.
use Rattle.std.proofs.Common.{◌≡◌, ℕ, true, List, [], ◌∷◌, ◌++◌, length, Option, Some, sym, ap, ◌∙◌}
use Rattle.lane_mail.specs.declared.lane.Lane.{Lane}
use Rattle.lane_mail.specs.declared.item.Item.{Item}
use Rattle.lane_mail.specs.declared.mark.Mark.{Mark}
use Rattle.lane_mail.specs.declared.hand.Hand.{Hand}
use Rattle.lane_mail.specs.Lanes.{is_lane, of_lane, item_lane, mark_lane, items_of}
use Rattle.lane_mail.specs.Hands.{may_send, sender, gathered}
use Rattle.lane_mail.specs.Carried.{IsWhole}
use Rattle.lane_mail.specs.Inside.{mark, marks_of}
use Rattle.lane_mail.proofs.LaneLists.{is_lane-same}
use Rattle.lane_mail.proofs.Carrying.{may_send-sender, may_send-gathered}
use Rattle.lane_mail.proofs.Marks.{settles}

-- with the lane's pass taken in, what was sent is what was taken and what is left
gathered_all : {T : Type 0} (lane_of : T → Lane) (lane : Lane) (v u w : Hand T) (items : List T) → w ≡ gathered v u → may_send lane u ≡ true
    → IsWhole lane_of w items → of_lane lane_of lane (v.got ++ items) ≡ u.sent
gathered_all lane_of lane v u w items is may told =
    let may_w : may_send lane w ≡ true = ap (may_send lane) is ∙ (may_send-gathered lane v u ∙ may) in
    ap (λ x. of_lane lane_of lane (x.got ++ items)) (sym is) ∙ (told lane may_w ∙ ap (λ x. x.sent) is)

-- the lane's own pass sends for it
may_of : {T : Type 0} (lane l : Lane) (v : Hand T) (sent : List T) → l ≡ lane → v ≡ sender l sent → may_send lane v ≡ true
may_of lane l v sent e is = ap (may_send lane) is ∙ (may_send-sender lane l sent ∙ (ap (is_lane lane) e ∙ is_lane-same lane))

-- what was taken of the lane is what it sent
pub settled : (lane l : Lane) → l ≡ lane → (v u w : Hand Item) (v' u' w' : Hand Mark) (items : List Item) (marks : List Mark) (end : Option ℕ)
    → u ≡ sender l u.sent → u' ≡ sender l (mark l (length u.sent) ∷ [])
    → w ≡ gathered v u → w' ≡ gathered v' u'
    → IsWhole item_lane w items
    → IsWhole mark_lane w' marks
    → of_lane mark_lane lane v'.got ≡ marks_of lane end → end ≡ Some (length (items_of lane v.got)) → items_of lane v.got ≡ u.sent
settled lane l e v u w v' u' w' items marks end sends ended is is' told told' marked has =
    let all : items_of lane (v.got ++ items) ≡ u.sent = gathered_all item_lane lane v u w items is (may_of lane l u u.sent e sends) told in
    let ends : of_lane mark_lane lane (v'.got ++ marks) ≡ u'.sent =
    gathered_all mark_lane lane v' u' w' marks is' (may_of lane l u' (mark l (length u.sent) ∷ []) e ended) told' in
    let one : u'.sent ≡ mark lane (length u.sent) ∷ [] = ap (λ x. x.sent) ended ∙ ap (λ k. mark k (length u.sent) ∷ []) e in
    settles lane v.got items u.sent v'.got marks end all (ends ∙ one) marked has
