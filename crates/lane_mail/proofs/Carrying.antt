-- Each step keeps the rule.
use Rattle.std.proofs.Common.{◌≡◌, ◌≢◌, ℕ, zero, suc, ◌+◌, ◌<◌, ◌≤◌, true, false, true≢false, if◌then◌else◌, List, [], ◌∷◌}
use Rattle.std.proofs.Common.{◌++◌, length, set, sym, refl, ap, ◌∙◌, subst, ⊎_elim, append_assoc, length-append, arith}
use Rattle.std.proofs.lemmas.List.Elements.{filter-append}
use mathlib.Core.Option.{some, some-ne-none}
use lib.ListN.{get_elem?}
use Rattle.crossbeam_queue.specs.Fifo.{Pushes, Pops, Forks, Merges, Learns}
use Rattle.crossbeam_queue.proofs.Lists.{at_set, at_snoc}
use Rattle.lane_mail.specs.declared.lane.Lane.{Lane}
use Rattle.lane_mail.specs.declared.lane.Lane.TheVariants.{First, Second}
use Rattle.lane_mail.specs.declared.hand.Hand.{Hand}
use Rattle.lane_mail.specs.Lanes.{is_lane, other, of_lane}
use Rattle.lane_mail.specs.Hands.{may_send, opening, spent, sender, without, taker, sent_also, got_also, gathered}
use Rattle.lane_mail.specs.Carried.{Fits, Carries, Takes, IsWhole}
use Rattle.lane_mail.proofs.LaneLists.{lane_cases, other_cases, is_lane-same, is_lane-true, bool_cases, last_in, last_out, both_lengths}

-- a spent pass sends for no lane
spent_sends : (T : Type 0) (l : Lane) → may_send l (spent {T = T}) ≢ true
spent_sends T First e = true≢false (sym e)
spent_sends T Second e = true≢false (sym e)

module _ {T : Type 0} where
  -- for which lanes a pass may send, after each step
  pub may_send-sender : (l lane : Lane) (sent : List T) → may_send l (sender lane sent) ≡ is_lane l lane
  may_send-sender First lane sent = refl
  may_send-sender Second lane sent = refl

  may_send-sent_also : (l : Lane) (v : Hand T) (x : T) → may_send l (sent_also v x) ≡ may_send l v
  may_send-sent_also First v x = refl
  may_send-sent_also Second v x = refl

  may_send-got_also : (l : Lane) (v : Hand T) (x : T) → may_send l (got_also v x) ≡ may_send l v
  may_send-got_also First v x = refl
  may_send-got_also Second v x = refl

  pub may_send-gathered : (l : Lane) (v w : Hand T) → may_send l (gathered v w) ≡ may_send l w
  may_send-gathered First v w = refl
  may_send-gathered Second v w = refl

  -- it sends for another lane, as before
  without_sends : (l lane : Lane) (v : Hand T) → may_send l (without lane v) ≡ true → (is_lane l lane ≡ false) × (may_send l v ≡ true)
  without_sends First First v e = absurd (true≢false (sym e))
  without_sends First Second v e = (refl, e)
  without_sends Second First v e = (refl, e)
  without_sends Second Second v e = absurd (true≢false (sym e))

  -- F holds of each pass
  abbrev AllAt : (ℕ → Hand T → Type 0) → List (Hand T) → Type 0
  AllAt F views = (pass : ℕ) (v : Hand T) → get_elem? views pass ≡ some v → F pass v

  -- it holds of each where one changes
  all_set : (F : ℕ → Hand T → Type 0) (views : List (Hand T)) (pass : ℕ) (w : Hand T) → F pass w
      → ((j : ℕ) (u : Hand T) → j ≢ pass → get_elem? views j ≡ some u → F j u) → AllAt F (set views pass w)
  all_set F views pass w mine others j u e = ⊎_elim (λ (x : (j ≡ pass) × (w ≡ u)). subst (λ (y : ℕ × Hand T). F y.0 y.1) (λ i. (sym x.0 i, x.1 i)) mine)
      (λ (x : (j ≢ pass) × (get_elem? views j ≡ some u)). others j u x.0 x.1) (at_set views pass j w u e)

  -- what is found only after all others is the last
  at_end : (l : List (Hand T)) (a b : Hand T) (j : ℕ) → get_elem? l j ≢ some b → get_elem? (l ++ a ∷ []) j ≡ some b → j ≡ length l
  at_end [] a b zero n e = refl
  at_end [] a b (suc j) n e = absurd (some-ne-none b (sym e))
  at_end (x ∷ xs) a b zero n e = absurd (n e)
  at_end (x ∷ xs) a b (suc j) n e = ap suc (at_end xs a b j n e)

module _ {T : Type 0} (lane_of : T → Lane) (most : ℕ) where
  -- a queue that is made
  pub begins : Carries lane_of most [] (opening ∷ [])
  begins = record {
    seat = λ _. 0;
    inbox = 0;
    got = [];
    few = λ _. omega arith;
    fits = all_set (Fits lane_of (λ _. 0) 0 [] []) (opening ∷ []) 0 opening (record { sends = λ _ _. (refl, refl); takes = λ _. (refl, refl) })
        (λ j u other e. absurd (other (at_end [] opening u j (λ x. some-ne-none u (sym x)) e)));
  }

  -- a lane's own pass may put an item of the lane
  pub puts : (n pass : ℕ) (v : Hand T) (x : T) (lane : Lane) → v ≡ sender lane v.sent → lane_of x ≡ lane → length v.sent < most
      → Pushes (Carries lane_of most) n pass v x (λ w. w ≡ sent_also v x)
  puts n pass v x lane is of room items views _ h at =
      let mine = h.fits pass v at in
      let may : may_send lane v ≡ true = ap (may_send lane) is ∙ may_send-sender lane lane v.sent ∙ is_lane-same lane in
      let only : (l : Lane) → may_send l v ≡ true → l ≡ lane =
      λ l p. is_lane-true l lane (sym (may_send-sender l lane v.sent) ∙ (sym (ap (may_send l) is) ∙ p)) in
      let new : (l : Lane) → l ≡ lane → of_lane lane_of l (h.got ++ (items ++ x ∷ [])) ≡ of_lane lane_of l (h.got ++ items) ++ x ∷ [] =
      λ l e. last_in lane_of l h.got items x (ap (is_lane l) (of ∙ sym e) ∙ is_lane-same l) in
      let same : (l : Lane) → is_lane l lane ≡ false → of_lane lane_of l (h.got ++ (items ++ x ∷ [])) ≡ of_lane lane_of l (h.got ++ items) =
      λ l e. last_out lane_of l h.got items x (ap (is_lane l) of ∙ e) in
      let sent : (l : Lane) → l ≡ lane → v.sent ≡ of_lane lane_of l (h.got ++ items) = λ l e. (mine.sends l (ap (λ k. may_send k v) e ∙ may)).1 in (
        sent_also v x,
        record {
          seat = h.seat;
          inbox = h.inbox;
          got = h.got;
          few = λ l. ⊎_elim (λ (e : l ≡ lane). rw (new l e, ← sent l e) (omega (arith, length-append v.sent (x ∷ []))))
              (λ (e : is_lane l lane ≡ false). rw (same l e) (h.few l)) (lane_cases l lane);
          fits = all_set (Fits lane_of h.seat h.inbox h.got (h.got ++ (items ++ x ∷ []))) views pass (sent_also v x)
              (record {
                sends = λ l p. let e = only l (sym (may_send-sent_also l v x) ∙ p) in
                    ((mine.sends l (sym (may_send-sent_also l v x) ∙ p)).0, ap (λ s. s ++ x ∷ []) (sent l e) ∙ sym (new l e));
                takes = mine.takes;
              })
              (λ j u other e. let theirs = h.fits j u e in record {
                sends = λ l p. ⊎_elim (λ (e : l ≡ lane). absurd (other ((theirs.sends l p).0 ∙ sym (mine.sends l (ap (λ k. may_send k v) e ∙ may)).0)))
                    (λ (e : is_lane l lane ≡ false). ((theirs.sends l p).0, (theirs.sends l p).1 ∙ sym (same l e))) (lane_cases l lane);
                takes = theirs.takes;
              });
        },
        refl,
      )

  -- what was taken is no more than what was sent
  few_taken : (lane : Lane) (got items : List T) → length (of_lane lane_of lane (got ++ items)) ≤ most → length (of_lane lane_of lane got) ≤ most
  few_taken lane got items few = omega (
    arith,
    few,
    ap length (filter-append (λ x. is_lane lane (lane_of x)) got items),
    length-append (of_lane lane_of lane got) (of_lane lane_of lane items),
  )

  -- the one that takes may take what is at the front
  pub gets : (pass : ℕ) (v : Hand T) → v.takes ≡ true → Pops (Carries lane_of most) pass v (Takes lane_of most v)
  gets pass v may x items views h at =
      let mine = h.fits pass v at in
      let new : v.got ++ x ∷ [] ≡ h.got ++ x ∷ [] = ap (λ g. g ++ x ∷ []) (mine.takes may).1 in
      let all : (h.got ++ x ∷ []) ++ items ≡ h.got ++ x ∷ items = append_assoc h.got (x ∷ []) items in (
        got_also v x,
        record {
          seat = h.seat;
          inbox = h.inbox;
          got = h.got ++ x ∷ [];
          few = λ l. rw all (h.few l);
          fits = rw all (all_set (Fits lane_of h.seat h.inbox (h.got ++ x ∷ []) (h.got ++ x ∷ items)) views pass (got_also v x)
              (record {
                sends = λ l p. mine.sends l (sym (may_send-got_also l v x) ∙ p);
                takes = λ _. ((mine.takes may).0, new);
              })
              (λ j u other e. let theirs = h.fits j u e in record {
                sends = theirs.sends;
                takes = λ p. absurd (other ((theirs.takes p).0 ∙ sym (mine.takes may).0));
              }));
        },
        record {
          got = refl;
          few = λ l. rw new (few_taken l (h.got ++ x ∷ []) items (rw all (h.few l)));
          left = items;
          own = λ l p. rw (new, all) (sym (mine.sends l (sym (may_send-got_also l v x) ∙ p)).1);
        },
      )

  -- a lane gets a pass of its own
  pub forks : (lane : Lane) (pass : ℕ) (v : Hand T) → may_send lane v ≡ true → Forks (Carries lane_of most) pass v (without lane v) (sender lane v.sent)
  forks lane pass v may items views h at =
      let mine = h.fits pass v at in
      let left : Hand T = without lane v in
      let right : Hand T = sender lane v.sent in
      let vs : List (Hand T) = set views pass left in
      let seat : Lane → ℕ = λ l. if is_lane l lane then length vs else h.seat l in
      let Old : ℕ → Hand T → Type 0 = λ j u. ((l : Lane) → may_send l u ≡ true
      → (is_lane l lane ≡ false) × (j ≡ h.seat l) × (u.sent ≡ of_lane lane_of l (h.got ++ items))) × (u.takes ≡ true → (j ≡ h.inbox) × (u.got ≡ h.got)) in
      let old : AllAt Old vs = all_set Old views pass left
      ((λ l p. let w = without_sends l lane v p in let s = mine.sends l w.1 in (w.0, s.0, s.1)), mine.takes)
      (λ j u other e. let theirs = h.fits j u e in (
        (λ l p. let s = theirs.sends l p in (
          ⊎_elim (λ (e : l ≡ lane). absurd (other (s.0 ∙ sym (mine.sends l (ap (λ k. may_send k v) e ∙ may)).0)))
              (λ (e : is_lane l lane ≡ false). e) (lane_cases l lane),
          s.0,
          s.1,
        )),
        theirs.takes,
      )) in
      record {
        seat = seat;
        inbox = h.inbox;
        got = h.got;
        few = h.few;
        fits = λ j u e. ⊎_elim
            (λ (x : get_elem? vs j ≡ some u). let o = old j u x in record { sends = λ l p. let q = o.0 l p in (q.1 ∙ rw q.0 refl, q.2); takes = o.1 })
            (λ (is : right ≡ u). let may_right : may_send lane right ≡ true = may_send-sender lane lane v.sent ∙ is_lane-same lane in
            let at_right : j ≡ length vs =
            at_end vs right u j (λ x. true≢false (sym (is_lane-same lane) ∙ ((old j u x).0 lane (ap (may_send lane) (sym is) ∙ may_right)).0)) e in
            record {
              sends = λ l p. let is_l : is_lane l lane ≡ true = sym (may_send-sender l lane v.sent) ∙ (ap (may_send l) is ∙ p) in
                  (at_right ∙ rw is_l refl, ap (λ (y : Hand T). y.sent) (sym is) ∙ (mine.sends l (ap (λ k. may_send k v) (is_lane-true l lane is_l) ∙ may)).1);
              takes = λ p. absurd (true≢false (sym (ap (λ (y : Hand T). y.takes) is ∙ p)));
            })
            (at_snoc vs right u j e);
      }

  -- a pass that may do nothing is made of one
  pub forks_beside : (pass : ℕ) (v : Hand T) → Forks (Carries lane_of most) pass v v spent
  forks_beside pass v items views h at =
      let Now : ℕ → Hand T → Type 0 = Fits lane_of h.seat h.inbox h.got (h.got ++ items) in
      let vs : List (Hand T) = set views pass v in
      let now : AllAt Now vs = all_set Now views pass v (h.fits pass v at) (λ j u other e. h.fits j u e) in
      record {
        seat = h.seat;
        inbox = h.inbox;
        got = h.got;
        few = h.few;
        fits = λ j u e. ⊎_elim (λ (x : get_elem? vs j ≡ some u). now j u x)
            (λ (is : spent ≡ u). record {
              sends = λ l p. absurd (spent_sends T l (ap (may_send l) is ∙ p));
              takes = λ p. absurd (true≢false (sym (ap (λ (y : Hand T). y.takes) is ∙ p)));
            })
            (at_snoc vs spent u j e);
      }

  -- a pass takes in another
  pub merges : (pass : ℕ) (v : Hand T) (other : ℕ) (u : Hand T) → Merges (Carries lane_of most) pass v other u (gathered v u) spent
  merges pass v other u items views h at two at' =
      let mine = h.fits pass v at in
      let both : Hand T = gathered v u in
      let vs : List (Hand T) = set views pass both in
      let was : get_elem? views other ≡ some u = ⊎_elim (λ x. absurd (two x.0)) (λ x. x.1) (at_set views pass other both u at') in
      let theirs = h.fits other u was in
      let seat : Lane → ℕ = λ l. if may_send l u then pass else h.seat l in
      let Now : ℕ → Hand T → Type 0 = λ j y. j ≢ other → Fits lane_of seat h.inbox h.got (h.got ++ items) j y in
      let now : AllAt Now vs = all_set Now views pass both
      (λ _. record { sends = λ l p. let q : may_send l u ≡ true = sym (may_send-gathered l v u) ∙ p in (rw q refl, (theirs.sends l q).1); takes = mine.takes })
      (λ j y _ e apart. let f = h.fits j y e in record {
        sends = λ l p. ⊎_elim (λ (q : may_send l u ≡ true). absurd (apart ((f.sends l p).0 ∙ sym (theirs.sends l q).0)))
            (λ (q : may_send l u ≡ false). ((f.sends l p).0 ∙ rw q refl, (f.sends l p).1)) (bool_cases (may_send l u));
        takes = f.takes;
      }) in
      record {
        seat = seat;
        inbox = h.inbox;
        got = h.got;
        few = h.few;
        fits = all_set (Fits lane_of seat h.inbox h.got (h.got ++ items)) vs other spent
            (record { sends = λ l p. absurd (spent_sends T l p); takes = λ p. absurd (true≢false (sym p)) })
            (λ j y apart e. now j y e apart);
      }

  -- the one that takes, once it has a lane's pass, knows where the lane's elements are
  pub learns : (pass : ℕ) (v : Hand T) → v.takes ≡ true → Learns (Carries lane_of most) pass v (IsWhole lane_of v)
  learns pass v may items views h at lane p = let mine = h.fits pass v at in rw (mine.takes may).1 (sym (mine.sends lane p).1)

-- where one lane has none and the other one at most, there is room for one more
room_at : {T : Type 0} (lane_of : T → Lane) (lane : Lane) (got items : List T) → length (of_lane lane_of lane (got ++ items)) ≡ 0
    → ((l : Lane) → length (of_lane lane_of l (got ++ items)) ≤ 1) → length items < 2
room_at lane_of First got items none few = let n = both_lengths lane_of (got ++ items) in let f = few Second in omega (arith, length-append got items)
room_at lane_of Second got items none few = let n = both_lengths lane_of (got ++ items) in let f = few First in omega (arith, length-append got items)

-- where each lane has one mark at most, the queue is not full before a lane's own
pub has_room : {T : Type 0} (lane_of : T → Lane) (pass : ℕ) (v : Hand T) (lane : Lane) → v ≡ sender lane []
    → Learns (Carries lane_of 1) pass v (λ items. length items < 2)
has_room lane_of pass v lane is items views h at =
    let all = h.got ++ items in
    let none : length (of_lane lane_of lane all) ≡ 0 = ap length
    (sym ((h.fits pass v at).sends lane (ap (may_send lane) is ∙ may_send-sender lane lane [] ∙ is_lane-same lane)).1 ∙ ap (λ (y : Hand _). y.sent) is) in
    let few = h.few in
    room_at lane_of lane h.got items none few

-- nor had a lane more before it was taken
pub few_before : {T : Type 0} (lane_of : T → Lane) (most : ℕ) (v w : Hand T) (x : T) → Takes lane_of most v x w → (lane : Lane)
    → length (of_lane lane_of lane v.got) ≤ most
few_before lane_of most v w x taken lane =
    few_taken lane_of most lane v.got (x ∷ []) (omega (arith, taken.few lane, ap (λ (y : Hand _). length (of_lane lane_of lane y.got)) taken.got))

-- before it was taken there was room for it
pub room_before : {T : Type 0} (lane_of : T → Lane) (lane : Lane) (most : ℕ) (v w : Hand T) (x : T) → Takes lane_of most v x w → lane_of x ≡ lane
    → length (of_lane lane_of lane v.got) + 1 ≤ most
room_before lane_of lane most v w x taken e =
    let now : of_lane lane_of lane w.got ≡ of_lane lane_of lane v.got ++ x ∷ [] =
    ap (λ (y : Hand _). of_lane lane_of lane y.got) taken.got ∙ last_in lane_of lane [] v.got x (ap (is_lane lane) e ∙ is_lane-same lane) in
    omega (arith, taken.few lane, ap length now, length-append (of_lane lane_of lane v.got) (x ∷ []))

-- the one that takes in a lane's own queue may send there for the other
taker_sends : (T : Type 0) (lane : Lane) (got : List T) → may_send (other lane) (taker lane got) ≡ true
taker_sends T First got = refl
taker_sends T Second got = refl

-- what it takes there is of the lane
pub took_of : {T : Type 0} (lane_of : T → Lane) (lane : Lane) (most : ℕ) (v w : Hand T) (x : T) → v ≡ taker lane v.got → Takes lane_of most v x w
    → lane_of x ≡ lane
took_of {T} lane_of lane most v w x is taken = ⊎_elim (λ (e : lane_of x ≡ lane). e) (λ (e : lane_of x ≡ other lane). absurd (none e))
    (other_cases lane (lane_of x))
  where
    sends : may_send (other lane) w ≡ true
    sends = ap (may_send (other lane)) taken.got
        ∙ (may_send-got_also (other lane) v x ∙ (ap (may_send (other lane)) is ∙ taker_sends T lane v.got))

    none : lane_of x ≡ other lane → ⊥
    none e =
        let now : of_lane lane_of (other lane) w.got ≡ of_lane lane_of (other lane) v.got ++ x ∷ [] =
        ap (λ (y : Hand T). of_lane lane_of (other lane) y.got) taken.got
        ∙ last_in lane_of (other lane) [] v.got x (ap (is_lane (other lane)) e ∙ is_lane-same (other lane)) in
        let sent : w.sent ≡ [] = ap (λ (y : Hand T). y.sent) taken.got ∙ ap (λ (y : Hand T). y.sent) is in
        omega (
          arith,
          ap length (taken.own (other lane) sends),
          ap length sent,
          ap length (filter-append (λ y. is_lane (other lane) (lane_of y)) w.got taken.left),
          length-append (of_lane lane_of (other lane) w.got) (of_lane lane_of (other lane) taken.left),
          ap length now,
          length-append (of_lane lane_of (other lane) v.got) (x ∷ []),
        )
