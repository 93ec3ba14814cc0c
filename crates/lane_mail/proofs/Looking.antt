-- What looks into the mail lead to, one after the other.
use Rattle.std.proofs.Common.{◌≡◌, ◌↔◌, ◌⊎◌, inl, inr, ◌+◌, ◌^◌, ◌≤◌, Some, [], ◌∷◌, ◌++◌, length, refl, sym, ap, ◌∙◌, subst, arith}
use Rattle.lane_mail.specs.declared.lane.Lane.{Lane}
use Rattle.lane_mail.specs.declared.lane.Lane.TheVariants.{First, Second}
use Rattle.lane_mail.specs.declared.item.Item.{Item}
use Rattle.lane_mail.specs.declared.taken.Taken.{Taken}
use Rattle.lane_mail.specs.declared.taken.Taken.TheVariants.{Item as OneItem, AllEnded}
use Rattle.lane_mail.specs.Lanes.{items_of, other}
use Rattle.lane_mail.specs.Values.{Receiver, HasAll, Took, TookNone, EndsStay, taken_of, empty_of, emptied, took_more}
use Rattle.lane_mail.specs.Looks.{IsInTurn, TakesNext, Gives, GivesNone}
use Rattle.lane_mail.proofs.Taking.{took_lengths}

-- only end marks came since, and none after the last item
pub record OnlyMarks (old now : Receiver) : Type 0 where
  pub mail : now.mail ≡ old.mail
  pub taken : TookNone old now
  pub ends : EndsStay old now
  pub at_end : HasAll old → now ≡ old
  pub next : now.next ≡ old.next

pub no_marks : (old : Receiver) → OnlyMarks old old
no_marks old = record {
  mail = refl;
  taken = record { first = refl; second = refl };
  ends = record { first = λ count e. e; second = λ count e. e };
  at_end = λ all. refl;
  next = refl;
}

-- a mark more
pub marks_more : (old now same new : Receiver) → OnlyMarks old now → GivesNone now same → new.mail ≡ same.mail → TookNone same new → EndsStay same new
    → new.next ≡ same.next → OnlyMarks old new
marks_more old now same new so none mail taken ends next = record {
  mail = mail ∙ (ap (λ (r : Receiver). r.mail) none.0 ∙ so.mail);
  taken = record {
    first = taken.first ∙ (ap (λ (r : Receiver). r.first) none.0 ∙ so.taken.first);
    second = taken.second ∙ (ap (λ (r : Receiver). r.second) none.0 ∙ so.taken.second);
  };
  ends = record {
    first = λ count e. ends.first count (ap (λ (r : Receiver). r.first_end) none.0 ∙ so.ends.first count e);
    second = λ count e. ends.second count (ap (λ (r : Receiver). r.second_end) none.0 ∙ so.ends.second count e);
  };
  at_end = λ all. absurd (none.1 (subst HasAll (sym (so.at_end all)) all));
  next = next ∙ (ap (λ (r : Receiver). r.next) none.0 ∙ so.next);
}

-- that a lane was found empty is seen after the item that is taken then
was_empty : (lane : Lane) (r : Receiver) (item : Item) → empty_of lane (took_more (emptied lane r) item) ≡ Some (length (taken_of (other lane) r))
was_empty First r item = refl
was_empty Second r item = refl

taken_stays : (lane : Lane) (old now : Receiver) → TookNone old now → taken_of lane now ≡ taken_of lane old
taken_stays First old now none = none.first
taken_stays Second old now none = none.second

-- one item more, in its turn
record TookOne (item : Item) (old new : Receiver) : Type 0 where
  pub mail : new.mail ≡ old.mail
  pub took : Took (item ∷ []) old new
  pub first_end : new.first_end ≡ old.first_end
  pub second_end : new.second_end ≡ old.second_end
  pub turn : IsInTurn item.lane old new
  pub next : new.next ≡ other item.lane

took_one : (item : Item) (old mid new : Receiver) → mid.mail ≡ old.mail → TookNone old mid → mid.first_end ≡ old.first_end
    → mid.second_end ≡ old.second_end → new ≡ took_more mid item → IsInTurn item.lane old new → TookOne item old new
took_one item old mid new mail none first_end second_end is turn = record {
  mail = ap (λ (r : Receiver). r.mail) is ∙ mail;
  took = record {
    first = ap (λ (r : Receiver). r.first) is ∙ ap (λ l. l ++ items_of First (item ∷ [])) none.first;
    second = ap (λ (r : Receiver). r.second) is ∙ ap (λ l. l ++ items_of Second (item ∷ [])) none.second;
  };
  first_end = ap (λ (r : Receiver). r.first_end) is ∙ first_end;
  second_end = ap (λ (r : Receiver). r.second_end) is ∙ second_end;
  turn = turn;
  next = ap (λ (r : Receiver). r.next) is;
}

takes_one : (item : Item) (old new : Receiver) → TakesNext item old new → TookOne item old new
takes_one item old new (inl t) = took_one item old old new refl (record { first = refl; second = refl }) refl refl t.1 (inl t.0)
takes_one item old new (inr t) =
    took_one item old (emptied old.next old) new refl (record { first = refl; second = refl }) refl refl t.1
    (inr (ap (empty_of old.next) t.1 ∙ was_empty old.next old item))

-- an item that is taken is one more
not_none : (now new : Receiver) (item : Item) → Took (item ∷ []) now new → TookNone now new → ⊥
not_none now new item took none = omega (arith, took_lengths (item ∷ []) now new took, ap length none.first, ap length none.second)

module _ (old now new : Receiver) (so : OnlyMarks old now) where
  pub gives_mail : (taken : Taken) → Gives taken now new → new.mail ≡ old.mail
  gives_mail (OneItem x) gave = (takes_one x now new gave.0).mail ∙ so.mail
  gives_mail AllEnded gave = ap (λ (r : Receiver). r.mail) gave.0 ∙ so.mail

  pub gives_item : (taken : Taken) → Gives taken now new → (item : Item) → taken ≡ OneItem item → Took (item ∷ []) old new
  gives_item (OneItem x) gave item e =
      let same : x ≡ item = cc e in
      let one = (takes_one x now new gave.0).took in
      subst (λ y. Took (y ∷ []) old new) same (record {
        first = one.first ∙ ap (λ l. l ++ items_of First (x ∷ [])) so.taken.first;
        second = one.second ∙ ap (λ l. l ++ items_of Second (x ∷ [])) so.taken.second;
      })
  gives_item AllEnded gave item e = absurd (cc e)

  turn_since : (lane : Lane) → IsInTurn lane now new → IsInTurn lane old new
  turn_since lane (inl is) = inl (is ∙ so.next)
  turn_since lane (inr was) =
      inr (subst (λ (l : Lane). empty_of l new ≡ Some (length (taken_of (other l) old))) so.next
      (was ∙ ap (λ xs. Some (length xs)) (taken_stays (other now.next) old now so.taken)))

  pub gives_turn : (taken : Taken) → Gives taken now new → (item : Item) → taken ≡ OneItem item → IsInTurn item.lane old new
  gives_turn (OneItem x) gave item e =
      let same : x ≡ item = cc e in
      subst (λ (y : Item). IsInTurn y.lane old new) same (turn_since x.lane (takes_one x now new gave.0).turn)
  gives_turn AllEnded gave item e = absurd (cc e)

  pub gives_next : (taken : Taken) → Gives taken now new → (item : Item) → taken ≡ OneItem item → new.next ≡ other item.lane
  gives_next (OneItem x) gave item e =
      let same : x ≡ item = cc e in
      subst (λ (y : Item). new.next ≡ other y.lane) same (takes_one x now new gave.0).next
  gives_next AllEnded gave item e = absurd (cc e)

  since : TookNone old new → TookNone now new
  since none = record { first = none.first ∙ sym so.taken.first; second = none.second ∙ sym so.taken.second }

  pub gives_ended : (taken : Taken) → Gives taken now new → (taken ≡ AllEnded) ↔ (TookNone old new × HasAll new)
  gives_ended (OneItem x) gave = ((λ e. absurd (cc e)), (λ is. absurd (not_none now new x (takes_one x now new gave.0).took (since is.0))))
  gives_ended AllEnded gave = (
    (λ e. (
      record { first = ap (λ (r : Receiver). r.first) gave.0 ∙ so.taken.first; second = ap (λ (r : Receiver). r.second) gave.0 ∙ so.taken.second },
      subst HasAll (sym gave.0) gave.1,
    )),
    (λ is. refl),
  )

  pub gives_few : (taken : Taken) → Gives taken now new → (item : Item) → taken ≡ OneItem item → length new.first + length new.second ≤ 2 ^ 62
  gives_few (OneItem x) gave item e = gave.2
  gives_few AllEnded gave item e = absurd (cc e)

  pub gives_ends : (taken : Taken) → Gives taken now new → EndsStay old new
  gives_ends (OneItem x) gave = record {
    first = λ count e. (takes_one x now new gave.0).first_end ∙ so.ends.first count e;
    second = λ count e. (takes_one x now new gave.0).second_end ∙ so.ends.second count e;
  }
  gives_ends AllEnded gave = record {
    first = λ count e. ap (λ (r : Receiver). r.first_end) gave.0 ∙ so.ends.first count e;
    second = λ count e. ap (λ (r : Receiver). r.second_end) gave.0 ∙ so.ends.second count e;
  }

  pub gives_at_end : (taken : Taken) → Gives taken now new → HasAll old → new ≡ old
  gives_at_end (OneItem x) gave all = absurd (gave.1 (subst HasAll (sym (so.at_end all)) all))
  gives_at_end AllEnded gave all = gave.0 ∙ so.at_end all
