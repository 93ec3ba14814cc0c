-- What is listed under each term where one term's list was changed.
use Rattle.std.proofs.Common.{◌≡◌, ℕ, ◌+◌, ◌<◌, ◌≤◌, Bool, true, false, cond, eqb, eqb-true, List, length}
use Rattle.std.proofs.Common.{[], ◌∷◌, Option, Some, None, Ordering, is_eq, refl, sym, ap, subst, ◌∙◌, arith}
use Rattle.std.specs.Cmp.{IsTotalOrder, Equal-is}
use Rattle.std.specs.Map.{lookup}
use Rattle.std.specs.BTreeMap.{BTreeMap, is_at, Updates, WritesThrough}
use Rattle.std.specs.Option.{IsSome}
use Rattle.mlb_base.proofs.Bools.{cond-same}
use Rattle.numbered_items.specs.Index.{IndexValue, TermList, numbers_in, room_in, numbers_under, room_under}

-- the term has this list after, or none, and each other term the one it had
abbrev pub Relists : {T : Type 0} → (T → T → Ordering) → T → Option TermList → IndexValue T → IndexValue T → Type 0
Relists {T} cmp term list before after = (t : T) → lookup (is_at (cmp t)) after ≡ cond (is_at (cmp term) t) list (lookup (is_at (cmp t)) before)

same-by : {X : Type 0} (a b : Bool) (v : X) (one other : Option X) → a ≡ b → one ≡ other → cond a (Some v) one ≡ cond b (Some v) other
same-by a b v one other is rest = rw (is, rest) refl

module _ {T : Type 0} {cmp : T → T → Ordering} (o : IsTotalOrder cmp) where
  -- terms that are equal have one list
  pub same-list : (term t : T) (lists : IndexValue T) → is_at (cmp term) t ≡ true → lookup (is_at (cmp t)) lists ≡ lookup (is_at (cmp term)) lists
  same-list term t [] e = refl
  same-list term t (x ∷ lists) e =
      same-by (is_eq (cmp t x.0)) (is_eq (cmp term x.0)) x.1 (lookup (is_at (cmp t)) lists) (lookup (is_at (cmp term)) lists)
      (ap is_eq (sym (o.congr term t x.0 ((Equal-is (cmp term t)).0 e)))) (same-list term t lists e)

  module _ (term : T) (list : Option TermList) (before after : IndexValue T) (relists : Relists cmp term list before after) where
    module _ (f : List ℕ → List ℕ) (changed : numbers_in list ≡ f (numbers_in (lookup (is_at (cmp term)) before))) where
      numbers-by : (t : T) (b : Bool) → is_at (cmp term) t ≡ b
          → numbers_in (cond b list (lookup (is_at (cmp t)) before)) ≡ cond b (f (numbers_under cmp before t)) (numbers_under cmp before t)
      numbers-by t true e = changed ∙ ap (λ found. f (numbers_in found)) (sym (same-list term t before e))
      numbers-by t false e = refl

      numbers-at : (t : T) → numbers_under cmp after t ≡ cond (is_at (cmp term) t) (f (numbers_under cmp before t)) (numbers_under cmp before t)
      numbers-at t = ap numbers_in (relists t) ∙ numbers-by t (is_at (cmp term) t) refl

      pub numbers-relisted : numbers_under cmp after ≡ (λ t. cond (is_at (cmp term) t) (f (numbers_under cmp before t)) (numbers_under cmp before t))
      numbers-relisted = λ i t. numbers-at t i

    pub numbers-kept : numbers_in list ≡ numbers_in (lookup (is_at (cmp term)) before) → numbers_under cmp after ≡ numbers_under cmp before
    numbers-kept same = λ i t. (numbers-at (λ numbers. numbers) same t ∙ cond-same (is_at (cmp term) t) (numbers_under cmp before t)) i

    room-by : (t : T) (b : Bool) (extra : ℕ) → is_at (cmp term) t ≡ b → room_in (lookup (is_at (cmp term)) before) ≤ room_in list + extra
        → room_in (lookup (is_at (cmp t)) before) ≤ room_in (cond b list (lookup (is_at (cmp t)) before)) + cond b extra 0
    room-by t true extra e less = rw (same-list term t before e) less
    room-by t false extra e less = omega arith

    pub room-relisted : (extra : ℕ) → room_in (lookup (is_at (cmp term)) before) ≤ room_in list + extra
        → (t : T) → room_under cmp before t ≤ room_under cmp after t + cond (is_at (cmp term) t) extra 0
    room-relisted extra less t =
        rw (relists t) (room-by t (is_at (cmp term) t) extra refl less)

    pub room-kept : room_in (lookup (is_at (cmp term)) before) ≤ room_in list → (t : T) → room_under cmp before t ≤ room_under cmp after t
    room-kept less t =
        let none : ◌≡◌ {A = ℕ} (cond (is_at (cmp term) t) 0 0) 0 = cond-same (is_at (cmp term) t) 0 in
        let kept : room_under cmp before t ≤ room_under cmp after t + cond (is_at (cmp term) t) 0 0 = room-relisted 0 (omega (arith, less)) t in
        omega (arith, none, kept)

    pub room-elsewhere : (t : T) → is_at (cmp term) t ≡ false → room_under cmp after t ≡ room_under cmp before t
    room-elsewhere t apart = ap room_in (relists t ∙ ap (λ b. cond b list (lookup (is_at (cmp t)) before)) apart)

  -- a term that has no list
  module _ (term : T) (lists : IndexValue T) (none : lookup (is_at (cmp term)) lists ≡ None) where
    relists-by : (t : T) (b : Bool) → is_at (cmp term) t ≡ b → lookup (is_at (cmp t)) lists ≡ cond b None (lookup (is_at (cmp t)) lists)
    relists-by t true e = same-list term t lists e ∙ none
    relists-by t false e = refl

    relists-none : Relists cmp term None lists lists
    relists-none t = relists-by t (is_at (cmp term) t) refl

    pub numbers-unlisted : (f : List ℕ → List ℕ) → f [] ≡ []
        → numbers_under cmp lists ≡ (λ t. cond (is_at (cmp term) t) (f (numbers_under cmp lists t)) (numbers_under cmp lists t))
    numbers-unlisted f stays = numbers-relisted term None lists lists relists-none f (sym stays ∙ ap (λ found. f (numbers_in found)) (sym none))

is-some : {X : Type 0} (x : X) (found : Option X) → Some x ≡ found → IsSome found
is-some x found e = rw (← e) refl

-- the room under a term is that of its list
pub room-listed : {T : Type 0} (cmp : T → T → Ordering) (lists : IndexValue T) (term : T) (v : TermList)
    → Some v ≡ lookup (is_at (cmp term)) lists → 0 < room_under cmp lists term → 0 < v.room
room-listed cmp lists term v found room = subst (λ n. 0 < n) (ap room_in (sym found)) room

pub room-unlisted : {T : Type 0} (cmp : T → T → Ordering) (lists : IndexValue T) (term : T)
    → None ≡ lookup (is_at (cmp term)) lists → 0 < room_under cmp lists term → ⊥
room-unlisted cmp lists term none room =
    let positive : 0 < 0 = subst (λ n. 0 < n) (ap room_in (sym none)) room in
    omega (arith, positive)

-- the term's list was changed in place
module _ {T : Type 0} {cmp : T → T → Ordering} (o : IsTotalOrder cmp) (term : T) (m n : BTreeMap T TermList) (v w : TermList)
    (found : Some v ≡ lookup (is_at (cmp term)) m.entries) (writes : WritesThrough cmp (cmp term) m w n) where
  relists-written : Relists cmp term (Some w) m.entries n.entries
  relists-written = (writes.3 (is-some v (lookup (is_at (cmp term)) m.entries) found)).0

  found-written : lookup (is_at (cmp term)) n.entries ≡ Some w
  found-written = (writes.3 (is-some v (lookup (is_at (cmp term)) m.entries) found)).1

  pub numbers-written : (f : List ℕ → List ℕ) → w.numbers ≡ f v.numbers
      → numbers_under cmp n.entries ≡ (λ t. cond (is_at (cmp term) t) (f (numbers_under cmp m.entries t)) (numbers_under cmp m.entries t))
  numbers-written f changed = numbers-relisted o term (Some w) m.entries n.entries relists-written f (changed ∙ ap (λ list. f (numbers_in list)) found)

  pub numbers-left : w.numbers ≡ v.numbers → numbers_under cmp n.entries ≡ numbers_under cmp m.entries
  numbers-left same = numbers-kept o term (Some w) m.entries n.entries relists-written (same ∙ ap numbers_in found)

  pub numbers-now : numbers_under cmp n.entries term ≡ w.numbers
  numbers-now = ap numbers_in found-written

  pub room-now : room_under cmp n.entries term ≡ w.room
  room-now = ap room_in found-written

  pub room-written : (extra : ℕ) → v.room ≤ w.room + extra
      → (t : T) → room_under cmp m.entries t ≤ room_under cmp n.entries t + cond (is_at (cmp term) t) extra 0
  room-written extra less = room-relisted o term (Some w) m.entries n.entries relists-written extra (rw (← found) less)

  pub room-held : v.room ≤ w.room → (t : T) → room_under cmp m.entries t ≤ room_under cmp n.entries t
  room-held less = room-kept o term (Some w) m.entries n.entries relists-written (rw (← found) less)

  pub room-apart : (t : T) → is_at (cmp term) t ≡ false → room_under cmp n.entries t ≡ room_under cmp m.entries t
  room-apart = room-elsewhere o term (Some w) m.entries n.entries relists-written

-- the term has a list with no numbers, where it had none
module _ {T : Type 0} {cmp : T → T → Ordering} (o : IsTotalOrder cmp) (term : T) (m before n : BTreeMap T TermList) (w : TermList)
    (same : before ≡ m) (none : None ≡ lookup (is_at (cmp term)) m.entries) (updates : Updates cmp before n term (Some w)) where
  relists-made : Relists cmp term (Some w) m.entries n.entries
  relists-made t = updates.0 t ∙ ap (λ (map : BTreeMap T TermList). cond (is_at (cmp term) t) (Some w) (lookup (is_at (cmp t)) map.entries)) same

  pub numbers-made : w.numbers ≡ [] → numbers_under cmp n.entries ≡ numbers_under cmp m.entries
  numbers-made empty = numbers-kept o term (Some w) m.entries n.entries relists-made (empty ∙ ap numbers_in none)

  pub room-made : room_under cmp n.entries term ≡ w.room
  room-made = ap room_in updates.1

  pub room-stays : (t : T) → room_under cmp m.entries t ≤ room_under cmp n.entries t
  room-stays = room-kept o term (Some w) m.entries n.entries relists-made (rw (← none) (omega arith))

-- a list of no length has no numbers
pub no-numbers : (numbers : List ℕ) → true ≡ eqb (length numbers) 0 → numbers ≡ []
no-numbers [] empty = refl
no-numbers (n ∷ numbers) empty = let none : length (n ∷ numbers) ≡ 0 = eqb-true _ _ (sym empty) in absurd (omega (arith, none))
