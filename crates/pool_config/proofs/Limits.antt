-- The first pool, and the first advertisement, past a limit; the first name that stood before.
use Rattle.std.proofs.Common.{◌≡◌, ℕ, zero, suc, ◌-◌, ◌<◌, ◌≤◌, ◌==◌, Bool, true, false, List, [], ◌∷◌, ◌++◌, ◌⊎◌, inl}
use Rattle.std.proofs.Common.{inr, cond, length, All, Option, Some, None, refl, sym, ◌∙◌, ap, subst, arith, append_assoc}
use Rattle.std.proofs.lemmas.Bool.{cases_lt, ltb-true, ltb-false, ne_eqb}
use Rattle.std.proofs.lemmas.List.Elements.{All-nil, All-cons, All-head, All-tail}
use Rattle.std.specs.Prelude.{nat_lt}
use Rattle.std.specs.List.Sorted.{IsStrictlySortedBy}
use Rattle.kube_model.specs.declared.bgp.BgpAdv.{BgpAdv}
use Rattle.pool_config.specs.Faults.{FaultyItem, IsBefore, key_of, HasText, HaveMore}
use Rattle.kube_labels.specs.Names.{name_cmp}
use Rattle.kube_labels.proofs.NameLaws.{name_cmp-total, name_cmp-exact}
use Rattle.mlb_base.specs.Items.{ItemAt, Has, IsIn}
use Rattle.pool_config.specs.KeySets.{keys_with}
use Rattle.pool_config.specs.Search.{name_at, first_past}
use Rattle.pool_config.proofs.Firsts.{Finds}
use Rattle.pool_config.proofs.ItemLaws.{item_at_length, item_bound, length_push, append_nil}
use Rattle.pool_config.proofs.KeySets.{in_keys, keys_in, ascending-keys_with}
use Rattle.pool_config.proofs.TextSets.{ascending_differ, no_more}

-- the item at a place
at_some : {T : Type 0} (n : ℕ) (xs : List (List ℕ × T)) (name : List ℕ) → name_at n xs ≡ Some name → (e : List ℕ × T) × ItemAt xs n e × (name ≡ e.0)
at_some n [] name e = absurd (let h : None ≡ Some name = e in cc)
at_some zero (x ∷ xs) name e = (x, refl, (let h : Some x.0 ≡ Some name = e in cc))
at_some (suc n) (x ∷ xs) name e =
    let other : (suc n == 0) ≡ false = ne_eqb (suc n) 0 (λ h. omega arith) in
    let less : suc n - 1 ≡ n = omega arith in
    at_some n xs name (rw (other, less) at e)

at_none : {T : Type 0} (n : ℕ) (xs : List (List ℕ × T)) → name_at n xs ≡ None → (e : List ℕ × T) → ¬ ItemAt xs n e
at_none n [] e x h = h
at_none zero (x ∷ xs) e y h = (let h : Some x.0 ≡ None = e in cc)
at_none (suc n) (x ∷ xs) e y h =
    let other : (suc n == 0) ≡ false = ne_eqb (suc n) 0 (λ h. omega arith) in
    let less : suc n - 1 ≡ n = omega arith in
    at_none n xs (rw (other, less) at e) y h

pub finds_at : {T : Type 0} (n : ℕ) (xs : List (List ℕ × T))
    → Finds (λ first second name. FaultyItem key_of (λ _. first ≡ n) xs first second name) (name_at n xs)
finds_at {T} n xs = go (name_at n xs) refl
  where
    go : (r : Option (List ℕ)) → name_at n xs ≡ r → Finds (λ first second name. FaultyItem key_of (λ _. first ≡ n) xs first second name) r
    go None e = λ first second name h.
        let Stands : ℕ → Type 0 = λ k. ItemAt xs k h.item in
        at_none n xs e h.item (subst Stands h.faulty h.stands)
    go (Some name) e =
        let (x, stands, named) = at_some n xs name e in
        record {
          first = n;
          second = n;
          here = record { item = x; stands = stands; faulty = refl; named = named; alone = refl };
          least = λ first second other h before. least first second other h before;
        }
      where
        least : (first second : ℕ) (other : List ℕ) → FaultyItem key_of (λ _. first ≡ n) xs first second other → IsBefore first second n n → ⊥
        least first second other h (inl below) = let is = h.faulty in omega arith
        least first second other h (inr tied) = let alone = h.alone in omega arith

-- the texts of the advertisements of a list
abbrev InTexts : List (List ℕ × BgpAdv) → List ℕ → Type 0
InTexts bgps t = Has (λ e. IsIn e.1.communities t) bgps

has_to : (bgps : List (List ℕ × BgpAdv)) (t : List ℕ) (i : ℕ) (adv : List ℕ × BgpAdv) → ItemAt bgps i adv → IsIn adv.1.communities t → InTexts bgps t
has_to [] t i adv stands h = absurd stands
has_to (x ∷ xs) t zero adv stands h = inl (rw stands h)
has_to (x ∷ xs) t (suc i) adv stands h = inr (has_to xs t i adv stands h)

-- `done` stands before the rest; what the first so many of both have
within_done : (done rest : List (List ℕ × BgpAdv)) (t : List ℕ) → HasText (done ++ rest) (length done) t → InTexts done t
within_done done rest t (i, adv, below, stands, h) = has_to done t i adv (left done i below stands) h
  where
    left : (done : List (List ℕ × BgpAdv)) (i : ℕ) → i < length done → ItemAt (done ++ rest) i adv → ItemAt done i adv
    left [] i below stands = absurd (let none : i < 0 = below in omega arith)
    left (x ∷ xs) zero below stands = stands
    left (x ∷ xs) (suc i) below stands = left xs i (omega arith) stands

done_within : (done rest : List (List ℕ × BgpAdv)) (t : List ℕ) → InTexts done t → HasText (done ++ rest) (length done) t
done_within [] rest t h = absurd h
done_within (x ∷ xs) rest t (inl here) = (0, x, omega arith, refl, here)
done_within (x ∷ xs) rest t (inr later) = let (i, adv, below, stands, h) = done_within xs rest t later in (suc i, adv, omega arith, stands, h)

-- the keys held are the texts of those that are done
record Holds (done : List (List ℕ × BgpAdv)) (held : List (List ℕ)) : Type 0 where
  ascending : IsStrictlySortedBy name_cmp held
  to : (t : List ℕ) → IsIn held t → InTexts done t
  from : (t : List ℕ) → InTexts done t → IsIn held t

in_push : (done : List (List ℕ × BgpAdv)) (e : List ℕ × BgpAdv) (t : List ℕ) → InTexts (done ++ e ∷ []) t → InTexts done t ⊎ IsIn e.1.communities t
in_push [] e t (inl here) = inr here
in_push [] e t (inr none) = absurd none
in_push (x ∷ xs) e t (inl here) = inl (inl here)
in_push (x ∷ xs) e t (inr later) = elim (in_push xs e t later) [ inl old ↦ inl (inr old) | inr new ↦ inr new ]

push_in : (done : List (List ℕ × BgpAdv)) (e : List ℕ × BgpAdv) (t : List ℕ) → InTexts done t ⊎ IsIn e.1.communities t → InTexts (done ++ e ∷ []) t
push_in [] e t (inl none) = absurd none
push_in [] e t (inr new) = inl new
push_in (x ∷ xs) e t (inl (inl here)) = inl here
push_in (x ∷ xs) e t (inl (inr later)) = inr (push_in xs e t (inl later))
push_in (x ∷ xs) e t (inr new) = inr (push_in xs e t (inr new))

holds_more : (done : List (List ℕ × BgpAdv)) (e : List ℕ × BgpAdv) (held : List (List ℕ)) → Holds done held
    → Holds (done ++ e ∷ []) (keys_with name_cmp held e.1.communities)
holds_more done e held h = record {
  ascending = ascending-keys_with name_cmp-total name_cmp-exact held e.1.communities h.ascending;
  to = λ t inside.
      push_in done e t (elim (in_keys name_cmp-total name_cmp-exact held e.1.communities t inside) [ inl old ↦ inl (h.to t old) | inr new ↦ inr new ]);
  from = λ t inside.
      keys_in name_cmp-total name_cmp-exact held e.1.communities t (elim (in_push done e t inside) [ inl old ↦ inl (h.from t old) | inr new ↦ inr new ]);
}

all_in : (P : List ℕ → Type 0) (ts : List (List ℕ)) → ((t : List ℕ) → IsIn ts t → P t) → All P ts
all_in P [] each = All-nil P
all_in P (t ∷ ts) each = All-cons P t ts (each t (inl refl)) (all_in P ts (λ u h. each u (inr h)))

in_all : (P : List ℕ → Type 0) (ts : List (List ℕ)) → All P ts → (t : List ℕ) → IsIn ts t → P t
in_all P [] all t h = absurd h
in_all P (x ∷ xs) all t (inl here) = let Q : List ℕ → Type 0 = P in subst Q here (All-head P x xs all)
in_all P (x ∷ xs) all t (inr later) = in_all P xs (All-tail P x xs all) t later

-- those that are done have more than so many texts exactly where more keys are held
more_held : (limit : ℕ) (done rest : List (List ℕ × BgpAdv)) (held : List (List ℕ)) → Holds done held → limit < length held
    → HaveMore limit (done ++ rest) (length done)
more_held limit done rest held h above =
    (held, ascending_differ held h.ascending, all_in (HasText (done ++ rest) (length done)) held (λ t inside. done_within done rest t (h.to t inside)), above)

held_more : (limit : ℕ) (done rest : List (List ℕ × BgpAdv)) (held : List (List ℕ)) → Holds done held → HaveMore limit (done ++ rest) (length done)
    → limit < length held
held_more limit done rest held h (texts, differ, all, above) =
    let within : length texts ≤ length held =
    no_more texts held differ (λ t inside. h.from t (within_done done rest t (in_all (HasText (done ++ rest) (length done)) texts all t inside))) in
    omega arith

abbrev PastAt : ℕ → List (List ℕ × BgpAdv) → ℕ → ℕ → List ℕ → Type 0
PastAt limit bgps first second name = FaultyItem key_of (λ _. HaveMore limit bgps (suc first)) bgps first second name

past_from : (limit : ℕ) (bgps done rest : List (List ℕ × BgpAdv)) (held : List (List ℕ)) → bgps ≡ done ++ rest → Holds done held
    → ((i : ℕ) → i < length done → ¬ HaveMore limit bgps (suc i)) → Finds (PastAt limit bgps) (first_past limit held rest)
past_from limit bgps done [] held split h before = λ first second name f.
    let whole : bgps ≡ done = split ∙ append_nil done in
    before first (let bound : first < length bgps = item_bound bgps first f.item f.stands in
    omega (arith, ap (λ (l : List (List ℕ × BgpAdv)). length l) whole)) f.faulty
past_from limit bgps done (e ∷ rest) held split h before =
    go (nat_lt limit (length (keys_with name_cmp held e.1.communities))) refl
    (past_from limit bgps (done ++ e ∷ []) rest (keys_with name_cmp held e.1.communities) again (holds_more done e held h))
  where
    again : bgps ≡ (done ++ e ∷ []) ++ rest
    again = split ∙ sym (append_assoc done (e ∷ []) rest)

    len : length (done ++ e ∷ []) ≡ suc (length done)
    len = length_push done e

    more : HaveMore limit bgps (suc (length done)) → limit < length (keys_with name_cmp held e.1.communities)
    more m =
        let Q : List (List ℕ × BgpAdv) → Type 0 = λ l. HaveMore limit l (suc (length done)) in
        let R : ℕ → Type 0 = λ n. HaveMore limit ((done ++ e ∷ []) ++ rest) n in
        held_more limit (done ++ e ∷ []) rest (keys_with name_cmp held e.1.communities) (holds_more done e held h) (subst R (sym len) (subst Q again m))

    least : (first second : ℕ) (name : List ℕ) → PastAt limit bgps first second name → IsBefore first second (length done) (length done) → ⊥
    least first second name f (inl below) = before first below f.faulty
    least first second name f (inr tied) = let alone = f.alone in omega arith

    go : (b : Bool) → nat_lt limit (length (keys_with name_cmp held e.1.communities)) ≡ b
        → (((i : ℕ) → i < length (done ++ e ∷ []) → ¬ HaveMore limit bgps (suc i))
        → Finds (PastAt limit bgps) (first_past limit (keys_with name_cmp held e.1.communities) rest))
        → Finds (PastAt limit bgps) (cond b (Some e.0) (first_past limit (keys_with name_cmp held e.1.communities) rest))
    go true passed later =
        let Q : List (List ℕ × BgpAdv) → Type 0 = λ l. HaveMore limit l (suc (length done)) in
        let R : ℕ → Type 0 = λ n. HaveMore limit ((done ++ e ∷ []) ++ rest) n in
        let S : List (List ℕ × BgpAdv) → Type 0 = λ l. ItemAt l (length done) e in
        record {
          first = length done;
          second = length done;
          here = record {
            item = e;
            stands = subst S (sym split) (item_at_length done rest e);
            faulty = subst Q (sym again) (subst R len
                (more_held limit (done ++ e ∷ []) rest (keys_with name_cmp held e.1.communities) (holds_more done e held h) (ltb-true limit _ passed)));
            named = refl;
            alone = refl;
          };
          least = least;
        }
    go false passed later = later (λ i below m. elim (cases_lt i (length done)) [
      | inl earlier ↦ before i earlier m
      | inr here ↦
          let at : i ≡ length done = omega (arith, len) in
          let P : ℕ → Type 0 = λ n. HaveMore limit bgps (suc n) in
          let above : limit < length (keys_with name_cmp held e.1.communities) = more (subst P at m) in
          let not_above : length (keys_with name_cmp held e.1.communities) ≤ limit = ltb-false limit _ passed in
          omega arith
    ])

no_texts : Holds [] []
unfolding IsStrictlySortedBy
no_texts = record { ascending = tt; to = λ t h. h; from = λ t h. h }

pub finds_past : (limit : ℕ) (bgps : List (List ℕ × BgpAdv)) → Finds (PastAt limit bgps) (first_past limit [] bgps)
finds_past limit bgps = past_from limit bgps [] bgps [] refl no_texts (λ i below. absurd (omega arith))
