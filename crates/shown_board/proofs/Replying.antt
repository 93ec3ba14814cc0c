-- Replies, one after the other, and what they are once the list is known.
use Rattle.std.proofs.Common.{◌≡◌, ℕ, ◌+◌, ◌<◌, ◌≤◌, zero, suc, Option, Some, IfSome, List}
use Rattle.std.proofs.Common.{[], ◌∷◌, ◌++◌, length, fold, take, get_or, add-one, refl, ap, sym, subst, ◌∙◌, arith, append_assoc, length-append}
use mathlib.Core.List.{IsPrefix}
use Rattle.std.proofs.Math.Seq.{take-suc}
use Rattle.shown_board.specs.declared.follower.Reply.{Reply}
use Rattle.shown_board.specs.Replies.{AreReplies, AreAnswered}

pub prefix_through : {A : Type 0} (xs ys zs : List A) → IsPrefix xs ys → IsPrefix ys zs → IsPrefix xs zs
prefix_through xs ys zs p q = (p.0 ++ q.0, sym (append_assoc xs p.0 q.0) ∙ (ap (λ w. w ++ q.0) p.1 ∙ q.1))

pub prefix_taken : {A : Type 0} (xs ys : List A) → IsPrefix xs ys → take (length xs) ys ≡ xs
prefix_taken [] ys p = refl
prefix_taken (x ∷ xs) [] p = absurd (cc (p.1))
prefix_taken (x ∷ xs) (y ∷ ys) p =
    let rest = prefix_taken xs ys (p.0, cc (p.1)) in
    let head : x ≡ y = cc (p.1) in
    cc (head, rest)

pub prefix_long : {A : Type 0} (xs ys : List A) → IsPrefix xs ys → length xs ≤ length ys
prefix_long xs ys p = omega (arith, sym (ap length p.1) ∙ length-append xs p.0)

module _ {T E Q A : Type 0} (after : T → E → T) (start : T) (answers : Q → T → A → Type 0) where
  -- one question more
  pub replies_more : (seen : List E) (questions : List Q) (replies : List (Reply A)) (mid now : List E) (question : Q) (reply : Reply A)
      → AreReplies after start answers seen questions replies mid → IsPrefix mid now → reply.seen ≡ length now
      → answers question (fold after start now) reply.answer
      → AreReplies after start answers seen (questions ++ question ∷ []) (replies ++ reply ∷ []) now
  replies_more seen [] [] mid now question reply done begins count answer =
      (now, subst (λ s. IsPrefix s now) done begins, count, answer, refl)
  replies_more seen [] (r ∷ rs) mid now question reply done begins count answer = absurd done
  replies_more seen (q ∷ qs) [] mid now question reply done begins count answer = absurd done
  replies_more seen (q ∷ qs) (r ∷ rs) mid now question reply done begins count answer =
      (done.0, done.1, done.2, done.3, replies_more done.0 qs rs mid now question reply done.4 begins count answer)

  replies_begin : (seen : List E) (questions : List Q) (replies : List (Reply A)) (seen' : List E)
      → AreReplies after start answers seen questions replies seen' → IsPrefix seen seen'
  replies_begin seen [] [] seen' done = ([], append_none seen seen' done)
    where
      append_none : (xs ys : List E) → ys ≡ xs → xs ++ [] ≡ ys
      append_none xs ys e = nil_behind xs ∙ sym e
        where
          nil_behind : (zs : List E) → zs ++ [] ≡ zs
          nil_behind [] = refl
          nil_behind (z ∷ zs) = ap (λ w. z ∷ w) (nil_behind zs)
  replies_begin seen [] (r ∷ rs) seen' done = absurd done
  replies_begin seen (q ∷ qs) [] seen' done = absurd done
  replies_begin seen (q ∷ qs) (r ∷ rs) seen' done = prefix_through seen done.0 seen' done.1 (replies_begin done.0 qs rs seen' done.4)

  -- where the events that were seen last begin a list, each reply is by the first ones of that list
  pub replies_of_list : (events : List E) (seen : List E) (questions : List Q) (replies : List (Reply A)) (seen' : List E)
      → AreReplies after start answers seen questions replies seen' → IsPrefix seen' events
      → AreAnswered after start answers events (length seen) questions replies
  replies_of_list events seen [] [] seen' done begins = tt
  replies_of_list events seen [] (r ∷ rs) seen' done begins = absurd done
  replies_of_list events seen (q ∷ qs) [] seen' done begins = absurd done
  replies_of_list events seen (q ∷ qs) (r ∷ rs) seen' done begins =
      let now = done.0 in
      let whole : IsPrefix now events = prefix_through now seen' events (replies_begin now qs rs seen' done.4) begins in
      let taken : take r.seen events ≡ now = ap (λ n. take n events) done.2 ∙ prefix_taken now events whole in
      let rest = replies_of_list events now qs rs seen' done.4 begins in (
        omega (arith, done.2, prefix_long seen now done.1),
        omega (arith, done.2, prefix_long now events whole),
        subst (λ l. answers q (fold after start l) r.answer) (sym taken) done.3,
        subst (λ n. AreAnswered after start answers events n qs rs) (sym done.2) rest,
      )

-- one item more is taken
pub taken_more : {A : Type 0} (items : List A) (i : ℕ) (x : A) → i < length items → x ≡ get_or items i x → take (i + 1) items ≡ take i items ++ x ∷ []
taken_more items i x within is = ap (λ n. take n items) (add-one i) ∙ take-suc items i x within ∙ ap (λ y. take i items ++ y ∷ []) (sym is)

-- all are
pub taken_all : {A : Type 0} (items : List A) (i : ℕ) → length items ≤ i → take i items ≡ items
taken_all [] zero le = refl
taken_all [] (suc i) le = refl
taken_all (x ∷ items) zero le = absurd (omega (arith, le))
taken_all (x ∷ items) (suc i) le = ap (λ w. x ∷ w) (taken_all items i (omega (arith, le)))

-- what is so of an answer that is there
pub some_gives : {A : Type 0} (answer : Option A) (x : A) (P : A → Type 0) → answer ≡ Some x → IfSome answer P → P x
some_gives {A} answer x P is so = subst (λ (o : Option A). IfSome o P) is so
