-- What a responder answers beside a writer.
use Rattle.std.specs.Prelude.{◌≡◌, ℕ, ◌≤◌, ⊤, List, [], ◌∷◌, fold, length, take}
use mathlib.Core.List.{IsPrefix}
use Rattle.shown_board.specs.declared.follower.Reply.{Reply}

module _ {T E Q A : Type 0} (after : T → E → T) (start : T) (answers : Q → T → A → Type 0) where
  -- Each question has an answer, by the value after the events that were seen then. These begin with those that were seen before.
  abbrev pub AreReplies : List E → List Q → List (Reply A) → List E → Type 0
  AreReplies seen [] [] seen' = seen' ≡ seen
  AreReplies seen [] (reply ∷ replies) seen' = ⊥
  AreReplies seen (question ∷ questions) [] seen' = ⊥
  AreReplies seen (question ∷ questions) (reply ∷ replies) seen' =
      (now : List E) × IsPrefix seen now × (reply.seen ≡ length now) × answers question (fold after start now) reply.answer
      × AreReplies now questions replies seen'

  -- Each question has an answer, by the value after some first ones of these events, never fewer than before.
  abbrev pub AreAnswered : List E → ℕ → List Q → List (Reply A) → Type 0
  AreAnswered events low [] [] = ⊤
  AreAnswered events low [] (reply ∷ replies) = ⊥
  AreAnswered events low (question ∷ questions) [] = ⊥
  AreAnswered events low (question ∷ questions) (reply ∷ replies) =
      (low ≤ reply.seen) × (reply.seen ≤ length events) × answers question (fold after start (take reply.seen events)) reply.answer
      × AreAnswered events reply.seen questions replies
