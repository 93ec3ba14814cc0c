-- What a controller reads and writes: something is read, and lines are written before anything else is. Whatever world that is seen in, it is safe.
use Rattle.std.specs.Prelude.{◌≡◌, ◌≢◌, ℕ, true, List, [], ◌∷◌, ◌++◌, map, Option, Some, None, Ok, ⊤}
use Rattle.std.specs.List.{AllByRecursion, flat_map}
use Rattle.kube_events.specs.Event.{event_of_line}
use Rattle.kube_lines.specs.Apart.{is_plain}
use Rattle.kube_lines.specs.OutputLines.{put_text}
use Rattle.kube_lines.specs.ReplyLines.{reply_of}
use Rattle.kube_model.specs.declared.event.Event.{Event}
use Rattle.kube_model.specs.declared.put.Put.{Put}
use Rattle.kube_model.specs.declared.reply.PutReply.{PutReply}
use Rattle.line_run.specs.Text.{line_of, GrowsUpTo}
use Rattle.mlb_edge.specs.InputLines.{input_of}
use Rattle.world_rules.specs.Outside.{Seen, Wrote, Answered, seen_event, IsSafeWhereSeen}

-- what is read, and the lines that are written before anything else is
pub record Exchange (X : Type 0) : Type 0 where
  pub read : X
  pub written : List (List ℕ)

-- all that is written
abbrev pub text_written : {X : Type 0} → List (Exchange X) → List ℕ
text_written exchanges = flat_map (λ e. flat_map line_of e.written) exchanges

-- one line, and that of no put
abbrev pub IsOther : List ℕ → Type 0
IsOther line = (is_plain line ≡ true) × ((put : Put) → line ≢ put_text put)

-- of the lines that are written at once the last may be that of a put, and no other
abbrev pub EndWith : List (List ℕ) → Option Put → Type 0
EndWith lines None = AllByRecursion IsOther lines
EndWith lines (Some put) = (front : List (List ℕ)) × (lines ≡ front ++ put_text put ∷ []) × AllByRecursion IsOther front

-- What a line is: where a put has no reply yet, the reply to it, and else an event. A put is seen with its reply; the newest stands first.
abbrev pub IsRead : Option Put → List ℕ → List Seen → Type 0
IsRead None line seen = (event : Event) × (event_of_line line ≡ Ok event) × (seen ≡ seen_event event)
IsRead (Some put) line seen = (reply : PutReply) × (reply_of put line ≡ Some reply) × (seen ≡ Answered reply ∷ Wrote put ∷ [])

-- After what was seen, with this put that has no reply yet, if there is one: it is safe wherever it is seen; what is read next is such, what is
-- written then may end with a put; and so on.
abbrev pub AreSafe : {X : Type 0} → (Option Put → X → List Seen → Type 0) → Option Put → List Seen → List (Exchange X) → Type 0
AreSafe IsReadAs out seen [] = IsSafeWhereSeen out seen
AreSafe IsReadAs out seen (e ∷ more) =
    IsSafeWhereSeen out seen × (read : List Seen) × (found : Option Put) × IsReadAs out e.read read × EndWith e.written found
    × AreSafe IsReadAs found (read ++ seen) more

-- the lines are the first ones of the input, where the source tells its bytes
abbrev pub AreFirstOf : Option (List ℕ) → List (List ℕ) → Type 0
AreFirstOf None lines = ⊤
AreFirstOf (Some bytes) lines = (rest : List (List ℕ)) × (map (λ line. line.bytes) (input_of bytes).lines ≡ lines ++ rest)

-- Whatever came in by one stream: what was written is a beginning of what was written of its first lines, and these exchanges are safe.
pub record WritesSafely (left before after : Option (List ℕ)) : Type 0 where
  pub exchanges : List (Exchange (List ℕ))
  pub read : AreFirstOf left (map (λ e. e.read) exchanges)
  pub wrote : GrowsUpTo before after (text_written exchanges)
  pub safe : AreSafe IsRead None [] exchanges
