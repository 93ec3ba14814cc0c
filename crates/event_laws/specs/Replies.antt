-- The replies to puts.
use Rattle.std.specs.Prelude.{◌≡◌, ◌↔◌, ◌<◌, ℕ, List, Some, None, codes}
use Rattle.serde_json.specs.Data.{Data}
use Rattle.json_values.specs.Line.{value_of_line}
use Rattle.kube_model.specs.declared.put.Put.{Put}
use Rattle.kube_model.specs.declared.reply.PutReply.TheVariants as replies
use Rattle.kube_events.specs.Event.{text_in}
use Rattle.kube_lines.specs.ReplyLines.{version_in, reply_of}

-- what the line of a value is as a reply
pub record ReplyIsRead (put : Put) (line : List ℕ) (d : Data) : Type 0 where
  pub ok : (n : ℕ) → (reply_of put line ≡ Some (replies.Ok n)) ↔ ((text_in (codes "reply") d ≡ Some (codes "ok")) × (version_in d ≡ Some n) × (put.version < n))
  pub stale : (reply_of put line ≡ Some replies.Stale) ↔ (text_in (codes "reply") d ≡ Some (codes "stale"))
  pub missing : (reply_of put line ≡ Some replies.Missing) ↔ (text_in (codes "reply") d ≡ Some (codes "missing"))
  pub unknown : (reply_of put line ≡ Some replies.Unknown) ↔ (text_in (codes "reply") d ≡ Some (codes "unknown"))

abbrev pub RepliesAreRead : Type 0
RepliesAreRead = (put : Put) (line : List ℕ) (d : Data) → value_of_line line ≡ Some d → ReplyIsRead put line d

-- What is no JSON is no reply.
abbrev pub RepliesAreJson : Type 0
RepliesAreJson = (put : Put) (line : List ℕ) → value_of_line line ≡ None → reply_of put line ≡ None
