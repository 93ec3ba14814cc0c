-- The replies to puts: objects whose member `reply` is a text.
use Rattle.std.specs.Prelude.{◌≡◌, ℕ, List, Option, Some, None, Result, Ok, Err, option_and_then, nat_lt, codes, if◌then◌else◌, ⊤}
use Rattle.std.specs.Str.{bytes_eq}
use Rattle.serde_json.specs.Data.{Data}
use Rattle.serde_json.specs.Find.{get, as_str, as_number, as_u64}
use Rattle.json_values.specs.Line.{value_of_line}
use Rattle.kube_model.specs.declared.put.Put.{Put}
use Rattle.kube_model.specs.declared.reply.PutReply.{PutReply}
use Rattle.kube_model.specs.declared.reply.PutReply.TheVariants as replies
use Rattle.kube_lines.specs.declared.reply.ReplyFault.{ReplyFault}
use Rattle.kube_lines.specs.declared.reply.ReplyFault.TheVariants.{BadReply, NoMemory}

-- A record that was replaced has a version greater than the put's.
abbrev pub newer : Put → ℕ → Option PutReply
newer put version = if nat_lt put.version version then Some (replies.Ok version) else None

-- the whole number of the member `version`
abbrev pub version_in : Data → Option ℕ
version_in d = option_and_then as_u64 (option_and_then as_number (get (codes "version") d))

abbrev pub reply_named : Put → Data → List ℕ → Option PutReply
reply_named put d name = if bytes_eq name (codes "ok") then option_and_then (newer put) (version_in d) else
    if bytes_eq name (codes "stale") then Some replies.Stale else
    if bytes_eq name (codes "missing") then Some replies.Missing else
    if bytes_eq name (codes "unknown") then Some replies.Unknown else None

abbrev pub reply_in : Put → Data → Option PutReply
reply_in put d = option_and_then (reply_named put d) (option_and_then as_str (get (codes "reply") d))

-- the reply that a line is to the put, if it is one
unfoldable pub reply_of : Put → List ℕ → Option PutReply
reply_of put line = option_and_then (reply_in put) (value_of_line line)

-- What a call returned is what the line says, unless memory ran out.
abbrev pub GivesReply : Result PutReply ReplyFault → Option PutReply → Type 0
GivesReply (Ok reply) read = read ≡ Some reply
GivesReply (Err BadReply) read = read ≡ None
GivesReply (Err NoMemory) read = ⊤
