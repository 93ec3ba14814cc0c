-- What a reply to a put says.
use Rattle.std.proofs.Common.{◌≡◌, ℕ, ◌<◌, Bool, true, false, cond, ltb, ltb-true, List, Option, Some, None, option_and_then, refl, sym, subst, codes, bytes_eq}
use Rattle.serde_json.specs.Data.{Data}
use Rattle.serde_json.specs.Find.{get, as_str}
use Rattle.json_values.specs.Line.{value_of_line}
use Rattle.kube_model.specs.declared.put.Put.{Put}
use Rattle.kube_model.specs.declared.reply.PutReply.TheVariants as replies
use Rattle.kube_lines.specs.ReplyLines.{newer, version_in, reply_named, reply_in, reply_of}

newer_by : (b : Bool) (put : Put) (n version : ℕ) → b ≡ ltb put.version n → cond b (Some (replies.Ok n)) None ≡ Some (replies.Ok version)
    → put.version < version
newer_by true put n version s e =
    let same : n ≡ version = cc in
    subst (λ k. put.version < k) same (ltb-true put.version n (sym s))
newer_by false put n version s e = absurd (cc)

newer_from : (o : Option ℕ) (put : Put) (version : ℕ) → option_and_then (newer put) o ≡ Some (replies.Ok version) → put.version < version
newer_from None put version e = absurd (cc)
newer_from (Some n) put version e = newer_by (ltb put.version n) put n version refl e

named_newer : (is_ok is_stale is_missing is_unknown : Bool) (put : Put) (d : Data) (version : ℕ)
    → cond is_ok (option_and_then (newer put) (version_in d))
    (cond is_stale (Some replies.Stale) (cond is_missing (Some replies.Missing) (cond is_unknown (Some replies.Unknown) None))) ≡ Some (replies.Ok version)
    → put.version < version
named_newer true is_stale is_missing is_unknown put d version e = newer_from (version_in d) put version e
named_newer false true is_missing is_unknown put d version e = absurd (cc)
named_newer false false true is_unknown put d version e = absurd (cc)
named_newer false false false true put d version e = absurd (cc)
named_newer false false false false put d version e = absurd (cc)

text_newer : (o : Option (List ℕ)) (put : Put) (d : Data) (version : ℕ) → option_and_then (reply_named put d) o ≡ Some (replies.Ok version)
    → put.version < version
text_newer None put d version e = absurd (cc)
text_newer (Some name) put d version e =
    named_newer (bytes_eq name (codes "ok")) (bytes_eq name (codes "stale")) (bytes_eq name (codes "missing")) (bytes_eq name (codes "unknown")) put d version e

value_newer : (o : Option Data) (put : Put) (version : ℕ) → option_and_then (reply_in put) o ≡ Some (replies.Ok version) → put.version < version
value_newer None put version e = absurd (cc)
value_newer (Some d) put version e = text_newer (option_and_then as_str (get (codes "reply") d)) put d version e

-- a record that was stored has a newer version than the put's
pub reply_newer : (put : Put) (line : List ℕ) (version : ℕ) → reply_of put line ≡ Some (replies.Ok version) → put.version < version
unfolding reply_of
reply_newer put line version e = value_newer (value_of_line line) put version e
