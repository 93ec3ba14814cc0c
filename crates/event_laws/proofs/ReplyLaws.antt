-- The replies to puts.
use Rattle.std.proofs.Common.{◌≡◌, ℕ, ◌<◌, Bool, true, false, cond, ltb, ltb-true, List, Option, Some, None}
use Rattle.std.proofs.Common.{option_and_then, refl, sym, ap, ◌∙◌, codes, bytes_eq}
use Rattle.std.proofs.lemmas.Bool.{lt-ltb}
use Rattle.std.proofs.lemmas.Slice.Eq.{bytes_eq-Decides}
use Rattle.serde_json.specs.Data.{Data}
use Rattle.kube_model.specs.declared.put.Put.{Put}
use Rattle.kube_model.specs.declared.reply.PutReply.{PutReply}
use Rattle.kube_model.specs.declared.reply.PutReply.TheVariants as replies
use Rattle.kube_events.specs.Event.{text_in}
use Rattle.kube_lines.specs.ReplyLines.{newer, version_in, reply_named, reply_of}
use Rattle.event_laws.specs.Replies.{RepliesAreRead, RepliesAreJson}

newer_by : (b : Bool) (n m : ℕ) → cond b (Some (replies.Ok n)) None ≡ Some (replies.Ok m) → (b ≡ true) × (n ≡ m)
newer_by true n m e = (refl, cc)
newer_by false n m e = absurd cc

newer_there : (put : Put) (found : Option ℕ) (n : ℕ) → option_and_then (newer put) found ≡ Some (replies.Ok n) → (found ≡ Some n) × (put.version < n)
newer_there put (Some m) n e =
    let by = newer_by (ltb put.version m) m n e in
    (ap (λ (k : ℕ). Some k) by.1, rw (← by.1) (ltb-true put.version m by.0))
newer_there put None n e = absurd cc

abbrev IsOkOrNone : Option PutReply → Type 0
IsOkOrNone found = (reply : PutReply) → found ≡ Some reply → (n : ℕ) × (reply ≡ replies.Ok n)

newer_is_ok : (put : Put) (found : Option ℕ) → IsOkOrNone (option_and_then (newer put) found)
newer_is_ok put (Some m) reply e = by (ltb put.version m) e
  where
    by : (b : Bool) → cond b (Some (replies.Ok m)) None ≡ Some reply → (n : ℕ) × (reply ≡ replies.Ok n)
    by true e = (m, sym cc)
    by false e = absurd cc
newer_is_ok put None reply e = absurd cc

-- which of the words it is, by the reply
record ByWord (ok stale missing unknown : Bool) (read : Option PutReply) (reply : PutReply) : Type 0 where
  if_ok : (n : ℕ) → reply ≡ replies.Ok n → (ok ≡ true) × (read ≡ Some (replies.Ok n))
  if_stale : reply ≡ replies.Stale → stale ≡ true
  if_missing : reply ≡ replies.Missing → missing ≡ true
  if_unknown : reply ≡ replies.Unknown → unknown ≡ true

by_word : (ok stale missing unknown : Bool) (read : Option PutReply) (reply : PutReply) → IsOkOrNone read
    → cond ok read (cond stale (Some replies.Stale) (cond missing (Some replies.Missing) (cond unknown (Some replies.Unknown) None))) ≡ Some reply
    → ByWord ok stale missing unknown read reply
by_word true stale missing unknown read reply is_ok e =
    let there = is_ok reply e in
    record {
      if_ok = λ n is. (refl, e ∙ ap (λ (r : PutReply). Some r) is);
      if_stale = λ is. absurd (cc);
      if_missing = λ is. absurd (cc);
      if_unknown = λ is. absurd (cc);
    }
by_word false true missing unknown read reply is_ok e =
    record { if_ok = λ n is. absurd (cc); if_stale = λ is. refl; if_missing = λ is. absurd (cc); if_unknown = λ is. absurd (cc) }
by_word false false true unknown read reply is_ok e =
    record { if_ok = λ n is. absurd (cc); if_stale = λ is. absurd (cc); if_missing = λ is. refl; if_unknown = λ is. absurd (cc) }
by_word false false false true read reply is_ok e =
    record { if_ok = λ n is. absurd (cc); if_stale = λ is. absurd (cc); if_missing = λ is. absurd (cc); if_unknown = λ is. refl }
by_word false false false false read reply is_ok e = absurd (cc)

word : (name wanted : List ℕ) → bytes_eq name wanted ≡ true → Some name ≡ Some wanted
word name wanted e = ap (λ (t : List ℕ). Some t) ((bytes_eq-Decides name wanted).0 e)

named_by : (put : Put) (d : Data) (name : List ℕ) (reply : PutReply) → reply_named put d name ≡ Some reply
    → ByWord (bytes_eq name (codes "ok")) (bytes_eq name (codes "stale")) (bytes_eq name (codes "missing")) (bytes_eq name (codes "unknown"))
    (option_and_then (newer put) (version_in d)) reply
named_by put d name reply e =
    by_word (bytes_eq name (codes "ok")) (bytes_eq name (codes "stale")) (bytes_eq name (codes "missing")) (bytes_eq name (codes "unknown"))
    (option_and_then (newer put) (version_in d)) reply (newer_is_ok put (version_in d)) e

ok_there : (put : Put) (d : Data) (found : Option (List ℕ)) (n : ℕ) → option_and_then (reply_named put d) found ≡ Some (replies.Ok n)
    → (found ≡ Some (codes "ok")) × (version_in d ≡ Some n) × (put.version < n)
ok_there put d (Some name) n e =
    let by = (named_by put d name (replies.Ok n) e).if_ok n refl in
    let version = newer_there put (version_in d) n by.1 in
    (word name (codes "ok") by.0, version.0, version.1)
ok_there put d None n e = absurd cc

stale_there : (put : Put) (d : Data) (found : Option (List ℕ)) → option_and_then (reply_named put d) found ≡ Some replies.Stale → found ≡ Some (codes "stale")
stale_there put d (Some name) e = word name (codes "stale") ((named_by put d name replies.Stale e).if_stale refl)
stale_there put d None e = absurd cc

missing_there : (put : Put) (d : Data) (found : Option (List ℕ)) → option_and_then (reply_named put d) found ≡ Some replies.Missing
    → found ≡ Some (codes "missing")
missing_there put d (Some name) e = word name (codes "missing") ((named_by put d name replies.Missing e).if_missing refl)
missing_there put d None e = absurd cc

unknown_there : (put : Put) (d : Data) (found : Option (List ℕ)) → option_and_then (reply_named put d) found ≡ Some replies.Unknown
    → found ≡ Some (codes "unknown")
unknown_there put d (Some name) e = word name (codes "unknown") ((named_by put d name replies.Unknown e).if_unknown refl)
unknown_there put d None e = absurd cc

pub replies_are_read : RepliesAreRead
unfolding reply_of
replies_are_read put line d spells = record {
  ok = λ n. (
    (λ e. ok_there put d (text_in (codes "reply") d) n (rw spells at e)),
    (λ is. rw (spells, is.0, is.1, lt-ltb put.version n is.2) refl),
  );
  stale = ((λ e. stale_there put d (text_in (codes "reply") d) (rw spells at e)), (λ is. rw (spells, is) refl));
  missing = ((λ e. missing_there put d (text_in (codes "reply") d) (rw spells at e)), (λ is. rw (spells, is) refl));
  unknown = ((λ e. unknown_there put d (text_in (codes "reply") d) (rw spells at e)), (λ is. rw (spells, is) refl));
}

pub replies_are_json : RepliesAreJson
unfolding reply_of
replies_are_json put line none = rw none refl
