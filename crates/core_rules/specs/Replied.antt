-- What the reply to a put makes of the core.
use Rattle.std.specs.Prelude.{ℕ, [], ◌∷◌, ◌++◌, Option, Some, None}
use Rattle.kube_model.specs.declared.put.Put.{Put}
use Rattle.kube_model.specs.declared.reply.PutReply.{PutReply}
use Rattle.kube_model.specs.declared.reply.PutReply.TheVariants.{Ok as StoredReply, Stale, Missing, Unknown}
use Rattle.object_history.specs.Observations.{Written}
use Rattle.object_history.specs.Cache.{Cached, cached_after}
use Rattle.sharing_terms.specs.declared.terms.Terms.{Terms}
use Rattle.claim_index.specs.Claims.{terms_under, settled, doubted, loses}
use Rattle.kube_model.specs.Keys.{same_key}
use Rattle.core_rules.specs.Core.{State, terms_in, waiting}

-- the terms under which the put's record is claimed
abbrev pub put_terms : Cached → Put → Terms
put_terms held put = terms_under put.holding (terms_in held put.key)

-- The record was stored: it is held, at its version, and settles the key's claims. Where a claim is lost, the others that wait
-- are queued.
abbrev pub stored : State → Put → ℕ → State
stored s put version = record s {
  held = cached_after (Written put.key version put.holding) s.held;
  claims = settled put.key put.holding (put_terms s.held put) s.claims;
  queue = s.queue ++ waiting (loses put.key put.holding (put_terms s.held put) s.claims) s.class (same_key put.key) s.queue s.awaiting s.held.services;
  out = None;
}

-- nothing is put for the key before a newer event, its deletion or a relist
abbrev pub refused : State → Put → State
refused s put = record s { awaiting = s.awaiting ++ put.key ∷ []; out = None }

-- whether the record was stored isn't known: it may have been, and the key is queued again
abbrev pub in_doubt : State → Put → State
in_doubt s put = record s { claims = doubted put.key put.holding (put_terms s.held put) s.claims; queue = s.queue ++ put.key ∷ []; out = None }

abbrev pub replied : State → Put → PutReply → State
replied s put (StoredReply version) = stored s put version
replied s put Stale = refused s put
replied s put Missing = refused s put
replied s put Unknown = in_doubt s put

abbrev pub replied_to : Option Put → State → PutReply → State
replied_to None s reply = s
replied_to (Some put) s reply = replied s put reply

-- the core after the reply to the put in flight
abbrev pub core_reply : State → PutReply → State
core_reply s reply = replied_to s.out s reply
