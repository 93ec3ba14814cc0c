-- Each claim has an address.
use Rattle.std.proofs.Common.{ℕ, Bool, true, false, cond, not, List, [], ◌∷◌, ◌++◌, Option, Some, None}
use Rattle.kube_model.specs.declared.event.Event.{Event}
use Rattle.kube_model.specs.declared.event.Event.TheVariants.{ListEnd}
use Rattle.kube_model.specs.declared.event.ListGroup.TheVariants as groups
use Rattle.kube_model.specs.declared.key.Key.{Key}
use Rattle.kube_model.specs.declared.put.Put.{Put}
use Rattle.kube_model.specs.declared.record.Record.{Record}
use Rattle.kube_model.specs.declared.reply.PutReply.{PutReply}
use Rattle.kube_model.specs.declared.reply.PutReply.TheVariants.{Ok as StoredReply, Stale, Missing, Unknown}
use Rattle.versioned_map.specs.Objects.{is_newer}
use Rattle.kube_model.specs.Keys.{key_cmp}
use Rattle.mlb_base.proofs.Among.{contains-none}
use Rattle.mlb_base.proofs.Lists.{filter-contains}
use Rattle.claim_index.specs.Claims.{AreAssigned, ClaimValue, settled, others, claim_of, claims_it}
use Rattle.alloc_book.proofs.BookLaws.{assigned-others, assigned-added}
use Rattle.core_rules.specs.Core.{State, shown_terms}
use Rattle.core_rules.specs.Take.{core_by, core_take, is_unlisted}
use Rattle.core_rules.specs.Replied.{replied_to, put_terms}
use Rattle.core_rules.specs.Run.{TranscriptEntry, Took, Expired, Turned, Heard, core_after}
use Rattle.core_rules.proofs.Effects.{by_effect}
use Rattle.sharing_terms.specs.declared.terms.Terms.{Terms}

settled-assigned : (claims : List ClaimValue) (key : Key) (r : Record) (t : Terms) → AreAssigned claims → AreAssigned (settled key r t claims)
settled-assigned claims key r t a = assigned-added (others key claims) key r t (assigned-others claims key a)

assigned-if : (b : Bool) (after claims : List ClaimValue) → AreAssigned after → AreAssigned claims → AreAssigned (cond b after claims)
assigned-if true after claims x y = x
assigned-if false after claims x y = y

took-assigned : (s : State) → AreAssigned s.claims → (event : Event) → AreAssigned (core_take s event).claims
took-assigned s a = by_effect (λ event c. AreAssigned (core_by c s event).claims)
    (λ version service. assigned-if (is_newer key_cmp s.held.services service.key version) (settled service.key service.holding (shown_terms service) s.claims)
    s.claims (settled-assigned s.claims service.key service.holding (shown_terms service) a) a)
    (λ key. assigned-others s.claims key a)
    (λ c there. a c (filter-contains (λ (x : ClaimValue). not (is_unlisted (core_take s (ListEnd groups.Service)).held.services x.key)) s.claims c there).0)
    (λ event c. a)
    a
    (λ event. a)

heard-assigned : (out : Option Put) (reply : PutReply) (s : State) → AreAssigned s.claims → AreAssigned (replied_to out s reply).claims
heard-assigned None reply s a = a
heard-assigned (Some put) (StoredReply version) s a = settled-assigned s.claims put.key put.holding (put_terms s.held put) a
heard-assigned (Some put) Stale s a = a
heard-assigned (Some put) Missing s a = a
heard-assigned (Some put) Unknown s a = assigned-if (claims_it put.key put.holding (put_terms s.held put) s.claims) s.claims
    (s.claims ++ claim_of put.key put.holding (put_terms s.held put)) a (assigned-added s.claims put.key put.holding (put_terms s.held put) a)

pub runs-assigned : (class : Option (List ℕ)) (run : List TranscriptEntry) → AreAssigned (core_after class run).claims
runs-assigned class [] = λ c there. absurd (contains-none c there)
runs-assigned class (Took event ∷ earlier) = took-assigned (core_after class earlier) (runs-assigned class earlier) event
runs-assigned class (Expired group ∷ earlier) = runs-assigned class earlier
runs-assigned class (Turned turn ∷ earlier) = runs-assigned class earlier
runs-assigned class (Heard reply ∷ earlier) = heard-assigned (core_after class earlier).out reply (core_after class earlier) (runs-assigned class earlier)
