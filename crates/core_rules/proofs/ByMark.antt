-- Where the record of a claim is marked, the claim's terms are those of the mark.
use Rattle.std.proofs.Common.{◌≡◌, Bool, true, false, cond, not, List, [], ◌∷◌, ◌++◌, Option, Some, None, filter, sym, ap, subst, ⊎_elim}
use Rattle.std.proofs.lemmas.List.Elements.{Contains-append_cases}
use Rattle.std.specs.List.{Contains}
use Rattle.std.specs.Option.{unwrap_or}
use Rattle.mlb_base.proofs.Among.{contains-none}
use Rattle.mlb_base.proofs.Lists.{filter-contains}
use Rattle.kube_model.specs.declared.event.Event.{Event}
use Rattle.kube_model.specs.declared.event.Event.TheVariants.{ListEnd}
use Rattle.kube_model.specs.declared.event.ListGroup.TheVariants as groups
use Rattle.kube_model.specs.declared.key.Key.{Key}
use Rattle.kube_model.specs.declared.put.Put.{Put}
use Rattle.kube_model.specs.declared.record.Record.{Record}
use Rattle.kube_model.specs.declared.reply.PutReply.{PutReply}
use Rattle.kube_model.specs.declared.reply.PutReply.TheVariants.{Ok as StoredReply, Stale, Missing, Unknown}
use Rattle.kube_model.specs.Keys.{same_key, key_cmp}
use Rattle.sharing_terms.specs.declared.terms.Terms.{Terms}
use Rattle.sharing_terms.specs.Marked.{IsMarkOf}
use Rattle.sharing_terms.specs.Terms.{terms_of}
use Rattle.sharing_terms.proofs.ReadBack.{recorded-exact}
use Rattle.versioned_map.specs.Objects.{is_newer}
use Rattle.claim_index.specs.Claims.{ClaimValue, terms_under, others, claim_of, settled, claims_it}
use Rattle.alloc_book.proofs.BookLaws.{claim_of-is}
use Rattle.core_rules.specs.Core.{State, shown_terms, terms_in}
use Rattle.core_rules.specs.Take.{core_by, core_take, is_unlisted}
use Rattle.core_rules.specs.Replied.{put_terms, replied_to}
use Rattle.core_rules.specs.Run.{Took, Expired, Turned, Heard, core_after, ClaimsAreByMark}
use Rattle.core_rules.proofs.Effects.{by_effect}

-- the terms of the record's mark, where it is marked
abbrev AreMarked : Record → Terms → Type 0
AreMarked r t = (u : Terms) → IsMarkOf u r.mark → t ≡ u

abbrev AllByMark : List ClaimValue → Type 0
AllByMark claims = (c : ClaimValue) → Contains claims c → AreMarked c.holding c.terms

pub terms_under-marked : (r : Record) (adopted u : Terms) → IsMarkOf u r.mark → terms_under r adopted ≡ u
terms_under-marked r adopted u is = ap (λ (o : Option Terms). unwrap_or o adopted) ((recorded-exact r.mark u).1 is)

filtered : (test : ClaimValue → Bool) (claims : List ClaimValue) → AllByMark claims → AllByMark (filter test claims)
filtered test claims all c there = all c (filter-contains test claims c there).0

more : (claims : List ClaimValue) (key : Key) (r : Record) (adopted : Terms) → AllByMark claims → AllByMark (claims ++ claim_of key r (terms_under r adopted))
more claims key r adopted all c there =
    ⊎_elim
    (λ before. all c before)
    (λ new.
    let is = (claim_of-is key r (terms_under r adopted) c new).0 in
    subst (λ (x : ClaimValue). AreMarked x.holding x.terms) (sym is) (λ u marked. terms_under-marked r adopted u marked))
    (Contains-append_cases claims (claim_of key r (terms_under r adopted)) c there)

settles : (claims : List ClaimValue) (key : Key) (r : Record) (adopted : Terms) → AllByMark claims → AllByMark (settled key r (terms_under r adopted) claims)
settles claims key r adopted all = more (others key claims) key r adopted (filtered (λ x. not (same_key x.key key)) claims all)

doubts_by : (b : Bool) (claims : List ClaimValue) (key : Key) (r : Record) (adopted : Terms) → AllByMark claims
    → AllByMark (cond b claims (claims ++ claim_of key r (terms_under r adopted)))
doubts_by true claims key r adopted all = all
doubts_by false claims key r adopted all = more claims key r adopted all

either : (b : Bool) (xs ys : List ClaimValue) → AllByMark xs → AllByMark ys → AllByMark (cond b xs ys)
either true xs ys all rest = all
either false xs ys all rest = rest

took : (s : State) → AllByMark s.claims → (event : Event) → AllByMark (core_take s event).claims
took s all = by_effect (λ event c. AllByMark (core_by c s event).claims)
    (λ version service.
    either (is_newer key_cmp s.held.services service.key version) (settled service.key service.holding (shown_terms service) s.claims) s.claims
    (settles s.claims service.key service.holding (terms_of service) all) all)
    (λ key. filtered (λ x. not (same_key x.key key)) s.claims all)
    (filtered (λ x. not (is_unlisted (core_take s (ListEnd groups.Service)).held.services x.key)) s.claims all)
    (λ event c. all)
    all
    (λ event. all)

heard : (out : Option Put) (reply : PutReply) (s : State) → AllByMark s.claims → AllByMark (replied_to out s reply).claims
heard None reply s all = all
heard (Some put) (StoredReply version) s all = settles s.claims put.key put.holding (terms_in s.held put.key) all
heard (Some put) Stale s all = all
heard (Some put) Missing s all = all
heard (Some put) Unknown s all =
    doubts_by (claims_it put.key put.holding (put_terms s.held put) s.claims) s.claims put.key put.holding (terms_in s.held put.key) all

pub claims_are_by_mark : ClaimsAreByMark
claims_are_by_mark class [] = λ c there. absurd (contains-none c there)
claims_are_by_mark class (Took event ∷ earlier) = took (core_after class earlier) (claims_are_by_mark class earlier) event
claims_are_by_mark class (Expired group ∷ earlier) = claims_are_by_mark class earlier
claims_are_by_mark class (Turned turn ∷ earlier) = claims_are_by_mark class earlier
claims_are_by_mark class (Heard reply ∷ earlier) = heard (core_after class earlier).out reply (core_after class earlier) (claims_are_by_mark class earlier)
