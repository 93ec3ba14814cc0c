-- Whose claims an entry may add to.
use Rattle.std.proofs.Common.{◌≡◌, ℕ, Bool, true, false, cond, ◌&&◌, eqb, List, [], ◌∷◌, ◌++◌, Option, Some}
use Rattle.std.proofs.Common.{None, ◌⊎◌, inl, inr, ⊎_elim, refl, sym, ap, subst, ◌∙◌}
use Rattle.std.proofs.lemmas.List.{append-nil}
use Rattle.std.proofs.lemmas.List.Elements.{Contains-append_cases, Contains-append_left, Contains-append_right}
use Rattle.std.specs.List.{Contains, list_any}
use Rattle.mlb_base.proofs.Among.{contains-none}
use Rattle.kube_model.specs.declared.key.Key.{Key}
use Rattle.kube_model.specs.declared.put.Put.{Put}
use Rattle.kube_model.specs.declared.reason.Reason.{Reason}
use Rattle.kube_model.specs.declared.reply.PutReply.{PutReply}
use Rattle.kube_model.specs.declared.reply.PutReply.TheVariants.{Ok as StoredReply, Stale, Missing, Unknown}
use Rattle.kube_model.specs.Keys.{same_key}
use Rattle.kube_model.proofs.KeyLaws.{same_key-is}
use Rattle.sharing_terms.specs.declared.terms.Terms.{Terms}
use Rattle.claim_index.specs.Claims.{ClaimValue, is_under, claim_of, terms_under, added}
use Rattle.alloc_book.proofs.BookLaws.{claim_of-is}
use Rattle.core_rules.specs.declared.turn.Turn.{Turn}
use Rattle.core_rules.specs.declared.turn.Turn.TheVariants.{Idle, NoPut, Wants}
use Rattle.core_rules.specs.Core.{shown_terms}
use Rattle.core_rules.specs.Take.{Effect, Shows, Drops, EndsServices, Configures, Expires, Nothing, effect_of}
use Rattle.core_rules.specs.Turn.{put_in}
use Rattle.core_rules.specs.Run.{TranscriptEntry, Took, Expired, Turned, Heard, core_after, IsRun, put_out}
use Rattle.core_rules.specs.Run.{version_shown, terms_shown, claims_shown, claims_told, claims_heard}
use Rattle.core_laws.specs.Shared.{claim_out, may_have, is_event}

-- the key whose claims an entry may add to
pub shown_key : Effect → Option Key
shown_key (Shows version service) = Some service.key
shown_key (Drops key) = None
shown_key EndsServices = None
shown_key Configures = None
shown_key Expires = None
shown_key Nothing = None

pub put_key : Option Put → Option Key
put_key None = None
put_key (Some put) = Some put.key

pub source_of : TranscriptEntry → Option Key
source_of (Took event) = shown_key (effect_of event)
source_of (Expired group) = None
source_of (Turned turn) = put_key (put_in turn)
source_of (Heard reply) = None

-- The claim is that of a put.
pub record IsPutClaim (put : Put) (adopted : Terms) (key : Key) (c : ClaimValue) : Type 0 where
  pub of_key : put.key ≡ key
  pub holding_is : put.holding ≡ c.holding
  pub terms_is : terms_under put.holding adopted ≡ c.terms

-- The key came to the claim with the entry: by an event, or by a put that a turn wants.
pub record Came (x : TranscriptEntry) (adopted : Terms) (key : Key) (c : ClaimValue) : Type 0 where
  pub source : source_of x ≡ Some key
  pub by : (is_event x ≡ true) ⊎ ((put : Put) × (pending : Option Reason) × (x ≡ Turned (Wants put pending)) × IsPutClaim put adopted key c)

told-by : (b late : Bool) (k key : Key) (claimed before rest : List ClaimValue) (c : ClaimValue) → same_key k key ≡ b
    → Contains (cond (b && late) claimed before ++ rest) c → ¬ (Contains (before ++ rest) c) → Some k ≡ Some key
told-by true late k key claimed before rest c e there not = ap Some (same_key-is k key e)
told-by false late k key claimed before rest c e there not = absurd (not there)

gone-by : (b : Bool) (before rest : List ClaimValue) (c : ClaimValue) → Contains (cond b [] before ++ rest) c → Contains (before ++ rest) c
gone-by true before rest c there = Contains-append_right before rest c there
gone-by false before rest c there = there

came-told : (about : Effect) (key : Key) (version : ℕ) (before rest : List ClaimValue) (c : ClaimValue)
    → Contains (claims_told key about version before ++ rest) c → ¬ (Contains (before ++ rest) c) → shown_key about ≡ Some key
unfolding shown_key
came-told (Shows v service) key version before rest c there not =
    told-by (same_key service.key key) _ service.key key (claim_of service.key service.holding (shown_terms service)) before rest c refl there not
came-told (Drops k) key version before rest c there not = absurd (not (gone-by (same_key k key) before rest c there))
came-told EndsServices key version before rest c there not = absurd (not (gone-by (eqb version 0) before rest c there))
came-told Configures key version before rest c there not = absurd (not there)
came-told Expires key version before rest c there not = absurd (not there)
came-told Nothing key version before rest c there not = absurd (not there)

-- the claim of the record that is being written
out-by : (b : Bool) (put : Put) (adopted : Terms) (key : Key) (c : ClaimValue) → same_key put.key key ≡ b
    → Contains (cond b (claim_of put.key put.holding (terms_under put.holding adopted)) []) c → IsPutClaim put adopted key c
out-by true put adopted key c e there =
    let is = (claim_of-is put.key put.holding (terms_under put.holding adopted) c there).0 in
    record {
      of_key = same_key-is put.key key e;
      holding_is = ap (λ (x : ClaimValue). x.holding) (sym is);
      terms_is = ap (λ (x : ClaimValue). x.terms) (sym is);
    }
out-by false put adopted key c e there = absurd (contains-none c there)

came-turned : (turn : Turn) (adopted : Terms) (key : Key) (before : List ClaimValue) (c : ClaimValue)
    → Contains (before ++ claim_out key (put_in turn) adopted) c → ¬ (Contains before c) → Came (Turned turn) adopted key c
unfolding put_key source_of
came-turned Idle adopted key before c there not = absurd (not (subst (λ (cs : List ClaimValue). Contains cs c) (append-nil before) there))
came-turned (NoPut k pending) adopted key before c there not = absurd (not (subst (λ (cs : List ClaimValue). Contains cs c) (append-nil before) there))
came-turned (Wants put pending) adopted key before c there not =
    let out : IsPutClaim put adopted key c = ⊎_elim (λ old. absurd (not old)) (λ new. out-by (same_key put.key key) put adopted key c refl new)
    (Contains-append_cases before (claim_out key (Some put) adopted) c there) in
    record { source = ap Some out.of_key; by = inr (put, pending, refl, out) }

-- a reply adds nothing to what was being written
stored-by : (b : Bool) (claimed before : List ClaimValue) (c : ClaimValue) → Contains (cond b claimed before ++ []) c → Contains (before ++ cond b claimed []) c
stored-by true claimed before c there = Contains-append_right before claimed c (subst (λ (cs : List ClaimValue). Contains cs c) (append-nil claimed) there)
stored-by false claimed before c there = there

added-by : (b : Bool) (claimed before : List ClaimValue) (c : ClaimValue) → Contains (cond b before (before ++ claimed)) c → Contains (before ++ claimed) c
added-by true claimed before c there = Contains-append_left before claimed c there
added-by false claimed before c there = there

doubted-by : (b : Bool) (claimed more before : List ClaimValue) (c : ClaimValue) → (Contains more c → Contains (before ++ claimed) c)
    → Contains (cond b more before ++ []) c → Contains (before ++ cond b claimed []) c
doubted-by true claimed more before c adds there = adds (subst (λ (cs : List ClaimValue). Contains cs c) (append-nil more) there)
doubted-by false claimed more before c adds there = there

kept-by : (before rest : List ClaimValue) (c : ClaimValue) → Contains (before ++ []) c → Contains (before ++ rest) c
kept-by before rest c there = Contains-append_left before rest c (subst (λ (cs : List ClaimValue). Contains cs c) (append-nil before) there)

heard-by : (out : Option Put) (key : Key) (reply : PutReply) (adopted : Terms) (before : List ClaimValue) (c : ClaimValue)
    → Contains (claims_heard key out reply adopted before ++ []) c → Contains (before ++ claim_out key out adopted) c
heard-by None key reply adopted before c there = there
heard-by (Some put) key (StoredReply version) adopted before c there =
    stored-by (same_key put.key key) (claim_of put.key put.holding (terms_under put.holding adopted)) before c there
heard-by (Some put) key Stale adopted before c there = kept-by before (claim_out key (Some put) adopted) c there
heard-by (Some put) key Missing adopted before c there = kept-by before (claim_out key (Some put) adopted) c there
heard-by (Some put) key Unknown adopted before c there =
    let terms = terms_under put.holding adopted in
    doubted-by (same_key put.key key) (claim_of put.key put.holding terms) (added put.key put.holding terms before) before c
    (added-by (list_any (is_under put.holding terms) before) (claim_of put.key put.holding terms) before c) there

-- the terms that a put's record would adopt don't change where no event is taken, and no put is in flight where one is
pub came : (class : Option (List ℕ)) (x : TranscriptEntry) (earlier : List TranscriptEntry) → ((core_after class earlier).out ≡ None → put_out earlier ≡ None)
    → IsRun class (x ∷ earlier)
    → (key : Key) (c : ClaimValue) → Contains (may_have key (x ∷ earlier)) c → ¬ (Contains (may_have key earlier) c) → Came x (terms_shown key earlier) key c
unfolding source_of
came class (Took event) earlier alike is key c there not =
    let none : put_out earlier ≡ None = alike is.0 in
    record {
      source =
          came-told (effect_of event) key (version_shown key earlier) (claims_shown key earlier) [] c
          (subst (λ (o : Option Put). Contains (claims_told key (effect_of event) (version_shown key earlier) (claims_shown key earlier)
          ++ claim_out key o (terms_shown key (Took event ∷ earlier))) c) none there)
          (λ old. not (subst (λ (cs : List ClaimValue). Contains cs c)
          (ap (λ (o : Option Put). claims_shown key earlier ++ claim_out key o (terms_shown key earlier)) (sym none)) old));
      by = inl refl;
    }
came class (Expired group) earlier alike is key c there not =
    let none : put_out earlier ≡ None = alike is.0 in
    absurd (not (subst (λ (cs : List ClaimValue). Contains cs c)
    (ap (λ (o : Option Put). claims_shown key earlier ++ claim_out key o (terms_shown key (Expired group ∷ earlier))) none
    ∙ ap (λ (o : Option Put). claims_shown key earlier ++ claim_out key o (terms_shown key earlier)) (sym none)) there))
came class (Turned turn) earlier alike is key c there not =
    came-turned turn (terms_shown key earlier) key (claims_shown key earlier) c there
    (λ old. not (Contains-append_left (claims_shown key earlier) (claim_out key (put_out earlier) (terms_shown key earlier)) c old))
came class (Heard reply) earlier alike is key c there not =
    absurd (not (heard-by (put_out earlier) key reply (terms_shown key earlier) (claims_shown key earlier) c there))
