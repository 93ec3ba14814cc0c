-- The records of claims, after a change of the claims.
use Rattle.std.proofs.Common.{◌≡◌, Bool, true, false, cond, List, [], ◌∷◌, refl, ap, ◌∙◌, subst, ⊎_elim}
use Rattle.std.proofs.lemmas.Bool.{and_parts}
use Rattle.std.specs.List.{Contains}
use Rattle.mlb_base.proofs.Among.{contains-none, contains-cons, contains-first, contains-later}
use Rattle.kube_model.specs.declared.key.Key.{Key}
use Rattle.kube_model.specs.declared.record.Record.{Record}
use Rattle.kube_model.specs.Keys.{same_key}
use Rattle.kube_model.specs.Records.{is_assigned, same_record}
use Rattle.kube_model.proofs.RecordLaws.{same_record-is}
use Rattle.sharing_terms.specs.declared.terms.Terms.{Terms}
use Rattle.claim_index.specs.Alike.{same_terms}
use Rattle.claim_index.specs.Claims.{ClaimValue, is_under, claims_of, records_in, records_of, others, claim_of, settled, claimed_by}
use Rattle.claim_index.proofs.ClaimLaws.{claims_of-others, claims_of-settled}
use Rattle.claim_index.proofs.TermLaws.{same_terms-is}

-- a claim of this record under these terms
pub under-is : (c : ClaimValue) (r : Record) (t : Terms) → is_under r t c ≡ true → (c.holding ≡ r) × (c.terms ≡ t)
under-is c r t e =
    let parts = and_parts (same_record c.holding r) (same_terms c.terms t) e in
    (same_record-is c.holding r parts.0, same_terms-is c.terms t parts.1)

pub records-either : (b : Bool) (xs ys : List ClaimValue) → records_in (cond b xs ys) ≡ cond b (records_in xs) (records_in ys)
records-either true xs ys = refl
records-either false xs ys = refl

records_claim_by : (b : Bool) (key : Key) (r : Record) (t : Terms)
    → records_in (cond b (record { key = key; holding = r; terms = t } ∷ []) []) ≡ cond b (r ∷ []) []
records_claim_by true key r t = refl
records_claim_by false key r t = refl

records-claim : (key : Key) (r : Record) (t : Terms) → records_in (claim_of key r t) ≡ claimed_by r
records-claim key r t = records_claim_by (is_assigned r) key r t

pub records-there : (cs : List ClaimValue) (c : ClaimValue) → Contains cs c → Contains (records_in cs) c.holding
records-there [] c there = absurd (contains-none c there)
records-there (d ∷ cs) c there =
    ⊎_elim (λ same. subst (λ r. Contains (d.holding ∷ records_in cs) r) (ap (λ (x : ClaimValue). x.holding) same) (contains-first d.holding (records_in cs)))
    (λ later. contains-later d.holding (records_in cs) c.holding (records-there cs c later))
    (contains-cons d cs c there)

pub records-from : (cs : List ClaimValue) (r : Record) → Contains (records_in cs) r → (c : ClaimValue) × Contains cs c × (c.holding ≡ r)
records-from [] r there = absurd (contains-none r there)
records-from (d ∷ cs) r there =
    ⊎_elim (λ same. (d, contains-first d cs, same))
    (λ later. let found = records-from cs r later in (found.0, contains-later d cs found.0 found.1, found.2))
    (contains-cons d.holding (records_in cs) r there)

pub records_of-others : (cs : List ClaimValue) (key q : Key) → records_of q (others key cs) ≡ cond (same_key key q) [] (records_of q cs)
records_of-others cs key q = ap records_in (claims_of-others cs key q) ∙ records-either (same_key key q) [] (claims_of q cs)

pub records_of-settled : (cs : List ClaimValue) (key q : Key) (r : Record) (t : Terms)
    → records_of q (settled key r t cs) ≡ cond (same_key key q) (claimed_by r) (records_of q cs)
records_of-settled cs key q r t =
    ap records_in (claims_of-settled cs key q r t) ∙ records-either (same_key key q) (claim_of key r t) (claims_of q cs)
    ∙ ap (λ (rs : List Record). cond (same_key key q) rs (records_of q cs)) (records-claim key r t)
