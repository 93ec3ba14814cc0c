-- Other claims of a service than that of its record.
use Rattle.std.proofs.Common.{◌≡◌, ◌≢◌, Bool, true, false, cond, ◌&&◌, ◌||◌, not, List, [], ◌∷◌, refl, sym, ap, ◌∙◌}
use Rattle.std.proofs.lemmas.Bool.{true≢false, or_parts}
use Rattle.std.specs.List.{list_any}
use Rattle.kube_model.specs.declared.key.Key.{Key}
use Rattle.kube_model.specs.declared.record.Record.{Record}
use Rattle.kube_model.specs.declared.service.Service.{Service}
use Rattle.kube_model.specs.Keys.{same_key}
use Rattle.kube_model.specs.Records.{is_assigned}
use Rattle.sharing_terms.specs.declared.terms.Terms.{Terms}
use Rattle.claim_index.specs.Claims.{ClaimValue, is_under, claims_of, loses}
use Rattle.claim_index.proofs.TermLaws.{made, under-made}
use Rattle.core_rules.specs.Core.{shown_terms, own_claims, has_other}

loses_by : (b : Bool) (c : ClaimValue) (r : Record) (t : Terms) (rest : Bool) (cs : List ClaimValue) → rest ≡ list_any (λ (x : ClaimValue). not (is_under r t x)) cs
    → ((b && not (is_under r t c)) || rest) ≡ list_any (λ (x : ClaimValue). not (is_under r t x)) (cond b (c ∷ cs) cs)
loses_by true c r t rest cs e = ap (λ x. not (is_under r t c) || x) e
loses_by false c r t rest cs e = e

pub loses-of : (claims : List ClaimValue) (key : Key) (r : Record) (t : Terms)
    → loses key r t claims ≡ list_any (λ (x : ClaimValue). not (is_under r t x)) (claims_of key claims)
loses-of [] key r t = refl
loses-of (c ∷ claims) key r t = loses_by (same_key c.key key) c r t (loses key r t claims) (claims_of key claims) (loses-of claims key r t)

-- the record's claim is no other
own_by : (b : Bool) (key : Key) (r : Record) (t : Terms) → list_any (λ (x : ClaimValue). not (is_under r t x)) (cond b (made key r t ∷ []) []) ≡ false
own_by true key r t = ap (λ (b : Bool). not b || false) (under-made key r t)
own_by false key r t = refl

-- where there are others, the claims aren't the record's alone
pub other-claims : (claims : List ClaimValue) (service : Service) → has_other service claims ≡ true → claims_of service.key claims ≢ own_claims service
other-claims claims service e alone =
    let r = service.holding in
    let t = shown_terms service in
    true≢false (sym e ∙ loses-of claims service.key r t ∙ ap (list_any (λ (x : ClaimValue). not (is_under r t x))) alone
    ∙ own_by (is_assigned r) service.key r t)

pub none-more : (more : List ClaimValue) (r : Record) (t : Terms) → list_any (is_under r t) more ≡ false
    → list_any (λ (x : ClaimValue). not (is_under r t x)) more ≡ false
    → more ≡ []
none-more [] r t under other = refl
none-more (c ∷ more) r t under other =
    absurd (true≢false (ap not (sym (or_parts (is_under r t c) (list_any (is_under r t) more) under).0)
    ∙ (or_parts (not (is_under r t c)) (list_any (λ (x : ClaimValue). not (is_under r t x)) more) other).0))
