-- The text of each answer that is written.
use Rattle.std.proofs.Common.{◌≡◌, ℕ, List, [], ◌∷◌, ◌++◌, false, refl, ap, ◌∙◌, append_assoc, codes}
use Rattle.json.specs.Print.{quoted}
use Rattle.serde_json.specs.Written.{compact_text, has_float}
use Rattle.serde_json.proofs.OnLiterals.{serde_json_on_literals}
use Rattle.admission_reviews.specs.declared.response.Verdict.{Verdict}
use Rattle.admission_reviews.specs.declared.response.Verdict.TheVariants.{Allowed, Refused}
use Rattle.admission_reviews.specs.Responses.{response_text, response_data}

pub response_has_float : (uid : List ℕ) (verdict : Verdict) → has_float (response_data uid verdict) ≡ false
response_has_float uid Allowed = refl
response_has_float uid (Refused message) = refl

pub response_is : (uid : List ℕ) (verdict : Verdict) → compact_text (response_data uid verdict) ≡ response_text uid verdict
unfolding serde_json_on_literals
response_is uid Allowed =
    ap (λ (rest : List ℕ). codes "{\"apiVersion\":\"admission.k8s.io/v1\",\"kind\":\"AdmissionReview\",\"response\":{\"allowed\":true,\"uid\":" ++ rest)
    (append_assoc (quoted uid) (125 ∷ []) (125 ∷ []))
response_is uid (Refused message) =
    let uid_text : List ℕ = codes ",\"uid\":" ++ (quoted uid ++ 125 ∷ []) in
    ap (λ (rest : List ℕ). codes "{\"apiVersion\":\"admission.k8s.io/v1\",\"kind\":\"AdmissionReview\",\"response\":{\"allowed\":false,\"status\":{\"message\":"
    ++ rest)
    (append_assoc (quoted message ++ 125 ∷ []) uid_text (125 ∷ [])
    ∙ append_assoc (quoted message) (125 ∷ []) (uid_text ++ 125 ∷ [])
    ∙ ap (λ (rest : List ℕ). quoted message ++ 125 ∷ (codes ",\"uid\":" ++ rest)) (append_assoc (quoted uid) (125 ∷ []) (125 ∷ [])))
