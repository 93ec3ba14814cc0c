-- The lines that answer reviews: compact JSON, the members in the byte order of their names.
use Rattle.std.specs.Prelude.{ℕ, List, [], ◌∷◌, true, false, codes}
use Rattle.std.specs.List.{concat}
use Rattle.json.specs.Print.{quoted}
use Rattle.serde_json.specs.Data.{Data, string, boolean, object, member, no_members}
use Rattle.admission_reviews.specs.declared.response.Verdict.{Verdict}
use Rattle.admission_reviews.specs.declared.response.Verdict.TheVariants.{Allowed, Refused}

abbrev pub response_text : List ℕ → Verdict → List ℕ
response_text uid Allowed = concat (
    codes "{\"apiVersion\":\"admission.k8s.io/v1\",\"kind\":\"AdmissionReview\",\"response\":{\"allowed\":true,\"uid\":" ∷
    quoted uid ∷ codes "}}" ∷ [])
response_text uid (Refused message) = concat (
    codes "{\"apiVersion\":\"admission.k8s.io/v1\",\"kind\":\"AdmissionReview\",\"response\":{\"allowed\":false,\"status\":{\"message\":" ∷
    quoted message ∷ codes "},\"uid\":" ∷ quoted uid ∷ codes "}}" ∷ [])

-- ---- the same as values

-- an AdmissionReview with this response
abbrev pub answer_data : Data → Data
answer_data response = object (member (codes "apiVersion") (string (codes "admission.k8s.io/v1"))
    (member (codes "kind") (string (codes "AdmissionReview"))
    (member (codes "response") response no_members)))

abbrev pub allowed_data : List ℕ → Data
allowed_data uid = object (member (codes "allowed") (boolean true) (member (codes "uid") (string uid) no_members))

abbrev pub refused_data : List ℕ → List ℕ → Data
refused_data uid message = object (member (codes "allowed") (boolean false)
    (member (codes "status") (object (member (codes "message") (string message) no_members))
    (member (codes "uid") (string uid) no_members)))

abbrev pub verdict_data : List ℕ → Verdict → Data
verdict_data uid Allowed = allowed_data uid
verdict_data uid (Refused message) = refused_data uid message

abbrev pub response_data : List ℕ → Verdict → Data
response_data uid verdict = answer_data (verdict_data uid verdict)
