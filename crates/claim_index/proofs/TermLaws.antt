-- The tests of terms and of claims decide that they are one.
use Rattle.std.proofs.Common.{◌≡◌, ℕ, true, ◌&&◌, List, refl, sym, ap, ◌∙◌, subst}
use Rattle.std.proofs.lemmas.Bool.{and_parts, and_from, true≢false}
use Rattle.std.proofs.lemmas.Slice.Eq.{bytes_eq-Decides, slice_eq-Decides}
use Rattle.std.specs.Bool.{Decides}
use Rattle.std.specs.Cmp.Lexicographic.{pointwise}
use Rattle.std.specs.Str.{bytes_eq}
use Rattle.kube_labels.specs.Pairs.{pair_eq}
use Rattle.kube_labels.proofs.PairLaws.{pairs_eq-Decides}
use Rattle.kube_model.specs.declared.key.Key.{Key}
use Rattle.kube_model.specs.declared.port.Port.{Port}
use Rattle.kube_model.specs.declared.record.Record.{Record}
use Rattle.kube_model.specs.Keys.{same_key}
use Rattle.kube_model.specs.Records.{same_record}
use Rattle.kube_model.proofs.KeyLaws.{same_key-is}
use Rattle.kube_model.proofs.RecordLaws.{same_record-is, same_record-itself}
use Rattle.sharing_terms.specs.declared.terms.Terms.{Terms}
use Rattle.sharing_terms.specs.declared.terms.Backend.{Backend}
use Rattle.sharing_terms.specs.declared.terms.Backend.TheVariants.{Cluster, Local}
use Rattle.sharing_terms.specs.Sharing.{is_alike, same_port}
use Rattle.sharing_terms.proofs.SharingLaws.{same_port-is, same_port-itself}
use Rattle.claim_index.specs.Alike.{same_terms}
use Rattle.claim_index.specs.Claims.{ClaimValue, is_under}

pub backend-same : (a b : Backend) → is_alike a b ≡ true → a ≡ b
backend-same Cluster Cluster e = refl
backend-same Cluster (Local n s) e = absurd (true≢false (sym e))
backend-same (Local n s) Cluster e = absurd (true≢false (sym e))
backend-same (Local n s) (Local m t) e =
    let parts = and_parts (bytes_eq n m) (pointwise pair_eq s t) e in
    ap (λ (x : List ℕ). Local x s) ((bytes_eq-Decides n m).0 parts.0) ∙ ap (λ (x : List (List ℕ × List ℕ)). Local m x) ((pairs_eq-Decides s t).0 parts.1)

pub backend-itself : (a : Backend) → is_alike a a ≡ true
backend-itself Cluster = refl
backend-itself (Local n s) = and_from (bytes_eq n n) (pointwise pair_eq s s) ((bytes_eq-Decides n n).1 refl) ((pairs_eq-Decides s s).1 refl)

same_port-Decides : (p q : Port) → Decides (same_port p q) (p ≡ q)
same_port-Decides p q = (same_port-is p q, λ same. subst (λ (x : Port). same_port p x ≡ true) same (same_port-itself p))

ports-Decides : (ps qs : List Port) → Decides (pointwise same_port ps qs) (ps ≡ qs)
ports-Decides ps qs = slice_eq-Decides same_port-Decides ps qs (pointwise same_port ps qs) refl

pub same_terms-is : (a b : Terms) → same_terms a b ≡ true → a ≡ b
same_terms-is a b e =
    let two = and_parts (bytes_eq a.key b.key && pointwise same_port a.ports b.ports) (is_alike a.backend b.backend) e in
    let one = and_parts (bytes_eq a.key b.key) (pointwise same_port a.ports b.ports) two.0 in
    let key : List ℕ → Terms = λ x. record { key = x; ports = a.ports; backend = a.backend } in
    let ports : List Port → Terms = λ x. record { key = b.key; ports = x; backend = a.backend } in
    let backend : Backend → Terms = λ x. record { key = b.key; ports = b.ports; backend = x } in
    ap key ((bytes_eq-Decides a.key b.key).0 one.0) ∙ ap ports ((ports-Decides a.ports b.ports).0 one.1) ∙ ap backend (backend-same a.backend b.backend two.1)

pub same_terms-itself : (a : Terms) → same_terms a a ≡ true
same_terms-itself a =
    and_from (bytes_eq a.key a.key && pointwise same_port a.ports a.ports) (is_alike a.backend a.backend)
    (and_from (bytes_eq a.key a.key) (pointwise same_port a.ports a.ports) ((bytes_eq-Decides a.key a.key).1 refl) ((ports-Decides a.ports a.ports).1 refl))
    (backend-itself a.backend)

-- the claim of a key, a record and terms
abbrev pub made : Key → Record → Terms → ClaimValue
made key r t = record { key = key; holding = r; terms = t }

pub under-made : (key : Key) (r : Record) (t : Terms) → is_under r t (made key r t) ≡ true
under-made key r t = and_from (same_record r r) (same_terms t t) (same_record-itself r) (same_terms-itself t)

pub under-is : (key : Key) (r : Record) (t : Terms) (c : ClaimValue) → same_key c.key key ≡ true → is_under r t c ≡ true → c ≡ made key r t
under-is key r t c own under =
    let parts = and_parts (same_record c.holding r) (same_terms c.terms t) under in
    let with_key : Key → ClaimValue = λ k. made k c.holding c.terms in
    let with_record : Record → ClaimValue = λ h. made key h c.terms in
    let with_terms : Terms → ClaimValue = λ u. made key r u in
    ap with_key (same_key-is c.key key own) ∙ ap with_record (same_record-is c.holding r parts.0) ∙ ap with_terms (same_terms-is c.terms t parts.1)
