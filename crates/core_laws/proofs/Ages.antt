-- The claims that a key has or may have, and for how long it has had them.
use Rattle.std.proofs.Common.{◌≡◌, ℕ, ◌<◌, suc, true, false, cond, List, [], ◌∷◌, refl, sym, ap, subst, ◌∙◌, arith}
use Rattle.std.proofs.lemmas.Bool.{and_parts, and_from, true≢false}
use Rattle.std.specs.List.{Contains}
use Rattle.mlb_base.proofs.Among.{any-contains, any-found}
use Rattle.kube_model.specs.declared.key.Key.{Key}
use Rattle.kube_model.specs.Keys.{same_key}
use Rattle.kube_model.proofs.KeyLaws.{same_key-itself}
use Rattle.claim_index.specs.Claims.{ClaimValue, is_under}
use Rattle.claim_index.proofs.TermLaws.{under-is, under-made}
use Rattle.core_rules.specs.Run.{TranscriptEntry}
use Rattle.core_laws.specs.Shared.{may_have, same_claim, has_claim, age_of, is_event, was_shown}

-- ---- claims that are one
same_claim-is : (a b : ClaimValue) → same_claim a b ≡ true → a ≡ b
same_claim-is a b e =
    let parts = and_parts (same_key a.key b.key) (is_under b.holding b.terms a) e in
    under-is b.key b.holding b.terms a parts.0 parts.1

same_claim-itself : (a : ClaimValue) → same_claim a a ≡ true
same_claim-itself a = and_from (same_key a.key a.key) (is_under a.holding a.terms a) (same_key-itself a.key) (under-made a.key a.holding a.terms)

-- ---- claims that a key has
pub has-is : (key : Key) (c : ClaimValue) (run : List TranscriptEntry) → has_claim key c run ≡ true → Contains (may_have key run) c
has-is key c run e =
    let found = any-found (same_claim c) (may_have key run) e in
    subst (Contains (may_have key run)) (sym (same_claim-is c found.0 found.2)) found.1

pub has-from : (key : Key) (c : ClaimValue) (run : List TranscriptEntry) → Contains (may_have key run) c → has_claim key c run ≡ true
has-from key c run there = any-contains (same_claim c) (may_have key run) c there (same_claim-itself c)

pub has-not : (key : Key) (c : ClaimValue) (run : List TranscriptEntry) → has_claim key c run ≡ false → ¬ (Contains (may_have key run) c)
has-not key c run e there = true≢false (sym (has-from key c run there) ∙ e)

-- ---- ages
pub age-none : (key : Key) (c : ClaimValue) (run : List TranscriptEntry) → has_claim key c run ≡ false → age_of key c run ≡ 0
age-none key c [] e = refl
age-none key c (x ∷ earlier) e = ap (λ b. cond b (suc (age_of key c earlier)) 0) e

pub age-some : (key : Key) (c : ClaimValue) (x : TranscriptEntry) (earlier : List TranscriptEntry) → has_claim key c (x ∷ earlier) ≡ true
    → age_of key c (x ∷ earlier) ≡ suc (age_of key c earlier)
age-some key c x earlier e = ap (λ b. cond b (suc (age_of key c earlier)) 0) e

suc-positive : (n : ℕ) → 0 < suc n
suc-positive n = omega arith

pub age-positive : (key : Key) (c : ClaimValue) (run : List TranscriptEntry) → has_claim key c run ≡ true → 0 < age_of key c run
age-positive key c [] e = absurd (true≢false (sym e))
age-positive key c (x ∷ earlier) e = subst (λ (n : ℕ). 0 < n) (sym (age-some key c x earlier e)) (suc-positive (age_of key c earlier))

pub was-older : (key : Key) (c : ClaimValue) (x : TranscriptEntry) (earlier : List TranscriptEntry) → has_claim key c earlier ≡ true
    → was_shown key c (x ∷ earlier) ≡ was_shown key c earlier
was-older key c x earlier e = ap (λ b. cond b (was_shown key c earlier) (is_event x)) e

pub was-new : (key : Key) (c : ClaimValue) (x : TranscriptEntry) (earlier : List TranscriptEntry) → has_claim key c earlier ≡ false
    → was_shown key c (x ∷ earlier) ≡ is_event x
was-new key c x earlier e = ap (λ b. cond b (was_shown key c earlier) (is_event x)) e

-- of two that are one more each, the lesser stays so
pub suc-less : (a b m n : ℕ) → m ≡ suc a → n ≡ suc b → a < b → m < n
suc-less a b m n e f l = rw (e, f) (omega (arith, l))
