-- The claims of a key, also after a change of the claims.
use Rattle.std.proofs.Common.{◌≡◌, Bool, true, false, cond, ◌&&◌, ◌||◌, not, List, [], ◌∷◌, ◌++◌, append-nil, refl, sym, ap, ◌∙◌, subst, ⊎_elim}
use Rattle.std.proofs.lemmas.Bool.{true≢false}
use Rattle.std.specs.List.{Contains, list_any}
use Rattle.kube_model.specs.declared.key.Key.{Key}
use Rattle.kube_model.specs.declared.record.Record.{Record}
use Rattle.kube_model.specs.Keys.{same_key}
use Rattle.sharing_terms.specs.declared.terms.Terms.{Terms}
use Rattle.claim_index.specs.Claims.{ClaimValue, claims_of, others, claim_of, settled, claims_it, doubted, added, is_under}
use Rattle.kube_model.specs.Records.{is_assigned}
use Rattle.kube_model.proofs.KeyLaws.{same_key-is, same_key-by, same_key-left}
use Rattle.mlb_base.proofs.Among.{contains-none, contains-cons, contains-first, contains-later}
use Rattle.claim_index.proofs.TermLaws.{made}

-- a claim of a key, by the claims, is one of them, and of the key
abbrev pub IsClaimOf : List ClaimValue → Key → ClaimValue → Type 0
IsClaimOf claims key c = Contains claims c × (c.key ≡ key)

found_by : (b : Bool) (d : ClaimValue) (claims : List ClaimValue) (key : Key) (c : ClaimValue) → b ≡ same_key d.key key
    → (Contains (claims_of key claims) c → IsClaimOf claims key c)
    → Contains (cond b (d ∷ claims_of key claims) (claims_of key claims)) c → IsClaimOf (d ∷ claims) key c
found_by true d claims key c s ih there =
    ⊎_elim
    (λ same. (subst (Contains (d ∷ claims)) same (contains-first d claims), ap (λ (x : ClaimValue). x.key) (sym same) ∙ same_key-is d.key key (sym s)))
    (λ more. let found = ih more in (contains-later d claims c found.0, found.1))
    (contains-cons d (claims_of key claims) c there)
found_by false d claims key c s ih there = let found = ih there in (contains-later d claims c found.0, found.1)

pub claim-of : (claims : List ClaimValue) (key : Key) (c : ClaimValue) → Contains (claims_of key claims) c → IsClaimOf claims key c
claim-of [] key c found = absurd (contains-none c found)
claim-of (d ∷ claims) key c found = found_by (same_key d.key key) d claims key c refl (claim-of claims key c) found

-- and the other way round
pub record-of : (claims : List ClaimValue) (c : ClaimValue) → Contains claims c → Contains (claims_of c.key claims) c
record-of [] c found = absurd (contains-none c found)
record-of (d ∷ claims) c found =
    ⊎_elim (λ same. by_same (same_key d.key c.key) refl same) (λ more. by_more (same_key d.key c.key) (record-of claims c more))
    (contains-cons d claims c found)
  where
    by_same : (b : Bool) → b ≡ same_key d.key c.key → d ≡ c → Contains (cond b (d ∷ claims_of c.key claims) (claims_of c.key claims)) c
    by_same true s same = subst (λ r. Contains (d ∷ claims_of c.key claims) r) same (contains-first d (claims_of c.key claims))
    by_same false s same = absurd (true≢false (sym (same_key-by d.key c.key (ap (λ (x : ClaimValue). x.key) same)) ∙ sym s))

    by_more : (b : Bool) → Contains (claims_of c.key claims) c → Contains (cond b (d ∷ claims_of c.key claims) (claims_of c.key claims)) c
    by_more true there = contains-later d (claims_of c.key claims) c there
    by_more false there = there

append_by : (b : Bool) (r : ClaimValue) (xs ys zs : List ClaimValue) → xs ≡ ys ++ zs → cond b (r ∷ xs) xs ≡ cond b (r ∷ ys) ys ++ zs
append_by true r xs ys zs e = ap (λ (rest : List ClaimValue). r ∷ rest) e
append_by false r xs ys zs e = e

claims_of-append : (xs ys : List ClaimValue) (key : Key) → claims_of key (xs ++ ys) ≡ claims_of key xs ++ claims_of key ys
claims_of-append [] ys key = refl
claims_of-append (c ∷ xs) ys key = append_by (same_key c.key key) c _ _ _ (claims_of-append xs ys key)

either_same : (b : Bool) (rs : List ClaimValue) → rs ≡ cond b rs rs
either_same true rs = refl
either_same false rs = refl

-- x: the claim's key is the one left out; y: it is the one looked up; z: these two are the same
others_by : (x : Bool) (y z : Bool) (c : ClaimValue) (q : Key) (cs rest : List ClaimValue) → y ≡ same_key c.key q → (x ≡ true → y ≡ z)
    → (x ≡ false → y ≡ true → z ≡ false)
    → claims_of q rest ≡ cond z [] (claims_of q cs)
    → claims_of q (cond (not x) (c ∷ rest) rest) ≡ cond z [] (cond y (c ∷ claims_of q cs) (claims_of q cs))
others_by true true z c q cs rest s same apart ih = rw ih (rw (← same refl) refl)
others_by true false z c q cs rest s same apart ih = ih
others_by false true z c q cs rest s same apart ih =
    let no : z ≡ false = apart refl refl in
    rw (← s, no) (ap (λ (rs : List ClaimValue). c ∷ rs) (ih ∙ ap (λ b. cond b [] (claims_of q cs)) no))
others_by false false z c q cs rest s same apart ih = rw (← s) ih

pub claims_of-others : (cs : List ClaimValue) (key q : Key) → claims_of q (others key cs) ≡ cond (same_key key q) [] (claims_of q cs)
claims_of-others [] key q = either_same (same_key key q) []
claims_of-others (c ∷ cs) key q =
    others_by (same_key c.key key) (same_key c.key q) (same_key key q) c q cs (others key cs) refl
    (λ same. same_key-left c.key key q same)
    (λ other here. apart_from (same_key key q) refl other here)
    (claims_of-others cs key q)
  where
    apart_from : (z : Bool) → z ≡ same_key key q → same_key c.key key ≡ false → same_key c.key q ≡ true → same_key key q ≡ false
    apart_from false s other here = sym s
    apart_from true s other here =
        let same : same_key c.key key ≡ true = same_key-by c.key key (same_key-is c.key q here ∙ sym (same_key-is key q (sym s))) in
        absurd (cc)

claim_by : (b : Bool) (key q : Key) (r : Record) (t : Terms)
    → claims_of q (cond b (made key r t ∷ []) []) ≡ cond (same_key key q) (cond b (made key r t ∷ []) []) []
claim_by true key q r t = refl
claim_by false key q r t = either_same (same_key key q) []

claims_of-claim : (key q : Key) (r : Record) (t : Terms) → claims_of q (claim_of key r t) ≡ cond (same_key key q) (claim_of key r t) []
claims_of-claim key q r t = claim_by (is_assigned r) key q r t

settled_by : (z : Bool) (rs more : List ClaimValue) → cond z [] rs ++ cond z more [] ≡ cond z more rs
settled_by true rs more = refl
settled_by false rs more = append-nil rs

-- the key has this claim alone
pub claims_of-settled : (cs : List ClaimValue) (key q : Key) (r : Record) (t : Terms)
    → claims_of q (settled key r t cs) ≡ cond (same_key key q) (claim_of key r t) (claims_of q cs)
claims_of-settled cs key q r t =
    claims_of-append (others key cs) (claim_of key r t) q
    ∙ rw (claims_of-others cs key q, claims_of-claim key q r t) (settled_by (same_key key q) (claims_of q cs) (claim_of key r t))

claims_it_by : (b : Bool) (r : Record) (t : Terms) (c : ClaimValue) (rest : Bool) (rs : List ClaimValue) → rest ≡ list_any (is_under r t) rs
    → ((b && is_under r t c) || rest) ≡ list_any (is_under r t) (cond b (c ∷ rs) rs)
claims_it_by true r t c rest rs e = ap (λ x. is_under r t c || x) e
claims_it_by false r t c rest rs e = e

claims_it-of : (cs : List ClaimValue) (key : Key) (r : Record) (t : Terms) → claims_it key r t cs ≡ list_any (is_under r t) (claims_of key cs)
claims_it-of [] key r t = refl
claims_it-of (c ∷ cs) key r t = claims_it_by (same_key c.key key) r t c _ _ (claims_it-of cs key r t)

doubted_there : (b : Bool) (cs : List ClaimValue) (key : Key) (r : Record) (t : Terms)
    → claims_of key (cond b cs (cs ++ claim_of key r t)) ≡ cond b (claims_of key cs) (claims_of key cs ++ claim_of key r t)
doubted_there true cs key r t = refl
doubted_there false cs key r t =
    claims_of-append cs (claim_of key r t) key
    ∙ ap (λ (rs : List ClaimValue). claims_of key cs ++ rs) (claims_of-claim key key r t ∙ ap (λ b. cond b (claim_of key r t) []) (same_key-by key key refl))

doubted_elsewhere : (b : Bool) (cs : List ClaimValue) (key q : Key) (r : Record) (t : Terms) → same_key key q ≡ false
    → claims_of q (cond b cs (cs ++ claim_of key r t)) ≡ claims_of q cs
doubted_elsewhere true cs key q r t apart = refl
doubted_elsewhere false cs key q r t apart =
    claims_of-append cs (claim_of key r t) q
    ∙ ap (λ (rs : List ClaimValue). claims_of q cs ++ rs) (claims_of-claim key q r t ∙ ap (λ b. cond b (claim_of key r t) []) apart)
    ∙ append-nil (claims_of q cs)

doubted_by : (z : Bool) (cs : List ClaimValue) (key q : Key) (r : Record) (t : Terms) → same_key key q ≡ z
    → claims_of q (doubted key r t cs) ≡ cond z (added key r t (claims_of q cs)) (claims_of q cs)
doubted_by true cs key q r t s =
    subst (λ k. claims_of k (doubted key r t cs) ≡ added key r t (claims_of k cs)) (same_key-is key q s)
    (rw (claims_it-of cs key r t) (doubted_there (list_any (is_under r t) (claims_of key cs)) cs key r t))
doubted_by false cs key q r t s = doubted_elsewhere (claims_it key r t cs) cs key q r t s

-- the key may have this claim too
pub claims_of-doubted : (cs : List ClaimValue) (key q : Key) (r : Record) (t : Terms)
    → claims_of q (doubted key r t cs) ≡ cond (same_key key q) (added key r t (claims_of q cs)) (claims_of q cs)
claims_of-doubted cs key q r t = doubted_by (same_key key q) cs key q r t refl
