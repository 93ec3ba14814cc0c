-- Sets of keys: what is in one after a change.
use Rattle.std.proofs.Common.{◌≡◌, Bool, true, false, cond, not, ◌&&◌, ◌||◌, List, [], ◌∷◌, filter, refl, sym, ap, ◌∙◌}
use Rattle.std.specs.BTreeSet.{BTreeSet, contains, UpdatesBy}
use Rattle.kube_model.specs.declared.key.Key.{Key}
use Rattle.kube_model.specs.Keys.{key_cmp, same_key, has_key}
use Rattle.kube_model.proofs.KeyLaws.{is_eq-key_cmp, same_key-is, same_key-flip}
use Rattle.core_keys.proofs.KeyLists.{has-at}

-- ---- the keys of a list that pass
filter-by : (passes same : Bool) (test : Key → Bool) (k key : Key) (keys less : List Key) → passes ≡ test k → same ≡ same_key k key
    → has_key less key ≡ (test key && has_key keys key)
    → has_key (cond passes (k ∷ less) less) key ≡ (test key && (same || has_key keys key))
filter-by true true test k key keys less p s rest =
    let here : test key ≡ true = sym (p ∙ ap test (same_key-is k key (sym s))) in
    ap (λ b. b || has_key less key) (sym s) ∙ sym (ap (λ b. b && true) here)
filter-by true false test k key keys less p s rest = ap (λ b. b || has_key less key) (sym s) ∙ rest
filter-by false true test k key keys less p s rest =
    let gone : test key ≡ false = sym (p ∙ ap test (same_key-is k key (sym s))) in
    rest ∙ ap (λ b. b && has_key keys key) gone ∙ sym (ap (λ b. b && true) gone)
filter-by false false test k key keys less p s rest = rest

and-none : (b : Bool) → false ≡ (b && false)
and-none true = refl
and-none false = refl

pub has_key-filter : (test : Key → Bool) (keys : List Key) (key : Key) → has_key (filter test keys) key ≡ (test key && has_key keys key)
has_key-filter test [] key = and-none (test key)
has_key-filter test (k ∷ keys) key = filter-by (test k) (same_key k key) test k key keys (filter test keys) refl refl (has_key-filter test keys key)

-- ---- a set after a change
added-by : (here there : Bool) → cond here true there ≡ (here || there)
added-by true there = refl
added-by false there = refl

removed-by : (here there : Bool) → cond here false there ≡ (not here && there)
removed-by true there = refl
removed-by false there = refl

module _ (old new : BTreeSet Key) (key k : Key) where
  -- a key was inserted
  pub contains-added : UpdatesBy key_cmp (key_cmp key) old new true → contains key_cmp new k ≡ (same_key key k || contains key_cmp old k)
  contains-added updates =
      updates.0 k ∙ ap (λ b. cond b true (contains key_cmp old k)) (is_eq-key_cmp key k) ∙ added-by (same_key key k) (contains key_cmp old k)

  -- a key was removed
  pub contains-removed : UpdatesBy key_cmp (key_cmp key) old new false → contains key_cmp new k ≡ (not (same_key key k) && contains key_cmp old k)
  contains-removed updates =
      updates.0 k ∙ ap (λ b. cond b false (contains key_cmp old k)) (is_eq-key_cmp key k) ∙ removed-by (same_key key k) (contains key_cmp old k)

-- those that pass were kept
pub contains-kept : (test : Key → Bool) (old new : BTreeSet Key) → new.keys ≡ filter test old.keys → (k : Key)
    → contains key_cmp new k ≡ (test k && contains key_cmp old k)
contains-kept test old new is k =
    has-at new.keys k ∙ ap (λ (keys : List Key). has_key keys k) is ∙ has_key-filter test old.keys k ∙ ap (λ b. test k && b) (sym (has-at old.keys k))

one-left-by : (lost same there : Bool) → lost ≡ true → (same && there) ≡ ((same || not lost) && there)
one-left-by true true there is = refl
one-left-by true false there is = refl
one-left-by false same there is = absurd (cc)

-- only this key was kept, since a claim was lost
pub contains-one_left : (lost : Bool) (old new : BTreeSet Key) (key : Key) → lost ≡ true → new.keys ≡ filter (λ k. same_key k key) old.keys → (k : Key)
    → contains key_cmp new k ≡ ((same_key key k || not lost) && contains key_cmp old k)
contains-one_left lost old new key is kept k =
    contains-kept (λ x. same_key x key) old new kept k ∙ ap (λ b. b && contains key_cmp old k) (same_key-flip k key)
    ∙ one-left-by lost (same_key key k) (contains key_cmp old k) is
