-- Lists of keys: what stands in them, and what is left of them.
use Rattle.std.proofs.Common.{◌≡◌, cond, not, ◌||◌, List, [], ◌∷◌, filter, refl, ap, ◌∙◌}
use Rattle.std.specs.List.{list_any}
use Rattle.std.specs.BTreeMap.{is_at}
use Rattle.kube_model.specs.declared.key.Key.{Key}
use Rattle.kube_model.specs.Keys.{key_cmp, same_key, has_key, without}
use Rattle.kube_model.proofs.KeyLaws.{is_eq-key_cmp, same_key-flip}

-- ---- a key in a list, by the order and by the test
at-is : (key k : Key) → is_at (key_cmp key) k ≡ same_key k key
at-is key k = is_eq-key_cmp key k ∙ same_key-flip key k

pub has-at : (keys : List Key) (key : Key) → list_any (is_at (key_cmp key)) keys ≡ has_key keys key
has-at [] key = refl
has-at (k ∷ keys) key = ap (λ b. b || list_any (is_at (key_cmp key)) keys) (at-is key k) ∙ ap (λ b. same_key k key || b) (has-at keys key)

-- ---- a key in a list, by the test the other way round
pub any-has : (keys : List Key) (key : Key) → list_any (same_key key) keys ≡ has_key keys key
any-has [] key = refl
any-has (k ∷ keys) key = ap (λ b. b || list_any (same_key key) keys) (same_key-flip key k) ∙ ap (λ b. same_key k key || b) (any-has keys key)

pub without-flip : (keys : List Key) (key : Key) → filter (λ k. not (same_key key k)) keys ≡ without key keys
without-flip [] key = refl
without-flip (k ∷ keys) key =
    ap (λ b. cond (not b) (k ∷ filter (λ k. not (same_key key k)) keys) (filter (λ k. not (same_key key k)) keys)) (same_key-flip key k)
    ∙ ap (λ (ks : List Key). cond (not (same_key k key)) (k ∷ ks) ks) (without-flip keys key)
