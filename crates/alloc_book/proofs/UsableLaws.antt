-- The tests of usable addresses are their relation.
use Rattle.std.proofs.Common.{◌≡◌, ◌≢◌, Bool, true, false, not, ◌&&◌, ◌||◌, List, refl, sym, ◌∙◌, ⊎_elim}
use Rattle.std.proofs.lemmas.Bool.{and_parts, and_from, or_cases, not-true, true≢false}
use Rattle.std.specs.List.{Contains, list_all}
use Rattle.ip_ranges.specs.Values.{AddressValue, is_buggy, has_address}
use Rattle.ip_ranges.proofs.AddressLaws.{has_address-is, has_address-from}
use Rattle.kube_model.proofs.KeyLaws.{same_key-is, same_key-by}
use Rattle.kube_model.specs.declared.key.Key.{Key}
use Rattle.sharing_terms.specs.declared.terms.Terms.{Terms}
use Rattle.sharing_terms.specs.Sharing.{MayShare, may_share}
use Rattle.mlb_base.proofs.Among.{all-contains, all-from}
use Rattle.sharing_terms.proofs.SharingLaws.{may_share-is, may_share-from}
use Rattle.pool_config.specs.declared.compiled.CompiledPool.{CompiledPool}
use Rattle.claim_index.specs.Claims.{ClaimValue, holders}
use Rattle.kube_model.specs.Keys.{same_key}
use Rattle.claim_index.specs.Reading.{leaves}
use Rattle.claim_index.proofs.ClaimLaws.{claim-of, record-of}
use Rattle.alloc_book.specs.Search.{usable}
use Rattle.alloc_book.specs.Usable.{IsLeftTo, IsUsable, is_in}

-- a claim of another key leaves the address where it may share, or the claim hasn't it
left_by : (key : Key) (terms : Terms) (a : AddressValue) (c : ClaimValue) → leaves key terms a c ≡ true → c.key ≢ key → Contains c.holding.addresses a
    → MayShare terms c.terms
left_by key terms a c e apart there =
    let own = same_key c.key key in
    let free = not (has_address c.holding.addresses a) in
    ⊎_elim
    (λ first. ⊎_elim
    (λ same. absurd (apart (same_key-is c.key key same)))
    (λ gone. absurd (true≢false (sym (has_address-from c.holding.addresses a there) ∙ not-true (has_address c.holding.addresses a) gone)))
    (or_cases own free first))
    (λ shared. may_share-is terms c.terms shared)
    (or_cases (own || free) (may_share terms c.terms) e)

pub left-is : (claims : List ClaimValue) (key : Key) (terms : Terms) (a : AddressValue) → list_all (leaves key terms a) claims ≡ true
    → IsLeftTo (holders claims) key terms a
left-is claims key terms a e other apart c there has =
    let found = claim-of claims other c there in
    left_by key terms a c (all-contains (leaves key terms a) claims c e found.0) (λ same. apart (sym found.1 ∙ same)) has

left_from : (b h s : Bool) → (b ≡ false → h ≡ true → s ≡ true) → (b || not h || s) ≡ true
left_from true h s each = refl
left_from false false s each = refl
left_from false true s each = each refl refl

pub left-from : (claims : List ClaimValue) (key : Key) (terms : Terms) (a : AddressValue) → IsLeftTo (holders claims) key terms a
    → list_all (leaves key terms a) claims ≡ true
left-from claims key terms a left =
    all-from (leaves key terms a) claims (λ c there.
    left_from (same_key c.key key) (has_address c.holding.addresses a) (may_share terms c.terms)
    (λ other has. may_share-from terms c.terms
    (left c.key (λ same. true≢false (sym (same_key-by c.key key same) ∙ other)) c (record-of claims c there) (has_address-is c.holding.addresses a has))))

not_both : (b h : Bool) → not (b && h) ≡ true → b ≡ true → h ≡ false
not_both true true e s = absurd (true≢false (sym e))
not_both true false e s = refl
not_both false h e s = absurd (true≢false (sym s))

not_both_from : (b h : Bool) → (b ≡ true → h ≡ false) → not (b && h) ≡ true
not_both_from true true each = absurd (true≢false (each refl))
not_both_from true false each = refl
not_both_from false h each = refl

pub usable-is : (claims : List ClaimValue) (key : Key) (terms : Terms) (pool : CompiledPool) (a : AddressValue) → usable claims key terms pool a ≡ true
    → IsUsable (holders claims) key terms pool a
usable-is claims key terms pool a e =
    let two = and_parts (is_in pool a && not (pool.avoid_buggy && is_buggy a)) (list_all (leaves key terms a) claims) e in
    let one = and_parts (is_in pool a) (not (pool.avoid_buggy && is_buggy a)) two.0 in
    record {
      in_pool = one.0;
      not_avoided = not_both pool.avoid_buggy (is_buggy a) one.1;
      left = left-is claims key terms a two.1;
    }

pub usable-from : (claims : List ClaimValue) (key : Key) (terms : Terms) (pool : CompiledPool) (a : AddressValue) → IsUsable (holders claims) key terms pool a
    → usable claims key terms pool a ≡ true
usable-from claims key terms pool a u =
    and_from (is_in pool a && not (pool.avoid_buggy && is_buggy a)) (list_all (leaves key terms a) claims)
    (and_from (is_in pool a) (not (pool.avoid_buggy && is_buggy a)) u.in_pool (not_both_from pool.avoid_buggy (is_buggy a) u.not_avoided))
    (left-from claims key terms a u.left)
