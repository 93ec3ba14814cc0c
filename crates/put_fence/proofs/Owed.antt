-- The first of what is owed.
use Rattle.std.proofs.Common.{◌≡◌, ◌<◌, List, [], ◌∷◌, ◌++◌, length, take, drop, slice_index_or, refl, ap, arith}
use Rattle.put_fence.specs.declared.lease.ServiceVersion.{ServiceVersion}
use Rattle.put_fence.specs.Fences.{but_first, first_last}

pub rest_removed : (owed : List ServiceVersion) → take 0 owed ++ drop 1 owed ≡ but_first owed
rest_removed [] = refl
rest_removed (n ∷ more) = refl

pub none_first : (owed : List ServiceVersion) → length owed ≡ 0 → owed ≡ but_first owed
none_first [] none = refl
none_first (n ∷ more) none = absurd (omega (arith, none))

pub last_moved : (owed : List ServiceVersion) (first : ServiceVersion) → 0 < length owed → first ≡ slice_index_or owed 0 first
    → (take 0 owed ++ drop 1 owed) ++ first ∷ [] ≡ first_last owed
last_moved [] first some is = absurd (omega (arith, some))
last_moved (n ∷ more) first some is = ap (λ (m : ServiceVersion). more ++ m ∷ []) is

pub none_last : (owed : List ServiceVersion) → length owed ≡ 0 → owed ≡ first_last owed
none_last [] none = refl
none_last (n ∷ more) none = absurd (omega (arith, none))
