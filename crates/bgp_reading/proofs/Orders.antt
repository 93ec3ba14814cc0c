-- Prefixes of which each is behind the one before ascend, and prefixes that ascend are so.
use Rattle.std.proofs.Common.{◌≡◌, true, List, [], ◌∷◌, Option, Some, None, refl}
use Rattle.std.proofs.lemmas.Bool.{and_parts, and_from}
use Rattle.std.specs.List.{list_all}
use Rattle.ip_ranges.specs.Values.{PrefixValue}
use Rattle.bgp_updates.specs.Tables.{Ascend, before}
use Rattle.bgp_updates.proofs.Halves.{before-rest}
use Rattle.bgp_reading.specs.Reading.{comes_behind, follow}

follow-all : (p : PrefixValue) (prefixes : List PrefixValue) → follow (Some p) prefixes ≡ true → list_all (before p) prefixes ≡ true
follow-all p [] h = refl
follow-all p (q ∷ rest) h =
    let both = and_parts (before p q) (follow (Some q) rest) h in
    and_from (before p q) (list_all (before p) rest) both.0 (before-rest p q rest both.0 (follow-all q rest both.1))

pub follow-ascend : (last : Option PrefixValue) (prefixes : List PrefixValue) → follow last prefixes ≡ true → Ascend prefixes
follow-ascend last [] h = tt
follow-ascend last (q ∷ rest) h =
    let both = and_parts (comes_behind last q) (follow (Some q) rest) h in
    (follow-all q rest both.1, follow-ascend (Some q) rest both.1)

pub ascend-follow : (prefixes : List PrefixValue) → Ascend prefixes → follow None prefixes ≡ true
ascend-follow [] ascend = refl
ascend-follow (p ∷ rest) ascend = behind-follow p rest ascend
  where
    behind-follow : (p : PrefixValue) (rest : List PrefixValue) → Ascend (p ∷ rest) → follow (Some p) rest ≡ true
    behind-follow p [] ascend = refl
    behind-follow p (q ∷ rest) ascend =
        let both = and_parts (before p q) (list_all (before p) rest) ascend.0 in
        and_from (before p q) (follow (Some q) rest) both.0 (behind-follow q rest ascend.1)
