-- Which node announces an address.
use Rattle.std.specs.Prelude.{ℕ, Bool, ◌≡◌, true, false, if◌then◌else◌, List, ◌++◌, filter, fold, Option, Some, None, codes}
use Rattle.std.specs.declared.cmp.Ordering.{Ordering}
use Rattle.std.specs.Ordering.{nat_cmp, then_cmp, on, is_lt}
use Rattle.std.specs.Cmp.Lexicographic.{slice_cmp}
use Rattle.std.specs.Str.{bytes_eq}
use Rattle.sha2.specs.Sha256.{sha256}
use Rattle.ip_ranges.specs.AddressText.{canonical_text}
use Rattle.ip_ranges.specs.Values.{AddressValue}
use Rattle.kube_labels.specs.Names.{name_cmp}
use Rattle.pool_config.specs.declared.compiled.CompiledL2.{CompiledL2}
use Rattle.pool_config.specs.declared.compiled.CompiledPool.{CompiledPool}
use Rattle.speaker_view.specs.ViewValue.{ViewValue}
use Rattle.l2_elect.specs.Eligible.{is_eligible, is_eligible_by, IsEligible}

-- the SHA-256 (FIPS 180-4) of the node's name, `#` and the text of the address (RFC 5952)
unfoldable pub digest_of : List ℕ → List ℕ → List ℕ
digest_of text node = sha256 (node ++ codes "#" ++ text)

-- by digests, as bytes; ties go by name
abbrev pub rank_cmp : List ℕ → List ℕ → List ℕ → Ordering
rank_cmp text = then_cmp (on (digest_of text) (slice_cmp nat_cmp)) name_cmp

abbrev pub comes_before : List ℕ → List ℕ → List ℕ → Bool
comes_before text m n = is_lt (rank_cmp text m n)

-- The node is eligible for the address, and no eligible node comes before it.
pub record IsAnnouncer (v : ViewValue) (address : AddressValue) (node : List ℕ) : Type 0 where
  pub eligible : IsEligible v address node
  pub least : (m : List ℕ) → IsEligible v address m → comes_before (canonical_text address) m node ≡ false

-- where a node is eligible, exactly one name announces, for all speakers whose views are equal
abbrev pub OneAnnounces : Type 0
OneAnnounces = (v : ViewValue) (address : AddressValue) (node : List ℕ) → IsEligible v address node
    → (name : List ℕ) × IsAnnouncer v address name × ((other : List ℕ) → IsAnnouncer v address other → other ≡ name)

-- where no node is eligible, none announces
abbrev pub OnlyAnEligibleNodeAnnounces : Type 0
OnlyAnEligibleNodeAnnounces = (v : ViewValue) (address : AddressValue) → ((node : List ℕ) → ¬ IsEligible v address node)
    → (name : List ℕ) → ¬ IsAnnouncer v address name

-- ---- the announcer as a function
-- the node comes before the one that is best so far, if any
abbrev pub is_better : List ℕ → Option (List ℕ) → List ℕ → Bool
is_better text None node = true
is_better text (Some best) node = comes_before text node best

-- the better of the two
abbrev pub better : List ℕ → Option (List ℕ) → List ℕ → List ℕ
better text None node = node
better text (Some best) node = if comes_before text node best then node else best

-- the best of the nodes and of the one that is best before them
abbrev pub best_from : List ℕ → Option (List ℕ) → List (List ℕ) → Option (List ℕ)
best_from text best nodes = fold (λ b n. Some (better text b n)) best nodes

-- the best of the eligible members, where the address has this text
abbrev pub elected : ViewValue → AddressValue → List ℕ → Option (List ℕ)
elected v address text = best_from text None (filter (is_eligible v address) v.members)

-- the same for an address of the pool, by these advertisements
abbrev pub best_by : ViewValue → AddressValue → List ℕ → CompiledPool → List CompiledL2 → Option (List ℕ)
best_by v address text pool l2 = best_from text None (filter (is_eligible_by v address pool l2) v.members)

abbrev pub announcer_of : ViewValue → AddressValue → Option (List ℕ)
announcer_of v address = elected v address (canonical_text address)

abbrev pub is_named : List ℕ → Option (List ℕ) → Bool
is_named node None = false
is_named node (Some name) = bytes_eq name node

abbrev pub announces_of : ViewValue → List ℕ → AddressValue → Bool
announces_of v node address = is_named node (announcer_of v address)
