-- The rows, stage by stage.
use Rattle.std.proofs.Common.{◌≡◌, ℕ, List, [], ◌∷◌, ◌++◌, Option, Some, None, Ok, Err, true, refl, sym, ◌∙◌, ap}
use Rattle.std.specs.Option.{option_map, option_or}
use Rattle.mlb_base.proofs.Bools.{Decides-itself}
use Rattle.kube_model.specs.declared.config_fault.ConfigFault.{ConfigFault}
use Rattle.ip_ranges.specs.Values.{SpanValue}
use Rattle.pool_config.specs.declared.object_set.ObjectSet.{ObjectSet}
use Rattle.pool_config.specs.Compile.{compiled, compiled_unless}
use Rattle.pool_config.specs.ConfigValue.{AreApart, placed_spans}
use Rattle.pool_config.specs.Faults.{Row, Overlap, rows, fault_at, key_of, FaultyPair}
use Rattle.pool_config.specs.Lists.{lists_of}
use Rattle.pool_config.specs.Objects.{Objects, objects_of}
use Rattle.pool_config.specs.Search.{found_among, found_at, first_fault, first_pair, meet, pool_rows, later_rows}
use Rattle.pool_config.proofs.Firsts.{Finds, finds_pair}
use Rattle.pool_config.proofs.PairSearch.{or_or}
use Rattle.pool_config.proofs.Shared.{overlaps-from}

pub found-append : (o : Objects) (xs ys : List Row) → found_among o (xs ++ ys) ≡ option_or (found_among o xs) (found_among o ys)
found-append o [] ys = refl
found-append o (x ∷ xs) ys =
    ap (λ r. option_or (option_map (fault_at x) (found_at o x)) r) (found-append o xs ys)
    ∙ sym (or_or (option_map (fault_at x) (found_at o x)) (found_among o xs) (found_among o ys))

pub passed : (o : Objects) (xs ys : List Row) (r : Option ConfigFault) → found_among o xs ≡ None → found_among o ys ≡ r → found_among o (xs ++ ys) ≡ r
passed o xs ys r none rest = found-append o xs ys ∙ rw none rest

pub stopped : (o : Objects) (xs ys : List Row) (fault : ConfigFault) → found_among o xs ≡ Some fault → found_among o (xs ++ ys) ≡ Some fault
stopped o xs ys fault found = found-append o xs ys ∙ rw found refl

module _ (s : ObjectSet) where
  refused : (fault : ConfigFault) → found_among (objects_of s) rows ≡ Some fault → compiled s ≡ Err fault
  unfolding first_fault
  refused fault e = ap (λ r. compiled_unless r (lists_of (objects_of s))) e

  accepted : found_among (objects_of s) rows ≡ None → compiled s ≡ Ok (lists_of (objects_of s))
  unfolding first_fault
  accepted e = ap (λ r. compiled_unless r (lists_of (objects_of s))) e

  pub refused_pools : (fault : ConfigFault) → found_among (objects_of s) pool_rows ≡ Some fault → compiled s ≡ Err fault
  refused_pools fault e = refused fault (stopped (objects_of s) pool_rows later_rows fault e)

  pub refused_later : found_among (objects_of s) pool_rows ≡ None
      → (fault : ConfigFault) → found_among (objects_of s) later_rows ≡ Some fault → compiled s ≡ Err fault
  refused_later a fault e = refused fault (passed (objects_of s) pool_rows later_rows (Some fault) a e)

  pub accepted_all : found_among (objects_of s) pool_rows ≡ None → found_among (objects_of s) later_rows ≡ None → compiled s ≡ Ok (lists_of (objects_of s))
  accepted_all a b = accepted (passed (objects_of s) pool_rows later_rows None a b)

-- spans of which no two are found to overlap
pub apart_spans : (spans : List (List ℕ × SpanValue)) → first_pair key_of meet spans ≡ None → AreApart spans
apart_spans spans none = go (first_pair key_of meet spans) none (finds_pair key_of meet (λ a b. meet a b ≡ true) (λ a b. Decides-itself (meet a b)) spans)
  where
    go : (r : Option (List ℕ)) → r ≡ None → Finds (FaultyPair key_of (λ a b. meet a b ≡ true) spans) r → AreApart spans
    go None e found = λ i j a b below ha hb (x, in_a, in_b).
        found i j b.0
        (record { one = a; other = b; ordered = below; one_stands = ha; other_stands = hb; faulty = overlaps-from a.1 b.1 x in_a in_b; named = refl })
    go (Some name) e found = absurd (let h : Some name ≡ None = e in cc)

none_first : {A B : Type 0} (f : A → B) (r : Option A) (rest : Option B) → option_or (option_map f r) rest ≡ None → r ≡ None
none_first f None rest e = refl
none_first f (Some x) rest e = absurd (let h : Some (f x) ≡ None = e in cc)

pub apart_unless : (o : Objects) → found_among o later_rows ≡ None → AreApart (placed_spans (lists_of o).pools)
apart_unless o e = apart_spans (placed_spans (lists_of o).pools) (none_first (fault_at Overlap) (first_pair key_of meet (placed_spans (lists_of o).pools)) _ e)
