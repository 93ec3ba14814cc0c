-- One turn of a loop over a list.
use Rattle.std.proofs.Common.{◌≡◌, ℕ, ◌+◌, ◌<◌, Bool, true, false, List, [], ◌∷◌, ◌++◌, length, get_or, drop, Option, Some, None}
use Rattle.std.proofs.Common.{Ordering, is_some, cond, ◌||◌, refl, sym, ◌∙◌, ap, append_assoc}
use Rattle.std.proofs.lemmas.List.{drop_more}
use Rattle.std.specs.BTreeSet.{insert_key}
use Rattle.std.specs.Borrow.{Bor}
use Rattle.std.specs.List.{AllByRecursion, filter_map, list_any}
use Rattle.std.specs.Option.{option_copied}
use Rattle.pool_config.specs.KeySets.{keys_with}
use Rattle.pool_config.specs.Search.{first_name}

module _ {X : Type 0} where
  -- the item at the place is the first that is left
  pub left_at : (xs : List X) (i : ℕ) (x : X) → i < length xs → x ≡ get_or xs i x → drop i xs ≡ x ∷ drop (i + 1) xs
  left_at xs i x below is = drop_more xs i x below ∙ ap (λ y. y ∷ drop (i + 1) xs) (sym is)

  -- it holds of the item and of those after it
  pub holds_at : (P : X → Type 0) (xs : List X) (i : ℕ) (x : X) → i < length xs → x ≡ get_or xs i x → P x → AllByRecursion P (drop (i + 1) xs)
      → AllByRecursion P (drop i xs)
  holds_at P xs i x below is here later = rw (left_at xs i x below is) (here, later)

module _ {X Y : Type 0} (h : X → Option Y) (xs : List X) (i : ℕ) (x : X) (below : i < length xs) (is : x ≡ get_or xs i x) where
  -- what is read of the item is appended
  pub one_appended : (y : Y) (before after all : List Y) → h x ≡ Some y → after ≡ before ++ y ∷ []
      → before ++ filter_map h (drop i xs) ≡ all → after ++ filter_map h (drop (i + 1) xs) ≡ all
  one_appended y before after all reads pushed so_far =
      let whole : before ++ y ∷ filter_map h (drop (i + 1) xs) ≡ all = rw (left_at xs i x below is, reads) at so_far in
      rw (pushed, append_assoc) whole

  -- nothing is read of it
  pub none_appended : (before all : List Y) → h x ≡ None → before ++ filter_map h (drop i xs) ≡ all → before ++ filter_map h (drop (i + 1) xs) ≡ all
  none_appended before all reads so_far = rw (left_at xs i x below is, reads) at so_far

  module _ (R : Y → Y → Ordering) where
    -- what is read of it is put in
    pub one_read : (y : Y) (before after all : List Y) → h x ≡ Some y → after ≡ insert_key R before y
        → keys_with R before (filter_map h (drop i xs)) ≡ all → keys_with R after (filter_map h (drop (i + 1) xs)) ≡ all
    one_read y before after all reads put so_far = rw put (rw (left_at xs i x below is, reads) at so_far)

    pub none_read : (before all : List Y) → h x ≡ None → keys_with R before (filter_map h (drop i xs)) ≡ all
        → keys_with R before (filter_map h (drop (i + 1) xs)) ≡ all
    none_read before all reads so_far = rw (left_at xs i x below is, reads) at so_far

-- whether there is a name shows whether an item passes
pub copied_some : {X : Type 0} (o : Option (Bor X)) → is_some (option_copied o) ≡ is_some o
copied_some None = refl
copied_some (Some x) = refl

pub found_any : {X : Type 0} (p : X → Bool) (items : List (List ℕ × X)) → is_some (first_name p items) ≡ list_any (λ e. p e.1) items
found_any p [] = refl
found_any {X} p (e ∷ more) = go (p e.1) (found_any p more)
  where
    go : (b : Bool) → is_some (first_name p more) ≡ list_any (λ (d : List ℕ × X). p d.1) more
        → is_some (cond b (Some e.0) (first_name p more)) ≡ (b || list_any (λ (d : List ℕ × X). p d.1) more)
    go true later = refl
    go false later = later
