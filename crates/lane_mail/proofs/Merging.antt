-- A list is a merge of what it has of each lane, and of no other lists of one lane each.
use Rattle.std.proofs.Common.{◌≡◌, true, false, List, [], ◌∷◌, All, refl, sym, ap, ◌∙◌, inl, inr}
use Rattle.std.proofs.lemmas.List.Elements.{All-head, All-same, All-rest}
use Rattle.lane_mail.specs.declared.lane.Lane.{Lane}
use Rattle.lane_mail.specs.declared.lane.Lane.TheVariants.{First, Second}
use Rattle.lane_mail.specs.Lanes.{is_lane, of_lane}
use Rattle.lane_mail.specs.Merges.{IsMerge}

module _ {T : Type 0} (lane_of : T → Lane) where
  -- with one more in front
  merged_with : (lane : Lane) (x : T) (list : List T) → lane_of x ≡ lane → IsMerge list (of_lane lane_of First list) (of_lane lane_of Second list)
      → IsMerge (x ∷ list) (of_lane lane_of First (x ∷ list)) (of_lane lane_of Second (x ∷ list))
  merged_with First x list e rest = rw e (inl (of_lane lane_of First list, refl, rest))
  merged_with Second x list e rest = rw e (inr (of_lane lane_of Second list, refl, rest))

  -- a list is a merge of what it has of each lane
  pub merged : (list : List T) → IsMerge list (of_lane lane_of First list) (of_lane lane_of Second list)
  merged [] = (refl, refl)
  merged (x ∷ list) = merged_with (lane_of x) x list refl (merged list)

  -- whether the first element is of the lane
  in_lane : (lane : Lane) (x : T) (list : List T) → is_lane lane (lane_of x) ≡ true → of_lane lane_of lane (x ∷ list) ≡ x ∷ of_lane lane_of lane list
  in_lane lane x list e = rw e refl

  out_of_lane : (lane : Lane) (x : T) (list : List T) → is_lane lane (lane_of x) ≡ false → of_lane lane_of lane (x ∷ list) ≡ of_lane lane_of lane list
  out_of_lane lane x list e = rw e refl

  -- what holds of all holds of the first
  first_of_all : (P : T → Type 0) (x : T) (xs ys : List T) → ys ≡ x ∷ xs → All P ys → P x
  first_of_all P x xs ys e all = All-head P x xs (All-same P (x ∷ xs) ys (sym e) all)

  -- a merge of two lists of one lane each has just these of each lane
  pub split : (list firsts seconds : List T) → All (λ x. lane_of x ≡ First) firsts → All (λ x. lane_of x ≡ Second) seconds
      → IsMerge list firsts seconds → (of_lane lane_of First list ≡ firsts) × (of_lane lane_of Second list ≡ seconds)
  split [] firsts seconds f s m = (sym m.0, sym m.1)
  split (x ∷ list) firsts seconds f s (inl m) =
      let first : lane_of x ≡ First = first_of_all (λ y. lane_of y ≡ First) x m.0 firsts m.1 f in
      let rest = split list m.0 seconds (All-rest (λ y. lane_of y ≡ First) x m.0 firsts m.1 f) s m.2 in (
        in_lane First x list (ap (is_lane First) first) ∙ (ap (λ l. x ∷ l) rest.0 ∙ sym m.1),
        out_of_lane Second x list (ap (is_lane Second) first) ∙ rest.1,
      )
  split (x ∷ list) firsts seconds f s (inr m) =
      let second : lane_of x ≡ Second = first_of_all (λ y. lane_of y ≡ Second) x m.0 seconds m.1 s in
      let rest = split list firsts m.0 f (All-rest (λ y. lane_of y ≡ Second) x m.0 seconds m.1 s) m.2 in (
        out_of_lane First x list (ap (is_lane First) second) ∙ rest.0,
        in_lane Second x list (ap (is_lane Second) second) ∙ (ap (λ l. x ∷ l) rest.1 ∙ sym m.1),
      )
