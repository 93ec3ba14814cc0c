-- The elements of a lane.
use Rattle.std.proofs.Common.{◌≡◌, ◌+◌, Bool, true, false, List, [], ◌∷◌, ◌++◌, length, ◌⊎◌, inl, inr, sym, refl, ap, ◌∙◌, append_assoc, arith}
use Rattle.std.proofs.lemmas.List.{append-nil}
use Rattle.std.proofs.lemmas.List.Elements.{filter-append}
use Rattle.lane_mail.specs.declared.lane.Lane.{Lane}
use Rattle.lane_mail.specs.declared.lane.Lane.TheVariants.{First, Second}
use Rattle.lane_mail.specs.Lanes.{is_lane, other, of_lane}

-- they are one lane or they aren't
pub lane_cases : (a b : Lane) → (a ≡ b) ⊎ (is_lane a b ≡ false)
lane_cases First First = inl refl
lane_cases First Second = inr refl
lane_cases Second First = inr refl
lane_cases Second Second = inl refl

-- what the test of two lanes says
pub is_lane-same : (a : Lane) → is_lane a a ≡ true
is_lane-same First = refl
is_lane-same Second = refl

pub is_lane-true : (a b : Lane) → is_lane a b ≡ true → a ≡ b
is_lane-true First First e = refl
is_lane-true First Second e = absurd (cc)
is_lane-true Second First e = absurd (cc)
is_lane-true Second Second e = refl

pub other_cases : (lane l : Lane) → (l ≡ lane) ⊎ (l ≡ other lane)
other_cases First First = inl refl
other_cases First Second = inr refl
other_cases Second First = inr refl
other_cases Second Second = inl refl

pub bool_cases : (b : Bool) → (b ≡ true) ⊎ (b ≡ false)
bool_cases true = inl refl
bool_cases false = inr refl

module _ {T : Type 0} (lane_of : T → Lane) where
  -- a list of one
  one_in : (lane : Lane) (x : T) → is_lane lane (lane_of x) ≡ true → of_lane lane_of lane (x ∷ []) ≡ x ∷ []
  one_in lane x e = rw e refl

  one_out : (lane : Lane) (x : T) → is_lane lane (lane_of x) ≡ false → of_lane lane_of lane (x ∷ []) ≡ []
  one_out lane x e = rw e refl

  -- what comes last
  last : (lane : Lane) (got items : List T) (x : T)
      → of_lane lane_of lane (got ++ (items ++ x ∷ [])) ≡ of_lane lane_of lane (got ++ items) ++ of_lane lane_of lane (x ∷ [])
  last lane got items x =
      ap (of_lane lane_of lane) (sym (append_assoc got items (x ∷ []))) ∙ filter-append (λ y. is_lane lane (lane_of y)) (got ++ items) (x ∷ [])

  pub last_in : (lane : Lane) (got items : List T) (x : T) → is_lane lane (lane_of x) ≡ true
      → of_lane lane_of lane (got ++ (items ++ x ∷ [])) ≡ of_lane lane_of lane (got ++ items) ++ x ∷ []
  last_in lane got items x e = last lane got items x ∙ ap (λ l. of_lane lane_of lane (got ++ items) ++ l) (one_in lane x e)

  pub last_out : (lane : Lane) (got items : List T) (x : T) → is_lane lane (lane_of x) ≡ false
      → of_lane lane_of lane (got ++ (items ++ x ∷ [])) ≡ of_lane lane_of lane (got ++ items)
  last_out lane got items x e =
      last lane got items x ∙ ap (λ l. of_lane lane_of lane (got ++ items) ++ l) (one_out lane x e) ∙ append-nil (of_lane lane_of lane (got ++ items))

  -- each element is of one lane
  one_length : (lane : Lane) (xs : List T) (x : T) → lane_of x ≡ lane → length (of_lane lane_of First (x ∷ xs)) + length (of_lane lane_of Second (x ∷ xs))
      ≡ length (of_lane lane_of First xs) + length (of_lane lane_of Second xs) + 1
  one_length First xs x e = rw e (omega arith)
  one_length Second xs x e = rw e (omega arith)

  pub both_lengths : (xs : List T) → length (of_lane lane_of First xs) + length (of_lane lane_of Second xs) ≡ length xs
  both_lengths [] = refl
  both_lengths (x ∷ xs) = let rest = both_lengths xs in let one = one_length (lane_of x) xs x refl in omega arith
