-- Tests, by their two answers.
use Rattle.std.proofs.Common.{◌≡◌, Bool, true, false, cond, not, ◌&&◌, ◌||◌, Option, Some, None, is_some, refl, sym, ◌∙◌}
use Rattle.std.proofs.lemmas.Bool.{true≢false}
use Rattle.std.specs.Bool.{Decides}

-- what holds at either answer holds
pub by_bool : (P : Type 0) (b : Bool) → (b ≡ true → P) → (b ≡ false → P) → P
by_bool P true holds fails = holds refl
by_bool P false holds fails = fails refl

-- a test passes no sooner than one that it implies
pub false_before : (b c : Bool) → (b ≡ true → c ≡ true) → c ≡ false → b ≡ false
false_before true c implies e = absurd (true≢false (sym (implies refl) ∙ e))
false_before false c implies e = refl

pub Decides-itself : (b : Bool) → Decides b (b ≡ true)
Decides-itself b = (λ e. e, λ e. e)

-- `||` and `&&` as choices
pub or-cond : (b c : Bool) → (b || c) ≡ cond b true c
or-cond true c = refl
or-cond false c = refl

pub and_not-cond : (b c : Bool) → (not b && c) ≡ cond b false c
and_not-cond true c = refl
and_not-cond false c = refl

-- a choice between one and the same
pub cond-same : {X : Type 0} (b : Bool) (x : X) → cond b x x ≡ x
cond-same true x = refl
cond-same false x = refl

pub none_from : {X : Type 0} (o : Option X) → is_some o ≡ false → o ≡ None
none_from None e = refl
none_from (Some x) e = absurd (true≢false e)
