use Rattle.std.proofs.Common.{◌≡◌, Bool, true, false, cond, ◌&&◌, not, IfOk, refl, sym, ap, subst, ◌∙◌}
use Rattle.alloc_book.specs.declared.choice.Choice.{Choice}
use Rattle.alloc_book.specs.Asking.{asking, asked_in, is_asked}
use Rattle.alloc_book.specs.Choose.{fits_option}
use Rattle.alloc_book.proofs.choosing.Choosing.fitting.Goals as goal
use Rattle.alloc_book.proofs.choosing.Choosing.fitting.Goals.{else-is_asked-via-then-is_asked+else-not-fits_option, else-is_asked-via-else-is_asked}

both-true : (a b : Bool) → a ≡ true → b ≡ false → (a && not b) ≡ true
both-true a b e f = rw (e, f) refl

first-false : (a b : Bool) → a ≡ false → (a && not b) ≡ false
first-false a b e = rw e refl

second-false : (a b : Bool) → a ≡ true → b ≡ true → (a && not b) ≡ false
second-false a b e f = rw (e, f) refl

here : {C : Type 0} (b : Bool) (x y : C) → b ≡ true → x ≡ cond b x y
here b x y e = rw e refl

past : {C : Type 0} (b : Bool) (x y : C) → b ≡ false → y ≡ cond b x y
past b x y e = rw e refl

pub returns-then-not-fits_option : goal.returns-then-not-fits_option
returns-then-not-fits_option c =
    let service = c.args.self.now.service.now in
    let q = asking service c.args.self.now.terms.now in
    here (is_asked service.wanted && not (fits_option q (asked_in service.wanted))) _ _
    (both-true (is_asked service.wanted) (fits_option q (asked_in service.wanted))
    (sym c.is_asked.ensures ∙ c.if-is_asked.true)
    (ap (fits_option q) (sym c.asked_in.ensures) ∙ sym c.fits_option.ensures ∙ c.if-not-fits_option.true))

pub returns : goal.returns
returns c =
    let service = c.args.self.now.service.now in
    let q = asking service c.args.self.now.terms.now in
    let fits = fits_option q (asked_in service.wanted) in
    let out : (is_asked service.wanted && not fits) ≡ false = elim c.else-is_asked.branch [
      | else-is_asked-via-then-is_asked+else-not-fits_option w ↦ second-false (is_asked service.wanted) fits
          (sym c.is_asked.ensures ∙ w.if-is_asked.true)
          (ap (fits_option q) (sym w.asked_in.ensures) ∙ sym w.fits_option.ensures ∙ w.if-not-fits_option.false)
      | else-is_asked-via-else-is_asked w ↦ first-false (is_asked service.wanted) fits (sym c.is_asked.ensures ∙ w.if-is_asked.false)
    ] in
    subst (λ (z : Choice). IfOk c.pooled.result (λ (d : Choice). d ≡ z)) (past (is_asked service.wanted && not fits) _ _ out) c.pooled.ensures
