-- One draw, and then those that are left.
use Rattle.std.proofs.Common.{◌≡◌, ℕ, suc, ◌+◌, ◌-◌, ◌<◌, List, ◌∷◌, refl, sym, ap, ◌∙◌, add_assoc, arith}
use Rattle.world_rules.specs.World.{WorldValue}
use Rattle.world_trial.specs.Draws.{drawn, next_state, draws}
use Rattle.world_trial.specs.Run.{after_draw, draw_puts, after_draws, draws_puts}

draws-left : (s n i : ℕ) → i < n → draws s (n - i) ≡ drawn s ∷ draws (next_state s) (n - (i + 1))
draws-left s n i less = let e : n - i ≡ suc (n - (i + 1)) = omega arith in rw e refl

module _ (s n i x t : ℕ) (w v : WorldValue) (less : i < n) (is-drawn : x ≡ drawn s) (is-next : t ≡ next_state s) (is-after : v ≡ after_draw x w) where
  pub world-left : after_draws (draws t (n - (i + 1))) v ≡ after_draws (draws s (n - i)) w
  world-left = rw (is-after, is-drawn, is-next) (sym (ap (λ (xs : List ℕ). after_draws xs w) (draws-left s n i less)))

  pub puts-left : (before puts : ℕ) → puts ≡ draw_puts x w → before + puts + draws_puts (draws t (n - (i + 1))) v ≡ before + draws_puts (draws s (n - i)) w
  puts-left before puts is-puts =
      rw (is-puts, is-after, is-drawn, is-next)
      (add_assoc before (draw_puts (drawn s) w) (draws_puts (draws (next_state s) (n - (i + 1))) (after_draw (drawn s) w))
      ∙ sym (ap (λ (xs : List ℕ). before + draws_puts xs w) (draws-left s n i less)))
