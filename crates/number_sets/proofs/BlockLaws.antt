-- Sets of numbers with closed numbers beside them.
use Rattle.std.proofs.Common.{◌≡◌, ℕ, Bool, true, false, not, ◌&&◌, ◌||◌, ◌==◌, refl, sym, ap, ◌∙◌}
use Rattle.std.proofs.lemmas.Bool.{or_right}
use Rattle.number_sets.specs.Runs.{RunsValue, has}
use Rattle.number_sets.specs.Blocks.{is_edge, IsLeft, AreClosed}

pub none-closed : (numbers closed : RunsValue) → has closed ≡ (λ n. false) → AreClosed numbers closed
none-closed numbers closed none n here = absurd (let no : has closed n ≡ false = ap (λ (f : ℕ → Bool). f n) none in cc)

pub same-closed : (numbers numbers' closed closed' : RunsValue) → has numbers' ≡ has numbers → has closed' ≡ has closed → AreClosed numbers closed
    → AreClosed numbers' closed'
same-closed numbers numbers' closed closed' numbers_are closed_are are n here =
    ap (λ (f : ℕ → Bool). is_edge n || f n) numbers_are ∙ are n (sym (ap (λ (f : ℕ → Bool). f n) closed_are) ∙ here)

added-by : (edge here closed held : Bool) → (edge || (here || closed)) ≡ true → (closed ≡ true → (edge || held) ≡ true) → (edge || (here || held)) ≡ true
added-by true here closed held left old = refl
added-by false true closed held left old = refl
added-by false false closed held left old = old left

-- a number was put in, and it and edges may be closed
pub added : (number : ℕ) (before after closed now : RunsValue) → has after ≡ (λ n. (n == number) || has before n)
    → IsLeft (λ n. is_edge n || ((n == number) || has closed n)) now
    → AreClosed before closed → AreClosed after now
added number before after closed now is left old n here =
    ap (λ (f : ℕ → Bool). is_edge n || f n) is ∙ added-by (is_edge n) (n == number) (has closed n) (has before n) (left n here) (old n)

pub unclosed : (number : ℕ) (closed : RunsValue) → IsLeft (λ n. is_edge n || ((n == number) || has closed n)) closed
unclosed number closed n here = or_right (is_edge n) ((n == number) || has closed n) (or_right (n == number) (has closed n) here)

removed-by : (edge here closed held : Bool) → (not here && closed) ≡ true → (closed ≡ true → (edge || held) ≡ true) → (edge || (not here && held)) ≡ true
removed-by true here closed held left old = refl
removed-by false true closed held left old = absurd (cc)
removed-by false false closed held left old = old left

-- a number was taken out, and is closed no more
pub removed : (number : ℕ) (before after closed now : RunsValue) → has after ≡ (λ n. not (n == number) && has before n)
    → IsLeft (λ n. not (n == number) && has closed n) now
    → AreClosed before closed → AreClosed after now
removed number before after closed now is left old n here =
    ap (λ (f : ℕ → Bool). is_edge n || f n) is ∙ removed-by (is_edge n) (n == number) (has closed n) (has before n) (left n here) (old n)
