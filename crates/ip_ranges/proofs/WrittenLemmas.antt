-- The digits of small numbers.
use Rattle.std.proofs.Common.{◌≡◌, ℕ, ◌+◌, ◌/◌, ◌%◌, ◌<◌, ◌≤◌, List, [], ◌∷◌, ◌++◌, decimal, refl, ap, ◌∙◌}
use Rattle.std.proofs.Common.{arith, append_assoc, le-leb, take, drop, subst, lt-ltb, le-ltb}
use Rattle.std.proofs.lemmas.Bool.{lt-leb}
use Rattle.std.proofs.lemmas.Fmt.{decimal_digit, decimal_step}
use Rattle.std.proofs.Math.Nat.{div-div-eq-div-mul}
use Rattle.std.specs.Char.{digit_char}
use Rattle.std.specs.Net.Text.{hex, groups_text, longest_zero_run, hex_groups_text}

pub decimal_two : (n : ℕ) → 10 ≤ n → n < 100 → decimal n ≡ (48 + n / 10) ∷ (48 + n % 10) ∷ []
decimal_two n low high = decimal_step n low (omega arith) ∙ ap (λ ds. ds ++ (48 + n % 10) ∷ []) (decimal_digit (n / 10) (omega arith))

pub decimal_three : (n : ℕ) → 100 ≤ n → n < 256 → decimal n ≡ (48 + n / 100) ∷ (48 + n / 10 % 10) ∷ (48 + n % 10) ∷ []
decimal_three n low high =
    decimal_step n (omega arith) (omega arith)
    ∙ ap (λ ds. ds ++ (48 + n % 10) ∷ [])
    (decimal_two (n / 10) (omega arith) (omega arith) ∙ ap (λ d. (48 + d) ∷ (48 + n / 10 % 10) ∷ []) (div-div-eq-div-mul n 10 10))

pub hex_one : (n : ℕ) → n < 0x10 → hex n ≡ digit_char n ∷ []
unfolding hex
hex_one n h =
    let last : n % 16 ≡ n = omega arith in
    rw (lt-leb 0x1000 n (omega arith), lt-leb 0x100 n (omega arith), lt-leb 0x10 n h) (ap (λ d. digit_char d ∷ []) last)

pub hex_two : (n : ℕ) → 0x10 ≤ n → n < 0x100 → hex n ≡ digit_char (n / 0x10) ∷ digit_char (n % 0x10) ∷ []
unfolding hex
hex_two n low high =
    let first : n / 0x10 % 16 ≡ n / 0x10 = omega arith in
    rw (lt-leb 0x1000 n (omega arith), lt-leb 0x100 n high, le-leb 0x10 n low) (ap (λ d. digit_char d ∷ digit_char (n % 0x10) ∷ []) first)

pub hex_three : (n : ℕ) → 0x100 ≤ n → n < 0x1000 → hex n ≡ digit_char (n / 0x100) ∷ digit_char (n / 0x10 % 0x10) ∷ digit_char (n % 0x10) ∷ []
unfolding hex
hex_three n low high =
    let first : n / 0x100 % 16 ≡ n / 0x100 = omega arith in
    rw (lt-leb 0x1000 n high, le-leb 0x100 n low) (ap (λ d. digit_char d ∷ digit_char (n / 0x10 % 0x10) ∷ digit_char (n % 0x10) ∷ []) first)

pub hex_four : (n : ℕ) → 0x1000 ≤ n
    → hex n ≡ digit_char (n / 0x1000) ∷ digit_char (n / 0x100 % 0x10) ∷ digit_char (n / 0x10 % 0x10) ∷ digit_char (n % 0x10) ∷ []
unfolding hex
hex_four n low = rw (le-leb 0x1000 n low) refl

-- one byte after another
pub then_two : (a b : ℕ) (start one two : List ℕ) → one ≡ start ++ a ∷ [] → two ≡ one ++ b ∷ [] → two ≡ start ++ a ∷ b ∷ []
then_two a b start one two e f = f ∙ ap (λ t. t ++ b ∷ []) e ∙ append_assoc start (a ∷ []) (b ∷ [])

pub then_three : (a b c : ℕ) (start one two three : List ℕ) → one ≡ start ++ a ∷ [] → two ≡ one ++ b ∷ [] → three ≡ two ++ c ∷ []
    → three ≡ start ++ a ∷ b ∷ c ∷ []
then_three a b c start one two three e f g = g ∙ ap (λ t. t ++ c ∷ []) (then_two a b start one two e f) ∙ append_assoc start (a ∷ b ∷ []) (c ∷ [])

pub then_four : (a b c d : ℕ) (start one two three four : List ℕ) → one ≡ start ++ a ∷ [] → two ≡ one ++ b ∷ [] → three ≡ two ++ c ∷ [] → four ≡ three ++ d ∷ []
    → four ≡ start ++ a ∷ b ∷ c ∷ d ∷ []
then_four a b c d start one two three four e f g h =
    h ∙ ap (λ t. t ++ d ∷ []) (then_three a b c start one two three e f g) ∙ append_assoc start (a ∷ b ∷ c ∷ []) (d ∷ [])

pub compressed_short : (groups segments : List ℕ) (run : ℕ × ℕ) → groups ≡ segments → run ≡ longest_zero_run groups → run.1 < 2
    → groups_text groups ≡ hex_groups_text segments
unfolding hex_groups_text
compressed_short groups segments run same is short =
    let len : (longest_zero_run groups).1 ≤ 1 = let one = ap (λ (r : ℕ × ℕ). r.1) is in omega arith in
    subst (λ t. groups_text groups ≡ hex_groups_text t) same (rw (le-ltb 1 (longest_zero_run groups).1 len) refl)

pub compressed_long : (groups segments : List ℕ) (run : ℕ × ℕ) → groups ≡ segments → run ≡ longest_zero_run groups → 2 ≤ run.1
    → groups_text (take run.0 groups) ++ (58 ∷ 58 ∷ []) ++ groups_text (drop (run.0 + run.1) groups) ≡ hex_groups_text segments
unfolding hex_groups_text
compressed_long groups segments run same is long =
    let len : 1 < (longest_zero_run groups).1 = let one = ap (λ (r : ℕ × ℕ). r.1) is in omega arith in
    subst (λ t. groups_text (take run.0 groups) ++ (58 ∷ 58 ∷ []) ++ groups_text (drop (run.0 + run.1) groups) ≡ hex_groups_text t) same
    (rw (lt-ltb 1 (longest_zero_run groups).1 len, is) refl)

-- two colons between what stands before and after them
pub then_colons : (start one two : List ℕ) (all : List ℕ) (rest : List ℕ) → one ≡ start ++ 58 ∷ [] → two ≡ one ++ 58 ∷ [] → all ≡ two ++ rest
    → all ≡ start ++ (58 ∷ 58 ∷ []) ++ rest
then_colons start one two all rest e f g = g ∙ ap (λ t. t ++ rest) (then_two 58 58 start one two e f)
