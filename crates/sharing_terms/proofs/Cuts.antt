-- Texts that are cut at a byte that the parts lack.
use Rattle.std.proofs.Common.{◌≡◌, ℕ, ◌+◌, ◌-◌, ◌*◌, ◌/◌, ◌%◌, ◌<◌, ◌^◌, suc, zero, Bool, true, false, cond, not, ◌&&◌, eqb, leb}
use Rattle.std.proofs.Common.{ltb, List, [], ◌∷◌, ◌++◌, map, get_or, Option, Some, None, decimal, refl, ap, ◌∙◌, append-nil, arith}
use Rattle.std.proofs.lemmas.Bool.{eq-eqb, and_parts, not-true, le-leb, lt-ltb}
use Rattle.std.proofs.lemmas.Fmt.{decimal_by_steps}
use Rattle.std.specs.List.{list_all, flat_map, AllByRecursion}
use Rattle.hex.specs.Hex.{encode_with, encode_lower, lower_digits}
use Rattle.sharing_terms.specs.Spelled.{ahead_of, behind, pieces, extended, number_from}

-- the text hasn't the byte
abbrev pub Lacks : ℕ → List ℕ → Type 0
Lacks byte text = AllByRecursion (λ c. eqb c byte ≡ false) text

lacks-test : (byte : ℕ) (text : List ℕ) → list_all (λ c. not (eqb c byte)) text ≡ true → Lacks byte text
lacks-test byte [] e = tt
lacks-test byte (c ∷ text) e =
    let parts = and_parts (not (eqb c byte)) (list_all (λ d. not (eqb d byte)) text) e in
    (not-true (eqb c byte) parts.0, lacks-test byte text parts.1)

pub lacks-append : (byte : ℕ) (xs ys : List ℕ) → Lacks byte xs → Lacks byte ys → Lacks byte (xs ++ ys)
lacks-append byte [] ys here there = there
lacks-append byte (x ∷ xs) ys here there = (here.0, lacks-append byte xs ys here.1 there)

pub ahead-found : (byte : ℕ) (xs ys : List ℕ) → Lacks byte xs → ahead_of byte (xs ++ byte ∷ ys) ≡ xs
ahead-found byte [] ys lacks = let same : eqb byte byte ≡ true = eq-eqb byte byte refl in rw same refl
ahead-found byte (x ∷ xs) ys lacks = let first = lacks.0 in rw first (ap (λ (zs : List ℕ). x ∷ zs) (ahead-found byte xs ys lacks.1))

pub behind-found : (byte : ℕ) (xs ys : List ℕ) → Lacks byte xs → behind byte (xs ++ byte ∷ ys) ≡ ys
behind-found byte [] ys lacks = let same : eqb byte byte ≡ true = eq-eqb byte byte refl in rw same refl
behind-found byte (x ∷ xs) ys lacks = let first = lacks.0 in rw first (behind-found byte xs ys lacks.1)

pub pieces-cut : (byte : ℕ) (xs ys : List ℕ) → Lacks byte xs → pieces byte (xs ++ byte ∷ ys) ≡ xs ∷ pieces byte ys
pieces-cut byte [] ys lacks = let same : eqb byte byte ≡ true = eq-eqb byte byte refl in rw same refl
pieces-cut byte (x ∷ xs) ys lacks = let first = lacks.0 in rw first (ap (extended x) (pieces-cut byte xs ys lacks.1))

pub pieces-last : (byte : ℕ) (xs : List ℕ) → Lacks byte xs → pieces byte xs ≡ xs ∷ []
pieces-last byte [] lacks = refl
pieces-last byte (x ∷ xs) lacks = let first = lacks.0 in rw first (ap (extended x) (pieces-last byte xs lacks.1))

-- parts after such bytes are the pieces
pub pieces-flat : {X : Type 0} (byte : ℕ) (g : X → List ℕ) (first : List ℕ) (xs : List X) → Lacks byte first → AllByRecursion (λ x. Lacks byte (g x)) xs
    → pieces byte (first ++ flat_map (λ x. byte ∷ g x) xs) ≡ first ∷ map g xs
pieces-flat byte g first [] lacks all = ap (pieces byte) (append-nil first) ∙ pieces-last byte first lacks
pieces-flat byte g first (x ∷ xs) lacks all =
    pieces-cut byte first (g x ++ flat_map (λ y. byte ∷ g y) xs) lacks ∙ ap (λ (ps : List (List ℕ)). first ∷ ps) (pieces-flat byte g (g x) xs all.0 all.1)

digit_lacks : (byte : ℕ) (t : List ℕ) (k : ℕ) → Lacks byte t → eqb 0 byte ≡ false → eqb (get_or t k 0) byte ≡ false
digit_lacks byte [] k lacks none = none
digit_lacks byte (x ∷ t) zero lacks none = lacks.0
digit_lacks byte (x ∷ t) (suc k) lacks none = digit_lacks byte t k lacks.1 none

coded_lacks : (byte : ℕ) (t xs : List ℕ) → Lacks byte t → eqb 0 byte ≡ false → Lacks byte (encode_with t xs)
unfolding encode_with
coded_lacks byte t [] lacks none = tt
coded_lacks byte t (x ∷ xs) lacks none = (digit_lacks byte t (x / 16) lacks none, (digit_lacks byte t (x % 16) lacks none, coded_lacks byte t xs lacks none))

-- digits have no semicolon, comma or equals sign
pub hex-lacks_59 : (xs : List ℕ) → Lacks 59 (encode_lower xs)
hex-lacks_59 xs = coded_lacks 59 lower_digits xs (lacks-test 59 lower_digits refl) refl

pub hex-lacks_44 : (xs : List ℕ) → Lacks 44 (encode_lower xs)
hex-lacks_44 xs = coded_lacks 44 lower_digits xs (lacks-test 44 lower_digits refl) refl

pub hex-lacks_61 : (xs : List ℕ) → Lacks 61 (encode_lower xs)
hex-lacks_61 xs = coded_lacks 61 lower_digits xs (lacks-test 61 lower_digits refl) refl

pub decimal-lacks : (byte n : ℕ) → ((d : ℕ) → d < 10 → eqb (48 + d) byte ≡ false) → n < 2 ^ 64 → Lacks byte (decimal n)
decimal-lacks byte n apart fits =
    decimal_by_steps (λ m ds. Lacks byte ds) (λ m lt. (apart m lt, tt))
    (λ m ds ten lacks. lacks-append byte ds ((48 + m % 10) ∷ []) lacks (apart (m % 10) (omega arith), tt)) n fits

number_by : (b : Bool) (rest : Option ℕ) (last : Option ℕ) (m : ℕ) (more : Option ℕ) → (rest ≡ Some m → last ≡ more) → cond b rest None ≡ Some m
    → cond b last None ≡ more
number_by true rest last m more ih e = ih e
number_by false rest last m more ih e = absurd (cc)

number-append : (ds : List ℕ) (n m c : ℕ) → number_from n ds ≡ Some m → number_from n (ds ++ c ∷ []) ≡ number_from m (c ∷ [])
number-append [] n m c e = let same : n ≡ m = cc in ap (λ k. number_from k (c ∷ [])) same
number-append (d ∷ ds) n m c e =
    number_by (leb 48 d && leb d 57 && ltb (n * 10 + (d - 48)) 65536) (number_from (n * 10 + (d - 48)) ds) (number_from (n * 10 + (d - 48)) (ds ++ c ∷ [])) m
    (number_from m (c ∷ [])) (number-append ds (n * 10 + (d - 48)) m c) e

digit-step : (m d : ℕ) → d < 10 → m * 10 + d < 65536 → number_from m ((48 + d) ∷ []) ≡ Some (m * 10 + d)
digit-step m d lt fits =
    let less : 48 + d - 48 ≡ d = omega arith in
    let low : leb 48 (48 + d) ≡ true = le-leb 48 (48 + d) (omega arith) in
    let high : leb (48 + d) 57 ≡ true = le-leb (48 + d) 57 (omega arith) in
    let small : ltb (m * 10 + d) 65536 ≡ true = lt-ltb (m * 10 + d) 65536 fits in
    rw (less, low, high, small) refl

pub number-decimal : (n : ℕ) → n < 65536 → number_from 0 (decimal n) ≡ Some n
number-decimal n fits =
    decimal_by_steps (λ m ds. m < 65536 → number_from 0 ds ≡ Some m)
    (λ m lt small. let is : 0 * 10 + m ≡ m = omega arith in digit-step 0 m lt (omega (arith, small)) ∙ ap Some is)
    (λ m ds ten ih small.
    let is : m / 10 * 10 + m % 10 ≡ m = omega arith in
    let below : m / 10 < 65536 = omega (arith, small) in
    let last : m % 10 < 10 = omega arith in
    let all : m / 10 * 10 + m % 10 < 65536 = omega (arith, small) in
    number-append ds 0 (m / 10) (48 + m % 10) (ih below) ∙ digit-step (m / 10) (m % 10) last all ∙ ap Some is)
    n (omega (arith, fits)) fits
