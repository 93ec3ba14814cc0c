-- What can be read of a text: the lines of its cut before the first that breaks a limit.
use Rattle.std.proofs.Common.{◌≡◌, ℕ, zero, suc, ◌+◌, ◌^◌, ◌<◌, ◌≤◌, Bool, true, false, cond, eqb, ltb}
use Rattle.std.proofs.Common.{List, [], ◌∷◌, ◌++◌, length, ap, ◌∙◌, refl, subst, arith, add_assoc, zero-add}
use Rattle.std.specs.List.{AllByRecursion}
use Rattle.std.proofs.lemmas.Bool.{eqb-true, eqb-false}
use Rattle.std.proofs.lemmas.Bool.Decides.{nat_tests}
use Rattle.mlb_edge.specs.declared.lines.Line.{Line}
use Rattle.mlb_edge.specs.Rows.{RawLine, lengthened, raw_lines, size_of, is_blank, HasNoNewline}
use Rattle.mlb_edge.specs.InputLines.{Input, Ending, Whole, LongLine, LongInput, no_lines, with_line, input_from, input_of, numbered}
use Rattle.mlb_edge.specs.Laws.{total, AreEnded, IsCutInto, KeepLimits, IsRead}

-- after so many bytes and lines, the lines before the first that breaks a limit
record StopsBehind (passed number : ℕ) (raws : List RawLine) (lines : List Line) (Breaks : ℕ → ℕ → RawLine → Type 0) : Type 0 where
  before : List RawLine
  first : RawLine
  after : List RawLine
  split : raws ≡ before ++ first ∷ after
  short : AllByRecursion (λ (raw : RawLine). length raw.bytes ≤ 1048576) before
  near : passed + total before ≤ 2 ^ 40
  breaks : Breaks (passed + total before) (number + length before) first
  given : lines ≡ numbered number before

abbrev IsLong : ℕ → ℕ → ℕ → RawLine → Type 0
IsLong n passed number raw = (1048576 < length raw.bytes) × (n ≡ number + 1)

abbrev IsFar : ℕ → ℕ → RawLine → Type 0
IsFar passed number raw = (length raw.bytes ≤ 1048576) × (2 ^ 40 < passed + size_of raw)

abbrev IsReadBehind : ℕ → ℕ → List RawLine → List Line → Ending → Type 0
IsReadBehind passed number raws lines Whole =
    AllByRecursion (λ (raw : RawLine). length raw.bytes ≤ 1048576) raws × (passed + total raws ≤ 2 ^ 40) × (lines ≡ numbered number raws)
IsReadBehind passed number raws lines (LongLine n) = StopsBehind passed number raws lines (IsLong n)
IsReadBehind passed number raws lines LongInput = StopsBehind passed number raws lines IsFar

abbrev line_at : ℕ → RawLine → Line
line_at number raw = record { number = number + 1; bytes = raw.bytes }

abbrev more : ℕ → RawLine → List Line → List Line
more number raw lines = cond (is_blank raw.bytes) lines (line_at number raw ∷ lines)

summed : (passed : ℕ) (raw : RawLine) (raws : List RawLine) → (passed + size_of raw) + total raws ≡ passed + total (raw ∷ raws)
summed passed raw raws = add_assoc passed (size_of raw) (total raws)

counted : (number : ℕ) (raw : RawLine) (raws : List RawLine) → (number + 1) + length raws ≡ number + length (raw ∷ raws)
counted number raw raws = omega arith

given_more : (number : ℕ) (raw : RawLine) (raws : List RawLine) (lines : List Line) → lines ≡ numbered (number + 1) raws
    → more number raw lines ≡ numbered number (raw ∷ raws)
unfolding numbered
given_more number raw raws lines given = ap (more number raw) given

stops_later : (passed number : ℕ) (raw : RawLine) (raws : List RawLine) (lines : List Line) (Breaks : ℕ → ℕ → RawLine → Type 0) → length raw.bytes ≤ 1048576
    → StopsBehind (passed + size_of raw) (number + 1) raws lines Breaks → StopsBehind passed number (raw ∷ raws) (more number raw lines) Breaks
stops_later passed number raw raws lines Breaks short s = record {
  before = raw ∷ s.before;
  first = s.first;
  after = s.after;
  split = ap (λ (t : List RawLine). raw ∷ t) s.split;
  short = (short, s.short);
  near = omega (arith, summed passed raw s.before, s.near);
  breaks = subst (λ (n : ℕ). Breaks n (number + length (raw ∷ s.before)) s.first) (summed passed raw s.before)
      (subst (λ (n : ℕ). Breaks ((passed + size_of raw) + total s.before) n s.first) (counted number raw s.before) s.breaks);
  given = given_more number raw s.before lines s.given;
}

read_later : (passed number : ℕ) (raw : RawLine) (raws : List RawLine) (lines : List Line) (ending : Ending) → length raw.bytes ≤ 1048576
    → IsReadBehind (passed + size_of raw) (number + 1) raws lines ending → IsReadBehind passed number (raw ∷ raws) (more number raw lines) ending
read_later passed number raw raws lines Whole short r = ((short, r.0), omega (arith, summed passed raw raws, r.1), given_more number raw raws lines r.2)
read_later passed number raw raws lines (LongLine n) short r = stops_later passed number raw raws lines (IsLong n) short r
read_later passed number raw raws lines LongInput short r = stops_later passed number raw raws lines IsFar short r

stops_here : (passed number : ℕ) (raw : RawLine) (raws : List RawLine) (Breaks : ℕ → ℕ → RawLine → Type 0) → passed ≤ 2 ^ 40
    → Breaks (passed + 0) (number + 0) raw → StopsBehind passed number (raw ∷ raws) [] Breaks
unfolding numbered
stops_here passed number raw raws Breaks near breaks = record {
  before = [];
  first = raw;
  after = raws;
  split = refl;
  short = tt;
  near = omega arith;
  breaks = breaks;
  given = refl;
}

abbrev by_tests : Bool → Bool → Bool → ℕ → RawLine → Input → Input
by_tests long far blank number raw rest =
    cond long (no_lines (LongLine (number + 1))) (cond far (no_lines LongInput) (cond blank rest (with_line (line_at number raw) rest)))

lines_by : (blank : Bool) (line : Line) (rest : Input) → (cond blank rest (with_line line rest)).lines ≡ cond blank rest.lines (line ∷ rest.lines)
lines_by true line rest = refl
lines_by false line rest = refl

ending_by : (blank : Bool) (line : Line) (rest : Input) → (cond blank rest (with_line line rest)).ending ≡ rest.ending
ending_by true line rest = refl
ending_by false line rest = refl

read_by : (long far : Bool) (passed number : ℕ) (raw : RawLine) (raws : List RawLine) (rest : Input) → (long ≡ true → 1048576 < length raw.bytes)
    → (long ≡ false → length raw.bytes ≤ 1048576)
    → (far ≡ true → 2 ^ 40 < passed + size_of raw) → (far ≡ false → passed + size_of raw ≤ 2 ^ 40) → passed ≤ 2 ^ 40
    → (passed + size_of raw ≤ 2 ^ 40 → IsReadBehind (passed + size_of raw) (number + 1) raws rest.lines rest.ending)
    → IsReadBehind passed number (raw ∷ raws) (by_tests long far (is_blank raw.bytes) number raw rest).lines
    (by_tests long far (is_blank raw.bytes) number raw rest).ending
read_by true far passed number raw raws rest long short beyond within near later =
    stops_here passed number raw raws (IsLong (number + 1)) near (long refl, omega arith)
read_by false true passed number raw raws rest long short beyond within near later =
    stops_here passed number raw raws IsFar near (short refl, omega (arith, beyond refl))
read_by false false passed number raw raws rest long short beyond within near later =
    rw (lines_by (is_blank raw.bytes) (line_at number raw) rest, ending_by (is_blank raw.bytes) (line_at number raw) rest)
    (read_later passed number raw raws rest.lines rest.ending (short refl) (later (within refl)))

above : (a b : ℕ) → ltb a b ≡ true → a < b
above a b e = grind (arith, nat_tests)

not_above : (a b : ℕ) → ltb a b ≡ false → b ≤ a
not_above a b e = grind (arith, nat_tests)

read_behind : (passed number : ℕ) (raws : List RawLine) → passed ≤ 2 ^ 40
    → IsReadBehind passed number raws (input_from passed number raws).lines (input_from passed number raws).ending
unfolding input_from numbered
read_behind passed number [] near = (tt, omega arith, refl)
read_behind passed number (raw ∷ raws) near =
    read_by (ltb 1048576 (length raw.bytes)) (ltb (2 ^ 40) (passed + size_of raw)) passed number raw raws (input_from (passed + size_of raw) (number + 1) raws)
    (above 1048576 (length raw.bytes)) (not_above 1048576 (length raw.bytes)) (above (2 ^ 40) (passed + size_of raw))
    (not_above (2 ^ 40) (passed + size_of raw)) near
    (λ within. read_behind (passed + size_of raw) (number + 1) raws within)

kept : (raws : List RawLine) → AllByRecursion (λ (raw : RawLine). length raw.bytes ≤ 1048576) raws → 0 + total raws ≤ 2 ^ 40 → KeepLimits raws
kept raws short near = record { short = short; near = omega (arith, near) }

from_start : (raws : List RawLine) (lines : List Line) (ending : Ending) → IsReadBehind 0 0 raws lines ending → IsRead raws lines ending
from_start raws lines Whole r = (kept raws r.0 r.1, r.2)
from_start raws lines (LongLine n) s = record {
  before = s.before;
  first = s.first;
  after = s.after;
  split = s.split;
  kept = kept s.before s.short s.near;
  breaks = (s.breaks.0, s.breaks.1 ∙ ap (λ (k : ℕ). k + 1) (zero-add (length s.before)));
  given = s.given;
}
from_start raws lines LongInput s = record {
  before = s.before;
  first = s.first;
  after = s.after;
  split = s.split;
  kept = kept s.before s.short s.near;
  breaks = (s.breaks.0, omega (arith, s.breaks.1));
  given = s.given;
}

pub all_lines : (bytes : List ℕ) → IsRead (raw_lines bytes) (input_of bytes).lines (input_of bytes).ending
all_lines bytes = from_start (raw_lines bytes) (input_of bytes).lines (input_of bytes).ending (read_behind 0 0 (raw_lines bytes) (omega arith))

-- The cut of a text.
nothing_new : (byte : ℕ) (xs : List ℕ) → eqb byte 10 ≡ false → HasNoNewline xs → HasNoNewline (byte ∷ xs)
nothing_new byte xs other none zero below same = eqb-false byte 10 other same
nothing_new byte xs other none (suc k) below same = none k (omega arith) same

longer_ended : (byte : ℕ) (raw : RawLine) (raws : List RawLine) → AreEnded (raw ∷ raws)
    → AreEnded (record { bytes = byte ∷ raw.bytes; is_ended = raw.is_ended } ∷ raws)
longer_ended byte raw [] e = omega arith
longer_ended byte raw (next ∷ rest) e = e

lengthened_cut : (byte : ℕ) (bytes : List ℕ) (raws : List RawLine) → eqb byte 10 ≡ false → IsCutInto bytes raws
    → IsCutInto (byte ∷ bytes) (lengthened byte raws)
lengthened_cut byte bytes [] other c = record {
  joined = ap (λ (t : List ℕ). byte ∷ t) c.joined;
  plain = (nothing_new byte [] other (λ k below same. omega arith), tt);
  ended = omega arith;
}
lengthened_cut byte bytes (raw ∷ raws) other c = record {
  joined = ap (λ (t : List ℕ). byte ∷ t) c.joined;
  plain = (nothing_new byte raw.bytes other c.plain.0, c.plain.1);
  ended = longer_ended byte raw raws c.ended;
}

ended_first : (raws : List RawLine) → AreEnded raws → AreEnded (record { bytes = []; is_ended = true } ∷ raws)
ended_first [] e = omega arith
ended_first (raw ∷ raws) e = (refl, e)

cut_by : (is_newline : Bool) (byte : ℕ) (bytes : List ℕ) (raws : List RawLine) → eqb byte 10 ≡ is_newline → IsCutInto bytes raws
    → IsCutInto (byte ∷ bytes) (cond is_newline (record { bytes = []; is_ended = true } ∷ raws) (lengthened byte raws))
cut_by true byte bytes raws same c = record {
  joined = let is : byte ≡ 10 = eqb-true byte 10 same in rw is (ap (λ (t : List ℕ). 10 ∷ t) c.joined);
  plain = (λ k below at. omega arith, c.plain);
  ended = ended_first raws c.ended;
}
cut_by false byte bytes raws same c = lengthened_cut byte bytes raws same c

pub is_cut : (bytes : List ℕ) → IsCutInto bytes (raw_lines bytes)
unfolding raw_lines
is_cut [] = record { joined = refl; plain = tt; ended = tt }
is_cut (byte ∷ bytes) = cut_by (eqb byte 10) byte bytes (raw_lines bytes) refl (is_cut bytes)
