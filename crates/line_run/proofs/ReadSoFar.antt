-- How far the reader of a source has come, by the lines that it has given.
use Rattle.std.proofs.Common.{◌≡◌, ℕ, List, [], ◌++◌, length, Option, Some, None, refl, ap, ◌∙◌, arith}
use Rattle.std.specs.Option.{option_map}
use Rattle.std.proofs.lemmas.List.{append-nil}
use Rattle.mlb_edge.specs.declared.lines.Line.{Line}
use Rattle.mlb_edge.specs.Reading.{Reading}
use Rattle.mlb_edge.specs.Rows.{HasNoNewline, raw_lines}
use Rattle.mlb_edge.specs.InputLines.{input_of, input_from, Follows, Follows-append, to_come, Passes}

-- a reader that has read nothing
abbrev pub fresh : Reading
fresh = record { held = []; passed = 0; number = 0 }

-- all lines are still to come
pub begins_at : (start : Option (List ℕ)) → Follows (option_map input_of start) [] (to_come fresh start)
begins_at None = tt
begins_at (Some bytes) = (refl, refl)

-- These lines were read, and then less than a line.
pub record StandsAt (bytes more : List ℕ) (done : List Line) : Type 0 where
  pub front : List ℕ
  pub rest : List ℕ
  pub bytes_are : bytes ≡ (front ++ rest) ++ more
  pub waits : HasNoNewline rest
  pub number : ℕ
  pub lines_are : (input_of bytes).lines ≡ done ++ (input_from (length front) number (raw_lines (rest ++ more))).lines

-- a read failed after them
pub stands_at : (bytes more : List ℕ) (r r' : Reading) (now : Option (List ℕ)) (done : List Line) → Follows (Some (input_of bytes)) done (to_come r now)
    → Follows (to_come r now) [] (to_come r' (Some more)) → Passes fresh r' (Some bytes) (Some more) → HasNoNewline r'.held → StandsAt bytes more done
stands_at bytes more r r' now done comes same passes waits =
    let follows : Follows (Some (input_of bytes)) (done ++ []) (to_come r' (Some more)) =
    Follows-append (Some (input_of bytes)) (to_come r now) (to_come r' (Some more)) done [] comes same in
    let counted : r'.passed ≡ length passes.gone = omega (arith, passes.counted) in
    record {
      front = passes.gone;
      rest = r'.held;
      bytes_are = passes.eats ∙ ap (λ (t : List ℕ). t ++ more) passes.bytes;
      waits = waits;
      number = r'.number;
      lines_are = follows.0 ∙ rw (append-nil done, counted) refl;
    }
