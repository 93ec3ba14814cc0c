-- When a source may be asked for more, and when all that came whole was answered.
use Rattle.std.specs.Prelude.{◌≡◌, ℕ, List, Option}
use Rattle.std.specs.Option.{option_map}
use Rattle.mlb_edge.specs.declared.lines.Line.{Line}
use Rattle.mlb_edge.specs.Reading.{Reading}
use Rattle.mlb_edge.specs.InputLines.{Follows, HoldsLine, input_of, to_come}
use Rattle.mlb_edge.specs.Written.{Grows}
use Rattle.line_run.specs.Machine.{Rules}
use Rattle.line_run.specs.Run.{AreTaken, text_of}

-- the source of this name may be asked for more wherever this is so of it, of what the reader holds and of the sink
abbrev pub MayBeAsked : {I K : Type 0} → (I → Option (List ℕ)) → (I → Reading → K → Type 0) → I → (I → Reading → K → Type 0) → Type 0
MayBeAsked {I} {K} name may_read input Where = (source : I) (reader : Reading) (out : K) → name source ≡ name input → Where source reader out
    → may_read source reader out

-- From the first byte of the input up to what the reader holds just these lines came, each was taken, and just their text was written. No
-- other line came whole.
pub record IsAnswered {S E : Type 0} (rules : Rules S E) (s : S) (start : Option (List ℕ)) (reader : Reading) (left before after : Option (List ℕ)) : Type
    0 where
  pub lines : List Line
  pub come : Follows (option_map input_of start) lines (to_come reader left)
  pub none_held : HoldsLine reader → ⊥
  pub state : S
  pub entries : List E
  pub taken : AreTaken rules lines s state entries
  pub wrote : Grows before after (text_of rules entries)
