-- A run after its first request.
use Rattle.std.proofs.Common.{ℕ, ◌≤◌, List, [], Option, Some, None, inl, inr, refl, arith}
use Rattle.kube_model.specs.declared.status.Status.{Status}
use Rattle.kube_model.specs.declared.status.Status.TheVariants.{WriteFault, NoMemory}
use Rattle.line_run.specs.Clauses as run
use Rattle.line_run.specs.RunOutput.{WritesOnly, text_by}
use Rattle.line_run.specs.Text.{GrowsUpTo}
use Rattle.line_run.proofs.Texts.{part_upto, upto_first, upto_none, upto_then}
use Rattle.mlb_edge.specs.InputLines.{input_of}
use Rattle.mlb_edge.specs.Written.{Grows, GrowsInPart}
use Rattle.fenced_run.specs.Clauses.{RunOwes}
use Rattle.fenced_run.specs.Drive.{FencedState}
use Rattle.fenced_run.specs.Right.{WritesUpTo}
use Rattle.fenced_run.specs.Stream.{IsCause, fenced_rules}

module _ (first : List ℕ) (s : FencedState) (left before : Option (List ℕ)) where
  -- the first request was written, and a run came after it
  pub runs_on : (status : Status) (left' mid after : Option (List ℕ)) → Grows before mid first
      → run.RunOwes fenced_rules IsCause s status left left' mid after → RunOwes first s status left left' before after
  runs_on status left' mid after begins owes = inl (record { mid = mid; begins = begins; owes = owes })

  pub writes_on : (mid after : Option (List ℕ)) → Grows before mid first → WritesOnly fenced_rules s left mid after → WritesUpTo first s left before after
  writes_on mid after begins only = record {
    lines = only.lines;
    of_input = only.of_input;
    wrote = upto_then before mid after first (text_by fenced_rules s only.lines) begins only.wrote;
  }

  -- or it wasn't written whole
  pub not_written : (after : Option (List ℕ)) → GrowsInPart before after first → RunOwes first s WriteFault left left before after
  not_written after part = inr (refl, inl (refl, part))

  pub not_made : (after : Option (List ℕ)) → GrowsUpTo before after first → RunOwes first s NoMemory left left before after
  not_made after upto = inr (refl, inr (refl, upto))

  -- memory was wanting before
  pub nothing_made : RunOwes first s NoMemory left left before before
  nothing_made = not_made before (upto_none before first)

-- whatever stands written of the first request alone
pub begins_only : (first : List ℕ) (s : FencedState) (left before after : Option (List ℕ)) → GrowsUpTo before after first → WritesUpTo first s left before after
begins_only first s None before after upto =
    record { lines = []; of_input = tt; wrote = upto_first before after first (text_by fenced_rules s []) upto }
begins_only first s (Some bytes) before after upto = record {
  lines = (input_of bytes).lines;
  of_input = refl;
  wrote = upto_first before after first (text_by fenced_rules s (input_of bytes).lines) upto;
}

pub nothing_only : (first : List ℕ) (s : FencedState) (left before : Option (List ℕ)) → WritesUpTo first s left before before
nothing_only first s left before = begins_only first s left before before (upto_none before first)

-- however it ended, a beginning of the first request and of the text of some lines' run was written
pub owes_only : (first : List ℕ) (s : FencedState) (status : Status) (left left' before after : Option (List ℕ)) → RunOwes first s status left left' before after
    → WritesUpTo first s left before after
owes_only first s status left left' before after (inl on) = writes_on first s left before on.mid after on.begins on.owes.only
owes_only first s status left left' before after (inr (same, inl (is, part))) = begins_only first s left before after (part_upto before after first part)
owes_only first s status left left' before after (inr (same, inr (is, upto))) = begins_only first s left before after upto

-- a fault of writing comes later
pub rose_since : (status : Status) (k m n : ℕ) → k ≤ m → run.AtWriteFault status m n → run.AtWriteFault status k n
rose_since status k m n later fault e = omega (arith, later, fault e)
