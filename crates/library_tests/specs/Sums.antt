-- Sums.
use Rattle.std.specs.Prelude.{ℕ, ◌+◌}
use Rattle.library_tests.specs.declared.board.sum.Sum.{Sum}

-- that of no number
abbrev pub nothing : Sum
nothing = record { total = 0 }

-- that after one number more
abbrev pub plus : Sum → ℕ → Sum
plus sum number = record { total = sum.total + number }
