-- When each of two files may be opened.
use Rattle.std.specs.Prelude.{ℕ, List}

-- The one file may be opened, and once it is open the other.
pub record MayBeOpened {F : Type 0} (may_open : F → List ℕ → Type 0) (Opens : F → F → List ℕ → Type 0) (files : F) (first second : List ℕ) : Type 0 where
  pub one : may_open files first
  pub other : (files' : F) → Opens files files' first → may_open files' second
