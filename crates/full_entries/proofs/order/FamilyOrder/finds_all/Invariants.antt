use Rattle.std.proofs.Common.{ℕ, ◌≡◌, ◌<◌, Some}
use Rattle.std.specs.Prelude.{slice_get}
use Rattle.full_entries.specs.declared.entries.Entry.{Entry}
use Rattle.full_entries.specs.Places.{IsFound}
use Rattle.full_entries.proofs.order.FamilyOrder.finds_all.Given as goal

abbrev pub invariant-loop-place : goal.invariant-loop-place
invariant-loop-place l = (i : ℕ) (e : Entry) → i < l.place → slice_get l.entries i ≡ Some e → IsFound l.family l.self e i
