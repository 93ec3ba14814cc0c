-- Where a turn keeps a service's record.
use Rattle.std.proofs.Common.{◌≡◌, ◌≢◌, Bool, true, false, ◌&&◌, ◌||◌, not, ◌⊎◌, inl, inr, refl, sym, ap, ◌∙◌}
use Rattle.std.proofs.lemmas.Bool.{true≢false, and_parts, or_parts}
use Rattle.kube_model.specs.declared.record.Record.{Record}
use Rattle.kube_model.specs.declared.service.Service.{Service}
use Rattle.kube_model.specs.Records.{same_record, empty_record}
use Rattle.kube_model.proofs.RecordLaws.{same_record-itself}
use Rattle.alloc_book.specs.declared.choice.Choice.{Choice}
use Rattle.alloc_book.specs.declared.choice.Choice.TheVariants.{Foreign, Clear, Pending, Keep, New}
use Rattle.core_rules.specs.Core.{State, has_other}
use Rattle.core_rules.specs.Turn.{wanted_record, is_foreign, is_kept, chosen_at}

-- whether a choice leaves the held record as it is
abbrev pub kept_at : State → Service → Bool
kept_at s service = is_kept service.holding (has_other service s.claims) (chosen_at s service)

pub wanted-own : (c : Choice) (b : Bool) → is_foreign c || b ≡ false → c ≢ Foreign
wanted-own c b e is = true≢false (ap is_foreign (sym is) ∙ (or_parts (is_foreign c) b e).0)

pub due-by : (foreign same other : Bool) → (foreign || (same && not other)) ≡ false → (same ≡ false) ⊎ (other ≡ true)
due-by true same other e = absurd (cc)
due-by false false other e = inl refl
due-by false true true e = inr refl
due-by false true false e = absurd (cc)

-- a record that is kept is the one that is wanted
pub kept-same : (held : Record) (other : Bool) (c : Choice) → is_kept held other c ≡ true → same_record (wanted_record held c) held ≡ true
kept-same held other Foreign e = same_record-itself held
kept-same held other Clear e = (and_parts (same_record empty_record held) (not other) e).0
kept-same held other (Pending reason) e = (and_parts (same_record empty_record held) (not other) e).0
kept-same held other (Keep holding) e = (and_parts (same_record holding held) (not other) e).0
kept-same held other (New holding) e = (and_parts (same_record holding held) (not other) e).0
