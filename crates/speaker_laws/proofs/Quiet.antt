-- Items that are taken where no reply is ever awaited.
use Rattle.std.proofs.Common.{◌≡◌, false, List, [], ◌∷◌, ◌++◌, refl, sym, ap, ◌∙◌}
use Rattle.std.proofs.lemmas.Bool.{true≢false}
use Rattle.std.proofs.lemmas.List.{append-nil}
use Rattle.lane_drive.specs.Drive.{AreHeard, IsTaken}
use Rattle.lane_drive.specs.LaneRules.{LaneRules}
use Rattle.lane_mail.specs.declared.item.Item.{Item}
use Rattle.line_run.specs.Machine.{Goes}
use Rattle.mlb_edge.specs.declared.lines.Line.{Line}

module _ {S E : Type 0} (rules : LaneRules S E) (quiet : (s : S) → rules.waits s ≡ false) where
  heard_none : (replies : List Line) (s t : S) (entries : List E) → AreHeard rules replies s t entries → (t ≡ s) × (entries ≡ [])
  heard_none [] s t entries heard = heard
  heard_none (line ∷ lines) s t entries (next, first, rest, waits, hears, others, is) = absurd (true≢false (sym waits ∙ quiet s))

  -- what is taken is what the item comes to
  pub item_goes : (item : Item) (replies : List Line) (s t : S) (entries : List E) → IsTaken rules item replies s t entries
      → rules.take s item ≡ Goes t entries
  item_goes item replies s t entries taken =
      let (same, none) = heard_none replies taken.next t taken.rest taken.heard in
      let all : entries ≡ taken.first = taken.entries_are ∙ ap (λ (es : List E). taken.first ++ es) none ∙ append-nil taken.first in
      taken.steps ∙ ap (λ (u : S). Goes u taken.first) (sym same) ∙ ap (λ (es : List E). Goes t es) (sym all)

  -- and the other way round
  pub item_taken : (item : Item) (s t : S) (entries : List E) → rules.take s item ≡ Goes t entries → IsTaken rules item [] s t entries
  item_taken item s t entries steps = record {
    quiet = quiet s;
    next = t;
    first = entries;
    rest = [];
    steps = steps;
    heard = (refl, refl);
    entries_are = sym (append-nil entries);
  }
