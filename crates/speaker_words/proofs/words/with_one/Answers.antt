use Rattle.std.proofs.Common.{Some, sym, ap, ◌∙◌}
use Rattle.std.specs.Prelude.{map}
use Rattle.speaker_words.specs.Seen.{interface_seen}
use Rattle.speaker_words.proofs.Interfaces.{none-full, none-named, one-added}
use Rattle.speaker_words.proofs.words.with_one.Goals.{then-is_full-via-then-is_full, then-is_full-via-else-is_full+then-is_named}
use Rattle.speaker_words.proofs.words.with_one.Goals as goal

pub returns-then-is_full : goal.returns-then-is_full
returns-then-is_full c =
    elim c.then-is_full.branch [
      | then-is_full-via-then-is_full w ↦ none-full interface_seen c.args.interfaces.items c.args.interface (sym c.is_full.ensures.value ∙ w.if-is_full.true)
      | then-is_full-via-else-is_full+then-is_named w ↦
          none-named interface_seen c.args.interfaces.items c.args.interface (rw w.as_slice.ensures.value at (sym w.is_named.ensures ∙ w.if-is_named.true))
    ]

pub returns : goal.returns
returns c =
    ap (λ items. Some (map interface_seen items)) c.push.ensures.items
    ∙ one-added interface_seen c.args.interfaces.items c.args.interface c.is_full.ensures.fits (sym c.is_full.ensures.value ∙ c.if-is_full.false)
    (rw c.as_slice.ensures.value at (sym c.is_named.ensures ∙ c.if-is_named.false))
