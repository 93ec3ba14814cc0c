use Rattle.std.proofs.Common.{◌≡◌, ◌<◌, ◌≤◌, length, get_or, sym, ◌∙◌, arith}
use Rattle.std.proofs.lemmas.Bool.{true≢false, ltb-true}
use Rattle.std.proofs.lemmas.Str.Pattern.{starts_char}
use Rattle.controller_words.proofs.NumberTexts.{signed-none, padded-none, parsed-number}
use Rattle.controller_words.proofs.numbers.number_of.Goals.{then-starts_with-via-then-starts_with}
use Rattle.controller_words.proofs.numbers.number_of.Goals.{then-starts_with-via-else-starts_with+then-starts_with-2, then-text-gt1, else-text-gt1}
use Rattle.controller_words.proofs.numbers.number_of.Goals as goal

pub returns-then-starts_with : goal.returns-then-starts_with
returns-then-starts_with c =
    let text = c.args.text.now in
    elim c.then-starts_with.branch [
      | then-starts_with-via-then-starts_with w ↦
          let plus = starts_char 43 text c.starts_with.result c.starts_with.ensures.cases (omega arith) (omega arith) in
          sym (signed-none text (plus.0 w.if-starts_with.true))
      | then-starts_with-via-else-starts_with+then-starts_with-2 w ↦
          elim w.if-text-gt1.branch [
            | then-text-gt1 v ↦
                let zero = starts_char 48 text v.starts_with-then-text-gt1.result v.starts_with-then-text-gt1.ensures.cases (omega arith) (omega arith) in
                sym (padded-none text (zero.0 (sym v.value-is ∙ w.if-starts_with-2.true)) v.if-text-gt1.true)
            | else-text-gt1 v ↦
                let long : 1 < length text = ltb-true _ _ (sym v.value-is ∙ w.if-starts_with-2.true) in
                absurd (omega (arith, long, v.if-text-gt1.false))
          ]
    ]

pub returns : goal.returns
returns c =
    let text = c.args.text.now in
    let plus = starts_char 43 text c.starts_with.result c.starts_with.ensures.cases (omega arith) (omega arith) in
    let alone : get_or text 0 0 ≡ 48 → length text ≤ 1 = elim c.if-text-gt1.branch [
      | then-text-gt1 v ↦
          let zero = starts_char 48 text v.starts_with-then-text-gt1.result v.starts_with-then-text-gt1.ensures.cases (omega arith) (omega arith) in
          λ first. absurd (true≢false (sym (zero.1 first) ∙ sym v.value-is ∙ c.if-starts_with-2.false))
      | else-text-gt1 v ↦ λ first. v.if-text-gt1.false
    ] in
    c.ok.ensures.value ∙ parsed-number text _ (λ first. true≢false (sym (plus.1 first) ∙ c.if-starts_with.false)) alone c.parse.ensures.value.0
