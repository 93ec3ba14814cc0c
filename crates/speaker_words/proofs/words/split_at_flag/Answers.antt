use Rattle.std.proofs.Common.{ℕ, ◌+◌, take, drop, string_bytes, sym, ap, ◌∙◌, arith}
use Rattle.std.proofs.lemmas.List.{length-drop, take_all}
use Rattle.std.specs.List.{drop-map, take-map}
use Rattle.command_options.specs.Options.{texts_of}
use Rattle.command_options.proofs.Firsts.{after-none, any-none, before-none}
use Rattle.speaker_words.specs.Reading.{is_flag}
use Rattle.speaker_words.proofs.Flags.{none-stands, stands-at}
use Rattle.speaker_words.proofs.words.split_at_flag.Goals as goal

pub returns-in-Some-clause-ahead : goal.returns-in-Some-clause-ahead
returns-in-Some-clause-ahead c =
    let words = c.args.words.now in
    let s = stands-at words c.in-Some.at (sym c.flag_place.ensures ∙ c.in-Some.is) in
    sym (take-map (λ word. string_bytes word) c.in-Some.at words) ∙ ap (λ (n : ℕ). take n (texts_of words)) (sym s.place)

pub returns-in-Some-clause-behind : goal.returns-in-Some-clause-behind
returns-in-Some-clause-behind c =
    let words = c.args.words.now in
    let s = stands-at words c.in-Some.at (sym c.flag_place.ensures ∙ c.in-Some.is) in
    ap texts_of (take_all _ (drop (c.in-Some.at + 1) words) (omega (arith, length-drop (c.in-Some.at + 1) words)))
    ∙ sym (drop-map (λ word. string_bytes word) (c.in-Some.at + 1) words)
    ∙ ap (λ (n : ℕ). drop (n + 1) (texts_of words)) (sym s.place)

pub returns-in-Some-clause-is_there : goal.returns-in-Some-clause-is_there
returns-in-Some-clause-is_there c = sym (stands-at c.args.words.now c.in-Some.at (sym c.flag_place.ensures ∙ c.in-Some.is)).there

pub returns-in-None-clause-ahead : goal.returns-in-None-clause-ahead
returns-in-None-clause-ahead c =
    let words = c.args.words.now in sym (before-none is_flag (texts_of words) (none-stands words (sym c.flag_place.ensures ∙ c.in-None.is)))

pub returns-in-None-clause-behind : goal.returns-in-None-clause-behind
returns-in-None-clause-behind c =
    let words = c.args.words.now in sym (after-none is_flag (texts_of words) (none-stands words (sym c.flag_place.ensures ∙ c.in-None.is)))

pub returns-in-None-clause-is_there : goal.returns-in-None-clause-is_there
returns-in-None-clause-is_there c =
    let words = c.args.words.now in sym (any-none is_flag (texts_of words) (none-stands words (sym c.flag_place.ensures ∙ c.in-None.is)))
