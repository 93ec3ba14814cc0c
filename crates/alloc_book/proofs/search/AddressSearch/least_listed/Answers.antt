use Rattle.std.proofs.Common.{◌≡◌, true, is_some, List, Option, length, sym, ap, ◌∙◌, arith}
use Rattle.std.specs.Prelude.{slice_get}
use Rattle.ip_ranges.specs.Values.{AddressValue, SpanValue}
use Rattle.alloc_book.specs.Search.{least_in}
use Rattle.alloc_book.specs.Searching.{usable_by}
use Rattle.alloc_book.proofs.EntryLaws.{contained, listed-least, listed-none, none-is, passed-on, skipped}
use Rattle.alloc_book.proofs.search.AddressSearch.least_listed.Goals as goal

pub loop-span-init : goal.loop-span-init
loop-span-init c =
    let s = c.args.self.now in
    skipped (usable_by s) s.family s.pool.now.spans 0 c.next_entry-at.result (omega arith) c.next_entry-at.ensures.passed

pub least_in-least-requires-clause-listed : goal.least_in-least-requires-clause-listed
least_in-least-requires-clause-listed c =
    let spans = c.args.self.now.pool.now.spans in
    contained spans c.loop-span.at c.in-Some.span.now
    (c.in-Some.ensures.item ∙ ap (λ (xs : List SpanValue). slice_get xs c.loop-span.at) c.as_slice-spans.ensures)

pub loop-span-smaller : goal.loop-span-smaller
loop-span-smaller c =
    let long = ap (λ (xs : List SpanValue). length xs) c.as_slice-spans.ensures in
    omega (arith, long, c.in-Some.ensures.within, c.next_entry-at-in-Some.ensures.within)

pub loop-span-preserved : goal.loop-span-preserved
loop-span-preserved c =
    let s = c.args.self.now in
    let spans = s.pool.now.spans in
    let span : SpanValue = c.in-Some.span.now in
    let there = ap (λ (xs : List SpanValue). slice_get xs c.loop-span.at) (sym c.as_slice-spans.ensures) ∙ sym c.in-Some.ensures.item in
    passed-on (usable_by s) s.family spans c.loop-span.at span c.next_entry-at-in-Some.result there
    (sym c.least_in-least.ensures ∙ none-is c.least_in-least.result c.is_some.result c.is_some.ensures c.if-is_some.false)
    c.next_entry-at-in-Some.ensures.within c.next_entry-at-in-Some.ensures.passed
    ∙ c.loop-span.invariant

pub returns-then-is_some : goal.returns-then-is_some
returns-then-is_some c =
    let s = c.args.self.now in
    let spans = s.pool.now.spans in
    let span : SpanValue = c.in-Some.span.now in
    let there = ap (λ (xs : List SpanValue). slice_get xs c.loop-span.at) (sym c.as_slice-spans.ensures) ∙ sym c.in-Some.ensures.item in
    let some : is_some (least_in (usable_by s) s.family span) ≡ true =
    ap (λ (o : Option AddressValue). is_some o) (sym c.least_in-least.ensures) ∙ sym c.is_some.ensures ∙ c.if-is_some.true in
    c.least_in-least.ensures ∙ sym (listed-least (usable_by s) s.family spans c.loop-span.at span there some) ∙ c.loop-span.invariant

pub returns : goal.returns
returns c =
    let s = c.args.self.now in
    let past = c.in_default.ensures.item ∙ ap (λ (xs : List SpanValue). slice_get xs c.loop-span.at) c.as_slice-spans.ensures in
    listed-none (usable_by s) s.family s.pool.now.spans c.loop-span.at past ∙ c.loop-span.invariant
