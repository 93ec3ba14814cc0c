use Rattle.std.proofs.Common.{◌≡◌, ℕ, [], Some, refl, sym, ap, ◌∙◌, subst}
use Rattle.std.proofs.lemmas.Bool.{true≢false}
use Rattle.std.proofs.lemmas.Option.{same_Some}
use Rattle.address_holders.specs.declared.slot.NumberedSlot.TheVariants.{OfSharingGroup}
use Rattle.address_holders.specs.Holders.{claims_having}
use Rattle.claim_index.specs.GroupNumbers.{GroupsValue, number_of}
use Rattle.claim_index.proofs.GroupNumberLaws.{looked-up, number-of-group}
use Rattle.claim_index.proofs.NumberLaws.{fewer-one}
use Rattle.claim_index.proofs.group_numbers.GroupNumbers.forget_unused.Goals as goal

pub returns-in_default-get-clause-unused : goal.returns-in_default-get-clause-unused
returns-in_default-get-clause-unused c = λ n has none.
    let group = c.in-Some.group.now in
    number-of-group c.args.self.now c.args.terms.now group c.in-Some.ensures.group
    ∙ ap (λ (v : GroupsValue). number_of v group) (sym c.self.view_is)
    ∙ sym (looked-up group c.self.inside.numbers.entries)
    ∙ sym c.in_default-get.ensures.value

pub returns-then-is_unused-clause-numbers : goal.returns-then-is_unused-clause-numbers
returns-then-is_unused-clause-numbers c =
    let group = c.in-Some.group.now in
    let there : number_of c.args.self.now group ≡ Some c.in-Some-get.number.now =
    ap (λ (v : GroupsValue). number_of v group) (sym c.self.view_is) ∙ sym (looked-up group c.self.inside.numbers.entries)
    ∙ sym c.in-Some-get.ensures.value in
    fewer-one c.args.self.now c.forget.new.self c.args.holders.now group c.in-Some-get.number.now there (c.if-is_unused.ensures.0 refl) c.forget.ensures.numbers

pub returns-else-is_unused-clause-unused : goal.returns-else-is_unused-clause-unused
returns-else-is_unused-clause-unused c = λ n has none.
    let group = c.in-Some.group.now in
    let number = c.in-Some-get.number.now in
    let there : number_of c.args.self.now group ≡ Some number =
    ap (λ (v : GroupsValue). number_of v group) (sym c.self.view_is) ∙ sym (looked-up group c.self.inside.numbers.entries)
    ∙ sym c.in-Some-get.ensures.value in
    let is : n ≡ number = same_Some n number (sym has ∙ number-of-group c.args.self.now c.args.terms.now group c.in-Some.ensures.group ∙ there) in
    let unused = c.if-is_unused.ensures.1 (subst (λ (m : ℕ). claims_having c.args.holders.now (OfSharingGroup m) ≡ (λ a. [])) is none) in
    absurd (true≢false (sym unused))
