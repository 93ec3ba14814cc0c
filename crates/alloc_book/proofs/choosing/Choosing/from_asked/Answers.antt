use Rattle.std.proofs.Common.{◌≡◌, List, [], ◌∷◌, Option, Some, None, Bor, refl, sym, ap, ◌∙◌}
use Rattle.std.proofs.lemmas.List.Elements.{All-cons, All-nil}
use Rattle.std.specs.Option.{option_to_list}
use Rattle.std.specs.Str.{bytes_eq}
use Rattle.ip_ranges.specs.declared.family.Family.{Family}
use Rattle.kube_model.specs.declared.reason.Reason.TheVariants.{PoolExhausted}
use Rattle.kube_model.specs.declared.record.Record.{Record}
use Rattle.pool_config.specs.declared.compiled.CompiledPool.{CompiledPool}
use Rattle.alloc_book.specs.Asking.{Asker, asking}
use Rattle.alloc_book.specs.Choose.{new_or}
use Rattle.alloc_book.specs.Chosen.{named}
use Rattle.claim_index.specs.Claims.{ClaimValue}
use Rattle.alloc_book.specs.Search.{first_of, first_option}
use Rattle.alloc_book.specs.Searching.{AreAmong}
use Rattle.alloc_book.proofs.EntryLaws.{among, found-contained}
use Rattle.alloc_book.proofs.choosing.Choosing.from_asked.Goals as goal

-- no pool gives nothing, whatever is wanted
none-gives : (claims : List ClaimValue) (q : Asker) (options : List (List Family)) → first_of claims q [] options ≡ None
none-gives claims q [] = refl
none-gives claims q (families ∷ options) = none-gives claims q options

pub returns-in-None : goal.returns-in-None
returns-in-None c =
    let claims = c.args.self.now.book.now.claims in
    let q = asking c.args.self.now.service.now c.args.self.now.terms.now in
    let found : Option CompiledPool → Option Record = λ pool. first_option claims q (option_to_list pool) in
    let none : None ≡ named c.args.self.now.config.now.pools q.pool_asked =
    c.in-None.ensures ∙ ap (λ (pools : List CompiledPool). named pools q.pool_asked) c.pools.ensures in
    sym (ap (new_or PoolExhausted) (ap found (sym none) ∙ none-gives claims q q.options))

pub first_option-requires : goal.first_option-requires
first_option-requires c =
    let pools = c.args.self.now.config.now.pools in
    let entries = c.args.self.now.book.now.entries in
    let q = asking c.args.self.now.service.now c.args.self.now.terms.now in
    let found : named pools q.pool_asked ≡ Some c.in-Some.pool.now =
    sym (c.in-Some.ensures ∙ ap (λ (ps : List CompiledPool). named ps q.pool_asked) c.pools.ensures) in
    All-cons (λ (p : Bor CompiledPool). AreAmong entries p.now) c.in-Some.pool []
    (among pools entries c.in-Some.pool.now c.requires (found-contained (λ pool. bytes_eq pool.name q.pool_asked) pools c.in-Some.pool.now found))
    (All-nil (λ (p : Bor CompiledPool). AreAmong entries p.now))
