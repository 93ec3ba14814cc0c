use Rattle.std.proofs.Common.{Bor, sym, subst}
use Rattle.std.proofs.lemmas.List.Elements.{All-weaker}
use Rattle.std.specs.List.{All, Contains}
use Rattle.pool_config.specs.declared.compiled.CompiledPool.{CompiledPool}
use Rattle.alloc_book.specs.Searching.{AreAmong}
use Rattle.alloc_book.proofs.EntryLaws.{among}
use Rattle.alloc_book.proofs.choosing.Choosing.from_eligible.Goals as goal

pub first_option-found-requires : goal.first_option-found-requires
first_option-found-requires c =
    let pools = c.args.self.now.config.now.pools in
    let entries = c.args.self.now.book.now.entries in
    let P = λ (p : Bor CompiledPool). Contains pools p.now in
    let Q = λ (p : Bor CompiledPool). AreAmong entries p.now in
    subst (All Q) (sym c.as_slice.ensures.value)
    (All-weaker P Q (λ p there. among pools entries p.now c.requires there) c.in_ok-pools.pools.items c.in_ok-pools.ensures.among)
