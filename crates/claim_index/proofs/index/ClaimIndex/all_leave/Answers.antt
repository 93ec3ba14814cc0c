use Rattle.std.proofs.Common.{Bool, ◌&&◌, sym, ap, ◌∙◌}
use Rattle.std.specs.List.{list_all}
use Rattle.std.specs.Map.{values_of}
use Rattle.claim_index.specs.Reading.{yields_port}
use Rattle.claim_index.proofs.GroupLaws.{leave-is}
use Rattle.claim_index.proofs.index.ClaimIndex.all_leave.Goals as goal

pub returns-then-all_belong : goal.returns-then-all_belong
returns-then-all_belong c =
    let claims = values_of c.args.self.now.items in
    let ports = c.args.terms.now.ports in
    let each : Bool = list_all (yields_port claims c.args.key.now c.args.terms.now c.args.address.now) ports in
    c.all_yield.ensures
    ∙ ap (λ (b : Bool). b && each) (sym c.if-all_belong.true ∙ c.all_belong.ensures)
    ∙ leave-is claims c.args.key.now c.args.terms.now c.args.address.now

pub returns-else-all_belong : goal.returns-else-all_belong
returns-else-all_belong c =
    let claims = values_of c.args.self.now.items in
    let ports = c.args.terms.now.ports in
    let each : Bool = list_all (yields_port claims c.args.key.now c.args.terms.now c.args.address.now) ports in
    c.if-all_belong.false
    ∙ ap (λ (b : Bool). b && each) (sym c.if-all_belong.false ∙ c.all_belong.ensures)
    ∙ leave-is claims c.args.key.now c.args.terms.now c.args.address.now
