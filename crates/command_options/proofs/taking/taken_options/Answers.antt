use Rattle.std.proofs.Common.{sym, ap, ◌∙◌}
use Rattle.std.specs.Option.{option_map}
use Rattle.command_options.specs.Options.{texts_of}
use Rattle.command_options.specs.Seen.{seen}
use Rattle.command_options.proofs.Values.{goes-on, goes-nowhere}
use Rattle.command_options.proofs.taking.taken_options.Goals as goal

pub returns-in_err-given : goal.returns-in_err-given
returns-in_err-given g c =
    let t = g.G.TakesOptions in
    record {
      taken =
          ap (option_map t.said) c.from_residual-in_err-given.ensures
          ∙ sym (goes-nowhere t.step (texts_of c.options.rest.now) (seen c.in_ok-option.option) (t.said c.options.given) (sym c.in_ok-option.ensures.first)
          (sym c.in_err-given.ensures.taken))
          ∙ c.options.invariant;
    }

pub options-preserved : goal.options-preserved
options-preserved g c =
    let t = g.G.TakesOptions in
    sym (goes-on t.step (texts_of c.options.rest.now) (seen c.in_ok-option.option) (t.said c.options.given) (t.said c.in_ok-given.given)
    (sym c.in_ok-option.ensures.first) (sym c.in_ok-given.ensures.taken))
    ∙ c.options.invariant
