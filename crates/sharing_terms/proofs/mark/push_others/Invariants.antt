use Rattle.std.proofs.Common.{◌≡◌, ◌++◌, ◌∷◌, drop, string_bytes}
use Rattle.std.specs.List.{flat_map}
use Rattle.sharing_terms.specs.Marked.{AreSmall}
use Rattle.sharing_terms.specs.Marks.{port_text}
use Rattle.sharing_terms.proofs.mark.push_others.Given as goal

-- what is written and what is left make the whole; where the ports left are small, all are
abbrev pub invariant-loop-port : goal.invariant-loop-port
invariant-loop-port l =
    record {
      written : string_bytes l.text ++ flat_map (λ p. 44 ∷ port_text p) (drop l.port-index l.ports)
          ≡ string_bytes l.fn.text ++ flat_map (λ p. 44 ∷ port_text p) l.ports;
      small : AreSmall (drop l.port-index l.ports) → AreSmall l.ports;
    }
