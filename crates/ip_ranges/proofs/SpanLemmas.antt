-- Ranges that share an address.
use Rattle.std.proofs.Common.{◌≡◌, ◌≤◌, ◌↔◌, refl, sym, arith, leb, le-leb, leb-true}
use Rattle.std.specs.Prelude.{IsTrue, max}
use Rattle.ip_ranges.specs.Values.{AddressValue, SpanValue, Holds}

-- ranges of one family, the first of which doesn't begin after the other one's end
pub shared : (s t : SpanValue) → s.low ≤ s.high → t.low ≤ t.high → s.family ≡ t.family → s.low ≤ t.high
    → IsTrue (leb t.low s.high) ↔ ((a : AddressValue) × Holds s a × Holds t a)
shared s t ordered ordered' same reach = (
  λ e. let within = leb-true t.low s.high e in
      (record { family = s.family; number = max s.low t.low }, (refl, omega arith, omega arith), (sym same, omega arith, omega arith)),
  λ (a, h, k). let low = k.1 in let high = h.2 in le-leb t.low s.high (omega arith),
)
