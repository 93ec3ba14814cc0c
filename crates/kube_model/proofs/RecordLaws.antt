-- The test of records decides that they are one.
use Rattle.std.proofs.Common.{◌≡◌, ℕ, true, ◌&&◌, List, refl, ap, ◌∙◌}
use Rattle.std.proofs.lemmas.Bool.{and_parts, and_from}
use Rattle.std.proofs.lemmas.Slice.Eq.{bytes_eq-Decides}
use Rattle.std.specs.Cmp.Lexicographic.{pointwise}
use Rattle.std.specs.Str.{bytes_eq}
use Rattle.ip_ranges.specs.Values.{AddressValue, same_address}
use Rattle.ip_ranges.proofs.AddressLaws.{addresses-is, addresses-itself}
use Rattle.kube_model.specs.declared.record.Record.{Record}
use Rattle.kube_model.specs.Records.{same_record}

pub same_record-is : (a b : Record) → same_record a b ≡ true → a ≡ b
same_record-is a b e =
    let two = and_parts (pointwise same_address a.addresses b.addresses && bytes_eq a.pool b.pool) (bytes_eq a.mark b.mark) e in
    let one = and_parts (pointwise same_address a.addresses b.addresses) (bytes_eq a.pool b.pool) two.0 in
    let addresses : List AddressValue → Record = λ x. record { addresses = x; pool = a.pool; mark = a.mark } in
    let pool : List ℕ → Record = λ x. record { addresses = b.addresses; pool = x; mark = a.mark } in
    let mark : List ℕ → Record = λ x. record { addresses = b.addresses; pool = b.pool; mark = x } in
    ap addresses (addresses-is a.addresses b.addresses one.0) ∙ ap pool ((bytes_eq-Decides a.pool b.pool).0 one.1)
    ∙ ap mark ((bytes_eq-Decides a.mark b.mark).0 two.1)

pub same_record-itself : (a : Record) → same_record a a ≡ true
same_record-itself a =
    and_from (pointwise same_address a.addresses a.addresses && bytes_eq a.pool a.pool) (bytes_eq a.mark a.mark)
    (and_from (pointwise same_address a.addresses a.addresses) (bytes_eq a.pool a.pool) (addresses-itself a.addresses)
    ((bytes_eq-Decides a.pool a.pool).1 refl))
    ((bytes_eq-Decides a.mark a.mark).1 refl)
