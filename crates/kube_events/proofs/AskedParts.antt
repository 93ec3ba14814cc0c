-- Reading the parts of a list of addresses one after the other, as a loop does.
use Rattle.std.proofs.Common.{◌≡◌, ℕ, suc, ◌+◌, ◌≤◌, ◌<◌, List, [], ◌∷◌, ◌++◌, length, drop, get_or, map, Option, Some}
use Rattle.std.proofs.Common.{None, Ok, Err, Bor, refl, sym, ap, ◌∙◌, append_assoc, drop-cons, add-one, option_map}
use Rattle.std.proofs.lemmas.List.{append-nil, drop_all}
use Rattle.ip_ranges.specs.declared.fault.RangeFault.{RangeFault}
use Rattle.ip_ranges.specs.Values.{AddressValue}
use Rattle.ip_ranges.specs.AddressText.{address_of}
use Rattle.ip_ranges.specs.EntryText.{trimmed}
use Rattle.kube_events.specs.Wanted.{spelled_all}

abbrev pub Parts : Type 0
Parts = List (Bor (List ℕ))

-- what was read before, and what is still read
abbrev pub with_front : List AddressValue → Option (List AddressValue) → Option (List AddressValue)
with_front front read = option_map (λ addresses. front ++ addresses) read

-- the parts from this index on
abbrev pub parts_after : ℕ → Parts → List (List ℕ)
parts_after index parts = map (λ part. part.now) (drop index parts)

regroup : (front : List AddressValue) (address : AddressValue) (read : Option (List AddressValue))
    → with_front front (option_map (λ addresses. address ∷ addresses) read) ≡ with_front (front ++ address ∷ []) read
regroup front address (Some addresses) = ap (λ (l : List AddressValue). Some l) (simp append_assoc)
regroup front address None = refl

opened : (index : ℕ) (parts : Parts) (part : Bor (List ℕ)) → index < length parts → part ≡ get_or parts index part
    → parts_after index parts ≡ part.now ∷ parts_after (index + 1) parts
opened index parts part lt at =
    let cut : drop index parts ≡ get_or parts index part ∷ drop (suc index) parts = drop-cons parts index part lt in
    rw (add-one, cut, ← at) refl

pub goes_on : (front : List AddressValue) (index : ℕ) (parts : Parts) (part : Bor (List ℕ)) (address : AddressValue) (total : Option (List AddressValue))
    → index < length parts → part ≡ get_or parts index part → address_of (trimmed part.now) ≡ Ok address
    → with_front front (spelled_all (parts_after index parts)) ≡ total
    → with_front (front ++ address ∷ []) (spelled_all (parts_after (index + 1) parts)) ≡ total
goes_on front index parts part address total lt at read so_far =
    sym (regroup front address (spelled_all (parts_after (index + 1) parts)))
    ∙ (let one : with_front front (spelled_all (parts_after index parts))
    ≡ with_front front (option_map (λ addresses. address ∷ addresses) (spelled_all (parts_after (index + 1) parts))) =
    rw (opened index parts part lt at, read) refl in sym one)
    ∙ so_far

pub ends : (front : List AddressValue) (index : ℕ) (parts : Parts) (part : Bor (List ℕ)) (fault : RangeFault) (total : Option (List AddressValue))
    → index < length parts → part ≡ get_or parts index part → address_of (trimmed part.now) ≡ Err fault
    → with_front front (spelled_all (parts_after index parts)) ≡ total
    → None ≡ total
ends front index parts part fault total lt at read so_far =
    let one : with_front front (spelled_all (parts_after index parts)) ≡ None = rw (opened index parts part lt at, read) refl in
    sym one ∙ so_far

pub is_done : (front : List AddressValue) (index : ℕ) (parts : Parts) (total : Option (List AddressValue))
    → length parts ≤ index → with_front front (spelled_all (parts_after index parts)) ≡ total → Some front ≡ total
is_done front index parts total le so_far =
    let none : drop index parts ≡ [] = drop_all index parts le in
    let one : with_front front (spelled_all (parts_after index parts)) ≡ Some front = rw none (ap (λ (l : List AddressValue). Some l) (append-nil front)) in
    sym one ∙ so_far
