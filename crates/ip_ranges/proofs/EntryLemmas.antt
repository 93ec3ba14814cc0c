-- What an entry reads as, from the span that is written.
use Rattle.std.proofs.Common.{◌≡◌, ℕ, List, true, false, Ok, Err, refl, sym}
use Rattle.ip_ranges.specs.declared.fault.RangeFault.{RangeFault}
use Rattle.ip_ranges.specs.declared.fault.RangeFault.TheVariants.{Mapped}
use Rattle.ip_ranges.specs.Values.{SpanValue, meets_mapped}
use Rattle.ip_ranges.specs.EntryText.{written_span, entry_of}

pub entry_of-err : (text : List ℕ) (fault : RangeFault) → Err fault ≡ written_span text → Err fault ≡ entry_of text
unfolding entry_of
entry_of-err text fault e = rw (sym e) refl

pub entry_of-mapped : (text : List ℕ) (s : SpanValue) → Ok s ≡ written_span text → meets_mapped s ≡ true → Err Mapped ≡ entry_of text
unfolding entry_of
entry_of-mapped text s e mapped = rw (sym e, mapped) refl

pub entry_of-ok : (text : List ℕ) (s : SpanValue) → Ok s ≡ written_span text → meets_mapped s ≡ false → Ok s ≡ entry_of text
unfolding entry_of
entry_of-ok text s e free = rw (sym e, free) refl
