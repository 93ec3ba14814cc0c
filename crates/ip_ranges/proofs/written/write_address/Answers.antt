use Rattle.std.proofs.Common.{ap, ◌∙◌, subst}
use Rattle.ip_ranges.specs.Values.{IsOfFamily}
use Rattle.ip_ranges.specs.AddressText.{address_of}
use Rattle.ip_ranges.proofs.CanonicalLemmas.{IsCanonical-canonical_text, ascii-canonical_text}
use Rattle.ip_ranges.proofs.PrintedLemmas.{text_in-canonical, address_of-canonical_text}
use Rattle.ip_ranges.proofs.written.write_address.Goals as goal

pub returns-in-V4-clause-text : goal.returns-in-V4-clause-text
returns-in-V4-clause-text c = rw (← text_in-canonical _ _ _ _ c.in-V4.is c.address.view_is) c.write_ipv4.ensures.text

pub returns-in-V4-clause-canonical : goal.returns-in-V4-clause-canonical
returns-in-V4-clause-canonical c =
    rw (returns-in-V4-clause-text c) (IsCanonical-canonical_text c.args.address.now (subst IsOfFamily c.address.view_is c.address.invariant))

pub returns-in-V4-clause-reads_back : goal.returns-in-V4-clause-reads_back
returns-in-V4-clause-reads_back c free =
    ap address_of (returns-in-V4-clause-text c) ∙ address_of-canonical_text c.args.address.now (subst IsOfFamily c.address.view_is c.address.invariant) free

pub returns-in-V4-clause-ascii : goal.returns-in-V4-clause-ascii
returns-in-V4-clause-ascii c = rw (returns-in-V4-clause-text c) (ascii-canonical_text c.args.address.now)

pub returns-in-V6-clause-text : goal.returns-in-V6-clause-text
returns-in-V6-clause-text c = rw (← text_in-canonical _ _ _ _ c.in-V6.is c.address.view_is) c.write_ipv6.ensures.text

pub returns-in-V6-clause-canonical : goal.returns-in-V6-clause-canonical
returns-in-V6-clause-canonical c =
    rw (returns-in-V6-clause-text c) (IsCanonical-canonical_text c.args.address.now (subst IsOfFamily c.address.view_is c.address.invariant))

pub returns-in-V6-clause-reads_back : goal.returns-in-V6-clause-reads_back
returns-in-V6-clause-reads_back c free =
    ap address_of (returns-in-V6-clause-text c) ∙ address_of-canonical_text c.args.address.now (subst IsOfFamily c.address.view_is c.address.invariant) free

pub returns-in-V6-clause-ascii : goal.returns-in-V6-clause-ascii
returns-in-V6-clause-ascii c = rw (returns-in-V6-clause-text c) (ascii-canonical_text c.args.address.now)
