use Rattle.ip_ranges.proofs.covers.+add_cover.Given as goal

abbrev pub decreases-add_cover : goal.decreases-add_cover
decreases-add_cover l = l.bits
