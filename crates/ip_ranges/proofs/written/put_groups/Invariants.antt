use Rattle.std.proofs.Common.{◌≡◌, ◌+◌, ◌*◌, ◌≤◌, ◌++◌, ◌∷◌, length, get_or, take}
use Rattle.std.specs.Net.Text.{groups_text}
use Rattle.ip_ranges.proofs.written.put_groups.Given as goal

-- the groups so far, and room for those that are left
abbrev pub invariant-loop-group : goal.invariant-loop-group
invariant-loop-group l =
    (take l.at l.buf ≡ take l.fn.at l.fn.buf ++ groups_text (get_or l.groups 0 0 ∷ take l.group-index l.rest))
    × (l.at + 5 * length l.rest ≤ 39 + 5 * l.group-index) × (l.at ≤ l.fn.at + 5 * (l.group-index + 1))
