-- Why a run over replies stops.
use Rattle.std.specs.Bool.{⊤}
use Rattle.std.proofs.Common.{◌≡◌, ◌⊎◌, inl, inr, Bool, true, false, if◌then◌else◌, refl, sym, subst}
use Rattle.kube_model.specs.declared.put.Put.{Put}
use Rattle.kube_model.specs.declared.status.Status.{Status}
use Rattle.kube_model.specs.declared.status.Status.TheVariants.{Done, BadReply, NoReply}
use Rattle.line_run.specs.Machine.{Stops}
use Rattle.line_run.specs.Statuses.{IsLineStatus, IsEndStatus}
use Rattle.lane_drive.specs.LaneRules.{LaneRules, IsHeldLimit, reply_rules}
use Rattle.mlb_edge.specs.declared.lines.Line.{Line}

-- more than may be held
pub held_status : (status : Status) → IsHeldLimit status → IsLineStatus status
held_status status (what, count, held, is) = subst IsLineStatus (sym is) held

reply_status : (line : Line) (status : Status) → (status ≡ BadReply line.number line.bytes) ⊎ IsHeldLimit status → IsLineStatus status
reply_status line status (inl is) = subst IsLineStatus (sym is) tt
reply_status line status (inr held) = held_status status held

module _ {S E : Type 0} (rules : LaneRules S E) where
  causes_where : (b : Bool) (s : S) (line : Line) (status : Status) → rules.waits s ≡ b
      → ((status' : Status) → rules.waits s ≡ true → rules.hear s line ≡ Stops status' → (status' ≡ BadReply line.number line.bytes) ⊎ IsHeldLimit status')
      → (if b then rules.hear s line else Stops (BadReply line.number line.bytes)) ≡ Stops status → IsLineStatus status × ⊤
  causes_where true s line status is stops e = (reply_status line status (stops status is e), tt)
  causes_where false s line status is stops e =
      let it : BadReply line.number line.bytes ≡ status = cc in
      (subst IsLineStatus it tt, tt)

  -- the line that a run stops at is one that may stop it
  pub reply_causes : ((s : S) (line : Line) (status : Status) → rules.waits s ≡ true → rules.hear s line ≡ Stops status
      → (status ≡ BadReply line.number line.bytes) ⊎ IsHeldLimit status)
      → (s : S) (line : Line) (status : Status) → (reply_rules rules).step s line ≡ Stops status → IsLineStatus status × ⊤
  reply_causes stops s line status e = causes_where (rules.waits s) s line status refl (stops s line) e

  ends_where : (b : Bool) (s : S) → rules.waits s ≡ b → (rules.waits s ≡ true → (put : Put) × (rules.unanswered s ≡ NoReply put))
      → IsEndStatus (if b then rules.unanswered s else Done) × ⊤
  ends_where true s is puts =
      let it = puts is in
      (subst IsEndStatus (sym it.1) tt, tt)
  ends_where false s is puts = (tt, tt)

  -- and so is the end of the input
  pub end_causes : ((s : S) → rules.waits s ≡ true → (put : Put) × (rules.unanswered s ≡ NoReply put)) → (s : S) → IsEndStatus ((reply_rules rules).end s) × ⊤
  end_causes puts s = ends_where (rules.waits s) s refl (puts s)
