use Rattle.std.proofs.Common.{◌≡◌, ℕ, ◌+◌, ◌-◌, ◌≤◌, length, take, drop, ap, ◌∙◌, inl, inr, refl, arith, length-drop}
use Rattle.std.proofs.lemmas.List.{length-take-le}
use Rattle.std.proofs.lemmas.Bool.{false≢true, false_from_ne_true}
use Rattle.std.proofs.lemmas.Result.{err_from_is_err_and}
use Rattle.mlb_edge.specs.Reading.{Reading}
use Rattle.mlb_edge.proofs.Lists.{front_more}
use Rattle.mlb_edge.proofs.line_reader.LineReader.fill.Goals as goal

pub returns-clause-bytes : goal.returns-clause-bytes
returns-clause-bytes g c =
    let s = c.self.inside in
    let len : ℕ = s.end - s.start in
    let buffer = c.read_behind.new.buffer.items in
    let n = c.in_ok-count.count in
    let front : take len buffer ≡ c.args.self.now.held =
    c.read_behind.ensures.front ∙ c.make_room.ensures.front ∙ c.move_to_front.ensures.front ∙ ap (λ (r : Reading). r.held) c.self.view_is in
    let room : len + n ≤ length buffer = omega (arith, c.in_ok-make_room.ensures.room, c.in_ok-count.ensures.bound, c.read_behind.ensures.len) in (
      take n (drop len buffer),
      front_more buffer c.args.self.now.held len n front,
      length-take-le n (drop len buffer) (omega (arith, length-drop len buffer)),
      c.in_ok-count.ensures.bytes,
    )

pub returns-in_err-make_room-clause-bytes : goal.returns-in_err-make_room-clause-bytes
returns-in_err-make_room-clause-bytes g c =
    let p = err_from_is_err_and c.from_residual.result c.from_residual.ensures.1 in
    rw p.1 tt

pub returns-in_err-make_room-clause-end : goal.returns-in_err-make_room-clause-end
returns-in_err-make_room-clause-end g c =
    let p = err_from_is_err_and c.from_residual.result c.from_residual.ensures.1 in
    rw p.1 tt

pub returns-in_err-count-clause-bytes : goal.returns-in_err-count-clause-bytes
returns-in_err-count-clause-bytes g c =
    let p = err_from_is_err_and c.from_residual-in_err-count.result c.from_residual-in_err-count.ensures.1 in
    rw p.1 tt

pub returns-in_err-count-clause-end : goal.returns-in_err-count-clause-end
returns-in_err-count-clause-end g c =
    let p = err_from_is_err_and c.from_residual-in_err-count.result c.from_residual-in_err-count.ensures.1 in
    rw p.1 tt

pub returns-clause-err : goal.returns-clause-err
returns-clause-err g c = tt

pub returns-clause-fault : goal.returns-clause-fault
returns-clause-fault g c = tt

pub returns-in_err-make_room-clause-name : goal.returns-in_err-make_room-clause-name
returns-in_err-make_room-clause-name g c = refl

pub returns-in_err-make_room-clause-later : goal.returns-in_err-make_room-clause-later
returns-in_err-make_room-clause-later g c = omega arith

pub returns-in_err-make_room-clause-unfailing : goal.returns-in_err-make_room-clause-unfailing
returns-in_err-make_room-clause-unfailing g c = refl

pub returns-in_err-make_room-clause-cause : goal.returns-in_err-make_room-clause-cause
returns-in_err-make_room-clause-cause g c =
    let p = err_from_is_err_and c.from_residual.result c.from_residual.ensures.1 in
    rw (p.1, p.2) (λ e. absurd (cc))

pub returns-in_err-make_room-clause-unsafe_read : goal.returns-in_err-make_room-clause-unsafe_read
returns-in_err-make_room-clause-unsafe_read g c =
    let p = err_from_is_err_and c.from_residual.result c.from_residual.ensures.1 in
    rw (p.1, p.2) (λ e. absurd (cc))

pub returns-in_err-make_room-clause-fault : goal.returns-in_err-make_room-clause-fault
returns-in_err-make_room-clause-fault g c =
    let p = err_from_is_err_and c.from_residual.result c.from_residual.ensures.1 in
    rw (p.1, p.2) (inr refl)

pub returns-in_err-count-clause-name : goal.returns-in_err-count-clause-name
returns-in_err-count-clause-name g c = c.read_behind.ensures.name

pub returns-in_err-count-clause-later : goal.returns-in_err-count-clause-later
returns-in_err-count-clause-later g c = c.read_behind.ensures.cause.later

pub returns-in_err-count-clause-unfailing : goal.returns-in_err-count-clause-unfailing
returns-in_err-count-clause-unfailing g c = c.read_behind.ensures.unfailing

pub returns-in_err-count-clause-cause : goal.returns-in_err-count-clause-cause
returns-in_err-count-clause-cause g c = λ e. c.in_err-count.ensures.cause.failed

pub returns-in_err-count-clause-unsafe_read : goal.returns-in_err-count-clause-unsafe_read
returns-in_err-count-clause-unsafe_read g c = λ e. false_from_ne_true _ (λ unfailing. false≢true (c.in_err-count.ensures.well unfailing))

pub returns-in_err-count-clause-fault : goal.returns-in_err-count-clause-fault
returns-in_err-count-clause-fault g c =
    let p = err_from_is_err_and c.from_residual-in_err-count.result c.from_residual-in_err-count.ensures.1 in
    rw (p.1, p.2) (inl refl)

pub returns-clause-name : goal.returns-clause-name
returns-clause-name g c = c.read_behind.ensures.name

pub returns-clause-later : goal.returns-clause-later
returns-clause-later g c = c.read_behind.ensures.cause.later

pub returns-clause-unfailing : goal.returns-clause-unfailing
returns-clause-unfailing g c = c.read_behind.ensures.unfailing

pub returns-clause-cause : goal.returns-clause-cause
returns-clause-cause g c = λ e. absurd (cc)

pub returns-clause-unsafe_read : goal.returns-clause-unsafe_read
returns-clause-unsafe_read g c = λ e. absurd (cc)

pub returns-clause-end : goal.returns-clause-end
returns-clause-end g c = c.in_ok-count.ensures.end
