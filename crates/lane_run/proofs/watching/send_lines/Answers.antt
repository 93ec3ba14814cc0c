use Rattle.std.proofs.Common.{◌≡◌, ◌∷◌, [], ◌++◌, length, refl, ap, ◌∙◌, arith, length-append}
use Rattle.lane_mail.specs.Values.{Sender}
use Rattle.mlb_edge.specs.InputLines.{Passes-refl, Passes-append}
use Rattle.lane_run.specs.Outside.{lane_state}
use Rattle.lane_run.proofs.LaneSoFar.{begins, goes_on, ended_so}
use Rattle.lane_run.proofs.Turning.{turned_more}
use Rattle.lane_run.proofs.watching.send_lines.Goals as goal

pub lines-init : goal.lines-init
lines-init g c = record {
  mail = refl;
  lane = refl;
  turned = ([], rw c.requires.reader (begins g.L.Lanes.belongs c.args.lane (g.S.Source.left c.args.source.now)), rw c.requires.fresh refl);
  passes = rw c.requires.reader (Passes-refl _ (g.S.Source.left c.args.source.now));
  counted = rw c.requires.fresh (omega arith);
  later = omega arith;
  named = refl;
  safety = refl;
}

pub returns-in-Some-clause-ended : goal.returns-in-Some-clause-ended
returns-in-Some-clause-ended g c =
    let i = c.lines.invariant in
    let left = g.S.Source.left in
    let name = g.S.Source.name in
    let faults = g.S.Source.faults in
    let unfailing = g.S.Source.unfailing in
    let first = c.args.source.now in
    let now = c.lines.source in
    let after = c.send_next.new.source in
    record {
      items = i.turned.0;
      ended = ended_so g.L.Lanes.belongs c.args.lane (lane_state (left first) (name first) (faults first) (unfailing first))
          (lane_state (left now) (name now) (faults now) (unfailing now)) (lane_state (left after) (name after) (faults after) (unfailing after)) c.lines.reader
          c.send_next.new.reader i.turned.0 c.in-Some.end i.turned.1
          (Passes-append _ c.lines.reader c.send_next.new.reader _ (left now) _ i.passes c.send_next.ensures.passes) i.later i.named i.safety
          c.in-Some.ensures.ends c.send_next.ensures.later c.send_next.ensures.name c.send_next.ensures.unfailing;
      state = g.T.Turner.state c.lines.turner;
      turned = rw (ap (λ (s : Sender). s.sent) c.in-Some.ensures.unsent) i.turned.2;
      left = c.in-Some.ensures.left;
    }

pub lines-preserved : goal.lines-preserved
lines-preserved g c =
    let i = c.lines.invariant in
    let s = c.in_default.ensures.sends in
    let more : c.send_next.new.pass.sent ≡ c.lines.pass.sent ++ s.one ∷ [] = ap (λ (s : Sender). s.sent) s.sent in
    record {
      mail = ap (λ (s : Sender). s.mail) s.sent ∙ i.mail;
      lane = ap (λ (s : Sender). s.lane) s.sent ∙ i.lane;
      turned = (
        i.turned.0 ++ s.item ∷ [],
        goes_on g.L.Lanes.belongs c.args.lane (g.S.Source.left c.args.source.now) _ _ i.turned.0 s.line s.item i.turned.1 s.comes s.is,
        rw more (turned_more g.T.Turner.Turns (g.T.Turner.state c.args.turner.now) (g.T.Turner.state c.lines.turner) (g.T.Turner.state c.send_next.new.turner)
            i.turned.0 c.lines.pass.sent s.item s.one i.turned.2 s.turned),
      );
      passes = Passes-append _ c.lines.reader c.send_next.new.reader _ (g.S.Source.left c.lines.source) _ i.passes c.send_next.ensures.passes;
      counted = omega (arith, i.counted, c.in_default.ensures.near.0, ap length more, length-append c.lines.pass.sent (s.one ∷ []));
      later = omega (arith, i.later, c.send_next.ensures.later);
      named = c.send_next.ensures.name ∙ i.named;
      safety = c.send_next.ensures.unfailing ∙ i.safety;
    }
