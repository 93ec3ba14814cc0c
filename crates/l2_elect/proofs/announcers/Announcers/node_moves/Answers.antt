use Rattle.l2_elect.specs.Kept.{kept_announcer}
use Rattle.l2_elect.proofs.Keeping.{kept-among, members-are, nodes-moved}
use Rattle.l2_elect.proofs.announcers.Announcers.node_moves.Goals as goal

pub push_held-requires-clause-kept : goal.push_held-requires-clause-kept
push_held-requires-clause-kept c = λ a.
    kept-among c.args.nodes.now c.as_slice.result.now c.in_ok-names.names.keys c.args.view.now a (kept_announcer c.args.self.now a) c.as_slice.ensures
    c.in_ok-names.ensures (c.requires a)

pub push_held-requires-clause-members : goal.push_held-requires-clause-members
push_held-requires-clause-members c = members-are c.in_ok-names.names c.args.view.now c.in_ok-members.members c.in_ok-members.ensures

pub push_others-requires-clause-kept : goal.push_others-requires-clause-kept
push_others-requires-clause-kept c = λ a.
    kept-among c.args.nodes.now c.as_slice.result.now c.in_ok-names.names.keys c.args.view.now a (kept_announcer c.args.self.now a) c.as_slice.ensures
    c.in_ok-names.ensures (c.requires a)

pub push_others-requires-clause-members : goal.push_others-requires-clause-members
push_others-requires-clause-members c = members-are c.in_ok-names.names c.args.view.now c.in_ok-members.members c.in_ok-members.ensures

pub returns : goal.returns
returns c =
    nodes-moved c.args.view.now c.args.self.now c.new-moves.result c.push_held.new.moves c.push_others.new.moves c.known_addresses-addresses.result
    c.known_addresses-addresses.ensures c.new-moves.ensures c.in_ok-push_held.ensures c.in_ok-push_others.ensures
