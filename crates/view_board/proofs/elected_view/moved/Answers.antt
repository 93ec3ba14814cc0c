use Rattle.view_board.proofs.elected_view.moved.Goals as goal

pub returns : goal.returns
returns c = c.in_ok-make.ensures.ok c.args.view.now c.in_ok-moves.ensures
