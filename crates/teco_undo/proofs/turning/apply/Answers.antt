use Rattle.teco_undo.proofs.Turned.{turn_cancels, apply_fits}
use Rattle.teco_undo.proofs.turning.apply.Goals as goal

pub returns-clause-fits : goal.returns-clause-fits
returns-clause-fits c = apply_fits c.args.editor.now c.turn.new.editor c.args.change.now c.turn.new.self c.shown-shown.ensures.sound c.requires c.turn.ensures.editor c.turn.ensures.change

pub returns-clause-editor_again : goal.returns-clause-editor_again
returns-clause-editor_again c = (turn_cancels c.args.editor.now c.turn.new.editor c.args.change.now c.turn.new.self c.requires.0.0 c.turn.ensures.editor c.turn.ensures.change).editor_again

pub returns-clause-change_again : goal.returns-clause-change_again
returns-clause-change_again c = (turn_cancels c.args.editor.now c.turn.new.editor c.args.change.now c.turn.new.self c.requires.0.0 c.turn.ensures.editor c.turn.ensures.change).change_again
