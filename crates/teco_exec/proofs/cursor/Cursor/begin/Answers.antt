use Rattle.std.proofs.Common.{ap}
use Rattle.teco_core.specs.ArgumentsView.{arguments}
use Rattle.teco_exec.proofs.Frames.{frames_nil}
use Rattle.teco_exec.proofs.cursor.Cursor.begin.Goals as goal

pub returns-clause-begins : goal.returns-clause-begins
returns-clause-begins c =
    ap (λ bs. record { args = arguments c.args.args; left = c.args.text.bytes.now; blocks = bs }) (frames_nil c.args.text.bytes.now c.new.ensures)
