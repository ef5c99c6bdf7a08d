use Rattle.std.proofs.Common.{drop, ap}
use Rattle.teco_core.specs.ArgumentsView.{arguments}
use Rattle.teco_exec.proofs.Frames.{frames_cons}
use Rattle.teco_exec.proofs.cursor.Cursor.enter.Goals as goal

pub returns-clause-enters : goal.returns-clause-enters
returns-clause-enters c =
    let text = c.args.self.now.text.bytes.now in
    ap (λ bs. record { args = arguments c.args.self.now.args; left = drop c.args.start text; blocks = bs }) (frames_cons text c.push.ensures)
