use Rattle.std.proofs.Common.{◌∙◌}
use Rattle.teco_exec.proofs.Frames.{inside_is}
use Rattle.teco_exec.proofs.cursor.Cursor.has_iteration.Goals as goal

pub returns : goal.returns
returns c = c.has_iteration.ensures ∙ inside_is c.args.self.now.text.bytes.now c.args.self.now.blocks
