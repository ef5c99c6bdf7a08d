use Rattle.std.proofs.Common.{◌≡◌, ◌≤◌, drop, length}
use Rattle.teco_exec.specs.CursorMoves as machine
use Rattle.teco_exec.specs.Frames.{frames, outermost}
use Rattle.teco_exec.specs.View.{Stays, cursor}
use Rattle.teco_exec.proofs.cursor.Cursor.leave.Given as goal

-- The blocks so far are left: it goes on in those around them as from the first place.
abbrev pub invariant-leaving : goal.invariant-leaving
invariant-leaving l = record {
  text : l.self.text ≡ l.fn.self.text;
  stays : Stays l.fn.self l.self;
  few : l.depth ≤ 64;
  open_blocks : l.depth ≤ length l.self.blocks;
  within : l.at ≤ length l.self.text.bytes.now;
  same : machine.after_leaving_iteration l.self.text.profile (frames l.self.text.bytes.now (outermost l.depth l.self.blocks)) (cursor l.self).args (drop l.at l.self.text.bytes.now) ≡ machine.after_leaving_iteration l.fn.self.text.profile (cursor l.fn.self).blocks (cursor l.fn.self).args (cursor l.fn.self).left;
}

abbrev pub decreases-leaving : goal.decreases-leaving
decreases-leaving l = l.depth
