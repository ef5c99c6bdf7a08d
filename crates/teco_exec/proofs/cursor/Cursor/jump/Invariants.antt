use Rattle.std.proofs.Common.{◌≡◌, ◌≤◌, length}
use Rattle.teco_scan.specs.Seen.{bytes_in}
use Rattle.teco_exec.specs.CursorMoves as machine
use Rattle.teco_exec.specs.Frames.{frames, outermost}
use Rattle.teco_exec.specs.View.{Stays, cursor}
use Rattle.teco_exec.proofs.cursor.Cursor.jump.Given as goal

-- The blocks so far are left: the jump goes on in those around them as from the first place.
abbrev pub invariant-jumping : goal.invariant-jumping
invariant-jumping l = record {
  text : l.self.text ≡ l.fn.self.text;
  stays : Stays l.fn.self l.self;
  few : l.depth ≤ 64;
  open_blocks : l.depth ≤ length l.self.blocks;
  same : machine.after_jump l.self.text.profile (bytes_in l.self.text.bytes.now l.name) l.self.text.bytes.now (frames l.self.text.bytes.now (outermost l.depth l.self.blocks)) (cursor l.self).args ≡ machine.after_jump l.fn.self.text.profile (bytes_in l.fn.self.text.bytes.now l.name) l.fn.self.text.bytes.now (cursor l.fn.self).blocks (cursor l.fn.self).args;
}

abbrev pub decreases-jumping : goal.decreases-jumping
decreases-jumping l = l.depth
