use Rattle.std.proofs.Common.{◌≡◌, ◌≤◌, ◌<◌, None, Some, Ok, drop, length, refl, sym, ap, subst, ◌∙◌, arith}
use Rattle.teco_scan.specs.declared.text.Text.{Text}
use Rattle.teco_core.specs.ArgumentsView.{arguments}
use Rattle.teco_scan.specs.Seen.{IsSpanIn, bytes_in}
use Rattle.teco_exec.specs.CursorMoves.{after_jump}
use Rattle.teco_exec.specs.Frames.{frames, outermost}
use Rattle.teco_exec.proofs.Frames.{around, jumps, start_within}
use Rattle.teco_exec.proofs.Outermost.{begin_outermost, outermost_all, outermost_cons, outermost_length, outermost_none}
use Rattle.teco_exec.proofs.Remembering.{finds_there, is_within}
use Rattle.teco_exec.proofs.cursor.Cursor.jump.Goals as goal

pub jumping-init : goal.jumping-init
jumping-init c =
    let s = c.args.self.now in
    record {
      text = refl;
      stays = record { place = refl; frames = refl };
      few = omega (arith, c.len-depth.ensures.few, c.len-depth.ensures.value);
      open_blocks = omega (arith, c.len-depth.ensures.value);
      same = ap (λ bs. after_jump s.text.profile (bytes_in s.text.bytes.now c.args.name) s.text.bytes.now (frames s.text.bytes.now bs) (arguments s.args)) (outermost_all c.len-depth.result s.blocks c.len-depth.ensures.value);
    }

pub tag-requires-clause-few : goal.tag-requires-clause-few
tag-requires-clause-few c = c.jumping.invariant.few

pub tag-requires-clause-inside : goal.tag-requires-clause-inside
tag-requires-clause-inside c =
    let s = c.jumping.self in
    is_within s.same c.list_start-start.result
    (subst (λ n. n ≤ length s.text.bytes.now) (sym c.list_start-start.ensures) (start_within (outermost c.jumping.depth s.blocks) (begin_outermost c.jumping.depth s.blocks s.begin)))

pub tag-requires-clause-name : goal.tag-requires-clause-name
tag-requires-clause-name c =
    let s = c.jumping.self in
    subst (λ (t : Text). IsSpanIn (length t.bytes.now) c.args.name) (sym c.jumping.invariant.text ∙ sym s.same) c.requires

pub returns-in-Some-clause-text : goal.returns-in-Some-clause-text
returns-in-Some-clause-text c = c.jumping.invariant.text

pub returns-in-Some-clause-moves : goal.returns-in-Some-clause-moves
returns-in-Some-clause-moves c =
    let s = c.jumping.self in
    let more = drop c.in-Some.to s.text.bytes.now in
    let size = sym (outermost_length c.jumping.depth s.blocks c.jumping.invariant.open_blocks) in
    let found = finds_there s.same (Some c.in-Some.to) c.args.name c.jumping.depth c.list_start-start.result c.in-Some.ensures.finds in
    ap (λ bs. Ok (record { args = arguments s.args; left = more; blocks = frames s.text.bytes.now bs })) c.truncate.ensures
    ∙ jumps s.text.profile s.text.bytes.now (bytes_in s.text.bytes.now c.args.name) (arguments s.args) (outermost c.jumping.depth s.blocks) (Some more) size c.list_start-start.ensures found
    ∙ c.jumping.invariant.same

pub returns-then-depth-eq0-clause-text : goal.returns-then-depth-eq0-clause-text
returns-then-depth-eq0-clause-text c = c.jumping.invariant.text

pub returns-then-depth-eq0-clause-moves : goal.returns-then-depth-eq0-clause-moves
returns-then-depth-eq0-clause-moves c =
    let s = c.jumping.self in
    let size = sym (outermost_length c.jumping.depth s.blocks c.jumping.invariant.open_blocks) in
    let zero_ : c.jumping.depth ≡ 0 = c.if-depth-eq0.true in
    let none = ap (λ n. outermost n s.blocks) zero_ ∙ outermost_none s.blocks in
    let found = finds_there s.same None c.args.name c.jumping.depth c.list_start-start.result c.in_default.ensures.finds in
    ap (around s.text.profile s.text.bytes.now (bytes_in s.text.bytes.now c.args.name) (arguments s.args)) (sym none)
    ∙ jumps s.text.profile s.text.bytes.now (bytes_in s.text.bytes.now c.args.name) (arguments s.args) (outermost c.jumping.depth s.blocks) None size c.list_start-start.ensures found
    ∙ c.jumping.invariant.same

pub returns-then-depth-eq0-clause-stays : goal.returns-then-depth-eq0-clause-stays
returns-then-depth-eq0-clause-stays c = record { place = c.jumping.invariant.stays.place; frames = c.jumping.invariant.stays.frames }

pub jumping-preserved : goal.jumping-preserved
jumping-preserved c =
    let s = c.jumping.self in
    let size = sym (outermost_length c.jumping.depth s.blocks c.jumping.invariant.open_blocks) in
    let some : 0 < c.jumping.depth = omega (arith, c.if-depth-eq0.false) in
    let inner = outermost_cons c.jumping.depth s.blocks some c.jumping.invariant.open_blocks in
    let found = finds_there s.same None c.args.name c.jumping.depth c.list_start-start.result c.in_default.ensures.finds in
    record {
      text = c.jumping.invariant.text;
      stays = record { place = c.jumping.invariant.stays.place; frames = c.jumping.invariant.stays.frames };
      few = omega (arith, c.jumping.invariant.few);
      open_blocks = omega (arith, c.jumping.invariant.open_blocks);
      same = ap (around s.text.profile s.text.bytes.now (bytes_in s.text.bytes.now c.args.name) (arguments s.args)) (sym inner.1)
          ∙ jumps s.text.profile s.text.bytes.now (bytes_in s.text.bytes.now c.args.name) (arguments s.args) (outermost c.jumping.depth s.blocks) None size c.list_start-start.ensures found
          ∙ c.jumping.invariant.same;
    }
