use Rattle.std.proofs.Common.{◌≡◌, Err, Ok, drop, refl, sym, ap, ◌∙◌, arith}
use Rattle.std.proofs.lemmas.Result.{err_from_is_err_and}
use Rattle.teco_core.specs.ArgumentsView.{arguments}
use Rattle.teco_exec.specs.CursorMoves.{after_leaving_iteration}
use Rattle.teco_exec.specs.Frames.{frames, outermost}
use Rattle.teco_exec.proofs.Frames.{leaves, leaves_part, leaving_none}
use Rattle.teco_exec.proofs.Outermost.{outermost_all, outermost_length, outermost_none}
use Rattle.teco_exec.proofs.Remembering.{is_within, passes_there, within_there}
use Rattle.teco_exec.proofs.cursor.Cursor.leave.Goals as goal

pub leaving-init : goal.leaving-init
leaving-init c =
    let s = c.args.self.now in
    record {
      text = refl;
      stays = record { place = refl; frames = refl };
      few = omega (arith, c.len-depth.ensures.few, c.len-depth.ensures.value);
      open_blocks = omega (arith, c.len-depth.ensures.value);
      within = s.within;
      same = ap (λ bs. after_leaving_iteration s.text.profile (frames s.text.bytes.now bs) (arguments s.args) (drop s.at s.text.bytes.now)) (outermost_all c.len-depth.result s.blocks c.len-depth.ensures.value);
    }

pub skip_whole-requires-clause-few : goal.skip_whole-requires-clause-few
skip_whole-requires-clause-few c = c.leaving.invariant.few

pub skip_whole-requires-clause-inside : goal.skip_whole-requires-clause-inside
skip_whole-requires-clause-inside c = is_within c.leaving.self.same c.leaving.at c.leaving.invariant.within

pub returns-in_err-at-clause-text : goal.returns-in_err-at-clause-text
returns-in_err-at-clause-text c = c.leaving.invariant.text

pub returns-in_err-at-clause-moves : goal.returns-in_err-at-clause-moves
returns-in_err-at-clause-moves c =
    let s = c.leaving.self in
    let p = err_from_is_err_and c.from_residual.result c.from_residual.ensures.1 in
    let size = sym (outermost_length c.leaving.depth s.blocks c.leaving.invariant.open_blocks) in
    let passed = passes_there s.same (Err c.in_err-at.field-0.0) c.kind-kind.result c.leaving.depth c.leaving.at c.in_err-at.ensures.passes in
    rw (p.1, p.2)
    (leaves s.text.profile s.text.bytes.now (drop c.leaving.at s.text.bytes.now) (arguments s.args) c.kind-kind.result (Err c.in_err-at.field-0.0) c.get.ensures c.kind-kind.ensures size passed refl
    ∙ c.leaving.invariant.same)

pub returns-in_err-at-clause-stays : goal.returns-in_err-at-clause-stays
returns-in_err-at-clause-stays c =
    let p = err_from_is_err_and c.from_residual.result c.from_residual.ensures.1 in
    rw (p.1) (record { place = c.leaving.invariant.stays.place; frames = c.leaving.invariant.stays.frames })

pub returns-in-Iter-clause-text : goal.returns-in-Iter-clause-text
returns-in-Iter-clause-text c = c.leaving.invariant.text

pub returns-in-Iter-clause-moves : goal.returns-in-Iter-clause-moves
returns-in-Iter-clause-moves c =
    let s = c.leaving.self in
    let more = drop c.in_ok-at.at s.text.bytes.now in
    let size = sym (outermost_length c.leaving.depth s.blocks c.leaving.invariant.open_blocks) in
    let passed = passes_there s.same (Ok c.in_ok-at.at) c.kind-kind.result c.leaving.depth c.leaving.at c.in_ok-at.ensures.passes in
    ap (λ bs. Ok (record { args = arguments s.args; left = more; blocks = frames s.text.bytes.now bs })) c.truncate.ensures
    ∙ leaves s.text.profile s.text.bytes.now (drop c.leaving.at s.text.bytes.now) (arguments s.args) c.kind-kind.result (Ok more) c.get.ensures c.kind-kind.ensures size passed c.in-Iter.is
    ∙ c.leaving.invariant.same

pub leaving-preserved : goal.leaving-preserved
leaving-preserved c =
    let s = c.leaving.self in
    let more = drop c.in_ok-at.at s.text.bytes.now in
    let size = sym (outermost_length c.leaving.depth s.blocks c.leaving.invariant.open_blocks) in
    let passed = passes_there s.same (Ok c.in_ok-at.at) c.kind-kind.result c.leaving.depth c.leaving.at c.in_ok-at.ensures.passes in
    record {
      text = c.leaving.invariant.text;
      stays = record { place = c.leaving.invariant.stays.place; frames = c.leaving.invariant.stays.frames };
      few = omega (arith, c.leaving.invariant.few);
      open_blocks = omega (arith, c.leaving.invariant.open_blocks);
      within = within_there s.same c.in_ok-at.at c.in_ok-at.ensures.within;
      same = leaves_part s.text.profile s.text.bytes.now (drop c.leaving.at s.text.bytes.now) (arguments s.args) c.kind-kind.result (Ok more) c.get.ensures c.kind-kind.ensures size passed more refl c.in-Then.is
          ∙ c.leaving.invariant.same;
    }

pub returns-clause-text : goal.returns-clause-text
returns-clause-text c = c.leaving.invariant.text

pub returns-clause-moves : goal.returns-clause-moves
returns-clause-moves c =
    let s = c.leaving.self in
    let zero_ : c.leaving.depth ≡ 0 = omega (arith, c.leaving-test.false) in
    let none : outermost c.leaving.depth s.blocks ≡ _ = ap (λ n. outermost n s.blocks) zero_ ∙ outermost_none s.blocks in
    leaving_none s.text.profile s.text.bytes.now (arguments s.args) (drop c.leaving.at s.text.bytes.now) none ∙ c.leaving.invariant.same

pub returns-clause-stays : goal.returns-clause-stays
returns-clause-stays c = c.leaving.invariant.stays
