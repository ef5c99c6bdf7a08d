use Rattle.std.proofs.Common.{◌+◌, drop, take, length, sym, ap, ◌∙◌, refl, arith}
use Rattle.std.proofs.lemmas.Grind.{common_steps}
use Rattle.std.proofs.Math.Bridge.{le_prop}
use Rattle.std.proofs.lemmas.Bool.{eqb-true}
use Rattle.std.proofs.lemmas.List.{drop-drop}
use Rattle.teco_io.specs.Pieces.{given_by, left_by, pieces_at}
use Rattle.teco_io.proofs.Pieces.{given_none, reads_none, all_given, some_left, left_of_none, given_of_none, reads_of}
use Rattle.teco_io.proofs.memory_source.MemorySource.give.Goals as goal

pub returns-then-is_empty-clause-gives : goal.returns-then-is_empty-clause-gives
returns-then-is_empty-clause-gives c =
    let none = eqb-true (length c.args.room.now) 0 (sym c.if-is_empty.ensures) in
    sym (ap (λ k. given_by k c.args.self.now.pieces) none ∙ given_none c.args.self.now.pieces)

pub returns-then-is_empty-clause-leaves : goal.returns-then-is_empty-clause-leaves
returns-then-is_empty-clause-leaves c =
    let none = eqb-true (length c.args.room.now) 0 (sym c.if-is_empty.ensures) in
    let s = c.self.inside in
    let here = ap (λ s. s.pieces) c.self.view_is in
    sym (ap (λ k. left_by k c.args.self.now.pieces) none ∙ ap (left_by 0) (sym here) ∙ reads_none s.at (drop s.at s.bytes.items) (drop s.next_cut s.cuts.items) ∙ here)

pub returns-then-self-clause-leaves : goal.returns-then-self-clause-leaves
returns-then-self-clause-leaves c =
    let s = c.self.inside in
    let here = ap (λ s. s.pieces) c.self.view_is in
    let gone = all_given s.at c.len.result s.bytes.items (drop s.next_cut s.cuts.items) (c.len.ensures ∙ s.bytes.ok.0) c.if-left-eq0.true in
    gone ∙ sym (ap (left_by (length c.args.room.now)) (sym here ∙ gone) ∙ left_of_none (length c.args.room.now))

pub returns-then-self-clause-fails : goal.returns-then-self-clause-fails
returns-then-self-clause-fails c =
    let s = c.self.inside in
    let here = ap (λ s. s.pieces) c.self.view_is in
    let gone = all_given s.at c.len.result s.bytes.items (drop s.next_cut s.cuts.items) (c.len.ensures ∙ s.bytes.ok.0) c.if-left-eq0.true in
    (λ e. (grind (arith, common_steps), sym here ∙ gone, sym (ap (λ s. s.fails) c.self.view_is) ∙ c.if-self.true), λ e. refl)

pub returns-then-left-eq0-clause-gives : goal.returns-then-left-eq0-clause-gives
returns-then-left-eq0-clause-gives c =
    let s = c.self.inside in
    let here = ap (λ s. s.pieces) c.self.view_is in
    let gone = all_given s.at c.len.result s.bytes.items (drop s.next_cut s.cuts.items) (c.len.ensures ∙ s.bytes.ok.0) c.if-left-eq0.true in
    sym (ap (given_by (length c.args.room.now)) (sym here ∙ gone) ∙ given_of_none (length c.args.room.now))

pub returns-then-left-eq0-clause-leaves : goal.returns-then-left-eq0-clause-leaves
returns-then-left-eq0-clause-leaves c =
    let s = c.self.inside in
    let here = ap (λ s. s.pieces) c.self.view_is in
    let gone = all_given s.at c.len.result s.bytes.items (drop s.next_cut s.cuts.items) (c.len.ensures ∙ s.bytes.ok.0) c.if-left-eq0.true in
    gone ∙ sym (ap (left_by (length c.args.room.now)) (sym here ∙ gone) ∙ left_of_none (length c.args.room.now))

pub returns-then-left-eq0-clause-ends : goal.returns-then-left-eq0-clause-ends
returns-then-left-eq0-clause-ends c =
    let s = c.self.inside in
    let gone = all_given s.at c.len.result s.bytes.items (drop s.next_cut s.cuts.items) (c.len.ensures ∙ s.bytes.ok.0) c.if-left-eq0.true in
    λ n some. (refl, gone)

pub returns-clause-gives : goal.returns-clause-gives
returns-clause-gives c =
    let s = c.self.inside in
    let bs = drop s.at s.bytes.items in
    let n = c.min-n.result in
    let k = c.cut_past-self-inside.result in
    let cuts = c.as_slice.ensures.value in
    let r = reads_of (length c.args.room.now) s.at s.bytes.items s.cuts.items c.as_slice.result.now c.as_slice-2.result.now k c.piece_end-end.result n c.len.result c.len-2.result
    cuts c.as_slice-2.ensures.value (c.len.ensures ∙ s.bytes.ok.0) (c.len-2.ensures ∙ s.bytes.ok.0) c.if-left-eq0.false c.cut_past-self-inside.ensures.past c.piece_end-end.ensures.last c.piece_end-end.ensures.cut c.min-n.ensures in
    let here = ap (λ x. pieces_at s.at bs (drop k x)) (sym cuts) ∙ c.cut_past-self-inside.ensures.same bs ∙ ap (λ x. pieces_at s.at bs (drop s.next_cut x)) cuts ∙ ap (λ s. s.pieces) c.self.view_is in
    c.copy_to_front.ensures.front ∙ ap (λ x. take n (drop s.at x)) c.deref.ensures.value ∙ r.given ∙ ap (given_by (length c.args.room.now)) here

pub returns-clause-leaves : goal.returns-clause-leaves
returns-clause-leaves c =
    let s = c.self.inside in
    let bs = drop s.at s.bytes.items in
    let n = c.min-n.result in
    let k = c.cut_past-self-inside.result in
    let cuts = c.as_slice.ensures.value in
    let r = reads_of (length c.args.room.now) s.at s.bytes.items s.cuts.items c.as_slice.result.now c.as_slice-2.result.now k c.piece_end-end.result n c.len.result c.len-2.result
    cuts c.as_slice-2.ensures.value (c.len.ensures ∙ s.bytes.ok.0) (c.len-2.ensures ∙ s.bytes.ok.0) c.if-left-eq0.false c.cut_past-self-inside.ensures.past c.piece_end-end.ensures.last c.piece_end-end.ensures.cut c.min-n.ensures in
    let here = ap (λ x. pieces_at s.at bs (drop k x)) (sym cuts) ∙ c.cut_past-self-inside.ensures.same bs ∙ ap (λ x. pieces_at s.at bs (drop s.next_cut x)) cuts ∙ ap (λ s. s.pieces) c.self.view_is in
    ap (λ left. pieces_at (s.at + n) left (drop c.cut_past-self-inside.result s.cuts.items)) (sym (drop-drop n s.at s.bytes.items)) ∙ r.left ∙ ap (left_by (length c.args.room.now)) here

pub returns-clause-goes_on : goal.returns-clause-goes_on
returns-clause-goes_on c = λ some. ap (λ s. s.ended) c.self.view_is

pub returns-clause-err : goal.returns-clause-err
returns-clause-err c = tt

pub returns-clause-count : goal.returns-clause-count
returns-clause-count c = ap (λ s. s.failures) c.self.view_is

pub returns-clause-keeps : goal.returns-clause-keeps
returns-clause-keeps c = ap (λ s. s.fails) c.self.view_is

pub returns-clause-fails : goal.returns-clause-fails
returns-clause-fails c =
    let s = c.self.inside in
    let here = ap (λ s. s.pieces) c.self.view_is in
    (λ e. absurd (grind (arith, common_steps)), λ f. absurd (some_left s.at (drop s.at s.bytes.items) (drop s.next_cut s.cuts.items) (grind (arith, common_steps)) (here ∙ f.1)))

pub same-self : goal.same-self
same-self c = ap (λ w. record c.self.inside { within = w }) (le_prop c.self-1.given.0 c.self.inside.within)

pub piece_end-end-requires-clause-past : goal.piece_end-end-requires-clause-past
piece_end-end-requires-clause-past c = grind (arith, common_steps)

pub invariant_of-self-inside-2 : goal.invariant_of-self-inside-2
invariant_of-self-inside-2 c = grind (arith, common_steps)

pub copy_to_front-requires-clause-bytes : goal.copy_to_front-requires-clause-bytes
copy_to_front-requires-clause-bytes c = grind (arith, common_steps)

pub copy_to_front-requires-clause-room : goal.copy_to_front-requires-clause-room
copy_to_front-requires-clause-room c = grind (arith, common_steps)

pub overflow_sub-end : goal.overflow_sub-end
overflow_sub-end c = grind (arith, common_steps)

pub overflow_add-self : goal.overflow_add-self
overflow_add-self c = grind (arith, common_steps)

pub returns-clause-ends : goal.returns-clause-ends
returns-clause-ends c = grind (arith, common_steps)

pub returns-clause-fits : goal.returns-clause-fits
returns-clause-fits c = grind (arith, common_steps)

pub returns-then-self-clause-count : goal.returns-then-self-clause-count
returns-then-self-clause-count c = grind (arith, common_steps)

pub returns-then-left-eq0-clause-count : goal.returns-then-left-eq0-clause-count
returns-then-left-eq0-clause-count c = grind (arith, common_steps)

pub piece_end-end-requires-clause-more : goal.piece_end-end-requires-clause-more
piece_end-end-requires-clause-more c = grind (arith, common_steps)
