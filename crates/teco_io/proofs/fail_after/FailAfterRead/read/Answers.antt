use Rattle.std.proofs.Common.{◌≡◌, ◌+◌, length, drop, take, ◌++◌, sym, ap, ◌∙◌, arith, take-append-drop}
use Rattle.std.proofs.Math.ListN.{drop_of_length-le}
use Rattle.std.proofs.Math.Seq.{take-add}
use Rattle.std.proofs.lemmas.Grind.{common_steps}
use Rattle.std.proofs.lemmas.List.{drop-drop, length-drop, take_at}
use Rattle.teco_io.proofs.fail_after.FailAfterRead.read.Goals as goal

pub returns-clause-bytes : goal.returns-clause-bytes
returns-clause-bytes c =
    let s = c.self.inside in
    let n = c.in_ok-n.n in
    let left = drop s.at s.bytes.items in
    let here = ap (λ p. p.left) c.self.view_is in
    let copied : c.copy_from_slice.new.self ≡ take n left = grind (arith, common_steps) in
    let given = take_at c.copy_from_slice.new.self (drop n c.args.piece.now) n (grind (arith, common_steps)) ∙ copied in
    let rest = drop-drop n s.at s.bytes.items in (
      sym here ∙ sym (take-append-drop n left) ∙ ap (λ l. take n left ++ l) rest ∙ ap (λ l. l ++ drop (s.at + n) s.bytes.items) (sym given),
      λ none some. drop_of_length-le s.bytes.items (let e = ap length here in let f = length-drop s.at s.bytes.items in grind (arith, common_steps)),
    )

pub returns-clause-before : goal.returns-clause-before
returns-clause-before c =
    let s = c.self.inside in
    take-add s.at c.in_ok-n.n s.bytes.items ∙ ap (λ p. p.before ++ take c.in_ok-n.n p.left) c.self.view_is

pub returns-in_err-n-clause-bound : goal.returns-in_err-n-clause-bound
returns-in_err-n-clause-bound c = grind (arith, common_steps)

pub returns-in_err-n-clause-bytes : goal.returns-in_err-n-clause-bytes
returns-in_err-n-clause-bytes c = grind (arith, common_steps)

pub returns-in_err-n-clause-fails : goal.returns-in_err-n-clause-fails
returns-in_err-n-clause-fails c = grind (arith, common_steps)

pub returns-in_err-n-clause-count : goal.returns-in_err-n-clause-count
returns-in_err-n-clause-count c = grind (arith, common_steps)

pub returns-in_err-n-clause-given : goal.returns-in_err-n-clause-given
returns-in_err-n-clause-given c = grind (arith, common_steps)

pub returns-in_err-n-clause-before : goal.returns-in_err-n-clause-before
returns-in_err-n-clause-before c = grind (arith, common_steps)

pub returns-in_err-n-clause-left : goal.returns-in_err-n-clause-left
returns-in_err-n-clause-left c = grind (arith, common_steps)

pub returns-in_err-n-clause-err : goal.returns-in_err-n-clause-err
returns-in_err-n-clause-err c = grind (arith, common_steps)

pub returns-in_err-n-clause-kind : goal.returns-in_err-n-clause-kind
returns-in_err-n-clause-kind c = grind (arith, common_steps)

pub slice_bounds-copy_from_slice-end : goal.slice_bounds-copy_from_slice-end
slice_bounds-copy_from_slice-end c = grind (arith, common_steps)

pub slice_bounds-copy_from_slice-end-2 : goal.slice_bounds-copy_from_slice-end-2
slice_bounds-copy_from_slice-end-2 c = grind (arith, common_steps)

pub overflow_add-self-inside : goal.overflow_add-self-inside
overflow_add-self-inside c = grind (arith, common_steps)

pub slice_bounds-copy_from_slice-count : goal.slice_bounds-copy_from_slice-count
slice_bounds-copy_from_slice-count c = grind (arith, common_steps)

pub slice_bounds-copy_from_slice-start : goal.slice_bounds-copy_from_slice-start
slice_bounds-copy_from_slice-start c = grind (arith, common_steps)

pub slice_bounds-copy_from_slice-end-3 : goal.slice_bounds-copy_from_slice-end-3
slice_bounds-copy_from_slice-end-3 c = grind (arith, common_steps)

pub copy_from_slice-requires : goal.copy_from_slice-requires
copy_from_slice-requires c = grind (arith, common_steps)

pub overflow_add-self : goal.overflow_add-self
overflow_add-self c = grind (arith, common_steps)

pub invariant_of-self-inside : goal.invariant_of-self-inside
invariant_of-self-inside c = grind (arith, common_steps)

pub returns-clause-bound : goal.returns-clause-bound
returns-clause-bound c = grind (arith, common_steps)

pub returns-clause-fails : goal.returns-clause-fails
returns-clause-fails c = grind (arith, common_steps)

pub returns-clause-count : goal.returns-clause-count
returns-clause-count c = grind (arith, common_steps)

pub returns-clause-given : goal.returns-clause-given
returns-clause-given c = grind (arith, common_steps)

pub returns-clause-left : goal.returns-clause-left
returns-clause-left c = grind (arith, common_steps)

pub returns-clause-err : goal.returns-clause-err
returns-clause-err c = grind (arith, common_steps)

pub returns-clause-kind : goal.returns-clause-kind
returns-clause-kind c = grind (arith, common_steps)
