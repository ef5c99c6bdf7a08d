use Rattle.std.proofs.Common.{◌≡◌, ◌+◌, ◌-◌, length, drop, take, ◌++◌, sym, ap, ◌∙◌, arith, append_assoc}
use Rattle.std.proofs.lemmas.Grind.{common_steps}
use Rattle.std.proofs.lemmas.List.{take_at}
use Rattle.std.proofs.Math.Seq.{drop-append_seam}
use borrow.Rule.Slice.PartMut.{post_of}
use Rattle.teco_io.proofs.fail_after.FailAfterWrite.write.Goals as goal

pub returns-clause-left : goal.returns-clause-left
returns-clause-left c =
    let s = c.self.inside in
    let n = c.in_ok-n.n in
    let xs = c.deref_mut.result.now in
    let front = take s.at xs ++ c.copy_from_slice.new.self in
    let rest = post_of s.at (s.at + n - s.at) xs in
    let whole = take s.at xs ++ (c.copy_from_slice.new.self ++ rest) in
    let same : length whole ≡ s.bytes.len = grind (arith, common_steps) in
    let joined : whole ≡ front ++ rest = sym (append_assoc (take s.at xs) c.copy_from_slice.new.self rest) in
    let reach : length front ≡ s.at + n = grind (arith, common_steps) in
    let past : drop (s.at + n) (front ++ rest) ≡ rest = ap (λ k. drop k (front ++ rest)) (sym reach) ∙ drop-append_seam front rest in
    let few : s.at + n - s.at ≡ n = omega arith in
    let left : rest ≡ drop n (drop s.at s.bytes.items) = ap (λ k. drop k (drop s.at xs)) few ∙ ap (λ l. drop n (drop s.at l)) c.deref_mut.ensures.value in
    ap (drop (s.at + n)) (take_at whole (drop (length whole) s.bytes.items) s.bytes.len same ∙ joined) ∙ past ∙ left ∙ ap (λ p. drop n p.left) c.self.view_is

pub returns-in_err-n-clause-bound : goal.returns-in_err-n-clause-bound
returns-in_err-n-clause-bound c = grind (arith, common_steps)

pub returns-in_err-n-clause-bytes : goal.returns-in_err-n-clause-bytes
returns-in_err-n-clause-bytes c = grind (arith, common_steps)

pub returns-in_err-n-clause-fails : goal.returns-in_err-n-clause-fails
returns-in_err-n-clause-fails c = grind (arith, common_steps)

pub returns-in_err-n-clause-count : goal.returns-in_err-n-clause-count
returns-in_err-n-clause-count c = grind (arith, common_steps)

pub returns-in_err-n-clause-before : goal.returns-in_err-n-clause-before
returns-in_err-n-clause-before c = grind (arith, common_steps)

pub returns-in_err-n-clause-left : goal.returns-in_err-n-clause-left
returns-in_err-n-clause-left c = grind (arith, common_steps)

pub returns-in_err-n-clause-err : goal.returns-in_err-n-clause-err
returns-in_err-n-clause-err c = grind (arith, common_steps)

pub returns-in_err-n-clause-kind : goal.returns-in_err-n-clause-kind
returns-in_err-n-clause-kind c = grind (arith, common_steps)

pub overflow_add-self-inside : goal.overflow_add-self-inside
overflow_add-self-inside c = grind (arith, common_steps)

pub slice_bounds-copy_from_slice-count : goal.slice_bounds-copy_from_slice-count
slice_bounds-copy_from_slice-count c = grind (arith, common_steps)

pub slice_bounds-copy_from_slice-start : goal.slice_bounds-copy_from_slice-start
slice_bounds-copy_from_slice-start c = grind (arith, common_steps)

pub slice_bounds-copy_from_slice-end : goal.slice_bounds-copy_from_slice-end
slice_bounds-copy_from_slice-end c = grind (arith, common_steps)

pub slice_bounds-copy_from_slice-end-2 : goal.slice_bounds-copy_from_slice-end-2
slice_bounds-copy_from_slice-end-2 c = grind (arith, common_steps)

pub copy_from_slice-requires : goal.copy_from_slice-requires
copy_from_slice-requires c = grind (arith, common_steps)

pub overflow_add-self : goal.overflow_add-self
overflow_add-self c = grind (arith, common_steps)

pub invariant_of-self-inside : goal.invariant_of-self-inside
invariant_of-self-inside c = grind (arith, common_steps)

pub returns-clause-bound : goal.returns-clause-bound
returns-clause-bound c = grind (arith, common_steps)

pub returns-clause-bytes : goal.returns-clause-bytes
returns-clause-bytes c = grind (arith, common_steps)

pub returns-clause-fails : goal.returns-clause-fails
returns-clause-fails c = grind (arith, common_steps)

pub returns-clause-count : goal.returns-clause-count
returns-clause-count c = grind (arith, common_steps)

pub returns-clause-before : goal.returns-clause-before
returns-clause-before c = grind (arith, common_steps)

pub returns-clause-err : goal.returns-clause-err
returns-clause-err c = grind (arith, common_steps)

pub returns-clause-kind : goal.returns-clause-kind
returns-clause-kind c = grind (arith, common_steps)
