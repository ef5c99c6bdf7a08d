use Rattle.std.proofs.Common.{◌≡◌, ◌∙◌, ◌++◌, [], List, ℕ, ap, sym, arith, append-nil}
use Rattle.std.proofs.lemmas.Grind.{common_steps}
use Rattle.tecol_driver.specs.Diffs.{hunks, lines_of}
use Rattle.tecol_driver.proofs.Lines.{none_new, none_old, one_more}
use Rattle.tecol_driver.proofs.diffing.hunks_of.Goals.{then-loop-old_rest-test+else-not-is_empty, else-loop-old_rest-test}
use Rattle.tecol_driver.proofs.diffing.hunks_of.Goals as goal

pub loop-old_rest-preserved : goal.loop-old_rest-preserved
loop-old_rest-preserved c =
    let old = c.first_len.ensures.within in
    let new = c.first_len-in-loop-old_rest.ensures.within in
    record {
      so_far = one_more _ c.loop-old_rest.out.items _ c.loop-old_rest.number c.first_len.result c.first_len-in-loop-old_rest.result
          c.loop-old_rest.old_rest.now c.loop-old_rest.new_rest.now _ _ _ _ old.0 old.1 new.0 new.1 c.first_len.ensures.len c.first_len-in-loop-old_rest.ensures.len
          c.split_at.ensures.front c.split_at-in-loop-old_rest.ensures.front c.split_at.ensures.back c.split_at-in-loop-old_rest.ensures.back
          c.loop-old_rest.invariant.so_far c.in_ok-push_hunk.ensures;
      few = omega (arith, old.0, c.split_at.ensures.back_len, c.loop-old_rest.invariant.few);
    }

pub returns : goal.returns
returns c =
    let old = c.loop-old_rest.old_rest.now in
    let new = c.loop-old_rest.new_rest.now in
    let none : hunks c.loop-old_rest.number (lines_of old) (lines_of new) ≡ [] = elim c.loop-old_rest-test.branch [
      | then-loop-old_rest-test+else-not-is_empty w ↦ none_new c.loop-old_rest.number old new (grind (arith, common_steps))
      | else-loop-old_rest-test w ↦ none_old c.loop-old_rest.number old new (grind (arith, common_steps))
    ] in
    sym (c.loop-old_rest.invariant.so_far ∙ ap (λ (more : List ℕ). c.loop-old_rest.out.items ++ more) none ∙ append-nil c.loop-old_rest.out.items)
