use Rattle.std.proofs.Common.{◌-◌, length, arith, ◌∙◌}
use Rattle.memchr.specs.Find.{is_byte3}
use Rattle.teco_driver.proofs.Parts.{begins, goes_on, is_whole, ord_max-nat, within_text}
use Rattle.teco_driver.proofs.paging.longest_part.Goals as goal

pub loop-end-init : goal.loop-end-init
loop-end-init c = record {
  can_next = tt;
  is_finite = tt;
  so_far = begins _ _ _ (c.into_iter-end-iterator.ensures.into_iter_gives ∙ c.memchr3_iter-end-items.ensures.value);
}

pub overflow_sub-end : goal.overflow_sub-end
overflow_sub-end c = (goes_on _ _ _ _ _ _ _ c.loop-end.invariant.so_far c.in-Some.ensures.steps).low

pub overflow_add-from : goal.overflow_add-from
overflow_add-from c = let n = goes_on _ _ _ _ _ _ _ c.loop-end.invariant.so_far c.in-Some.ensures.steps in omega arith

pub loop-end-preserved : goal.loop-end-preserved
loop-end-preserved c =
    let n = goes_on _ _ _ _ _ _ _ c.loop-end.invariant.so_far c.in-Some.ensures.steps in
    record { can_next = tt; is_finite = tt; so_far = n.so_far _ (c.max-longest.ensures ∙ ord_max-nat _ _) }

pub returns : goal.returns
returns c =
    let m = c.max.ensures in
    let o = ord_max-nat c.loop-end.longest (length c.args.text.now - c.loop-end.from) in
    let value = m ∙ is_whole _ _ _ _ _ c.loop-end.invariant.so_far c.in-None.ensures.steps.0 in
    record { value = value; within = let w = within_text (is_byte3 c.args.a c.args.b c.args.c) 0 c.args.text.now in omega arith }
