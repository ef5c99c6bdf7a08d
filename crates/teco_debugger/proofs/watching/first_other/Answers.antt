use Rattle.std.proofs.Common.{◌<◌, Option, ℕ, arith, subst, sym}
use Rattle.std.specs.Prelude.{IfSome}
use Rattle.teco_debugger.specs.Watching.{IsFirstOther}
use Rattle.teco_debugger.proofs.Watched.{first_from, first_more, here_is, later_more, none_between, same_on}
use Rattle.teco_debugger.proofs.watching.first_other.Goals as goal

pub loop-left-init : goal.loop-left-init
loop-left-init c = record {
  string = c.requires;
  within = omega (arith, c.steps-left.ensures);
  later = tt;
  first = none_between c.args.watch.now c.args.walk.now _ _ (omega (arith, c.steps-left.ensures));
}

pub loop-left-preserved : goal.loop-left-preserved
loop-left-preserved c =
    let inv = c.loop-left.invariant in
    let walk = c.args.walk.now in
    let left = c.loop-left.left in
    let here = here_is c.args.watch.now walk c.loop-left.other c.go.new.self left _ _ c.is_same-same.result inv.string c.in_ok-go.ensures.state c.editor.ensures c.editor-in-loop-left.ensures c.is_same-same.ensures in
    record {
      string = same_on _ _ _ inv.string c.in_ok-go.ensures.string;
      within = omega (arith, inv.within);
      later = subst (λ (r : Option ℕ). IfSome r (λ n. walk.steps < n)) (sym c.or_found-found.ensures) (later_more walk.steps left c.loop-left.found c.is_same-same.result (omega arith) inv.later);
      first = subst (IsFirstOther c.args.watch.now walk _ _) (sym c.or_found-found.ensures)
          (first_more c.args.watch.now walk left _ c.loop-left.found c.is_same-same.result here (omega arith) inv.within inv.first);
    }

pub returns : goal.returns
returns c =
    let inv = c.loop-left.invariant in
    first_from c.args.watch.now c.args.walk.now c.args.walk.now.steps c.loop-left.left _ c.loop-left.found (omega (arith, c.steps-here.ensures)) inv.later inv.first
