use Rattle.std.proofs.Common.{◌∙◌, ⊎_elim, arith, inl, inr}
use Rattle.teco_exec.specs.Running.{at_cursor}
use Rattle.teco_exec.proofs.Going.{continues}
use Rattle.teco_exec.proofs.dispatch.step_tags.Goals as goal

pub returns-in-On : goal.returns-in-On
returns-in-On g c =
    let first = c.in-On.ensures in
    let more = c.pass_tags.ensures in
    record {
      text = more.text ∙ first.text;
      counts = first.counts;
      advances = λ on. ⊎_elim (λ stepped. inl stepped) (λ shorter. inr (omega (arith, shorter, more.left))) (first.advances on);
      leads = λ o callers at.
          let led = first.leads o callers at in
          record {
            going = (continues o _ _ led.going (at_cursor c.pass_tags.new.self callers) (more.alike callers)).going;
            follows = led.follows;
          };
      quiet = λ q. more.quiet (first.quiet q);
      around = tt;
      stood = tt;
      visited = first.visited;
      calls = tt;
    }
