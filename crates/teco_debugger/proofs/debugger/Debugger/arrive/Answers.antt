use Rattle.std.proofs.Common.{◌∙◌, ◌++◌, ap, refl}
use Rattle.std.proofs.lemmas.Result.{on_ok_weaker}
use Rattle.teco_debugger.specs.Showing.{step_at}
use Rattle.teco_debugger.proofs.debugger.Debugger.arrive.Goals as goal

pub returns-clause-arrives : goal.returns-clause-arrives
returns-clause-arrives c =
    let went = c.in_ok-go.ensures in
    on_ok_weaker c.show.result
    (λ e. record {
      goes = record { string = went.string; back = went.back; on = went.on };
      there = e.0;
      there_is = e.1;
      shown_is = e.2 ∙ ap (λ l. l ++ step_at c.args.self.now.sources.items c.go.new.self e.0) c.requires;
      limit = refl;
      stops = refl;
      again = refl;
      sources = refl;
    })
    c.show.ensures
