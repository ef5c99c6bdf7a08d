use Rattle.std.proofs.Common.{◌∙◌, ◌++◌, List, ℕ, ap, subst}
use Rattle.teco_debugger.specs.Reading.{IsShownFrom}
use Rattle.teco_debugger.proofs.reading.Given.add.Goals as goal

pub returns-clause-adds : goal.returns-clause-adds
returns-clause-adds c = record {
  commands = c.in_ok-commands.commands.items;
  read = c.in_ok-commands.ensures.read;
  text = c.in_ok-push.ensures.text ∙ ap (λ (t : List ℕ). c.args.self.now.text.items ++ t) c.as_slice.ensures.value;
  shown = c.in_ok-shown.shown;
  is_shown = subst (λ (n : ℕ). IsShownFrom c.args.name.now n c.args.source.now c.in_ok-shown.shown) (c.len.ensures ∙ c.args.self.now.text.ok.0) c.in_ok-shown.ensures;
  sources = c.in_ok-push.ensures.sources;
}
