use Rattle.std.proofs.Common.{◌≡◌, ◌∙◌, List, Ok, ap, refl, subst, sym, ℕ}
use Rattle.std.specs.Prelude.{Result}
use Rattle.std.specs.String.{string_bytes}
use Rattle.teco_source.specs.Source.{commands_of}
use Rattle.teco_debugger.specs.Commands.{NotesTest, test_in}
use Rattle.teco_debugger.proofs.debugger.Debugger.note_test.Goals as goal

pub returns-in_ok-push-in-Ok-clause-notes : goal.returns-in_ok-push-in-Ok-clause-notes
returns-in_ok-push-in-Ok-clause-notes c =
    let self = c.args.self.now in
    let read : commands_of (test_in c.args.line.now) ≡ Ok c.in-Ok.test.items = ap commands_of (sym c.test_in.ensures) ∙ c.in-Ok.ensures.reads in
    subst (λ (r : Result (List ℕ) ℕ). NotesTest r c.args.stop self (record self { stops = c.push.new.self }) (string_bytes c.args.out.now)) (sym read) (
      c.in-Ok.test,
      refl,
      record {
        stops_are = c.in_ok-push-in-Ok.ensures.items;
        walk = refl;
        limit = refl;
        moves = refl;
        again = refl;
        sources = refl;
        nothing = c.requires;
      },
    )
