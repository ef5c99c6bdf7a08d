use Rattle.std.proofs.Common.{ℕ, List, inl, inr, refl, subst}
use Rattle.teco_driver.specs.Checks.{TellsVerdict}
use Rattle.teco_driver.proofs.checking.check_line.Goals as goal

pub returns-in-Ok : goal.returns-in-Ok
returns-in-Ok g c = record {
  asked = c.requires.asked;
  kept = c.commands_given.ensures.keeps;
  tells = inr (
    c.in-Ok.bytes.items,
    c.in-Ok.ensures.given,
    subst (λ (bytes : List ℕ). TellsVerdict g.T.Terminal.screen g.E.Terminal.screen c.args.line.now bytes c.args.host.now.terminal c.tell_verdict.new.term c.args.errors.now c.tell_verdict.new.errors c.tell_verdict.result)
        c.as_slice.ensures.value c.tell_verdict.ensures,
  );
}

pub returns : goal.returns
returns g c = record {
  asked = c.requires.asked;
  kept = c.commands_given.ensures.keeps;
  tells = inl (c.in-Err.fault, refl, c.in-Err.ensures.lacks, c.decline.ensures);
}
