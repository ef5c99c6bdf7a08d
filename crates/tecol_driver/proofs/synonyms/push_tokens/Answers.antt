use Rattle.std.proofs.Common.{true, false, ◌++◌, sym}
use Rattle.tecol_driver.specs.Synonyms.{AreOfTokens, of_fault, of_none, of_token, token_changes}
use Rattle.tecol_driver.proofs.Found.{part_last, part_more, put_more}
use Rattle.tecol_driver.proofs.synonyms.push_tokens.Goals as goal

pub loop-token-preserved : goal.loop-token-preserved
loop-token-preserved c =
    let more = token_changes c.args.text.now c.args.is_ended c.in-Token.token in
    record {
      within = c.in-Token.ensures.place.inside;
      changes = c.loop-token.invariant.changes ++ more;
      put = put_more _ _ _ c.loop-token.invariant.changes more c.loop-token.invariant.put c.in_ok-push_token-in-Token.ensures;
      all = λ later whole rest.
          part_more (λ changes. AreOfTokens c.args.text.now c.args.is_ended c.loop-token.at changes whole)
          (λ changes. AreOfTokens c.args.text.now c.args.is_ended c.in-Token.token.span.to changes whole)
          (λ changes. AreOfTokens c.args.text.now c.args.is_ended c.args.from changes whole)
          c.loop-token.invariant.changes more (λ later is. of_token c.in-Token.ensures.read c.in-Token.ensures.place is)
          (λ later is. c.loop-token.invariant.all later whole is) later rest;
    }

pub returns-in-End : goal.returns-in-End
returns-in-End c = (
  c.loop-token.invariant.changes,
  c.loop-token.invariant.put,
  part_last (λ changes. AreOfTokens c.args.text.now c.args.is_ended c.loop-token.at changes true)
      (λ changes. AreOfTokens c.args.text.now c.args.is_ended c.args.from changes true)
      c.loop-token.invariant.changes (of_none (sym c.in-End.ensures.read)) (λ later is. c.loop-token.invariant.all later true is),
)

pub returns-in-Fault : goal.returns-in-Fault
returns-in-Fault c = (
  c.loop-token.invariant.changes,
  c.loop-token.invariant.put,
  part_last (λ changes. AreOfTokens c.args.text.now c.args.is_ended c.loop-token.at changes false)
      (λ changes. AreOfTokens c.args.text.now c.args.is_ended c.args.from changes false)
      c.loop-token.invariant.changes (of_fault (sym c.in-Fault.ensures.read)) (λ later is. c.loop-token.invariant.all later false is),
)
