use Rattle.std.proofs.Common.{◌≡◌, ◌∙◌, [], None, false, inl, inr, length, subst, arith, ap}
use Rattle.teco_exec.specs.Running.{at_cursor, at_block_step, at_return, at_token, stops, token_standing}
use Rattle.teco_core.specs.ArgumentsView.{arguments}
use Rattle.teco_exec.specs.Quiet.{QuietComing}
use Rattle.teco_exec.specs.View.{IsStepFound, coming_of_found, cursor}
use Rattle.teco_exec.proofs.Going.{continues, settles}
use Rattle.teco_exec.proofs.Continuations.{comes_block, comes_fault, comes_over, comes_token, passes_on, passes_short}
use Rattle.teco_exec.proofs.Stepped.{counts_none, says_on}
use Rattle.teco_exec.proofs.NoMemory.{comes_quietly, kind_quietly}
use Rattle.teco_exec.proofs.Standings.{block_stands, fault_stands, flow_read, last_blocks, on_call, on_last, token_blocks, token_is}
use Rattle.teco_exec.specs.declared.cursor.Cursor.{Cursor}
use Rattle.teco_exec.specs.declared.moves.Coming.TheVariants.{Block, Passed, Step}
use Rattle.teco_core.specs.declared.code.Code.TheVariants.{Mem}
use Rattle.teco_step.specs.Ending.{is_unfinished_code}
use Rattle.teco_exec.proofs.stepping.step_found.Goals as goal

pub returns-in-Passed : goal.returns-in-Passed
returns-in-Passed g c = record {
  text = c.in-Passed.ensures.text;
  counts = counts_none says_on;
  advances = λ goes_on. inr (passes_short c.block_laws.ensures c.args.cursor.now c.pass.new.self c.args.found.now [] c.in-Passed.ensures.comes);
  leads = λ o callers at.
      continues o _ _ at (at_cursor c.pass.new.self callers)
      (passes_on c.block_laws.ensures c.args.cursor.now c.pass.new.self c.args.found.now callers c.in-Passed.ensures.text c.in-Passed.ensures.comes);
  quiet = λ q. comes_quietly c.block_laws.ensures c.args.cursor.now c.pass.new.self c.args.found.now Passed c.in-Passed.ensures.text c.in-Passed.ensures.comes q;
  around = tt;
  stood = tt;
  visited = λ k from to. absurd (omega arith);
  calls = tt;
}

pub returns-in-Token : goal.returns-in-Token
returns-in-Token g c = record {
  text = c.token_steps.ensures.text ∙ c.in-Step.ensures.text;
  counts = c.token_steps.ensures.counts;
  advances = λ on. inl (c.token_steps.ensures.more on);
  leads = λ o callers at.
      c.token_steps.ensures.leads o callers
      (continues o _ _ at (at_token c.pass.new.self c.in-Token.token None callers)
      (comes_token c.block_laws.ensures c.args.cursor.now c.pass.new.self c.args.found.now callers c.in-Step.ensures.text c.in-Token.token c.in-Token.is c.in-Step.ensures.comes)).going;
  quiet = λ q.
      let to = c.pass.new.self in
      let come = comes_quietly c.block_laws.ensures c.args.cursor.now to c.args.found.now Step c.in-Step.ensures.text c.in-Step.ensures.comes q in
      let here = subst (λ f. QuietComing to.text.profile (coming_of_found to f)) c.in-Token.is come in
      let told = subst (λ f. IsStepFound to.text.bytes.now f) c.in-Token.is c.in-Step.ensures.told in
      c.token_steps.ensures.quiet here.1 (kind_quietly to.text.bytes.now (length to.text.bytes.now) c.in-Token.token.kind told here.0);
  around =
      let to = c.pass.new.self in
      let told = subst (λ f. IsStepFound to.text.bytes.now f) c.in-Token.is c.in-Step.ensures.told in
      last_blocks _ c.args.cursor.now to c.token_steps.new.cursor c.token_steps.result c.token_steps.new.steps.done c.token_steps.ensures.text
      (token_blocks c.args.cursor.now to c.args.found.now c.in-Token.token c.in-Token.is c.requires.read c.in-Step.ensures.comes c.in-Step.ensures.text (length to.text.bytes.now, told))
      c.token_steps.ensures.stood c.token_steps.ensures.stays;
  stood =
      let to = c.pass.new.self in
      let told = subst (λ f. IsStepFound to.text.bytes.now f) c.in-Token.is c.in-Step.ensures.told in
      on_last c.token_steps.result c.token_steps.new.steps.done (λ k h o callers at. record {
        there = token_standing to c.in-Token.token callers;
        stands = h o callers
            (continues o _ _ at (at_token to c.in-Token.token None callers)
            (comes_token c.block_laws.ensures c.args.cursor.now to c.args.found.now callers c.in-Step.ensures.text c.in-Token.token c.in-Token.is c.in-Step.ensures.comes)).going;
        is = token_is c.args.cursor.now to c.args.found.now c.in-Token.token c.in-Token.is c.requires.read c.in-Step.ensures.comes c.in-Step.ensures.text (length to.text.bytes.now, told) callers;
      }) c.token_steps.ensures.stood;
  visited = λ k from below o callers at.
      let to = c.pass.new.self in
      let told = subst (λ f. IsStepFound to.text.bytes.now f) c.in-Token.is c.in-Step.ensures.told in record {
        there = token_standing to c.in-Token.token callers;
        stands = c.token_steps.ensures.visited k from below o callers
            (continues o _ _ at (at_token to c.in-Token.token None callers)
            (comes_token c.block_laws.ensures c.args.cursor.now to c.args.found.now callers c.in-Step.ensures.text c.in-Token.token c.in-Token.is c.in-Step.ensures.comes)).going;
        is = token_is c.args.cursor.now to c.args.found.now c.in-Token.token c.in-Token.is c.requires.read c.in-Step.ensures.comes c.in-Step.ensures.text (length to.text.bytes.now, told) callers;
      };
  calls =
      let to = c.pass.new.self in
      let told = subst (λ f. IsStepFound to.text.bytes.now f) c.in-Token.is c.in-Step.ensures.told in
      flow_read c.args.cursor.now to c.args.found.now c.in-Token.token c.in-Token.is c.requires.read c.in-Step.ensures.comes c.in-Step.ensures.text (length to.text.bytes.now, told)
      c.token_steps.new.cursor c.token_steps.result c.token_steps.ensures.text c.token_steps.ensures.stays c.token_steps.ensures.calls;
}

pub returns-in-Block : goal.returns-in-Block
returns-in-Block g c = record {
  text = c.block_step.ensures.text ∙ c.in-Block.ensures.text;
  counts = c.block_step.ensures.counts;
  advances = λ on. inl (c.block_step.ensures.more on);
  leads = λ o callers at.
      c.block_step.ensures.leads (g.T.Terminal.screen c.args.term.now) o callers
      (continues o _ _ at (at_block_step c.pass.new.self c.in-Block.block c.in-Block.to callers)
      (comes_block c.block_laws.ensures c.args.cursor.now c.pass.new.self c.args.found.now callers c.in-Block.ensures.told.2 c.in-Block.block c.in-Block.to c.in-Block.ensures.comes)).going;
  quiet = λ q. absurd (comes_quietly c.block_laws.ensures c.args.cursor.now c.pass.new.self c.args.found.now (Block c.in-Block.block c.in-Block.to) c.in-Block.ensures.text c.in-Block.ensures.comes q);
  around =
      last_blocks _ c.args.cursor.now c.pass.new.self c.block_step.new.cursor c.block_step.result c.block_step.new.steps.done c.block_step.ensures.text
      (ap (λ (y : Cursor). (cursor y).blocks) c.in-Block.ensures.told.2) c.block_step.ensures.stood c.block_step.ensures.stays;
  stood =
      on_last c.block_step.result c.block_step.new.steps.done (λ k same o callers at.
      block_stands o _ c.args.cursor.now c.pass.new.self c.in-Block.block c.in-Block.to k callers same c.in-Block.ensures.told.2
      (continues o _ _ at (at_block_step c.pass.new.self c.in-Block.block c.in-Block.to callers)
      (comes_block c.block_laws.ensures c.args.cursor.now c.pass.new.self c.args.found.now callers c.in-Block.ensures.told.2 c.in-Block.block c.in-Block.to c.in-Block.ensures.comes)).going) c.block_step.ensures.stood;
  visited = λ k from below o callers at.
      block_stands o _ c.args.cursor.now c.pass.new.self c.in-Block.block c.in-Block.to k callers (omega (arith, from, below, c.block_step.ensures.one)) c.in-Block.ensures.told.2
      (continues o _ _ at (at_block_step c.pass.new.self c.in-Block.block c.in-Block.to callers)
      (comes_block c.block_laws.ensures c.args.cursor.now c.pass.new.self c.args.found.now callers c.in-Block.ensures.told.2 c.in-Block.block c.in-Block.to c.in-Block.ensures.comes)).going;
  calls = on_call c.block_step.result (λ q x. absurd x) c.block_step.ensures.calls;
}

pub returns-in-End : goal.returns-in-End
returns-in-End g c = record {
  text = c.in-End.ensures.text;
  counts = counts_none says_on;
  advances = λ on. absurd on;
  leads = λ o callers at.
      continues o _ _ at (at_return c.pass.new.self.text.profile (arguments c.pass.new.self.args) callers)
      (comes_over c.block_laws.ensures c.args.cursor.now c.pass.new.self c.args.found.now callers c.in-End.ensures.told c.in-End.ensures.comes);
  quiet = λ q. tt;
  around = tt;
  stood = tt;
  visited = λ k from to. absurd (omega arith);
  calls = tt;
}

pub returns-in-Fault : goal.returns-in-Fault
returns-in-Fault g c = record {
  text = c.in-Fault.ensures.text;
  counts = counts_none says_on;
  advances = λ on. absurd on;
  leads = λ o callers at.
      settles o _ _ at c.args.steps.now.limit (stops c.in-Fault.code) c.in-Fault.ensures.told.0 (omega (arith, c.args.steps.now.within))
      (comes_fault c.block_laws.ensures c.args.cursor.now c.pass.new.self c.args.found.now callers c.in-Fault.code c.in-Fault.ensures.comes);
  quiet = λ q e. (let same : c.in-Fault.code ≡ Mem = cc in let no : is_unfinished_code Mem ≡ false = subst (λ x. is_unfinished_code x ≡ false) same c.in-Fault.ensures.told.0 in absurd cc);
  around = ap (λ (x : Cursor). (cursor x).blocks) c.in-Fault.ensures.told.1;
  stood = λ o callers at. fault_stands c.block_laws.ensures o _ c.args.cursor.now c.pass.new.self c.args.found.now c.in-Fault.code callers c.in-Fault.ensures.comes at;
  visited = λ k from to. absurd (omega arith);
  calls = tt;
}
