use Rattle.std.proofs.Common.{arith}
use Rattle.std.proofs.lemmas.Bool.{or_parts}
use Rattle.teco_lint.specs.Spelling.{is_misspelt_text}
use Rattle.teco_lint.specs.Faults.{has_fault}
use Rattle.teco_lint.specs.Strings.{is_unclean_text}
use Rattle.teco_driver.proofs.FirstValues.{holds_code, none_wrong, one_wrong, one_right}
use Rattle.teco_driver.proofs.verdict.verdict_on_registers.Goals as goal

pub registers-init : goal.registers-init
registers-init c = record {
  faulty = none_wrong (has_fault c.args.profile c.args.code.now) c.args.code.now c.args.first.now;
  unclean = none_wrong (is_unclean_text c.args.profile c.args.code.now) c.args.code.now c.args.first.now;
  misspelt = none_wrong (is_misspelt_text c.args.profile c.args.code.now) c.args.code.now c.args.first.now;
  right = λ none q less. absurd (omega arith);
}

pub registers-preserved : goal.registers-preserved
registers-preserved c =
    let code = c.args.code.now in
    let first = c.args.first.now in
    let i = c.registers.index in
    let one = c.in_ok-one.one in
    record {
      faulty = one_wrong i c.register_at.result (has_fault c.args.profile code) code first c.registers.is_faulty one.is_faulty c.register_at.ensures c.registers.invariant.faulty c.in_ok-one.ensures.faulty;
      unclean = one_wrong i c.register_at.result (is_unclean_text c.args.profile code) code first c.registers.is_unclean one.is_unclean c.register_at.ensures c.registers.invariant.unclean c.in_ok-one.ensures.unclean;
      misspelt = one_wrong i c.register_at.result (is_misspelt_text c.args.profile code) code first c.registers.is_misspelt one.is_misspelt c.register_at.ensures c.registers.invariant.misspelt c.in_ok-one.ensures.misspelt;
      right = λ none.
          let parts = or_parts c.registers.is_unclean one.is_unclean none in
          one_right c.args.profile i c.register_at.result code first c.register_at.ensures (c.registers.invariant.right parts.0) (c.in_ok-one.ensures.right parts.1);
    }

pub returns-clause-right : goal.returns-clause-right
returns-clause-right c = λ none. holds_code c.args.profile c.registers.index c.args.code.now c.args.first.now (omega arith) (omega arith) (c.registers.invariant.right none)
