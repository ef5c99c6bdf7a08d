use Rattle.std.proofs.Common.{◌≡◌, ◌<◌, ℕ, false, true}
use Rattle.teco_core.specs.Register.{content}
use Rattle.teco_check.specs.Checked.{held}
use Rattle.teco_check.specs.Clean.{IsClean}
use Rattle.teco_lint.specs.Spelling.{is_misspelt_text}
use Rattle.teco_lint.specs.Faults.{has_fault}
use Rattle.teco_lint.specs.Strings.{is_unclean_text}
use Rattle.teco_driver.specs.Values.{holds_wrong}
use Rattle.teco_driver.proofs.verdict.verdict_on_registers.Given as goal

abbrev pub invariant-registers : goal.invariant-registers
invariant-registers l = record {
  faulty : l.is_faulty ≡ holds_wrong l.index (has_fault l.profile l.code) l.code l.first;
  unclean : l.is_unclean ≡ holds_wrong l.index (is_unclean_text l.profile l.code) l.code l.first;
  misspelt : l.is_misspelt ≡ holds_wrong l.index (is_misspelt_text l.profile l.code) l.code l.first;
  right : l.is_unclean ≡ false → (q : ℕ) → q < l.index → held l.code q ≡ true → IsClean l.profile (held l.code) (content l.first q).text;
}
