-- A text that comes to a register.
use Rattle.std.proofs.Common.{◌≡◌, ◌+◌, ◌<◌, ◌≤◌, arith, Err, length, List, [], ℕ, subst}
use Rattle.std.proofs.lemmas.Bool.Decides.{nat_tests}
use Rattle.teco_core.specs.declared.code.Code.TheVariants.{Big}
use Rattle.teco_core.specs.declared.limits.TheConstants.{TEXT_LIMIT}
use Rattle.teco_core.specs.Register.{content}
use Rattle.teco_scan.specs.declared.command.Modifiers.{Modifiers}
use Rattle.teco_store.specs.State.{State, with_register_text}
use Rattle.teco_step.specs.Registers.{kept, sets_text}
use Rattle.teco_step.specs.Step.{changes}
use Rattle.teco_step.proofs.Acting.{if_over, if_within}

-- what is kept, with a colon and without
pub kept_all : (m : Modifiers) (q : ℕ) (s : State) → m.colons ≡ 1 → kept m q s ≡ (content s.registers q).text
kept_all m q s e = grind (arith, nat_tests)

pub kept_none : (m : Modifiers) (q : ℕ) (s : State) → (m.colons ≡ 1 → ⊥) → kept m q s ≡ []
kept_none m q s e = grind (arith, nat_tests)

-- bytes past the limit of a text, and within it
pub sets_over : (q : ℕ) (bytes items : List ℕ) (s : State) → items ≡ bytes → TEXT_LIMIT < length items → sets_text q bytes s ≡ Err Big
sets_over q bytes items s is over = if_over (length bytes) TEXT_LIMIT _ (subst (λ bytes. TEXT_LIMIT < length bytes) is over)

pub sets_within : (q : ℕ) (bytes items : List ℕ) (s : State) → items ≡ bytes → length items ≤ TEXT_LIMIT
    → sets_text q bytes s ≡ changes (with_register_text s q items) (length (content s.registers q).text + length items)
sets_within q bytes items s is within =
    subst (λ bytes. sets_text q bytes s ≡ changes (with_register_text s q items) (length (content s.registers q).text + length items)) is (if_within (length items) TEXT_LIMIT _ within)
