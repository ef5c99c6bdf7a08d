-- A page that is read, and what is told of it.
use Rattle.std.proofs.Common.{◌≡◌, ◌<◌, ◌≤◌, arith, Bool, Err, length, Ok, OnOk, Result, subst}
use Rattle.std.specs.Prelude.{if◌then◌else◌}
use Rattle.std.proofs.lemmas.Bool.Decides.{nat_tests}
use Rattle.teco_core.specs.declared.code.Code.TheVariants.{Big}
use Rattle.teco_core.specs.declared.limits.TheConstants.{TEXT_LIMIT}
use Rattle.teco_core.specs.Arguments.{Arguments, no_arguments}
use Rattle.teco_store.specs.Page.{with_page}
use Rattle.teco_store.specs.State.{State}
use Rattle.teco_step.specs.declared.failure.Failure.{Failure}
use Rattle.teco_step.specs.declared.next.Next.{Next}
use Rattle.teco_step.specs.Pages.{has_page, tells, with_page_read}
use Rattle.teco_step.specs.Searching.{answer}
use Rattle.teco_step.proofs.Acting.{Answer}

-- read into an empty buffer, past its limit, or within it
pub read_over : (s : State) → length s.text ≡ 0 → TEXT_LIMIT < length (with_page s).text → with_page_read s ≡ Err Big
read_over s empty over = grind (arith, nat_tests)

pub read_within : (s : State) → length s.text ≡ 0 → length (with_page s).text ≤ TEXT_LIMIT → with_page_read s ≡ Ok (with_page s)
read_within s empty within = grind (arith, nat_tests)

-- What is told is whether there was a page.
pub told : (s : State) (asked there : Bool) (left : Arguments) (n : Next) (r : Result Next Failure) (d : Answer) → there ≡ has_page s
    → OnOk d ((r ≡ Ok n) × (left ≡ (if asked then answer there else no_arguments))) → OnOk d ((r ≡ Ok n) × (left ≡ tells asked s))
told s asked there left n r d same = subst (λ b. OnOk d ((r ≡ Ok n) × (left ≡ (if asked then answer b else no_arguments)))) same
