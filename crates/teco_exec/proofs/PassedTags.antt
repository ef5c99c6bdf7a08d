-- What uses no step is passed, one after the other.
use Rattle.std.proofs.Common.{◌≡◌, ◌∙◌, [], refl, arith}
use Rattle.teco_scan.specs.ListLaws.{EachBlockLaws}
use Rattle.teco_scan.specs.declared.token.Found.{Found}
use Rattle.teco_exec.specs.CursorMoves.{pass}
use Rattle.teco_exec.specs.TextStep.{GoesOnAlike}
use Rattle.teco_exec.specs.View.{coming_of, cursor}
use Rattle.teco_exec.specs.declared.cursor.Cursor.{Cursor}
use Rattle.teco_exec.specs.declared.moves.Coming.TheVariants.{Passed}
use Rattle.teco_exec.proofs.Continuations.{passes_on, passes_short}
use Rattle.teco_exec.proofs.Going.{alike, also}
use Rattle.teco_exec.proofs.NoMemory.{comes_quietly}

pub nothing_passed : (c : Cursor) → GoesOnAlike c c
nothing_passed c = record { text = refl; left = omega arith; alike = λ callers now. alike refl; quiet = λ q. q }

pub one_more_passed : EachBlockLaws → (first old new : Cursor) (found : Found) → GoesOnAlike first old → new.text ≡ old.text → coming_of new found Passed ≡ pass old.text.profile (cursor old) → GoesOnAlike first new
one_more_passed laws first old new found so_far text passed = record {
  text = text ∙ so_far.text;
  left = omega (arith, so_far.left, passes_short laws old new found [] passed);
  alike = λ callers now. also (so_far.alike callers now) (passes_on laws old new found callers text passed now);
  quiet = λ q. comes_quietly laws old new found Passed text passed (so_far.quiet q);
}
