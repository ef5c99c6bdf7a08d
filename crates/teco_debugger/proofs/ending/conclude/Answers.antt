use Rattle.std.proofs.Common.{◌≡◌, ◌<◌, String, Global, Option, Result, Ok, Err, refl, inl, inr, subst}
use Rattle.std.specs.Prelude.{IfOk, OnErr, codes}
use Rattle.std.specs.Result.{result_ok}
use Rattle.std.specs.String.{string_bytes}
use Rattle.std.specs.declared.alloc.AllocError.{AllocError}
use Rattle.teco_io.specs.Terminal.{Screen, Shows}
use Rattle.teco_fs.specs.Refusing.{Tells, TellsText}
use Rattle.teco_debugger.specs.Ending.{TellsEnding, ending_line, status_of_ending, told_line}
use Rattle.teco_debugger.specs.declared.ending.Ending.{Ending}
use Rattle.teco_debugger.specs.declared.line.DebuggerLine.{DebuggerLine}
use Rattle.teco_debugger.proofs.ending.conclude.Goals as goal

-- the line is told, or that there was no memory for it
told : (line : DebuggerLine) (ending : Ending) (old new : Screen) (text : Result (String Global) AllocError) (left : Option (String Global)) → left ≡ result_ok text
    → IfOk text (λ text. string_bytes text ≡ ending_line line ending) → OnErr text (0 < status_of_ending ending)
    → TellsText (Shows old new) (told_line (codes "no memory")) left → TellsEnding line ending old new (status_of_ending ending)
told line ending old new (Ok text) left is same failed tells = record { status_is = refl; told = inl (subst (Tells old new) same (subst (TellsText (Shows old new) (told_line (codes "no memory"))) is tells)) }
told line ending old new (Err lacking) left is same failed tells = record { status_is = refl; told = inr (failed, subst (TellsText (Shows old new) (told_line (codes "no memory"))) is tells) }

pub returns : goal.returns
returns g c = rw c.status.ensures (told c.args.line.now c.args.ending (g.E.Terminal.screen c.args.errors.now) (g.E.Terminal.screen c.tell.new.errors) c.line_of.result c.ok-text.result c.ok-text.ensures.value c.line_of.ensures.ok c.line_of.ensures.err c.tell.ensures)
