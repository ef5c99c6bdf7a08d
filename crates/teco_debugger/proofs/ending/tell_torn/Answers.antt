use Rattle.std.proofs.Common.{◌≡◌, ◌⊎◌, ℕ, String, Global, Option, Result, Ok, Err, refl, inl, inr, subst, sym}
use Rattle.std.specs.Prelude.{IfOk, codes}
use Rattle.std.specs.Result.{result_ok}
use Rattle.std.specs.String.{string_bytes}
use Rattle.std.specs.declared.alloc.AllocError.{AllocError}
use Rattle.teco_io.specs.Terminal.{Screen, Shows}
use Rattle.teco_fs.specs.Refusing.{Tells, TellsText}
use Rattle.teco_debugger.specs.Ending.{TellsTorn, TellsUnless, told_line, torn_line}
use Rattle.teco_debugger.specs.declared.line.DebuggerLine.{DebuggerLine}
use Rattle.teco_debugger.proofs.Shown.{not_none}
use Rattle.teco_debugger.proofs.ending.tell_torn.Goals as goal

-- the line is told, or that there was no memory for it
told : (line : DebuggerLine) (torn : ℕ) (old new : Screen) (text : Result (String Global) AllocError) (left : Option (String Global)) → left ≡ result_ok text
    → IfOk text (λ text. string_bytes text ≡ torn_line line torn) → TellsText (Shows old new) (told_line (codes "no memory")) left
    → Tells old new (torn_line line torn) ⊎ Tells old new (told_line (codes "no memory"))
told line torn old new (Ok text) left is same tells = inl (subst (Tells old new) same (subst (TellsText (Shows old new) (told_line (codes "no memory"))) is tells))
told line torn old new (Err lacking) left is same tells = inr (subst (TellsText (Shows old new) (told_line (codes "no memory"))) is tells)

-- and so it is where there are bytes
tells_torn : (line : DebuggerLine) (torn : ℕ) (old new : Screen) → (torn ≡ 0 → ⊥)
    → Tells old new (torn_line line torn) ⊎ Tells old new (told_line (codes "no memory")) → TellsTorn line torn old new
tells_torn line torn old new some tells = subst (λ so. TellsUnless so line torn old new) (sym (not_none torn torn refl some)) tells

pub returns : goal.returns
returns g c =
    let old : Screen = g.E.Terminal.screen c.args.errors.now in
    let new : Screen = g.E.Terminal.screen c.tell.new.errors in
    tells_torn c.args.line.now c.args.torn old new c.if-torn-eq0.false
    (told c.args.line.now c.args.torn old new c.torn_line.result c.ok-text.result c.ok-text.ensures.value c.torn_line.ensures c.tell.ensures)
