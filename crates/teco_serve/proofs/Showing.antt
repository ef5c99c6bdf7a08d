-- One put after another.
use Rattle.std.proofs.Common.{◌≡◌, inl, inr, String, Global, ℕ, List, [], ◌++◌, Bool, true, false, Result, Ok, Err, sym, subst, append-nil, append_assoc}
use Rattle.std.specs.Prelude.{IfOk}
use Rattle.std.specs.String.{string_bytes}
use Rattle.std.specs.declared.alloc.AllocError.{AllocError}
use Rattle.teco_io.specs.Terminal.{Screen, Shows}
use Rattle.teco_io.proofs.Shown.{Shows-trans}
use Rattle.teco_serve.specs.Exchange.{BreaksOff}
use Rattle.teco_serve.specs.Explaining.{TellsLines, told}
use Rattle.teco_fs.specs.Refusing.{Tells}

-- Bytes shown, and then others, are shown together.
pub record Joins (first second whole : List ℕ → Bool → Type 0) : Type 0 where
  pub more : (xs ys : List ℕ) (failed : Bool) → first xs false → second ys failed → whole (xs ++ ys) failed

pub Shows-joins : (a b c : Screen) → Joins (Shows a b) (Shows b c) (Shows a c)
Shows-joins a b c = record { more = λ xs ys failed p q. Shows-trans p q }

module _ (first second whole : List ℕ → Bool → Type 0) (joins : Joins first second whole) where
  pub BreaksOff-after : (xs ys last : List ℕ) → first xs false → BreaksOff second ys last → BreaksOff whole (xs ++ ys) last
  BreaksOff-after xs ys last p b = record {
    some = b.some;
    front = b.front;
    beginning = b.beginning;
    shows = subst (λ l. whole l true) (sym (append_assoc xs ys b.front)) (joins.more xs (ys ++ b.front) true p b.shows);
  }

  pub BreaksOff-first : (xs last : List ℕ) → first xs false → BreaksOff second [] last → BreaksOff whole xs last
  BreaksOff-first xs last p b = subst (λ l. BreaksOff whole l last) (append-nil xs) (BreaksOff-after xs [] last p b)

-- The lines are told; or, where memory lacked for them, that.
pub lines_told : {old new : Screen} {text : List ℕ} (lines : Result (String Global) AllocError) → IfOk lines (λ line. string_bytes line ≡ text) → Tells old new (told lines) → TellsLines old new text
lines_told {old} {new} (Ok line) same tells = inl (subst (Tells old new) same tells)
lines_told (Err lacking) same tells = inr tells
