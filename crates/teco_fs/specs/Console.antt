-- What is seen of what a program tells: on its terminal, and on standard error.
use Rattle.std.specs.Prelude.{◌≡◌, ◌⊎◌, ℕ, List, Bool, true, false}
use Rattle.teco_io.specs.Terminal.{IsFrontOf, Screen, Shows}

-- what is seen of a terminal between two moments
pub record TerminalSeen : Type 1 where
  -- nothing was put on it
  pub still : Type 0
  -- which bytes it showed, and whether a put failed
  pub showed : List ℕ → Bool → Type 0

abbrev pub terminal_seen : {T : Type 0} → (T → Screen) → T → T → TerminalSeen
terminal_seen screen old new = record { still = new ≡ old; showed = Shows (screen old) (screen new) }

-- what is seen of the terminal of a program and of its standard error
pub record Console : Type 1 where
  pub terminal : TerminalSeen
  pub errors : TerminalSeen

-- both, by their screens
abbrev pub console : {T E : Type 0} → (T → Screen) → T → T → (E → Screen) → E → E → Console
console screen old new errors told telling =
    record { terminal = terminal_seen screen old new; errors = terminal_seen errors told telling }

-- All of the text was shown.
abbrev pub ShowsWhole : (List ℕ → Bool → Type 0) → List ℕ → Type 0
ShowsWhole showed text = showed text false

-- A beginning of the text was shown, and then the terminal failed.
abbrev pub ShowsFront : (List ℕ → Bool → Type 0) → List ℕ → Type 0
ShowsFront showed text = (front : List ℕ) × IsFrontOf front text × showed front true

-- All of the text was shown, or a beginning of it and then the terminal failed.
abbrev pub ShowsOrFails : (List ℕ → Bool → Type 0) → List ℕ → Type 0
ShowsOrFails showed text = ShowsWhole showed text ⊎ ShowsFront showed text
