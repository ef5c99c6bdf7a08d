-- What is seen of an alarm, and of one by a clock.
use Rattle.std.specs.Prelude.{◌≡◌, ◌≤◌, ◌-◌, ◌/◌, ℕ, Option, Some, true}
use Rattle.std.specs.Time.{instant_nanos}
use Rattle.std.specs.declared.time.Instant.{Instant}
use Rattle.teco_exec.specs.Runs.{Answers}

-- An alarm is set: it gives so many seconds, and has not rung.
pub record IsSet (seen : Answers) (seconds : ℕ) : Type 0 where
  pub span : seen.span ≡ seconds
  pub fresh : (k : ℕ) → seen.said k true → ⊥

-- Both readings of the clock were made, and from the first to the last so many whole seconds are over.
abbrev pub AreApart : ℕ → Option Instant → Option Instant → Type 0
AreApart seconds (Some first) (Some last) = seconds ≤ (instant_nanos last - instant_nanos first) / 1000000000
AreApart seconds _ _ = ⊥

-- It gives so many seconds, and asks a run to stop only after two such readings.
abbrev pub clock_answers : ℕ → Option Instant → Option Instant → Answers
clock_answers seconds first last = record { span = seconds; said = λ _ b. b ≡ true → AreApart seconds first last }
