-- Serving a stream: an exchange for each text, and how it ends.
use Rattle.std.specs.Prelude.{◌≡◌, ℕ, List, [], ◌∷◌, ◌++◌, ◌⊎◌, map, Bool, true, false}
use Rattle.std.specs.List.{flat_map}
use Rattle.teco_session.specs.History.{History}
use Rattle.teco_scan.specs.Stream.{Asks, requests}
use Rattle.teco_serve.specs.Message.{star}
use Rattle.teco_serve.specs.Exchange.{Allowance, Exchange, Does, BreaksOff, exits, exchange_shown}
use Rattle.teco_serve.specs.declared.alarm.Manner.{Manner}
use Rattle.teco_serve.specs.declared.served.Served.{Served}
use Rattle.teco_serve.specs.declared.served.Served.TheVariants.{Exit, EndOfCommands, ReadFault, ShowFault, NoMemory}

-- The exchanges lead, one after another, from the old history to the new one, and each did what it was asked.
abbrev pub Exchanges : Allowance → History → List Exchange → History → Type 0
Exchanges allowed old [] new = new ≡ old
Exchanges allowed old (x ∷ xs) new = (x.before ≡ old) × Does allowed x.asked x.before x.replies x.after
    × Exchanges allowed x.after xs new

-- none of the exchanges ends the serving
abbrev pub GoOn : List Exchange → Type 0
GoOn [] = Unit {0}
GoOn (x ∷ xs) = (exits x ≡ false) × GoOn xs

-- The exchanges are these and one more, and none of these ends the serving.
pub record EndsBy (exchanges before : List Exchange) (last : Exchange) : Type 0 where
  pub parts : exchanges ≡ before ++ last ∷ []
  pub going : GoOn before

abbrev pub asked_in : List Exchange → List Asks
asked_in exchanges = map (λ x. x.asked) exchanges

abbrev pub exchanges_shown : Manner → List Exchange → List ℕ
exchanges_shown manner exchanges = flat_map (exchange_shown manner) exchanges

-- what is shown in all: a star at the beginning, and what each exchange shows
abbrev pub all_shown : Manner → List Exchange → List ℕ
all_shown manner exchanges = star manner.prompt ++ exchanges_shown manner exchanges

-- The exchanges are for the first texts of the bytes.
abbrev pub AreFirstOf : List Exchange → List ℕ → Type 0
AreFirstOf exchanges bytes = (rest : List Asks) × (requests bytes ≡ asked_in exchanges ++ rest)

abbrev pub is_read_fault : Served → Bool
is_read_fault ReadFault = true
is_read_fault Exit = false
is_read_fault EndOfCommands = false
is_read_fault ShowFault = false
is_read_fault NoMemory = false

-- The serving went on until nothing more could be read.
abbrev pub is_read_out : Served → Bool
is_read_out EndOfCommands = true
is_read_out ReadFault = true
is_read_out Exit = false
is_read_out ShowFault = false
is_read_out NoMemory = false

-- It ended by an exit where the last exchange is one, and no other way: no exchange before is one, and
-- without an exit none is.
abbrev pub Exits : Served → List Exchange → Type 0
Exits Exit exchanges = (before : List Exchange) × (last : Exchange) × EndsBy exchanges before last
    × (exits last ≡ true)
Exits EndOfCommands exchanges = GoOn exchanges
Exits ReadFault exchanges = GoOn exchanges
Exits ShowFault exchanges = GoOn exchanges
Exits NoMemory exchanges = GoOn exchanges

-- These bytes are the last to be shown, and those all before them: where nothing was done yet, the first
-- star; else what the last exchange shows.
abbrev pub AreLast : Manner → List Exchange → List ℕ → List ℕ → Type 0
AreLast manner exchanges before last =
    ((exchanges ≡ []) × (before ≡ []) × (last ≡ star manner.prompt))
    ⊎ ((xs : List Exchange) × (x : Exchange) × (exchanges ≡ xs ++ x ∷ []) × (before ≡ all_shown manner xs)
    × (last ≡ exchange_shown manner x))

-- The last to be shown was not: nothing is done after the put that failed.
pub record FailsToShow (showed : List ℕ → Bool → Type 0) (manner : Manner)
    (exchanges : List Exchange) : Type 0 where
  pub before : List ℕ
  pub last : List ℕ
  pub parts : AreLast manner exchanges before last
  pub breaks : BreaksOff showed before last

-- A put failed only where the serving ended by that; else all is shown.
abbrev pub Shown : (List ℕ → Bool → Type 0) → Manner → List Exchange → Served → Type 0
Shown showed manner exchanges ShowFault = FailsToShow showed manner exchanges
Shown showed manner exchanges Exit = showed (all_shown manner exchanges) false
Shown showed manner exchanges EndOfCommands = showed (all_shown manner exchanges) false
Shown showed manner exchanges ReadFault = showed (all_shown manner exchanges) false
Shown showed manner exchanges NoMemory = showed (all_shown manner exchanges) false

-- What serving a stream does, with what each string is allowed, in this manner.
-- `gave` says which bytes the source gave, and whether a read failed; `at_end` that it has ended; `showed`
-- which bytes the terminal showed, and whether it failed.
pub record Serves (allowed : Allowance) (manner : Manner) (gave : List ℕ → Bool → Type 0) (at_end : Type 0)
    (showed : List ℕ → Bool → Type 0) (old new : History) (served : Served) : Type 0 where
  -- what was read; a read failed only where the serving ended by that
  pub bytes : List ℕ
  pub read : gave bytes (is_read_fault served)
  -- what was done: a beginning of what those bytes ask,
  pub exchanges : List Exchange
  pub done : Exchanges allowed old exchanges new
  pub first : AreFirstOf exchanges bytes
  -- and all of it where nothing more could be read
  pub all : is_read_out served ≡ true → requests bytes ≡ asked_in exchanges
  -- the end of commands is the end of the source
  pub ended : served ≡ EndOfCommands → at_end
  -- it ends by an exit exactly after the run that made the session done
  pub exit : Exits served exchanges
  -- what was shown
  pub shown : Shown showed manner exchanges served
