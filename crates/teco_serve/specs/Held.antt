-- The parts of a serving: one exchange, and all exchanges for what is held.
use Rattle.std.specs.Prelude.{◌≡◌, ℕ, List, [], ◌++◌, Option, Some, None, Bool, true, false}
use Rattle.teco_session.specs.History.{History}
use Rattle.teco_scan.specs.Stream.{Asks, requests, texts_of}
use Rattle.teco_serve.specs.Exchange.{Allowance, Exchange, BreaksOff, Does, exits, exchange_shown}
use Rattle.teco_serve.specs.Serving.{EndsBy, GoOn, asked_in, exchanges_shown}
use Rattle.teco_serve.specs.declared.alarm.Manner.{Manner}
use Rattle.teco_serve.specs.declared.served.Served.{Served}
use Rattle.teco_serve.specs.declared.served.Served.TheVariants.{Exit, EndOfCommands, ReadFault, ShowFault}

-- an exchange that did what was asked, from the old history to the new one
pub record IsExchange (allowed : Allowance) (asked : Asks) (old new : History) (exchange : Exchange) : Type 0 where
  pub asked_is : exchange.asked ≡ asked
  pub before_is : exchange.before ≡ old
  pub after_is : exchange.after ≡ new
  pub does : Does allowed exchange.asked exchange.before exchange.replies exchange.after

-- what one exchange showed, and if it ended the serving
abbrev pub ExchangeEnds : (List ℕ → Bool → Type 0) → Manner → Exchange → Option Served → Type 0
ExchangeEnds showed manner exchange ended = elim ended [
  | None ↦ (exits exchange ≡ false) × showed (exchange_shown manner exchange) false
  | Some Exit ↦ (exits exchange ≡ true) × showed (exchange_shown manner exchange) false
  | Some ShowFault ↦ (exits exchange ≡ false) × BreaksOff showed [] (exchange_shown manner exchange)
  | _ ↦ ⊥
]

-- what the exchanges showed, and if they ended the serving
abbrev pub HeldEnds : (List ℕ → Bool → Type 0) → Manner → List Exchange → Option Served → Type 0
HeldEnds showed manner exchanges ended = elim ended [
  | Some Exit ↦ (before : List Exchange) × (last : Exchange) × EndsBy exchanges before last
      × (exits last ≡ true) × showed (exchanges_shown manner exchanges) false
  | Some ShowFault ↦ (before : List Exchange) × (last : Exchange) × EndsBy exchanges before last
      × (exits last ≡ false)
      × BreaksOff showed (exchanges_shown manner before) (exchange_shown manner last)
  | Some EndOfCommands ↦ ⊥
  | Some ReadFault ↦ ⊥
  | _ ↦ GoOn exchanges × showed (exchanges_shown manner exchanges) false
]

-- However the stream goes on, it asks what the exchanges were asked, and then what the held bytes ask.
pub record CutsOff (bytes : List ℕ) (exchanges : List Exchange) (held : List ℕ) : Type 0 where
  pub asks : (more : List ℕ) → requests (bytes ++ more) ≡ asked_in exchanges ++ requests (held ++ more)

-- where nothing ended the serving, no pair is held
abbrev pub Emptied : Option Served → List ℕ → Type 0
Emptied None held = texts_of held ≡ []
Emptied (Some served) held = Unit {0}
