-- What the effect of a token always says.
use Rattle.std.specs.Prelude.{◌≡◌, ◌≢◌, ◌≤◌, List, [], length, ℕ, true, ◌⊎◌}
use Rattle.teco_core.specs.declared.code.Code.{Code}
use Rattle.teco_core.specs.declared.code.Code.TheVariants.{Srh}
use Rattle.teco_core.specs.Arguments.{Arguments}
use Rattle.teco_scan.specs.Scan.{Item}
use Rattle.teco_store.specs.State.{State}
use Rattle.teco_step.specs.Effect.{effect}
use Rattle.teco_step.specs.Load.{Moves}
use Rattle.teco_step.specs.declared.next.Setting.{Setting}
use Rattle.teco_step.specs.Step.{on, leave, go, call, again, out, stop}
use Rattle.teco_step.specs.Stepping.{is_call, may_go_further, name_of, takes_nothing}
use Rattle.teco_step.specs.declared.next.Work.{Work}

-- An iteration is left only inside one.
abbrev pub LeavesInside : Type 0
LeavesInside = (i : Item) (w : Setting) (s : State) (a : Arguments) → (effect i w s a).end ≡ leave
    → w.inside ≡ true

-- A jump goes to the name that the token has.
abbrev pub JumpsToItsName : Type 0
JumpsToItsName = (i : Item) (w : Setting) (s : State) (a : Arguments) (name : List ℕ)
    → (effect i w s a).end ≡ go name → name_of i ≡ name

-- A text is called only by a token that calls.
abbrev pub CallsByCalls : Type 0
CallsByCalls = (i : Item) (w : Setting) (s : State) (a : Arguments) (text : List ℕ)
    → (effect i w s a).end ≡ call text → is_call i ≡ true

-- A further step is of a token that may have some.
abbrev pub GoesFurtherIfItMay : Type 0
GoesFurtherIfItMay = (i : Item) (w : Setting) (s : State) (a : Arguments) (work : Work)
    → (effect i w s a).end ≡ again work → may_go_further i ≡ true

-- After a value or arithmetic the string goes on, or ends by an error.
abbrev pub ValueGoesOn : Type 0
ValueGoesOn = (i : Item) (w : Setting) (s : State) (a : Arguments) → takes_nothing i ≡ true
    → ((effect i w s a).end ≡ on) ⊎ ((c : Code) × ((effect i w s a).end ≡ stop c))

-- Only a step that ends by an exit makes a session done.
abbrev pub OnlyExits : Type 0
OnlyExits = (i : Item) (w : Setting) (s : State) (a : Arguments) → (effect i w s a).end ≢ out
    → (effect i w s a).state.is_done ≡ s.is_done

-- An error leaves all as it was and types nothing, but for a search that failed.
abbrev pub ErrorsChangeNothing : Type 0
ErrorsChangeNothing = (i : Item) (w : Setting) (s : State) (a : Arguments) (c : Code)
    → (effect i w s a).end ≡ stop c → c ≢ Srh
    → ((effect i w s a).state ≡ s) × ((effect i w s a).arguments ≡ a) × ((effect i w s a).typed ≡ [])

-- A step changes the state or it types, and never both.
abbrev pub ChangesOrTypes : Type 0
ChangesOrTypes = (i : Item) (w : Setting) (s : State) (a : Arguments) → ((effect i w s a).state ≡ s)
    ⊎ ((effect i w s a).typed ≡ [])

-- No step changes the profile that texts are read in.
abbrev pub ProfileStays : Type 0
ProfileStays = (i : Item) (w : Setting) (s : State) (a : Arguments) → (effect i w s a).state.profile ≡ s.profile

-- The load of a step is the bytes that it moves, where the pointer is in the text.
abbrev pub LoadIsWhatMoves : Type 0
LoadIsWhatMoves = (i : Item) (w : Setting) (s : State) (a : Arguments) → s.pointer ≤ length s.text
    → Moves s (effect i w s a).state (effect i w s a).load
