-- The changes of a register, the last first.
use Rattle.std.specs.Prelude.{ℕ, ◌+◌, ◌-◌, ◌==◌, min, List, [], ◌∷◌, ◌++◌, length, take, codes, if◌then◌else◌, Option, Some, None}
use Rattle.std.specs.List.{flat_map}
use Rattle.std.specs.Fmt.{decimal}
use Rattle.teco_store.specs.State.{State}
use Rattle.teco_store.specs.Turn.{Note}
use Rattle.teco_debugger.specs.Finding.{step_before}
use Rattle.teco_debugger.specs.Listing.{register_shown}
use Rattle.teco_debugger.specs.Walk.{KeptWalk, base, meant}
use Rattle.teco_debugger.specs.declared.history.TheConstants.{MOST_CHANGES}
use Rattle.teco_debugger.specs.declared.listing.TheConstants.{MOST_SHOWN}
use Rattle.teco_debugger.specs.declared.part.Part.{Part}
use Rattle.teco_debugger.specs.declared.part.Part.TheVariants as part

-- one step, or none
abbrev pub step_if : Option ℕ → List ℕ
step_if (Some n) = n ∷ []
step_if None = []

-- the steps that were done before each of these changes that is for a part, the last first; the changes are in order, the first first
unfoldable pub change_steps : Part → List Note → List ℕ
change_steps part [] = []
change_steps part (note ∷ notes) = change_steps part notes ++ step_if (step_before part note)

-- the state after the step that comes after n steps, where so many are done
abbrev pub after_step : KeptWalk → ℕ → State
after_step walk n = (meant (base walk) walk.text (min (n + 1) walk.steps)).state

-- a line of a change: how many steps were done before it, and what the register held after it
unfoldable pub change_shown : KeptWalk → ℕ → ℕ → List ℕ
change_shown walk q n = codes "step " ++ decimal n ++ codes ", " ++ register_shown (after_step walk n).registers q MOST_SHOWN

-- how many changes come before those that are shown, where any do
abbrev pub earlier_shown : ℕ → List ℕ
earlier_shown n = if n == 0 then [] else codes "and " ++ decimal n ++ codes " before these\n"

-- how many changes are shown of so many
abbrev pub most_shown : ℕ → ℕ
most_shown n = min n MOST_CHANGES

-- the lines of the last changes at these steps, and how many more there are
abbrev pub changes_shown : KeptWalk → ℕ → List ℕ → List ℕ
changes_shown walk q steps = flat_map (change_shown walk q) (take (most_shown (length steps)) steps)
    ++ earlier_shown (length steps - most_shown (length steps))

-- the same of all changes of a register up to where the walk stands, or that there is none
abbrev pub history_shown : KeptWalk → ℕ → List ℕ → List ℕ
history_shown walk q [] = codes "no step before this one changed it\n"
history_shown walk q (n ∷ steps) = changes_shown walk q (n ∷ steps)

abbrev pub history_of_register : KeptWalk → ℕ → List ℕ
history_of_register walk q = history_shown walk q (change_steps (part.Register q) walk.changes)
