-- What is watched, and the nearest step at which it differs from here.
use Rattle.std.specs.Prelude.{◌≡◌, ℕ, ◌+◌, ◌≤◌, ◌<◌, ◌==◌, ◌&&◌, Bool, true, false, length, nat_eq, Option, Some, None}
use Rattle.std.specs.Ordering.{int_eq}
use lib.Pointwise.{pointwise}
use Rattle.teco_core.specs.Register.{Content, content}
use Rattle.teco_store.specs.State.{State}
use Rattle.teco_debugger.specs.Walk.{KeptWalk, base, meant, state_there}
use Rattle.teco_debugger.specs.declared.watching.Watch.{Watch}
use Rattle.teco_debugger.specs.declared.watching.Watch.TheVariants.{Register, Pointer, Length}
use Rattle.teco_debugger.specs.declared.watching.Way.{Way}
use Rattle.teco_debugger.specs.declared.watching.Way.TheVariants.{On, Back}

-- the same number and the same text
abbrev pub is_same_content : Content → Content → Bool
is_same_content c d = int_eq c.number d.number && pointwise nat_eq c.text d.text

-- What is watched is the same in two states: what a register holds, the pointer, or the length of the buffer.
abbrev pub is_same : Watch → State → State → Bool
is_same (Register q) s t = is_same_content (content s.registers q) (content t.registers q)
is_same Pointer s t = s.pointer == t.pointer
is_same Length s t = length s.text == length t.text

-- After n steps of the string it is as it is here, where the walk stands.
abbrev pub is_as_here : Watch → KeptWalk → ℕ → Bool
is_as_here watch walk n = is_same watch (state_there walk) (meant (base walk) walk.text n).state

-- It is so after each of some steps, from one up to another, which is not among them.
abbrev pub AreAsHere : Watch → KeptWalk → ℕ → ℕ → Type 0
AreAsHere watch walk from to = (n : ℕ) → from ≤ n → n < to → is_as_here watch walk n ≡ true

-- The step is the first one after another at which it differs, of those up to the last.
pub record IsFirstAfter (watch : Watch) (walk : KeptWalk) (from last n : ℕ) : Type 0 where
  pub after : from < n
  pub within : n ≤ last
  pub differs : is_as_here watch walk n ≡ false
  pub passed : AreAsHere watch walk (from + 1) n

-- there is such a step, or none
abbrev pub IsFirstOther : Watch → KeptWalk → ℕ → ℕ → Option ℕ → Type 0
IsFirstOther watch walk from last (Some n) = IsFirstAfter watch walk from last n
IsFirstOther watch walk from last None = AreAsHere watch walk (from + 1) (last + 1)

-- The step is the last one before this one at which it differs.
pub record IsLastBefore (watch : Watch) (walk : KeptWalk) (n : ℕ) : Type 0 where
  pub before : n < walk.steps
  pub differs : is_as_here watch walk n ≡ false
  pub passed : AreAsHere watch walk (n + 1) walk.steps

abbrev pub IsLastOther : Watch → KeptWalk → Option ℕ → Type 0
IsLastOther watch walk (Some n) = IsLastBefore watch walk n
IsLastOther watch walk None = AreAsHere watch walk 0 walk.steps

-- The nearest step at which it differs: on, up to the last that the string takes under the limit, or back.
abbrev pub IsNearestOther : Way → Watch → KeptWalk → ℕ → Option ℕ → Type 0
IsNearestOther On watch walk limit to = IsFirstOther watch walk walk.steps (meant (base walk) walk.text limit).steps to
IsNearestOther Back watch walk limit to = IsLastOther watch walk to
