-- The load of a step: the bytes that it moves, part by part.
use Rattle.std.specs.Prelude.{◌≡◌, ℕ, ◌+◌, List, ◌∷◌, ◌++◌, drop, length, Option, Some, ℤ}
use Rattle.teco_core.specs.Register.{Content, content, with_content, with_number}
use Rattle.teco_store.specs.Search.{length_of}
use Rattle.teco_store.specs.State.{State}

-- Of the buffer's text: the bytes that went, and those that came in their place.
pub data MovesText : List ℕ → List ℕ → ℕ → Type 0 where
  replaces : (before went came after : List ℕ)
      → MovesText (before ++ (went ++ after)) (before ++ (came ++ after)) (length went + length came)

-- Of the registers: none where they stay or a number is set. Where one of them comes to hold another content: its old text and its new one.
pub data MovesRegisters : List Content → List Content → ℕ → Type 0 where
  stay : (registers : List Content) → MovesRegisters registers registers 0
  numbers : (registers : List Content) (q : ℕ) (n : ℤ)
      → MovesRegisters registers (with_number registers q n) 0
  holds : (registers : List Content) (q : ℕ) (c : Content)
      → MovesRegisters registers (with_content registers q c)
      (length (content registers q).text + length c.text)

-- Of the push-down list: the text that comes onto it. What goes off it is counted where it comes in, at a register.
pub data MovesPushed : List Content → List Content → ℕ → Type 0 where
  keeps : (pushed : List Content) → MovesPushed pushed pushed 0
  gains : (c : Content) (pushed : List Content) → MovesPushed pushed (c ∷ pushed) (length c.text)
  loses : (pushed : List Content) → MovesPushed pushed (drop 1 pushed) 0

-- Of the last search text: none where it stays, and else the old text and the new one.
pub data MovesSearch : Option (List ℕ) → Option (List ℕ) → ℕ → Type 0 where
  same : (last : Option (List ℕ)) → MovesSearch last last 0
  notes : (last : Option (List ℕ)) (text : List ℕ)
      → MovesSearch last (Some text) (length_of last + length text)

-- From one state to another so many bytes are moved: in the text, in the registers, on the push-down list, and in the last search text.
-- The pointer, numbers, flags and the place in the input weigh nothing. Nor does the output, which is only extended.
pub record Moves (s t : State) (load : ℕ) : Type 0 where
  pub text : ℕ
  pub registers : ℕ
  pub pushed : ℕ
  pub search : ℕ
  pub in_text : MovesText s.text t.text text
  pub in_registers : MovesRegisters s.registers t.registers registers
  pub in_pushed : MovesPushed s.pushed t.pushed pushed
  pub in_search : MovesSearch s.last_search t.last_search search
  pub written : List ℕ
  pub output : t.output ≡ s.output ++ written
  pub all : load ≡ text + (registers + (pushed + search))
