-- The open blocks that the code keeps, as the machine sees them.
use Rattle.std.specs.Prelude.{◌≡◌, ◌-◌, Bool, true, false, ℕ, zero, suc, List, [], ◌∷◌, drop, length, Option, Some, None}
use Rattle.teco_scan.specs.declared.blocks.Kind.{Kind}
use Rattle.teco_scan.specs.declared.blocks.Kind.TheVariants as kind
use Rattle.teco_exec.specs.CursorMoves.{Frame}
use Rattle.teco_exec.specs.declared.blocks.Body.{Body}
use Rattle.teco_exec.specs.declared.blocks.Body.TheVariants.{Endless, Turns, Then, Else}
use Rattle.teco_exec.specs.declared.blocks.Block.{Block}

abbrev pub kind_of : Body → Kind
kind_of Endless = kind.Iter
kind_of (Turns n) = kind.Iter
kind_of Then = kind.Then
kind_of Else = kind.Else

-- the turns left after the present one; none: without end
abbrev pub turns_left : Body → Option ℕ
turns_left (Turns n) = Some n
turns_left b = None

abbrev pub frame : List ℕ → Block → Frame
frame text b = record { kind = kind_of b.body; start = drop b.start text; left = turns_left b.body }

unfoldable pub frames : List ℕ → List Block → List Frame
frames text [] = []
frames text (b ∷ bs) = frame text b ∷ frames text bs

-- the turns left of each open iteration, the innermost first; none: without end
unfoldable pub turns_open : List Block → List (Option ℕ)
turns_open [] = []
turns_open (b ∷ bs) =
    elim b.body [
      | Endless ↦ None ∷ turns_open bs
      | Turns n ↦ Some n ∷ turns_open bs
      | Then ↦ turns_open bs
      | Else ↦ turns_open bs
    ]

-- the outermost blocks, as many as a depth
abbrev pub outermost : ℕ → List Block → List Block
outermost depth bs = drop (length bs - depth) bs

-- where the innermost block's list begins, or the text
abbrev pub list_start : List Block → ℕ
list_start [] = 0
list_start (b ∷ bs) = b.start

-- the innermost block is an iteration
abbrev pub EndsTurn : List Block → Type 0
EndsTurn [] = ⊥
EndsTurn (b ∷ bs) = kind_of b.body ≡ kind.Iter

-- an iteration is open
unfoldable pub has_iteration : List Block → Bool
has_iteration [] = false
has_iteration (b ∷ bs) =
    elim (kind_of b.body) [ kind.Iter ↦ true | kind.Then ↦ has_iteration bs | kind.Else ↦ has_iteration bs ]

-- the body in the next turn, if there is one
abbrev pub next_body : Body → Option Body
next_body Endless = Some Endless
next_body (Turns zero) = None
next_body (Turns (suc n)) = Some (Turns n)
next_body b = None

abbrev pub in_turn : Block → List Block → Option Body → Option (List Block)
in_turn b outer None = None
in_turn b outer (Some body) = Some (record b { body = body } ∷ outer)

-- the open blocks in the next turn of the innermost, if there is one
abbrev pub next_turn : List Block → Option (List Block)
next_turn [] = None
next_turn (b ∷ outer) = in_turn b outer (next_body b.body)
