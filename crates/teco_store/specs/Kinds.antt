-- What a change is for, as an editor that shows the state wants to know it.
use Rattle.std.specs.Prelude.{◌≡◌, ℕ, ◌+◌, List, length, ℤ}
use Rattle.teco_core.specs.Register.{Content, with_content}
use Rattle.teco_store.specs.State.{Body, replaced, with_register_number, with_register_text}
use Rattle.teco_store.specs.Turn as turn
use Rattle.teco_store.specs.Turn.{Turn, Stands, body_after, turn_after}
use Rattle.teco_store.specs.declared.change_kind.ChangeKind.{ChangeKind}
use Rattle.teco_store.specs.declared.change_kind.ChangeKind.TheVariants.{Splice, Point, Number, Text, Push, Pop, Pages, Search, Found, Done, Mode}

-- of a splice, the place, how many bytes a turn takes out there, and how many it puts in
abbrev pub kind_of : Turn → ChangeKind
kind_of (turn.Splice at there pointer held) = Splice at there (length held)
kind_of (turn.Lend from count there_from there pointer) = Splice 0 there count
kind_of (turn.PutIn held pointer) = Splice 0 0 (length held)
kind_of (turn.TakeOut held pointer) = Splice 0 (length held) 0
kind_of (turn.Point pointer) = Point
kind_of (turn.Number q number) = Number q
kind_of (turn.Text q held) = Text q
kind_of (turn.Push held) = Push
kind_of turn.TakeOff = Push
kind_of (turn.PopInto q) = Pop q
kind_of (turn.PutBack q held) = Pop q
kind_of (turn.Pages place output form_feed) = Pages
kind_of (turn.Search held) = Search
kind_of (turn.Found found) = Found
kind_of (turn.Done done) = Done
kind_of (turn.Mode mode) = Mode

-- A body comes from another by a turn of this kind: what the kind names may differ, and nothing else does.
abbrev pub ChangesOnly : ChangeKind → Body → Body → Type 0
ChangesOnly (Splice at gone came) b c = (put : List ℕ)
    × (length put ≡ came)
    × (c ≡ record b { text = replaced b.text at (at + gone) put; pointer = c.pointer })
ChangesOnly Point b c = c ≡ record b { pointer = c.pointer }
ChangesOnly (Number q) b c = (number : ℤ) × (c ≡ with_register_number b q number)
ChangesOnly (Text q) b c = (text : List ℕ) × (c ≡ with_register_text b q text)
ChangesOnly Push b c = c ≡ record b { pushed = c.pushed }
ChangesOnly (Pop q) b c = (held : Content)
    × (c ≡ record b { registers = with_content b.registers q held; pushed = c.pushed })
ChangesOnly Pages b c = c ≡ record b { place = c.place; output = c.output; form_feed = c.form_feed }
ChangesOnly Search b c = c ≡ record b { last_search = c.last_search }
ChangesOnly Found b c = c ≡ record b { last_found = c.last_found }
ChangesOnly Done b c = c ≡ record b { is_done = c.is_done }
ChangesOnly Mode b c = c ≡ record b { case_mode = c.case_mode }

-- the kind of a change once it is turned: what came goes
abbrev pub way_back : ChangeKind → ChangeKind
way_back (Splice at gone came) = Splice at came gone
way_back Point = Point
way_back (Number q) = Number q
way_back (Text q) = Text q
way_back Push = Push
way_back (Pop q) = Pop q
way_back Pages = Pages
way_back Search = Search
way_back Found = Found
way_back Done = Done
way_back Mode = Mode

-- What a kind tells of a turn: what that changes at most, and that it leaves a change of the kind that goes back.
pub record TellsTurn (kind : ChangeKind) (t : Turn) : Type 0 where
  pub kind_is : kind ≡ kind_of t
  pub only : (b : Body) → ChangesOnly kind b (body_after t b)
  pub back : (b : Body) → Stands t b → kind_of (turn_after t b) ≡ way_back kind

abbrev pub TellsItsTurn : Type 0
TellsItsTurn = (kind : ChangeKind) (t : Turn) → kind ≡ kind_of t → TellsTurn kind t
