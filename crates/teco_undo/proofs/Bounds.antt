-- A change never holds more than the bytes of both its sides, whichever way it is turned.
use Rattle.std.proofs.Common.{◌≤◌, List, [], ◌∷◌, drop, arith, length, length-take}
use Rattle.std.proofs.Math.Nat.{le_refl, le-add_left, le-add_right}
use Rattle.teco_core.specs.Register.{content}
use Rattle.teco_store.specs.Search.{length_of}
use Rattle.teco_store.specs.State.{Body}
use Rattle.teco_store.specs.Turn.{Turn, Note, Splice, Lend, PutIn, TakeOut, Point, Number, Text, Push, TakeOff, PopInto, PutBack, Pages, Search, Found, Done, Mode, top_of, turn_after, held_by}
use Rattle.teco_undo.specs.Entry.{body_back, notes_back, weight, held_in, load_back}

held_weight : (t : Turn) (b : Body) → held_by t ≤ weight t b
held_weight (Splice at there pointer held) b = le-add_left (length held) there
held_weight (Lend from count there_from there pointer) b = omega arith
held_weight (PutIn held pointer) b = le_refl (length held)
held_weight (TakeOut held pointer) b = le_refl (length held)
held_weight (Point pointer) b = le_refl 0
held_weight (Number q n) b = le_refl 0
held_weight (Text q held) b = le-add_left (length held) (length (content b.registers q).text)
held_weight (Push held) b = le_refl (length held.text)
held_weight TakeOff b = omega arith
held_weight (PopInto q) b = omega arith
held_weight (PutBack q held) b = le-add_right (length held.text) (length (content b.registers q).text)
held_weight (Pages place output form_feed) b = le_refl 0
held_weight (Search held) b = le-add_left (length_of held) (length_of b.last_search)
held_weight (Found found) b = le_refl 0
held_weight (Done done) b = le_refl 0
held_weight (Mode mode) b = le_refl 0

held_after : (t : Turn) (b : Body) → held_by (turn_after t b) ≤ weight t b
held_after (Splice at there pointer held) b = let n = length-take there (drop at b.text) in omega arith
held_after (Lend from count there_from there pointer) b = omega arith
held_after (PutIn held pointer) b = le_refl (length held)
held_after (TakeOut held pointer) b = le_refl (length held)
held_after (Point pointer) b = le_refl 0
held_after (Number q n) b = le_refl 0
held_after (Text q held) b = le-add_right (length (content b.registers q).text) (length held)
held_after (Push held) b = omega arith
held_after TakeOff b = le_refl (length (top_of b.pushed).text)
held_after (PopInto q) b = le-add_right (length (content b.registers q).text) (length (top_of b.pushed).text)
held_after (PutBack q held) b = omega arith
held_after (Pages place output form_feed) b = le_refl 0
held_after (Search held) b = le-add_right (length_of b.last_search) (length_of held)
held_after (Found found) b = le_refl 0
held_after (Done done) b = le_refl 0
held_after (Mode mode) b = le_refl 0

pub held_back : (cs : List Note) (b : Body) → held_in cs ≤ load_back cs b
held_back [] b = omega arith
held_back (c ∷ cs) b = let x = held_weight c.turn (body_back cs b) in let y = held_back cs b in omega arith

pub held_turned : (cs : List Note) (b : Body) → held_in (notes_back cs b) ≤ load_back cs b
held_turned [] b = omega arith
held_turned (c ∷ cs) b = let x = held_after c.turn (body_back cs b) in let y = held_turned cs b in omega arith
