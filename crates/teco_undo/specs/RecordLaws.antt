-- What always holds of entries that are turned.
use Rattle.std.specs.Prelude.{◌≡◌, ℕ, ◌≤◌, List, length}
use Rattle.teco_store.specs.State.{Body, Full, IsSound, Extends, state_of, with_body}
use Rattle.teco_store.specs.Trail.{Trail, cut_after}
use Rattle.teco_store.specs.Turn.{Note}
use Rattle.teco_undo.specs.Entry.{body_back, notes_back, body_forth, notes_forth, FitsBack, FitsForth, before, since, load_back, held_in}
use Rattle.teco_undo.specs.Follows.{Recording, HasCome, Follows, LeadsBack}

-- An entry that was turned back fits forward, and turned forward it gives back the body and itself. The output's end did not rise.
pub record ComesForthAgain (capacity top : ℕ) (cs : List Note) (b : Body) : Type 0 where
  pub fits : FitsForth capacity top (notes_back cs b) (body_back cs b)
  pub body : body_forth (notes_back cs b) (body_back cs b) ≡ b
  pub notes : notes_forth (notes_back cs b) (body_back cs b) ≡ cs
  pub sound : IsSound capacity top (body_back cs b)
  pub output : (body_back cs b).output ≤ b.output

-- The same of one that was turned forth. The output's end did not fall.
pub record ComesBackAgain (capacity top : ℕ) (cs : List Note) (b : Body) : Type 0 where
  pub fits : FitsBack capacity (notes_forth cs b) (body_forth cs b)
  pub body : body_back (notes_forth cs b) (body_forth cs b) ≡ b
  pub notes : notes_back (notes_forth cs b) (body_forth cs b) ≡ cs
  pub sound : IsSound capacity top (body_forth cs b)
  pub output : b.output ≤ (body_forth cs b).output

abbrev pub BackThenForth : Type 0
BackThenForth = (capacity top : ℕ) (cs : List Note) (b : Body) → FitsBack capacity cs b
    → IsSound capacity top b → ComesForthAgain capacity top cs b

abbrev pub ForthThenBack : Type 0
ForthThenBack = (capacity top : ℕ) (cs : List Note) (b : Body) → FitsForth capacity top cs b
    → IsSound capacity top b → ComesBackAgain capacity top cs b

-- What fits back still fits where there is more capacity.
abbrev pub FitsWithMoreCapacity : Type 0
FitsWithMoreCapacity = (capacity more : ℕ) (cs : List Note) (b : Body) → capacity ≤ more
    → FitsBack capacity cs b → FitsBack more cs b

-- An entry holds no more bytes than stand on both sides of its changes, as it is and once it is turned back.
pub record HoldsItsLoad (cs : List Note) (b : Body) : Type 0 where
  pub now : held_in cs ≤ load_back cs b
  pub turned : held_in (notes_back cs b) ≤ load_back cs b

abbrev pub HoldsAtMostItsLoad : Type 0
HoldsAtMostItsLoad = (cs : List Note) (b : Body) → HoldsItsLoad cs b

-- What a recorder has noted leads back to the editor with which it began.
abbrev pub LeadsToItsBeginning : Type 0
LeadsToItsBeginning = (old : Full) (r : Recording) (t : Trail) → IsSound old.room (length old.stored) old.body
    → t.states 0 ≡ state_of old → t.floor ≡ old.room
    → Follows r t → LeadsBack old r.full r.notes

-- With more capacity, and other bytes beyond the output's end, it is still what a trail leads to.
abbrev pub ComesSoExtended : Type 0
ComesSoExtended = (e g : Full) (notes : List Note) (steps : ℕ) (t : Trail) → Extends e g
    → HasCome e notes steps t → HasCome g notes steps t

-- The changes of the first `n` steps have come through those steps, and lead back to where all of them led.
pub record IsCutEntry (n : ℕ) (full : Full) (notes : List Note) (t : Trail) : Type 0 where
  pub come : HasCome (with_body full (body_back (since n notes) full.body)) (before n notes) n (cut_after n t)
  pub first : body_back (before n notes) (body_back (since n notes) full.body) ≡ body_back notes full.body

abbrev pub ComesSoFarCut : Type 0
ComesSoFarCut = (n : ℕ) (full : Full) (notes : List Note) (steps : ℕ) (t : Trail) → n ≤ t.steps
    → HasCome full notes steps t → IsCutEntry n full notes t
