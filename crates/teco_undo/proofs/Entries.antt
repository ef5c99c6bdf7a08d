-- Entries are turned back and forth again: body and changes are as before.
use Rattle.std.proofs.Common.{◌≡◌, ℕ, ◌≤◌, List, [], ◌∷◌, refl, sym, ◌∙◌, ap, subst, arith}
use Rattle.teco_store.specs.State.{Body, IsSound}
use Rattle.teco_store.specs.Turn.{Turn, Note, Fits, body_after, turn_after}
use Rattle.teco_store.proofs.Sound.{sound_more, sound_within}
use Rattle.teco_undo.specs.Entry.{body_back, notes_back, body_forth, notes_forth, FitsBack, FitsForth}
use Rattle.teco_undo.specs.RecordLaws.{BackThenForth, ForthThenBack}
use Rattle.teco_undo.proofs.Turns.{fits_after, body_again, turn_again}

pub fits_more : (capacity capacity' top top' : ℕ) (t : Turn) (b : Body) → capacity ≤ capacity' → top ≤ top' → Fits capacity top t b → Fits capacity' top' t b
fits_more capacity capacity' top top' t b r m f = (f.0, sound_more capacity capacity' top top' (body_after t b) r m f.1)

-- a fit below a top, whose end is at most another
pub shown_fits : (capacity top low : ℕ) (t : Turn) (b : Body) → Fits capacity top t b → (body_after t b).output ≤ low → Fits capacity low t b
shown_fits capacity top low t b f h = (f.0, sound_within capacity top low (body_after t b) h f.1)

-- backward the end does not rise
pub shown_back_all : (capacity : ℕ) (cs : List Note) (b : Body) → FitsBack capacity cs b → (body_back cs b).output ≤ b.output
shown_back_all capacity [] b f = omega arith
shown_back_all capacity (c ∷ cs) b f =
    let rest = shown_back_all capacity cs b f.0 in
    let one = f.1.1.stored in
    omega arith

pub sound_back_all : (capacity top : ℕ) (cs : List Note) (b : Body) → FitsBack capacity cs b → IsSound capacity top b → IsSound capacity top (body_back cs b)
sound_back_all capacity top [] b f s = s
sound_back_all capacity top (c ∷ cs) b f s =
    let low = (sound_back_all capacity top cs b f.0 s).stored in
    (fits_more capacity capacity (body_back cs b).output top c.turn (body_back cs b) (omega arith) low f.1).1

pub sound_forth_all : (capacity top : ℕ) (cs : List Note) (b : Body) → FitsForth capacity top cs b → IsSound capacity top b → IsSound capacity top (body_forth cs b)
sound_forth_all capacity top [] b f s = s
sound_forth_all capacity top (c ∷ cs) b f s = sound_forth_all capacity top cs (body_after c.turn b) f.1 f.0.0.1

-- forward it does not fall
pub shown_forth_all : (capacity top : ℕ) (cs : List Note) (b : Body) → FitsForth capacity top cs b → b.output ≤ (body_forth cs b).output
shown_forth_all capacity top [] b f = omega arith
shown_forth_all capacity top (c ∷ cs) b f =
    let rest = shown_forth_all capacity top cs (body_after c.turn b) f.1 in
    let one = f.0.1 in
    omega arith

-- one change, with the turn that it had, before others
same_cons : (c : Note) (t : Turn) (ns ms : List Note) → t ≡ c.turn → ns ≡ ms → (let n : Note = record { step = c.step; turn = t } in n ∷ ns) ≡ c ∷ ms
same_cons c t ns ms e f = rw (e, f) refl

-- one change back, and forth again
pub back_one : (capacity top : ℕ) (t : Turn) (b : Body) → Fits capacity b.output t b → IsSound capacity top b
    → Fits capacity top (turn_after t b) (body_after t b) × ((body_after t b).output ≤ (body_after (turn_after t b) (body_after t b)).output)
back_one capacity top t b f s =
    let wide = fits_more capacity capacity b.output top t b (omega arith) s.stored f in
    let down = f.1.stored in
    (fits_after capacity top t b wide s, subst (λ (x : Body). (body_after t b).output ≤ x.output) (sym (body_again t b f.0)) down)

pub forth_after_back : (capacity top : ℕ) (cs : List Note) (b : Body) → FitsBack capacity cs b → IsSound capacity top b
    → FitsForth capacity top (notes_back cs b) (body_back cs b)
    × (body_forth (notes_back cs b) (body_back cs b) ≡ b)
    × (notes_forth (notes_back cs b) (body_back cs b) ≡ cs)
forth_after_back capacity top [] b f s = (tt, refl, refl)
forth_after_back capacity top (c ∷ cs) b f s =
    let inner : Body = body_back cs b in
    let sound = sound_back_all capacity top cs b f.0 s in
    let rest = forth_after_back capacity top cs b f.0 s in
    let again : body_after (turn_after c.turn inner) (body_after c.turn inner) ≡ inner = body_again c.turn inner f.1.0 in
    let turn : turn_after (turn_after c.turn inner) (body_after c.turn inner) ≡ c.turn = turn_again c.turn inner f.1.0 in (
      (back_one capacity top c.turn inner f.1 sound, subst (λ (x : Body). FitsForth capacity top (notes_back cs b) x) (sym again) rest.0),
      ap (body_forth (notes_back cs b)) again ∙ rest.1,
      same_cons c (turn_after (turn_after c.turn inner) (body_after c.turn inner)) _ cs turn (ap (notes_forth (notes_back cs b)) again ∙ rest.2),
    )

pub back_after_forth : (capacity top : ℕ) (cs : List Note) (b : Body) → FitsForth capacity top cs b → IsSound capacity top b
    → FitsBack capacity (notes_forth cs b) (body_forth cs b)
    × (body_back (notes_forth cs b) (body_forth cs b) ≡ b)
    × (notes_back (notes_forth cs b) (body_forth cs b) ≡ cs)
back_after_forth capacity top [] b f s = (tt, refl, refl)
back_after_forth capacity top (c ∷ cs) b f s =
    let next : Body = body_after c.turn b in
    let rest = back_after_forth capacity top cs next f.1 f.0.0.1 in
    let again : body_after (turn_after c.turn b) next ≡ b = body_again c.turn b f.0.0.0 in
    let turn : turn_after (turn_after c.turn b) next ≡ c.turn = turn_again c.turn b f.0.0.0 in
    let fits : Fits capacity next.output (turn_after c.turn b) next =
    shown_fits capacity top next.output (turn_after c.turn b) next (fits_after capacity top c.turn b f.0.0 s)
    (subst (λ (x : Body). x.output ≤ next.output) (sym again) f.0.1) in (
      (rest.0, subst (λ (x : Body). Fits capacity x.output (turn_after c.turn b) x) (sym rest.1) fits),
      ap (body_after (turn_after c.turn b)) rest.1 ∙ again,
      same_cons c (turn_after (turn_after c.turn b) (body_back (notes_forth cs next) (body_forth cs next))) _ cs (ap (turn_after (turn_after c.turn b)) rest.1 ∙ turn) rest.2,
    )

-- An entry that was turned back comes forth again.
pub comes_forth_again : BackThenForth
comes_forth_again capacity top cs b fits sound =
    let again = forth_after_back capacity top cs b fits sound in
    record { fits = again.0; body = again.1; notes = again.2; sound = sound_back_all capacity top cs b fits sound; output = shown_back_all capacity cs b fits }

-- and one that was turned forth comes back again
pub comes_back_again : ForthThenBack
comes_back_again capacity top cs b fits sound =
    let again = back_after_forth capacity top cs b fits sound in
    record { fits = again.0; body = again.1; notes = again.2; sound = sound_forth_all capacity top cs b fits sound; output = shown_forth_all capacity top cs b fits }
