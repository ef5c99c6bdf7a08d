-- What apply and revert give back.
use Rattle.std.proofs.Common.{◌≡◌, ℕ, zero, suc, ◌+◌, ◌<◌, ◌≤◌, List, [], ◌∷◌, ◌++◌, length, take, drop, get_or, set, refl, sym, ◌∙◌, ap, subst, arith, append_assoc, length-append, option_to_list, Option, Some, None}
use Rattle.std.specs.Option.{IsSome}
use Rattle.std.proofs.lemmas.Bool.{false≢true}
use Rattle.std.proofs.lemmas.List.{drop_more, take_more, length-take-le, get_or_append_left, get_or_default, get_or-take, length-set, set_at, take_at, take-set, take-take}
use Rattle.teco_undo.specs.Listing.{no_note}
use Rattle.teco_store.specs.State.{Body, Full, IsSound}
use Rattle.teco_store.specs.Turn.{Turn, Note, body_after, turn_after, note_after, Stands, Fits, full_after, IsRevertible, IsApplicable}
use Rattle.teco_undo.specs.Entry.{body_back, notes_back, FitsBack}
use Rattle.teco_undo.proofs.Turns.{fits_after, body_again, turn_again}
use Rattle.teco_undo.proofs.Entries.{fits_more, shown_fits, back_one}

-- what turning a change once gives, to be turned once more
pub record Cancels (f g : Full) (c d : Note) : Type 0 where
  pub editor_again : full_after d.turn g ≡ f
  pub change_again : note_after d g.body ≡ c

cancels : (f : Full) (c : Note) → Stands c.turn f.body → Cancels f (full_after c.turn f) c (note_after c f.body)
cancels f c fits =
    record {
      editor_again = ap (λ (b : Body). let x : Full = record { body = b; stored = f.stored; room = f.room } in x) (body_again c.turn f.body fits);
      change_again = ap (λ (t : Turn). let x : Note = record { step = c.step; turn = t } in x) (turn_again c.turn f.body fits);
    }

pub turn_cancels : (f g : Full) (c d : Note) → Stands c.turn f.body → g ≡ full_after c.turn f → d ≡ note_after c f.body → Cancels f g c d
turn_cancels f g c d fits e h = rw (e, h) (cancels f c fits)

pub revert_fits : (f g : Full) (c d : Note) → IsSound f.room (length f.stored) f.body → IsRevertible c.turn f → g ≡ full_after c.turn f → d ≡ note_after c f.body → IsApplicable d.turn g
revert_fits f g c d sound fits e h = rw (e, h) (back_one f.room (length f.stored) c.turn f.body fits sound)

pub apply_fits : (f g : Full) (c d : Note) → IsSound f.room (length f.stored) f.body → IsApplicable c.turn f → g ≡ full_after c.turn f → d ≡ note_after c f.body → IsRevertible d.turn g
apply_fits f g c d sound fits e h =
    let again : body_after (turn_after c.turn f.body) (body_after c.turn f.body) ≡ f.body = body_again c.turn f.body fits.0.0 in
    rw (e, h) (shown_fits f.room (length f.stored) (body_after c.turn f.body).output (turn_after c.turn f.body) (body_after c.turn f.body)
    (fits_after f.room (length f.stored) c.turn f.body fits.0 sound)
    (subst (λ (x : Body). x.output ≤ (body_after c.turn f.body).output) (sym again) fits.1))

FitsBack-drop : (room i : ℕ) (xs : List Note) (b : Body) → FitsBack room xs b → FitsBack room (drop i xs) b
FitsBack-drop room zero xs b f = f
FitsBack-drop room (suc i) [] b f = tt
FitsBack-drop room (suc i) (x ∷ xs) b f = FitsBack-drop room i xs b f.0

-- one more change taken back: `x` is the one at `i`, and those from `j` on are back
pub record OneBack (xs ys : List Note) (x : Note) (i j : ℕ) (b : Body) : Type 0 where
  pub notes : set ys i (note_after x (body_back (drop j xs) b)) ≡ take i xs ++ notes_back (drop i xs) b
  pub body : body_after x.turn (body_back (drop j xs) b) ≡ body_back (drop i xs) b
  pub fits : (room : ℕ) → FitsBack room xs b → Fits room (body_back (drop j xs) b).output x.turn (body_back (drop j xs) b)

-- the change at `i` is still as it was
pub read_before : (xs ys : List Note) (x : Note) (i j : ℕ) (b : Body) → j ≡ i + 1 → i < length xs → ys ≡ take j xs ++ notes_back (drop j xs) b → x ≡ get_or ys i x → x ≡ get_or xs i x
read_before xs ys x i j b n lt e is =
    let size : length (take j xs) ≡ j = length-take-le j xs (omega arith) in
    is ∙ ap (λ (zs : List Note). get_or zs i x) e ∙ get_or_append_left (take j xs) (notes_back (drop j xs) b) x i (omega arith) ∙ get_or-take j xs i x (omega arith)

pub one_back : (xs ys : List Note) (x : Note) (i j : ℕ) (b : Body) → j ≡ i + 1 → i < length xs → ys ≡ take j xs ++ notes_back (drop j xs) b → x ≡ get_or ys i x → OneBack xs ys x i j b
one_back xs ys x i j b n lt e is =
    let short : length (take i xs) ≡ i = length-take-le i xs (omega arith) in
    let read : x ≡ get_or xs i x = read_before xs ys x i j b n lt e is in
    let taken : take j xs ≡ take i xs ++ x ∷ [] = ap (λ k. take k xs) n ∙ take_more xs i x lt ∙ ap (λ y. take i xs ++ y ∷ []) (sym read) in
    let rest : drop i xs ≡ x ∷ drop j xs = drop_more xs i x lt ∙ ap (λ y. y ∷ drop (i + 1) xs) (sym read) ∙ ap (λ k. x ∷ drop k xs) (sym n) in
    let whole : ys ≡ take i xs ++ x ∷ notes_back (drop j xs) b = e ∙ ap (λ zs. zs ++ notes_back (drop j xs) b) taken ∙ append_assoc (take i xs) (x ∷ []) (notes_back (drop j xs) b) in
    let after : Note = note_after x (body_back (drop j xs) b) in
    record {
      notes = ap (λ zs. set zs i after) whole ∙ set_at (take i xs) x (notes_back (drop j xs) b) after i short ∙ ap (λ zs. take i xs ++ notes_back zs b) (sym rest);
      body = ap (λ zs. body_back zs b) (sym rest);
      fits = λ room f. (let h : FitsBack room (x ∷ drop j xs) b = subst (λ (zs : List Note). FitsBack room zs b) rest (FitsBack-drop room i xs b f) in h.1);
    }

-- The same of lists that are read at places, where the changes from `j` on are back.
pub within_back : (xs ys : List Note) (i j : ℕ) (b : Body) → j ≡ i + 1 → i < length xs → ys ≡ take j xs ++ notes_back (drop j xs) b → i < length ys
within_back xs ys i j b n lt e =
    let size : length (take j xs) ≡ j = length-take-le j xs (omega arith) in
    let whole : length ys ≡ length (take j xs) + length (notes_back (drop j xs) b) =
    ap (λ (zs : List Note). length zs) e ∙ length-append (take j xs) (notes_back (drop j xs) b) in
    omega arith

pub one_back_at : (xs ys : List Note) (i j : ℕ) (b : Body) → j ≡ i + 1 → i < length xs → ys ≡ take j xs ++ notes_back (drop j xs) b → OneBack xs ys (get_or ys i no_note) i j b
one_back_at xs ys i j b n lt e =
    one_back xs ys (get_or ys i no_note) i j b n lt e (get_or_default ys i no_note (get_or ys i no_note) (within_back xs ys i j b n lt e))

-- and where they are gone
pub within_taken : (xs ys : List Note) (i j : ℕ) → j ≡ i + 1 → i < length xs → ys ≡ take j xs → i < length ys
within_taken xs ys i j n lt e =
    let size : length (take j xs) ≡ j = length-take-le j xs (omega arith) in
    let whole : length ys ≡ length (take j xs) = ap (λ (zs : List Note). length zs) e in
    omega arith

pub read_taken : (xs ys : List Note) (i j : ℕ) → j ≡ i + 1 → i < length xs → ys ≡ take j xs → get_or ys i no_note ≡ get_or xs i no_note
read_taken xs ys i j n lt e = ap (λ (zs : List Note). get_or zs i no_note) e ∙ get_or-take j xs i no_note (omega arith)

pub one_back_taken : (xs ys : List Note) (i j : ℕ) (b : Body) → j ≡ i + 1 → i < length xs → ys ≡ take j xs
    → OneBack xs (take j xs ++ notes_back (drop j xs) b) (get_or ys i no_note) i j b
one_back_taken xs ys i j b n lt e =
    let zs : List Note = take j xs ++ notes_back (drop j xs) b in
    let size : length (take j xs) ≡ j = length-take-le j xs (omega arith) in
    let same : get_or ys i no_note ≡ get_or zs i no_note =
    ap (λ (us : List Note). get_or us i no_note) e ∙ sym (get_or_append_left (take j xs) (notes_back (drop j xs) b) no_note i (omega arith)) in
    let is : get_or ys i no_note ≡ get_or zs i (get_or ys i no_note) = same ∙ get_or_default zs i no_note (get_or ys i no_note) (within_back xs zs i j b n lt refl) in
    one_back xs zs (get_or ys i no_note) i j b n lt refl is

-- The last change is turned, and goes.
pub popped : (xs ys zs us : List Note) (r : Option Note) (x : Note) (i j : ℕ) → j ≡ i + 1 → i < length xs → ys ≡ take j xs → zs ≡ set ys i x
    → zs ≡ us ++ option_to_list r → (0 < length zs → IsSome r) → us ≡ take i xs
popped xs ys zs us None x i j n lt e put pops some =
    let size : length zs ≡ length ys = ap (λ (vs : List Note). length vs) put ∙ length-set ys i x in
    let within = within_taken xs ys i j n lt e in
    absurd (false≢true (some (omega arith)))
popped xs ys zs us (Some y) x i j n lt e put pops some =
    let size : length zs ≡ length (take j xs) = ap (λ (vs : List Note). length vs) put ∙ length-set ys i x ∙ ap (λ (vs : List Note). length vs) e in
    let short : length (take j xs) ≡ j = length-take-le j xs (omega arith) in
    let more : length zs ≡ length us + 1 = ap (λ (vs : List Note). length vs) pops ∙ length-append us (y ∷ []) in
    sym (take_at us (y ∷ []) i (omega arith)) ∙ ap (take i) (sym pops) ∙ ap (take i) put ∙ take-set ys i x ∙ ap (take i) e ∙ take-take i j xs (omega arith)

-- A change that can be turned back fits within the stored output.
pub turns_fit : (e f : Full) (b : Body) (t : Turn) → e ≡ record { body = b; stored = f.stored; room = f.room } → IsSound e.room (length e.stored) e.body
    → Fits f.room b.output t b → Fits e.room (length e.stored) t e.body
turns_fit e f b t is sound fits =
    let within : b.output ≤ length f.stored = subst (λ (g : Full). g.body.output ≤ length g.stored) is sound.stored in
    subst (λ (g : Full). Fits g.room (length g.stored) t g.body) (sym is) (fits_more f.room f.room b.output (length f.stored) t b (omega arith) within fits)
