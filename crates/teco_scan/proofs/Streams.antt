-- Lemmas on the cut of a stream.
use Rattle.std.proofs.Common.{◌≡◌, ℕ, List, [], ◌∷◌, ◌++◌, true, false, ◌&&◌, ◌==◌, refl, sym, ap, ◌∙◌, append-nil, append_assoc, inl, inr, map, length, take, drop, get_or, take-append-drop, ◌+◌, ◌<◌, arith, length-append, ◌-◌, not, ◌||◌, Option, Some, None, subst, is_some}
use Rattle.std.specs.List.{AllByRecursion, list_any}
use Rattle.std.proofs.lemmas.Bool.{and_parts, cases_Bool}
use Rattle.std.proofs.lemmas.List.{drop_more, drop-drop, take_rest}
use Rattle.teco_core.specs.declared.ascii.TheConstants.{ESC}
use Rattle.teco_scan.specs.declared.stream.HistoryMove.{HistoryMove}
use Rattle.teco_scan.specs.declared.stream.HistoryMove.TheVariants as moves
use Rattle.teco_scan.specs.Stream.{asks_by, asks_history, asks_of, ends_in_escape, is_run, move_asked, requests, rest_from, rest_of, texts_from, texts_of, IsText}

pub ends-more : (xs : List ℕ) (b : ℕ) → ends_in_escape (xs ++ b ∷ []) ≡ (b == ESC)
ends-more [] b = refl
ends-more (x ∷ []) b = refl
ends-more (x ∷ y ∷ xs) b = ends-more (y ∷ xs) b

-- the steps of the cut
texts_from-pair : (held : List ℕ) (b : ℕ) (bs : List ℕ) → (b == ESC && ends_in_escape held) ≡ true → texts_from held (b ∷ bs) ≡ held ∷ texts_from [] bs
texts_from-pair held b bs e = rw e refl

texts_from-on : (held : List ℕ) (b : ℕ) (bs : List ℕ) → (b == ESC && ends_in_escape held) ≡ false → texts_from held (b ∷ bs) ≡ texts_from (held ++ b ∷ []) bs
texts_from-on held b bs e = rw e refl

-- each text ends in an ESC
pub texts_end : (held bs : List ℕ) → AllByRecursion (λ text. ends_in_escape text ≡ true) (texts_from held bs)
texts_end held [] = tt
texts_end held (b ∷ bs) = elim (cases_Bool (b == ESC && ends_in_escape held)) [
  | inl t ↦
      subst (λ (texts : List (List ℕ)). AllByRecursion (λ text. ends_in_escape text ≡ true) texts) (sym (texts_from-pair held b bs t))
      ((and_parts (b == ESC) (ends_in_escape held) t).1, texts_end [] bs)
  | inr f ↦
      subst (λ (texts : List (List ℕ)). AllByRecursion (λ text. ends_in_escape text ≡ true) texts) (sym (texts_from-on held b bs f))
      (texts_end (held ++ b ∷ []) bs)
]

-- bytes with no pair are held
pub texts_from-held : (held us more : List ℕ) → texts_from held us ≡ [] → texts_from held (us ++ more) ≡ texts_from (held ++ us) more
texts_from-held held [] more e = ap (λ l. texts_from l more) (sym (append-nil held))
texts_from-held held (u ∷ us) more e = elim (cases_Bool (u == ESC && ends_in_escape held)) [
  | inl t ↦ let bad : held ∷ texts_from [] us ≡ [] = sym (texts_from-pair held u us t) ∙ e in cc
  | inr f ↦
      let rest : texts_from (held ++ u ∷ []) us ≡ [] = sym (texts_from-on held u us f) ∙ e in
      texts_from-on held u (us ++ more) f ∙ texts_from-held (held ++ u ∷ []) us more rest ∙ ap (λ l. texts_from l more) (append_assoc held (u ∷ []) us)
]

-- one byte more, with no pair before it
pub texts_of-more : (xs : List ℕ) (b : ℕ) → texts_of xs ≡ [] → (b == ESC && ends_in_escape xs) ≡ false → texts_of (xs ++ b ∷ []) ≡ []
texts_of-more xs b e f = texts_from-held [] xs (b ∷ []) e ∙ texts_from-on xs b [] f

-- a text and the ESC after it, however the stream goes on
pub texts_of-text : (text more : List ℕ) → IsText text → texts_of (text ++ ESC ∷ more) ≡ text ∷ texts_of more
texts_of-text text more t = texts_from-held [] text (ESC ∷ more) t.no_pair ∙ texts_from-pair text ESC more t.ends

pub requests-text : (text rest more : List ℕ) → IsText text → requests ((text ++ ESC ∷ rest) ++ more) ≡ asks_of text ∷ requests (rest ++ more)
requests-text text rest more t = ap requests (append_assoc text (ESC ∷ rest) more) ∙ ap (map asks_of) (texts_of-text text (rest ++ more) t)

-- what stands before and after the second ESC of the leftmost pair
pub cut_parts : (bs : List ℕ) (at : ℕ) → at < length bs → get_or bs at 0 ≡ ESC → bs ≡ take at bs ++ ESC ∷ drop (at + 1) bs
cut_parts bs at l e =
    sym (take-append-drop at bs) ∙ ap (λ l. take at bs ++ l) (drop_more bs at 0 l ∙ ap (λ b. b ∷ drop (at + 1) bs) e)

-- the same at the place of the second ESC of the leftmost pair
pub requests-cut : (bs : List ℕ) (at : ℕ) (more : List ℕ) → at < length bs → get_or bs at 0 ≡ ESC → IsText (take at bs)
    → requests (bs ++ more) ≡ asks_of (take at bs) ∷ requests (drop (at + 1) bs ++ more)
requests-cut bs at more l e t = ap (λ l. requests (l ++ more)) (cut_parts bs at l e) ∙ requests-text (take at bs) (drop (at + 1) bs) more t

-- what stands after a text and an ESC is shorter than the whole
pub shorter : {bytes : List ℕ} (text rest : List ℕ) → bytes ≡ text ++ ESC ∷ rest → length rest < length bytes
shorter text rest e = let n = ap length e ∙ length-append text (ESC ∷ rest) in omega arith

-- the same cut, of the texts alone
pub texts_of-cut : (bs : List ℕ) (at : ℕ) → at < length bs → get_or bs at 0 ≡ ESC → IsText (take at bs)
    → texts_of bs ≡ take at bs ∷ texts_of (drop (at + 1) bs)
texts_of-cut bs at l e t = ap texts_of (cut_parts bs at l e) ∙ texts_of-text (take at bs) (drop (at + 1) bs) t

-- the steps of what comes after the last pair
rest_from-pair : (held : List ℕ) (b : ℕ) (bs : List ℕ) → (b == ESC && ends_in_escape held) ≡ true → rest_from held (b ∷ bs) ≡ rest_from [] bs
rest_from-pair held b bs e = rw e refl

rest_from-on : (held : List ℕ) (b : ℕ) (bs : List ℕ) → (b == ESC && ends_in_escape held) ≡ false → rest_from held (b ∷ bs) ≡ rest_from (held ++ b ∷ []) bs
rest_from-on held b bs e = rw e refl

-- bytes with no pair are held
rest_from-held : (held us more : List ℕ) → texts_from held us ≡ [] → rest_from held (us ++ more) ≡ rest_from (held ++ us) more
rest_from-held held [] more e = ap (λ l. rest_from l more) (sym (append-nil held))
rest_from-held held (u ∷ us) more e = elim (cases_Bool (u == ESC && ends_in_escape held)) [
  | inl t ↦ let bad : held ∷ texts_from [] us ≡ [] = sym (texts_from-pair held u us t) ∙ e in cc
  | inr f ↦
      let rest : texts_from (held ++ u ∷ []) us ≡ [] = sym (texts_from-on held u us f) ∙ e in
      rest_from-on held u (us ++ more) f ∙ rest_from-held (held ++ u ∷ []) us more rest ∙ ap (λ l. rest_from l more) (append_assoc held (u ∷ []) us)
]

-- where there is no pair, all comes after the last one
pub rest_of-all : (bs : List ℕ) → texts_of bs ≡ [] → rest_of bs ≡ bs
rest_of-all bs e = ap rest_of (sym (append-nil bs)) ∙ rest_from-held [] bs [] e

rest_of-text : (text more : List ℕ) → IsText text → rest_of (text ++ ESC ∷ more) ≡ rest_of more
rest_of-text text more t = rest_from-held [] text (ESC ∷ more) t.no_pair ∙ rest_from-pair text ESC more t.ends

-- what comes after the last pair, behind the leftmost one
pub rest_of-cut : (bs : List ℕ) (at : ℕ) → at < length bs → get_or bs at 0 ≡ ESC → IsText (take at bs) → rest_of bs ≡ rest_of (drop (at + 1) bs)
rest_of-cut bs at l e t = ap rest_of (cut_parts bs at l e) ∙ rest_of-text (take at bs) (drop (at + 1) bs) t

-- whether a text asks a move
pub not-is_run : (text : List ℕ) (move : Option HistoryMove) → not (is_run (asks_by text move)) ≡ is_some move
not-is_run text None = refl
not-is_run text (Some (moves.Undo n)) = refl
not-is_run text (Some (moves.Redo n)) = refl
not-is_run text (Some (moves.Rewind n)) = refl

-- the second ESC of the leftmost pair is at this place
abbrev pub EndsAt : ℕ → List ℕ → Type 0
EndsAt at bs = (at < length bs) × (get_or bs at 0 ≡ ESC) × IsText (take at bs)

-- whether a stream asks a move: its first text does, or the stream after it
asks_history-cut : (bs : List ℕ) (at : ℕ) → EndsAt at bs → asks_history bs ≡ (is_some (move_asked (take at bs)) || asks_history (drop (at + 1) bs))
asks_history-cut bs at e =
    ap (λ texts. list_any (λ asks. not (is_run asks)) (map asks_of texts)) (texts_of-cut bs at e.0 e.1 e.2)
    ∙ ap (λ move. move || asks_history (drop (at + 1) bs)) (not-is_run (take at bs) (move_asked (take at bs)))

-- the same of the stream from a place on
pub asks_history-from : (bs : List ℕ) (start at : ℕ) → EndsAt at (take (length bs - start) (drop start bs))
    → asks_history (drop start bs) ≡ (is_some (move_asked (take (start + at - start) (drop start bs))) || asks_history (drop (start + (at + 1)) bs))
asks_history-from bs start at e =
    let found : EndsAt at (drop start bs) = subst (EndsAt at) (take_rest bs start) e in
    let n : start + at - start ≡ at = omega arith in
    asks_history-cut (drop start bs) at found
    ∙ ap (λ k. is_some (move_asked (take k (drop start bs))) || asks_history (drop (at + 1) (drop start bs))) (sym n)
    ∙ ap (λ rest. is_some (move_asked (take (start + at - start) (drop start bs))) || asks_history rest) (drop-drop (at + 1) start bs)

-- and with no pair it asks nothing
pub asks_history-none : (bs : List ℕ) → texts_of bs ≡ [] → asks_history bs ≡ false
asks_history-none bs e = ap (λ texts. list_any (λ asks. not (is_run asks)) (map asks_of texts)) e
