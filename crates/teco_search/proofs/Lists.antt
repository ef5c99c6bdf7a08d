-- The items of a list, read one after the other.
use Rattle.std.proofs.Common.{◌≡◌, ◌≢◌, ℕ, zero, suc, ◌+◌, ◌<◌, ◌≤◌, List, [], ◌∷◌, ◌++◌, length, Result, Ok, Err, refl, sym, ap, ◌∙◌, arith}
use Rattle.std.proofs.lemmas.List.{append_assoc, append-nil}
use Rattle.std.proofs.lemmas.Bool.{ne_eqb, lt-leb, le-leb}
use Rattle.teco_core.specs.Refusal.{◌>>=◌}
use Rattle.teco_core.specs.declared.code.Code.{Code}
use Rattle.teco_core.specs.declared.code.Code.TheVariants.{Ice}
use Rattle.teco_search.specs.declared.element.SetItem.{SetItem}
use Rattle.teco_search.specs.declared.element.Element.{Element}
use Rattle.teco_search.specs.Reading.{Reading, byte_at, listed_at, items_at, after_item, element_at, elements_at, read}

-- some items, and then those that are read
abbrev pub with_front : List SetItem → Reading (List SetItem) → Reading (List SetItem)
with_front is (Ok x) = Ok (is ++ x.0, x.1)
with_front is (Err e) = Err e

-- Of the list that begins at a start these items are read so far, and the others come at a place.
pub record ItemsSoFar (text : List ℕ) (start : ℕ) (is : List SetItem) (at : ℕ) : Type 0 where
  pub left : ℕ
  pub room : length text ≤ at + left
  pub same : items_at (length text) text start ≡ with_front is (items_at left text at)

with_none : (r : Reading (List SetItem)) → r ≡ with_front [] r
with_none (Ok x) = refl
with_none (Err e) = refl

pub items_begin : (text : List ℕ) (start : ℕ) → ItemsSoFar text start [] start
items_begin text start = record { left = length text; room = omega arith; same = with_none (items_at (length text) text start) }

step_refused : (n : ℕ) (text : List ℕ) (at : ℕ) → listed_at text at ≡ Err Ice → items_at n text at ≡ Err Ice
unfolding items_at
step_refused zero text at e = refl
step_refused (suc n) text at e = rw e

step_cut : (n : ℕ) (text : List ℕ) (at : ℕ) (i : SetItem) (after : ℕ) → listed_at text at ≡ Ok (i, after) → byte_at text after ≡ Err Ice → items_at n text at ≡ Err Ice
unfolding items_at
step_cut zero text at i after e f = refl
step_cut (suc n) text at i after e f = rw (e, f)

pub step_read : (n : ℕ) (text : List ℕ) (at : ℕ) (i : SetItem) (after b : ℕ) → listed_at text at ≡ Ok (i, after) → byte_at text after ≡ Ok b → items_at (suc n) text at ≡ after_item b i (items_at n text (after + 1)) (after + 1)
unfolding items_at
step_read n text at i after b e f = rw (e, f)

step_other : (n : ℕ) (text : List ℕ) (at : ℕ) (i : SetItem) (after b : ℕ) → listed_at text at ≡ Ok (i, after) → byte_at text after ≡ Ok b → b ≢ 93 → b ≢ 44 → items_at n text at ≡ Err Ice
unfolding items_at
step_other zero text at i after b e f no_end no_comma = refl
step_other (suc n) text at i after b e f no_end no_comma = rw (e, f, ne_eqb b 93 no_end, ne_eqb b 44 no_comma)

module _ (text : List ℕ) (start : ℕ) (is : List SetItem) (at : ℕ) (so_far : ItemsSoFar text start is at) where
  pub items_refused : listed_at text at ≡ Err Ice → items_at (length text) text start ≡ Err Ice
  items_refused e = so_far.same ∙ ap (with_front is) (step_refused so_far.left text at e)

  pub items_cut : (i : SetItem) (after : ℕ) → listed_at text at ≡ Ok (i, after) → byte_at text after ≡ Err Ice → items_at (length text) text start ≡ Err Ice
  items_cut i after e f = so_far.same ∙ ap (with_front is) (step_cut so_far.left text at i after e f)

  pub items_other : (i : SetItem) (after b : ℕ) → listed_at text at ≡ Ok (i, after) → byte_at text after ≡ Ok b → b ≢ 93 → b ≢ 44 → items_at (length text) text start ≡ Err Ice
  items_other i after b e f no_end no_comma = so_far.same ∙ ap (with_front is) (step_other so_far.left text at i after b e f no_end no_comma)

with_last : (is : List SetItem) (i : SetItem) (r : Reading (List SetItem)) → with_front is (with_front (i ∷ []) r) ≡ with_front (is ++ i ∷ []) r
with_last is i (Ok x) = ap (λ js. let whole : Reading (List SetItem) = Ok (js, x.1) in whole) (sym (append_assoc is (i ∷ []) x.0))
with_last is i (Err e) = refl

comma_step : (i : SetItem) (r : Reading (List SetItem)) (at : ℕ) → after_item 44 i r at ≡ with_front (i ∷ []) r
comma_step i (Ok x) at = refl
comma_step i (Err e) at = refl

pub items_done :
    (text : List ℕ) (start : ℕ) (is : List SetItem) (at : ℕ) (so_far : ItemsSoFar text start is at) (i : SetItem) (after : ℕ)
    → listed_at text at ≡ Ok (i, after) → at < after → after ≤ length text → byte_at text after ≡ Ok 93
    → items_at (length text) text start ≡ Ok (is ++ i ∷ [], after + 1)
items_done text start is at so_far i after e past within f = so_far.same ∙ by so_far.left so_far.room
  where
    by : (n : ℕ) → length text ≤ at + n → with_front is (items_at n text at) ≡ Ok (is ++ i ∷ [], after + 1)
    by zero room = absurd (omega arith)
    by (suc n) room = ap (with_front is) (step_read n text at i after 93 e f)

pub items_more :
    (text : List ℕ) (start : ℕ) (is : List SetItem) (at : ℕ) (so_far : ItemsSoFar text start is at) (i : SetItem) (after : ℕ)
    → listed_at text at ≡ Ok (i, after) → at < after → after ≤ length text → byte_at text after ≡ Ok 44
    → ItemsSoFar text start (is ++ i ∷ []) (after + 1)
items_more text start is at so_far i after e past within f = by so_far.left so_far.room so_far.same
  where
    by : (n : ℕ) → length text ≤ at + n → items_at (length text) text start ≡ with_front is (items_at n text at) → ItemsSoFar text start (is ++ i ∷ []) (after + 1)
    by zero room same = absurd (omega arith)
    by (suc n) room same = record {
      left = n;
      room = omega arith;
      same = same ∙ ap (with_front is) (step_read n text at i after 44 e f ∙ comma_step i (items_at n text (after + 1)) (after + 1)) ∙ with_last is i (items_at n text (after + 1));
    }

-- some elements, and then those that are read
abbrev pub with_elements : List Element → Result (List Element) Code → Result (List Element) Code
with_elements es (Ok x) = Ok (es ++ x)
with_elements es (Err e) = Err e

-- Of a search text these elements are read so far, and the others come at a place.
pub record ElementsSoFar (text : List ℕ) (es : List Element) (at : ℕ) : Type 0 where
  pub left : ℕ
  pub room : length text ≤ at + left
  pub same : read text ≡ with_elements es (elements_at left text at)

elements_none : (r : Result (List Element) Code) → r ≡ with_elements [] r
elements_none (Ok x) = refl
elements_none (Err e) = refl

pub elements_begin : (text : List ℕ) → ElementsSoFar text [] 0
unfolding read
elements_begin text = record { left = length text; room = omega arith; same = elements_none (elements_at (length text) text 0) }

elements_last : (es : List Element) (e : Element) (r : Result (List Element) Code) → with_elements es (with_elements (e ∷ []) r) ≡ with_elements (es ++ e ∷ []) r
elements_last es e (Ok x) = ap (λ js. let whole : Result (List Element) Code = Ok js in whole) (sym (append_assoc es (e ∷ []) x))
elements_last es e (Err c) = refl

pub element_step : (n : ℕ) (text : List ℕ) (at : ℕ) (e : Element) (after : ℕ) → at < length text → element_at text at ≡ Ok (e, after) → elements_at (suc n) text at ≡ with_elements (e ∷ []) (elements_at n text after)
unfolding elements_at
element_step n text at e after inside is = rw (lt-leb (length text) at inside, is) (by (elements_at n text after))
  where
    by : (r : Result (List Element) Code) → (do
      es ← r
      Ok (e ∷ es)) ≡ with_elements (e ∷ []) r
    by (Ok x) = refl
    by (Err c) = refl

pub elements_end : (n : ℕ) (text : List ℕ) (at : ℕ) → length text ≤ at → elements_at n text at ≡ Ok []
unfolding elements_at
elements_end zero text at past = refl
elements_end (suc n) text at past = rw (le-leb (length text) at past)

elements_stop : (n : ℕ) (text : List ℕ) (at : ℕ) → at < length text → length text ≤ at + n → element_at text at ≡ Err Ice → elements_at n text at ≡ Err Ice
unfolding elements_at
elements_stop zero text at inside room e = absurd (omega arith)
elements_stop (suc n) text at inside room e = rw (lt-leb (length text) at inside, e)

module _ (text : List ℕ) (es : List Element) (at : ℕ) (so_far : ElementsSoFar text es at) where
  pub elements_done : length text ≤ at → read text ≡ Ok es
  elements_done past = so_far.same ∙ ap (with_elements es) (elements_end so_far.left text at past) ∙ ap (λ js. let whole : Result (List Element) Code = Ok js in whole) (append-nil es)

  pub elements_refused : at < length text → element_at text at ≡ Err Ice → read text ≡ Err Ice
  elements_refused inside e = so_far.same ∙ ap (with_elements es) (elements_stop so_far.left text at inside so_far.room e)

  pub elements_more : (e : Element) (after : ℕ) → at < length text → element_at text at ≡ Ok (e, after) → at < after → ElementsSoFar text (es ++ e ∷ []) after
  elements_more e after inside is past = by so_far.left so_far.room so_far.same
    where
      by : (n : ℕ) → length text ≤ at + n → read text ≡ with_elements es (elements_at n text at) → ElementsSoFar text (es ++ e ∷ []) after
      by zero room same = absurd (omega arith)
      by (suc n) room same = record {
        left = n;
        room = omega arith;
        same = same ∙ ap (with_elements es) (element_step n text at e after inside is) ∙ elements_last es e (elements_at n text after);
      }
