-- Parts of the input that a text is, and that are lent to it.
use Rattle.std.proofs.Common.{◌≡◌, ◌∙◌, ℕ, ◌+◌, ◌≤◌, List, ◌++◌, length, take, drop, ap, refl, sym, subst, arith, append_assoc, length-append, length-drop}
use Rattle.std.proofs.lemmas.List.{take-append-drop, drop-append-le, take_all, take_at}
use Rattle.teco_store.proofs.Loans.{length-lent, lent_within}
use Rattle.teco_store.specs.Page.{page, form_feed_if, IsAsRead}
use Rattle.teco_store.specs.PageSpan.{IsPageSpan}
use Rattle.teco_store.specs.State.{Body}
use Rattle.teco_store.specs.Turn.{lent, IsLent}
use Rattle.teco_store.specs.declared.pages.PageSpan.{PageSpan}

-- such a text is all of itself
pub lent_text : (text input : List ℕ) (from count : ℕ) → text ≡ lent input from count → lent input from count ≡ take count text
lent_text text input from count is = sym is ∙ sym (take_all count text (omega (arith, ap length is, length-lent input from count)))

-- a text that stands in what was read
pub read_is_lent : (input read text flag : List ℕ) (place at : ℕ) → read ≡ take place input → (at ≤ length read) × (drop at read ≡ text ++ flag) → IsLent text input at (length text)
read_is_lent input read text flag place at front h =
    let rest : List ℕ = drop place input in
    let whole : read ++ rest ≡ input = ap (λ (l : List ℕ). l ++ rest) front ∙ take-append-drop place input in
    let after : drop at input ≡ text ++ (flag ++ rest) =
    ap (drop at) (sym whole) ∙ drop-append-le at read rest h.0 ∙ ap (λ (l : List ℕ). l ++ rest) h.1 ∙ append_assoc text flag rest in
    let within : at + length text ≤ length input =
    omega (arith, ap length after, length-drop at input, length-append text (flag ++ rest), ap length whole, length-append read rest, h.0) in
    (within, sym (lent_within input at (length text) within ∙ ap (take (length text)) after ∙ take_at text (flag ++ rest) (length text) refl))

-- the page in the buffer, where it stands as it was read
pub as_read_is_lent : (b : Body) (from : ℕ) → IsAsRead b from → IsLent b.text b.input from (length b.text)
as_read_is_lent b from h = read_is_lent b.input (take b.place b.input) b.text (form_feed_if b.form_feed) b.place from refl h

-- the bytes of the input that a span names
pub span_is_lent : (b : Body) (from : ℕ) (span : PageSpan) → from ≡ b.place → IsPageSpan span b → lent b.input from span.len ≡ page b
span_is_lent b from span here is = ap (λ (k : ℕ). lent b.input k span.len) here ∙ is.read

-- The input holds a whole page.
pub held_is_lent : (b : Body) (from there : ℕ) → there ≡ length b.text → IsAsRead b from → IsLent b.text b.input from there
held_is_lent b from there is h = subst (λ (n : ℕ). IsLent b.text b.input from n) (sym is) (as_read_is_lent b from h)
