-- What is found, and where, determines each place of the token.
use Rattle.std.proofs.Common.{◌≡◌, ℕ, ◌+◌, ◌-◌, ◌≤◌, List, length, drop, refl, sym, ap, ◌∙◌, arith, length-drop}
use Rattle.std.proofs.lemmas.List.{length-take-le}
use Rattle.teco_scan.specs.declared.token.Span.{Span}
use Rattle.teco_scan.specs.declared.token.Token.{Token}
use Rattle.teco_scan.specs.declared.token.Item.TheVariants as items
use Rattle.teco_scan.specs.declared.token.TokenKind.{TokenKind}
use Rattle.teco_scan.specs.declared.token.TokenKind.TheVariants as kinds
use Rattle.teco_scan.specs.declared.token.Found.{Found}
use Rattle.teco_scan.specs.declared.token.Found.TheVariants as finds
use Rattle.teco_scan.specs.Scan.{digits, bare, register, byte, text, set_text, replace, Instruction, step, mark, decide, tag, escape, TokenMeaning}
use Rattle.teco_scan.specs.Seen.{bytes_in, instruction_in, meaning_in, found_in, IsSpanIn, IsKindIn, IsKindPlaced, IsTokenAt, IsFoundAt}

-- a text of so many bytes, of which this is the last place
abbrev before : ℕ → ℕ → Span
before end n = record { from = end - 1 - n; to = end - 1 }

-- a token's kind by its span and what it instructs
abbrev kind_of : Span → Instruction → TokenKind
kind_of whole (step (digits b)) = kinds.Item (items.Digits whole)
kind_of whole (step (bare c)) = kinds.Item (items.Bare c)
kind_of whole (step (register c q)) = kinds.Item (items.Register c q)
kind_of whole (step (byte b)) = kinds.Item (items.Byte b)
kind_of whole (step (text c b)) = kinds.Item (items.Text c (before whole.to (length b)))
kind_of whole (step (set_text q b)) = kinds.Item (items.SetText q (before whole.to (length b)))
kind_of whole (step (replace a b)) = let s : Span = before whole.to (length b) in kinds.Item (items.Replace (before s.from (length a)) s)
kind_of whole (mark c) = kinds.Mark c
kind_of whole (decide t) = kinds.Test t
kind_of whole (tag b) = kinds.Tag (before whole.to (length b))
kind_of whole escape = kinds.Escape

span_long : (bs : List ℕ) (s : Span) → IsSpanIn (length bs) s → length (bytes_in bs s) ≡ s.to - s.from
span_long bs s h = length-take-le (s.to - s.from) (drop s.from bs) (omega (arith, h.ordered, h.inside, length-drop s.from bs))

before_is : (bs : List ℕ) (s : Span) (end : ℕ) → IsSpanIn (length bs) s → s.to + 1 ≡ end → s ≡ before end (length (bytes_in bs s))
before_is bs s end h e =
    let from : s.from ≡ end - 1 - length (bytes_in bs s) = omega (arith, span_long bs s h, h.ordered) in
    let to : s.to ≡ end - 1 = omega arith in
    λ i. record { from = from i; to = to i }

kind_is : (bs : List ℕ) (whole : Span) (k : TokenKind) → IsKindIn (length bs) k → IsKindPlaced whole k → k ≡ kind_of whole (instruction_in bs k)
kind_is bs whole (kinds.Item (items.Digits s)) h e = ap (λ s. kinds.Item (items.Digits s)) e
kind_is bs whole (kinds.Item (items.Bare c)) h e = refl
kind_is bs whole (kinds.Item (items.Register c q)) h e = refl
kind_is bs whole (kinds.Item (items.Byte b)) h e = refl
kind_is bs whole (kinds.Item (items.Text c s)) h e = ap (λ s. kinds.Item (items.Text c s)) (before_is bs s whole.to h e)
kind_is bs whole (kinds.Item (items.SetText q s)) h e = ap (λ s. kinds.Item (items.SetText q s)) (before_is bs s whole.to h e)
kind_is bs whole (kinds.Item (items.Replace s t)) h e =
    let second = before_is bs t whole.to h.1 e.1 in
    ap (λ r. kinds.Item (items.Replace r t)) (before_is bs s t.from h.0 e.0)
    ∙ ap (λ (r : Span). kinds.Item (items.Replace (before r.from (length (bytes_in bs s))) r)) second
kind_is bs whole (kinds.Mark c) h e = refl
kind_is bs whole (kinds.Test t) h e = refl
kind_is bs whole (kinds.Tag s) h e = ap kinds.Tag (before_is bs s whole.to h e)
kind_is bs whole kinds.Escape h e = refl

same_place : (bs : List ℕ) (n m : ℕ) → n ≤ length bs → m ≤ length bs → drop n bs ≡ drop m bs → n ≡ m
same_place bs n m le me e = omega (arith, ap length e, length-drop n bs, length-drop m bs)

-- the token by what it instructs and its span
token_is : (bs : List ℕ) (at : ℕ) (t : Token) → IsTokenAt bs at t → t ≡ record { span = t.span; modifiers = t.modifiers; kind = kind_of t.span (instruction_in bs t.kind) }
token_is bs at t h = let kind = kind_is bs t.span t.kind h.spans h.placed in λ i. record t { kind = kind i }

tokens_same : (bs : List ℕ) (at : ℕ) (t u : Token) → IsTokenAt bs at t → IsTokenAt bs at u → meaning_in bs t ≡ meaning_in bs u → drop t.span.to bs ≡ drop u.span.to bs → t ≡ u
tokens_same bs at t u h k same rest =
    let from : t.span.from ≡ u.span.from = same_place bs t.span.from u.span.from (omega (arith, h.long, h.inside)) (omega (arith, k.long, k.inside)) (h.begins ∙ sym k.begins) in
    let to : t.span.to ≡ u.span.to = same_place bs t.span.to u.span.to h.inside k.inside rest in
    let span : t.span ≡ u.span = λ i. record { from = from i; to = to i } in
    let made : Span → TokenMeaning → Token = λ s o. record { span = s; modifiers = o.modifiers; kind = kind_of s o.instruction } in
    token_is bs at t h ∙ ap (λ s. made s (meaning_in bs t)) span ∙ ap (made u.span) same ∙ sym (token_is bs at u k)

pub determined : (bs : List ℕ) (at : ℕ) (f g : Found) → IsFoundAt bs at f → IsFoundAt bs at g → found_in bs f ≡ found_in bs g → f ≡ g
determined bs at (finds.Token t) (finds.Token u) h k e =
    let order : meaning_in bs t ≡ meaning_in bs u = cc in
    let rest : drop t.span.to bs ≡ drop u.span.to bs = cc in
    ap finds.Token (tokens_same bs at t u h k order rest)
determined bs at (finds.Token t) finds.End h k e = absurd cc
determined bs at (finds.Token t) (finds.Fault d) h k e = absurd cc
determined bs at finds.End (finds.Token u) h k e = absurd cc
determined bs at finds.End finds.End h k e = refl
determined bs at finds.End (finds.Fault d) h k e = absurd cc
determined bs at (finds.Fault c) (finds.Token u) h k e = absurd cc
determined bs at (finds.Fault c) finds.End h k e = absurd cc
determined bs at (finds.Fault c) (finds.Fault d) h k e = let same : c ≡ d = cc in ap finds.Fault same
