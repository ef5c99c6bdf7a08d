use Rattle.std.proofs.Common.{◌≡◌, ℕ, pos, map, subst, ◌+◌, ◌≤◌, List, Option, length, get_or, Some, None, arith}
use Rattle.memchr.specs.Find.{FindsNeedle, IsFirst, OccursAt, Passes, is_byte}
use Rattle.memchr.proofs.lemmas.FindLemmas.{IsFirst-agree, IsFirst-wider, OccursAt-byte, byte-OccursAt}
use Rattle.teco_search.specs.Literal.{plain}
use Rattle.teco_search.specs.Occurrence.{looked_for, occurrence}
use Rattle.teco_search.proofs.Begins.{literal_first-none, literal_first-some}
use Rattle.teco_search.proofs.as_it_stands.first_byte.Goals as goal

-- Where a text has the byte of a needle of one byte, it has the needle.
as_needle :
    (text bytes : List ℕ) (from : ℕ) (r : Option ℕ) → length bytes ≡ 1 → from ≤ length text
    → IsFirst (Passes (is_byte (get_or bytes 0 0)) text) from (length text) r → FindsNeedle text bytes from r
as_needle text bytes from r one within first =
    IsFirst-wider (OccursAt text bytes) from (length text) (length text + 1) (omega arith) (λ k occurs. omega (arith, occurs.fits)) r
    (IsFirst-agree (Passes (is_byte (get_or bytes 0 0)) text) (OccursAt text bytes) from (length text)
    (λ k low passes. OccursAt-byte text bytes one k low passes) (λ k low occurs. byte-OccursAt text bytes one k occurs) r first)

pub returns-in_err-start-clause-value : goal.returns-in_err-start-clause-value
returns-in_err-start-clause-value c mode literal =
    let bytes = c.args.bytes.now in
    let text = c.args.text.now in
    let first = as_needle text bytes c.args.from None c.requires.one c.requires.within c.in_err-start.ensures.value in
    rw c.from_residual.ensures (literal_first-none mode bytes text literal.some literal.exact c.args.from first)

pub returns-clause-value : goal.returns-clause-value
returns-clause-value c mode literal =
    let bytes = c.args.bytes.now in
    let text = c.args.text.now in
    let start = c.in_ok-start.start in
    let first = as_needle text bytes c.args.from (Some start) c.requires.one c.requires.within c.in_ok-start.ensures.value in
    subst (λ n. Some (start, start + n) ≡ occurrence (looked_for mode (map plain bytes)) text c.args.from (pos 1)) c.requires.one (literal_first-some mode bytes text literal.some literal.exact c.args.from start first)
