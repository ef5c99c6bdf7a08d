-- A match has a byte of its anchor at the anchor's offset.
use Rattle.std.proofs.Common.{◌≡◌, ◌≢◌, ℕ, zero, suc, ◌+◌, ◌-◌, ◌<◌, ◌≤◌, Bool, true, eqb, cond, not, List, [], ◌∷◌, length, Option, Some, None, refl, sym, ap, subst, ◌∙◌, arith, ⊎_elim}
use Rattle.std.specs.Prelude.{slice_get, IfSome, min}
use Rattle.std.proofs.lemmas.Bool.{cases_Bool, cases_lt}
use Rattle.std.proofs.lemmas.Option.{option_and_then_some, cond_some, slice_get_within, none-some, get_or_from_slice_get}
use Rattle.memchr.specs.Find.{Passes, Nowhere, NoneBefore, NoneAfter}
use Rattle.teco_core.specs.declared.case_mode.CaseMode.{CaseMode}
use Rattle.teco_search.specs.declared.anchor.Anchor.{Anchor}
use Rattle.teco_search.specs.declared.element.Element.{Element}
use Rattle.teco_search.specs.declared.element.Element.TheVariants.{Among, Except, Blanks}
use Rattle.teco_search.specs.Anchor.{begins, AreSingle, IsAnchored, FindsLastBelow}
use Rattle.teco_search.specs.ByteSet.{AreBytes, contains}
use Rattle.teco_search.specs.Element.{is_blank, admits}
use Rattle.teco_search.specs.Occurrence.{Span, looked_for, end_of_byte, blanks_at, element_end, match_end, backward_ending_by, backward, BeginsBackward}
use Rattle.teco_search.proofs.Occurring.{ending_by-none, ending_by-some, backward-none, backward-some}
use Rattle.teco_search.proofs.Past.{element_past, match_from, match_past, none_from}
use Rattle.teco_search.proofs.Runs.{blanks_stop, blanks_none}

-- a byte at a place, with which an element's match may begin
record BeginsAt (mode : CaseMode) (e : Element) (text : List ℕ) (p : ℕ) : Type 0 where
  byte : ℕ
  here : slice_get text p ≡ Some byte
  passes : begins mode e byte ≡ true

byte_begins : (test : ℕ → Bool) (text : List ℕ) (p q : ℕ) → end_of_byte test text p ≡ Some q → (b : ℕ) × (slice_get text p ≡ Some b) × (test b ≡ true) × (q ≡ p + 1)
byte_begins test text p q is = option_and_then_some {P = (b : ℕ) × (slice_get text p ≡ Some b) × (test b ≡ true) × (q ≡ p + 1)} _ (slice_get text p) q is (λ b here end.
    let parts = cond_some (test b) (p + 1) q end in
    (b, here, parts.0, sym parts.1))

blanks_begin : (mode : CaseMode) (text : List ℕ) (p q : ℕ) → element_end mode Blanks text p ≡ Some q → BeginsAt mode Blanks text p
unfolding element_end begins
blanks_begin mode text p q is = by (slice_get text p) refl
  where
    none : (n : ℕ) → n ≡ 0 → cond (eqb n 0) None (Some (p + n)) ≡ Some q → ⊥
    none zero e some = none-some q some
    none (suc n) e some = omega (arith, e)

    by : (o : Option ℕ) → slice_get text p ≡ o → BeginsAt mode Blanks text p
    by None here = absurd (none (blanks_at text p) (blanks_none text p here) is)
    by (Some b) here = ⊎_elim
        (λ blank. record { byte = b; here = here; passes = blank })
        (λ other. absurd (none (blanks_at text p) (blanks_stop text p b here other) is))
        (cases_Bool (is_blank b))

begins_here : (mode : CaseMode) (e : Element) (text : List ℕ) (p q : ℕ) → element_end mode e text p ≡ Some q → BeginsAt mode e text p
unfolding element_end begins
begins_here mode (Among c) text p q is = let b = byte_begins (λ x. admits mode c x) text p q is in record { byte = b.0; here = b.1; passes = b.2 }
begins_here mode (Except c) text p q is = let b = byte_begins (λ x. not (admits mode c x)) text p q is in record { byte = b.0; here = b.1; passes = b.2 }
begins_here mode Blanks text p q is = blanks_begin mode text p q is

pub ends_next : (mode : CaseMode) (e : Element) (text : List ℕ) (p q : ℕ) → e ≢ Blanks → element_end mode e text p ≡ Some q → q ≡ p + 1
unfolding element_end
ends_next mode (Among c) text p q single is = (byte_begins (λ x. admits mode c x) text p q is).3
ends_next mode (Except c) text p q single is = (byte_begins (λ x. not (admits mode c x)) text p q is).3
ends_next mode Blanks text p q single is = absurd (single refl)

reaches :
    (mode : CaseMode) (es : List Element) (o : ℕ) (text : List ℕ) (p q : ℕ) → o < length es → AreSingle es o → match_end mode es text p ≡ Some q
    → (e : Element) × (slice_get es o ≡ Some e) × BeginsAt mode e text (p + o) × (p + o < q)
unfolding match_end
reaches mode [] o text p q within single is = absurd (omega arith)
reaches mode (e ∷ es) zero text p q within single is =
    option_and_then_some {P = (d : Element) × (slice_get (e ∷ es) zero ≡ Some d) × BeginsAt mode d text (p + zero) × (p + zero < q)} (match_end mode es text) (element_end mode e text p) q is (λ r first later.
    let start : p ≡ p + 0 = omega arith in
    let past = (element_past mode e text p r first).past in
    let rest = (match_from mode es text r q later).0 in
    (e, refl, subst (BeginsAt mode e text) start (begins_here mode e text p r first), omega arith))
reaches mode (e ∷ es) (suc o) text p q within single is =
    option_and_then_some {P = (d : Element) × (slice_get (e ∷ es) (suc o) ≡ Some d) × BeginsAt mode d text (p + suc o) × (p + suc o < q)} (match_end mode es text) (element_end mode e text p) q is (λ r first later.
    let next = ends_next mode e text p r (single zero e (omega arith) refl) first in
    let there = reaches mode es o text r q (omega arith) (λ k d below here. single (suc k) d (omega arith) here) later in
    let along : r + o ≡ p + suc o = omega (arith, next) in
    (there.0, there.1, subst (BeginsAt mode there.0 text) along there.2, omega (arith, there.3, next)))

module _ (mode : CaseMode) (es : List Element) (anchor : Anchor) (anchored : IsAnchored mode es anchor) (text : List ℕ) where
  module _ (p q : ℕ) (is : match_end mode es text p ≡ Some q) where
    anchor_past : p + anchor.offset < q
    anchor_past = (reaches mode es anchor.offset text p q anchored.within anchored.single is).3

    anchor_within : p + anchor.offset < length text
    anchor_within = let there = reaches mode es anchor.offset text p q anchored.within anchored.single is in slice_get_within text (p + anchor.offset) there.2.byte there.2.here

  -- Where there is no room for the anchor, nothing matches.
  pub none_fits : (from k : ℕ) → length text - from ≤ anchor.offset → from ≤ k → match_end mode es text k ≡ None
  none_fits from k room low = none_from (match_end mode es text k) (λ q is. let within = anchor_within k q is in absurd (omega arith))

  pub late_none : (below at to k q : ℕ) → at ≡ min below (length text) → at ≤ k + anchor.offset → k + anchor.offset < below → match_end mode es text k ≡ Some q → to < q
  late_none below at to k q start low under is = let within = anchor_within k q is in absurd (omega arith)

  some : 0 < length es
  some = let within = anchored.within in omega arith

  pub matches_long : (p q : ℕ) → match_end mode es text p ≡ Some q → (p < q) × (q ≤ length text)
  matches_long p q is = let ends = match_past mode es text p q some is in (ends.past, ends.within)

  -- The last match that starts at or before a place.
  pub begins_by_start :
      (from below : ℕ) (r : Option Span) → ((k : ℕ) → k ≤ from → k + anchor.offset < length text → k + anchor.offset < below) → ((k : ℕ) → k + anchor.offset < below → k ≤ from)
      → FindsLastBelow (looked_for mode es) text anchor.offset below (length text) r → BeginsBackward (looked_for mode es) text (backward (looked_for mode es) text from) r
  begins_by_start from below None into out last = backward-none (looked_for mode es) text some from (λ k by high. none_from (match_end mode es text k) (λ q is.
      last k q (record { matches = is; low = into k by (anchor_within k q is); ends = (matches_long k q is).1 })))
  begins_by_start from below (Some m) into out last = backward-some (looked_for mode es) text some from m.0 m.1 (out m.0 last.0.low) last.0.matches (λ j above by high. none_from (match_end mode es text j) (λ q is.
      let highest = last.1 j q (record { matches = is; low = into j by (anchor_within j q is); ends = (matches_long j q is).1 }) in absurd (omega arith)))

  -- The last match that ends at or before a place.
  pub begins_by_end : (to : ℕ) (r : Option Span) → FindsLastBelow (looked_for mode es) text anchor.offset to to r → BeginsBackward (looked_for mode es) text (backward_ending_by (looked_for mode es) text to) r
  begins_by_end to None last = ending_by-none (looked_for mode es) text some to (λ k q below is.
      ⊎_elim (λ beyond. beyond) (λ by. let past = anchor_past k q is in absurd (last k q (record { matches = is; low = omega arith; ends = by }))) (cases_lt to q))
  begins_by_end to (Some m) last = ending_by-some (looked_for mode es) text some to m.0 m.1 last.0.matches last.0.ends (λ j q above below is.
      ⊎_elim (λ beyond. beyond) (λ by.
      let past = anchor_past j q is in
      let highest = last.1 j q (record { matches = is; low = omega arith; ends = by }) in absurd (omega arith)) (cases_lt to q))

  pub within_by : (below to : ℕ) (r : Option Span) → FindsLastBelow (looked_for mode es) text anchor.offset below to r → IfSome r (λ m. (m.0 < m.1) × (m.1 ≤ to))
  within_by below to None last = tt
  within_by below to (Some m) last = ((matches_long m.0 m.1 last.0.matches).0, last.0.ends)

  module _ (bytes : AreBytes text) where
    anchor_passes : (p q : ℕ) → match_end mode es text p ≡ Some q → Passes (contains anchor.bytes) text (p + anchor.offset)
    anchor_passes p q is =
        let there = reaches mode es anchor.offset text p q anchored.within anchored.single is in
        let at = there.2 in
        ap (contains anchor.bytes) (get_or_from_slice_get text (p + anchor.offset) at.byte 0 at.here) ∙ anchored.bytes there.0 at.byte there.1 (bytes.fits (p + anchor.offset) at.byte at.here) ∙ at.passes

    -- Forward: the starts from a place on whose anchor is below another don't match.
    module _ (from at : ℕ) (none : (k : ℕ) → from ≤ k → k + anchor.offset < at → match_end mode es text k ≡ None) where
      pub none_before : (place : ℕ) → NoneBefore (Passes (contains anchor.bytes) text) at (length text) place → (k : ℕ) → from ≤ k → k + anchor.offset < place → match_end mode es text k ≡ None
      none_before place first k low below =
          ⊎_elim (λ early. none k low early)
          (λ late. none_from (match_end mode es text k) (λ q is. first.before (k + anchor.offset) late below (anchor_passes k q is)))
          (cases_lt (k + anchor.offset) at)

      pub none_after : Nowhere (Passes (contains anchor.bytes) text) at (length text) → (k : ℕ) → from ≤ k → match_end mode es text k ≡ None
      none_after nowhere k low =
          ⊎_elim (λ early. none k low early)
          (λ late. none_from (match_end mode es text k) (λ q is. nowhere (k + anchor.offset) late (anchor_within k q is) (anchor_passes k q is)))
          (cases_lt (k + anchor.offset) at)

      pub none_more :
          (place others : ℕ) → NoneBefore (Passes (contains anchor.bytes) text) at (length text) place
          → ((k : ℕ) → place - anchor.offset ≤ k → k ≤ place - anchor.offset + others → match_end mode es text k ≡ None)
          → (k : ℕ) → from ≤ k → k + anchor.offset ≤ place + others → match_end mode es text k ≡ None
      none_more place others first here k low below =
          ⊎_elim (λ early. none_before place first k low early)
          (λ late. here k (omega arith) (omega arith))
          (cases_lt (k + anchor.offset) place)

    -- Backward: the starts whose anchor is below a place, and not below another, match to beyond a place.
    module _ (below to at : ℕ) (none : (k q : ℕ) → at ≤ k + anchor.offset → k + anchor.offset < below → match_end mode es text k ≡ Some q → to < q) where
      pub late_after : (place : ℕ) → NoneAfter (Passes (contains anchor.bytes) text) 0 at place → (k q : ℕ) → place < k + anchor.offset → k + anchor.offset < below → match_end mode es text k ≡ Some q → to < q
      late_after place last k q above under is =
          ⊎_elim (λ early. absurd (last.after (k + anchor.offset) (omega arith) early (anchor_passes k q is))) (λ late. none k q late under is) (cases_lt (k + anchor.offset) at)

      pub late_all : Nowhere (Passes (contains anchor.bytes) text) 0 at → (k q : ℕ) → k + anchor.offset < below → match_end mode es text k ≡ Some q → to < q
      late_all nowhere k q under is =
          ⊎_elim (λ early. absurd (nowhere (k + anchor.offset) (omega arith) early (anchor_passes k q is))) (λ late. none k q late under is) (cases_lt (k + anchor.offset) at)

      pub late_more :
          (place others : ℕ) → NoneAfter (Passes (contains anchor.bytes) text) 0 at place → anchor.offset ≤ place
          → ((k q : ℕ) → k ≤ place - anchor.offset → place - anchor.offset ≤ k + others → match_end mode es text k ≡ Some q → to < q)
          → (k q : ℕ) → place - others ≤ k + anchor.offset → k + anchor.offset < below → match_end mode es text k ≡ Some q → to < q
      late_more place others last reached here k q above under is =
          ⊎_elim (λ later. late_after place last k q later under is)
          (λ not_later. here k q (omega arith) (omega arith) is)
          (cases_lt place (k + anchor.offset))

      pub last_none : ((k q : ℕ) → k + anchor.offset < below → match_end mode es text k ≡ Some q → to < q) → FindsLastBelow (looked_for mode es) text anchor.offset below to None
      last_none late k q is = let beyond = late k q is.low is.matches in let ends = is.ends in omega arith

      pub last_some :
          (place end : ℕ) → place < below → anchor.offset ≤ place → NoneAfter (Passes (contains anchor.bytes) text) 0 at place → match_end mode es text (place - anchor.offset) ≡ Some end → end ≤ to
          → FindsLastBelow (looked_for mode es) text anchor.offset below to (Some (place - anchor.offset, end))
      last_some place end under reached last is ends = (
        record { matches = is; low = omega arith; ends = ends },
        λ k q m. ⊎_elim
            (λ later. let beyond = late_after place last k q later m.low m.matches in let by = m.ends in absurd (omega arith))
            (λ not_later. omega arith) (cases_lt place (k + anchor.offset)),
      )
