-- A match ends after its start and within the text.
use Rattle.std.proofs.Common.{◌≡◌, ℕ, zero, suc, cond, eqb, drop, ◌+◌, ◌<◌, ◌≤◌, Bool, not, List, [], ◌∷◌, length, Option, Some, None, refl, sym, ap, ⊎_elim, arith, length-drop}
use Rattle.std.specs.Prelude.{slice_get, IfSome}
use Rattle.std.specs.Option.{option_map}
use Rattle.std.proofs.lemmas.Bool.{cases_eq, ne_eqb}
use Rattle.std.proofs.lemmas.Option.{option_and_then_some, cond_some, slice_get_within, same_Some, none-some}
use Rattle.std.proofs.lemmas.List.Sums.{prefix_len-le-length}
use Rattle.teco_core.specs.declared.case_mode.CaseMode.{CaseMode}
use Rattle.teco_search.specs.declared.element.Element.{Element}
use Rattle.teco_search.specs.declared.element.Element.TheVariants.{Among, Except, Blanks}
use Rattle.teco_search.specs.Element.{is_blank, admits}
use Rattle.teco_search.specs.Occurrence.{Sought, Span, end_of_byte, blanks_at, element_end, match_end, match_at}

-- from a place to an end after it, within the text
pub record EndsPast (text : List ℕ) (p q : ℕ) : Type 0 where
  pub past : p < q
  pub within : q ≤ length text

byte_past : (passes : ℕ → Bool) (text : List ℕ) (p q : ℕ) → end_of_byte passes text p ≡ Some q → EndsPast text p q
byte_past passes text p q is =
    option_and_then_some {P = EndsPast text p q} _ (slice_get text p) q is (λ b here end.
    let inside = slice_get_within text p b here in
    let same = (cond_some (passes b) (p + 1) q end).1 in
    record { past = omega arith; within = omega arith })

run_past : (n : ℕ) (text : List ℕ) (p q : ℕ) → n ≡ blanks_at text p → cond (eqb n 0) None (Some (p + n)) ≡ Some q → EndsPast text p q
run_past zero text p q run is = absurd (none-some q is)
run_past (suc n) text p q run is =
    let fits : blanks_at text p ≤ length (drop p text) = prefix_len-le-length is_blank (drop p text) in
    let some : suc n ≡ 0 → ⊥ = omega arith in
    let same : p + suc n ≡ q = same_Some _ _ (rw (ne_eqb (suc n) 0 some) at is) in
    record { past = omega arith; within = omega (arith, length-drop p text) }

pub element_past : (mode : CaseMode) (e : Element) (text : List ℕ) (p q : ℕ) → element_end mode e text p ≡ Some q → EndsPast text p q
unfolding element_end
element_past mode (Among c) text p q is = byte_past (λ b. admits mode c b) text p q is
element_past mode (Except c) text p q is = byte_past (λ b. not (admits mode c b)) text p q is
element_past mode Blanks text p q is = run_past (blanks_at text p) text p q refl is

pub match_from : (mode : CaseMode) (es : List Element) (text : List ℕ) (p q : ℕ) → match_end mode es text p ≡ Some q → (p ≤ q) × (p < q → q ≤ length text)
unfolding match_end
match_from mode [] text p q is = let same : p ≡ q = same_Some p q is in (omega arith, λ past. absurd (omega arith))
match_from mode (e ∷ es) text p q is =
    option_and_then_some {P = (p ≤ q) × (p < q → q ≤ length text)} (match_end mode es text) (element_end mode e text p) q is (λ r here later.
    let first = element_past mode e text p r here in
    let rest = match_from mode es text r q later in
    (omega (arith, first.past, rest.0), λ past. ⊎_elim (λ same. omega (arith, first.within)) (λ other. rest.1 (omega (arith, rest.0))) (cases_eq r q)))

-- A match of at least one element ends after its start and within the text.
pub match_past : (mode : CaseMode) (es : List Element) (text : List ℕ) (p q : ℕ) → 0 < length es → match_end mode es text p ≡ Some q → EndsPast text p q
unfolding match_end
match_past mode [] text p q some is = absurd (omega arith)
match_past mode (e ∷ es) text p q some is =
    option_and_then_some {P = EndsPast text p q} (match_end mode es text) (element_end mode e text p) q is (λ r here later.
    let first = element_past mode e text p r here in
    let rest = match_from mode es text r q later in
    let past : p < q = omega (arith, first.past, rest.0) in
    record { past = past; within = ⊎_elim (λ same. omega (arith, first.within)) (λ other. rest.1 (omega (arith, rest.0))) (cases_eq r q) })

pub match_within : (sought : Sought) (text : List ℕ) (p : ℕ) (r : Option ℕ) → 0 < length sought.elements → r ≡ match_end sought.mode sought.elements text p → IfSome r (λ q. (p < q) × (q ≤ length text))
match_within sought text p None some is = tt
match_within sought text p (Some q) some is = let ends = match_past sought.mode sought.elements text p q some (sym is) in (ends.past, ends.within)

-- The match at a place, and where there is none.
pub match_at-hit : (sought : Sought) (text : List ℕ) (p q : ℕ) → match_end sought.mode sought.elements text p ≡ Some q → match_at sought text p ≡ Some (p, q)
unfolding match_at
match_at-hit sought text p q is = rw is

pub match_at-none : (sought : Sought) (text : List ℕ) (p : ℕ) → match_end sought.mode sought.elements text p ≡ None → match_at sought text p ≡ None
unfolding match_at
match_at-none sought text p is = rw is

spanned : (p : ℕ) (m : Span) (o : Option ℕ) → option_map (λ end. let s : Span = (p, end) in s) o ≡ Some m → (m.0 ≡ p) × (o ≡ Some m.1)
spanned p m None is = absurd (none-some m is)
spanned p m (Some q) is = let same : ◌≡◌ {A = Span} (p, q) m = same_Some _ _ is in (sym (ap (λ s. s.0) same), ap (λ (s : Span). Some s.1) same)

pub match_at-start : (sought : Sought) (text : List ℕ) (k : ℕ) (m : Span) → match_at sought text k ≡ Some m → (m.0 ≡ k) × (match_end sought.mode sought.elements text k ≡ Some m.1)
unfolding match_at
match_at-start sought text k m is = spanned k m (match_end sought.mode sought.elements text k) is

pub placed : (sought : Sought) (text : List ℕ) → 0 < length sought.elements → (k : ℕ) (m : Span) → match_at sought text k ≡ Some m → (m.0 ≡ k) × (k < m.1)
placed sought text some k m is =
    let here = match_at-start sought text k m is in
    (here.0, (match_past sought.mode sought.elements text k m.1 some here.1).past)

-- What gives nothing is none.
pub none_from : (o : Option ℕ) → ((q : ℕ) → o ≡ Some q → ⊥) → o ≡ None
none_from None h = refl
none_from (Some q) h = absurd (h q refl)
