-- Search texts of bytes that admit themselves alone: they match where they are.
use Rattle.std.proofs.Common.{◌≡◌, ℕ, zero, suc, ◌+◌, ◌<◌, ◌≤◌, Bool, true, false, eqb, leb, List, [], ◌∷◌, ◌++◌, length, get_or, map, Result, Option, Some, None, Ok, Err, refl, sym, ap, subst, ◌∙◌, arith, ⊎_elim}
use Rattle.std.specs.Prelude.{slice_get}
use Rattle.std.specs.Global.{Vec}
use Rattle.std.specs.List.{list_all}
use Rattle.std.proofs.lemmas.Bool.{eqb-true, eq-eqb, ne_eqb, false≢true, le-leb, and_from, cases_Bool, or_parts, and_parts, leb-true, not-true, cases_lt}
use Rattle.std.proofs.lemmas.List.{length-map}
use Rattle.std.proofs.lemmas.Option.{same_Some, slice_get-get_or, slice_get_within, get_or_from_slice_get, option_and_then_some, cond_some}
use Rattle.std.proofs.lemmas.Str.Ascii.{uppercase_is}
use Rattle.memchr.specs.Find.{OccursAt}
use Rattle.teco_core.specs.declared.code.Code.{Code}
use Rattle.teco_core.specs.declared.code.Code.TheVariants.{Ice}
use Rattle.teco_search.specs.declared.element.Class.{Class}
use Rattle.teco_search.proofs.Past.{match_past}
use Rattle.teco_core.specs.Refusal.{◌>>=◌}
use Rattle.teco_core.specs.declared.case_mode.CaseMode.{CaseMode}
use Rattle.teco_core.specs.declared.case_mode.CaseMode.TheVariants.{Exact, Either}
use Rattle.teco_search.specs.declared.element.SetItem.{SetItem}
use Rattle.teco_search.specs.declared.element.SetItem.TheVariants as item
use Rattle.teco_search.specs.declared.element.SetItem.TheVariants.{Byte}
use Rattle.teco_search.specs.declared.element.OneByte.TheVariants.{Single}
use Rattle.teco_core.specs.Ascii.{is_lower, is_upper, is_letter, upper}
use Rattle.teco_search.specs.Element.{item_admits, admits}
use Rattle.teco_search.specs.Reading.{Reading, class_named, byte_at, item_by, item_at, one_byte_at, element_at}
use Rattle.teco_search.specs.Literal.{plain, is_exact, IsLiteral}
use Rattle.teco_search.specs.declared.pattern.Form.{Form}
use Rattle.teco_search.specs.declared.pattern.Form.TheVariants.{Literal, Elements}
use Rattle.teco_search.specs.Pattern.{elements_of, IsSound}
use Rattle.teco_search.specs.Occurrence.{Sought, looked_for, element_end, match_end}

-- A small letter is 32 above its capital.
pub upper_of_lower : (x : ℕ) → is_lower x ≡ true → (97 ≤ x) × (x ≤ 122) × (upper x + 32 ≡ x)
upper_of_lower x yes_is =
    let parts = and_parts (leb 97 x) (leb x 122) yes_is in
    let low : 97 ≤ x = leb-true 97 x parts.0 in
    let high : x ≤ 122 = leb-true x 122 parts.1 in
    (low, high, (uppercase_is x).0 (low, high))

-- A byte that is no small letter is its own capital.
pub upper_of_other : (x : ℕ) → is_lower x ≡ false → upper x ≡ x
upper_of_other x no_is =
    ⊎_elim
    (λ before. (uppercase_is x).1 before)
    (λ from. ⊎_elim
    (λ inside. absurd (false≢true (sym no_is ∙ and_from (leb 97 x) (leb x 122) (le-leb 97 x from) (le-leb x 122 (omega arith)))))
    (λ after. (uppercase_is x).2 after)
    (cases_lt x 123))
    (cases_lt x 97)

-- The capital of a small letter is a capital letter.
upper_is_upper : (x : ℕ) → is_lower x ≡ true → is_upper (upper x) ≡ true
upper_is_upper x yes_is =
    let small = upper_of_lower x yes_is in
    and_from (leb 65 (upper x)) (leb (upper x) 90) (le-leb 65 (upper x) (omega (arith, small.0, small.2))) (le-leb (upper x) 90 (omega (arith, small.1, small.2)))

tells_apart : (test : ℕ → Bool) (a b : ℕ) → test a ≡ false → test b ≡ true → eqb a b ≡ false
tells_apart test a b no_is yes_is = ne_eqb a b (λ same. false≢true (sym no_is ∙ ap test same ∙ yes_is))

-- With either case too, a byte that is no letter admits itself alone.
pub exact_admits : (mode : CaseMode) (b x : ℕ) → is_exact mode b ≡ true → item_admits mode (Byte b) x ≡ eqb b x
unfolding item_admits
exact_admits Exact b x exact = refl
exact_admits Either b x exact =
    let none = or_parts (is_upper b) (is_lower b) (not-true (is_letter b) exact) in
    let own = upper_of_other b none.1 in
    ⊎_elim
    (λ small. ap (λ c. eqb c (upper x)) own ∙ tells_apart is_upper b (upper x) none.0 (upper_is_upper x small) ∙ sym (tells_apart is_lower b x none.1 small))
    (λ other. ap (λ c. eqb c (upper x)) own ∙ ap (eqb b) (upper_of_other x other))
    (cases_Bool (is_lower x))

-- Reading.

as_item : ℕ → Class → Reading SetItem
as_item at named = Ok (item.Class named, at)

by_name : ℕ → ℕ → Reading SetItem
by_name at letter = class_named (upper letter) >>= as_item at

abbrev item_of : Reading SetItem → SetItem
item_of (Ok x) = x.0
item_of (Err e) = Byte 0

no_class : (b q at : ℕ) (k : Result Class Code) → (k >>= as_item at) ≡ Ok (Byte b, q) → ⊥
unfolding as_item
no_class b q at (Ok k) e = let same : item.Class k ≡ Byte b = ap item_of e in cc
no_class b q at (Err k) e = cc

no_name : (b q at : ℕ) (r : Result ℕ Code) → (r >>= by_name at) ≡ Ok (Byte b, q) → ⊥
unfolding by_name
no_name b q at (Ok letter) e = no_class b q at (class_named (upper letter)) e
no_name b q at (Err k) e = cc

pub read_by : (text : List ℕ) (at c : ℕ) → slice_get text at ≡ Some c → item_at text at ≡ item_by c text (at + 1)
unfolding item_at byte_at
read_by text at c here = rw here

pub read_none : (text : List ℕ) (at : ℕ) → slice_get text at ≡ None → item_at text at ≡ Err Ice
unfolding item_at byte_at
read_none text at none = rw none

pub literal_element : (text : List ℕ) (at b q : ℕ) → item_at text at ≡ Ok (Byte b, q) → element_at text at ≡ Ok (plain b, q)
unfolding element_at one_byte_at by_name as_item
literal_element text at b q is = by (slice_get text at) refl
  where
    refused : ◌≡◌ {A = Reading SetItem} (Err Ice) (Ok (Byte b, q)) → ⊥
    refused e = cc

    by : (o : Option ℕ) → slice_get text at ≡ o → element_at text at ≡ Ok (plain b, q)
    by None none = absurd (refused (sym (read_none text at none) ∙ is))
    by (Some c) here =
        let read = sym (read_by text at c here) ∙ is in
        let no_name_here : c ≡ 5 → ⊥ = λ five. no_name b q (at + 1 + 1) (byte_at text (at + 1)) (subst (λ k. item_by k text (at + 1) ≡ Ok (Byte b, q)) five read) in
        let not_not : c ≡ 14 → ⊥ = λ fourteen. refused (subst (λ k. item_by k text (at + 1) ≡ Ok (Byte b, q)) fourteen read) in
        rw (here, ne_eqb c 5 no_name_here, ne_eqb c 14 not_not, is)

-- Matching.

module _ (mode : CaseMode) (text : List ℕ) where
  plain_end : (b p : ℕ) → is_exact mode b ≡ true → slice_get text p ≡ Some b → element_end mode (plain b) text p ≡ Some (p + 1)
  unfolding element_end admits
  plain_end b p exact here = rw (here, exact_admits mode b b exact, eq-eqb b b refl)

  plain_only : (b p r : ℕ) → is_exact mode b ≡ true → element_end mode (plain b) text p ≡ Some r → (slice_get text p ≡ Some b) × (r ≡ p + 1)
  unfolding element_end admits
  plain_only b p r exact is =
      option_and_then_some {P = (slice_get text p ≡ Some b) × (r ≡ p + 1)} _ (slice_get text p) r is (λ x here end.
      let parts = cond_some (admits mode (Single (Byte b)) x) (p + 1) r end in
      let same : b ≡ x = eqb-true b x (sym (exact_admits mode b x exact) ∙ parts.0) in
      (here ∙ ap (λ y. let o : Option ℕ = Some y in o) (sym same), sym parts.1))

  -- Bytes that admit themselves alone match where they are,
  pub literal_hit : (bs : List ℕ) (p : ℕ) → list_all (is_exact mode) bs ≡ true → OccursAt text bs p → match_end mode (map plain bs) text p ≡ Some (p + length bs)
  unfolding match_end
  literal_hit [] p exact occurs = let none : p ≡ p + 0 = omega arith in ap (λ n. let o : Option ℕ = Some n in o) none
  literal_hit (b ∷ bs) p exact occurs =
      let parts = and_parts (is_exact mode b) (list_all (is_exact mode) bs) exact in
      let fits : p + suc (length bs) ≤ length text = occurs.fits in
      let start : p + 0 ≡ p = omega arith in
      let first : get_or text p 0 ≡ b = ap (λ k. get_or text k 0) (sym start) ∙ occurs.reads 0 (omega arith) in
      let here : slice_get text p ≡ Some b = slice_get-get_or text p 0 (omega arith) ∙ ap (λ x. let o : Option ℕ = Some x in o) first in
      let later : OccursAt text bs (p + 1) = record {
        fits = omega arith;
        reads = λ j below. let along : p + 1 + j ≡ p + suc j = omega arith in ap (λ k. get_or text k 0) along ∙ occurs.reads (suc j) (omega arith);
      } in
      let whole : p + 1 + length bs ≡ p + suc (length bs) = omega arith in
      rw (plain_end b p parts.0 here) (literal_hit bs (p + 1) parts.1 later ∙ ap (λ n. let o : Option ℕ = Some n in o) whole)

  -- and nowhere else.
  pub literal_only : (bs : List ℕ) (p q : ℕ) → p ≤ length text → list_all (is_exact mode) bs ≡ true → match_end mode (map plain bs) text p ≡ Some q → OccursAt text bs p × (q ≡ p + length bs)
  unfolding match_end
  literal_only [] p q within exact is =
      (record { fits = omega arith; reads = λ j below. absurd (omega arith) }, let same : p ≡ q = same_Some p q is in omega arith)
  literal_only (b ∷ bs) p q within exact is =
      let parts = and_parts (is_exact mode b) (list_all (is_exact mode) bs) exact in
      option_and_then_some {P = OccursAt text (b ∷ bs) p × (q ≡ p + suc (length bs))} (match_end mode (map plain bs) text) (element_end mode (plain b) text p) q is (λ r first rest.
      let here = plain_only b p r parts.0 first in
      let inside = slice_get_within text p b here.0 in
      let next : r ≡ p + 1 = here.1 in
      let later = literal_only bs r q (omega arith) parts.1 rest in
      let fits : r + length bs ≤ length text = later.0.fits in
      (record { fits = omega arith; reads = reads_all b bs p r next (get_or_from_slice_get text p b 0 here.0) later.0.reads }, omega (arith, later.1)))
    where
      reads_all :
          (b : ℕ) (bs : List ℕ) (p r : ℕ) → r ≡ p + 1 → get_or text p 0 ≡ b → ((j : ℕ) → j < length bs → get_or text (r + j) 0 ≡ get_or bs j 0)
          → (j : ℕ) → j < suc (length bs) → get_or text (p + j) 0 ≡ get_or (b ∷ bs) j 0
      reads_all b bs p r next first reads zero below = let start : p + 0 ≡ p = omega arith in ap (λ k. get_or text k 0) start ∙ first
      reads_all b bs p r next first reads (suc j) below = let along : p + suc j ≡ r + j = omega arith in ap (λ k. get_or text k 0) along ∙ reads j (omega arith)

  pub literal_none : (bs : List ℕ) (p : ℕ) → 0 < length bs → list_all (is_exact mode) bs ≡ true → (OccursAt text bs p → ⊥) → match_end mode (map plain bs) text p ≡ None
  literal_none bs p some exact nowhere = by (match_end mode (map plain bs) text p) refl
    where
      by : (o : Option ℕ) → match_end mode (map plain bs) text p ≡ o → o ≡ None
      by None is = refl
      by (Some q) is =
          let ends = match_past mode (map plain bs) text p q (omega (arith, length-map bs plain)) is in
          absurd (nowhere (literal_only bs p q (omega (arith, ends.past, ends.within)) exact is).0)

-- A list of bytes that grows.
pub all_more : (mode : CaseMode) (bs : List ℕ) (b : ℕ) → list_all (is_exact mode) bs ≡ true → is_exact mode b ≡ true → list_all (is_exact mode) (bs ++ b ∷ []) ≡ true
all_more mode [] b all here = rw here
all_more mode (c ∷ bs) b all here =
    let parts = and_parts (is_exact mode c) (list_all (is_exact mode) bs) all in
    and_from (is_exact mode c) (list_all (is_exact mode) (bs ++ b ∷ [])) parts.0 (all_more mode bs b parts.1 here)

-- How a pattern is kept, where it is one of such bytes.
pub kept_literal :
    (mode : CaseMode) (form : Form) (bytes : Vec ℕ) (value : Sought) → form ≡ Literal bytes → looked_for mode (elements_of form) ≡ value → IsSound mode form
    → (value ≡ looked_for mode (map plain bytes.items)) × (0 < length bytes.items) × (list_all (is_exact mode) bytes.items ≡ true)
kept_literal mode form bytes value is view sound =
    let literal : IsLiteral mode bytes.items = subst (IsSound mode) is sound in
    (sym view ∙ ap (λ f. looked_for mode (elements_of f)) is, literal.some, literal.exact)

-- There is at least one element, however they are kept.
pub kept_some : (mode : CaseMode) (form : Form) (value : Sought) → looked_for mode (elements_of form) ≡ value → IsSound mode form → 0 < length value.elements
kept_some mode form value view sound = subst (λ (s : Sought). 0 < length s.elements) view (by form sound)
  where
    by : (f : Form) → IsSound mode f → 0 < length (elements_of f)
    by (Literal bytes) is = omega (arith, is.some, length-map bytes.items plain)
    by (Elements es anchor) is = omega (arith, is.within)
