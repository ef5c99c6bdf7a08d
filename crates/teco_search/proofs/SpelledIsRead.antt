-- What a text spells from a place on is what is read there, and nothing else is refused but by ICE.
use Rattle.std.proofs.Common.{◌≡◌, ◌≢◌, ℕ, zero, suc, ◌+◌, ◌<◌, ◌≤◌, Bool, true, false, eqb, List, [], ◌∷◌, ◌++◌, length, drop, Option, Some, Result, Ok, Err, refl, sym, ap, ◌∙◌, arith, ⊎_elim, length-drop, length-append}
use Rattle.std.specs.Prelude.{slice_get, ◌&&◌, ◌||◌}
use Rattle.std.proofs.lemmas.Bool.{cases_Bool, or_parts, or_from, both_ways}
use Rattle.std.proofs.Math.Bool.{and-false}
use Rattle.std.proofs.lemmas.List.{append_assoc}
use Rattle.std.proofs.lemmas.Option.{same_Some}
use Rattle.teco_core.specs.Refusal.{◌>>=◌}
use Rattle.teco_core.specs.declared.code.Code.{Code}
use Rattle.teco_core.specs.declared.code.Code.TheVariants.{Ice}
use Rattle.teco_search.specs.declared.element.Class.{Class}
use Rattle.teco_search.specs.declared.element.Class.TheVariants as class
use Rattle.teco_search.specs.declared.element.SetItem.{SetItem}
use Rattle.teco_search.specs.declared.element.SetItem.TheVariants as item
use Rattle.teco_search.specs.declared.element.OneByte.{OneByte}
use Rattle.teco_search.specs.declared.element.OneByte.TheVariants as one
use Rattle.teco_search.specs.declared.element.Element.{Element}
use Rattle.teco_search.specs.declared.element.Element.TheVariants as element
use Rattle.teco_core.specs.Ascii.{upper, is_lower}
use Rattle.teco_search.specs.Reading.{Reading, occurs_at, byte_at, class_named, item_at, listed_at, items_at, one_byte_at, element_at, elements_at}
use Rattle.teco_search.specs.Spelling.{SpellsItem, SpellsListed, SpellsItems, SpellsOne, SpellsElement, Spells, letter_of, is_control}
use Rattle.teco_search.proofs.Fronts.{some_front, later_front, some_byte, some_occurs, occurs_not}
use Rattle.teco_search.proofs.Lists.{step_read, element_step, elements_end, with_elements}
use Rattle.teco_search.proofs.Literals.{read_by, upper_of_lower, upper_of_other}
use Rattle.teco_search.proofs.ReadIsSpelled.{element_some}

named_all : (c : Class) → class_named (letter_of c) ≡ Ok c
named_all class.Any = refl
named_all class.Other = refl
named_all class.Letter = refl
named_all class.Digit = refl
named_all class.LineEnd = refl
named_all class.LetterOrDigit = refl
named_all class.LowerCase = refl
named_all class.UpperCase = refl

-- what is no control, one by one
record NoControl (b : ℕ) : Type 0 where
  q : eqb b 17 ≡ false
  e : eqb b 5 ≡ false
  x : eqb b 24 ≡ false
  s : eqb b 19 ≡ false
  n : eqb b 14 ≡ false
  r : eqb b 18 ≡ false
  v : eqb b 22 ≡ false
  w : eqb b 23 ≡ false

no_control : (b : ℕ) → is_control b ≡ false → NoControl b
no_control b plain =
    let w = or_parts (eqb b 17 || eqb b 5 || eqb b 24 || eqb b 19 || eqb b 14 || eqb b 18 || eqb b 22) (eqb b 23) plain in
    let v = or_parts (eqb b 17 || eqb b 5 || eqb b 24 || eqb b 19 || eqb b 14 || eqb b 18) (eqb b 22) w.0 in
    let r = or_parts (eqb b 17 || eqb b 5 || eqb b 24 || eqb b 19 || eqb b 14) (eqb b 18) v.0 in
    let n = or_parts (eqb b 17 || eqb b 5 || eqb b 24 || eqb b 19) (eqb b 14) r.0 in
    let s = or_parts (eqb b 17 || eqb b 5 || eqb b 24) (eqb b 19) n.0 in
    let x = or_parts (eqb b 17 || eqb b 5) (eqb b 24) s.0 in
    let e = or_parts (eqb b 17) (eqb b 5) x.0 in
    record { q = e.0; e = e.1; x = x.1; s = s.1; n = n.1; r = r.1; v = v.1; w = w.1 }

and_or : (a b c : Bool) → (a && b) ≡ false → (a && c) ≡ false → (a && (b || c)) ≡ false
and_or true b c no_b no_c = or_from b c no_b no_c
and_or false b c no_b no_c = refl

module _ (text : List ℕ) where
  item_read : (t rest : List ℕ) (at : ℕ) (i : SetItem) → SpellsItem t i → drop at text ≡ t ++ rest → item_at text at ≡ Ok (i, at + length t)
  item_read t rest at i (SpellsItem.itself b plain) whole =
      let here = some_front text at b rest whole in
      let no = no_control b plain in
      read_by text at b here.0 ∙ rw (no.q, no.e, no.x, no.s, no.n, no.r, no.v, no.w) refl
  item_read t rest at i (SpellsItem.quoted b) whole =
      let here = some_front text at 17 (b ∷ rest) whole in
      let next = some_front text (at + 1) b rest here.1 in
      let two : at + 1 + 1 ≡ at + 2 = omega arith in
      read_by text at 17 here.0 ∙ rw (some_byte text (at + 1) b next.0, two) refl
  item_read t rest at i (SpellsItem.named b c same) whole =
      let here = some_front text at 5 (b ∷ rest) whole in
      let next = some_front text (at + 1) b rest here.1 in
      let two : at + 1 + 1 ≡ at + 2 = omega arith in
      let named : class_named (upper b) ≡ Ok c = ap class_named same ∙ named_all c in
      read_by text at 5 here.0 ∙ rw (some_byte text (at + 1) b next.0) (ap (λ r. r >>= (λ k. let a : Reading SetItem = Ok (item.Class k, at + 1 + 1) in a)) named ∙ ap (λ n. let a : Reading SetItem = Ok (item.Class c, n) in a) two)
  item_read t rest at i SpellsItem.any whole = read_by text at 24 (some_front text at 24 rest whole).0
  item_read t rest at i SpellsItem.other whole = read_by text at 19 (some_front text at 19 rest whole).0

  -- Only a byte that is itself begins with this byte, which is no control.
  not_first : (t rest : List ℕ) (at b : ℕ) (i : SetItem) → SpellsItem t i → drop at text ≡ t ++ rest → is_control b ≡ false → t ≢ (b ∷ []) → occurs_at text at b ≡ false
  not_first t rest at b i spelled whole plain other = occurs_not text at b (λ here. by t i spelled whole other here)
    where
      by : (t : List ℕ) (i : SetItem) → SpellsItem t i → drop at text ≡ t ++ rest → t ≢ (b ∷ []) → slice_get text at ≡ Some b → ⊥
      by t i (SpellsItem.itself c itself) whole other here = let same : c ≡ b = same_Some c b (sym (some_front text at c rest whole).0 ∙ here) in other (ap (λ x. x ∷ []) same)
      by t i (SpellsItem.quoted c) whole other here = let same : 17 ≡ b = same_Some 17 b (sym (some_front text at 17 (c ∷ rest) whole).0 ∙ here) in both_ways (is_control b) plain (ap is_control (sym same))
      by t i (SpellsItem.named c k is) whole other here = let same : 5 ≡ b = same_Some 5 b (sym (some_front text at 5 (c ∷ rest) whole).0 ∙ here) in both_ways (is_control b) plain (ap is_control (sym same))
      by t i SpellsItem.any whole other here = let same : 24 ≡ b = same_Some 24 b (sym (some_front text at 24 rest whole).0 ∙ here) in both_ways (is_control b) plain (ap is_control (sym same))
      by t i SpellsItem.other whole other here = let same : 19 ≡ b = same_Some 19 b (sym (some_front text at 19 rest whole).0 ∙ here) in both_ways (is_control b) plain (ap is_control (sym same))

  listed_read : (t rest : List ℕ) (at : ℕ) (i : SetItem) → SpellsListed t i → drop at text ≡ t ++ rest → listed_at text at ≡ Ok (i, at + length t)
  unfolding listed_at
  listed_read t rest at i listed whole =
      rw (not_first t rest at 44 i listed.spelled whole refl listed.no_comma, not_first t rest at 93 i listed.spelled whole refl listed.no_end) (item_read t rest at i listed.spelled whole)

  -- What an item is spelled by, then another byte, and then the rest.
  after_item : (t rest : List ℕ) (at b : ℕ) → drop at text ≡ t ++ b ∷ rest → (byte_at text (at + length t) ≡ Ok b) × (drop (at + length t + 1) text ≡ rest)
  after_item t rest at b whole =
      let here = some_front text (at + length t) b rest (later_front text t (b ∷ rest) at whole) in
      (some_byte text (at + length t) b here.0, here.1)

  inside : (at : ℕ) (t rest : List ℕ) → 0 < length t → drop at text ≡ t ++ rest → at < length text
  inside at t rest some whole = let left = sym (length-drop at text) ∙ ap length whole ∙ length-append t rest in omega (arith, left)

  items_read : (n at : ℕ) (t rest : List ℕ) (is : List SetItem) → SpellsItems t is → length text ≤ at + n → drop at text ≡ t ++ rest → items_at n text at ≡ Ok (is, at + length t)
  items_read zero at t rest is (SpellsItems.last u i listed) room whole =
      let long : length (u ++ 93 ∷ []) ≡ length u + 1 = length-append u (93 ∷ []) in
      let within = inside at (u ++ 93 ∷ []) rest (omega (arith, long)) whole in absurd (omega arith)
  items_read zero at t rest is (SpellsItems.more u v i js listed later) room whole =
      let long : length (u ++ 44 ∷ v) ≡ length u + suc (length v) = length-append u (44 ∷ v) in
      let within = inside at (u ++ 44 ∷ v) rest (omega (arith, long)) whole in absurd (omega arith)
  items_read (suc n) at t rest is (SpellsItems.last u i listed) room whole =
      let split = whole ∙ append_assoc u (93 ∷ []) rest in
      let byte = after_item u rest at 93 split in
      let end : at + length u + 1 ≡ at + length (u ++ 93 ∷ []) = omega (arith, length-append u (93 ∷ [])) in
      step_read n text at i (at + length u) 93 (listed_read u (93 ∷ rest) at i listed split) byte.0 ∙ ap (λ k. let r : Reading (List SetItem) = Ok (i ∷ [], k) in r) end
  items_read (suc n) at t rest is (SpellsItems.more u v i js listed later) room whole =
      let split = whole ∙ append_assoc u (44 ∷ v) rest in
      let byte = after_item u (v ++ rest) at 44 split in
      let others = items_read n (at + length u + 1) v rest js later (omega arith) byte.1 in
      let end : at + length u + 1 + length v ≡ at + length (u ++ 44 ∷ v) = let long : length (u ++ 44 ∷ v) ≡ length u + suc (length v) = length-append u (44 ∷ v) in omega arith in
      step_read n text at i (at + length u) 44 (listed_read u (44 ∷ v ++ rest) at i listed split) byte.0
      ∙ ap (λ r. r >>= (λ os. let a : Reading (List SetItem) = Ok (i ∷ os.0, os.1) in a)) others ∙ ap (λ k. let r : Reading (List SetItem) = Ok (i ∷ js, k) in r) end

  -- An item begins with ^Q, ^E, ^X, ^S or a byte that is no control.
  never_first : (t rest : List ℕ) (at k : ℕ) (i : SetItem) → SpellsItem t i → drop at text ≡ t ++ rest → is_control k ≡ true → k ≢ 17 → k ≢ 5 → k ≢ 24 → k ≢ 19 → occurs_at text at k ≡ false
  never_first t rest at k i spelled whole control n17 n5 n24 n19 = occurs_not text at k (λ here. by t i spelled whole here)
    where
      by : (t : List ℕ) (i : SetItem) → SpellsItem t i → drop at text ≡ t ++ rest → slice_get text at ≡ Some k → ⊥
      by t i (SpellsItem.itself c itself) whole here = let same : c ≡ k = same_Some c k (sym (some_front text at c rest whole).0 ∙ here) in both_ways (is_control k) (ap is_control (sym same) ∙ itself) control
      by t i (SpellsItem.quoted c) whole here = n17 (sym (same_Some 17 k (sym (some_front text at 17 (c ∷ rest) whole).0 ∙ here)))
      by t i (SpellsItem.named c j is) whole here = n5 (sym (same_Some 5 k (sym (some_front text at 5 (c ∷ rest) whole).0 ∙ here)))
      by t i SpellsItem.any whole here = n24 (sym (same_Some 24 k (sym (some_front text at 24 rest whole).0 ∙ here)))
      by t i SpellsItem.other whole here = n19 (sym (same_Some 19 k (sym (some_front text at 19 rest whole).0 ∙ here)))

  -- A byte that names no kind does not come after its ^E.
  never_pair : (t rest : List ℕ) (at k : ℕ) (i : SetItem) → SpellsItem t i → drop at text ≡ t ++ rest → class_named (upper k) ≡ Err Ice → (occurs_at text at 5 && occurs_at text (at + 1) k) ≡ false
  never_pair t rest at k i (SpellsItem.itself b plain) whole unnamed =
      rw (occurs_not text at 5 (λ here. let same : b ≡ 5 = same_Some b 5 (sym (some_front text at b rest whole).0 ∙ here) in both_ways (is_control b) plain (ap is_control same))) refl
  never_pair t rest at k i (SpellsItem.quoted b) whole unnamed =
      rw (occurs_not text at 5 (λ here. let same : 17 ≡ 5 = same_Some 17 5 (sym (some_front text at 17 (b ∷ rest) whole).0 ∙ here) in absurd (omega arith))) refl
  never_pair t rest at k i (SpellsItem.named b c is) whole unnamed =
      let here = some_front text at 5 (b ∷ rest) whole in
      let next = some_front text (at + 1) b rest here.1 in
      rw (occurs_not text (at + 1) k (λ there.
      let same : b ≡ k = same_Some b k (sym next.0 ∙ there) in
      let named : class_named (upper k) ≡ Ok c = ap (λ x. class_named (upper x)) (sym same) ∙ ap class_named is ∙ named_all c in
      none c (sym unnamed ∙ named))) (and-false (occurs_at text at 5))
    where
      none : (c : Class) → ◌≡◌ {A = Result Class Code} (Err Ice) (Ok c) → ⊥
      none c e = cc
  never_pair t rest at k i SpellsItem.any whole unnamed =
      rw (occurs_not text at 5 (λ here. let same : 24 ≡ 5 = same_Some 24 5 (sym (some_front text at 24 rest whole).0 ∙ here) in absurd (omega arith))) refl
  never_pair t rest at k i SpellsItem.other whole unnamed =
      rw (occurs_not text at 5 (λ here. let same : 19 ≡ 5 = same_Some 19 5 (sym (some_front text at 19 rest whole).0 ∙ here) in absurd (omega arith))) refl

  one_byte_read : (t rest : List ℕ) (at : ℕ) (c : OneByte) → SpellsOne t c → drop at text ≡ t ++ rest → one_byte_at text at ≡ Ok (c, at + length t)
  unfolding one_byte_at
  one_byte_read t rest at c (SpellsOne.single u i spelled) whole =
      rw (never_pair u rest at 91 i spelled whole refl) (ap (λ r. r >>= (λ j. let a : Reading OneByte = Ok (one.Single j.0, j.1) in a)) (item_read u rest at i spelled whole))
  one_byte_read t rest at c (SpellsOne.listed u is spelled) whole =
      let here = some_front text at 5 (91 ∷ u ++ rest) whole in
      let next = some_front text (at + 1) 91 (u ++ rest) here.1 in
      let two : at + 2 ≡ at + 1 + 1 = omega arith in
      let end : at + 2 + length u ≡ at + suc (suc (length u)) = omega arith in
      let list = items_read (length text) (at + 2) u rest is spelled (omega arith) (ap (λ k. drop k text) two ∙ next.1) in
      rw (some_occurs text at 5 here.0, some_occurs text (at + 1) 91 next.0) (ap (λ r. r >>= (λ js. let a : Reading OneByte = Ok (one.Listed js.0, js.1) in a)) list ∙ ap (λ k. let a : Reading OneByte = Ok (one.Listed is, k) in a) end)

  -- What one byte may be is no run of blanks and no opposite.
  not_blanks : (t rest : List ℕ) (at : ℕ) (c : OneByte) → SpellsOne t c → drop at text ≡ t ++ rest → (occurs_at text at 5 && (occurs_at text (at + 1) 83 || occurs_at text (at + 1) 115)) ≡ false
  not_blanks t rest at c (SpellsOne.single u i spelled) whole =
      and_or (occurs_at text at 5) (occurs_at text (at + 1) 83) (occurs_at text (at + 1) 115) (never_pair u rest at 83 i spelled whole refl) (never_pair u rest at 115 i spelled whole refl)
  not_blanks t rest at c (SpellsOne.listed u is spelled) whole =
      let here = some_front text at 5 (91 ∷ u ++ rest) whole in
      let next = some_front text (at + 1) 91 (u ++ rest) here.1 in
      let no_capital = occurs_not text (at + 1) 83 (λ there. let same : 91 ≡ 83 = same_Some 91 83 (sym next.0 ∙ there) in absurd (omega arith)) in
      let no_small = occurs_not text (at + 1) 115 (λ there. let same : 91 ≡ 115 = same_Some 91 115 (sym next.0 ∙ there) in absurd (omega arith)) in
      rw (no_capital, no_small) (and-false (occurs_at text at 5))

  not_opposite : (t rest : List ℕ) (at : ℕ) (c : OneByte) → SpellsOne t c → drop at text ≡ t ++ rest → occurs_at text at 14 ≡ false
  not_opposite t rest at c (SpellsOne.single u i spelled) whole =
      never_first u rest at 14 i spelled whole refl (λ same. omega (arith, same)) (λ same. omega (arith, same)) (λ same. omega (arith, same)) (λ same. omega (arith, same))
  not_opposite t rest at c (SpellsOne.listed u is spelled) whole =
      occurs_not text at 14 (λ there. let same : 5 ≡ 14 = same_Some 5 14 (sym (some_front text at 5 (91 ∷ u ++ rest) whole).0 ∙ there) in absurd (omega arith))

  blanks_read : (at b : ℕ) → slice_get text at ≡ Some 5 → slice_get text (at + 1) ≡ Some b → upper b ≡ 83 → element_at text at ≡ Ok (element.Blanks, at + 2)
  unfolding element_at
  blanks_read at b here next capital =
      ⊎_elim
      (λ small.
      let above = upper_of_lower b small in
      let same : b ≡ 115 = omega (arith, above.2, capital) in
      let there : slice_get text (at + 1) ≡ Some 115 = next ∙ ap (λ x. let o : Option ℕ = Some x in o) same in
      rw (some_occurs text at 5 here, occurs_not text (at + 1) 83 (λ other. let no_is : 115 ≡ 83 = same_Some 115 83 (sym there ∙ other) in absurd (omega arith)), some_occurs text (at + 1) 115 there) refl)
      (λ large.
      let same : b ≡ 83 = sym (upper_of_other b large) ∙ capital in
      rw (some_occurs text at 5 here, some_occurs text (at + 1) 83 (next ∙ ap (λ x. let o : Option ℕ = Some x in o) same)) refl)
      (cases_Bool (is_lower b))

  element_read : (t rest : List ℕ) (at : ℕ) (e : Element) → SpellsElement t e → drop at text ≡ t ++ rest → element_at text at ≡ Ok (e, at + length t)
  unfolding element_at
  element_read t rest at e (SpellsElement.blanks b capital) whole =
      let here = some_front text at 5 (b ∷ rest) whole in
      let next = some_front text (at + 1) b rest here.1 in
      blanks_read at b here.0 next.0 capital
  element_read t rest at e (SpellsElement.among u c spelled) whole =
      rw (not_blanks u rest at c spelled whole, not_opposite u rest at c spelled whole) (ap (λ r. r >>= (λ d. let a : Reading Element = Ok (element.Among d.0, d.1) in a)) (one_byte_read u rest at c spelled whole))
  element_read t rest at e (SpellsElement.except u c spelled) whole =
      let here = some_front text at 14 (u ++ rest) whole in
      let end : at + 1 + length u ≡ at + suc (length u) = omega arith in
      let other = occurs_not text at 5 (λ there. let same : 14 ≡ 5 = same_Some 14 5 (sym here.0 ∙ there) in absurd (omega arith)) in
      rw (other, some_occurs text at 14 here.0)
      (ap (λ r. r >>= (λ d. let a : Reading Element = Ok (element.Except d.0, d.1) in a)) (one_byte_read u rest (at + 1) c spelled here.1) ∙ ap (λ k. let a : Reading Element = Ok (element.Except c, k) in a) end)

  pub elements_read : (n at : ℕ) (t : List ℕ) (es : List Element) → Spells t es → length text ≤ at + n → drop at text ≡ t → elements_at n text at ≡ Ok es
  elements_read n at t es Spells.nothing room whole = let left = sym (length-drop at text) ∙ ap length whole in elements_end n text at (omega (arith, left))
  elements_read zero at t es (Spells.next u v e os spelled later) room whole =
      let within = inside at u v (element_some u e spelled) whole in absurd (omega arith)
  elements_read (suc n) at t es (Spells.next u v e os spelled later) room whole =
      let some = element_some u e spelled in
      let within = inside at u v some whole in
      element_step n text at e (at + length u) within (element_read u v at e spelled whole) ∙ ap (with_elements (e ∷ [])) (elements_read n (at + length u) v os later (omega arith) (later_front text u v at whole))
