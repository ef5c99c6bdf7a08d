-- What is read from a place to another is what the text spells there.
use Rattle.std.proofs.Common.{◌≡◌, ◌≢◌, ℕ, zero, suc, ◌+◌, ◌-◌, ◌<◌, ◌≤◌, Bool, true, false, eqb, leb, List, [], ◌∷◌, ◌++◌, length, drop, Option, Some, None, Result, Ok, Err, refl, sym, ap, subst, ◌∙◌, arith, ⊎_elim, length-drop, length-append}
use Rattle.std.specs.Prelude.{slice_get, ◌&&◌, ◌||◌, if◌then◌else◌}
use Rattle.std.proofs.lemmas.Bool.{eqb-true, ne_eqb, cases_eq, cases_Bool, leb-true, or_parts, and_parts, false≢true}
use Rattle.std.proofs.lemmas.List.{append_assoc, drop_all}
use Rattle.teco_core.specs.Refusal.{◌>>=◌}
use Rattle.teco_core.specs.declared.code.Code.{Code}
use Rattle.teco_core.specs.declared.code.Code.TheVariants.{Ice}
use Rattle.teco_search.specs.declared.element.Class.{Class}
use Rattle.teco_search.specs.declared.element.Class.TheVariants as class
use Rattle.teco_search.specs.declared.element.SetItem.{SetItem}
use Rattle.teco_search.specs.declared.element.SetItem.TheVariants as item
use Rattle.teco_search.specs.declared.element.OneByte.{OneByte}
use Rattle.teco_search.specs.declared.element.OneByte.TheVariants as one
use Rattle.teco_search.specs.declared.element.Element.{Element}
use Rattle.teco_search.specs.declared.element.Element.TheVariants as element
use Rattle.teco_core.specs.Ascii.{upper}
use Rattle.teco_search.specs.Reading.{Reading, occurs_at, byte_at, class_named, is_no_item, item_by, item_at, listed_at, after_item, items_at, one_byte_at, element_at, elements_at}
use Rattle.teco_search.specs.Spelling.{SpellsItem, SpellsListed, SpellsItems, SpellsOne, SpellsElement, Spells, letter_of}
use Rattle.teco_search.proofs.Fronts.{bind_ok, front_some, some_front, byte_some, occurs_some, some_occurs}
use Rattle.teco_search.proofs.Literals.{read_by, read_none}

-- what lies from a place to another spells something
pub record Cut (text : List ℕ) (at end : ℕ) (Spelled : List ℕ → Type 0) : Type 0 where
  pub front : List ℕ
  pub whole : drop at text ≡ front ++ drop end text
  pub spelled : Spelled front

named_only : (b : ℕ) (c : Class) → class_named b ≡ Ok c → b ≡ letter_of c
named_only b c is = by (eqb b 88) (eqb b 66) (eqb b 65) (eqb b 68) (eqb b 76) (eqb b 82) (eqb b 86) (eqb b 87) is refl refl refl refl refl refl refl refl
  where
    by :
        (x o a d l r v w : Bool)
        → (if x then Ok class.Any else (if o then Ok class.Other else (if a then Ok class.Letter else (if d then Ok class.Digit else (if l then Ok class.LineEnd else (if r then Ok class.LetterOrDigit else (if v then Ok class.LowerCase else (if w then Ok class.UpperCase else Err Ice)))))))) ≡ Ok c
        → eqb b 88 ≡ x → eqb b 66 ≡ o → eqb b 65 ≡ a → eqb b 68 ≡ d → eqb b 76 ≡ l → eqb b 82 ≡ r → eqb b 86 ≡ v → eqb b 87 ≡ w → b ≡ letter_of c
    by true o a d l r v w is ex eo ea ed el er ev ew = let same : class.Any ≡ c = cc in eqb-true b 88 ex ∙ ap letter_of same
    by false true a d l r v w is ex eo ea ed el er ev ew = let same : class.Other ≡ c = cc in eqb-true b 66 eo ∙ ap letter_of same
    by false false true d l r v w is ex eo ea ed el er ev ew = let same : class.Letter ≡ c = cc in eqb-true b 65 ea ∙ ap letter_of same
    by false false false true l r v w is ex eo ea ed el er ev ew = let same : class.Digit ≡ c = cc in eqb-true b 68 ed ∙ ap letter_of same
    by false false false false true r v w is ex eo ea ed el er ev ew = let same : class.LineEnd ≡ c = cc in eqb-true b 76 el ∙ ap letter_of same
    by false false false false false true v w is ex eo ea ed el er ev ew = let same : class.LetterOrDigit ≡ c = cc in eqb-true b 82 er ∙ ap letter_of same
    by false false false false false false true w is ex eo ea ed el er ev ew = let same : class.LowerCase ≡ c = cc in eqb-true b 86 ev ∙ ap letter_of same
    by false false false false false false false true is ex eo ea ed el er ev ew = let same : class.UpperCase ≡ c = cc in eqb-true b 87 ew ∙ ap letter_of same
    by false false false false false false false false is ex eo ea ed el er ev ew = cc

pub item_some : (t : List ℕ) (i : SetItem) → SpellsItem t i → 0 < length t
item_some t i (SpellsItem.itself b plain) = omega arith
item_some t i (SpellsItem.quoted b) = omega arith
item_some t i (SpellsItem.named b c same) = omega arith
item_some t i SpellsItem.any = omega arith
item_some t i SpellsItem.other = omega arith

one_some : (t : List ℕ) (c : OneByte) → SpellsOne t c → 0 < length t
one_some t c (SpellsOne.single u i spelled) = item_some u i spelled
one_some t c (SpellsOne.listed u is spelled) = let two : length (5 ∷ 91 ∷ u) ≡ suc (suc (length u)) = refl in omega arith

-- An element is spelled by at least one byte.
pub element_some : (t : List ℕ) (e : Element) → SpellsElement t e → 0 < length t
element_some t e (SpellsElement.blanks b capital) = omega arith
element_some t e (SpellsElement.among u c spelled) = one_some u c spelled
element_some t e (SpellsElement.except u c spelled) = let more : length (14 ∷ u) ≡ suc (length u) = refl in omega arith

module _ (text : List ℕ) where
  one_cut : (at c end : ℕ) (i : SetItem) (j : SetItem) → slice_get text at ≡ Some c → ◌≡◌ {A = Reading SetItem} (Ok (j, at + 1)) (Ok (i, end)) → SpellsItem (c ∷ []) j → Cut text at end (λ t. SpellsItem t i)
  one_cut at c end i j here is spelled =
      let same : ◌≡◌ {A = SetItem × ℕ} (j, at + 1) (i, end) = cc in
      let item_is : j ≡ i = ap (λ s. s.0) same in
      let end_is : at + 1 ≡ end = ap (λ s. s.1) same in
      record { front = c ∷ []; whole = front_some text at c here ∙ ap (λ n. c ∷ drop n text) end_is; spelled = subst (λ k. SpellsItem (c ∷ []) k) item_is spelled }

  two_cut : (at c b end : ℕ) (i j : SetItem) → slice_get text at ≡ Some c → slice_get text (at + 1) ≡ Some b → ◌≡◌ {A = Reading SetItem} (Ok (j, at + 1 + 1)) (Ok (i, end)) → SpellsItem (c ∷ b ∷ []) j → Cut text at end (λ t. SpellsItem t i)
  two_cut at c b end i j here later is spelled =
      let same : ◌≡◌ {A = SetItem × ℕ} (j, at + 1 + 1) (i, end) = cc in
      let item_is : j ≡ i = ap (λ s. s.0) same in
      let end_is : at + 1 + 1 ≡ end = ap (λ s. s.1) same in
      record {
        front = c ∷ b ∷ [];
        whole = front_some text at c here ∙ ap (λ r. c ∷ r) (front_some text (at + 1) b later ∙ ap (λ n. b ∷ drop n text) end_is);
        spelled = subst (λ k. SpellsItem (c ∷ b ∷ []) k) item_is spelled;
      }

  item_cut : (at end : ℕ) (i : SetItem) → item_at text at ≡ Ok (i, end) → Cut text at end (λ t. SpellsItem t i)
  item_cut at end i is = by (slice_get text at) refl
    where
      quoted : slice_get text at ≡ Some 17 → item_by 17 text (at + 1) ≡ Ok (i, end) → Cut text at end (λ t. SpellsItem t i)
      quoted here e =
          let b = bind_ok (byte_at text (at + 1)) (λ x. let r : Reading SetItem = Ok (item.Byte x, at + 1 + 1) in r) (i, end) e in
          two_cut at 17 b.0 end i (item.Byte b.0) here (byte_some text (at + 1) b.0 b.1) b.2 (SpellsItem.quoted b.0)

      named : slice_get text at ≡ Some 5 → item_by 5 text (at + 1) ≡ Ok (i, end) → Cut text at end (λ t. SpellsItem t i)
      named here e =
          let b = bind_ok (byte_at text (at + 1)) (λ x. class_named (upper x) >>= (λ k. let r : Reading SetItem = Ok (item.Class k, at + 1 + 1) in r)) (i, end) e in
          let k = bind_ok (class_named (upper b.0)) (λ k. let r : Reading SetItem = Ok (item.Class k, at + 1 + 1) in r) (i, end) b.2 in
          two_cut at 5 b.0 end i (item.Class k.0) here (byte_some text (at + 1) b.0 b.1) k.2 (SpellsItem.named b.0 k.0 (named_only (upper b.0) k.0 k.1))

      others : (c : ℕ) → slice_get text at ≡ Some c → c ≢ 17 → c ≢ 5 → item_by c text (at + 1) ≡ Ok (i, end) → Cut text at end (λ t. SpellsItem t i)
      others c here n17 n5 e = ⊎_elim
          (λ is24. one_cut at c end i (item.Class class.Any) here (subst (λ k. item_by k text (at + 1) ≡ Ok (i, end)) is24 e) (subst (λ k. SpellsItem (k ∷ []) (item.Class class.Any)) (sym is24) SpellsItem.any))
          (λ n24. ⊎_elim
          (λ is19. one_cut at c end i (item.Class class.Other) here (subst (λ k. item_by k text (at + 1) ≡ Ok (i, end)) is19 e) (subst (λ k. SpellsItem (k ∷ []) (item.Class class.Other)) (sym is19) SpellsItem.other))
          (λ n19. ⊎_elim
          (λ no_is. let refused = rw (ne_eqb c 17 n17, ne_eqb c 5 n5, ne_eqb c 24 n24, ne_eqb c 19 n19, no_is) at e in cc)
          (λ plain.
          let last = or_parts (eqb c 14 || eqb c 18 || eqb c 22) (eqb c 23) plain in
          let third = or_parts (eqb c 14 || eqb c 18) (eqb c 22) last.0 in
          let second = or_parts (eqb c 14) (eqb c 18) third.0 in
          let itself = rw (ne_eqb c 17 n17, ne_eqb c 5 n5, ne_eqb c 24 n24, ne_eqb c 19 n19, second.0, second.1, third.1, last.1) at e in
          one_cut at c end i (item.Byte c) here itself (SpellsItem.itself c (rw (ne_eqb c 17 n17, ne_eqb c 5 n5, ne_eqb c 24 n24, ne_eqb c 19 n19, second.0, second.1, third.1, last.1) refl)))
          (cases_Bool (is_no_item c)))
          (cases_eq c 19))
          (cases_eq c 24)

      by : (o : Option ℕ) → slice_get text at ≡ o → Cut text at end (λ t. SpellsItem t i)
      by None none = let refused : ◌≡◌ {A = Reading SetItem} (Err Ice) (Ok (i, end)) = sym (read_none text at none) ∙ is in cc
      by (Some c) here =
          let e = sym (read_by text at c here) ∙ is in
          ⊎_elim (λ is17. quoted (here ∙ ap (λ y. let o : Option ℕ = Some y in o) is17) (subst (λ k. item_by k text (at + 1) ≡ Ok (i, end)) is17 e))
          (λ n17. ⊎_elim (λ is5. named (here ∙ ap (λ y. let o : Option ℕ = Some y in o) is5) (subst (λ k. item_by k text (at + 1) ≡ Ok (i, end)) is5 e))
          (λ n5. others c here n17 n5 e) (cases_eq c 5)) (cases_eq c 17)

  listed_cut : (at end : ℕ) (i : SetItem) → listed_at text at ≡ Ok (i, end) → Cut text at end (λ t. SpellsListed t i)
  unfolding listed_at
  listed_cut at end i is =
      ⊎_elim (λ yes_is. let refused = rw yes_is at is in cc)
      (λ no_is.
      let cut = item_cut at end i (rw no_is at is) in
      let none = or_parts (occurs_at text at 44) (occurs_at text at 93) no_is in
      record {
        front = cut.front;
        whole = cut.whole;
        spelled = record { spelled = cut.spelled; no_comma = other 44 cut.front cut.whole none.0; no_end = other 93 cut.front cut.whole none.1 };
      })
      (cases_Bool (occurs_at text at 44 || occurs_at text at 93))
    where
      other : (b : ℕ) (front : List ℕ) → drop at text ≡ front ++ drop end text → occurs_at text at b ≡ false → front ≢ (b ∷ [])
      other b front whole no_is same =
          let here = (some_front text at b (drop end text) (whole ∙ ap (λ f. f ++ drop end text) same)).0 in
          false≢true (sym no_is ∙ some_occurs text at b here)

  items_cut : (n at end : ℕ) (is : List SetItem) → items_at n text at ≡ Ok (is, end) → Cut text at end (λ t. SpellsItems t is)
  unfolding items_at
  items_cut zero at end is e = cc
  items_cut (suc n) at end is e =
      let i = bind_ok (listed_at text at) (λ i. byte_at text i.1 >>= (λ b. after_item b i.0 (items_at n text (i.1 + 1)) (i.1 + 1))) (is, end) e in
      let b = bind_ok (byte_at text i.0.1) (λ b. after_item b i.0.0 (items_at n text (i.0.1 + 1)) (i.0.1 + 1)) (is, end) i.2 in
      by (λ place last js f. items_cut n place last js f) i.0.0 i.0.1 b.0 (listed_cut at i.0.1 i.0.0 i.1) (front_some text i.0.1 b.0 (byte_some text i.0.1 b.0 b.1)) b.2
    where
      by :
          ((place last : ℕ) (js : List SetItem) → items_at n text place ≡ Ok (js, last) → Cut text place last (λ t. SpellsItems t js))
          → (i : SetItem) (place b : ℕ) → Cut text at place (λ t. SpellsListed t i) → drop place text ≡ b ∷ drop (place + 1) text → after_item b i (items_at n text (place + 1)) (place + 1) ≡ Ok (is, end) → Cut text at end (λ t. SpellsItems t is)
      by others_cut i place b first here e =
          ⊎_elim (λ is93.
          let same : ◌≡◌ {A = List SetItem × ℕ} (i ∷ [], place + 1) (is, end) = let done = subst (λ k. after_item k i (items_at n text (place + 1)) (place + 1) ≡ Ok (is, end)) is93 e in cc in
          record {
            front = first.front ++ 93 ∷ [];
            whole = first.whole ∙ ap (λ r. first.front ++ r) (here ∙ ap (λ k. k ∷ drop (place + 1) text) is93 ∙ ap (λ k. 93 ∷ drop k text) (ap (λ s. s.1) same)) ∙ sym (append_assoc first.front (93 ∷ []) (drop end text));
            spelled = subst (λ js. SpellsItems (first.front ++ 93 ∷ []) js) (ap (λ s. s.0) same) (SpellsItems.last first.front i first.spelled);
          })
          (λ n93. ⊎_elim (λ is44.
          let others = bind_ok (items_at n text (place + 1)) (λ js. let r : Reading (List SetItem) = Ok (i ∷ js.0, js.1) in r) (is, end) (subst (λ k. after_item k i (items_at n text (place + 1)) (place + 1) ≡ Ok (is, end)) is44 e) in
          let same : ◌≡◌ {A = List SetItem × ℕ} (i ∷ others.0.0, others.0.1) (is, end) = let done = others.2 in cc in
          let later = others_cut (place + 1) others.0.1 others.0.0 others.1 in
          record {
            front = first.front ++ 44 ∷ later.front;
            whole = first.whole ∙ ap (λ r. first.front ++ r) (here ∙ ap (λ k. k ∷ drop (place + 1) text) is44 ∙ ap (λ r. 44 ∷ r) (later.whole ∙ ap (λ k. later.front ++ drop k text) (ap (λ s. s.1) same)))
                ∙ sym (append_assoc first.front (44 ∷ later.front) (drop end text));
            spelled = subst (λ js. SpellsItems (first.front ++ 44 ∷ later.front) js) (ap (λ s. s.0) same) (SpellsItems.more first.front later.front i others.0.0 first.spelled later.spelled);
          })
          (λ n44. let refused = rw (ne_eqb b 93 n93, ne_eqb b 44 n44) at e in cc)
          (cases_eq b 44))
          (cases_eq b 93)

  one_byte_cut : (at end : ℕ) (c : OneByte) → one_byte_at text at ≡ Ok (c, end) → Cut text at end (λ t. SpellsOne t c)
  unfolding one_byte_at
  one_byte_cut at end c is =
      ⊎_elim (λ yes_is.
      let parts = and_parts (occurs_at text at 5) (occurs_at text (at + 1) 91) yes_is in
      let js = bind_ok (items_at (length text) text (at + 2)) (λ js. let r : Reading OneByte = Ok (one.Listed js.0, js.1) in r) (c, end) (rw yes_is at is) in
      let same : ◌≡◌ {A = OneByte × ℕ} (one.Listed js.0.0, js.0.1) (c, end) = let done = js.2 in cc in
      let list = items_cut (length text) (at + 2) js.0.1 js.0.0 js.1 in
      let two : at + 1 + 1 ≡ at + 2 = omega arith in
      record {
        front = 5 ∷ 91 ∷ list.front;
        whole = front_some text at 5 (occurs_some text at 5 parts.0) ∙ ap (λ r. 5 ∷ r) (front_some text (at + 1) 91 (occurs_some text (at + 1) 91 parts.1)
            ∙ ap (λ r. 91 ∷ r) (ap (λ k. drop k text) two ∙ list.whole ∙ ap (λ k. list.front ++ drop k text) (ap (λ s. s.1) same)));
        spelled = subst (λ d. SpellsOne (5 ∷ 91 ∷ list.front) d) (ap (λ s. s.0) same) (SpellsOne.listed list.front js.0.0 list.spelled);
      })
      (λ no_is.
      let i = bind_ok (item_at text at) (λ i. let r : Reading OneByte = Ok (one.Single i.0, i.1) in r) (c, end) (rw no_is at is) in
      let same : ◌≡◌ {A = OneByte × ℕ} (one.Single i.0.0, i.0.1) (c, end) = let done = i.2 in cc in
      let cut = item_cut at i.0.1 i.0.0 i.1 in
      record {
        front = cut.front;
        whole = cut.whole ∙ ap (λ k. cut.front ++ drop k text) (ap (λ s. s.1) same);
        spelled = subst (λ d. SpellsOne cut.front d) (ap (λ s. s.0) same) (SpellsOne.single cut.front i.0.0 cut.spelled);
      })
      (cases_Bool (occurs_at text at 5 && occurs_at text (at + 1) 91))

  blanks_cut : (at end b : ℕ) (e : Element) → slice_get text at ≡ Some 5 → slice_get text (at + 1) ≡ Some b → upper b ≡ 83 → ◌≡◌ {A = Reading Element} (Ok (element.Blanks, at + 2)) (Ok (e, end)) → Cut text at end (λ t. SpellsElement t e)
  blanks_cut at end b e here letter capital is =
      let same : ◌≡◌ {A = Element × ℕ} (element.Blanks, at + 2) (e, end) = cc in
      let two : at + 1 + 1 ≡ end = omega (arith, ap (λ s. s.1) same) in
      record {
        front = 5 ∷ b ∷ [];
        whole = front_some text at 5 here ∙ ap (λ r. 5 ∷ r) (front_some text (at + 1) b letter ∙ ap (λ k. b ∷ drop k text) two);
        spelled = subst (λ d. SpellsElement (5 ∷ b ∷ []) d) (ap (λ s. s.0) same) (SpellsElement.blanks b capital);
      }

  other_cut :
      (at end : ℕ) (e : Element)
      → (if occurs_at text at 14 then one_byte_at text (at + 1) >>= (λ c. let r : Reading Element = Ok (element.Except c.0, c.1) in r) else one_byte_at text at >>= (λ c. let r : Reading Element = Ok (element.Among c.0, c.1) in r)) ≡ Ok (e, end)
      → Cut text at end (λ t. SpellsElement t e)
  other_cut at end e is =
      ⊎_elim (λ opposite.
      let c = bind_ok (one_byte_at text (at + 1)) (λ c. let r : Reading Element = Ok (element.Except c.0, c.1) in r) (e, end) (rw opposite at is) in
      let same : ◌≡◌ {A = Element × ℕ} (element.Except c.0.0, c.0.1) (e, end) = let done = c.2 in cc in
      let cut = one_byte_cut (at + 1) c.0.1 c.0.0 c.1 in
      record {
        front = 14 ∷ cut.front;
        whole = front_some text at 14 (occurs_some text at 14 opposite) ∙ ap (λ r. 14 ∷ r) (cut.whole ∙ ap (λ k. cut.front ++ drop k text) (ap (λ s. s.1) same));
        spelled = subst (λ d. SpellsElement (14 ∷ cut.front) d) (ap (λ s. s.0) same) (SpellsElement.except cut.front c.0.0 cut.spelled);
      })
      (λ itself.
      let c = bind_ok (one_byte_at text at) (λ c. let r : Reading Element = Ok (element.Among c.0, c.1) in r) (e, end) (rw itself at is) in
      let same : ◌≡◌ {A = Element × ℕ} (element.Among c.0.0, c.0.1) (e, end) = let done = c.2 in cc in
      let cut = one_byte_cut at c.0.1 c.0.0 c.1 in
      record {
        front = cut.front;
        whole = cut.whole ∙ ap (λ k. cut.front ++ drop k text) (ap (λ s. s.1) same);
        spelled = subst (λ d. SpellsElement cut.front d) (ap (λ s. s.0) same) (SpellsElement.among cut.front c.0.0 cut.spelled);
      })
      (cases_Bool (occurs_at text at 14))

  element_cut : (at end : ℕ) (e : Element) → element_at text at ≡ Ok (e, end) → Cut text at end (λ t. SpellsElement t e)
  unfolding element_at
  element_cut at end e is =
      ⊎_elim (λ yes_is.
      let parts = and_parts (occurs_at text at 5) (occurs_at text (at + 1) 83 || occurs_at text (at + 1) 115) yes_is in
      let here = occurs_some text at 5 parts.0 in
      let done = rw yes_is at is in
      ⊎_elim (λ capital. blanks_cut at end 83 e here (occurs_some text (at + 1) 83 capital) refl done)
      (λ not_capital. blanks_cut at end 115 e here (occurs_some text (at + 1) 115 (rw not_capital at parts.1)) refl done)
      (cases_Bool (occurs_at text (at + 1) 83)))
      (λ no_is. other_cut at end e (rw no_is at is))
      (cases_Bool (occurs_at text at 5 && (occurs_at text (at + 1) 83 || occurs_at text (at + 1) 115)))

  -- From a place to the end, if there is room to read so many.
  pub elements_spelled : (n at : ℕ) (es : List Element) → length text ≤ at + n → elements_at n text at ≡ Ok es → Spells (drop at text) es
  unfolding elements_at
  elements_spelled zero at es room is =
      let none : ◌≡◌ {A = List Element} [] es = cc in
      rw (drop_all at text (omega arith)) (subst (λ os. Spells [] os) none Spells.nothing)
  elements_spelled (suc n) at es room is =
      ⊎_elim (λ past.
      let none : ◌≡◌ {A = List Element} [] es = let done = rw past at is in cc in
      rw (drop_all at text (leb-true (length text) at past)) (subst (λ os. Spells [] os) none Spells.nothing))
      (λ inside.
      let e = bind_ok (element_at text at) (λ e. elements_at n text e.1 >>= (λ os. let r : Result (List Element) Code = Ok (e.0 ∷ os) in r)) es (rw inside at is) in
      let os = bind_ok (elements_at n text e.0.1) (λ os. let r : Result (List Element) Code = Ok (e.0.0 ∷ os) in r) es e.2 in
      let cut = element_cut at e.0.1 e.0.0 e.1 in
      let same : e.0.0 ∷ os.0 ≡ es = let done = os.2 in cc in
      let some = element_some cut.front e.0.0 cut.spelled in
      let lengths : length text - at ≡ length cut.front + (length text - e.0.1) = sym (length-drop at text) ∙ ap length cut.whole ∙ length-append cut.front (drop e.0.1 text) ∙ ap (λ k. length cut.front + k) (length-drop e.0.1 text) in
      let left : length text ≤ e.0.1 + n = omega arith in
      rw cut.whole (subst (λ all. Spells (cut.front ++ drop e.0.1 text) all) same (Spells.next cut.front (drop e.0.1 text) e.0.0 os.0 cut.spelled (elements_spelled n e.0.1 os.0 left os.1))))
      (cases_Bool (leb (length text) at))
