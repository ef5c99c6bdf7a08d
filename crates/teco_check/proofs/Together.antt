-- A check and the spelling alone walk a text together, up to an item with which something is wrong.
use Rattle.std.proofs.Common.{◌≡◌, ◌≢◌, ◌⊎◌, ℕ, zero, suc, ◌<◌, ◌≤◌, Bool, true, false, List, [], ◌∷◌, length, Option, Some, None, IfSome, IsSomeAnd, cond as choose, refl, sym, ap, ◌∙◌, subst, inl, inr, arith}
use Rattle.std.specs.Prelude.{◌&&◌, ◌==◌}
use Rattle.teco_core.specs.Ascii.{is_filler}
use Rattle.teco_core.specs.declared.profile.Profile.{Profile}
use Rattle.teco_scan.specs.declared.breaks.ListFault.{ListFault}
use Rattle.teco_scan.specs.declared.command.BlockMark.{BlockMark}
use Rattle.teco_scan.specs.declared.command.BlockMark.TheVariants.{Iterate, EndIteration, Otherwise, EndTest}
use Rattle.teco_scan.specs.declared.command.Modifiers.{Modifiers}
use Rattle.teco_scan.specs.declared.command.RegisterCommand.TheVariants as registers
use Rattle.teco_scan.specs.declared.command.TextCommand.TheVariants as texts
use Rattle.teco_scan.specs.declared.blocks.Kind.{Kind}
use Rattle.teco_scan.specs.declared.blocks.Kind.TheVariants.{Iter, Then, Else}
use Rattle.teco_scan.specs.Breaks.{by_spelling, broken_so, first_break}
use Rattle.teco_scan.specs.Scan.{Item, Instruction, Scanned, TokenMeaning, found, ended, fault, scan, after_fillers}
use Rattle.teco_scan.specs.Scan as token
use Rattle.teco_scan.specs.Walk.{Break, unreadable, stray, unended, too_deep, OpenList, Rule, Walker, place, own_list, after_item, out_of, at_mark, at_end, at_instruction, at_scan, walk}
use Rattle.teco_scan.proofs.TokenShortens.{scan_short}
use Rattle.teco_scan.proofs.WalkUnrolls.{unrolls}
use Rattle.teco_check.specs.declared.faults.Fault.{Fault}
use Rattle.teco_check.specs.declared.faults.Wrong.{Wrong}
use Rattle.teco_check.specs.declared.faults.Wrong.TheVariants as wrongs
use Rattle.teco_check.specs.Checked.{code_of}
use Rattle.teco_check.specs.Clean.{is_whole, is_written_out}
use Rattle.teco_check.specs.OneBreak.{IsOneBreak}
use Rattle.teco_check.specs.Walk.{CodeRule, by_check, first_within, lands_in, marks_at, told_break, told_item, wrong_with, rule}
use Rattle.teco_check.proofs.Places.{scan_same}

-- Two walks by two rules, over one token: what holds of both where they go on, and where either tells a break, holds here.
module _ (F G : Type 0) (one : Rule F) (two : Rule G) (f : Walker F) (g : Walker G) (text : List ℕ) (R : Option F → Option G → Type 0) where
  either : (b : Bool) (x : Option F) (y : Option G) (u : Option F) (v : Option G) → R x y → R u v → R (choose b x u) (choose b y v)
  either true x y u v h k = h
  either false x y u v h k = k

  -- they hold of these bytes
  record Onward (more : List ℕ) : Type 0 where
    on : (o : OpenList) (os : List OpenList) → R (f o os more) (g o os more)

  record Breaking (at : ℕ) : Type 0 where
    breaks : (b : Break) (o : OpenList) → R (Some (one.breaks at b o)) (Some (two.breaks at b o))
    none : R None None

  out : (os : List OpenList) (more : List ℕ) → R None None → Onward more → R (out_of f os more) (out_of g os more)
  out [] more none h = none
  out (o ∷ os) more none h = h.on o os

  marks : (b : BlockMark) (kind : Option Kind) (at : ℕ) (o : OpenList) (os : List OpenList) (more : List ℕ) → Breaking at → Onward more
      → R (at_mark one f text b kind at o os more) (at_mark two g text b kind at o os more)
  marks Iterate kind at o os more b h = either (length os == 64) _ _ _ _ (b.breaks too_deep o) (h.on _ _)
  marks EndIteration (Some Iter) at o os more b h = out os more b.none h
  marks EndIteration (Some Then) at o os more b h = b.breaks _ o
  marks EndIteration (Some Else) at o os more b h = b.breaks _ o
  marks EndIteration None at o os more b h = b.breaks _ o
  marks Otherwise (Some Then) at o os more b h = h.on _ os
  marks Otherwise (Some Iter) at o os more b h = b.breaks _ o
  marks Otherwise (Some Else) at o os more b h = b.breaks _ o
  marks Otherwise None at o os more b h = b.breaks _ o
  marks EndTest (Some Then) at o os more b h = out os more b.none h
  marks EndTest (Some Else) at o os more b h = out os more b.none h
  marks EndTest (Some Iter) at o os more b h = b.breaks _ o
  marks EndTest None at o os more b h = b.breaks _ o

  instructions : (i : Instruction) (at : ℕ) (o : OpenList) (os : List OpenList) (more : List ℕ) → Breaking at → Onward more
      → ((x : Item) → R (after_item f (one.item at x (o ∷ os)) o os more) (after_item g (two.item at x (o ∷ os)) o os more))
      → R (at_instruction one f text i at o os more) (at_instruction two g text i at o os more)
  instructions (token.step x) at o os more b h items = items x
  instructions (token.mark m) at o os more b h items = marks m o.kind at o os more b h
  instructions (token.decide t) at o os more b h items = either (length os == 64) _ _ _ _ (b.breaks too_deep o) (h.on _ _)
  instructions (token.tag name) at o os more b h items = h.on o os
  instructions token.escape at o os more b h items = h.on o os

  ends : (kind : Option Kind) (at : ℕ) (o : OpenList) → Breaking at → R (at_end one kind at o) (at_end two kind at o)
  ends None at o b = b.none
  ends (Some kind) at o b = b.breaks unended o

  scans : (s : Scanned) (at : ℕ) (o : OpenList) (os : List OpenList) → Breaking at → ((t : TokenMeaning) (more : List ℕ) → s ≡ found t more → Onward more)
      → ((t : TokenMeaning) (more : List ℕ) → s ≡ found t more → (x : Item) → R (after_item f (one.item at x (o ∷ os)) o os more) (after_item g (two.item at x (o ∷ os)) o os more))
      → R (at_scan one f text s at o os) (at_scan two g text s at o os)
  scans (found t more) at o os b on items = instructions t.instruction at o os more b (on t more refl) (items t more refl)
  scans ended at o os b on items = ends o.kind at o b
  scans (fault c) at o os b on items = b.breaks (unreadable c) o

-- fillers are bytes of the text
fillers_short : (bs : List ℕ) → length (after_fillers bs) ≤ length bs
unfolding after_fillers
fillers_short [] = omega arith
fillers_short (b ∷ bs) = elim (is_filler b) as (λ v. length (choose v (after_fillers bs) (b ∷ bs)) ≤ length (b ∷ bs)) [ true ↦ omega (arith, fillers_short bs) | false ↦ omega arith ]

pub one_code : (run : ListFault) (told : Fault) → IsOneBreak run told → code_of told.wrong ≡ Some run.code
one_code run told h = ap (λ (x : Fault). code_of x.wrong) h.by_check ∙ same h.broken ∙ sym (ap (λ (x : ListFault). Some x.code) h.by_run)
  where
    same : (b : Break) → code_of (told_break h.at b h.list).wrong ≡ Some (broken_so h.at b h.list).code
    same (unreadable c) = refl
    same (stray c) = refl
    same unended = refl
    same too_deep = refl

pub one_place : (run : ListFault) (told : Fault) → IsOneBreak run told → told.wrong ≢ wrongs.Unended → run.at ≡ told.at
one_place run told h ends = ap (λ (x : ListFault). x.at) h.by_run ∙ same h.broken (λ e. ends (ap (λ (x : Fault). x.wrong) h.by_check ∙ e)) ∙ sym (ap (λ (x : Fault). x.at) h.by_check)
  where
    same : (b : Break) → (told_break h.at b h.list).wrong ≢ wrongs.Unended → (broken_so h.at b h.list).at ≡ (told_break h.at b h.list).at
    same (unreadable c) ne = refl
    same (stray c) ne = refl
    same unended ne = absurd (ne refl)
    same too_deep ne = refl

some_none : {X : Type 0} (x : X) → Some x ≡ None → ⊥
some_none x e = cc

module _ (profile : Profile) where
  -- what a token leaves is shorter than what it begins
  token_short : (bs : List ℕ) (t : TokenMeaning) (more : List ℕ) → scan profile bs ≡ found t more → length more < length (after_fillers bs)
  token_short bs t more e = scan_short profile (after_fillers bs) t more (scan_same profile bs (after_fillers bs) refl ∙ e)

  -- what is wrong with an item has no code by which a run ends
  wrong_uncoded : (code : CodeRule) (bytes : List ℕ) (lists : List OpenList) (m : Modifiers) (i : Item) → IfSome (wrong_with profile code bytes lists m i) (λ w. code_of w ≡ None)
  wrong_uncoded code bytes lists m (token.digits ds) = tt
  wrong_uncoded code bytes lists m (token.bare b) = tt
  wrong_uncoded code bytes lists m (token.byte b) = tt
  wrong_uncoded code bytes lists m (token.replace old new) = tt
  wrong_uncoded code bytes lists m (token.register c q) = of_register c
    where
      of_register : (c : _) → IfSome (wrong_with profile code bytes lists m (token.register c q)) (λ w. code_of w ≡ None)
      of_register registers.Macro = elim (code.holds q) as (λ v. IfSome (choose v None (Some wrongs.Calls)) (λ w. code_of w ≡ None)) [ true ↦ tt | false ↦ refl ]
      of_register registers.Extract = elim (code.holds q) as (λ v. IfSome (choose v (Some wrongs.Loads) None) (λ w. code_of w ≡ None)) [ true ↦ refl | false ↦ tt ]
      of_register registers.Pop = elim (code.holds q) as (λ v. IfSome (choose v (Some wrongs.Loads) None) (λ w. code_of w ≡ None)) [ true ↦ refl | false ↦ tt ]
      of_register c = tt
  wrong_uncoded code bytes lists m (token.text c name) = of_text c
    where
      of_text : (c : _) → IfSome (wrong_with profile code bytes lists m (token.text c name)) (λ w. code_of w ≡ None)
      of_text texts.Go = elim (lands_in profile bytes lists name) as (λ v. IfSome (choose v None (Some wrongs.NoTag)) (λ w. code_of w ≡ None)) [ true ↦ tt | false ↦ refl ]
      of_text c = tt
  wrong_uncoded code bytes lists m (token.set_text q t) = of_hold (code.holds q)
    where
      of_may : (v : Bool) → IfSome (choose v None (Some wrongs.InText)) (λ w. code_of w ≡ None)
      of_may true = tt
      of_may false = refl

      of_whole : (v : Bool) → IfSome (choose v (choose (code.may t) None (Some wrongs.InText)) (Some wrongs.Loads)) (λ w. code_of w ≡ None)
      of_whole true = of_may (code.may t)
      of_whole false = refl

      of_hold : (v : Bool) → IfSome (choose v (choose (is_whole m && is_written_out profile t) (choose (code.may t) None (Some wrongs.InText)) (Some wrongs.Loads)) None) (λ w. code_of w ≡ None)
      of_hold true = of_whole (is_whole m && is_written_out profile t)
      of_hold false = tt

  module _ (text : List ℕ) where
    abbrev spelled : Walker ListFault
    spelled o os bs = walk profile by_spelling text o os bs

    -- A fault, if there is one, is not before this place.
    abbrev From : ℕ → Option ListFault → Option ListFault → Type 0
    From at r s = IfSome r (λ there. at ≤ there.at)

    break_from : (low at : ℕ) (b : Break) (o : OpenList) → low ≤ at → From low (Some (broken_so at b o)) None
    break_from low at (unreadable c) o h = h
    break_from low at (stray c) o h = h
    break_from low at unended o h = h
    break_from low at too_deep o h = h

    sooner : (low high : ℕ) (r : Option ListFault) → low ≤ high → From high r None → From low r None
    sooner low high None h from = tt
    sooner low high (Some there) h from = omega (arith, h, from)

    record AllFrom (n : ℕ) : Type 0 where
      from : (o : OpenList) (os : List OpenList) (bs : List ℕ) → length bs < n → From (place text bs) (spelled o os bs) None

    from_place : (n : ℕ) → AllFrom n
    from_place zero = record { from = λ o os bs lt. absurd (omega (arith, lt)) }
    from_place (suc n) = record {
      from = λ o os bs lt.
          let low = place text bs in
          let at = place text (after_fillers bs) in
          let above : low ≤ at = omega (arith, fillers_short bs) in
          let onward : (a : OpenList) (around : List OpenList) (t : TokenMeaning) (more : List ℕ) → scan profile bs ≡ found t more → From low (spelled a around more) None
          = λ a around t more e. sooner low (place text more) (spelled a around more) (omega (arith, scan_short profile bs t more e)) ((from_place n).from a around more (omega (arith, lt, scan_short profile bs t more e))) in
          subst (λ x. From low x None) (sym (unrolls profile ListFault by_spelling text bs o os))
          (scans ListFault ListFault by_spelling by_spelling spelled spelled text (From low) (scan profile bs) at o os
          (record { breaks = λ b a. break_from low at b a above; none = tt })
          (λ t more e. record { on = λ a around. onward a around t more e })
          (λ t more e x. onward o os t more e));
    }

    -- What a run tells where a check tells this: the same break, or, where the check tells of an item, none or a later one.
    abbrev pub Beside : Option ListFault → Option Fault → Type 0
    Beside run None = run ≡ None
    Beside run (Some told) = IsSomeAnd run (λ there. IsOneBreak there told) ⊎ ((code_of told.wrong ≡ None) × IfSome run (λ there. told.at < there.at))

    later : (at next : ℕ) (r : Option ListFault) → at < next → From next r None → IfSome r (λ there. at < there.at)
    later at next None h from = tt
    later at next (Some there) h from = omega (arith, h, from)

    item_beside : (code : CodeRule) (at : ℕ) (w : Option Wrong) (o : OpenList) (os : List OpenList) (more : List ℕ) → IfSome w (λ x. code_of x ≡ None) → at < place text more
        → Beside (spelled o os more) (walk profile (by_check profile code text) text o os more) → Beside (spelled o os more) (after_item (walk profile (by_check profile code text) text) (told_item at w) o os more)
    item_beside code at None o os more uncoded h beside = beside
    item_beside code at (Some w) o os more uncoded h beside =
        inr (uncoded, later at (place text more) (spelled o os more) h ((from_place (suc (length more))).from o os more (omega arith)))

    record AllBeside (code : CodeRule) (n : ℕ) : Type 0 where
      beside : (o : OpenList) (os : List OpenList) (bs : List ℕ) → length bs < n → length bs ≤ length text → Beside (spelled o os bs) (walk profile (by_check profile code text) text o os bs)

    beside_all : (code : CodeRule) (n : ℕ) → AllBeside code n
    beside_all code zero = record { beside = λ o os bs lt inside. absurd (omega (arith, lt)) }
    beside_all code (suc n) = record {
      beside = λ o os bs lt inside.
          let at = place text (after_fillers bs) in
          let onward : (a : OpenList) (around : List OpenList) (t : TokenMeaning) (more : List ℕ) → scan profile bs ≡ found t more → Beside (spelled a around more) (walk profile (by_check profile code text) text a around more)
          = λ a around t more e. (beside_all code n).beside a around more (omega (arith, lt, scan_short profile bs t more e)) (omega (arith, inside, scan_short profile bs t more e)) in
          subst (λ x. Beside x (walk profile (by_check profile code text) text o os bs)) (sym (unrolls profile ListFault by_spelling text bs o os))
          (subst (λ y. Beside (at_scan by_spelling spelled text (scan profile bs) at o os) y) (sym (unrolls profile Fault (by_check profile code text) text bs o os))
          (scans ListFault Fault by_spelling (by_check profile code text) spelled (walk profile (by_check profile code text) text) text Beside (scan profile bs) at o os
          (record { breaks = λ b a. inl (record { at = at; broken = b; list = a; by_run = refl; by_check = refl }); none = refl })
          (λ t more e. record { on = λ a around. onward a around t more e })
          (λ t more e x. item_beside code at (wrong_with profile code text (o ∷ os) (marks_at profile text at) x) o os more (wrong_uncoded code text (o ∷ os) (marks_at profile text at) x)
          (omega (arith, inside, fillers_short bs, token_short bs t more e)) (onward o os t more e))));
    }

  pub text_beside : (n : ℕ) (code : List Bool) (text : List ℕ) → Beside text (first_break profile text) (first_within profile n code text)
  text_beside n code text = (beside_all text (rule profile n code) (suc (length text))).beside own_list [] text (omega arith) (omega arith)

  -- the clauses of the law
  pub told_same : (text : List ℕ) (run : Option ListFault) (told : Option Fault) → Beside text run told → IfSome told (λ x. code_of x.wrong ≢ None → IsSomeAnd run (λ there. IsOneBreak there x))
  told_same text run None h = tt
  told_same text run (Some x) (inl h) = λ coded. h
  told_same text run (Some x) (inr h) = λ coded. absurd (coded h.0)

  pub told_later : (text : List ℕ) (run : Option ListFault) (told : Option Fault) → Beside text run told → IfSome told (λ x. code_of x.wrong ≡ None → IfSome run (λ there. x.at < there.at))
  told_later text run None h = tt
  told_later text None (Some x) h = λ none. tt
  told_later text (Some there) (Some x) (inl h) = λ none. absurd (some_none there.code (sym (one_code there x h) ∙ none))
  told_later text (Some there) (Some x) (inr h) = λ none. h.1

  pub told_none : (text : List ℕ) (run : Option ListFault) (told : Option Fault) → Beside text run told → told ≡ None → run ≡ None
  told_none text run None h e = h
  told_none text run (Some x) h e = absurd (some_none x e)
