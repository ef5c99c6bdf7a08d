-- The faults of a text, from the first on: where the text lies in which one is, and what is read on with.
use Rattle.std.proofs.Common.{◌≡◌, ◌<◌, ◌≤◌, ◌⊎◌, inl, inr, ℕ, zero, suc, ◌+◌, ◌-◌, Bool, true, false, ◌||◌, List, [], length, take, drop, Option, Some, None, refl, sym, ap, ◌∙◌, subst, arith, length-drop, true≢false}
use native.Mathlib.Numerals.{unary_clauses}
use Rattle.std.proofs.lemmas.Bool.{cases_lt}
use Rattle.std.proofs.lemmas.List.{drop_all, drop-drop, drop-take, length-take-le, take-take}
use Rattle.teco_core.specs.declared.profile.Profile.{Profile}
use Rattle.teco_scan.specs.Scan.{scan, after_fillers}
use Rattle.teco_scan.specs.Seen.{bytes_in}
use Rattle.teco_scan.specs.declared.token.Span.{Span}
use Rattle.teco_check.specs.Checked.{IsFaultHere}
use Rattle.teco_check.specs.Walk.{first_of, first_within}
use Rattle.teco_check.specs.declared.faults.Fault.{Fault}
use Rattle.teco_check.specs.declared.faults.TheConstants.{MOST_TEXTS}
use Rattle.teco_check.specs.declared.faults.Wrong.{Wrong}
use Rattle.teco_check.specs.declared.faults.Wrong.TheVariants as wrongs
use Rattle.teco_lint.specs.Faults.{after_first, fault_within, found_within, has_fault_among, fault_itself, passed, passed_first, shifted, span_before, span_in}
use Rattle.teco_lint.specs.Spelling.{is_misspelt_text, misspelt_within}
use Rattle.teco_lint.specs.Told.{ends_run, is_in_text, own_fault}
use Rattle.teco_lint.specs.declared.remarks.FaultIn.{FaultIn}
use Rattle.teco_lint.proofs.Misspelt.{by_deep, by_none, by_seen, by_unseen}

-- where a text lies whose delimiter is the last byte of its token
pub put_span : (from to : ℕ) (bytes : List ℕ) (begin whole : ℕ) → from ≤ to → to + 1 ≡ whole → whole ≤ length bytes
    → shifted begin (span_before (length bytes) (length (drop whole bytes)) (length (take (to - from) (drop from bytes)))) ≡ record { from = begin + from; to = begin + to }
put_span from to bytes begin whole ordered ends inside =
    let rest : length (drop whole bytes) ≡ length bytes - whole = length-drop whole bytes in
    let later : length (drop from bytes) ≡ length bytes - from = length-drop from bytes in
    let long : length (take (to - from) (drop from bytes)) ≡ to - from = length-take-le (to - from) (drop from bytes) (omega arith) in
    let last : length bytes - length (drop whole bytes) - 1 ≡ to = omega arith in
    let first : length bytes - length (drop whole bytes) - 1 - length (take (to - from) (drop from bytes)) ≡ from = omega arith in
    ap (λ (n : ℕ). record { from = begin + n; to = begin + (length bytes - length (drop whole bytes) - 1) }) first
    ∙ ap (λ (n : ℕ). record { from = begin + from; to = begin + n }) last

-- a part without a byte
pub empty_part : (n : ℕ) (xs : List ℕ) → take (n - n) (drop n xs) ≡ []
empty_part n xs = let none : n - n ≡ 0 = omega arith in ap (λ (k : ℕ). take k (drop n xs)) none

-- a part of a part
pub part_of_part : (from to begin end : ℕ) (text : List ℕ) → from ≤ to → to ≤ end - begin
    → take (begin + to - (begin + from)) (drop (begin + from) text) ≡ take (to - from) (drop from (take (end - begin) (drop begin text)))
part_of_part from to begin end text ordered inside =
    let cut : end - begin ≡ from + (end - begin - from) = omega arith in
    let short : to - from ≤ end - begin - from = omega arith in
    let one : drop from (take (end - begin) (drop begin text)) ≡ take (end - begin - from) (drop from (drop begin text)) =
    ap (λ (n : ℕ). drop from (take n (drop begin text))) cut ∙ drop-take from (end - begin - from) (drop begin text) in
    let two : drop from (drop begin text) ≡ drop (begin + from) text = drop-drop from begin text in
    let n : begin + to - (begin + from) ≡ to - from = omega arith in
    ap (λ (k : ℕ). take k (drop (begin + from) text)) n
    ∙ sym (ap (take (to - from)) one ∙ take-take (to - from) (end - begin - from) (drop from (drop begin text)) short ∙ ap (take (to - from)) two)

-- nothing is found where no bytes are
none_there : (p : Profile) (w : Wrong) → IsFaultHere p [] w → ⊥
unfolding scan after_fillers
none_there p (wrongs.Unreadable c) h = let no : ⊥ = cc in no
none_there p (wrongs.Stray c opening) h = let is = h.1.1.0 in cc
none_there p wrongs.Unended h = let is = h.1.1.0 in cc
none_there p wrongs.TooDeep h = let is = h.1.1.0 in cc
none_there p wrongs.NoTag h = let is = h.1.1.0 in cc
none_there p wrongs.Calls h = let is = h.1.1.0 in cc
none_there p wrongs.Loads h = let is = h.1.1.0 in cc
none_there p wrongs.InText h = let is = h.1.1.0 in cc

-- a fault lies in its text
pub lies_inside : (p : Profile) (bytes : List ℕ) (at : ℕ) (w : Wrong) → IsFaultHere p (drop at bytes) w → at ≤ length bytes
lies_inside p bytes at w h = elim (cases_lt (length bytes) at) [
  | inl past ↦ absurd (none_there p w (subst (λ (bs : List ℕ). IsFaultHere p bs w) (drop_all at bytes (omega (arith, past))) h))
  | inr ge ↦ ge
]

-- the fault itself, one text deeper; and where none is looked into
pub deeper : (p : Profile) (n : ℕ) (code : List Bool) (text : List ℕ) (f : FaultIn) → 0 < n → is_in_text f.wrong ≡ true
    → fault_itself p n code text f ≡ found_within (fault_itself p (n - 1) code text) f (span_in p text f) (first_within p (n - 1) code (bytes_in text (span_in p text f)))
unfolding fault_itself
deeper p zero code text f h is = absurd (omega arith)
deeper p (suc n) code text f h is = simp unary_clauses (rw is refl)

pub none_deeper : (p : Profile) (n : ℕ) (code : List Bool) (text : List ℕ) (f : FaultIn) (s : Span) → 0 < n → is_in_text f.wrong ≡ true → s ≡ span_in p text f
    → None ≡ first_within p (n - 1) code (bytes_in text s) → fault_itself p n code text f ≡ f
none_deeper p n code text f s h is e none = deeper p n code text f h is
    ∙ ap (found_within (fault_itself p (n - 1) code text) f (span_in p text f)) (sym (subst (λ (x : Span). None ≡ first_within p (n - 1) code (bytes_in text x)) e none))

pub some_deeper : (p : Profile) (n : ℕ) (code : List Bool) (text : List ℕ) (f : FaultIn) (s : Span) (inner : Fault) → 0 < n → is_in_text f.wrong ≡ true → s ≡ span_in p text f
    → Some inner ≡ first_within p (n - 1) code (bytes_in text s) → fault_itself p n code text f ≡ fault_itself p (n - 1) code text (fault_within s inner)
some_deeper p n code text f s inner h is e some = deeper p n code text f h is
    ∙ ap (found_within (fault_itself p (n - 1) code text) f (span_in p text f)) (sym (subst (λ (x : Span). Some inner ≡ first_within p (n - 1) code (bytes_in text x)) e some))
    ∙ ap (λ (x : Span). fault_itself p (n - 1) code text (fault_within x inner)) (sym e)

pub deepest : (p : Profile) (n : ℕ) (code : List Bool) (text : List ℕ) (f : FaultIn) → (n ≡ 0) ⊎ (is_in_text f.wrong ≡ false) → fault_itself p n code text f ≡ f
unfolding fault_itself
deepest p zero code text f h = refl
deepest p (suc n) code text f (inl h) = absurd (omega arith)
deepest p (suc n) code text f (inr is) = rw is refl

-- a fault that is in no text that is looked into ends a run if it makes its text misspelt
module _ (p : Profile) (n : ℕ) (code : List Bool) (bytes : List ℕ) (at : ℕ) where
  abbrev IsFirst : Wrong → Type 0
  IsFirst w = Some (record { at = at; wrong = w }) ≡ first_within p n code bytes

  pub ends_by : (w : Wrong) → IsFirst w → (n ≡ 0) ⊎ (is_in_text w ≡ false) → ends_run w ≡ misspelt_within p n code bytes
  ends_by (wrongs.Unreadable c) is h = sym (by_seen p n code bytes _ is (λ e. cc) (λ e. cc) (λ e. cc))
  ends_by (wrongs.Stray c opening) is h = sym (by_seen p n code bytes _ is (λ e. cc) (λ e. cc) (λ e. cc))
  ends_by wrongs.Unended is h = sym (by_seen p n code bytes _ is (λ e. cc) (λ e. cc) (λ e. cc))
  ends_by wrongs.TooDeep is h = sym (by_seen p n code bytes _ is (λ e. cc) (λ e. cc) (λ e. cc))
  ends_by wrongs.NoTag is h = sym (by_seen p n code bytes _ is (λ e. cc) (λ e. cc) (λ e. cc))
  ends_by wrongs.Calls is h = sym (by_unseen p n code bytes _ is (inl refl))
  ends_by wrongs.Loads is h = sym (by_unseen p n code bytes _ is (inr refl))
  ends_by wrongs.InText is (inl h) = sym (by_deep p n code bytes _ is refl h)
  ends_by wrongs.InText is (inr h) = absurd (true≢false h)

pub in_text_is : (w : Wrong) → is_in_text w ≡ true → w ≡ wrongs.InText
in_text_is (wrongs.Unreadable c) h = cc
in_text_is (wrongs.Stray c opening) h = cc
in_text_is wrongs.Unended h = cc
in_text_is wrongs.TooDeep h = cc
in_text_is wrongs.NoTag h = cc
in_text_is wrongs.Calls h = cc
in_text_is wrongs.Loads h = cc
in_text_is wrongs.InText h = refl

-- the things that are told of a text, one after the other
pub among : (p : Profile) (n : ℕ) (code : List Bool) (text : List ℕ) (first : Option Fault) → 0 < n → first ≡ first_of p code text
    → has_fault_among n p code text ≡ (is_misspelt_text p code text || after_first (has_fault_among (n - 1) p code) p code text first)
unfolding has_fault_among
among p zero code text first h is = absurd (omega arith)
among p (suc n) code text first h is = simp unary_clauses (rw is refl)

-- a clean text has none
pub none_among : (p : Profile) (n : ℕ) (code : List Bool) (text : List ℕ) → 0 < n → None ≡ first_of p code text → has_fault_among n p code text ≡ false
none_among p n code text h is = among p n code text None h is ∙ rw (by_none p _ code text is) refl

module _ (p : Profile) (code : List Bool) where
  -- what is told first, and the text that is read on with
  pub first_told : (n : ℕ) (text : List ℕ) (first : Fault) (f : FaultIn) (ends_so : Bool) → 0 < n → Some first ≡ first_of p code text
      → f ≡ fault_itself p MOST_TEXTS code text (own_fault (length text) first) → ends_so ≡ is_misspelt_text p code text
      → has_fault_among n p code text ≡ (ends_so || has_fault_among (n - 1) p code (passed p text f))
  first_told n text first f ends_so h is itself ends = among p n code text (Some first) h is
      ∙ ap (λ (b : Bool). b || has_fault_among (n - 1) p code (passed_first p code text first)) (sym ends)
      ∙ ap (λ (g : FaultIn). ends_so || has_fault_among (n - 1) p code (passed p text g)) (sym itself)

  -- what is told next; past a fault nothing hangs on the text any more
  pub told_next : (n i : ℕ) (before ends_so all : Bool) (text now : List ℕ) (f later : FaultIn) (next : Fault) → i < n
      → all ≡ (before || has_fault_among (n - i) p code (passed p text f)) → (before ≡ false → now ≡ passed p text f) → Some next ≡ first_of p code now
      → later ≡ fault_itself p MOST_TEXTS code now (own_fault (length now) next) → ends_so ≡ is_misspelt_text p code now
      → all ≡ ((before || ends_so) || has_fault_among (n - (i + 1)) p code (passed p now later))
  told_next n i true ends_so all text now f later next l is same first itself ends = is
  told_next n i false ends_so all text now f later next l is same first itself ends =
      let fewer : n - i - 1 ≡ n - (i + 1) = omega arith in
      is ∙ ap (has_fault_among (n - i) p code) (sym (same refl)) ∙ first_told (n - i) now next later ends_so (omega arith) first itself ends
      ∙ ap (λ (k : ℕ). ends_so || has_fault_among k p code (passed p now later)) fewer

  -- nothing more is told
  pub told_last : (n i : ℕ) (before all : Bool) (text now : List ℕ) (f : FaultIn) → i < n
      → all ≡ (before || has_fault_among (n - i) p code (passed p text f)) → (before ≡ false → now ≡ passed p text f) → None ≡ first_of p code now → before ≡ all
  told_last n i true all text now f l is same none = sym is
  told_last n i false all text now f l is same none =
      sym (is ∙ ap (has_fault_among (n - i) p code) (sym (same refl)) ∙ none_among p (n - i) code now (omega arith) none)

  -- no more may be told
  pub told_all : (n i : ℕ) (before all : Bool) (text : List ℕ) → n ≤ i → all ≡ (before || has_fault_among (n - i) p code text) → before ≡ all
  unfolding has_fault_among
  told_all n i before all text h is =
      let none : n - i ≡ 0 = omega arith in
      sym (is ∙ ap (λ (k : ℕ). before || has_fault_among k p code text) none ∙ or_none before)
    where
      or_none : (b : Bool) → (b || false) ≡ b
      or_none true = refl
      or_none false = refl

-- what isn't looked into, where no fault is told
pub unseen : (ends told : Bool) → (ends ≡ true → told ≡ true) → told ≡ false → ends ≡ false
unseen true told h none = absurd (true≢false (sym (h refl) ∙ none))
unseen false told h none = refl

-- one of both
pub either_is : (a b : Bool) (A : Type 0) → (a ≡ true → A) → (b ≡ true → A) → a || b ≡ true → A
either_is true b A first second h = first refl
either_is false b A first second h = second h
