-- Which registers are noted, of bytes and of their parts.
use Rattle.std.proofs.Common.{◌≡◌, ℕ, ◌+◌, ◌≤◌, ◌⊎◌, inl, inr, Bool, false, List, [], ◌∷◌, length, drop, min, replicate, sym, ap, ◌∙◌, subst, true, true≢false, arith}
use Rattle.std.proofs.lemmas.Bool.{cases_lt}
use Rattle.std.proofs.lemmas.List.{drop_all, drop-drop, get_or-replicate, get_or_past, length-replicate}
use Rattle.teco_core.specs.declared.code.Code.{Code}
use Rattle.teco_core.specs.Register.{Content, content}
use Rattle.teco_scan.specs.Scan.{TokenMeaning, Instruction, found, fault, ended, scan, after_fillers}
use Rattle.teco_check.specs.Checked.{held}
use Rattle.teco_lint.specs.Calls.{AllAreCalled, AnyCalls, AnyCallsWithin, AreCalledOver, Calls, CallsWithin, MayCall, Notes, called_by_register, called_by_string, register_call, calls_first, calls_later, calls_past_fault, within_first, within_text, within_later, within_past_fault}
use Rattle.teco_lint.specs.Strings.{strings_of}
use Rattle.teco_core.specs.declared.profile.Profile.{Profile}

-- what is noted of one part, and then of another
pub joined : (P W P1 W1 P2 W2 : ℕ → Type 0) (a b c : List Bool) → ((q : ℕ) → P q → P1 q ⊎ P2 q) → ((q : ℕ) → W1 q → W q) → ((q : ℕ) → W2 q → W q)
    → Notes P1 W1 a b → Notes P2 W2 b c → Notes P W a c
joined P W P1 W1 P2 W2 a b c cut in_first in_second first second = record {
  kept = λ q h. second.kept q (first.kept q h);
  all = λ q p. elim (cut q p) [ inl here ↦ second.kept q (first.all q here) | inr there ↦ second.all q there ];
  only = λ q h. elim (second.only q h) [
    | inl was ↦ (elim (first.only q was) [ inl before ↦ inl before | inr here ↦ inr (in_first q here) ])
    | inr there ↦ inr (in_second q there)
  ];
}

-- what is noted of the only part
pub alone : (P W P1 W1 : ℕ → Type 0) (a b : List Bool) → ((q : ℕ) → P q → P1 q) → ((q : ℕ) → W1 q → W q) → Notes P1 W1 a b → Notes P W a b
alone P W P1 W1 a b cut inside part = record {
  kept = part.kept;
  all = λ q p. part.all q (cut q p);
  only = λ q h. elim (part.only q h) [ inl was ↦ inl was | inr here ↦ inr (inside q here) ];
}

-- where nothing is called, nothing is noted
pub none_noted : (P W : ℕ → Type 0) (a : List Bool) → ((q : ℕ) → P q → ⊥) → Notes P W a a
none_noted P W a none = record { kept = λ q h. h; all = λ q p. absurd (none q p); only = λ q h. inl h }

calls_found : (p : Profile) (q : ℕ) (bs rest : List ℕ) (t : TokenMeaning) → scan p bs ≡ found t rest → Calls p q bs → (t.instruction ≡ register_call q) ⊎ Calls p q rest
calls_found p q bs rest t is (calls_first {rest = other} {t = token} was calls) =
    let same : found token other ≡ found t rest = sym was ∙ is in
    let e : token ≡ t = cc in
    inl (subst (λ (m : TokenMeaning). m.instruction ≡ register_call q) e calls)
calls_found p q bs rest t is (calls_later {rest = other} {t = token} was calls) =
    let same : found token other ≡ found t rest = sym was ∙ is in
    let e : other ≡ rest = cc in
    inr (subst (λ (xs : List ℕ). Calls p q xs) e calls)
calls_found p q bs rest t is (calls_past_fault {c = code} was calls) =
    let same : fault code ≡ found t rest = sym was ∙ is in
    absurd (let no : ⊥ = cc in no)

calls_fault : (p : Profile) (q : ℕ) (bs : List ℕ) (c : Code) → scan p bs ≡ fault c → Calls p q bs → Calls p q (drop 1 (after_fillers bs))
calls_fault p q bs c is (calls_first {rest = other} {t = token} was calls) =
    let same : found token other ≡ fault c = sym was ∙ is in
    absurd (let no : ⊥ = cc in no)
calls_fault p q bs c is (calls_later {rest = other} {t = token} was calls) =
    let same : found token other ≡ fault c = sym was ∙ is in
    absurd (let no : ⊥ = cc in no)
calls_fault p q bs c is (calls_past_fault was calls) = calls

calls_ended : (p : Profile) (q : ℕ) (bs : List ℕ) → scan p bs ≡ ended → Calls p q bs → ⊥
calls_ended p q bs is (calls_first {rest = other} {t = token} was calls) =
    let same : found token other ≡ ended = sym was ∙ is in
    cc
calls_ended p q bs is (calls_later {rest = other} {t = token} was calls) =
    let same : found token other ≡ ended = sym was ∙ is in
    cc
calls_ended p q bs is (calls_past_fault {c = code} was calls) =
    let same : fault code ≡ ended = sym was ∙ is in
    cc

-- what is noted of some bytes
abbrev pub OfBytes : Profile → List ℕ → List Bool → List Bool → Type 0
OfBytes p bs a b = Notes (λ q. Calls p q bs) (λ q. CallsWithin p q bs) a b

-- what is noted of a token
abbrev pub OfToken : Profile → Instruction → List Bool → List Bool → Type 0
OfToken p i a b = Notes (λ q. i ≡ register_call q) (MayCall p i) a b

may_first : (p : Profile) (q : ℕ) (bs rest : List ℕ) (t : TokenMeaning) → scan p bs ≡ found t rest → MayCall p t.instruction q → CallsWithin p q bs
may_first p q bs rest t is (inl calls) = within_first is calls
may_first p q bs rest t is (inr puts) = within_text is puts.2 puts.3

-- a token, and the bytes after it
pub token_noted : (p : Profile) (bs rest : List ℕ) (t : TokenMeaning) (a b c : List Bool) → scan p bs ≡ found t rest
    → OfToken p t.instruction a b → OfBytes p rest b c → OfBytes p bs a c
token_noted p bs rest t a b c is first later = joined (λ q. Calls p q bs) (λ q. CallsWithin p q bs)
    (λ q. t.instruction ≡ register_call q) (MayCall p t.instruction) (λ q. Calls p q rest) (λ q. CallsWithin p q rest) a b c
    (λ q calls. calls_found p q bs rest t is calls) (λ q may. may_first p q bs rest t is may) (λ q within. within_later is within) first later

-- no token can be read
pub fault_noted : (p : Profile) (bs : List ℕ) (code : Code) (a c : List Bool) → scan p bs ≡ fault code → OfBytes p (drop 1 (after_fillers bs)) a c → OfBytes p bs a c
fault_noted p bs code a c is later = alone (λ q. Calls p q bs) (λ q. CallsWithin p q bs)
    (λ q. Calls p q (drop 1 (after_fillers bs))) (λ q. CallsWithin p q (drop 1 (after_fillers bs))) a c
    (λ q calls. calls_fault p q bs code is calls) (λ q within. within_past_fault is within) later

-- no token is there
pub end_noted : (p : Profile) (bs : List ℕ) (a : List Bool) → scan p bs ≡ ended → OfBytes p bs a a
end_noted p bs a is = none_noted (λ q. Calls p q bs) (λ q. CallsWithin p q bs) a (λ q calls. calls_ended p q bs is calls)

pub nothing_noted : (p : Profile) (bs : List ℕ) (a : List Bool) → bs ≡ [] → OfBytes p bs a a
unfolding scan after_fillers
nothing_noted p bs a is = end_noted p bs a (ap (scan p) is)

-- what is noted of strings
abbrev pub OfStrings : Profile → List (List ℕ) → List Bool → List Bool → Type 0
OfStrings p strings a b = Notes (λ q. AnyCalls p q strings) (λ q. AnyCallsWithin p q strings) a b

-- a string, and those after it
pub string_noted : (p : Profile) (s : List ℕ) (rest : List (List ℕ)) (a b c : List Bool) → OfBytes p s a b → OfStrings p rest b c → OfStrings p (s ∷ rest) a c
string_noted p s rest a b c first later = joined (λ q. AnyCalls p q (s ∷ rest)) (λ q. AnyCallsWithin p q (s ∷ rest))
    (λ q. Calls p q s) (λ q. CallsWithin p q s) (λ q. AnyCalls p q rest) (λ q. AnyCallsWithin p q rest) a b c
    (λ q calls. calls) (λ q within. inl within) (λ q within. inr within) first later

-- the last string
pub last_noted : (p : Profile) (s : List ℕ) (a b : List Bool) → OfBytes p s a b → OfStrings p (s ∷ []) a b
last_noted p s a b part = alone (λ q. AnyCalls p q (s ∷ [])) (λ q. AnyCallsWithin p q (s ∷ [])) (λ q. Calls p q s) (λ q. CallsWithin p q s) a b
    (λ q calls. elim calls [ inl here ↦ here | inr none ↦ absurd none ]) (λ q within. inl within) part

-- what is left after the byte at which no token can be read
pub past_fault : (most from next : ℕ) (xs bs : List ℕ) → next ≡ min (from + 1) most → length xs ≤ most → drop from xs ≡ bs → drop next xs ≡ drop 1 bs
past_fault most from next xs bs is long e = elim (cases_lt from most) [
  | inl lt ↦ (let one : next ≡ from + 1 = omega (arith, is, lt) in ap (λ (n : ℕ). drop n xs) one ∙ sym (drop-drop 1 from xs) ∙ ap (λ (ys : List ℕ). drop 1 ys) e)
  | inr ge ↦ (let none : bs ≡ [] = sym e ∙ drop_all from xs (omega (arith, ge, long)) in
      drop_all next xs (omega (arith, is, ge, long)) ∙ sym (ap (λ (ys : List ℕ). drop 1 ys) none ∙ drop_all 1 [] (omega arith)))
]

none_held : (n q : ℕ) → held (replicate n false) q ≡ false
none_held n q = elim (cases_lt q n) [
  | inl lt ↦ get_or-replicate n q false false lt
  | inr ge ↦ get_or_past (replicate n false) q false (omega (arith, ge, length-replicate n false))
]

-- what is noted at first
pub first_noted : (p : Profile) (registers : List Content) (n : ℕ) (commands : List ℕ) (now : List Bool) → OfStrings p (strings_of commands) (replicate n false) now → AreCalledOver p registers now commands
first_noted p registers n commands now noted = record {
  only = λ q h. elim (noted.only q h) [ inl was ↦ absurd (true≢false (sym was ∙ none_held n q)) | inr within ↦ called_by_string within ];
  all = noted.all;
}

-- what is noted once more, after what registers hold
pub again_noted : (p : Profile) (registers : List Content) (commands : List ℕ) (before mid now : List Bool) → AreCalledOver p registers before commands
    → (AllAreCalled p registers (strings_of commands) before → AllAreCalled p registers (strings_of commands) mid)
    → OfStrings p (strings_of commands) mid now → AreCalledOver p registers now commands
again_noted p registers commands before mid now are holds noted = record {
  only = λ q h. elim (noted.only q h) [ inl was ↦ holds are.only q was | inr within ↦ called_by_string within ];
  all = noted.all;
}

-- what is noted of a register that is called
pub register_noted : (p : Profile) (registers : List Content) (strings : List (List ℕ)) (r : ℕ) (before now : List Bool) → held before r ≡ true
    → OfBytes p (content registers r).text before now → AllAreCalled p registers strings before → AllAreCalled p registers strings now
register_noted p registers strings r before now marked noted are =
    λ q h. elim (noted.only q h) [ inl was ↦ are q was | inr within ↦ called_by_register (are r marked) within ]
