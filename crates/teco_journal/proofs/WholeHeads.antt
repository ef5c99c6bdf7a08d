-- Whole heads: each tells one start, whatever comes after it; and bytes that begin with none.
use Rattle.std.proofs.Common.{◌≡◌, ℕ, ◌+◌, ◌-◌, ◌<◌, List, [], ◌++◌, length, take, get_or, None, Result, refl, sym, ap, ◌∙◌, subst, arith, append_assoc, append-nil, length-append}
use Rattle.std.specs.Prelude.{codes, OnOk}
use Rattle.std.proofs.lemmas.Result.{on_ok_weaker}
use Rattle.std.proofs.Math.Seq.{take-append_seam}
use Rattle.std.proofs.lemmas.List.{append_cancel_left}
use Rattle.teco_core.specs.declared.profile.Profile.{Profile}
use Rattle.teco_core.specs.declared.profile.Profile.TheVariants.{Named, Wide}
use Rattle.teco_journal.specs.HeadFaults.{Differ, IsCutOff, Fails, FailsAt, IsNoVersion, HeadFails, HasNoHead}
use Rattle.teco_journal.specs.declared.head_reader.HeadFault.{HeadFault}
use Rattle.teco_journal.specs.declared.head_reader.HeadFault.TheVariants.{Version, Torn, Changed}
use Rattle.teco_journal.specs.Heads.{Beginning, HasHead, FitsNumber, version, start_lines, head_of, begun, whole_head}
use Rattle.teco_journal.specs.Lines.{check_of, line_of}
use Rattle.teco_journal.proofs.Checks.{in_line}
use Rattle.teco_journal.proofs.Cuts.{found_then, cut_more, cut_then}
use Rattle.teco_journal.proofs.HeadParts.{start_lines_same}

-- the last line of a head
abbrev pub last_line : Beginning → List ℕ
last_line o = line_of (head_of o) begun

-- Lines of two versions differ at the byte after the number.
versions_differ : (x y : List ℕ) → version Named ++ x ≡ version Wide ++ y → ⊥
versions_differ x y e = (let other : get_or (version Named ++ x) 14 0 ≡ get_or (version Wide ++ y) 14 0 = ap (λ (l : List ℕ). get_or l 14 0) e in cc)

versions_same : (p q : Profile) (x y : List ℕ) → version p ++ x ≡ version q ++ y → (p ≡ q) × (x ≡ y)
versions_same Named Named x y e = (refl, append_cancel_left (version Named) x y e)
versions_same Named Wide x y e = absurd (versions_differ x y e)
versions_same Wide Named x y e = absurd (versions_differ y x (sym e))
versions_same Wide Wide x y e = (refl, append_cancel_left (version Wide) x y e)

heads_same : (a b : Beginning) (x y : List ℕ) → HasHead a → HasHead b → head_of a ++ x ≡ head_of b ++ y → (a ≡ b) × (x ≡ y)
unfolding head_of
heads_same a b x y p q e =
    let first = versions_same a.profile b.profile (start_lines a ++ x) (start_lines b ++ y)
    (sym (append_assoc (version a.profile) (start_lines a) x) ∙ e ∙ append_assoc (version b.profile) (start_lines b) y) in
    start_lines_same a b x y p q first.0 first.1

pub whole_heads_same : (a b : Beginning) (x y : List ℕ) → HasHead a → HasHead b → whole_head a ++ x ≡ whole_head b ++ y → (a ≡ b) × (x ≡ y)
whole_heads_same a b x y p q e =
    let first = heads_same a b (last_line a ++ x) (last_line b ++ y) p q (sym (append_assoc (head_of a) (last_line a) x) ∙ e ∙ append_assoc (head_of b) (last_line b) y) in
    (first.0, append_cancel_left (last_line b) x y (ap (λ (o : Beginning). last_line o ++ x) (sym first.0) ∙ first.1))

head_begins : (o : Beginning) (x : List ℕ) → (rest : List ℕ) × (head_of o ++ x ≡ version o.profile ++ rest)
unfolding head_of
head_begins o x = (start_lines o ++ x, append_assoc (version o.profile) (start_lines o) x)

-- Bytes that are refused begin with no head.
pub refused_has_none : (bytes : List ℕ) (fault : HeadFault) → HeadFails bytes fault → HasNoHead bytes
refused_has_none bytes Version h = λ o fits begins.
    (let front = head_begins o (last_line o ++ begins.0) in
    h o.profile front.0 [] (sym front.1 ∙ sym (append_assoc (head_of o) (last_line o) begins.0) ∙ sym begins.1 ∙ sym (append-nil bytes)))
refused_has_none bytes Torn h = λ o fits begins.
    (let more : List ℕ = h.2.0 in
    let some : 0 < length more = h.2.1 in
    let same = whole_heads_same h.0 o [] (begins.0 ++ more) h.1 fits
    (append-nil (whole_head h.0) ∙ h.2.2 ∙ ap (λ (l : List ℕ). l ++ more) begins.1 ∙ append_assoc (whole_head o) begins.0 more) in
    let none : 0 ≡ length begins.0 + length more = ap length same.1 ∙ length-append begins.0 more in
    absurd (omega arith))
refused_has_none bytes Changed h = λ o fits begins. h.2 o fits begins.0 [] (sym begins.1 ∙ sym (append-nil bytes))

-- a start in a profile that any head can tell
first_beginning : Profile → Beginning
first_beginning p = record { profile = p; lines = 0; depth = None; input = [] }

first_fits : (p : Profile) → HasHead (first_beginning p)
unfolding first_beginning
first_fits p = (let zero_wide : FitsNumber 0 = omega arith in (zero_wide, tt, zero_wide))

cut_in_version : (p : Profile) (bytes : List ℕ) → IsCutOff bytes (version p) → HeadFails bytes Torn
unfolding head_of first_beginning
cut_in_version p bytes c = (
  first_beginning p,
  first_fits p,
  cut_more (head_of (first_beginning p)) (last_line (first_beginning p)) bytes (cut_more (version p) (start_lines (first_beginning p)) bytes c),
)

pub no_version : (bytes : List ℕ) (fault : HeadFault) → IsNoVersion bytes fault → HeadFails bytes fault
no_version bytes Version h = h
no_version bytes Torn h = cut_in_version h.0 bytes h.1
no_version bytes Changed h = absurd h

-- The lines of a start are the same in each profile.
in_profile : Profile → Beginning → Beginning
in_profile p o = record o { profile = p }

cut_in_start : (p : Profile) (bytes rest : List ℕ) → bytes ≡ version p ++ rest → Fails HasHead start_lines rest Torn → HeadFails bytes Torn
unfolding head_of in_profile
cut_in_start p bytes rest is h = (
  in_profile p h.0,
  h.1,
  cut_more (head_of (in_profile p h.0)) (last_line (in_profile p h.0)) bytes (cut_then (version p) (start_lines h.0) bytes rest is h.2),
)

differs_in_start : (p : Profile) (bytes rest : List ℕ) → bytes ≡ version p ++ rest → Fails HasHead start_lines rest Changed → (o : Beginning) → HasHead o
    → Differ (whole_head o) bytes
unfolding head_of
differs_in_start p bytes rest is h o fits x y e =
    h o fits (last_line o ++ x) y
    (versions_same o.profile p (start_lines o ++ (last_line o ++ x)) (rest ++ y)
    (sym (append_assoc (version o.profile) (start_lines o) (last_line o ++ x)) ∙ sym (append_assoc (head_of o) (last_line o) x) ∙ e ∙ ap (λ (l : List ℕ). l ++ y) is
    ∙ append_assoc (version p) rest y)).1

pub no_start : (p : Profile) (bytes rest : List ℕ) (fault : HeadFault) → bytes ≡ version p ++ rest → Fails HasHead start_lines rest fault → HeadFails bytes fault
no_start p bytes rest Torn is h = cut_in_start p bytes rest is h
no_start p bytes rest Changed is h = (p, (rest, is), differs_in_start p bytes rest is h)
no_start p bytes rest Version is h = absurd h

pub head_found : (p : Profile) (bytes rest left : List ℕ) (o : Beginning) → bytes ≡ version p ++ rest → o.profile ≡ p → rest ≡ start_lines o ++ left → bytes ≡ head_of o ++ left
unfolding head_of
head_found p bytes rest left o is same there =
    found_then (version o.profile) (start_lines o) bytes rest left (is ∙ ap (λ (q : Profile). version q ++ rest) (sym same)) there

-- the bytes of the head before its last line
pub head_front : (bytes left : List ℕ) (o : Beginning) → bytes ≡ head_of o ++ left → take (length bytes - length left) bytes ≡ head_of o
head_front bytes left o is =
    let all : length bytes ≡ length (head_of o) + length left = ap length is ∙ length-append (head_of o) left in
    let at : length bytes - length left ≡ length (head_of o) = omega arith in
    ap (λ (i : ℕ). take i bytes) at ∙ ap (take (length (head_of o))) is ∙ take-append_seam (head_of o) left

last_differs : (bytes left : List ℕ) (o : Beginning) → HasHead o → bytes ≡ head_of o ++ left → Differ (last_line o) left → (a : Beginning) → HasHead a → Differ (whole_head a) bytes
last_differs bytes left o fits is d a has x y e =
    let same = heads_same a o (last_line a ++ x) (left ++ y) has fits
    (sym (append_assoc (head_of a) (last_line a) x) ∙ e ∙ ap (λ (l : List ℕ). l ++ y) is ∙ append_assoc (head_of o) left y) in
    d x y (ap (λ (b : Beginning). last_line b ++ x) (sym same.0) ∙ same.1)

pub last_line_is : (o : Beginning) (check : List ℕ) → check ≡ check_of (head_of o) begun → check ++ codes " begun\n" ≡ last_line o
last_line_is o check is = ap (λ (l : List ℕ). l ++ codes " begun\n") is ∙ sym (in_line (check_of (head_of o) begun) begun)

pub no_last_line : (p : Profile) (bytes rest left word : List ℕ) (o : Beginning) (fault : HeadFault) → HasHead o → bytes ≡ version p ++ rest → bytes ≡ head_of o ++ left
    → word ≡ last_line o → FailsAt word left fault → HeadFails bytes fault
no_last_line p bytes rest left word o Torn fits begins is same h =
    (o, fits, cut_then (head_of o) (last_line o) bytes left is (subst (λ (w : List ℕ). IsCutOff left w) same h))
no_last_line p bytes rest left word o Changed fits begins is same h =
    (p, (rest, begins), last_differs bytes left o fits is (subst (λ (w : List ℕ). Differ w left) same h))
no_last_line p bytes rest left word o Version fits begins is same h = absurd h

pub whole_found : (bytes left last word : List ℕ) (o : Beginning) → bytes ≡ head_of o ++ left → word ≡ last_line o → left ≡ word ++ last → bytes ≡ whole_head o ++ last
whole_found bytes left last word o is same there =
    found_then (head_of o) (last_line o) bytes left last is (there ∙ ap (λ (w : List ℕ). w ++ last) same)

-- A head is put in two parts.
pub head_put : {T E : Type 0} (r : Result T E) (old mid new : List ℕ) (o : Beginning) → mid ≡ old ++ version o.profile → OnOk r (new ≡ mid ++ start_lines o) → OnOk r (new ≡ old ++ head_of o)
unfolding head_of
head_put r old mid new o first then =
    on_ok_weaker r (λ (is : new ≡ mid ++ start_lines o). is ∙ ap (λ (l : List ℕ). l ++ start_lines o) first ∙ append_assoc old (version o.profile) (start_lines o)) then
