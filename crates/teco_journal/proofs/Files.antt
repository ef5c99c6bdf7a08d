-- The laws of the files.
use Rattle.std.proofs.Common.{◌≡◌, ℕ, ◌+◌, ◌-◌, ◌≤◌, List, [], ◌∷◌, ◌++◌, length, take, drop, sym, ap, ◌∙◌, subst, arith, append_assoc, append-nil, length-append, length-drop}
use Rattle.std.proofs.Math.Seq.{take-append_seam, take-append-add, drop-append-add}
use Rattle.std.proofs.lemmas.List.{take-append-le, take-append-drop}
use Rattle.std.proofs.lemmas.List.Prefix.{front_rest}
use Rattle.teco_journal.specs.Events.{Event}
use Rattle.teco_journal.specs.Lines.{words_of, line_of, check_after, written}
use Rattle.teco_journal.specs.Reading.{Tells}
use Rattle.teco_journal.specs.Heads.{Beginning, file_of, first_check, whole_head}
use Rattle.teco_journal.specs.FileLaws.{CutHeadsAreTorn, FilesAreRead, FilesHoldOnce, FrontsHoldFronts, FilesBegin, FilesGrow, CutFilesLoseOne}
use Rattle.teco_journal.proofs.Fronts.{written_one, written_is_read, bytes_tell_once, fronts_tell_fronts, crashes_lose_one}
use Rattle.teco_journal.proofs.WholeHeads.{whole_heads_same}

pub cut_heads_are_torn : CutHeadsAreTorn
cut_heads_are_torn o rest n fits less =
    let whole : List ℕ = whole_head o in
    let left : length (drop n whole) ≡ length whole - n = length-drop n whole in (
      o,
      fits,
      (
        drop n whole,
        omega arith,
        sym (take-append-drop n whole) ∙ ap (λ (l : List ℕ). l ++ drop n whole) (sym (take-append-le n whole rest (omega arith))),
      ),
    )

pub files_are_read : FilesAreRead
files_are_read o torn es fits have one = record {
  fits = fits;
  rest = written (first_check o) es ++ torn;
  head = append_assoc (whole_head o) (written (first_check o) es) torn;
  tells = written_is_read (first_check o) torn es have one;
}

pub files_hold_once : FilesHoldOnce
files_hold_once bytes a b es fs h k =
    let same = whole_heads_same a b h.rest k.rest h.fits k.fits (sym h.head ∙ k.head) in
    let there : Tells (first_check b) k.rest es =
    subst (λ (o : Beginning). Tells (first_check o) k.rest es) same.0 (subst (λ (l : List ℕ). Tells (first_check a) l es) same.1 h.tells) in
    (same.0, bytes_tell_once (first_check b) k.rest es fs there k.tells)

pub fronts_hold_fronts : FrontsHoldFronts
fronts_hold_fronts bytes n a b es fs h k =
    let more : List ℕ = drop n bytes in
    let is : bytes ≡ whole_head b ++ (k.rest ++ more) =
    sym (take-append-drop n bytes) ∙ ap (λ (l : List ℕ). l ++ more) k.head ∙ append_assoc (whole_head b) k.rest more in
    let same = whole_heads_same a b h.rest (k.rest ++ more) h.fits k.fits (sym h.head ∙ is) in
    let all : Tells (first_check b) (k.rest ++ more) es =
    subst (λ (o : Beginning). Tells (first_check o) (k.rest ++ more) es) same.0 (subst (λ (l : List ℕ). Tells (first_check a) l es) same.1 h.tells) in
    let part : Tells (first_check b) (take (length k.rest) (k.rest ++ more)) fs = subst (λ (l : List ℕ). Tells (first_check b) l fs) (sym (take-append_seam k.rest more)) k.tells in
    let rest = fronts_tell_fronts (first_check b) (k.rest ++ more) (length k.rest) es fs all part in
    (same.0, rest.0, rest.1)

pub files_begin : FilesBegin
unfolding written
files_begin b = append-nil (whole_head b)

pub files_grow : FilesGrow
files_grow o es e =
    ap (λ (l : List ℕ). whole_head o ++ l) (written_one (first_check o) es e)
    ∙ sym (append_assoc (whole_head o) (written (first_check o) es) (line_of (check_after (first_check o) es) (words_of e)))

pub cut_files_lose_one : CutFilesLoseOne
cut_files_lose_one a b es fs e n fits have has low k =
    let whole : List ℕ = whole_head a in
    let before : List ℕ = written (first_check a) es in
    let after : List ℕ = written (first_check a) (es ++ e ∷ []) in
    let long : length (whole ++ before) ≡ length whole + length before = length-append whole before in
    let enough : length (whole ++ before) ≤ n = low in
    let m : ℕ = n - length whole in
    let at : n ≡ length whole + m = omega arith in
    let cut : take n (whole ++ after) ≡ whole ++ take m after = ap (λ (i : ℕ). take i (whole ++ after)) at ∙ take-append-add whole after m in
    let same = whole_heads_same a b (take m after) k.rest fits k.fits (sym cut ∙ k.head) in
    let there : Tells (first_check a) (take m after) fs =
    subst (λ (o : Beginning). Tells (first_check o) (take m after) fs) (sym same.0) (subst (λ (l : List ℕ). Tells (first_check b) l fs) (sym same.1) k.tells) in
    (same.0, crashes_lose_one (first_check a) es fs e m have has (omega arith) there)

-- what comes after the records of a file, counted from its beginning
pub file_end : (bytes rest : List ℕ) (o : Beginning) (es : List Event) (good from : ℕ) → bytes ≡ whole_head o ++ rest → Tells (first_check o) rest es
    → good ≡ length (written (first_check o) es) → from ≡ good + (length bytes - length rest) → drop from bytes ≡ drop good rest
file_end bytes rest o es good from is t at there =
    let all : length bytes ≡ length (whole_head o) + length rest = ap length is ∙ length-append (whole_head o) rest in
    let place : from ≡ length (whole_head o) + good = omega arith in
    ap (λ (i : ℕ). drop i bytes) place ∙ ap (drop (length (whole_head o) + good)) is ∙ drop-append-add (whole_head o) rest good

pub file_front : (bytes rest : List ℕ) (o : Beginning) (es : List Event) (good from : ℕ) → bytes ≡ whole_head o ++ rest → Tells (first_check o) rest es
    → good ≡ length (written (first_check o) es) → from ≡ good + (length bytes - length rest) → bytes ≡ file_of o es ++ drop from bytes
file_front bytes rest o es good from is t at there =
    let lines : List ℕ = written (first_check o) es in
    let left : drop good rest ≡ t.front.0 = ap (λ (i : ℕ). drop i rest) at ∙ front_rest rest lines t.front.0 t.front.1 in
    is ∙ ap (λ (l : List ℕ). whole_head o ++ l) t.front.1 ∙ sym (append_assoc (whole_head o) lines t.front.0)
    ∙ ap (λ (l : List ℕ). file_of o es ++ l) (sym (file_end bytes rest o es good from is t at there ∙ left))
