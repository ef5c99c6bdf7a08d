-- The spots of a text, one byte after the other, and what is marked by them.
use Rattle.std.proofs.Common.{◌≡◌, ◌∙◌, ℕ, ◌+◌, ◌-◌, ◌<◌, ◌≤◌, Bool, true, false, List, [], ◌∷◌, ◌++◌, length, take, get_or, if◌then◌else◌, Some, refl, sym, ap, ap₂, arith, inl, inr, length-append, length-drop, length-take-le}
use Rattle.std.specs.Prelude.{count_by, nat_le, not, ◌&&◌}
use Rattle.std.specs.declared.alloc.Global.{Global}
use Rattle.std.specs.declared.vec.Vec.{Vec}
use Rattle.std.specs.List.{after_last, suffix_len}
use Rattle.std.proofs.lemmas.Bool.{and_left, cases_lt, le-leb, lt-leb}
use Rattle.std.proofs.Math.ListN.{get_or-append}
use Rattle.std.proofs.Math.Seq.{get_or-append_seam}
use Rattle.std.proofs.lemmas.List.{get_or_past}
use Rattle.std.proofs.lemmas.Option.{slice_get-get_or}
use Rattle.std.proofs.lemmas.List.Sums.{count_by-le-length, count_by_more_no, count_by_more_yes, suffix_len-le-length, suffix_len-take_no, suffix_len-take_yes}
use Rattle.teco_messages.specs.Spot.{is_newline, spot_of}
use Rattle.teco_messages.specs.declared.spot.Spot.{Spot}
use Rattle.teco_debugger.specs.Marks.{MarkText, is_marked, mark_of, spot_behind}
use Rattle.teco_debugger.specs.Moving.{is_any_there, is_spot}
use Rattle.teco_debugger.specs.Sources.{shown_string}
use Rattle.teco_debugger.specs.declared.sources.SourceText.{SourceText}
use Rattle.teco_debugger.specs.declared.stops.Break.{Break}

abbrev is_other : ℕ → Bool
is_other b = not (is_newline b)

-- the column, by how many bytes of the line are before it
column_is : (xs : List ℕ) → length (after_last is_newline xs) ≡ suffix_len is_other xs
column_is xs = omega (arith, length-drop (length xs - suffix_len is_other xs) xs, suffix_len-le-length is_other xs)

abbrev spot : ℕ → ℕ → Spot
spot line column = record { line = line; column = column }

line_after : (text : List ℕ) (i : ℕ) (so : Bool) → i < length text → is_newline (get_or text i 0) ≡ so
    → count_by is_newline (take (i + 1) text) ≡ (if so then count_by is_newline (take i text) + 1 else count_by is_newline (take i text))
line_after text i true within new = count_by_more_yes is_newline text i 0 within new
line_after text i false within new = count_by_more_no is_newline text i 0 within new

column_after : (text : List ℕ) (i n : ℕ) (so : Bool) → n ≡ i + 1 → i ≡ n - 1 → i < length text → is_newline (get_or text (n - 1) 0) ≡ so
    → suffix_len is_other (take n text) ≡ (if so then 0 else 1 + suffix_len is_other (take (n - 1) text))
column_after text i n true is back within new = suffix_len-take_no is_other text n 0 (omega (arith, is)) (omega (arith, is, within)) (ap not new)
column_after text i n false is back within new = suffix_len-take_yes is_other text n 0 (omega (arith, is)) (omega (arith, is, within)) (ap not new)

spots_by : (so : Bool) (l c m d : ℕ) → m ≡ (if so then l + 1 else l) → d ≡ (if so then 0 else 1 + c) → (if so then spot (l + 1 + 1) 1 else spot (l + 1) (c + 1 + 1)) ≡ spot (m + 1) (d + 1)
spots_by true l c m d line column = ap₂ (λ x y. spot (x + 1) (y + 1)) (sym line) (sym column)
spots_by false l c m d line column = ap₂ (λ x y. spot (x + 1) (y + 1)) (sym line) (sym (column ∙ omega arith))

spots_behind : (text : List ℕ) (i : ℕ) (so : Bool) → so ≡ is_newline (get_or text i 0) → i < length text
    → (if so then spot (count_by is_newline (take i text) + 1 + 1) 1 else spot (count_by is_newline (take i text) + 1) (suffix_len is_other (take i text) + 1 + 1))
    ≡ spot (count_by is_newline (take (i + 1) text) + 1) (suffix_len is_other (take (i + 1) text) + 1)
spots_behind text i so new within =
    let back : i + 1 - 1 ≡ i = omega arith in
    let here : is_newline (get_or text (i + 1 - 1) 0) ≡ so = ap (λ (k : ℕ). is_newline (get_or text k 0)) back ∙ sym new in
    let column : suffix_len is_other (take (i + 1) text) ≡ (if so then 0 else 1 + suffix_len is_other (take i text)) =
    column_after text i (i + 1) so refl (sym back) within here ∙ ap (λ (k : ℕ). if so then 0 else 1 + suffix_len is_other (take k text)) back in
    spots_by so _ _ _ _ (line_after text i so within (sym new)) column

-- The spot of the next byte is the one behind this byte.
pub next_spot : (text : List ℕ) (i b : ℕ) → i < length text → b ≡ get_or text i 0 → spot_behind (spot_of text i) b ≡ spot_of text (i + 1)
next_spot text i b within here =
    let before = ap (λ (n : ℕ). if is_newline b then spot (count_by is_newline (take i text) + 1 + 1) 1 else spot (count_by is_newline (take i text) + 1) (n + 1 + 1)) (column_is (take i text)) in
    let after = ap (λ (n : ℕ). spot (count_by is_newline (take (i + 1) text) + 1) (n + 1)) (column_is (take (i + 1) text)) in
    before ∙ spots_behind text i (is_newline b) (ap is_newline here) within ∙ sym after

pub line_small : (text : List ℕ) (i : ℕ) → i ≤ length text → (spot_of text i).line ≤ i + 1
line_small text i within = let lines = count_by-le-length is_newline (take i text) in let whole = length-take-le i text within in omega (arith, lines, whole)

pub column_small : (text : List ℕ) (i : ℕ) → i ≤ length text → (spot_of text i).column ≤ i + 1
column_small text i within =
    let column = column_is (take i text) in
    let bytes = suffix_len-le-length is_other (take i text) in
    let whole = length-take-le i text within in
    omega (arith, column, bytes, whole)

-- one mark more
pub marked_more : (f : ℕ → Bool) (marks : List Bool) (i : ℕ) (last : Bool) → length marks ≡ i → ((k : ℕ) → k < i → get_or marks k false ≡ f k) → last ≡ f i
    → (k : ℕ) → k < i + 1 → get_or (marks ++ last ∷ []) k false ≡ f k
marked_more f marks i last many before here k below = elim (cases_lt k i) [
  | inl less ↦ get_or-append marks (last ∷ []) false k (omega (arith, less, many)) ∙ before k less
  | inr more ↦
      let same : k ≡ length marks = omega (arith, more, below, many) in
      let back : i ≡ k = omega (arith, same, many) in
      ap (λ (j : ℕ). get_or (marks ++ last ∷ []) j false) same ∙ get_or-append_seam marks last [] false ∙ here ∙ ap f back
]

pub marks_text : (stops : List Break) (number : ℕ) (text : List ℕ) (marks : List Bool) (last : Bool) → length marks ≡ length text
    → ((k : ℕ) → k < length text → get_or marks k false ≡ is_any_there stops number (spot_of text k)) → last ≡ is_any_there stops number (spot_of text (length text))
    → MarkText stops number text (marks ++ last ∷ [])
marks_text stops number text marks last many before here place = elim (cases_lt (length text) place) [
  | inl past ↦ get_or_past (marks ++ last ∷ []) place false (omega (arith, past, many, length-append marks (last ∷ []))) ∙ sym (and_left (nat_le place (length text)) _ (lt-leb place (length text) past))
  | inr within ↦
      marked_more (λ k. is_any_there stops number (spot_of text k)) marks (length text) last many before here place (omega (arith, within))
      ∙ sym (ap (λ (b : Bool). b && is_any_there stops number (spot_of text place)) (le-leb place (length text) within))
]

-- the marks of one source more
pub marks_more : (sources : List SourceText) (text : List ℕ) (stops : List Break) (all : List (Vec Bool Global)) (i : ℕ) (new : Vec Bool Global) → length all ≡ i
    → ((k : ℕ) → k < i → (place : ℕ) → mark_of all k place ≡ is_spot (is_any_there stops) k (shown_string sources k text) place)
    → MarkText stops i (shown_string sources i text) new.items
    → (k : ℕ) → k < i + 1 → (place : ℕ) → mark_of (all ++ new ∷ []) k place ≡ is_spot (is_any_there stops) k (shown_string sources k text) place
marks_more sources text stops all i new many before here k below place = elim (cases_lt k i) [
  | inl less ↦
      let long : k < length (all ++ new ∷ []) = omega (arith, less, many, length-append all (new ∷ [])) in
      let within : k < length all = omega (arith, less, many) in
      ap (λ m. is_marked m place) (slice_get-get_or (all ++ new ∷ []) k new long ∙ ap Some (get_or-append all (new ∷ []) new k within) ∙ sym (slice_get-get_or all k new within)) ∙ before k less place
  | inr more ↦
      let same : k ≡ length all = omega (arith, more, below, many) in
      let back : i ≡ k = omega (arith, same, many) in
      let long : k < length (all ++ new ∷ []) = omega (arith, same, length-append all (new ∷ [])) in
      ap (λ m. is_marked m place) (slice_get-get_or (all ++ new ∷ []) k new long ∙ ap Some (ap (λ (j : ℕ). get_or (all ++ new ∷ []) j new) same ∙ get_or-append_seam all new [] new))
      ∙ here place ∙ ap (λ (j : ℕ). is_spot (is_any_there stops) j (shown_string sources j text) place) back
]
