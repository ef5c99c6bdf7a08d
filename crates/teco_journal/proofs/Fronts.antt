-- What stands at the front of lines that were written.
use Rattle.std.proofs.Common.{◌≡◌, ℕ, zero, suc, ◌+◌, ◌-◌, ◌⊎◌, inl, inr, List, [], ◌∷◌, ◌++◌, length, take, drop, refl, sym, ap, ◌∙◌, subst, arith, append_assoc, append-nil}
use Rattle.std.specs.Prelude.{codes}
use Rattle.std.proofs.lemmas.List.{append_cancel_left, take-append-drop}
use Rattle.std.proofs.Math.Seq.{take-append-add}
use Rattle.teco_journal.specs.Events.{Event, HasRecord, HaveRecords}
use Rattle.teco_journal.specs.Lines.{words_of, check_of, line_of, written, check_after}
use Rattle.teco_journal.specs.Reading.{Begins, Tells, IsLine, IsUnknown}
use Rattle.teco_journal.specs.Laws.{WrittenIsRead, BytesTellOnce, FrontsTellFronts, CrashesLoseOne, ChangedLinesStop}
use Rattle.teco_journal.proofs.Lacking.{both_lack, front_lacks, first_part, never}
use Rattle.teco_journal.proofs.EventWords.{words_line, words_same}
use Rattle.teco_journal.proofs.Checks.{check_lacks, lines_same}

pub written_both : (last : List ℕ) (es fs : List Event) → written last (es ++ fs) ≡ written last es ++ written (check_after last es) fs
unfolding written check_after
written_both last [] fs = refl
written_both last (e ∷ es) fs =
    ap (λ l. line_of last (words_of e) ++ l) (written_both (check_of last (words_of e)) es fs)
    ∙ sym (append_assoc (line_of last (words_of e)) (written (check_of last (words_of e)) es) (written (check_after (check_of last (words_of e)) es) fs))

pub written_one : (last : List ℕ) (es : List Event) (e : Event) → written last (es ++ e ∷ []) ≡ written last es ++ line_of (check_after last es) (words_of e)
unfolding written
written_one last es e = written_both last es (e ∷ []) ∙ ap (λ l. written last es ++ l) (append-nil (line_of (check_after last es) (words_of e)))

pub check_one : (last : List ℕ) (es : List Event) (e : Event) → check_after last (es ++ e ∷ []) ≡ check_of (check_after last es) (words_of e)
unfolding check_after
check_one last [] e = refl
check_one last (x ∷ es) e = check_one (check_of last (words_of x)) es e

pub both_have : (es fs : List Event) → HaveRecords es → HaveRecords fs → HaveRecords (es ++ fs)
both_have [] fs p q = q
both_have (e ∷ es) fs p q = (p.0, both_have es fs p.1 q)

line_line : (last words : List ℕ) → IsLine words → IsLine (line_of last words)
line_line last words h = (
  check_of last words ++ codes " " ++ h.0,
  both_lack 10 (check_of last words ++ codes " ") h.0 (both_lack 10 (check_of last words) (codes " ") (check_lacks 10 last words refl refl) refl) h.1,
  ap (λ ws. (check_of last words ++ codes " ") ++ ws) h.2 ∙ sym (append_assoc (check_of last words ++ codes " ") h.0 (10 ∷ [])),
)

-- the line of an event
pub event_line : (last : List ℕ) (e : Event) → HasRecord e → IsLine (line_of last (words_of e))
event_line last e h = line_line last (words_of e) (words_line e h)

in_two : (line rest : List ℕ) (h : IsLine line) → line ++ rest ≡ h.0 ++ 10 ∷ rest
in_two line rest h = ap (λ l. l ++ rest) h.2 ∙ append_assoc h.0 (10 ∷ []) rest

-- Where two lines begin the same bytes they are one.
pub first_lines : (x y xs ys : List ℕ) → IsLine x → IsLine y → x ++ xs ≡ y ++ ys → (x ≡ y) × (xs ≡ ys)
first_lines x y xs ys p q e =
    let parts = first_part 10 p.0 q.0 xs ys p.1 q.1 (sym (in_two x xs p) ∙ e ∙ in_two y ys q) in
    (p.2 ∙ ap (λ l. l ++ 10 ∷ []) parts.0 ∙ sym q.2, parts.1)

first_events : (last xs ys : List ℕ) (e f : Event) → HasRecord e → HasRecord f
    → line_of last (words_of e) ++ xs ≡ line_of last (words_of f) ++ ys → (e ≡ f) × (xs ≡ ys)
first_events last xs ys e f p q is =
    let parts = first_lines (line_of last (words_of e)) (line_of last (words_of f)) xs ys (event_line last e p) (event_line last f q) is in
    (words_same e f p q (lines_same last (words_of e) (words_of f) parts.0), parts.1)

-- The second events are the first ones and more.
abbrev Longer : List Event → List Event → Type 0
Longer es fs = (more : List Event) × HaveRecords more × (fs ≡ es ++ more)

longer_both : (x y : Event) → x ≡ y → (es fs : List Event) → Longer es fs ⊎ Longer fs es → Longer (x ∷ es) (y ∷ fs) ⊎ Longer (y ∷ fs) (x ∷ es)
longer_both x y is es fs (inl h) = inl (h.0, h.1, ap (λ l. y ∷ l) h.2 ∙ ap (λ z. z ∷ (es ++ h.0)) (sym is))
longer_both x y is es fs (inr h) = inr (h.0, h.1, ap (λ l. x ∷ l) h.2 ∙ ap (λ z. z ∷ (fs ++ h.0)) is)

one_is_longer : (es fs : List Event) (last r s : List ℕ) → HaveRecords es → HaveRecords fs → written last es ++ r ≡ written last fs ++ s → Longer es fs ⊎ Longer fs es
unfolding written
one_is_longer [] fs last r s p q e = inl (fs, q, refl)
one_is_longer (x ∷ es) [] last r s p q e = inr (x ∷ es, p, refl)
one_is_longer (x ∷ es) (y ∷ fs) last r s p q e =
    let heads = first_events last (written (check_of last (words_of x)) es ++ r) (written (check_of last (words_of y)) fs ++ s) x y p.0 q.0
    (sym (append_assoc (line_of last (words_of x)) (written (check_of last (words_of x)) es) r) ∙ e ∙ append_assoc (line_of last (words_of y)) (written (check_of last (words_of y)) fs) s) in
    longer_both x y heads.0 es fs
    (one_is_longer es fs (check_of last (words_of x)) r s p.1 q.1 (heads.1 ∙ ap (λ z. written (check_of last (words_of z)) fs ++ s) (sym heads.0)))

-- No more events stand there than the bytes tell.
no_more : (last bytes s : List ℕ) (es fs more : List Event) → Tells last bytes es → HaveRecords more → bytes ≡ written last fs ++ s → fs ≡ es ++ more → es ≡ fs
no_more last bytes s es fs [] t h is e = sym (e ∙ append-nil es)
no_more last bytes s es fs (m ∷ ms) t h is e =
    let rest : List ℕ = written (check_after last (es ++ m ∷ [])) ms in
    absurd (t.most m h.0 (
      rest ++ s,
      is ∙ ap (λ l. written last l ++ s) (e ∙ sym (append_assoc es (m ∷ []) ms))
          ∙ ap (λ l. l ++ s) (written_both last (es ++ m ∷ []) ms) ∙ append_assoc (written last (es ++ m ∷ [])) rest s,
    ))

pub bytes_tell_once : BytesTellOnce
bytes_tell_once last bytes es fs t u =
    elim (one_is_longer es fs last t.front.0 u.front.0 t.records u.records (sym t.front.1 ∙ u.front.1)) [
      | inl h ↦ no_more last bytes u.front.0 es fs h.0 t h.1 u.front.1 h.2
      | inr h ↦ sym (no_more last bytes t.front.0 fs es h.0 u h.1 t.front.1 h.2)
    ]

pub fronts_tell_fronts : FrontsTellFronts
fronts_tell_fronts last bytes n es fs t u =
    let is : bytes ≡ written last fs ++ (u.front.0 ++ drop n bytes) =
    sym (take-append-drop n bytes) ∙ ap (λ l. l ++ drop n bytes) u.front.1 ∙ append_assoc (written last fs) u.front.0 (drop n bytes) in
    elim (one_is_longer es fs last t.front.0 (u.front.0 ++ drop n bytes) t.records u.records (sym t.front.1 ∙ is)) [
      | inl h ↦ ([], no_more last bytes (u.front.0 ++ drop n bytes) es fs h.0 t h.1 is h.2 ∙ sym (append-nil fs))
      | inr h ↦ (h.0, h.2)
    ]

-- Events are told up to bytes that begin with no line of an event.
pub tells_until : (last rest : List ℕ) (es : List Event) → HaveRecords es
    → ((e : Event) → HasRecord e → Begins (line_of (check_after last es) (words_of e)) rest → ⊥) → Tells last (written last es ++ rest) es
tells_until last rest es h none = record {
  records = h;
  front = (rest, refl);
  most = λ e has begins.
      none e has (
        begins.0,
        append_cancel_left (written last es) rest (line_of (check_after last es) (words_of e) ++ begins.0)
            (begins.1 ∙ ap (λ l. l ++ begins.0) (written_one last es e) ∙ append_assoc (written last es) (line_of (check_after last es) (words_of e)) begins.0),
      );
}

pub written_is_read : WrittenIsRead
written_is_read last torn es h one =
    tells_until last torn es h
    (λ e has begins. (let line = event_line (check_after last es) e has in never 10 torn line.0 begins.0 one (begins.1 ∙ in_two (line_of (check_after last es) (words_of e)) begins.0 line)))

pub changed_lines_stop : ChangedLinesStop
changed_lines_stop last line rest es h is changed =
    tells_until last (line ++ rest) es h
    (λ e has begins. changed (words_of e) (first_lines line (line_of (check_after last es) (words_of e)) rest begins.0 is (event_line (check_after last es) e has) begins.1).0)

pub unknown_lines_stop : (last line rest : List ℕ) (es : List Event) → HaveRecords es → IsLine line → IsUnknown (check_after last es) line → Tells last (written last es ++ (line ++ rest)) es
unknown_lines_stop last line rest es h is unknown =
    tells_until last (line ++ rest) es h
    (λ e has begins.
    (let same = (first_lines line (line_of (check_after last es) (words_of e)) rest begins.0 is (event_line (check_after last es) e has) begins.1).0 in
    unknown.2 e has (lines_same (check_after last es) unknown.0 (words_of e) (sym unknown.1 ∙ same))))

-- A line that is cut off is whole, or a front of what is before its end.
line_cut : (m : ℕ) (front : List ℕ) → (take m (front ++ 10 ∷ []) ≡ front ++ 10 ∷ []) ⊎ (take m (front ++ 10 ∷ []) ≡ take m front)
line_cut zero front = inr refl
line_cut (suc zero) [] = inl refl
line_cut (suc (suc m)) [] = inl refl
line_cut (suc m) (b ∷ bs) = elim (line_cut m bs) [ inl h ↦ inl (ap (λ l. b ∷ l) h) | inr h ↦ inr (ap (λ l. b ∷ l) h) ]

pub crashes_lose_one : CrashesLoseOne
crashes_lose_one last es fs e n h has low t =
    let before : List ℕ = written last es in
    let line = event_line (check_after last es) e has in
    let m : ℕ = n - length before in
    let at : n ≡ length before + m = omega arith in
    let all : written last (es ++ e ∷ []) ≡ before ++ (line.0 ++ 10 ∷ []) = written_one last es e ∙ ap (λ l. before ++ l) line.2 in
    let cut : take n (written last (es ++ e ∷ [])) ≡ before ++ take m (line.0 ++ 10 ∷ []) =
    ap (take n) all ∙ ap (λ (i : ℕ). take i (before ++ (line.0 ++ 10 ∷ []))) at ∙ take-append-add before (line.0 ++ 10 ∷ []) m in
    elim (line_cut m line.0) [
      | inl whole ↦ inr (bytes_tell_once last (take n (written last (es ++ e ∷ []))) fs (es ++ e ∷ []) t
          (subst (λ b. Tells last b (es ++ e ∷ [])) (append-nil (written last (es ++ e ∷ [])) ∙ all ∙ ap (λ l. before ++ l) (sym whole) ∙ sym cut)
          (written_is_read last [] (es ++ e ∷ []) (both_have es (e ∷ []) h (has, tt)) refl)))
      | inr torn ↦ inl (bytes_tell_once last (take n (written last (es ++ e ∷ []))) fs es t
          (subst (λ b. Tells last b es) (ap (λ l. before ++ l) (sym torn) ∙ sym cut)
          (written_is_read last (take m line.0) es h (front_lacks 10 m line.0 line.1))))
    ]
