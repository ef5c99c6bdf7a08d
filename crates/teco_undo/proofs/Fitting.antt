-- The changes that calls make fit.
use Rattle.std.proofs.Common.{◌≡◌, ℕ, ◌+◌, ◌<◌, ◌≤◌, List, length, refl, sym, ◌∙◌, subst, arith, Option, Some, None, length-drop}
use Rattle.std.proofs.lemmas.List.{length-set}
use Rattle.std.proofs.lemmas.List.Elements.{All-drop, All-get_or, All-set}
use Rattle.std.specs.Option.{ForSome, unwrap_or}
use Rattle.teco_core.specs.Number.{IsNumber}
use Rattle.teco_core.specs.Register.{Content, blank}
use Rattle.teco_core.specs.declared.limits.TheConstants.{TEXT_LIMIT}
use Rattle.teco_store.specs.State.{Body, Full, IsSound, replaced, spliced, pointer_after}
use Rattle.teco_store.specs.Turn.{PopInto, Splice, FitsFull, lent, top_of}
use Rattle.teco_store.proofs.Loans.{length-lent}
use Rattle.teco_store.proofs.Sound.{sound_more, sound_within}
use Rattle.teco_undo.proofs.Turns.{length-replaced}

-- where the pointer comes to stand
pub pointer_is : (at : ℕ) (ins : List ℕ) (point : Option ℕ) → unwrap_or point (at + length ins) ≡ pointer_after at ins point
pointer_is at ins None = refl
pointer_is at ins (Some place) = refl

-- It is in the new text.
pub lands_within : (b : Body) (at del : ℕ) (ins : List ℕ) (point : Option ℕ) → at + del ≤ length b.text
    → ForSome point (λ place. place ≤ length (spliced b at del ins point).text) → pointer_after at ins point + del ≤ length b.text + length ins
lands_within b at del ins None within lands = omega arith
lands_within b at del ins (Some place) within lands =
    let n : length (replaced b.text at (at + del) ins) + del ≡ length b.text + length ins = length-replaced b.text ins at del within in
    let h : place ≤ length (replaced b.text at (at + del) ins) = lands place refl in
    let sum : place + del ≤ length b.text + length ins = omega arith in
    sum

pub splice_fits : (e : Full) (at del pointer : ℕ) (ins : List ℕ) → IsSound e.room (length e.stored) e.body
    → at + del ≤ length e.body.text → pointer + del ≤ length e.body.text + length ins → length e.body.text + length ins ≤ TEXT_LIMIT + del
    → length e.body.text + length ins ≤ e.room + del → FitsFull (Splice at del pointer ins) e
splice_fits e at del pointer ins s within lands small room =
    let n : length (replaced e.body.text at (at + del) ins) + del ≡ length e.body.text + length ins = length-replaced e.body.text ins at del within in (
      within,
      record {
        pointer = omega arith;
        text = omega arith;
        room = omega arith;
        all = s.all;
        registers = s.registers;
        numbers = s.numbers;
        few = s.few;
        pushed = s.pushed;
        pushed_numbers = s.pushed_numbers;
        place = s.place;
        input = s.input;
        stored = s.stored;
        output = s.output;
        last_search = s.last_search;
      },
    )

-- The same where an editor `e` is seen as `f`.
pub splice_fits_seen : (e f : Full) (at del pointer : ℕ) (ins : List ℕ) → e ≡ f → IsSound e.room (length e.stored) e.body
    → at + del ≤ length f.body.text → pointer + del ≤ length f.body.text + length ins → length f.body.text + length ins ≤ TEXT_LIMIT + del
    → length f.body.text + length ins ≤ f.room + del → FitsFull (Splice at del pointer ins) e × FitsFull (Splice at del pointer ins) f
splice_fits_seen e f at del pointer ins same sound within lands small room =
    let s = subst (λ (x : Full). IsSound x.room (length x.stored) x.body) same sound in
    let fits : FitsFull (Splice at del pointer ins) f = splice_fits f at del pointer ins s within lands small room in
    (subst (λ (x : Full). FitsFull (Splice at del pointer ins) x) (sym same) fits, fits)

-- The same of bytes of the input.
pub input_fits_seen : (e f : Full) (at del pointer from count : ℕ) → e ≡ f → IsSound e.room (length e.stored) e.body
    → at + del ≤ length f.body.text → pointer + del ≤ length f.body.text + count → length f.body.text + count ≤ TEXT_LIMIT + del
    → length f.body.text + count ≤ f.room + del
    → FitsFull (Splice at del pointer (lent e.body.input from count)) e × FitsFull (Splice at del pointer (lent e.body.input from count)) f
input_fits_seen e f at del pointer from count same sound within lands small room =
    let len = length-lent e.body.input from count in
    splice_fits_seen e f at del pointer (lent e.body.input from count) same sound within (omega (arith, len)) (omega (arith, len)) (omega (arith, len))

abbrev IsSmall : Content → Type 0
IsSmall c = length c.text ≤ TEXT_LIMIT

abbrev HasNumber : Content → Type 0
HasNumber c = IsNumber c.number

-- what was pushed last goes into a register
pub pop_fits : (e : Full) (q : ℕ) → IsSound e.room (length e.stored) e.body → q < 36 → 0 < length e.body.pushed → FitsFull (PopInto q) e
pop_fits e q s inside some =
    let rs = e.body.registers in
    let ps = e.body.pushed in (
      (subst (λ (n : ℕ). q < n) (sym s.all) inside, some),
      record {
        pointer = s.pointer;
        text = s.text;
        room = s.room;
        all = length-set rs q (top_of ps) ∙ s.all;
        registers = All-set IsSmall rs q (top_of ps) (All-get_or IsSmall ps 0 blank some s.pushed) s.registers;
        numbers = All-set HasNumber rs q (top_of ps) (All-get_or HasNumber ps 0 blank some s.pushed_numbers) s.numbers;
        few = let few = s.few in omega (arith, length-drop 1 ps);
        pushed = All-drop IsSmall 1 ps s.pushed;
        pushed_numbers = All-drop HasNumber 1 ps s.pushed_numbers;
        place = s.place;
        input = s.input;
        stored = s.stored;
        output = s.output;
        last_search = s.last_search;
      },
    )

-- the same text with more capacity, and other bytes stored
pub sound_stored : (capacity capacity' top top' : ℕ) (b : Body) (text : List ℕ) → text ≡ b.text → capacity ≤ capacity' → b.output ≤ top'
    → IsSound capacity top b → IsSound capacity' top' (record b { text = text })
sound_stored capacity capacity' top top' b text same more within s =
    subst (λ (l : List ℕ). IsSound capacity' top' (record b { text = l })) (sym same)
    (sound_within capacity' top top' b within (sound_more capacity capacity' top top b more (omega arith) s))
