-- What stood in the place of a change that a slot holds has a slot too.
use Rattle.std.proofs.Common.{◌≡◌, ℕ, ◌+◌, ◌<◌, ◌≤◌, ◌^◌, [], ◌∷◌, length, ℤ, refl, sym, ◌∙◌, ap, subst, arith}
use Rattle.teco_core.specs.declared.register.Reg.{Reg}
use Rattle.teco_store.specs.ChangeView.{small_turn, IsHere}
use Rattle.teco_store.specs.State.{Body, IsSound, replaced}
use Rattle.teco_store.specs.Turn as turn
use Rattle.teco_store.specs.Turn.{Turn, turn_after, Fits}
use Rattle.teco_store.specs.declared.change.SmallChange.{SmallChange}
use Rattle.teco_store.specs.declared.change.SmallChange.TheVariants.{InsertByte, RemoveByte, Point, Number, Pages, Found, Done, Mode, HeldApart}
use Rattle.teco_undo.specs.Slots.{small_of, slot_value, FitsSlot, HasSlot}
use Rattle.teco_undo.specs.declared.slot.Slot.{Slot}
use Rattle.teco_undo.specs.declared.slot.SlotValue.{SlotValue}
use Rattle.teco_undo.specs.declared.slot.SlotValue.TheVariants as value
use Rattle.teco_undo.proofs.Turns.{length-replaced}

pub fits_here : (s : SmallChange) → FitsSlot s → IsHere s
fits_here (InsertByte at pointer byte) h = tt
fits_here (RemoveByte at pointer) h = tt
fits_here (Point pointer) h = tt
fits_here (Number q number) h = tt
fits_here (Pages place output form_feed) h = absurd h
fits_here (Found found) h = tt
fits_here (Done done) h = tt
fits_here (Mode mode) h = tt
fits_here (HeldApart k) h = absurd h

pub has_here : (s : SmallChange) → HasSlot s → IsHere s
has_here (InsertByte at pointer byte) h = tt
has_here (RemoveByte at pointer) h = tt
has_here (Point pointer) h = tt
has_here (Number q number) h = tt
has_here (Pages place output form_feed) h = absurd h
has_here (Found found) h = tt
has_here (Done done) h = tt
has_here (Mode mode) h = tt
has_here (HeldApart k) h = absurd h

value_has : (step : ℕ) (v : SlotValue) → IsHere (slot_value step v) → HasSlot (slot_value step v)
value_has step (value.InsertByte byte low word) h = tt
value_has step (value.InsertByteAtTop byte at) h = tt
value_has step (value.RemoveByte low word) h = tt
value_has step (value.Point pointer) h = tt
value_has step (value.Number q number) h = tt
value_has step (value.Found found) h = tt
value_has step (value.Done done) h = tt
value_has step (value.Mode mode) h = tt
value_has step (value.HeldApart low) h = absurd h

pub slot_has : (d : Slot) (s : SmallChange) → s ≡ small_of d → IsHere s → HasSlot s
slot_has d s is h = subst HasSlot (sym is) (value_has d.step d.value (subst IsHere is h))

-- A number that is read twice is that of one register.
register_in : SlotValue → Reg → Reg
register_in (value.Number q number) r = q
register_in v r = r

pub same_register : (v : SlotValue) (q r : Reg) (m n : ℤ) → v ≡ value.Number q m → v ≡ value.Number r n → q ≡ r
unfolding register_in
same_register v q r m n one other = ap (λ (x : SlotValue). register_in x q) (sym one ∙ other)

pub number_here : (s : Slot) (q r : Reg) (m n : ℤ) → s.value ≡ value.Number q m → s.value ≡ value.Number r n → Number q n ≡ small_of s
number_here s q r m n one other =
    ap (λ (x : Reg). Number x n) (same_register s.value q r m n one other) ∙ sym (ap (slot_value s.step) other)

-- by what it is for
TurnFits : Turn → Type 0
TurnFits (turn.Splice at there pointer held) = (at < 2 ^ 24) × (pointer ≤ 2 ^ 24) × (there ≡ 1 → pointer < 2 ^ 24)
TurnFits (turn.Pages place output form_feed) = ⊥
TurnFits turn.TakeOff = ⊥
TurnFits t = Unit {0}

of_turn : (s : SmallChange) → TurnFits (small_turn s) → FitsSlot s
unfolding TurnFits
of_turn (InsertByte at pointer byte) h = (h.0, h.1)
of_turn (RemoveByte at pointer) h = (h.0, h.2 refl)
of_turn (Point pointer) h = tt
of_turn (Number q number) h = tt
of_turn (Pages place output form_feed) h = absurd h
of_turn (Found found) h = tt
of_turn (Done done) h = tt
of_turn (Mode mode) h = tt
of_turn (HeldApart k) h = absurd h

after_fits : (room top : ℕ) (s : SmallChange) (b : Body) → HasSlot s → IsSound room top b → Fits room top (small_turn s) b → TurnFits (turn_after (small_turn s) b)
unfolding TurnFits
after_fits room top (InsertByte at pointer byte) b has sound fits =
    let n : length (replaced b.text at (at + 0) (byte ∷ [])) + 0 ≡ length b.text + 1 = length-replaced b.text (byte ∷ []) at 0 fits.0 in
    let within = fits.0 in
    let text = fits.1.text in
    let here = sound.pointer in
    (omega arith, omega arith, λ one. omega arith)
after_fits room top (RemoveByte at pointer) b has sound fits =
    let within = fits.0 in
    let text = sound.text in
    let here = sound.pointer in
    (omega arith, omega arith, λ one. absurd (omega arith))
after_fits room top (Point pointer) b has sound fits = tt
after_fits room top (Number q number) b has sound fits = tt
after_fits room top (Pages place output form_feed) b has sound fits = absurd has
after_fits room top (Found found) b has sound fits = tt
after_fits room top (Done done) b has sound fits = tt
after_fits room top (Mode mode) b has sound fits = tt
after_fits room top (HeldApart k) b has sound fits = absurd has

pub turned_fits : (room top : ℕ) (s r : SmallChange) (b : Body) → HasSlot s → IsSound room top b → Fits room top (small_turn s) b → small_turn r ≡ turn_after (small_turn s) b → FitsSlot r
turned_fits room top s r b has sound fits is = of_turn r (subst TurnFits (sym is) (after_fits room top s b has sound fits))
