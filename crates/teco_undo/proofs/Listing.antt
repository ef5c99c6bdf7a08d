-- Lists of changes: what lies in the slots, and what is held apart.
use Rattle.std.proofs.Common.{◌≡◌, ℕ, zero, suc, ◌+◌, ◌<◌, ◌≤◌, ◌⊎◌, inl, inr, List, [], ◌∷◌, ◌++◌, length, map, get_or, set, refl, sym, ◌∙◌, ap, subst, arith}
use Rattle.std.proofs.lemmas.List.{get_or_default, get_or-map, get_or-set_same, get_or-set_other, get_or_append_left, length-append, length-map, map-append, map-set}
use Rattle.std.proofs.Math.Seq.{get_or-append_seam}
use Rattle.teco_store.specs.ChangeView.{small_turn, IsHere}
use Rattle.teco_undo.specs.Listing.{ChangeListing, no_note, slot_note, note_of_slot, IsNextApart, next_after, AreInPlace, listed_in, IsChangeListing}
use Rattle.teco_store.specs.State.{Body}
use Rattle.teco_store.specs.Turn.{Turn, Note, turn_after, note_after}
use Rattle.teco_store.specs.declared.change.SmallChange.{SmallChange}
use Rattle.teco_store.specs.declared.change.SmallChange.TheVariants.{InsertByte, RemoveByte, Point, Number, Pages, Found, Done, Mode, HeldApart}
use Rattle.teco_undo.specs.Slots.{small_of}
use Rattle.teco_undo.specs.declared.slot.Slot.{Slot}
use Rattle.teco_undo.specs.declared.change_list.ChangeList.TheInside.{Inside}

-- a slot holds its value itself, or is of one that is held apart
where_held : (s : SmallChange) → IsHere s ⊎ ((k : ℕ) × (s ≡ HeldApart k))
where_held (InsertByte at pointer byte) = inl tt
where_held (RemoveByte at pointer) = inl tt
where_held (Point pointer) = inl tt
where_held (Number q number) = inl tt
where_held (Pages place output form_feed) = inl tt
where_held (Found found) = inl tt
where_held (Done done) = inl tt
where_held (Mode mode) = inl tt
where_held (HeldApart k) = inr (k, refl)

abbrev pub note_of : ℕ → Turn → Note
note_of step turn = record { step = step; turn = turn }

pub here_note : (xs : List Note) (n : ℕ) (s : SmallChange) → IsHere s → slot_note xs n s ≡ note_of n (small_turn s)
here_note xs n (InsertByte at pointer byte) h = refl
here_note xs n (RemoveByte at pointer) h = refl
here_note xs n (Point pointer) h = refl
here_note xs n (Number q number) h = refl
here_note xs n (Pages place output form_feed) h = refl
here_note xs n (Found found) h = refl
here_note xs n (Done done) h = refl
here_note xs n (Mode mode) h = refl
here_note xs n (HeldApart k) h = absurd h

here_next : (n : ℕ) (s : SmallChange) → IsHere s → next_after n s ≡ n
here_next n (InsertByte at pointer byte) h = refl
here_next n (RemoveByte at pointer) h = refl
here_next n (Point pointer) h = refl
here_next n (Number q number) h = refl
here_next n (Pages place output form_feed) h = refl
here_next n (Found found) h = refl
here_next n (Done done) h = refl
here_next n (Mode mode) h = refl
here_next n (HeldApart k) h = absurd h

here_is_next : (n : ℕ) (s : SmallChange) → IsHere s → IsNextApart n s
here_is_next n (InsertByte at pointer byte) h = tt
here_is_next n (RemoveByte at pointer) h = tt
here_is_next n (Point pointer) h = tt
here_is_next n (Number q number) h = tt
here_is_next n (Pages place output form_feed) h = tt
here_is_next n (Found found) h = tt
here_is_next n (Done done) h = tt
here_is_next n (Mode mode) h = tt
here_is_next n (HeldApart k) h = absurd h

next_le : (n : ℕ) (s : SmallChange) → n ≤ next_after n s
next_le n s = elim (where_held s) [
  | inl h ↦ let e = here_next n s h in omega arith
  | inr p ↦ let e : next_after n s ≡ suc n = ap (next_after n) p.1 in omega arith
]

end_le : (n : ℕ) (slots : List Slot) (end : ℕ) → AreInPlace n slots end → n ≤ end
end_le n [] end h = let e : n ≡ end = h in omega arith
end_le n (s ∷ slots) end h =
    let one = next_le n (small_of s) in
    let rest = end_le (next_after n (small_of s)) slots end h.1 in
    omega arith

-- The first of the slots is of one that is held apart: it has the next number.
first_apart : (n k : ℕ) (s : Slot) (slots : List Slot) (end : ℕ) → AreInPlace n (s ∷ slots) end → (small_of s) ≡ HeldApart k → (k ≡ n) × AreInPlace (suc n) slots end
first_apart n k s slots end h e = (subst (IsNextApart n) e h.0, subst (λ (x : SmallChange). AreInPlace (next_after n x) slots end) e h.1)

-- The number of one that is held apart is within bounds.
pub place_within : (n : ℕ) (slots : List Slot) (end i k : ℕ) (d : Slot) → AreInPlace n slots end → i < length slots → small_of (get_or slots i d) ≡ HeldApart k
    → (n ≤ k) × (k < end)
place_within n [] end i k d h lt e = absurd (omega arith)
place_within n (s ∷ slots) end zero k d h lt e =
    let first = first_apart n k s slots end h e in
    let is : k ≡ n = first.0 in
    let le = end_le (suc n) slots end first.1 in
    (omega arith, omega arith)
place_within n (s ∷ slots) end (suc i) k d h lt e =
    let rest = place_within (next_after n (small_of s)) slots end i k d h.1 (omega arith) e in
    let low = rest.0 in
    let le = next_le n (small_of s) in
    (omega arith, rest.1)

-- one slot, with others held apart
same_note : (n step : ℕ) (s : SmallChange) (end : ℕ) (xs ys : List Note) → IsNextApart n s → next_after n s ≤ end
    → ((k : ℕ) → n ≤ k → k < end → get_or xs k no_note ≡ get_or ys k no_note) → slot_note xs step s ≡ slot_note ys step s
same_note n step s end xs ys next le same = elim (where_held s) [
  | inl h ↦ here_note xs step s h ∙ sym (here_note ys step s h)
  | inr p ↦
      let is : p.0 ≡ n = subst (IsNextApart n) p.1 next in
      let lt : suc n ≤ end = subst (λ (x : SmallChange). next_after n x ≤ end) p.1 le in
      ap (slot_note xs step) p.1 ∙ same p.0 (omega arith) (omega arith) ∙ sym (ap (slot_note ys step) p.1)
]

-- What the slots are for depends on those alone that are held apart at their places.
pub same_notes : (n : ℕ) (slots : List Slot) (end : ℕ) (xs ys : List Note) → AreInPlace n slots end
    → ((k : ℕ) → n ≤ k → k < end → get_or xs k no_note ≡ get_or ys k no_note) → map (note_of_slot xs) slots ≡ map (note_of_slot ys) slots
same_notes n [] end xs ys h same = refl
same_notes n (s ∷ slots) end xs ys h same =
    let one = same_note n s.step (small_of s) end xs ys h.0 (end_le (next_after n (small_of s)) slots end h.1) same in
    let low = next_le n (small_of s) in
    let rest = same_notes (next_after n (small_of s)) slots end xs ys h.1 (λ k le lt. same k (omega arith) lt) in
    ap (λ (t : Note). t ∷ map (note_of_slot xs) slots) one ∙ ap (λ (ns : List Note). note_of_slot ys s ∷ ns) rest

-- Another is held apart in the place of one: its slot alone is for something else.
pub notes-set_apart : (n : ℕ) (slots : List Slot) (end i k : ℕ) (d : Slot) (xs : List Note) (t : Note) → AreInPlace n slots end → i < length slots
    → small_of (get_or slots i d) ≡ HeldApart k → end ≤ length xs
    → map (note_of_slot (set xs k t)) slots ≡ set (map (note_of_slot xs) slots) i t
notes-set_apart n [] end i k d xs t h lt e le = absurd (omega arith)
notes-set_apart n (s ∷ slots) end zero k d xs t h lt e le =
    let first = first_apart n k s slots end h e in
    let is : k ≡ n = first.0 in
    let end = end_le (suc n) slots end first.1 in
    let put : note_of_slot (set xs k t) s ≡ t = ap (slot_note (set xs k t) s.step) e ∙ get_or-set_same xs k t no_note (omega arith) in
    let rest = same_notes (suc n) slots _ (set xs k t) xs first.1 (λ j low high. get_or-set_other xs k j t no_note (λ same. absurd (omega arith))) in
    ap (λ (u : Note). u ∷ map (note_of_slot (set xs k t)) slots) put ∙ ap (λ (ns : List Note). t ∷ ns) rest
notes-set_apart n (s ∷ slots) end (suc i) k d xs t h lt e le =
    let within = place_within (next_after n (small_of s)) slots end i k d h.1 (omega arith) e in
    let low : next_after n (small_of s) ≤ k = within.0 in
    let one : note_of_slot (set xs k t) s ≡ note_of_slot xs s =
    same_note n s.step (small_of s) (next_after n (small_of s)) (set xs k t) xs h.0 (omega arith) (λ j from below. get_or-set_other xs k j t no_note (λ same. absurd (omega arith))) in
    let rest = notes-set_apart (next_after n (small_of s)) slots end i k d xs t h.1 (omega arith) e le in
    ap (λ (u : Note). u ∷ map (note_of_slot (set xs k t)) slots) one ∙ ap (λ (ns : List Note). note_of_slot xs s ∷ ns) rest

-- A slot that holds its value itself takes the place of another such.
pub in_place-set : (n : ℕ) (slots : List Slot) (end i : ℕ) (d y : Slot) → AreInPlace n slots end → IsHere (small_of (get_or slots i d)) → IsHere (small_of y)
    → AreInPlace n (set slots i y) end
in_place-set n [] end i d y h old new = h
in_place-set n (s ∷ slots) end zero d y h old new =
    (here_is_next n (small_of y) new, subst (λ (m : ℕ). AreInPlace m slots end) (here_next n (small_of s) old ∙ sym (here_next n (small_of y) new)) h.1)
in_place-set n (s ∷ slots) end (suc i) d y h old new = (h.0, in_place-set (next_after n (small_of s)) slots end i d y h.1 old new)

pub notes-set_here : (slots : List Slot) (i : ℕ) (y : Slot) (xs : List Note) → IsHere (small_of y)
    → map (note_of_slot xs) (set slots i y) ≡ set (map (note_of_slot xs) slots) i (note_of y.step (small_turn (small_of y)))
notes-set_here slots i y xs new =
    map-set (note_of_slot xs) slots i y ∙ ap (λ (t : Note). set (map (note_of_slot xs) slots) i t) (here_note xs y.step (small_of y) new)

-- One more slot.
pub in_place-push_here : (n : ℕ) (slots : List Slot) (end : ℕ) (y : Slot) → AreInPlace n slots end → IsHere (small_of y) → AreInPlace n (slots ++ y ∷ []) end
in_place-push_here n [] end y h new = (here_is_next n (small_of y) new, here_next n (small_of y) new ∙ h)
in_place-push_here n (s ∷ slots) end y h new = (h.0, in_place-push_here (next_after n (small_of s)) slots end y h.1 new)

pub in_place-push_apart : (n : ℕ) (slots : List Slot) (end : ℕ) (y : Slot) → AreInPlace n slots end → small_of y ≡ HeldApart end
    → AreInPlace n (slots ++ y ∷ []) (suc end)
in_place-push_apart n [] end y h is =
    let same : n ≡ end = h in
    (subst (IsNextApart n) (sym is) (sym same), ap (next_after n) is ∙ ap suc same)
in_place-push_apart n (s ∷ slots) end y h is = (h.0, in_place-push_apart (next_after n (small_of s)) slots end y h.1 is)

-- One slot less.
pub in_place-pop_here : (n : ℕ) (slots : List Slot) (end : ℕ) (y : Slot) → AreInPlace n (slots ++ y ∷ []) end → IsHere (small_of y) → AreInPlace n slots end
in_place-pop_here n [] end y h old = sym (here_next n (small_of y) old) ∙ h.1
in_place-pop_here n (s ∷ slots) end y h old = (h.0, in_place-pop_here (next_after n (small_of s)) slots end y h.1 old)

pub in_place-pop_apart : (n : ℕ) (slots : List Slot) (end k : ℕ) (y : Slot) → AreInPlace n (slots ++ y ∷ []) end → small_of y ≡ HeldApart k
    → AreInPlace n slots k × (suc k ≡ end)
in_place-pop_apart n [] end k y h e =
    let first = first_apart n k y [] end h e in
    (sym first.0, ap suc first.0 ∙ first.1)
in_place-pop_apart n (s ∷ slots) end k y h e =
    let rest = in_place-pop_apart (next_after n (small_of s)) slots end k y h.1 e in
    ((h.0, rest.0), rest.1)

-- The same, as a list is seen. A slot that is read says at which change it stands.
pub seen_within : (c : Inside) (r : ChangeListing) (i : ℕ) → listed_in c ≡ r → i < length r.items → i < length c.slots.items
seen_within c r i view lt =
    let len : length (map (note_of_slot c.apart.items) c.slots.items) ≡ length r.items = ap (λ (x : ChangeListing). length x.items) view in
    let same = length-map c.slots.items (note_of_slot c.apart.items) in
    omega arith

pub seen_read : (c : Inside) (r : ChangeListing) (i : ℕ) (d : Slot) → listed_in c ≡ r → i < length r.items → d ≡ get_or c.slots.items i d
    → get_or r.items i no_note ≡ note_of_slot c.apart.items d
seen_read c r i d view lt is =
    ap (λ (x : ChangeListing). get_or x.items i no_note) (sym view)
    ∙ get_or-map (note_of_slot c.apart.items) c.slots.items i d no_note (seen_within c r i view lt) ∙ ap (note_of_slot c.apart.items) (sym is)

-- one that is read as `s`
pub seen_here : (c : Inside) (r : ChangeListing) (i : ℕ) (d : Slot) (s : SmallChange) → listed_in c ≡ r → i < length r.items → d ≡ get_or c.slots.items i d → s ≡ small_of d → IsHere s
    → get_or r.items i no_note ≡ note_of d.step (small_turn s)
seen_here c r i d s view lt is at here = seen_read c r i d view lt is ∙ ap (slot_note c.apart.items d.step) (sym at) ∙ here_note c.apart.items d.step s here

pub apart_within : (c : Inside) (r : ChangeListing) (i k : ℕ) (d : Slot) → listed_in c ≡ r → IsChangeListing c → i < length r.items → d ≡ get_or c.slots.items i d → small_of d ≡ HeldApart k
    → k < length c.apart.items
apart_within c r i k d view placed lt is e =
    (place_within 0 c.slots.items (length c.apart.items) i k d placed (seen_within c r i view lt) (ap small_of (sym is) ∙ e)).1

pub seen_apart : (c : Inside) (r : ChangeListing) (i k : ℕ) (d : Slot) (t : Note) → listed_in c ≡ r → IsChangeListing c → i < length r.items → d ≡ get_or c.slots.items i d → small_of d ≡ HeldApart k
    → t ≡ get_or c.apart.items k t → get_or r.items i no_note ≡ t
seen_apart c r i k d t view placed lt is e there =
    seen_read c r i d view lt is
    ∙ ap (slot_note c.apart.items d.step) e ∙ get_or_default c.apart.items k no_note t (apart_within c r i k d view placed lt is e) ∙ sym there

pub turned_apart : (c : Inside) (r : ChangeListing) (i k : ℕ) (d : Slot) (t u : Note) (b : Body) → listed_in c ≡ r → IsChangeListing c → i < length r.items → d ≡ get_or c.slots.items i d
    → small_of d ≡ HeldApart k → t ≡ get_or c.apart.items k t → u ≡ note_after t b
    → map (note_of_slot (set c.apart.items k u)) c.slots.items ≡ set r.items i (note_after (get_or r.items i no_note) b)
turned_apart c r i k d t u b view placed lt is e there turned =
    let at : small_of (get_or c.slots.items i d) ≡ HeldApart k = ap small_of (sym is) ∙ e in
    let notes = notes-set_apart 0 c.slots.items (length c.apart.items) i k d c.apart.items u placed (seen_within c r i view lt) at (omega arith) in
    let seen : get_or r.items i no_note ≡ t = seen_apart c r i k d t view placed lt is e there in
    notes ∙ ap (λ (x : ChangeListing). set x.items i u) view
    ∙ ap (λ (x : Note). set r.items i x) turned
    ∙ ap (λ (n : Note). set r.items i (note_after n b)) (sym seen)

pub turned_here : (c : Inside) (r : ChangeListing) (i : ℕ) (d y : Slot) (s : SmallChange) (b : Body) → listed_in c ≡ r → i < length r.items → d ≡ get_or c.slots.items i d
    → s ≡ small_of d → IsHere s → IsHere (small_of y) → y.step ≡ d.step → small_turn (small_of y) ≡ turn_after (small_turn s) b
    → map (note_of_slot c.apart.items) (set c.slots.items i y) ≡ set r.items i (note_after (get_or r.items i no_note) b)
turned_here c r i d y s b view lt is at old new step turned =
    let seen : get_or r.items i no_note ≡ note_of d.step (small_turn s) = seen_here c r i d s view lt is at old in
    notes-set_here c.slots.items i y c.apart.items new
    ∙ ap (λ (x : ChangeListing). set x.items i (note_of y.step (small_turn (small_of y)))) view
    ∙ ap (λ (k : ℕ). set r.items i (note_of k (small_turn (small_of y)))) step
    ∙ ap (λ (x : Turn). set r.items i (note_of d.step x)) turned
    ∙ ap (λ (n : Note). set r.items i (note_after n b)) (sym seen)

pub in_place-turned : (c : Inside) (i : ℕ) (d y : Slot) → IsChangeListing c → d ≡ get_or c.slots.items i d → IsHere (small_of d) → IsHere (small_of y)
    → AreInPlace 0 (set c.slots.items i y) (length c.apart.items)
in_place-turned c i d y placed is old new =
    in_place-set 0 c.slots.items (length c.apart.items) i d y placed (subst (λ (s : Slot). IsHere (small_of s)) is old) new

-- One more that is held apart.
pub notes-push_apart : (slots : List Slot) (xs : List Note) (y : Slot) (t : Note) → AreInPlace 0 slots (length xs) → small_of y ≡ HeldApart (length xs)
    → map (note_of_slot (xs ++ t ∷ [])) (slots ++ y ∷ []) ≡ map (note_of_slot xs) slots ++ t ∷ []
notes-push_apart slots xs y t placed is =
    let early = same_notes 0 slots (length xs) (xs ++ t ∷ []) xs placed (λ k low lt. get_or_append_left xs (t ∷ []) no_note k lt) in
    map-append (note_of_slot (xs ++ t ∷ [])) slots (y ∷ []) ∙ ap (λ (ns : List Note). ns ++ note_of_slot (xs ++ t ∷ []) y ∷ []) early
    ∙ ap (λ (u : Note). map (note_of_slot xs) slots ++ u ∷ []) (ap (slot_note (xs ++ t ∷ []) y.step) is ∙ get_or-append_seam xs t [] no_note)

pub notes-push_here : (slots : List Slot) (xs : List Note) (y : Slot) → IsHere (small_of y)
    → map (note_of_slot xs) (slots ++ y ∷ []) ≡ map (note_of_slot xs) slots ++ note_of y.step (small_turn (small_of y)) ∷ []
notes-push_here slots xs y here =
    map-append (note_of_slot xs) slots (y ∷ []) ∙ ap (λ (u : Note). map (note_of_slot xs) slots ++ u ∷ []) (here_note xs y.step (small_of y) here)

-- One less, which was held apart.
pub in_place-less : (slots rest : List Slot) (xs ys : List Note) (t : Note) (k : ℕ) (y : Slot) → AreInPlace 0 slots (length xs) → slots ≡ rest ++ y ∷ [] → xs ≡ ys ++ t ∷ []
    → small_of y ≡ HeldApart k → (k ≡ length ys) × AreInPlace 0 rest (length ys)
in_place-less slots rest xs ys t k y placed e f at =
    let less = in_place-pop_apart 0 rest (length xs) k y (subst (λ (ss : List Slot). AreInPlace 0 ss (length xs)) e placed) at in
    let n : length xs ≡ length ys + 1 = ap (λ (us : List Note). length us) f ∙ length-append ys (t ∷ []) in
    let m : suc k ≡ length xs = less.1 in
    let is : k ≡ length ys = omega arith in
    (is, subst (AreInPlace 0 rest) is less.0)

pub notes-less : (slots rest : List Slot) (xs ys : List Note) (t : Note) (k : ℕ) (y : Slot) → AreInPlace 0 slots (length xs) → slots ≡ rest ++ y ∷ [] → xs ≡ ys ++ t ∷ []
    → small_of y ≡ HeldApart k → map (note_of_slot xs) slots ≡ map (note_of_slot ys) rest ++ t ∷ []
notes-less slots rest xs ys t k y placed e f at =
    let less = in_place-less slots rest xs ys t k y placed e f at in
    ap (λ (us : List Note). map (note_of_slot us) slots) f ∙ ap (map (note_of_slot (ys ++ t ∷ []))) e
    ∙ notes-push_apart rest ys y t less.1 (at ∙ ap HeldApart less.0)

-- None is held apart where a list begins with no slot of such a one.
pub none_apart : (slots rest : List Slot) (xs : List Note) (k : ℕ) (y : Slot) → AreInPlace 0 slots (length xs) → slots ≡ rest ++ y ∷ [] → small_of y ≡ HeldApart k → 0 < length xs
none_apart slots rest xs k y placed e at =
    let less = in_place-pop_apart 0 rest (length xs) k y (subst (λ (ss : List Slot). AreInPlace 0 ss (length xs)) e placed) at in
    let m : suc k ≡ length xs = less.1 in
    omega arith

-- One more that is held apart, as the vectors are then.
pub record Pushed (slots slots' : List Slot) (xs xs' : List Note) (t : Note) : Type 0 where
  pub in_place : AreInPlace 0 slots' (length xs')
  pub notes : map (note_of_slot xs') slots' ≡ map (note_of_slot xs) slots ++ t ∷ []

pub pushed_apart : (slots slots' : List Slot) (xs xs' : List Note) (k : ℕ) (y : Slot) (t : Note) → AreInPlace 0 slots (length xs) → k ≡ length xs → small_of y ≡ HeldApart k
    → slots' ≡ slots ++ y ∷ [] → xs' ≡ xs ++ t ∷ [] → Pushed slots slots' xs xs' t
pushed_apart slots slots' xs xs' k y t placed is at e f =
    let size : suc (length xs) ≡ length (xs ++ t ∷ []) = let n = length-append xs (t ∷ []) in omega arith in
    let last : small_of y ≡ HeldApart (length xs) = at ∙ ap HeldApart is in
    rw (e, f) (record {
      in_place = subst (AreInPlace 0 (slots ++ y ∷ [])) size (in_place-push_apart 0 slots (length xs) y placed last);
      notes = notes-push_apart slots xs y t placed last;
    })
