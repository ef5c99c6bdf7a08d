-- How many more changes have room after so many steps.
use Rattle.std.proofs.Common.{◌≡◌, ℕ, ◌+◌, ◌-◌, ◌<◌, ◌≤◌, ◌^◌, inl, inr, min, cond, ap, ◌∙◌, arith}
use Rattle.std.proofs.Math.Nat.{min-le_left, min-le_right, le-min}
use Rattle.std.specs.Prelude.{Result, Ok, Err, OnOk}
use Rattle.std.proofs.lemmas.Bool.{cases_lt, lt-ltb, le-ltb}
use Rattle.teco_undo.specs.Listing.{ChangeListing, spare_after}

early : (n : ℕ) (l : ChangeListing) → n < 2 ^ 32 → spare_after n l ≡ l.spare
unfolding spare_after
early n l h = ap (λ b. cond b l.spare (min l.spare l.apart)) (lt-ltb n (2 ^ 32) h)

late : (n : ℕ) (l : ChangeListing) → 2 ^ 32 ≤ n → spare_after n l ≡ min l.spare l.apart
unfolding spare_after
late n l h = ap (λ b. cond b l.spare (min l.spare l.apart)) (le-ltb n (2 ^ 32) h)

-- What has room has places.
pub has_places : (n k : ℕ) (l : ChangeListing) → k ≤ spare_after n l → (k ≤ l.spare) × (2 ^ 32 ≤ n → k ≤ l.apart)
has_places n k l h = elim (cases_lt n (2 ^ 32)) [
  | inl lt ↦ let e = early n l lt in (omega arith, λ le. absurd (omega arith))
  | inr le ↦
      let e = late n l le in
      let a = min-le_left l.spare l.apart in
      let b = min-le_right l.spare l.apart in
      (omega arith, λ le. omega arith)
]

-- What has places has room.
pub has_room : (n k : ℕ) (l : ChangeListing) → k ≤ l.spare → (2 ^ 32 ≤ n → k ≤ l.apart) → k ≤ spare_after n l
has_room n k l h there = elim (cases_lt n (2 ^ 32)) [
  | inl lt ↦ let e = early n l lt in omega arith
  | inr le ↦
      let e = late n l le in
      let m = le-min h (there le) in
      omega arith
]

-- One more change takes one place, and after so many steps one of those held apart.
pub one_less : (n : ℕ) (l m : ChangeListing) → m.spare + 1 ≡ l.spare → (2 ^ 32 ≤ n → m.apart + 1 ≡ l.apart) → spare_after n m + 1 ≡ spare_after n l
one_less n l m one apart =
    let p = has_places n (spare_after n m) m (omega arith) in
    let spare = p.0 in
    let low : spare_after n m + 1 ≤ spare_after n l = has_room n (spare_after n m + 1) l (omega arith) (λ le. let k = p.1 le in let e = apart le in omega arith) in
    let q = has_places n (spare_after n l) l (omega arith) in
    let whole = q.0 in
    let high : spare_after n l - 1 ≤ spare_after n m = has_room n (spare_after n l - 1) m (omega arith) (λ le. let k = q.1 le in let e = apart le in omega arith) in
    omega arith

-- The same, as a recorder is seen: `r` more have room, and `a` of those that are held apart.
pub first_place : (n r : ℕ) (l : ChangeListing) → spare_after n l ≡ r → 0 < r → 0 < l.spare
first_place n r l is some = let p = (has_places n 1 l (omega arith)).0 in omega arith

pub first_apart : (n r : ℕ) (l : ChangeListing) → spare_after n l ≡ r → 0 < r → 2 ^ 32 ≤ n → 0 < l.apart
first_apart n r l is some le = let p = (has_places n 1 l (omega arith)).1 le in omega arith

pub one_less_seen : (n r : ℕ) (l m : ChangeListing) → spare_after n l ≡ r → m.spare + 1 ≡ l.spare → (2 ^ 32 ≤ n → m.apart + 1 ≡ l.apart) → spare_after n m + 1 ≡ r
one_less_seen n r l m is one apart = one_less n l m one apart ∙ is

on_both : {T E P Q R : Type 0} (r : Result T E) → (P → Q → R) → OnOk r P → OnOk r Q → OnOk r R
on_both (Ok v) f p q = f p q
on_both (Err e) f p q = tt

pub room_found : {T E : Type 0} (result : Result T E) (n changes places : ℕ) (l : ChangeListing) → (2 ^ 32 ≤ n → changes ≤ places)
    → OnOk result (changes ≤ l.spare) → OnOk result (places ≤ l.apart) → OnOk result (changes ≤ spare_after n l)
room_found result n changes places l late = on_both result (λ s a. has_room n changes l s (λ le. let p = late le in omega arith))
