-- Tables of bytes, and the sets that are made of them.
use Rattle.std.proofs.Common.{replicate, ◌≡◌, ℕ, ◌+◌, ◌<◌, ◌≤◌, Bool, true, false, eqb, List, length, take, drop, length-drop, get_or, Fits, w8, ◌++◌, ◌-◌, Some, None, Option, refl, sym, ap, subst, ◌∙◌, arith, ⊎_elim}
use Rattle.memchr.specs.Find.{Nowhere, Passes}
use Rattle.std.specs.Option.{option_map_or, unwrap_or}
use Rattle.std.specs.Prelude.{slice_get, ◌||◌}
use Rattle.std.proofs.lemmas.Bool.{cases_eq, cases_lt, eq-eqb, ne_eqb}
use Rattle.std.proofs.lemmas.List.{get_or-drop, get_or-replicate, get_or-take, get_or_append_left, get_or-append_right, length-take-le}
use Rattle.std.proofs.lemmas.Option.{slice_get-get_or, get_or_from_slice_get, unwrap_or-slice_get}
use Rattle.std.proofs.Math.Bool.{or-false}
use Rattle.teco_search.specs.declared.byte_set.ByteSet.{ByteSet}
use Rattle.teco_search.specs.ByteSet.{AreBytes, contains, in_table}

told : (x y : Bool) → x ≡ y → ◌≡◌ {A = Option Bool} (Some x) (Some y)
told x y same = ap (λ b. let o : Option Bool = Some b in o) same

-- A table tells of each byte below its length.
pub in_table-get : (table : List Bool) (b : ℕ) → b < length table → slice_get table b ≡ Some (in_table table b)
in_table-get table b inside = let here = slice_get-get_or table b false inside in rw here refl

-- Before a place a set has what a table has, and from there on nothing.
pub record IsSetSoFar (table : List Bool) (bytes : ByteSet) (at : ℕ) : Type 0 where
  pub seen : (b : ℕ) → b < at → slice_get table b ≡ Some (contains bytes b)
  pub others : (b : ℕ) → at ≤ b → contains bytes b ≡ false

module _ (table : List Bool) (at : ℕ) (inside : at < length table) (old : ByteSet) (so_far : IsSetSoFar table old at) where
  pub set_more : (new : ByteSet) → get_or table at false ≡ true → ((b : ℕ) → contains new b ≡ (contains old b || eqb b at)) → IsSetSoFar table new (at + 1)
  set_more new yes_is more = record {
    seen = λ b below. ⊎_elim
        (λ same. rw same (slice_get-get_or table at false inside ∙ told (get_or table at false) (contains new at) (yes_is ∙ sym (more at ∙ rw (so_far.others at (omega arith), eq-eqb at at refl) refl))))
        (λ other. so_far.seen b (omega arith) ∙ told (contains old b) (contains new b) (sym (more b ∙ rw (ne_eqb b at other) (or-false (contains old b)))))
        (cases_eq b at);
    others = λ b above. more b ∙ rw (so_far.others b (omega arith), ne_eqb b at (λ same. omega (arith, same))) refl;
  }

  pub set_same : get_or table at false ≡ false → IsSetSoFar table old (at + 1)
  set_same no_is = record {
    seen = λ b below. ⊎_elim
        (λ same. rw same (slice_get-get_or table at false inside ∙ told (get_or table at false) (contains old at) (no_is ∙ sym (so_far.others at (omega arith)))))
        (λ other. so_far.seen b (omega arith)) (cases_eq b at);
    others = λ b above. so_far.others b (omega arith);
  }

tells : (entry : Option Bool) → option_map_or (λ is_in. is_in) entry false ≡ unwrap_or entry false
tells None = refl
tells (Some x) = refl

in_table-get_or : (table : List Bool) (b : ℕ) → in_table table b ≡ get_or table b false
in_table-get_or table b = tells (slice_get table b) ∙ unwrap_or-slice_get table b false

-- A table that has no byte.
pub in_table-none : (b : ℕ) → b < 256 → in_table (replicate 256 false) b ≡ false
in_table-none b below = in_table-get_or (replicate 256 false) b ∙ get_or-replicate 256 b false false below

-- So far the bytes below a place that pass a test are added to a table.
pub record AddsBelow (old new : List Bool) (test : ℕ → Bool) (at : ℕ) : Type 0 where
  pub whole : length new ≡ 256
  pub below : (b : ℕ) → b < at → in_table new b ≡ (in_table old b || test b)
  pub above : (b : ℕ) → at ≤ b → in_table new b ≡ in_table old b

-- Two slices of bytes together are bytes.
pub AreBytes-append : (xs ys : List ℕ) → ((i : ℕ) → Fits w8 (get_or xs i 0)) → ((i : ℕ) → Fits w8 (get_or ys i 0)) → AreBytes (xs ++ ys)
AreBytes-append xs ys first second = record {
  fits = λ k b here.
      let byte : get_or (xs ++ ys) k 0 ≡ b = get_or_from_slice_get (xs ++ ys) k b 0 here in
      ⊎_elim
      (λ early. omega (arith, first k, get_or_append_left xs ys 0 k early, byte))
      (λ late. omega (arith, second (k - length xs), get_or-append_right xs ys (length xs) k 0 refl late, byte))
      (cases_lt k (length xs));
}

-- If no byte of a part passes, none does between the part's places in the whole.
pub nowhere_in_part : (test : ℕ → Bool) (bytes : List ℕ) (from to : ℕ) → from ≤ to → to ≤ length bytes → Nowhere (Passes test (take (to - from) (drop from bytes))) 0 (length (take (to - from) (drop from bytes))) → Nowhere (Passes test bytes) from to
nowhere_in_part test bytes from to ordered within none k low high is =
    let fits : to - from ≤ length (drop from bytes) = omega (arith, length-drop from bytes) in
    let read : get_or (take (to - from) (drop from bytes)) (k - from) 0 ≡ get_or bytes k 0 = get_or-take (to - from) (drop from bytes) (k - from) 0 (omega arith) ∙ get_or-drop from bytes (k - from) 0 ∙ ap (λ i. get_or bytes i 0) (omega arith) in
    none (k - from) (omega arith) (omega (arith, length-take-le (to - from) (drop from bytes) fits)) (subst (λ b. test b ≡ true) (sym read) is)
