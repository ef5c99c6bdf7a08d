-- Outputs of which the first bytes are shown, and pages that stand in the input.
use Rattle.std.proofs.Common.{Bool, true, false, Option, Some, None, get_or, ◌≡◌, ◌∙◌, ap, ap₂, sym, subst, Result, Ok, Err, OnOk, OnErr, ℕ, ◌+◌, ◌-◌, ◌≤◌, ◌<◌, min, List, [], ◌∷◌, ◌++◌, length, take, drop, slice_range, append_assoc, arith, length-append, length-drop, refl, ⊎_elim}
use Rattle.std.specs.Arc.{arc_value}
use Rattle.std.specs.List.{All, sum_by}
use Rattle.std.specs.declared.alloc.Global.{Global}
use Rattle.std.specs.declared.sync.Arc.{Arc}
use Rattle.std.specs.declared.vec.Vec.{Vec}
use Rattle.std.proofs.lemmas.Bool.{cases_lt}
use Rattle.std.proofs.lemmas.List.Elements.{All-head, All-nil, All-tail}
use Rattle.std.proofs.lemmas.List.{append-nil, drop-append-le, drop_all, length-take-le, take-append-le, take_all}
use Rattle.std.proofs.lemmas.Slice.{between_is}
use Rattle.std.proofs.Math.Seq.{take-add, take-append-add, drop-append_seam}
use Rattle.teco_store.specs.Output.{bytes_of, kept, source_of, text_in, IsCounted, IsCut, IsFront, IsIn, IsMore, IsSame}
use Rattle.teco_store.specs.Page.{form_feed_if}
use Rattle.teco_store.specs.Parts.{joined, own_size, piece, size, EndsWithin, IsOrdered}
use Rattle.teco_store.specs.declared.output.Cut.{Cut}
use Rattle.teco_store.specs.declared.output.Output.{Output}
use Rattle.teco_store.specs.declared.parts.Part.{Part}
use Rattle.teco_store.specs.declared.parts.Part.TheVariants.{Own, Lent}
use Rattle.teco_store.proofs.Fronts.{joined-append, joined-more, joined-take, length-joined}

-- All the bytes are counted.
pub stored_len : (o : Output) (input : List ℕ) → IsIn o input → length (bytes_of o input) ≡ o.len
stored_len o input inside = let own = inside.0.own in length-joined o.own.items (source_of o input) o.parts.items (omega arith) inside.0.ordered inside.1 ∙ inside.0.len

-- Nothing lies in any input.
pub nothing_in : (o : Output) (input : List ℕ) → o.own.items ≡ [] → o.parts.items ≡ [] → o.len ≡ 0 → IsIn o input
nothing_in o input own parts len = (
  record {
    ordered = subst (All IsOrdered) (sym parts) (All-nil IsOrdered);
    own = ap (sum_by own_size) parts ∙ sym (ap length own);
    len = ap (sum_by size) parts ∙ sym len;
  },
  subst (All (EndsWithin (length (source_of o input)))) (sym parts) (All-nil (EndsWithin (length (source_of o input)))),
)

module _ (o new : Output) (same : IsSame o new) where
  pub counted_same : IsCounted o → IsCounted new
  counted_same counted = record {
    ordered = subst (All IsOrdered) (sym same.parts) counted.ordered;
    own = ap (sum_by own_size) same.parts ∙ counted.own ∙ sym (ap length same.own);
    len = ap (sum_by size) same.parts ∙ counted.len ∙ sym same.len;
  }

  pub in_same : (input : List ℕ) → IsIn o input → IsIn new input
  in_same input inside = (
    counted_same inside.0,
    rw same.shared (subst (All (EndsWithin (length (source_of o input)))) (sym same.parts) inside.1),
  )

  pub bytes_same : (input : List ℕ) → bytes_of new input ≡ bytes_of o input
  bytes_same input =
      ap₂ (λ (own : List ℕ) (ps : List Part). joined own (source_of new input) ps) same.own same.parts
      ∙ ap (λ (l : List ℕ). joined o.own.items (input ++ l) o.parts.items) (ap text_in same.shared)

  pub cut_same : (shown : ℕ) (cut : Cut) → IsCut o shown cut → IsCut new shown cut
  cut_same shown cut is = record {
    parts = rw same.parts is.parts;
    own = subst (λ (ps : List Part). sum_by own_size (kept ps cut) ≡ cut.own) (sym same.parts) is.own;
    front = subst (λ (ps : List Part). IsFront shown ps (kept ps cut)) (sym same.parts) is.front;
  }

-- The front of so many bytes is left, with the own bytes that it takes.
pub kept_bytes : (own input : List ℕ) (ps qs : List Part) (shown n : ℕ) → sum_by own_size ps ≡ length own → IsFront shown ps qs → sum_by own_size qs ≡ n
    → All (EndsWithin (length input)) ps → joined (take n own) input qs ≡ take shown (joined own input ps)
kept_bytes own input ps qs shown n all front own_is ends = joined-take own input qs n (omega arith) ∙ front.bytes own input (omega arith) ends

-- Own bytes are put at the end, as one more part.
pub put_bytes : (own more input : List ℕ) (ps qs : List Part) (n : ℕ) → sum_by own_size ps ≡ length own → n ≡ length more → IsMore ps (Own n) qs
    → joined (own ++ more) input qs ≡ joined own input ps ++ more
put_bytes own more input ps qs n all long adds =
    let last : take n (drop (sum_by own_size ps) (own ++ more)) ≡ more =
    ap (λ (k : ℕ). take n (drop k (own ++ more))) all ∙ ap (λ (l : List ℕ). take n l) (drop-append_seam own more) ∙ take_all n more (omega arith) in
    adds.bytes (own ++ more) input ∙ joined-append (own ++ more) input ps (Own n ∷ [])
    ∙ ap₂ ◌++◌ (joined-more own more input ps (omega arith)) (append-nil (take n (drop (sum_by own_size ps) (own ++ more))) ∙ last)

-- A part of the source is put there.
pub lend_bytes : (own input : List ℕ) (ps qs : List Part) (from upto : ℕ) → IsMore ps (Lent from upto) qs → joined own input qs ≡ joined own input ps ++ slice_range input from upto
lend_bytes own input ps qs from upto adds =
    adds.bytes own input ∙ joined-append own input ps (Lent from upto ∷ []) ∙ ap (λ (l : List ℕ). joined own input ps ++ l) (append-nil (slice_range input from upto))

-- What ends within the input ends within the source.
pub within_source : (o : Output) (input : List ℕ) (upto : ℕ) → upto ≤ length input → upto ≤ length (source_of o input)
within_source o input upto within = omega (arith, length-append input (text_in o.shared))

-- What is shown is still there after other bytes are stored behind it.
pub still_there : (old new more : List ℕ) (shown : ℕ) → shown ≤ length old → new ≡ take shown old ++ more → shown ≤ length new
still_there old new more shown within e = omega (arith, ap length e, length-append (take shown old) more, length-take-le shown old within)

-- A page that stands at the end of what was read.
pub stands : (read l₁ l₂ l₃ before after flag : List ℕ) → read ≡ l₁ ++ flag → l₁ ≡ l₂ ++ after → l₂ ≡ l₃ ++ before → drop (length l₃) read ≡ (before ++ after) ++ flag
stands read l₁ l₂ l₃ before after flag e₁ e₂ e₃ =
    let whole : read ≡ l₃ ++ ((before ++ after) ++ flag) =
    e₁ ∙ ap (λ (l : List ℕ). l ++ flag) (e₂ ∙ ap (λ (l : List ℕ). l ++ after) e₃ ∙ append_assoc l₃ before after) ∙ append_assoc l₃ (before ++ after) flag in
    ap (drop (length l₃)) whole ∙ drop-append_seam l₃ ((before ++ after) ++ flag)

-- the input from such a page up to another place
pub page_then : (input page : List ℕ) (at place upto : ℕ) → place ≤ upto → at ≤ length (take place input) → drop at (take place input) ≡ page → slice_range input at upto ≡ page ++ slice_range input place upto
page_then input page at place upto order inside is =
    let front : place + (upto - place) ≡ upto = omega arith in
    let whole : take upto input ≡ take place input ++ slice_range input place upto = ap (λ (k : ℕ). take k input) (sym front) ∙ take-add place (upto - place) input in
    between_is input at upto ∙ ap (drop at) whole ∙ drop-append-le at (take place input) (slice_range input place upto) inside
    ∙ ap (λ (l : List ℕ). l ++ slice_range input place upto) is

-- What is shown is as before, whether other bytes are stored behind it or none.
pub shows : {E : Type 0} (r : Result (Unit {0}) E) (old new more : List ℕ) (shown : ℕ) → shown ≤ length old → OnOk r (new ≡ take shown old ++ more) → OnErr r (new ≡ old)
    → (take shown new ≡ take shown old) × (shown ≤ length new)
shows (Ok u) old new more shown within ok err =
    let len = length-take-le shown old within in (
      ap (take shown) ok ∙ take-append-le shown (take shown old) more (omega arith) ∙ take_all shown (take shown old) (omega arith),
      still_there old new more shown within ok,
    )
shows (Err e) old new more shown within ok err = (ap (take shown) err, rw err within)

-- The first bytes of two lists are those of the first list, and then those of the other.
pub first_taken : (xs ys : List ℕ) (n m : ℕ) → m ≡ min (length xs) n → take n (xs ++ ys) ≡ take m xs ++ take (n - length (take m xs)) ys
first_taken xs ys n m is =
    ⊎_elim
    (λ (h : length xs < n).
    let all : take m xs ≡ xs = take_all m xs (omega arith) in
    let up : n ≡ length xs + (n - length xs) = omega arith in
    ap (λ (k : ℕ). take k (xs ++ ys)) up ∙ take-append-add xs ys (n - length xs) ∙ ap (λ (l : List ℕ). l ++ take (n - length l) ys) (sym all))
    (λ (h : n ≤ length xs).
    let same : m ≡ n = omega arith in
    let long : length (take m xs) ≡ m = length-take-le m xs (omega arith) in
    let none : n - length (take m xs) ≡ 0 = omega arith in
    take-append-le n xs ys h ∙ sym (append-nil (take n xs)) ∙ ap₂ (λ (k j : ℕ). take k xs ++ take j ys) (sym same) (sym none))
    (cases_lt (length xs) n)

-- What stands in a text stands there with more after it.
pub slice_front : (xs ys : List ℕ) (from upto : ℕ) → from ≤ upto → upto ≤ length xs → slice_range (xs ++ ys) from upto ≡ slice_range xs from upto
slice_front xs ys from upto order within =
    ap (take (upto - from)) (drop-append-le from xs ys (omega arith)) ∙ take-append-le (upto - from) (drop from xs) ys (omega (arith, length-drop from xs))

-- what comes after it
pub slice_after : (xs ys : List ℕ) → slice_range (xs ++ ys) (length xs) (length xs + length ys) ≡ ys
slice_after xs ys =
    let long : length xs + length ys - length xs ≡ length ys = omega arith in
    ap₂ take long (drop-append_seam xs ys) ∙ take_all (length ys) ys (omega arith)

piece_front : (own input more : List ℕ) (p : Part) → IsOrdered p → EndsWithin (length input) p → piece own (input ++ more) p ≡ piece own input p
piece_front own input more (Own count) ordered ends = refl
piece_front own input more (Lent from upto) ordered ends = slice_front input more from upto ordered ends

-- Parts of the input are the same where a text is shared.
pub joined_front : (own input more : List ℕ) (ps : List Part) → All IsOrdered ps → All (EndsWithin (length input)) ps → joined own (input ++ more) ps ≡ joined own input ps
joined_front own input more [] ordered ends = refl
joined_front own input more (p ∷ ps) ordered ends =
    ap₂ ◌++◌ (piece_front own input more p (All-head IsOrdered p ps ordered) (All-head (EndsWithin (length input)) p ps ends))
    (joined_front (drop (own_size p) own) input more ps (All-tail IsOrdered p ps ordered) (All-tail (EndsWithin (length input)) p ps ends))

-- A part as it is read, which ends with its source at the latest.
pub slice_within : (xs : List ℕ) (from upto f e : ℕ) → e ≡ min (length xs) upto → f ≡ min e from → drop f (take e xs) ≡ slice_range xs from upto
slice_within xs from upto f e end front =
    let whole : take e xs ≡ take upto xs =
    ⊎_elim (λ (h : upto < length xs). let same : e ≡ upto = omega arith in ap (λ (k : ℕ). take k xs) same) (λ (h : length xs ≤ upto). take_all e xs (omega arith) ∙ sym (take_all upto xs h))
    (cases_lt upto (length xs)) in
    let few : length (take e xs) ≡ e = length-take-le e xs (omega arith) in
    ⊎_elim (λ (h : from < e). let same : f ≡ from = omega arith in ap (λ (k : ℕ). drop k (take e xs)) same)
    (λ (h : e ≤ from). drop_all f (take e xs) (omega arith) ∙ sym (drop_all from (take e xs) (omega arith))) (cases_lt from e)
    ∙ ap (drop from) whole ∙ sym (between_is xs from upto)

ends_more : (n m : ℕ) (p : Part) → n ≤ m → EndsWithin n p → EndsWithin m p
ends_more n m (Own count) more ends = tt
ends_more n m (Lent from upto) more ends = omega arith

-- Parts that end within so many bytes end within more.
pub all_end : (n m : ℕ) (ps : List Part) → n ≤ m → All (EndsWithin n) ps → All (EndsWithin m) ps
all_end n m ps more ends = λ k d there. ends_more n m (get_or ps k d) more (ends k d there)

-- an output that shares a text
abbrev pub with_text : Output → Arc (Vec ℕ Global) Global → Output
with_text o text = record o { shared = Some text }

-- An output that shares none comes to share one: what is stored is as before.
module _ (o : Output) (text : Arc (Vec ℕ Global) Global) (input : List ℕ) (none : o.shared ≡ None) (inside : IsIn o input) where
  source_is : length (source_of o input) ≡ length input
  source_is = omega (arith, ap (λ (s : Option (Arc (Vec ℕ Global) Global)). length (input ++ text_in s)) none, length-append input [])

  parts_end : All (EndsWithin (length input)) o.parts.items
  parts_end = all_end (length (source_of o input)) (length input) o.parts.items (omega (arith, source_is)) inside.1

  pub in_shared : IsIn (with_text o text) input
  in_shared = (
    record { ordered = inside.0.ordered; own = inside.0.own; len = inside.0.len },
    all_end (length input) (length (input ++ (arc_value text).items)) o.parts.items (omega (arith, length-append input (arc_value text).items)) parts_end,
  )

  pub bytes_shared : bytes_of (with_text o text) input ≡ bytes_of o input
  bytes_shared =
      joined_front o.own.items input (arc_value text).items o.parts.items inside.0.ordered parts_end
      ∙ sym (joined_front o.own.items input (text_in o.shared) o.parts.items inside.0.ordered parts_end)

pub form_feed_short : (form_feed : Bool) → length (form_feed_if form_feed) ≤ 1
form_feed_short true = omega arith
form_feed_short false = omega arith
