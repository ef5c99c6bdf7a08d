-- A source over memory gives its pieces.
use Rattle.std.proofs.Common.{◌≡◌, ◌≤◌, ◌<◌, ◌++◌, ℕ, ◌+◌, ◌-◌, Bool, true, false, List, [], ◌∷◌, length, take, drop, min, nat_le, slice_index, Some, Result, Ok, Err, IfOk, IsErr, OnErr, is_err, length-append, length-drop, add_comm, refl, ap, sym, subst, ◌∙◌, arith}
use Rattle.std.specs.List.{concat}
use Rattle.std.proofs.lemmas.Bool.{le-leb, lt-leb, leb-true, leb-false}
use Rattle.std.proofs.Math.ListN.{drop_of_length-le}
use Rattle.std.proofs.Math.Seq.{drop-nil, take-nil}
use Rattle.std.proofs.lemmas.List.{take-append-drop, take-append-le, append-nil, append_assoc, take_min, drop_more, drop_min, drop-take, drop-drop, length-take}
use Rattle.teco_io.specs.Terminal.{count_after}
use Rattle.teco_io.specs.Source.{Gives}
use Rattle.teco_io.specs.Pieces.{Pieces, before_others, given_by, left_by, pieces_at}

-- a cut that is not past the place is left out
pub cut_left_out : (at cut : ℕ) (cuts bs : List ℕ) → nat_le cut at ≡ true → pieces_at at bs (cut ∷ cuts) ≡ pieces_at at bs cuts
unfolding pieces_at
cut_left_out at cut cuts bs e = rw e

cut_ends : (at cut : ℕ) (cuts bs : List ℕ) → nat_le cut at ≡ false → pieces_at at bs (cut ∷ cuts) ≡ before_others (take (cut - at) bs) (pieces_at cut (drop (cut - at) bs) cuts)
unfolding pieces_at
cut_ends at cut cuts bs e = rw e

concat_before : (bs : List ℕ) (ps : List (List ℕ)) → concat (before_others bs ps) ≡ bs ++ concat ps
unfolding before_others
concat_before [] ps = refl
concat_before (b ∷ bs) ps = refl

concat_cut : (at cut : ℕ) (cuts bs : List ℕ) → ((at : ℕ) (bs : List ℕ) → concat (pieces_at at bs cuts) ≡ bs) → (past : Bool) → nat_le cut at ≡ past → concat (pieces_at at bs (cut ∷ cuts)) ≡ bs
concat_cut at cut cuts bs others true e = ap concat (cut_left_out at cut cuts bs e) ∙ others at bs
concat_cut at cut cuts bs others false e =
    ap concat (cut_ends at cut cuts bs e)
    ∙ concat_before (take (cut - at) bs) (pieces_at cut (drop (cut - at) bs) cuts)
    ∙ ap (λ x. take (cut - at) bs ++ x) (others cut (drop (cut - at) bs))
    ∙ take-append-drop (cut - at) bs

-- The pieces are the bytes.
pub concat_pieces : (at : ℕ) (bs cuts : List ℕ) → concat (pieces_at at bs cuts) ≡ bs
unfolding pieces_at
concat_pieces at bs [] = concat_before bs [] ∙ append-nil bs
concat_pieces at bs (cut ∷ cuts) = concat_cut at cut cuts bs (λ at bs. concat_pieces at bs cuts) (nat_le cut at) refl

-- What is read of the piece that begins at the place, into a room of so many bytes, and what comes then.
pub record Reads (room at : ℕ) (bs cuts : List ℕ) (n : ℕ) : Type 0 where
  pub given : take n bs ≡ given_by room (pieces_at at bs cuts)
  pub left : pieces_at (at + n) (drop n bs) cuts ≡ left_by room (pieces_at at bs cuts)

-- A piece that is not empty is the first.
pub first_piece : (p : List ℕ) (ps : List (List ℕ)) (room : ℕ) → 0 < length p → (given_by room (before_others p ps) ≡ take room p) × (left_by room (before_others p ps) ≡ before_others (drop room p) ps)
unfolding before_others given_by left_by
first_piece [] ps room some = absurd (omega (arith, some))
first_piece (b ∷ bs) ps room some = (refl, refl)

pub reads_last : (room at : ℕ) (bs : List ℕ) (n : ℕ) → 0 < length bs → n ≡ min room (length bs) → Reads room at bs [] n
unfolding pieces_at
reads_last room at bs n some is =
    let first = first_piece bs [] room some in
    let front : take n bs ≡ take room bs = rw (is) (take_min room bs) in
    let dropped : drop n bs ≡ drop room bs = rw (is) (drop_min room bs) in
    record { given = front ∙ sym first.0; left = ap (λ x. before_others x []) dropped ∙ sym first.1 }

-- The bytes up to a cut are the first piece; those of it that are read leave the rest before the others.
module _ (room at cut : ℕ) (cuts bs : List ℕ) (n : ℕ) (some : 0 < length bs) (past : at < cut) (is : n ≡ min room (min (cut - at) (length bs))) where
  p : List ℕ
  p = take (cut - at) bs

  others : List (List ℕ)
  others = pieces_at cut (drop (cut - at) bs) cuts

  size : length p ≡ min (cut - at) (length bs)
  unfolding p
  size = length-take (cut - at) bs

  n_is : n ≡ min room (length p)
  n_is = is ∙ ap (λ k. min room k) (sym size)

  first : (given_by room (before_others p others) ≡ take room p) × (left_by room (before_others p others) ≡ before_others (drop room p) others)
  first = first_piece p others room (omega (arith, size, some, past))

  here : pieces_at at bs (cut ∷ cuts) ≡ before_others p others
  unfolding p others
  here = cut_ends at cut cuts bs (lt-leb cut at past)

  front : take n bs ≡ take room p
  unfolding p
  front = ap (take n) (sym (take-append-drop (cut - at) bs)) ∙ take-append-le n (take (cut - at) bs) (drop (cut - at) bs) (omega (arith, size, n_is)) ∙ ap (λ k. take k p) n_is ∙ take_min room p

  dropped : drop n p ≡ drop room p
  dropped = ap (λ k. drop k p) n_is ∙ drop_min room p

  -- the whole piece was read
  whole : cut ≤ at + n → pieces_at (at + n) (drop n bs) (cut ∷ cuts) ≡ before_others (drop room p) others
  unfolding others before_others
  whole by =
      let all : n ≡ cut - at = omega (arith, is, by) in
      let there : at + n ≡ cut = omega (arith, all, past) in
      let gone : drop room p ≡ [] = drop_of_length-le p (omega (arith, size, is, all)) in
      cut_left_out (at + n) cut cuts (drop n bs) (le-leb cut (at + n) by)
      ∙ ap (λ k. pieces_at k (drop n bs) cuts) there
      ∙ ap (λ k. pieces_at cut (drop k bs) cuts) all
      ∙ ap (λ x. before_others x others) (sym gone)

  -- a rest of it stays
  part : at + n < cut → pieces_at (at + n) (drop n bs) (cut ∷ cuts) ≡ before_others (drop room p) others
  unfolding others p
  part before =
      let k = cut - (at + n) in
      let sum : n + k ≡ cut - at = omega (arith, before) in
      cut_ends (at + n) cut cuts (drop n bs) (lt-leb cut (at + n) before)
      ∙ ap (λ x. before_others (take k (drop n bs)) (pieces_at cut x cuts)) (drop-drop k n bs ∙ ap (λ j. drop j bs) sum)
      ∙ ap (λ x. before_others x others) (sym (drop-take n k bs) ∙ ap (λ j. drop n (take j bs)) sum ∙ dropped)

  rest : (read_up : Bool) → nat_le cut (at + n) ≡ read_up → pieces_at (at + n) (drop n bs) (cut ∷ cuts) ≡ before_others (drop room p) others
  rest true e = whole (leb-true cut (at + n) e)
  rest false e = part (leb-false cut (at + n) e)

  pub reads_cut : Reads room at bs (cut ∷ cuts) n
  reads_cut = record {
    given = front ∙ sym first.0 ∙ ap (given_by room) (sym here);
    left = rest (nat_le cut (at + n)) refl ∙ sym first.1 ∙ ap (left_by room) (sym here);
  }

none_before : (p : List ℕ) (ps : List (List ℕ)) → left_by 0 ps ≡ ps → left_by 0 (before_others p ps) ≡ before_others p ps
unfolding before_others left_by
none_before [] ps e = e
none_before (b ∷ bs) ps e = refl

-- A read into no room leaves the pieces.
none_cut : (at cut : ℕ) (cuts bs : List ℕ) → ((at : ℕ) (bs : List ℕ) → left_by 0 (pieces_at at bs cuts) ≡ pieces_at at bs cuts) → (past : Bool) → nat_le cut at ≡ past → left_by 0 (pieces_at at bs (cut ∷ cuts)) ≡ pieces_at at bs (cut ∷ cuts)
none_cut at cut cuts bs others true e = ap (left_by 0) (cut_left_out at cut cuts bs e) ∙ others at bs ∙ sym (cut_left_out at cut cuts bs e)
none_cut at cut cuts bs others false e =
    ap (left_by 0) (cut_ends at cut cuts bs e)
    ∙ none_before (take (cut - at) bs) (pieces_at cut (drop (cut - at) bs) cuts) (others cut (drop (cut - at) bs))
    ∙ sym (cut_ends at cut cuts bs e)

pub reads_none : (at : ℕ) (bs cuts : List ℕ) → left_by 0 (pieces_at at bs cuts) ≡ pieces_at at bs cuts
unfolding pieces_at left_by
reads_none at bs [] = none_before bs [] refl
reads_none at bs (cut ∷ cuts) = none_cut at cut cuts bs (λ at bs. reads_none at bs cuts) (nat_le cut at) refl

pub given_none : (ps : List (List ℕ)) → given_by 0 ps ≡ []
unfolding given_by
given_none [] = refl
given_none (p ∷ ps) = refl

-- No bytes have no piece.
no_pieces_cut : (at cut : ℕ) (cuts : List ℕ) → ((at : ℕ) → pieces_at at [] cuts ≡ []) → (past : Bool) → nat_le cut at ≡ past → pieces_at at [] (cut ∷ cuts) ≡ []
unfolding before_others
no_pieces_cut at cut cuts others true e = cut_left_out at cut cuts [] e ∙ others at
no_pieces_cut at cut cuts others false e = cut_ends at cut cuts [] e ∙ ap (λ x. before_others x (pieces_at cut (drop (cut - at) []) cuts)) (take-nil (cut - at)) ∙ ap (λ x. pieces_at cut x cuts) (drop-nil (cut - at)) ∙ others cut

pub no_pieces : (at : ℕ) (cuts : List ℕ) → pieces_at at [] cuts ≡ []
unfolding pieces_at before_others
no_pieces at [] = refl
no_pieces at (cut ∷ cuts) = no_pieces_cut at cut cuts (λ at. no_pieces at cuts) (nat_le cut at) refl

pub none_left : (at : ℕ) (bytes cuts : List ℕ) → length bytes ≤ at → pieces_at at (drop at bytes) cuts ≡ []
none_left at bytes cuts past = ap (λ bs. pieces_at at bs cuts) (drop_of_length-le bytes past) ∙ no_pieces at cuts

pub all_given : (at held : ℕ) (bytes cuts : List ℕ) → held ≡ length bytes → held - at ≡ 0 → pieces_at at (drop at bytes) cuts ≡ []
all_given at held bytes cuts whole none = none_left at bytes cuts (omega (arith, whole, none))

pub some_left : (at : ℕ) (bs cuts : List ℕ) → 0 < length bs → pieces_at at bs cuts ≡ [] → ⊥
some_left at bs cuts some none = let all = ap length (sym (concat_pieces at bs cuts) ∙ ap concat none) in omega (arith, some, all)

pub given_and_left : (room : ℕ) (ps : List (List ℕ)) → concat ps ≡ given_by room ps ++ concat (left_by room ps)
unfolding given_by left_by
given_and_left room [] = refl
given_and_left room (p ∷ ps) = ap (λ x. x ++ concat ps) (sym (take-append-drop room p)) ∙ append_assoc (take room p) (drop room p) (concat ps) ∙ ap (λ x. take room p ++ x) (sym (concat_before (drop room p) ps))

pub left_of_none : (room : ℕ) → left_by room [] ≡ []
unfolding left_by
left_of_none room = refl

pub given_of_none : (room : ℕ) → given_by room [] ≡ []
unfolding given_by
given_of_none room = refl

-- A read up to the end that the first cut past the place gives.
module _ (room at : ℕ) (bs cuts : List ℕ) (k end n : ℕ) (some : 0 < length bs) (last : length cuts ≤ k → end ≡ at + length bs) (past : k < length cuts → at < slice_index cuts k) (cut : k < length cuts → end ≡ min (slice_index cuts k) (at + length bs)) (is : n ≡ min room (end - at)) where
  reads_on : (over : Bool) → nat_le (length cuts) k ≡ over → Reads room at bs (drop k cuts) n
  reads_on true e =
      let beyond = leb-true (length cuts) k e in
      subst (λ left. Reads room at bs left n) (sym (drop_of_length-le cuts beyond)) (reads_last room at bs n some (omega (arith, is, last beyond)))
  reads_on false e =
      let within = leb-false (length cuts) k e in
      let there = slice_index cuts k in
      subst (λ left. Reads room at bs left n) (sym (drop_more cuts k 0 within))
      (reads_cut room at there (drop (k + 1) cuts) bs n some (past within) (omega (arith, is, cut within, past within)))

  pub reads_at : Reads room at bs (drop k cuts) n
  reads_at = reads_on (nat_le (length cuts) k) refl

-- The same of all bytes, where the code counts them once as `held` and once as `len`, and reads the cuts once as `seen` and once as `again`.
module _ (room at : ℕ) (bytes cuts seen again : List ℕ) (k end n held len : ℕ) (first : seen ≡ cuts) (second : again ≡ cuts) (whole : held ≡ length bytes) (size : len ≡ length bytes) (some : held - at ≡ 0 → ⊥) (past : k < length seen → at < slice_index seen k) (last : length again ≤ k → end ≡ len) (cut : k < length again → end ≡ min (slice_index again k) len) (is : n ≡ min room (end - at)) where
  pub reads_of : Reads room at (drop at bytes) (drop k cuts) n
  reads_of =
      let bs = drop at bytes in
      let all : len ≡ at + length bs = omega (arith, whole, size, some, length-drop at bytes) in
      reads_at room at bs cuts k end n (omega (arith, whole, size, some, all))
      (subst (λ x. length x ≤ k → end ≡ at + length bs) second (λ beyond. last beyond ∙ all))
      (subst (λ x. k < length x → at < slice_index x k) first past)
      (subst (λ x. k < length x → end ≡ min (slice_index x k) (at + length bs)) second (λ within. cut within ∙ ap (min (slice_index again k)) all)) is

-- What a read gives, and what is left, are what was to come.
pub given_off : (room : ℕ) (old new : List (List ℕ)) (bytes : List ℕ) → bytes ≡ given_by room old → new ≡ left_by room old → concat old ≡ bytes ++ concat new
given_off room old new bytes g l = given_and_left room old ∙ ap (λ x. x ++ concat (left_by room old)) (sym g) ∙ ap (λ x. bytes ++ concat x) (sym l)

module _ {E : Type 0} (old new : Pieces) (size : ℕ) (got : List ℕ) (left : new.pieces ≡ left_by size old.pieces) where
  pub gives_ok : (r : Result ℕ E) → IfOk r (λ n. take n got ≡ given_by size old.pieces) → new.failures ≡ count_after (is_err r) old.failures
      → IfOk r (λ n. Gives {S = Pieces} (λ s. Some (concat s.pieces)) (λ s. length (concat s.pieces)) (λ s. s.failures) old new (take n got) false)
  gives_ok (Ok n) given count =
      let off = given_off size old.pieces new.pieces (take n got) given left in
      record { given = off; less = sym (ap length off ∙ length-append (take n got) (concat new.pieces) ∙ add_comm (length (take n got)) (length (concat new.pieces))); count = count }
  gives_ok (Err e) given count = tt

  pub gives_err : (r : Result ℕ E) → (IsErr r → old.pieces ≡ []) → new.failures ≡ count_after (is_err r) old.failures → OnErr r (new.ended ≡ old.ended)
      → OnErr r (Gives {S = Pieces} (λ s. Some (concat s.pieces)) (λ s. length (concat s.pieces)) (λ s. s.failures) old new [] true × (new.ended ≡ old.ended))
  gives_err (Ok n) none count ended = tt
  gives_err (Err e) none count ended =
      let gone : new.pieces ≡ old.pieces = left ∙ ap (left_by size) (none refl) ∙ left_of_none size ∙ sym (none refl) in
      (record { given = ap concat (sym gone); less = omega (arith, ap (λ x. length (concat x)) gone); count = count }, ended)
