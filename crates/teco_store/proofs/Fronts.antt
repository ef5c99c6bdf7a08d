-- Parts of outputs: fronts of them, and more of them.
use Rattle.std.proofs.Common.{◌≡◌, ◌∙◌, ap, ap₂, sym, refl, subst, Some, ℕ, ◌+◌, ◌-◌, ◌≤◌, ◌<◌, List, [], ◌∷◌, ◌++◌, length, take, drop, get_or, slice_range, append_assoc, arith, length-append, length-drop}
use Rattle.std.specs.List.{All, sum_by}
use Rattle.std.proofs.lemmas.List.{append-nil, drop_more, drop-take, length-take-le, take-append-drop, take-append-le, take-take, take_at}
use Rattle.std.proofs.lemmas.List.Elements.{All-get_or, All-head, All-nil, All-push, All-tail, All-take, All-pop}
use Rattle.std.proofs.lemmas.List.Sums.{sum_by-cons, sum_by-le-sum_by, sum_by_more, sum_by_more_le, sum_by_push}
use Rattle.std.proofs.Math.Seq.{drop-drop, take-add, take-append-add}
use Rattle.teco_store.specs.Output.{IsBoth, IsFront, IsMore}
use Rattle.teco_store.specs.Parts.{joined, own_size, piece, size, without, EndsWithin, IsOrdered}
use Rattle.teco_store.specs.declared.parts.Part.{Part}
use Rattle.teco_store.specs.declared.parts.Part.TheVariants.{Own, Lent}

pub joined-append : (own input : List ℕ) (ps qs : List Part) → joined own input (ps ++ qs) ≡ joined own input ps ++ joined (drop (sum_by own_size ps) own) input qs
joined-append own input [] qs = refl
joined-append own input (p ∷ ps) qs =
    let left = drop (own_size p) own in
    let next : drop (sum_by own_size ps) left ≡ drop (sum_by own_size (p ∷ ps)) own =
    drop-drop (sum_by own_size ps) (own_size p) own ∙ ap (λ (k : ℕ). drop k own) (sym (sum_by-cons own_size p ps)) in
    ap (λ (l : List ℕ). piece own input p ++ l) (joined-append left input ps qs ∙ ap (λ (l : List ℕ). joined left input ps ++ joined l input qs) next)
    ∙ sym (append_assoc (piece own input p) (joined left input ps) (joined (drop (sum_by own_size (p ∷ ps)) own) input qs))

-- Own bytes that no part takes are none of theirs.
piece-take : (own input : List ℕ) (p : Part) (n : ℕ) → own_size p ≤ n → piece (take n own) input p ≡ piece own input p
piece-take own input (Own count) n enough = take-take count n own enough
piece-take own input (Lent from upto) n enough = refl

drop_front : (own : List ℕ) (k n : ℕ) → k ≤ n → drop k (take n own) ≡ take (n - k) (drop k own)
drop_front own k n within = let up : k + (n - k) ≡ n = omega arith in ap (λ (m : ℕ). drop k (take m own)) (sym up) ∙ drop-take k (n - k) own

pub joined-take : (own input : List ℕ) (ps : List Part) (n : ℕ) → sum_by own_size ps ≤ n → joined (take n own) input ps ≡ joined own input ps
joined-take own input [] n enough = refl
joined-take own input (p ∷ ps) n enough =
    let sum_is = sum_by-cons own_size p ps in
    let here : own_size p ≤ n = omega arith in
    let later : sum_by own_size ps ≤ n - own_size p = omega arith in
    ap₂ ◌++◌ (piece-take own input p n here)
    (ap (λ (l : List ℕ). joined l input ps) (drop_front own (own_size p) n here) ∙ joined-take (drop (own_size p) own) input ps (n - own_size p) later)

-- More own bytes are none of theirs either.
pub joined-more : (own more input : List ℕ) (ps : List Part) → sum_by own_size ps ≤ length own → joined (own ++ more) input ps ≡ joined own input ps
joined-more own more input ps enough =
    sym (joined-take (own ++ more) input ps (length own) enough) ∙ ap (λ (l : List ℕ). joined l input ps) (take_at own more (length own) refl)

length-piece : (own input : List ℕ) (p : Part) → own_size p ≤ length own → IsOrdered p → EndsWithin (length input) p → length (piece own input p) ≡ size p
length-piece own input (Own count) enough ordered ends = length-take-le count own enough
length-piece own input (Lent from upto) enough ordered ends = length-take-le (upto - from) (drop from input) (omega (arith, length-drop from input))

pub length-joined : (own input : List ℕ) (ps : List Part) → sum_by own_size ps ≤ length own → All IsOrdered ps → All (EndsWithin (length input)) ps
    → length (joined own input ps) ≡ sum_by size ps
length-joined own input [] enough ordered ends = refl
length-joined own input (p ∷ ps) enough ordered ends =
    let left = drop (own_size p) own in
    let own_is = sum_by-cons own_size p ps in
    let size_is = sum_by-cons size p ps in
    let few : own_size p ≤ length own = omega arith in
    let later : sum_by own_size ps ≤ length left = omega (arith, length-drop (own_size p) own) in
    let first = length-piece own input p few (All-head IsOrdered p ps ordered) (All-head (EndsWithin (length input)) p ps ends) in
    let others = length-joined left input ps later (All-tail IsOrdered p ps ordered) (All-tail (EndsWithin (length input)) p ps ends) in
    omega (arith, length-append (piece own input p) (joined left input ps))

-- A part without its last bytes.
piece-without : (own input : List ℕ) (p : Part) (over : ℕ) → piece own input (without p over) ≡ take (size p - over) (piece own input p)
piece-without own input (Own count) over = sym (take-take (count - over) count own (omega arith))
piece-without own input (Lent from upto) over =
    let same : upto - over - from ≡ upto - from - over = omega arith in
    ap (λ (k : ℕ). take k (drop from input)) same ∙ sym (take-take (upto - from - over) (upto - from) (drop from input) (omega arith))

size-without : (p : Part) (over : ℕ) → size (without p over) ≡ size p - over
size-without (Own count) over = refl
size-without (Lent from upto) over = omega arith

own-without : (p : Part) (over : ℕ) → own_size (without p over) ≤ own_size p
own-without (Own count) over = omega arith
own-without (Lent from upto) over = omega arith

ordered-without : (p : Part) (over : ℕ) → IsOrdered p → over ≤ size p → over < size p → IsOrdered (without p over)
ordered-without (Own count) over ordered some less = tt
ordered-without (Lent from upto) over ordered some less = omega arith

ends-without : (p : Part) (over n : ℕ) → EndsWithin n p → EndsWithin n (without p over)
ends-without (Own count) over n ends = tt
ends-without (Lent from upto) over n ends = omega arith

own-size-le : (p : Part) → own_size p ≤ size p
own-size-le (Own count) = omega arith
own-size-le (Lent from upto) = omega arith

-- the sum up to a part and with it
pub sum_with : (f : Part → ℕ) (ps : List Part) (n i : ℕ) (p : Part) → n ≡ i + 1 → i < length ps → p ≡ get_or ps i p → sum_by f (take n ps) ≡ sum_by f (take i ps) + f p
sum_with f ps n i p next there is =
    ap (λ (k : ℕ). sum_by f (take k ps)) next ∙ sum_by_more f ps i p there ∙ ap (λ (q : Part). sum_by f (take i ps) + f q) (sym is)

-- No parts are the front of no bytes.
pub front_none : (ps : List Part) → IsFront 0 ps []
front_none ps = record {
  ordered = All-nil IsOrdered;
  size_is = refl;
  own = omega arith;
  few = omega arith;
  ends = λ n ends. All-nil (EndsWithin n);
  bytes = λ own input enough ends. refl;
}

-- The parts before one, and that without its last bytes, are a front.
module _ (ps : List Part) (i : ℕ) (p : Part) (over : ℕ) (there : i < length ps) (is : p ≡ get_or ps i p) (less : over < size p) (ordered : All IsOrdered ps) where
  split : ps ≡ take i ps ++ p ∷ drop (i + 1) ps
  split = sym (take-append-drop i ps) ∙ ap (λ (l : List Part). take i ps ++ l) (drop_more ps i p there ∙ ap (λ (q : Part). q ∷ drop (i + 1) ps) (sym is))

  p_ordered : IsOrdered p
  p_ordered = subst IsOrdered (sym is) (All-get_or IsOrdered ps i p there ordered)

  p_ends : (n : ℕ) → All (EndsWithin n) ps → EndsWithin n p
  p_ends n ends = subst (EndsWithin n) (sym is) (All-get_or (EndsWithin n) ps i p there ends)

  own_within : sum_by own_size (take i ps) + own_size p ≤ sum_by own_size ps
  own_within = subst (λ (q : Part). sum_by own_size (take i ps) + own_size q ≤ sum_by own_size ps) (sym is) (sum_by_more_le own_size ps i p there)

  front_bytes : (own input : List ℕ) → sum_by own_size ps ≤ length own → All (EndsWithin (length input)) ps
      → joined own input (take i ps ++ without p over ∷ []) ≡ take (sum_by size (take i ps) + (size p - over)) (joined own input ps)
  front_bytes own input enough ends =
      let front = joined own input (take i ps) in
      let left = drop (sum_by own_size (take i ps)) own in
      let rest = joined (drop (own_size p) left) input (drop (i + 1) ps) in
      let m = size p - over in
      let within = own_within in
      let long : length front ≡ sum_by size (take i ps) = length-joined own input (take i ps) (omega arith) (All-take IsOrdered i ps ordered) (All-take (EndsWithin (length input)) i ps ends) in
      let here : length (piece left input p) ≡ size p = length-piece left input p (omega (arith, length-drop (sum_by own_size (take i ps)) own)) p_ordered (p_ends (length input) ends) in
      let whole : joined own input ps ≡ front ++ (piece left input p ++ rest) = ap (joined own input) split ∙ joined-append own input (take i ps) (p ∷ drop (i + 1) ps) in
      joined-append own input (take i ps) (without p over ∷ [])
      ∙ ap (λ (l : List ℕ). front ++ l) (append-nil (piece left input (without p over)) ∙ piece-without left input p over ∙ sym (take-append-le m (piece left input p) rest (omega arith)))
      ∙ sym (take-append-add front (piece left input p ++ rest) m)
      ∙ ap₂ take (ap (λ (k : ℕ). k + m) long) (sym whole)

  sizes_are : (shown : ℕ) → shown + over ≡ sum_by size (take i ps) + size p → sum_by size (take i ps ++ without p over ∷ []) ≡ shown
  sizes_are shown sizes = let long = sum_by_push size (take i ps) (without p over) in let short = size-without p over in omega arith

  pub front_of : (shown : ℕ) → shown + over ≡ sum_by size (take i ps) + size p → IsFront shown ps (take i ps ++ without p over ∷ [])
  front_of shown sizes = record {
    ordered = All-push IsOrdered (take i ps) (without p over) (All-take IsOrdered i ps ordered) (ordered-without p over p_ordered (omega arith) less);
    size_is = sizes_are shown sizes;
    own = let long = sum_by_push own_size (take i ps) (without p over) in let short = own-without p over in let within = own_within in omega arith;
    few = subst (λ (n : ℕ). sum_by own_size (take i ps ++ without p over ∷ []) ≤ n) (sizes_are shown sizes) (sum_by-le-sum_by own_size size (take i ps ++ without p over ∷ []) own-size-le);
    ends = λ n ends. All-push (EndsWithin n) (take i ps) (without p over) (All-take (EndsWithin n) i ps ends) (ends-without p over n (p_ends n ends));
    bytes = λ own input enough ends. let same : sum_by size (take i ps) + (size p - over) ≡ shown = omega arith in
        front_bytes own input enough ends ∙ ap (λ (k : ℕ). take k (joined own input ps)) same;
  }

-- One more part is put after others.
pub more_pushed : (ps : List Part) (p : Part) → All IsOrdered ps → IsOrdered p → IsMore ps p (ps ++ p ∷ [])
more_pushed ps p ordered one = record {
  ordered = All-push IsOrdered ps p ordered one;
  size_is = sum_by_push size ps p;
  own = sum_by_push own_size ps p;
  ends = λ n ends end. All-push (EndsWithin n) ps p ends end;
  bytes = λ own input. refl;
  count = omega (arith, length-append ps (p ∷ []));
}

-- The last part is made longer by it.
pub more_joined : (ps front : List Part) (last p both : Part) → ps ≡ front ++ last ∷ [] → All IsOrdered front → IsBoth last p both → IsMore ps p (front ++ both ∷ [])
more_joined ps front last p both is ordered b =
    let all_size : sum_by size ps ≡ sum_by size front + size last = ap (sum_by size) is ∙ sum_by_push size front last in
    let all_own : sum_by own_size ps ≡ sum_by own_size front + own_size last = ap (sum_by own_size) is ∙ sum_by_push own_size front last in
    let new_size = sum_by_push size front both in
    let new_own = sum_by_push own_size front both in
    let size_of = b.size_is in
    let own_of = b.own in
    record {
      ordered = All-push IsOrdered front both ordered b.ordered;
      size_is = omega arith;
      own = omega arith;
      ends = λ n ends end.
          let parts = All-pop (EndsWithin n) ps front (Some last) is ends in
          All-push (EndsWithin n) front both parts.0 (b.ends n parts.1 end);
      bytes = λ own input.
          let left = drop (sum_by own_size front) own in
          joined-append own input front (both ∷ [])
          ∙ ap (λ (l : List ℕ). joined own input front ++ l) (b.bytes left input)
          ∙ sym (joined-append own input front (last ∷ p ∷ []))
          ∙ ap (joined own input) (sym (append_assoc front (last ∷ []) (p ∷ [])) ∙ ap (λ (l : List Part). l ++ p ∷ []) (sym is));
      count = omega (arith, ap length is, length-append front (last ∷ []), length-append front (both ∷ []));
    }

-- Two parts of the input that join.
slices_join : (input : List ℕ) (from upto end : ℕ) → from ≤ upto → upto ≤ end → slice_range input from end ≡ slice_range input from upto ++ slice_range input upto end
slices_join input from upto end order later =
    let long : end - from ≡ upto - from + (end - upto) = omega arith in
    let next : from + (upto - from) ≡ upto = omega arith in
    ap (λ (k : ℕ). take k (drop from input)) long ∙ take-add (upto - from) (end - upto) (drop from input)
    ∙ ap (λ (l : List ℕ). slice_range input from upto ++ take (end - upto) l) (drop-drop (upto - from) from input ∙ ap (λ (k : ℕ). drop k input) next)

pub both_lent : (from upto end : ℕ) → from ≤ upto → upto ≤ end → IsBoth (Lent from upto) (Lent upto end) (Lent from end)
both_lent from upto end order later = record {
  ordered = omega arith;
  size_is = omega arith;
  own = refl;
  ends = λ n first second. second;
  bytes = λ own input.
      ap (λ (l : List ℕ). l ++ []) (slices_join input from upto end order later) ∙ append_assoc (slice_range input from upto) (slice_range input upto end) [];
}

pub both_own : (count more : ℕ) → IsBoth (Own count) (Own more) (Own (count + more))
both_own count more = record {
  ordered = tt;
  size_is = refl;
  own = refl;
  ends = λ n first second. tt;
  bytes = λ own input. ap (λ (l : List ℕ). l ++ []) (take-add count more own) ∙ append_assoc (take count own) (take more (drop count own)) [];
}

-- the same of any two parts of which one ends where the other begins
pub both_lent_at : (p q : Part) (from upto at end : ℕ) → p ≡ Lent from upto → q ≡ Lent at end → upto ≡ at → IsOrdered p × IsOrdered q → IsBoth p q (Lent from end)
both_lent_at p q from upto at end first second meets ordered =
    let next : q ≡ Lent upto end = second ∙ ap (λ (k : ℕ). Lent k end) (sym meets) in
    subst (λ (r : Part). IsBoth r q (Lent from end)) (sym first)
    (subst (λ (r : Part). IsBoth (Lent from upto) r (Lent from end)) (sym next)
    (both_lent from upto end (subst IsOrdered first ordered.0) (subst IsOrdered next ordered.1)))
