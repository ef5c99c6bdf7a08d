-- Parts of the input that a text is, and that are lent to it.
use Rattle.std.proofs.Common.{◌≡◌, ◌∙◌, ℕ, Bool, if◌then◌else◌, ◌+◌, ◌-◌, ◌≤◌, slice_range, List, ◌++◌, length, take, drop, replicate, ap, refl, sym, arith, length-append, length-drop}
use Rattle.std.proofs.lemmas.List.{length-take-le, length-replicate, take-append-le, take_all, take_at}
use Rattle.teco_store.specs.Page.{page, page_of, is_ended, page_span, form_feed_if, left_of}
use Rattle.teco_store.specs.PageSpan.{IsPageSpan}
use Rattle.teco_store.specs.State.{Body}
use Rattle.teco_store.specs.Turn.{lent}
use Rattle.teco_store.proofs.Joining.{joins}

pub length-lent : (input : List ℕ) (from count : ℕ) → length (lent input from count) ≡ count
length-lent input from count =
    length-take-le count (drop from input ++ replicate count 0) (omega (arith, length-append (drop from input) (replicate count 0), length-replicate {A = ℕ} count 0))

-- within the input no byte is made up
pub lent_within : (input : List ℕ) (from count : ℕ) → from + count ≤ length input → lent input from count ≡ take count (drop from input)
lent_within input from count within = take-append-le count (drop from input) (replicate count 0) (omega (arith, length-drop from input))

-- the next page, which stands in the input at the place
pub page_is_lent : (b : Body) → b.place + length (page b) ≤ length b.input → lent b.input b.place (length (page b)) ≡ page b
page_is_lent b within =
    let left = left_of b in
    lent_within b.input b.place (length (page b)) within ∙ ap (take (length (page b))) (sym (joins b.page_lines left))
    ∙ take_at (page b) (form_feed_if (is_ended b.page_lines left) ++ drop (page_span b.page_lines left) left) (length (page b)) refl

-- The next page is within the input, at the place.
pub page_within : (b : Body) → b.place ≤ length b.input → b.place + length (page b) ≤ length b.input
page_within b here =
    let left = left_of b in
    let rest : List ℕ = form_feed_if (is_ended b.page_lines left) ++ drop (page_span b.page_lines left) left in
    omega (arith, ap length (joins b.page_lines left), length-append (page b) rest, length-drop b.place b.input)

pub page_at : (b : Body) (len : ℕ) → len ≡ length (page b) → b.place ≤ length b.input → slice_range b.input b.place (b.place + len) ≡ page b
page_at b len is here =
    let n : b.place + len - b.place ≡ length (page b) = omega (arith, is) in
    ap (λ (k : ℕ). take k (drop b.place b.input)) n ∙ sym (lent_within b.input b.place (length (page b)) (page_within b here)) ∙ page_is_lent b (page_within b here)

-- What is read of the page that comes next is its span.
pub span_is : (b : Body) (input bytes : List ℕ) (flag : Bool) → input ≡ b.input → b.place ≤ length b.input
    → (let left = take (length input - b.place) (drop b.place input) in
    (bytes ≡ page_of b.page_lines left) × (flag ≡ is_ended b.page_lines left) × (length bytes + (if flag then 1 else 0) ≤ length left))
    → IsPageSpan (record { len = length bytes; form_feed = flag }) b
span_is b input bytes flag same here page_is =
    let left = take (length input - b.place) (drop b.place input) in
    let is : left ≡ left_of b = take_all (length input - b.place) (drop b.place input) (omega (arith, length-drop b.place input)) ∙ ap (drop b.place) same in
    let bytes_is : bytes ≡ page b = page_is.0 ∙ ap (page_of b.page_lines) is in
    let flag_is : flag ≡ is_ended b.page_lines (left_of b) = page_is.1 ∙ ap (is_ended b.page_lines) is in
    let long : length bytes + (if flag then 1 else 0) ≡ page_span b.page_lines (left_of b) = rw (bytes_is, flag_is) refl in
    record {
      len = ap length bytes_is;
      form_feed = flag_is;
      within = omega (arith, long, page_is.2, ap length is, length-drop b.place b.input);
      read = ap (λ (k : ℕ). lent b.input b.place k) (ap length bytes_is) ∙ page_is_lent b (page_within b here);
    }
