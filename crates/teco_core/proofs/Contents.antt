-- Values in a row, and the contents that readers see of them.
use Rattle.std.proofs.Common.{◌≡◌, ◌∙◌, ℕ, ◌+◌, ◌<◌, List, [], ◌∷◌, ◌++◌, length, take, map, replicate, get_or, set, sym, ap, refl, arith}
use Rattle.std.proofs.lemmas.List.{ext_get_or, length-replicate, get_or-replicate, map-set, map-append, get_or-map, length-map, take_more, take_more_set}
use Rattle.teco_core.specs.declared.register.Value.{Value}
use Rattle.teco_core.specs.Register.{Content, blank, content, with_content}
use Rattle.teco_core.specs.Contents.{content_of}

-- One value is changed: its place holds what f makes of what it held.
pub map-changed : (values : List Value) (i : ℕ) (was now : Value) (f : Content → Content) → i < length values
    → content_of now ≡ f (content_of (get_or values i was))
    → map content_of (set values i now) ≡ with_content (map content_of values) i (f (content (map content_of values) i))
map-changed values i was now f below is =
    map-set content_of values i now
    ∙ ap (λ c. set (map content_of values) i c) (is ∙ ap f (sym (get_or-map content_of values i was blank below)))

-- A copy that goes on by one value.
pub map-copied : (from to : List Value) (i : ℕ) (was now : Value) → i < length from → i < length to
    → content_of now ≡ content_of (get_or from i was)
    → map content_of (take i to) ≡ map content_of (take i from)
    → map content_of (take (i + 1) (set to i now)) ≡ map content_of (take (i + 1) from)
map-copied from to i was now below room is so_far =
    rw (take_more_set to i now room, take_more from i was below, map-append content_of (take i to) (now ∷ []), map-append, so_far, is)

pub map-copied_on : (from to : List Value) (i : ℕ) (was now : Value) → i < length from
    → content_of now ≡ content_of (get_or from i was)
    → map content_of to ≡ map content_of (take i from)
    → map content_of (to ++ now ∷ []) ≡ map content_of (take (i + 1) from)
map-copied_on from to i was now below is so_far =
    rw (take_more from i was below, map-append content_of to (now ∷ []), map-append, so_far, is)

-- Values that are all blank.
pub map-blank : (values : List Value)
    → ((i : ℕ) (other : Value) → i < length values → content_of (get_or values i other) ≡ blank)
    → map content_of values ≡ replicate (length values) blank
map-blank [] each = refl
map-blank (v ∷ vs) each =
    let values : List Value = v ∷ vs in
    ext_get_or blank (map content_of values) (replicate (length values) blank)
    (length-map values content_of ∙ sym (length-replicate (length values) blank))
    (λ i below.
    let here : i < length values = omega (arith, length-map values content_of) in
    get_or-map content_of values i v blank here ∙ each i v here ∙ sym (get_or-replicate (length values) i blank blank here))
