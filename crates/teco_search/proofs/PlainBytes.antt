-- Bytes that are looked for as they stand, as the elements that they are.
use Rattle.std.proofs.Common.{◌≡◌, ℕ, ◌+◌, ◌<◌, ◌≤◌, true, false, List, length, get_or, map, drop, Some, None, refl, sym, ap, ◌∙◌, arith}
use Rattle.std.specs.Prelude.{slice_get}
use Rattle.std.proofs.lemmas.List.{get_or-map, length-map}
use Rattle.std.proofs.lemmas.Option.{get_or_from_slice_get, slice_get_within}
use Rattle.teco_core.specs.declared.case_mode.CaseMode.{CaseMode}
use Rattle.teco_search.specs.declared.anchor.Anchor.{Anchor}
use Rattle.teco_search.specs.declared.element.Element.{Element}
use Rattle.teco_search.specs.declared.element.Element.TheVariants.{Blanks}
use Rattle.teco_search.specs.declared.element.SetItem.TheVariants.{Byte}
use Rattle.teco_search.specs.Anchor.{begins, AreSingle, IsAnchored}
use Rattle.teco_search.specs.ByteSet.{contains}
use Rattle.teco_search.specs.Element.{admits, item_admits}
use Rattle.teco_search.specs.Literal.{plain}
use Rattle.teco_search.specs.Occurrence.{element_end, match_end}
use Rattle.teco_search.proofs.Ends.{match_more, match_stop, match_done}

-- the element of a byte at a place
pub plain_at : (bytes : List ℕ) (k : ℕ) (e : Element) → slice_get (map plain bytes) k ≡ Some e → e ≡ plain (get_or bytes k 0)
plain_at bytes k e here =
    let within = slice_get_within (map plain bytes) k e here in
    let inside : k < length bytes = omega (arith, length-map bytes plain) in
    sym (get_or_from_slice_get (map plain bytes) k e e here) ∙ get_or-map plain bytes k 0 e inside

no_run : (b : ℕ) (e : Element) → e ≡ plain b → e ≡ Blanks → ⊥
no_run b e is blanks = cc

-- Each of them takes one byte.
pub plain_single : (bytes : List ℕ) (n : ℕ) → AreSingle (map plain bytes) n
plain_single bytes n k e below here blanks = no_run (get_or bytes k 0) e (plain_at bytes k e here) blanks

plain_begins : (mode : CaseMode) (b c : ℕ) → begins mode (plain b) c ≡ item_admits mode (Byte b) c
unfolding begins admits
plain_begins mode b c = refl

-- An anchor at one of them.
pub plain_anchored :
    (mode : CaseMode) (bytes : List ℕ) (anchor : Anchor) → anchor.offset < length bytes → ((b : ℕ) → contains anchor.bytes b ≡ item_admits mode (Byte (get_or bytes anchor.offset 0)) b)
    → IsAnchored mode (map plain bytes) anchor
plain_anchored mode bytes anchor inside has = record {
  within = omega (arith, length-map bytes plain);
  single = plain_single bytes anchor.offset;
  bytes = λ e b here below. has b ∙ sym (ap (λ d. begins mode d b) (plain_at bytes anchor.offset e here) ∙ plain_begins mode (get_or bytes anchor.offset 0) b);
}

-- What the element of a byte does at a place.
module _ (mode : CaseMode) (b : ℕ) (text : List ℕ) (p : ℕ) where
  plain_past : slice_get text p ≡ None → element_end mode (plain b) text p ≡ None
  unfolding element_end
  plain_past none = rw none refl

  plain_other : (c : ℕ) → slice_get text p ≡ Some c → item_admits mode (Byte b) c ≡ false → element_end mode (plain b) text p ≡ None
  unfolding element_end admits
  plain_other c here no_is = rw (here, no_is) refl

  plain_here : (c : ℕ) → slice_get text p ≡ Some c → item_admits mode (Byte b) c ≡ true → element_end mode (plain b) text p ≡ Some (p + 1)
  unfolding element_end admits
  plain_here c here yes_is = rw (here, yes_is) refl

-- How bytes match one after the other.
module _ (mode : CaseMode) (bytes : List ℕ) (i : ℕ) (text : List ℕ) (p : ℕ) where
  module _ (inside : i < length bytes) where
    within : i < length (map plain bytes)
    within = omega (arith, length-map bytes plain)

    here : plain (get_or bytes i 0) ≡ get_or (map plain bytes) i (plain (get_or bytes i 0))
    here = sym (get_or-map plain bytes i 0 (plain (get_or bytes i 0)) inside)

    pub bytes_past : slice_get text p ≡ None → match_end mode (drop i (map plain bytes)) text p ≡ None
    bytes_past none = match_stop mode (map plain bytes) i (plain (get_or bytes i 0)) text p within here (plain_past mode (get_or bytes i 0) text p none)

    pub bytes_other : (c : ℕ) → slice_get text p ≡ Some c → item_admits mode (Byte (get_or bytes i 0)) c ≡ false → match_end mode (drop i (map plain bytes)) text p ≡ None
    bytes_other c there no_is = match_stop mode (map plain bytes) i (plain (get_or bytes i 0)) text p within here (plain_other mode (get_or bytes i 0) text p c there no_is)

    pub bytes_more :
        (c : ℕ) → slice_get text p ≡ Some c → item_admits mode (Byte (get_or bytes i 0)) c ≡ true → match_end mode (drop i (map plain bytes)) text p ≡ match_end mode (drop (i + 1) (map plain bytes)) text (p + 1)
    bytes_more c there yes_is = match_more mode (map plain bytes) i (plain (get_or bytes i 0)) text p (p + 1) within here (plain_here mode (get_or bytes i 0) text p c there yes_is)

  pub bytes_done : length bytes ≤ i → match_end mode (drop i (map plain bytes)) text p ≡ Some p
  bytes_done past = match_done mode (map plain bytes) i text p (omega (arith, length-map bytes plain))
