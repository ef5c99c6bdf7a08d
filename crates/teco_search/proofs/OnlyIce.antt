-- Reading refuses by ICE alone.
use Rattle.std.proofs.Common.{◌≡◌, ℕ, zero, suc, ◌+◌, Bool, true, false, cond, eqb, leb, List, [], ◌∷◌, length, Option, Some, None, Result, Ok, Err, refl}
use Rattle.std.specs.Prelude.{slice_get, ◌&&◌, ◌||◌}
use Rattle.std.specs.Option.{option_map_or}
use Rattle.teco_core.specs.Refusal.{◌>>=◌}
use Rattle.teco_core.specs.declared.code.Code.{Code}
use Rattle.teco_core.specs.declared.code.Code.TheVariants.{Ice}
use Rattle.teco_search.specs.declared.element.Class.TheVariants as class
use Rattle.teco_search.specs.declared.element.SetItem.{SetItem}
use Rattle.teco_search.specs.declared.element.SetItem.TheVariants as item
use Rattle.teco_search.specs.declared.element.OneByte.{OneByte}
use Rattle.teco_search.specs.declared.element.OneByte.TheVariants as one
use Rattle.teco_search.specs.declared.element.Element.{Element}
use Rattle.teco_search.specs.declared.element.Element.TheVariants as element
use Rattle.teco_core.specs.Ascii.{upper}
use Rattle.teco_search.specs.Reading.{Reading, occurs_at, byte_at, class_named, is_no_item, item_by, item_at, listed_at, after_item, items_at, one_byte_at, element_at, elements_at}

abbrev pub OnlyIce : {A : Type 0} → Result A Code → Type 0
OnlyIce (Ok x) = Unit {0}
OnlyIce (Err e) = e ≡ Ice

then_ice : {A B : Type 0} (r : Result A Code) (k : A → Result B Code) → OnlyIce r → ((x : A) → OnlyIce (k x)) → OnlyIce (r >>= k)
then_ice (Ok x) k first later = later x
then_ice (Err e) k first later = first

either_ice : {A : Type 0} (t : Bool) (a b : Result A Code) → OnlyIce a → OnlyIce b → OnlyIce (cond t a b)
either_ice true a b h k = h
either_ice false a b h k = k

module _ (text : List ℕ) where
  byte_ice : (at : ℕ) → OnlyIce (byte_at text at)
  unfolding byte_at
  byte_ice at = by (slice_get text at)
    where
      by : (o : Option ℕ) → OnlyIce (option_map_or (λ b. let r : Result ℕ Code = Ok b in r) o (Err Ice))
      by None = refl
      by (Some b) = tt

  named_ice : (b : ℕ) → OnlyIce (class_named b)
  named_ice b = by (eqb b 88) (eqb b 66) (eqb b 65) (eqb b 68) (eqb b 76) (eqb b 82) (eqb b 86) (eqb b 87)
    where
      by : (x o a d l r v w : Bool) → OnlyIce (cond x (Ok class.Any) (cond o (Ok class.Other) (cond a (Ok class.Letter) (cond d (Ok class.Digit) (cond l (Ok class.LineEnd) (cond r (Ok class.LetterOrDigit) (cond v (Ok class.LowerCase) (cond w (Ok class.UpperCase) (Err Ice)))))))))
      by true o a d l r v w = tt
      by false true a d l r v w = tt
      by false false true d l r v w = tt
      by false false false true l r v w = tt
      by false false false false true r v w = tt
      by false false false false false true v w = tt
      by false false false false false false true w = tt
      by false false false false false false false true = tt
      by false false false false false false false false = refl

  item_ice : (at : ℕ) → OnlyIce (item_at text at)
  unfolding item_at
  item_ice at = then_ice (byte_at text at) (λ b. item_by b text (at + 1)) (byte_ice at) (λ b.
      either_ice (eqb b 17) (byte_at text (at + 1) >>= (λ x. let r : Reading SetItem = Ok (item.Byte x, at + 1 + 1) in r)) _ (then_ice (byte_at text (at + 1)) (λ x. let r : Reading SetItem = Ok (item.Byte x, at + 1 + 1) in r) (byte_ice (at + 1)) (λ x. tt))
      (either_ice (eqb b 5) (byte_at text (at + 1) >>= (λ x. class_named (upper x) >>= (λ k. let r : Reading SetItem = Ok (item.Class k, at + 1 + 1) in r))) _
      (then_ice (byte_at text (at + 1)) (λ x. class_named (upper x) >>= (λ k. let r : Reading SetItem = Ok (item.Class k, at + 1 + 1) in r)) (byte_ice (at + 1)) (λ x.
      then_ice (class_named (upper x)) (λ k. let r : Reading SetItem = Ok (item.Class k, at + 1 + 1) in r) (named_ice (upper x)) (λ k. tt)))
      (either_ice (eqb b 24) (Ok (item.Class class.Any, at + 1)) _ tt (either_ice (eqb b 19) (Ok (item.Class class.Other, at + 1)) _ tt (either_ice (is_no_item b) (Err Ice) (Ok (item.Byte b, at + 1)) refl tt)))))

  listed_ice : (at : ℕ) → OnlyIce (listed_at text at)
  unfolding listed_at
  listed_ice at = either_ice (occurs_at text at 44 || occurs_at text at 93) (Err Ice) (item_at text at) refl (item_ice at)

  after_ice : (b : ℕ) (i : SetItem) (others : Reading (List SetItem)) (at : ℕ) → OnlyIce others → OnlyIce (after_item b i others at)
  after_ice b i others at later =
      either_ice (eqb b 93) (Ok (i ∷ [], at)) _ tt
      (either_ice (eqb b 44) (others >>= (λ js. let r : Reading (List SetItem) = Ok (i ∷ js.0, js.1) in r)) (Err Ice) (then_ice others (λ js. let r : Reading (List SetItem) = Ok (i ∷ js.0, js.1) in r) later (λ js. tt)) refl)

  items_ice : (n at : ℕ) → OnlyIce (items_at n text at)
  unfolding items_at
  items_ice zero at = refl
  items_ice (suc n) at = then_ice (listed_at text at) (λ i. byte_at text i.1 >>= (λ b. after_item b i.0 (items_at n text (i.1 + 1)) (i.1 + 1))) (listed_ice at) (λ i.
      then_ice (byte_at text i.1) (λ b. after_item b i.0 (items_at n text (i.1 + 1)) (i.1 + 1)) (byte_ice i.1) (λ b. after_ice b i.0 (items_at n text (i.1 + 1)) (i.1 + 1) (items_ice n (i.1 + 1))))

  one_byte_ice : (at : ℕ) → OnlyIce (one_byte_at text at)
  unfolding one_byte_at
  one_byte_ice at =
      either_ice (occurs_at text at 5 && occurs_at text (at + 1) 91) (items_at (length text) text (at + 2) >>= (λ js. let r : Reading OneByte = Ok (one.Listed js.0, js.1) in r)) (item_at text at >>= (λ i. let r : Reading OneByte = Ok (one.Single i.0, i.1) in r))
      (then_ice (items_at (length text) text (at + 2)) (λ js. let r : Reading OneByte = Ok (one.Listed js.0, js.1) in r) (items_ice (length text) (at + 2)) (λ js. tt))
      (then_ice (item_at text at) (λ i. let r : Reading OneByte = Ok (one.Single i.0, i.1) in r) (item_ice at) (λ i. tt))

  element_ice : (at : ℕ) → OnlyIce (element_at text at)
  unfolding element_at
  element_ice at =
      either_ice (occurs_at text at 5 && (occurs_at text (at + 1) 83 || occurs_at text (at + 1) 115)) (Ok (element.Blanks, at + 2)) _ tt
      (either_ice (occurs_at text at 14) (one_byte_at text (at + 1) >>= (λ c. let r : Reading Element = Ok (element.Except c.0, c.1) in r)) (one_byte_at text at >>= (λ c. let r : Reading Element = Ok (element.Among c.0, c.1) in r))
      (then_ice (one_byte_at text (at + 1)) (λ c. let r : Reading Element = Ok (element.Except c.0, c.1) in r) (one_byte_ice (at + 1)) (λ c. tt))
      (then_ice (one_byte_at text at) (λ c. let r : Reading Element = Ok (element.Among c.0, c.1) in r) (one_byte_ice at) (λ c. tt)))

  pub elements_ice : (n at : ℕ) → OnlyIce (elements_at n text at)
  unfolding elements_at
  elements_ice zero at = tt
  elements_ice (suc n) at =
      either_ice (leb (length text) at) (Ok []) (element_at text at >>= (λ e. elements_at n text e.1 >>= (λ es. let r : Result (List Element) Code = Ok (e.0 ∷ es) in r))) tt
      (then_ice (element_at text at) (λ e. elements_at n text e.1 >>= (λ es. let r : Result (List Element) Code = Ok (e.0 ∷ es) in r)) (element_ice at) (λ e.
      then_ice (elements_at n text e.1) (λ es. let r : Result (List Element) Code = Ok (e.0 ∷ es) in r) (elements_ice n e.1) (λ es. tt)))
