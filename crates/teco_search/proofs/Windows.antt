-- How the number of a window rolls on to the next.
use Rattle.std.proofs.Common.{◌≡◌, ℕ, zero, suc, ◌+◌, ◌*◌, ◌/◌, ◌%◌, ◌^◌, ◌<◌, ◌≤◌, List, length, Option, Some, None, ⊎_elim, refl, sym, ap, subst, ◌∙◌, arith, pow-suc, mul_assoc, mul-add, mul_comm, add_comm, add_assoc, add-zero, ap₂, ◌-◌}
use Rattle.std.specs.Prelude.{slice_index, min}
use Rattle.std.proofs.lemmas.Bool.{cases_eq}
use Rattle.std.proofs.Math.Nat.{mod-add-mod, add-mul-mod_self_right, div-add-mod}
use Rattle.std.proofs.lemmas.Nat.{mul-mod_first}
use Rattle.memchr.specs.Find.{OccursAt, IsFirst, IsLast}
use Rattle.memchr.proofs.lemmas.FindLemmas.{Nowhere-more}
use Rattle.teco_search.specs.declared.window.TheConstants.{BASE, MODULUS}
use Rattle.teco_search.specs.declared.window.Needle.{Needle}
use Rattle.teco_search.specs.Window.{window_value, window_number, IsLeaving, IsNeedleOf, IsLike}

-- One more digit.
more_digits : (base modulus v h digit : ℕ) → h ≡ v % modulus → (h * base + digit) % modulus ≡ (v * base + digit) % modulus
more_digits base modulus v h digit is =
    sym (mod-add-mod (h * base) modulus digit) ∙ ap (λ n. (n + digit) % modulus) (ap (λ n. (n * base) % modulus) is ∙ mul-mod_first v base modulus)
    ∙ mod-add-mod (v * base) modulus digit

-- What is a multiple of the modulus goes out.
worth_nothing : (modulus w left leaving power : ℕ) → (leaving + power) % modulus ≡ 0 → (w + left * power + left * leaving) % modulus ≡ w % modulus
worth_nothing modulus w left leaving power is =
    let q = (leaving + power) / modulus in
    let whole : leaving + power ≡ modulus * q = sym (div-add-mod (leaving + power) modulus) ∙ ap (λ r. modulus * q + r) is ∙ add-zero (modulus * q) in
    let both : left * power + left * leaving ≡ left * q * modulus =
    add_comm (left * power) (left * leaving) ∙ sym (mul-add left leaving power) ∙ ap (λ n. left * n) (whole ∙ mul_comm modulus q) ∙ sym (mul_assoc left q modulus) in
    ap (λ n. n % modulus) (add_assoc w (left * power) (left * leaving) ∙ ap (λ n. w + n) both) ∙ add-mul-mod_self_right w (left * q) modulus

module _ (text : List ℕ) where
  -- the first digit of a window
  window_value-first : (at n : ℕ) → window_value text at (suc n) ≡ window_value text (at + 1) n + slice_index text at * BASE ^ n
  unfolding window_value
  window_value-first at zero =
      let here : at + 0 ≡ at = omega arith in
      let first : slice_index text (at + 0) ≡ slice_index text at = ap (slice_index text) here in
      omega arith
  window_value-first at (suc n) =
      let along : at + suc n ≡ at + 1 + n = omega arith in
      let last : slice_index text (at + suc n) ≡ slice_index text (at + 1 + n) = ap (slice_index text) along in
      let power : slice_index text at * BASE ^ suc n ≡ slice_index text at * BASE ^ n * BASE = ap (λ p. slice_index text at * p) (pow-suc BASE n) ∙ sym (mul_assoc (slice_index text at) (BASE ^ n) BASE) in
      let rest = window_value-first at n in
      omega arith

  pub window_number-zero : (at : ℕ) → 0 ≡ window_number text at 0
  unfolding window_value
  window_number-zero at = refl

  pub window_number-more : (at n h : ℕ) → h ≡ window_number text at n → (h * BASE + slice_index text (at + n)) % MODULUS ≡ window_number text at (n + 1)
  unfolding window_value
  window_number-more at n h is =
      let next : suc n ≡ n + 1 = omega arith in
      more_digits BASE MODULUS (window_value text at n) h (slice_index text (at + n)) is ∙ ap (window_number text at) next

  pub window_number-rolled :
      (at n h leaving : ℕ) → IsLeaving leaving n → h ≡ window_number text at n
      → (h * BASE + slice_index text (at + n) + slice_index text at * leaving) % MODULUS ≡ window_number text (at + 1) n
  unfolding window_value
  window_number-rolled at n h leaving left is =
      let first = slice_index text at in
      let last = slice_index text (at + n) in
      let value = window_value text at n in
      let along : h * BASE + last + first * leaving ≡ h * BASE + (last + first * leaving) = add_assoc (h * BASE) last (first * leaving) in
      let digits : value * BASE + (last + first * leaving) ≡ window_value text (at + 1) n + first * BASE ^ n + first * leaving =
      sym (add_assoc (value * BASE) last (first * leaving)) ∙ ap (λ v. v + first * leaving) (window_value-first at n) in
      ap (λ v. v % MODULUS) along ∙ more_digits BASE MODULUS value h (last + first * leaving) is ∙ ap (λ v. v % MODULUS) digits
      ∙ worth_nothing MODULUS (window_value text (at + 1) n) first leaving (BASE ^ n) left.worthless

  window_value-same : (bytes : List ℕ) (at n : ℕ) → ((k : ℕ) → k < n → slice_index text (at + k) ≡ slice_index bytes k) → window_value text at n ≡ window_value bytes 0 n
  unfolding window_value
  window_value-same bytes at zero same = refl
  window_value-same bytes at (suc n) same =
      let here : 0 + n ≡ n = omega arith in
      ap₂ (λ v b. v * BASE + b) (window_value-same bytes at n (λ k below. same k (omega arith))) (same n (omega arith) ∙ ap (slice_index bytes) (sym here))

  -- Where the bytes of a needle are, the window has its number.
  pub occurs_like : (bytes : List ℕ) (needle : Needle) (at : ℕ) → IsNeedleOf needle bytes → OccursAt text bytes at → IsLike text needle at
  occurs_like bytes needle at is occurs =
      ap (window_number text at) is.len ∙ ap (λ v. v % MODULUS) (window_value-same bytes at (length bytes) occurs.reads) ∙ sym is.number

-- what the highest power leaves of the modulus
pub leaving_is : (power n : ℕ) → power ≡ BASE ^ n % MODULUS → IsLeaving (MODULUS - power) n
leaving_is power n is = record { small = omega arith; worthless = omega arith }

pub power_more : (power n : ℕ) → power ≡ BASE ^ n % MODULUS → power * BASE % MODULUS ≡ BASE ^ (n + 1) % MODULUS
power_more power n is =
    let next : suc n ≡ n + 1 = omega arith in
    ap (λ p. p * BASE % MODULUS) is ∙ mul-mod_first (BASE ^ n) BASE MODULUS ∙ ap (λ p. p % MODULUS) (sym (pow-suc BASE n) ∙ ap (λ e. BASE ^ e) next)

-- The last place of a range that grows by one.
pub last_here : (P : ℕ → Type 0) (from to : ℕ) → from ≤ to → P to → IsLast P from (to + 1) (Some to)
last_here P from to low here = (record { low = low; high = omega arith; after = λ k above high. absurd (omega arith) }, here)

pub last_further : (P : ℕ → Type 0) (from to : ℕ) (r : Option ℕ) → IsLast P from to r → (P to → ⊥) → IsLast P from (to + 1) r
last_further P from to None none not_here = Nowhere-more none not_here
last_further P from to (Some s) last not_here = (
  record {
    low = last.0.low;
    high = omega (arith, last.0.high);
    after = λ k above high there. ⊎_elim (λ same. not_here (subst P same there)) (λ other. last.0.after k above (omega arith) there) (cases_eq k to);
  },
  last.1,
)

-- What is found where a match still ends in the text is found in a range that goes on.
module _ (text bytes : List ℕ) (from to end : ℕ) (is : end ≡ min to (length text + 1 - length bytes)) where
  pub first_to : (r : Option ℕ) → IsFirst (OccursAt text bytes) from end r → IsFirst (OccursAt text bytes) from to r
  first_to None none = λ k low high occurs. none k low (omega (arith, occurs.fits)) occurs
  first_to (Some s) first = (record { low = first.0.low; high = omega (arith, first.0.high); before = first.0.before }, first.1)

  pub last_to : (r : Option ℕ) → IsLast (OccursAt text bytes) from end r → IsLast (OccursAt text bytes) from to r
  last_to None none = λ k low high occurs. none k low (omega (arith, occurs.fits)) occurs
  last_to (Some s) last = (
    record { low = last.0.low; high = omega (arith, last.0.high); after = λ k above high occurs. last.0.after k above (omega (arith, occurs.fits)) occurs },
    last.1,
  )
