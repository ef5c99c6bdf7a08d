-- The outermost of the open blocks: how many they are, the innermost of them, and where they are stored.
use Rattle.std.proofs.Common.{◌≡◌, ℕ, suc, ◌+◌, ◌-◌, ◌<◌, ◌≤◌, ◌++◌, List, [], ◌∷◌, length, reverse, take, drop, get_or, sym, ap, ◌∙◌, arith}
use Rattle.std.proofs.lemmas.List.{drop_all, length-drop, length-reverse, length-take-le, reverse-append, take-append-drop, take-take}
use Rattle.std.proofs.lemmas.List.Elements.{All-drop}
use Rattle.std.proofs.Math.Seq.{drop-append_seam, drop-cons}
use Rattle.teco_exec.specs.Frames.{outermost}
use Rattle.teco_exec.specs.declared.blocks.Block.{Block}
use Rattle.teco_exec.specs.declared.blocks.Body.TheVariants.{Endless}
use Rattle.teco_exec.proofs.Frames.{Begin, innermost}

pub outermost_length : (depth : ℕ) (bs : List Block) → depth ≤ length bs → length (outermost depth bs) ≡ depth
outermost_length depth bs le = omega (arith, length-drop (length bs - depth) bs)

pub outermost_none : (bs : List Block) → outermost 0 bs ≡ []
outermost_none bs = let all : length bs ≤ length bs - 0 = omega arith in drop_all (length bs - 0) bs all

pub outermost_all : (n : ℕ) (bs : List Block) → n ≡ length bs → outermost n bs ≡ bs
outermost_all n bs e = let none : length bs - n ≡ 0 = omega arith in ap (λ i. drop i bs) none

pub outermost_cons : (depth : ℕ) (bs : List Block) → 0 < depth → depth ≤ length bs → (b : Block) × (outermost depth bs ≡ b ∷ outermost (depth - 1) bs)
outermost_cons depth bs some le =
    let no : Block = record { start = 0; body = Endless } in
    let i = length bs - depth in
    let within : i < length bs = omega arith in
    let next : suc i ≡ length bs - (depth - 1) = omega arith in
    (get_or bs i no, drop-cons bs i no within ∙ ap (λ n. get_or bs i no ∷ drop n bs) next)

pub begin_outermost : {n : ℕ} (depth : ℕ) (bs : List Block) → Begin n bs → Begin n (outermost depth bs)
begin_outermost {n = n} depth bs h = All-drop (λ (x : Block). x.start ≤ n) (length bs - depth) bs h

-- They are stored first.
pub outermost_stored : (xs : List Block) (depth n : ℕ) → depth ≤ n → n ≤ length xs → outermost depth (reverse (take n xs)) ≡ reverse (take depth xs)
outermost_stored xs depth n le within =
    let ys = take n xs in
    let inner = reverse (drop depth ys) in
    let outer = reverse (take depth ys) in
    let parts : reverse ys ≡ inner ++ outer = ap reverse (sym (take-append-drop depth ys)) ∙ reverse-append (take depth ys) (drop depth ys) in
    let whole : length ys ≡ n = length-take-le n xs within in
    let many : length (reverse ys) - depth ≡ length inner = omega (arith, whole, length-reverse ys, length-reverse (drop depth ys), length-drop depth ys) in
    ap (λ i. drop i (reverse ys)) many ∙ ap (drop (length inner)) parts ∙ drop-append_seam inner outer ∙ ap reverse (take-take depth n xs le)

pub stored_cons : (xs : List Block) (depth n : ℕ) (d : Block) → 0 < depth → depth ≤ n → n ≤ length xs → outermost depth (reverse (take n xs)) ≡ get_or xs (depth - 1) d ∷ outermost (depth - 1) (reverse (take n xs))
stored_cons xs depth n d some le within =
    let i = depth - 1 in
    let one : depth ≡ i + 1 = omega arith in
    let less : i < length xs = omega arith in
    outermost_stored xs depth n le within ∙ ap (λ k. reverse (take k xs)) one ∙ innermost xs i d less ∙ ap (λ (bs : List Block). get_or xs i d ∷ bs) (sym (outermost_stored xs i n (omega arith) within))
