use Rattle.std.proofs.Common.{◌≡◌, ◌<◌, ◌∷◌, [], ◌++◌, Ok, Err, sym, ◌∙◌, inr, refl, arith}
use Rattle.std.proofs.lemmas.Result.{err_from_is_err_and}
use Rattle.teco_core.specs.declared.code.Code.TheVariants.{Ice}
use Rattle.teco_search.specs.Reading.{byte_at, listed_at}
use Rattle.teco_search.proofs.Lists.{items_begin, items_refused, items_cut, items_other, items_done, items_more}
use Rattle.teco_search.proofs.reading.items_at.Goals as goal

pub items-init : goal.items-init
items-init c = record { past = omega arith; so_far = rw c.new-items.ensures.items (items_begin c.args.text.now c.args.at) }

pub returns-in_err-item-clause-read : goal.returns-in_err-item-clause-read
returns-in_err-item-clause-read c =
    let p = err_from_is_err_and c.from_residual.result c.from_residual.ensures.1 in
    let refused : listed_at c.args.text.now c.items.at ≡ Err Ice = cc (c.in_err-item.ensures.read, c.in_err-item.ensures.only) in
    rw (p.1, p.2) (inr (c.in_err-item.ensures.only, items_refused c.args.text.now c.args.at c.items.items.items c.items.at c.items.invariant.so_far refused))

pub returns-in_err-byte-clause-read : goal.returns-in_err-byte-clause-read
returns-in_err-byte-clause-read c =
    let p = err_from_is_err_and c.from_residual-in_err-byte.result c.from_residual-in_err-byte.ensures.1 in
    let cut : byte_at c.args.text.now c.in_ok-item.after ≡ Err Ice = cc (c.in_err-byte.ensures.read, c.in_err-byte.ensures.only) in
    rw (p.1, p.2) (inr (
      c.in_err-byte.ensures.only,
      items_cut c.args.text.now c.args.at c.items.items.items c.items.at c.items.invariant.so_far c.in_ok-item.item c.in_ok-item.after (sym c.in_ok-item.ensures.read) cut,
    ))

pub returns-then-byte-eq93-clause-read : goal.returns-then-byte-eq93-clause-read
returns-then-byte-eq93-clause-read c =
    let end : byte_at c.args.text.now c.in_ok-item.after ≡ Ok 93 = cc (c.in_ok-byte.ensures.read, c.if-byte-eq93.true) in
    let list : c.in_ok-list.list ≡ c.items.items.items ++ c.in_ok-item.item ∷ [] = c.in_ok-list.ensures.ok ∙ c.in_ok-keep.ensures.ok in
    rw list (items_done c.args.text.now c.args.at c.items.items.items c.items.at c.items.invariant.so_far c.in_ok-item.item c.in_ok-item.after
    (sym c.in_ok-item.ensures.read) c.in_ok-item.ensures.within.0 c.in_ok-item.ensures.within.1 end)

pub returns-then-byte-ne44-clause-read : goal.returns-then-byte-ne44-clause-read
returns-then-byte-ne44-clause-read c =
    inr (
      refl,
      items_other c.args.text.now c.args.at c.items.items.items c.items.at c.items.invariant.so_far c.in_ok-item.item c.in_ok-item.after c.in_ok-byte.byte
          (sym c.in_ok-item.ensures.read) (sym c.in_ok-byte.ensures.read) c.if-byte-eq93.false c.if-byte-ne44.true,
    )

pub items-preserved : goal.items-preserved
items-preserved c =
    let comma : byte_at c.args.text.now c.in_ok-item.after ≡ Ok 44 = cc (c.in_ok-byte.ensures.read, c.if-byte-ne44.false) in
    let past : c.items.at < c.in_ok-item.after = c.in_ok-item.ensures.within.0 in
    record {
      past = omega arith;
      so_far = rw c.in_ok-keep.ensures.ok (items_more c.args.text.now c.args.at c.items.items.items c.items.at c.items.invariant.so_far c.in_ok-item.item c.in_ok-item.after
          (sym c.in_ok-item.ensures.read) past c.in_ok-item.ensures.within.1 comma);
    }
