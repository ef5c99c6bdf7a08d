use Rattle.std.specs.Prelude.{OnOk}
use Rattle.std.specs.Result.{is_err}
use Rattle.std.proofs.Common.{◌≡◌, Result, Ok, Err, [], ◌++◌, take, false, refl, sym, ap, subst, append-nil, ◌∙◌, rules, true≢false, inl}
use Rattle.teco_session.specs.Kept.{history_of}
use Rattle.teco_io.specs.Terminal.{Shows}
use Rattle.teco_io.specs.Source.{Gives}
use Rattle.teco_scan.specs.Stream.{requests, texts_of}
use Rattle.teco_serve.specs.Exchange.{HasRung, allowance}
use Rattle.teco_serve.specs.Message.{star}
use Rattle.teco_serve.specs.declared.served.Served.TheVariants.{EndOfCommands, NoMemory, ReadFault, ShowFault}
use Rattle.teco_serve.proofs.Showing.{Shows-joins}
use Rattle.teco_io.proofs.Sources.{Gives-nil, Gives-more, Gives-on}
use Rattle.teco_serve.proofs.Servings.{CutsOff-none, CutsOff-fed, CutsOff-append, CutsOff-first, CutsOff-all, Exchanges-append, GoOn-append, held_shows, ends_from}
use Rattle.teco_serve.proofs.Hearings.{HearsAllDone-besides, HearsAllDone-none, HearsAllDone-trans}
use Rattle.teco_serve.proofs.serving.serve.Goals as goal

-- no fault is the end of the commands
show_apart : ShowFault ≡ EndOfCommands → ⊥
show_apart end = cc

read_apart : ReadFault ≡ EndOfCommands → ⊥
read_apart end = cc

memory_apart : NoMemory ≡ EndOfCommands → ⊥
memory_apart end = cc

-- what holds of a call that gave no error
no_error : {T E P : Type 0} (result : Result T E) → is_err result ≡ false → OnOk result P → P
no_error (Ok value) well holds = holds
no_error (Err error) well holds = absurd (true≢false well)

pub returns-in-Err : goal.returns-in-Err
returns-in-Err g c =
    let e = c.in-Err.ensures.puts in
    record {
      serves = record {
        bytes = [];
        read = Gives-nil _ _ _ _;
        exchanges = [];
        done = refl;
        first = ([], refl);
        all = λ out. absurd (true≢false (sym out));
        ended = λ end. absurd (show_apart end);
        exit = tt;
        shown = record {
          before = [];
          last = star c.args.settings.manner.prompt;
          parts = inl (refl, refl, refl);
          breaks = record { some = c.in-Err.ensures.some; front = e.0; beginning = e.1; shows = e.2 };
        };
      };
      heard = HearsAllDone-none _ _ _ _ _ refl refl;
    }

pub pieces-init : goal.pieces-init
pieces-init g c = (
  [],
  [],
  Gives-nil _ _ _ _,
  refl,
  CutsOff-none _ c.new-splitter.ensures,
  ap texts_of c.new-splitter.ensures,
  tt,
  subst (λ l. Shows (g.T.Terminal.screen c.args.term.now) (g.T.Terminal.screen c.show_prompt.new.term) l false) (sym (append-nil (star c.args.settings.manner.prompt))) c.in_default.ensures.puts,
  HearsAllDone-none _ _ _ _ _ refl refl,
)

pub returns-in_default-read : goal.returns-in_default-read
returns-in_default-read g c =
    let inv = c.pieces.invariant in
    record {
      serves = record {
        bytes = inv.0;
        read = Gives-on inv.2 c.in_default-read.ensures.err.0;
        exchanges = inv.1;
        done = inv.3;
        first = CutsOff-first inv.0 c.pieces.splitter inv.1 inv.4;
        all = λ out. CutsOff-all inv.0 c.pieces.splitter inv.1 inv.4 inv.5;
        ended = λ end. absurd (read_apart end);
        exit = inv.6;
        shown = inv.7;
      };
      heard = inv.8;
    }

pub returns-then-n-eq0 : goal.returns-then-n-eq0
returns-then-n-eq0 g c =
    let inv = c.pieces.invariant in
    let none = subst (λ k. Gives g.S.Source.coming g.S.Source.bound g.S.Source.failures c.pieces.source c.read.new.self (take k c.read.new.piece) false) c.if-n-eq0.true c.in-Ok.ensures.ok in
    record {
      serves = record {
        bytes = inv.0;
        read = Gives-on inv.2 none;
        exchanges = inv.1;
        done = inv.3;
        first = CutsOff-first inv.0 c.pieces.splitter inv.1 inv.4;
        all = λ out. CutsOff-all inv.0 c.pieces.splitter inv.1 inv.4 inv.5;
        ended = λ end. c.in-Ok.ensures.ends c.if-n-eq0.true (search rules);
        exit = inv.6;
        shown = inv.7;
      };
      heard = HearsAllDone-trans g.L.Listens.hears _ _ _ _ _ _ inv.8 (HearsAllDone-besides g.L.Listens.hears _ _ (history_of c.pieces.session) _ refl c.left.ensures.told);
    }

pub returns-then-is_err : goal.returns-then-is_err
returns-then-is_err g c =
    let inv = c.pieces.invariant in
    let piece = take c.in-Ok.n c.read.new.piece in
    record {
      serves = record {
        bytes = inv.0 ++ piece;
        read = Gives-more inv.2 c.in-Ok.ensures.ok;
        exchanges = inv.1;
        done = inv.3;
        first = (requests (c.pieces.splitter ++ piece), inv.4.asks piece);
        all = λ out. absurd (true≢false (sym out));
        ended = λ end. absurd (memory_apart end);
        exit = inv.6;
        shown = inv.7;
      };
      heard = inv.8;
    }

pub returns-in-Some : goal.returns-in-Some
returns-in-Some g c =
    let inv = c.pieces.invariant in
    let d = c.in-Some.ensures.does in
    let piece = take c.in-Ok.n c.read.new.piece in
    let bytes = inv.0 ++ piece in
    let fed : c.feed.new.self ≡ c.pieces.splitter ++ piece = no_error {P = c.feed.new.self ≡ c.pieces.splitter ++ piece} c.feed.result (sym c.is_err.ensures.value ∙ c.if-is_err.false) c.feed.ensures.ok in
    let cut = CutsOff-append bytes c.feed.new.self c.serve_held-ended.new.splitter inv.1 d.0 (CutsOff-fed inv.0 c.pieces.splitter piece c.feed.new.self inv.1 inv.4 fed) d.2 in
    let joins = Shows-joins (g.T.Terminal.screen c.args.term.now) (g.T.Terminal.screen c.pieces.term) (g.T.Terminal.screen c.serve_held-ended.new.term) in
    let ends = ends_from _ _ _ joins c.args.settings.manner inv.1 inv.6 d.0 c.in-Some.served inv.7 d.4 in
    record {
      serves = record {
        bytes = bytes;
        read = subst (λ b. Gives g.S.Source.coming g.S.Source.bound g.S.Source.failures c.args.source.now c.read.new.self bytes b) (sym ends.read) (Gives-more inv.2 c.in-Ok.ensures.ok);
        exchanges = inv.1 ++ d.0;
        done = Exchanges-append (allowance c.args.settings.bounds (HasRung g.A.Stop.answered)) (history_of c.args.session.now) (history_of c.pieces.session) (history_of c.serve_held-ended.new.session) inv.1 d.0 inv.3 d.1;
        first = CutsOff-first bytes c.serve_held-ended.new.splitter (inv.1 ++ d.0) cut;
        all = λ out. absurd (ends.all out);
        ended = λ end. absurd (ends.ended end);
        exit = ends.exit;
        shown = ends.shown;
      };
      heard = HearsAllDone-trans g.L.Listens.hears _ _ _ _ _ _ inv.8 (HearsAllDone-trans g.L.Listens.hears _ _ _ _ _ _ c.in-Some.ensures.heard (HearsAllDone-besides g.L.Listens.hears _ _ (history_of c.serve_held-ended.new.session) _ refl c.left-in-Some.ensures.told));
    }

pub pieces-preserved : goal.pieces-preserved
pieces-preserved g c =
    let inv = c.pieces.invariant in
    let d = c.in_default-ended.ensures.does in
    let piece = take c.in-Ok.n c.read.new.piece in
    let bytes = inv.0 ++ piece in
    let fed : c.feed.new.self ≡ c.pieces.splitter ++ piece = no_error {P = c.feed.new.self ≡ c.pieces.splitter ++ piece} c.feed.result (sym c.is_err.ensures.value ∙ c.if-is_err.false) c.feed.ensures.ok in
    let cut = CutsOff-append bytes c.feed.new.self c.serve_held-ended.new.splitter inv.1 d.0 (CutsOff-fed inv.0 c.pieces.splitter piece c.feed.new.self inv.1 inv.4 fed) d.2 in
    let joins = Shows-joins (g.T.Terminal.screen c.args.term.now) (g.T.Terminal.screen c.pieces.term) (g.T.Terminal.screen c.serve_held-ended.new.term) in (
      bytes,
      inv.1 ++ d.0,
      Gives-more inv.2 c.in-Ok.ensures.ok,
      Exchanges-append (allowance c.args.settings.bounds (HasRung g.A.Stop.answered)) (history_of c.args.session.now) (history_of c.pieces.session) (history_of c.serve_held-ended.new.session) inv.1 d.0 inv.3 d.1,
      cut,
      d.3,
      GoOn-append inv.1 d.0 inv.6 d.4.0,
      held_shows _ _ _ joins c.args.settings.manner inv.1 inv.6 d.0 inv.7 d.4.1,
      HearsAllDone-trans g.L.Listens.hears _ _ _ _ _ _ inv.8 c.in_default-ended.ensures.heard,
    )
