-- `build_shaped`: each branch is a row of 13, and then all is written. Assumes nothing.
use Prim.Native.Nat.{ℕ, ◌+◌, ◌*◌, ◌≤◌}
use mathlib.Core.Path.{◌≡◌, ap, ap₂, ◌∙◌}
use mathlib.Core.List.{List}
use native.Mathlib.Omega.{arith}
use lib.ListN.{length}
use Rattle.std.proofs.Common.{Ok}
use Rattle.words.specs.Pieces.{write}
use Rattle.request.specs.Request.{Req, asked, width}
use Rattle.request.specs.Shape.{ladders, label_count}
use Rattle.request.specs.declared.Request.{Request}
use Rattle.request.specs.declared.Refusal.TheVariants.{Room}
use Rattle.rounds.specs.Rounds.{table, tries}
use Rattle.tries.specs.Tries.{asked_by}
use Rattle.table.proofs.Building.{short-ladders, short-labels, all-clear, refused_all, built-all}
use Rattle.table.proofs.Building.{criteria-in, shape-labels, ladder-room, table-room, can-fill, filled-ladders, laddered}
use Rattle.table.proofs.build_shaped.Goals as goal
use Rattle.table.proofs.build_shaped.Goals.{After-ladder_words, Else-ladders-ladder_words, Start, After-fill_ladders, After-make_frame-s}

-- ---- the accepted request and its shape
module _ (s : Start) where
  abbrev R : Req
  R = asked s.args.request s.args.arcs.now

  -- it has 2 or 3 criteria
  criteria : (2 ≤ s.args.request.criteria) × (s.args.request.criteria ≤ 3)
  criteria = criteria-in s.args.request s.args.arcs.now s.requires.0 s.args.shape s.requires.1

  labels-are : s.args.shape.labels ≡ label_count R
  labels-are = shape-labels s.args.request s.args.arcs.now s.requires.0 s.args.shape s.requires.1

  -- its labels have the request's width: as many words as the table
  words-are : s.args.shape.labels * (s.args.request.criteria + 2) ≡ label_count R * width R
  words-are = ap (λ (x : ℕ). x * (s.args.request.criteria + 2)) labels-are

  table-words : s.args.shape.labels * (s.args.request.criteria + 2) ≡ length (table R)
  table-words = table-room s.args.request s.args.arcs.now s.requires.0 s.args.shape s.requires.1

-- the ladders' words are counted
ladder-words-are : (c : After-ladder_words) → c.ladder_words.result ≡ length (ladders (asked c.args.request c.args.arcs.now))
ladder-words-are c = c.ladder_words.ensures ∙ ladder-room c.args.request c.args.arcs.now c.requires.0 c.args.shape c.requires.1

-- and fit
ladders-fit : (c : Else-ladders-ladder_words) → length (ladders (asked c.args.request c.args.arcs.now)) ≤ length c.args.ladders.now
ladders-fit c = let e = c.ladder_words.ensures ∙ ladder-room c.args.request c.args.arcs.now c.requires.0 c.args.shape c.requires.1 in omega (arith, e, c.if-ladders-ladder_words.false)

pub ladder_words-requires : goal.ladder_words-requires
ladder_words-requires c = criteria (goal.at.ladder_words-requires c).Start

pub returns-then-ladders-ladder_words : goal.returns-then-ladders-ladder_words
returns-then-ladders-ladder_words c = let a = c.args in
    let r = refused_all (asked a.request a.arcs.now) a.ladders.now a.labels.now (Room 1)
    (short-ladders (asked a.request a.arcs.now) (length a.ladders.now) (length a.labels.now) c.requires.0 (omega (arith, ladder-words-are (goal.at.returns-then-ladders-ladder_words c).After-ladder_words, c.if-ladders-ladder_words.true))) in record { value = r.0; ladders_after = r.1; labels_after = r.2 }

pub returns-then-labels-words : goal.returns-then-labels-words
returns-then-labels-words c = let a = c.args in
    let s = (goal.at.returns-then-labels-words c).Start in
    let r = refused_all (R s) a.ladders.now a.labels.now (Room 2)
    (short-labels (R s) (length a.ladders.now) (length a.labels.now) c.requires.0 (ladders-fit (goal.at.returns-then-labels-words c).Else-ladders-ladder_words) (omega (arith, words-are s, c.if-labels-words.true))) in record { value = r.0; ladders_after = r.1; labels_after = r.2 }

pub overflow_sub-d : goal.overflow_sub-d
overflow_sub-d c = omega (arith, criteria (goal.at.overflow_sub-d c).Start)

pub fill_ladders-requires : goal.fill_ladders-requires
fill_ladders-requires c = let a = c.args in can-fill a.request a.arcs.now c.requires.0 a.shape c.requires.1 (length a.ladders.now) (ladders-fit (goal.at.fill_ladders-requires c).Else-ladders-ladder_words)

-- the ladders are filled
filled : (c : After-fill_ladders) → c.fill_ladders.new.ladders ≡ write c.args.ladders.now 0 (ladders (asked c.args.request c.args.arcs.now))
filled c = c.fill_ladders.ensures ∙ ap (write c.args.ladders.now 0) (filled-ladders c.args.request c.args.arcs.now c.requires.0 c.args.shape c.requires.1)

pub make_frame-s-requires : goal.make_frame-s-requires
make_frame-s-requires c = let a = c.args in
    record {
      accepted = c.requires.0;
      shape_is = c.requires.1;
      laddered = laddered a.request a.arcs.now c.requires.0 a.shape c.requires.1 a.ladders.now c.fill_ladders.new.ladders (ladders-fit (goal.at.make_frame-s-requires c).Else-ladders-ladder_words) (filled (goal.at.make_frame-s-requires c).After-fill_ladders);
    }

-- the frame is of this request
asked-is : (c : After-make_frame-s) → asked_by c.make_frame-s.result ≡ asked c.args.request c.args.arcs.now
asked-is c = let g = c.make_frame-s.ensures.given in ap₂ (λ (q : Request) (arcs : List ℕ). asked q arcs) g.0 g.1

pub draw_up-requires : goal.draw_up-requires
draw_up-requires c = let s = (goal.at.draw_up-requires c).Start in
    omega (arith, ap (λ (X : Req). length (table X)) (asked-is (goal.at.draw_up-requires c).After-make_frame-s), table-words s, c.if-labels-words.false)

pub returns : goal.returns
returns c = let a = c.args in
    let s = (goal.at.returns c).Start in
    let fit = ladders-fit (goal.at.returns c).Else-ladders-ladder_words in
    let same = asked-is (goal.at.returns c).After-make_frame-s in
    -- no row holds
    let rows = all-clear (R s) (length a.ladders.now) (length a.labels.now) c.requires.0 fit (omega (arith, words-are s, c.if-labels-words.false)) in
    let r = built-all (R s) a.ladders.now a.labels.now rows in
    let d = c.draw_up.ensures in
    record {
      value = ap Ok (d.value ∙ ap (λ (X : Req). tries X X.hops) same) ∙ r.0;
      ladders_after = filled (goal.at.returns c).After-fill_ladders ∙ r.1;
      labels_after = d.labels_after ∙ ap (λ (X : Req). write a.labels.now 0 (table X)) same ∙ r.2;
    }
