-- Where no row of the reader's table holds, or of the writer's. Assumes nothing.
use Prim.Native.Nat.{ℕ, ◌+◌, ◌/◌, ◌%◌, ◌≤◌, ◌<◌}
use mathlib.Core.Path.{◌≡◌, refl, ap, sym, ◌∙◌}
use mathlib.Core.List.{List, [], ◌∷◌}
use mathlib.Core.Bool.{Bool, true, false, ◌||◌, false≢true}
use native.Mathlib.Omega.{arith}
use lib.ListN.{length}
use lib.Dec.{ltb}
use borrow.Author.Tests.{ltb-false}
use Rattle.words.specs.Rows.{Row, Weighed, clear, refused, weigh, row, NoneHolds}
use Rattle.words.proofs.Rows.{clear_none}
use Rattle.words.proofs.Choices.{is_false}
use Rattle.request.specs.declared.Request.{Request}
use Rattle.request.specs.Rows.{outside, arc_words_row}
use Rattle.text.specs.Number.{any_over}
use Rattle.sheet.specs.Grammar.{Contents, whole, broken, sheet_of}
use Rattle.sheet.specs.Answer.{told}
use Rattle.sheet.specs.Reader.{is_broken, words_of, reader_rows}
use Rattle.sheet.specs.Writer.{numbers_of, written, writer_rows, Ranged}

-- an answer that is no refusal: no row holds
pub told-clear : (w : Weighed) (k n : ℕ) → told w k ≡ 0 ∷ 0 ∷ n ∷ [] → (w ≡ clear) × (k ≡ n)
told-clear clear k n e = let q : k ≡ n = cc in (refl, q)
told-clear (refused number place) k n e = absurd (omega (arith, ap (length {A = ℕ}) e))

-- row k does not hold
passed : (rows : List Row) → weigh rows ≡ clear → (k : ℕ) → k < length rows → (row rows k).holds ≡ false
unfolding NoneHolds
passed rows e k h = is_false (row rows k).holds (clear_none rows e k h)

-- of two tests neither came out true
or-false : (a b : Bool) → (a || b) ≡ false → (a ≡ false) × (b ≡ false)
or-false true b e = absurd (false≢true (sym e))
or-false false b e = (refl, e)

-- ---- the reader's

-- what a sheet says, and that it and the lent words are within bounds
pub record Readable (s : List ℕ) (room : ℕ) : Type 0 where
  pub nodes : ℕ
  pub criteria : ℕ
  pub arcs : ℕ
  pub words : List ℕ
  pub asks : List ℕ
  pub so : sheet_of s ≡ whole nodes criteria arcs words asks
  pub short : length s ≤ 8192
  pub fits : length words ≤ room

-- no row holds, so the sheet is whole
pub readable : (s : List ℕ) (room : ℕ) → weigh (reader_rows s room) ≡ clear → Readable s room
readable s room e = go (sheet_of s) refl
  where
    go : (p : Contents) → sheet_of s ≡ p → Readable s room
    go (whole n d m words asks) q =
        record {
          nodes = n;
          criteria = d;
          arcs = m;
          words = words;
          asks = asks;
          so = q;
          short = ltb-false 8192 (length s) (passed (reader_rows s room) e 0 (omega arith));
          fits = ltb-false room (length words) (ap (λ (p : Contents). ltb room (length (words_of p))) (sym q) ∙ passed (reader_rows s room) e 2 (omega arith));
        }
    go (broken k) q = absurd (false≢true (sym (passed (reader_rows s room) e 1 (omega arith)) ∙ ap is_broken q))

-- ---- the writer's

-- the request and its arcs are within bounds, and so is their sheet
pub record Writable (r : Request) (words : List ℕ) (room : ℕ) : Type 0 where
  pub ranged : Ranged r.criteria words
  pub small : any_over (numbers_of r words) ≡ false
  pub short : length (written r words) ≤ 8192
  pub fits : length (written r words) ≤ room

-- no row holds, so each test came out false
pub writable : (r : Request) (words : List ℕ) (room : ℕ) → weigh (writer_rows r words room) ≡ clear → Writable r words room
unfolding outside arc_words_row
writable r words room e =
    let rows = writer_rows r words room in
    let w = r.criteria + 2 in
    let three = or-false (ltb r.criteria 2) (ltb 3 r.criteria) (passed rows e 0 (omega arith)) in
    let seven = or-false (ltb 0 (length words % w)) (ltb 512 (length words / w)) (passed rows e 1 (omega arith)) in
    record {
      ranged =
          record {
            at_least = ltb-false r.criteria 2 three.0;
            at_most = ltb-false 3 r.criteria three.1;
            multiple = (let h = ltb-false 0 (length words % w) seven.0 in omega arith);
            arcs = ltb-false 512 (length words / w) seven.1;
          };
      small = passed rows e 2 (omega arith);
      short = ltb-false 8192 (length (written r words)) (passed rows e 3 (omega arith));
      fits = ltb-false room (length (written r words)) (passed rows e 4 (omega arith));
    }
