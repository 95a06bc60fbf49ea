-- The read-back of an accepted request, from what the code has found so far: which row decides, and what is answered. Assumes nothing.
use Prim.Native.Nat.{ℕ, ◌+◌, ◌*◌, ◌≤◌, ◌<◌}
use mathlib.Core.Path.{◌≡◌, ap, ◌∙◌, subst}
use mathlib.Core.Bool.{◌||◌}
use mathlib.Core.List.{List, [], ◌∷◌}
use mathlib.Core.Logic.{◌⊎◌, ⊎_elim}
use lib.ListN.{length, get_or}
use lib.Dec.{leb, ltb}
use Rattle.words.specs.Pieces.{write}
use Rattle.words.specs.Rows.{refused, weigh}
use Rattle.words.proofs.Choices.{or_left, or_right, or-neither}
use Rattle.words.proofs.Writes.{write-part}
use Rattle.request.specs.Request.{Req, asked, width, reach}
use Rattle.request.specs.Shape.{cells, label_count}
use Rattle.request.specs.Accepted.{Accepted}
use Rattle.request.specs.Answer.{shape_of}
use Rattle.request.specs.declared.Request.{Request}
use Rattle.request.specs.declared.Shape.{Shape}
use Rattle.request.proofs.Tests.{lt-holds, lt-fails, le-holds, le-fails}
use Rattle.rounds.specs.Label.{costs}
use Rattle.route.specs.Chain.{Chain, broken}
use Rattle.route.specs.Answer.{arcs_of, back_rows}
use Rattle.route.proofs.Answering.{Placed, short-labels, short-route, beyond-asked, three}

-- a broken chain leaves the route buffer
pub broken-leaves : (buffer after : List ℕ) (ch : Chain) (j : ℕ) → after ≡ write buffer 0 (arcs_of ch) → ch ≡ broken j → after ≡ buffer
broken-leaves buffer after ch j h e = h ∙ ap (λ (x : Chain). write buffer 0 (arcs_of x)) e ∙ write-part buffer 0 0

-- ---- costs

pub three-costs : (R : Req) (X l : List ℕ) (x y z : ℕ) → X ≡ l → x ≡ get_or (costs R X) 0 0 → y ≡ get_or (costs R X) 1 0 → z ≡ get_or (costs R X) 2 0
    → x ∷ y ∷ z ∷ [] ≡ three (costs R l)
three-costs R X l x y z e p q r =
    let f : x ∷ y ∷ z ∷ [] ≡ three (costs R X) = cc in
    f ∙ ap (λ (w : List ℕ). three (costs R w)) e

-- ---- the rows, one test after another

module _ (q : Request) (arcs : List ℕ) (acc : Accepted (asked q arcs)) (s : Shape) (e : s ≡ shape_of (asked q arcs)) where
  abbrev R : Req
  R = asked q arcs

  pub cells_is : s.cells ≡ cells (asked q arcs)
  cells_is = ap (λ (x : Shape). x.cells) e

  -- so many words has the table
  pub words-is : s.labels * (q.criteria + 2) ≡ label_count (asked q arcs) * width (asked q arcs)
  words-is = ap (λ (x : Shape). x.labels * (q.criteria + 2)) e

  module _ (W : List ℕ) (room i v c : ℕ) where
    pub at-labels : length W < s.labels * (q.criteria + 2) → weigh (back_rows (asked q arcs) W room i v c) ≡ refused 13 1
    at-labels h = short-labels R W room i v c acc (subst (λ (n : ℕ). length W < n) words-is h)

    module _ (long : s.labels * (q.criteria + 2) ≤ length W) where
      long-enough : label_count (asked q arcs) * width (asked q arcs) ≤ length W
      long-enough = subst (λ (n : ℕ). n ≤ length W) words-is long

      pub at-route : room < q.hops → weigh (back_rows (asked q arcs) W room i v c) ≡ refused 13 2
      unfolding reach
      at-route h = short-route R W room i v c acc long-enough h

      module _ (roomy : q.hops ≤ room) where
        roomy-enough : reach (asked q arcs) ≤ room
        unfolding reach
        roomy-enough = roomy

        -- there is no such layer, node or cell
        pub at-beyond : (q.hops < i) ⊎ ((q.nodes ≤ v) ⊎ (s.cells ≤ c)) → weigh (back_rows (asked q arcs) W room i v c) ≡ refused 14 0
        at-beyond h =
            beyond-asked R W room i v c acc long-enough roomy-enough
            (⊎_elim (λ (x : q.hops < i). or_left (ltb q.hops i || leb q.nodes v) (leb (cells R) c) (or_left (ltb q.hops i) (leb q.nodes v) (lt-holds x)))
            (⊎_elim (λ (y : q.nodes ≤ v). or_left (ltb q.hops i || leb q.nodes v) (leb (cells R) c) (or_right (ltb q.hops i) (leb q.nodes v) (le-holds y)))
            (λ (z : s.cells ≤ c). or_right (ltb q.hops i || leb q.nodes v) (leb (cells R) c) (le-holds (subst (λ (n : ℕ). n ≤ c) cells_is z))))
            h)

        -- none of rows 2 to 14
        pub placed : i ≤ q.hops → v < q.nodes → c < s.cells → Placed (asked q arcs) W room i v c
        placed x y z = record {
          accepted = acc;
          long = long-enough;
          roomy = roomy-enough;
          inside =
              or-neither (ltb q.hops i || leb q.nodes v) (leb (cells R) c) (or-neither (ltb q.hops i) (leb q.nodes v) (lt-fails x) (le-fails y))
              (le-fails (subst (λ (n : ℕ). c < n) cells_is z));
        }
