-- Five promises of functions that only the planner itself calls leave more than one answer: what they settle. Assumes nothing.
use Prim.Native.Nat.{ℕ, ◌≤◌, ◌<◌}
use mathlib.Core.Path.{◌≡◌, refl, sym, ◌∙◌, subst}
use mathlib.Core.List.{List}
use mathlib.Core.Logic.{◌⊎◌, inl, inr}
use lib.ListN.{get_or}
use lib.Seq.{ext_get_or}
use Rattle.words.proofs.Choices.{lt-or-le}
use Rattle.words.proofs.Radix.{radix-ext}
use Rattle.fences.specs.Answer.{Slot}
use Rattle.fences.specs.Fence.{ladder}
use Rattle.fences.proofs.Ladders.{slot-position}
use Rattle.labels.specs.Words.{ladder_in}
use Rattle.promises.specs.Settled.{Settled, SettledAs, SettledIn}
use Rattle.promises.proofs.Agree.{agree, passed, lent}
use Rattle.text.proofs.cut
use Rattle.fences.proofs.seek
use Rattle.labels.proofs.find_cell
use Rattle.keeping.proofs.keep_layer
use Rattle.route.proofs.store.Store.label

-- `cut` returns a part of the line that was passed: its promise says which bytes, and not where they lie
pub cut-settled : SettledAs cut.Kinds.ps cut.Kinds.r (λ κs. List ℕ) (λ κs x. x.now) cut.Reads.Asked cut.Reads.Learnt
cut-settled κs a x y v w ok p q = (agree p q, refl)

-- so does a store's `label`, a part of the label words that it was given
pub store-label-settled : SettledAs label.Kinds.ps label.Kinds.r (λ κs. List ℕ) (λ κs x. x.now) label.Reads.Asked label.Reads.Learnt
store-label-settled κs a x y v w ok p q = (agree p q, refl)

-- among the words of a ladder a cost has one place
one_place : (p q top : ℕ) → 0 < q → (l : List ℕ) (c x y : ℕ) → l ≡ ladder p q top → Slot l c x → Slot l c y → x ≡ y
one_place p q top pos l c x y is s t =
    agree (slot-position p q pos top c x (subst (λ (m : List ℕ). Slot m c x) is s)) (slot-position p q pos top c y (subst (λ (m : List ℕ). Slot m c y) is t))

-- `seek` finds a place that the cost has among the words it is given, whatever they are: on a ladder, the one
pub seek-settled : (p q top : ℕ) → 0 < q → Settled seek.Kinds.ps seek.Kinds.r (λ κs a. a.0.now ≡ ladder p q top) seek.Reads.Learnt
seek-settled p q top pos κs a x y v w is s t = (one_place p q top pos a.0.now a.1.0 x y is s t, refl)

-- `find_cell` does so for each criterion with a ratio: on ladders, the one cell, and the one value of every place
pub find-cell-settled : (p q top : ℕ → ℕ) → ((j : ℕ) → 0 < q j)
    → Settled find_cell.Kinds.ps find_cell.Kinds.r
    (λ κs a. (j : ℕ) → j < a.1.1.1.1.0 → ladder_in a.1.1.1.0 a.1.0.now j ≡ ladder (p j) (q j) (top j)) find_cell.Reads.Learnt
find-cell-settled p q top pos κs a x y v w is f g = (
  f.0.number ∙ radix-ext (λ i. get_or a.1.1.1.0 i 0) (λ i. get_or v.1.1.0 i 0) (λ i. get_or w.1.1.0 i 0) a.1.1.1.1.0 found ∙ sym g.0.number,
  passed (passed (lent (ext_get_or 0 v.1.1.0 w.1.1.0 (agree f.0.two g.0.two) (λ j _. each j (decide j))) refl)),
)
  where
    found : (j : ℕ) → j < a.1.1.1.1.0 → get_or v.1.1.0 j 0 ≡ get_or w.1.1.0 j 0
    found j l = one_place (p j) (q j) (top j) (pos j) _ (get_or a.0.now j 0) (get_or v.1.1.0 j 0) (get_or w.1.1.0 j 0) (is j l) (f.0.slot j l) (g.0.slot j l)

    decide : (j : ℕ) → (j < a.1.1.1.1.0) ⊎ (a.1.1.1.1.0 ≤ j)
    decide j = lt-or-le j a.1.1.1.1.0

    each : (j : ℕ) → (j < a.1.1.1.1.0) ⊎ (a.1.1.1.1.0 ≤ j) → get_or v.1.1.0 j 0 ≡ get_or w.1.1.0 j 0
    each j (inl l) = found j l
    each j (inr l) = agree (f.1 j l) (g.1 j l)

-- `keep_layer` settles the labels, and of what it notes the filled counts; any range that holds every label that is neither empty nor kept will do
pub keep-layer-settled : SettledIn keep_layer.Kinds.ps keep_layer.Kinds.r (List ℕ) (λ κs a v. v.0) keep_layer.Reads.Asked keep_layer.Reads.Learnt
keep-layer-settled κs a x y v w ok p q = agree p.0 q.0
