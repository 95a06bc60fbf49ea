-- `keep_block`. The loop's invariant: the labels before c are kept and noted (`Along`). Assumes nothing.
use mathlib.Core.Path.{◌≡◌}
use Prim.Native.Nat.{ℕ, ◌+◌, ◌-◌, ◌*◌, ◌<◌}
use mathlib.Core.List.{List, ◌++◌}
use lib.ListN.{length, take, drop, replicate}
use Rattle.words.specs.Pieces.{part}
use Rattle.rounds.specs.Step.{word_of}
use Rattle.keeping.specs.Kept.{KeptIn}
use Rattle.keeping.proofs.Notes.{filled-few}
use Rattle.keeping.proofs.Blocks.{Cleared, none_kept, clear-lent, along-long, Here, here, place-clear, one_label, all-kept}
use native.Mathlib.Omega.{arith}
use Rattle.keeping.proofs.keep_block.Goals as goal
use Rattle.keeping.proofs.keep_block.Goals.{At-loop-c}

-- what `clear` leaves
cleared_by : (xs : List ℕ) (n d prev base : ℕ) (p : KeptIn xs n d prev base) (zs : List ℕ) → zs ≡ replicate (length (part xs base (base + n * (d + 2) - base))) 0
    → Cleared xs n d prev base p (take base xs ++ (zs ++ drop (base + n * (d + 2) - base) (drop base xs)))
cleared_by xs n d prev base p zs e = clear-lent xs n d prev base p zs (base + n * (d + 2) - base) (omega arith) e

-- at the head of the loop
module _ (l : At-loop-c) where
  -- the place of the block was cleared first
  abbrev cleared-words : List ℕ
  cleared-words =
      let a = l.args in
      take a.base a.labels.now ++ (l.clear.new.part ++ drop (a.base + a.n * (a.d + 2) - a.base) (drop a.base a.labels.now))

  cleared : Cleared l.args.labels.now l.args.n l.args.d l.args.prev l.args.base l.requires cleared-words
  cleared =
      let a = l.args in
      let x = l.clear in
      cleared_by a.labels.now a.n a.d a.prev a.base l.requires x.new.part x.ensures

  -- the labels are as many words as they came
  kept : length l.loop-c.labels ≡ length l.args.labels.now
  kept =
      let a = l.args in
      along-long a.labels.now cleared-words a.n a.d a.prev a.base l.requires cleared
      l.loop-c.labels l.loop-c.noted l.loop-c.at l.loop-c.to l.loop-c.c l.loop-c.invariant

  -- in the loop: where label c lies and goes
  known :
      (t : l.loop-c.c < l.args.n) →
      let a = l.args in
      Here a.labels.now cleared-words a.n a.d a.prev a.base l.requires cleared
      l.loop-c.labels l.loop-c.noted l.loop-c.at l.loop-c.to l.loop-c.c l.loop-c.invariant t
  known =
      let a = l.args in
      here a.labels.now cleared-words a.n a.d a.prev a.base l.requires cleared
      l.loop-c.labels l.loop-c.noted l.loop-c.at l.loop-c.to l.loop-c.c l.loop-c.invariant

pub loop-c-init : goal.loop-c-init
loop-c-init c = let a = c.args in none_kept _ a.n a.d a.prev a.base

pub keep-step-requires : goal.keep-step-requires
keep-step-requires c = let a = c.args in
    let l = c.loop-c in
    let t = c.loop-c-test.true in
    let free = place-clear a.labels.now (cleared-words (goal.at.keep-step-requires c).At-loop-c) a.n a.d a.prev a.base c.requires (cleared (goal.at.keep-step-requires c).At-loop-c)
    l.labels l.noted l.at l.to l.c l.invariant t in
    (omega (arith, known (goal.at.keep-step-requires c).At-loop-c t), omega (arith, known (goal.at.keep-step-requires c).At-loop-c t, kept (goal.at.keep-step-requires c).At-loop-c), free)

pub with-noted-requires : goal.with-noted-requires
with-noted-requires c = let l = c.loop-c in
    (filled-few c.args.d _ l.c l.noted l.invariant.noted, omega (arith, c.requires.small))

pub loop-c-preserved : goal.loop-c-preserved
loop-c-preserved c = let a = c.args in
    let l = c.loop-c in
    let y = c.keep-step in
    let z = c.with-noted in
    one_label a.labels.now (cleared-words (goal.at.loop-c-preserved c).At-loop-c) a.n a.d a.prev a.base c.requires (cleared (goal.at.loop-c-preserved c).At-loop-c) l.labels l.noted l.at l.to l.c l.invariant
    c.loop-c-test.true y.new.labels (word_of y.result) z.result y.ensures.labels_after y.ensures.value z.ensures

pub returns : goal.returns
returns c = let a = c.args in
    let l = c.loop-c in
    let e : l.c ≡ a.n = omega (arith, l.invariant.inside) in let whole = all-kept a.labels.now (cleared-words (goal.at.returns c).At-loop-c) a.n a.d a.prev a.base c.requires (cleared (goal.at.returns c).At-loop-c)
    l.labels l.noted l.at l.to l.c l.invariant e in record { labels_after = whole.0; noted = whole.1 }
